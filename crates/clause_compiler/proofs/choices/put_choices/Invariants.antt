use Rattle.clause_compiler.specs.Parts.{tables_in}
use Rattle.clause_compiler.specs.Sections.{ArePut, IsChoiceOf, its_entry}
use Rattle.clause_compiler.specs.Switches.{AreKeysIn, AreRising}
use Rattle.clause_compiler.proofs.choices.put_choices.Given as goal

abbrev pub invariant-loop-n : goal.invariant-loop-n
invariant-loop-n l = ArePut (its_entry l.predicates) (IsChoiceOf l.program (tables_in l.tables) l.predicates) l.n l.initial.code.items l.code.items
    l.entries.items × AreKeysIn l.program (tables_in l.tables) × AreRising (tables_in l.tables)
