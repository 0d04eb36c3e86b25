use Rattle.std.proofs.Common.{map}
use Rattle.clause_compiler.specs.Sections.{ArePut, IsListIn, its_row}
use Rattle.clause_compiler.proofs.choices.put_rows.Given as goal

abbrev pub invariant-loop-i : goal.invariant-loop-i
invariant-loop-i l = ArePut (its_row l.keys) (IsListIn (map (λ g. g.items) l.lists)) l.i l.initial.code.items l.code.items l.rows.items
