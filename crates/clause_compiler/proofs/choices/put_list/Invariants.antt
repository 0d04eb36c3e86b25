use Rattle.std.proofs.Common.{◌≡◌, ◌++◌, take}
use Rattle.clause_code.specs.ClauseChoices.{list_of}
use Rattle.clause_compiler.proofs.choices.put_list.Given as goal

abbrev pub invariant-loop-i : goal.invariant-loop-i
invariant-loop-i l = l.code.items ≡ l.initial.code.items ++ take l.i (list_of l.clauses)
