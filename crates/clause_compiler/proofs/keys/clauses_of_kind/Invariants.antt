use Rattle.std.proofs.Common.{◌≡◌, take}
use Rattle.clause_compiler.specs.Keys.{kind_numbers}
use Rattle.clause_compiler.proofs.keys.clauses_of_kind.Given as goal

abbrev pub invariant-loop-i : goal.invariant-loop-i
invariant-loop-i l = l.own.items ≡ kind_numbers l.program l.kind (take l.i l.clauses)
