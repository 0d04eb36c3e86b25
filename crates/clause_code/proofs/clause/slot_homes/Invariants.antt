use Rattle.clause_code.specs.ClauseParts.{InOrder}
use Rattle.clause_code.proofs.clause.slot_homes.Given as goal

abbrev pub invariant-loop-x : goal.invariant-loop-x
invariant-loop-x l = InOrder l.homes.items l.x
