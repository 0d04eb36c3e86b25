use Rattle.branch_state.specs.States.{IsSameBelow}
use Rattle.code_safety.specs.Safety.{IsSafe}
use Rattle.code_goals.specs.BestLeaf.{IsLed}
use Rattle.code_goals.proofs.best_leaf.lead.Given as goal

abbrev pub invariant-loop : goal.invariant-loop
invariant-loop g l = IsSafe l.code l.branch l.at 0 l.areas × IsSameBelow l.fn.branch l.branch × IsLed l.code l.fn.branch l.at l.areas l.order l.least l.values l.branch l.counter
