use Rattle.std.proofs.Common.{get_or}
use Rattle.monotone_check.specs.NodeWalk.{IsWalked}
use Rattle.monotone_check.proofs.node_walk.summarize.Given as goal

abbrev pub invariant-loop-number : goal.invariant-loop-number
invariant-loop-number l = IsWalked (λ n. get_or l.places n 0) l.number l.nodes l.pending
