use Rattle.std.proofs.Common.{◌≡◌, ◌++◌, take, map}
use Rattle.propagate_queue.specs.Instances.{posting}
use Rattle.branch_state.specs.Posting.{postings}
use Rattle.branch_state.proofs.posting.add_touches.Given as goal

abbrev pub invariant-loop-touch : goal.invariant-loop-touch
invariant-loop-touch l = map posting l.list.items ≡ map posting l.fn.list.items ++ postings (take l.touch-index l.touches)
