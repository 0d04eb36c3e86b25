use Rattle.std.proofs.Common.{false}
use Rattle.code_machine.specs.States.{state_of, left, StillRuns}
use Rattle.code_machine.proofs.silent_steps.walk.Given as goal

abbrev pub invariant-walking : goal.invariant-walking
invariant-walking g l = StillRuns (state_of l.code l.initial.branch l.initial.run false) (state_of l.code l.branch l.run false)

abbrev pub decreases-walking : goal.decreases-walking
decreases-walking g l = left (state_of l.code l.branch l.run false)
