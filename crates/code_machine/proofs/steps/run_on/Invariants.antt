use Rattle.std.proofs.Common.{false}
use Rattle.code_machine.specs.States.{state_of, left, StillRuns}
use Rattle.code_machine.proofs.steps.run_on.Given as goal

abbrev pub invariant-going : goal.invariant-going
invariant-going g l = StillRuns (state_of l.code l.initial.branch l.initial.run false) (state_of l.code l.branch l.run false)

abbrev pub decreases-going : goal.decreases-going
decreases-going g l = left (state_of l.code l.branch l.run false)
