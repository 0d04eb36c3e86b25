use Rattle.code_machine.specs.declared.run.Stage.TheVariants.{Going}
use Rattle.code_machine.specs.States.{state_at, left, StillRuns}
use Rattle.code_machine.proofs.silent_steps.walk_from.Given as goal

abbrev pub invariant-going : goal.invariant-going
invariant-going g l = StillRuns (state_at l.code l.initial.branch l.initial.run (Going l.from)) (state_at l.code l.branch l.run (Going l.at))

abbrev pub decreases-going : goal.decreases-going
decreases-going g l = left (state_at l.code l.branch l.run (Going l.at))
