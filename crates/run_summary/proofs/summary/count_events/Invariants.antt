use Rattle.std.proofs.Common.{ℕ, List}
use Rattle.fd_model.specs.Goal.{Event}
use Rattle.code_machine.specs.States.{StandsFor, left}
use Rattle.run_summary.proofs.Tallies.{Counted}
use Rattle.run_summary.proofs.summary.count_events.Given as goal

abbrev pub invariant-events : goal.invariant-events
invariant-events g l = (es : List Event) (r : ℕ) → StandsFor l.fn.machine es r → Counted l.machine l.answers es r

abbrev pub decreases-events : goal.decreases-events
decreases-events g l = left l.machine
