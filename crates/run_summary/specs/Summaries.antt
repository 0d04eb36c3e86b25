-- How the run of a generated text went.
use Rattle.std.specs.Prelude.{◌≡◌, ℕ, List, []}
use Rattle.fd_model.specs.Generator.{count_answers, last_event}
use Rattle.fd_model.specs.Goal.{Event, End}
use Rattle.fd_model.specs.Output.{is_stop}
use Rattle.machine_events.specs.Events.{event_of}
use Rattle.run_summary.specs.declared.summary.Tally.{Tally}

-- of the run with these events, which spends r reductions
pub record IsTally (es : List Event) (r : ℕ) (t : Tally) : Type 0 where
  pub answers : t.answers ≡ count_answers es
  pub spent : t.spent ≡ r
  pub stopped : t.stopped ≡ is_stop es
  pub last : event_of [] t.last ≡ last_event End es
