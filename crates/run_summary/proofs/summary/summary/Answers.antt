use Rattle.std.proofs.Common.{◌≡◌, ◌∙◌, sym, ap, []}
use Rattle.fd_model.specs.Output.{stop_status}
use Rattle.run_summary.proofs.Tallies.{summary_bytes}
use Rattle.run_summary.proofs.summary.summary.Goals as goal
use Rattle.run_summary.proofs.summary.summary.Goals.{then-tally, else-tally}

pub returns : goal.returns
returns c = λ out st s.
    let tally = c.in_ok-tally.ensures.whole s.prog s.query s.events s.spent s.text s.one s.run in
    let status : c.if-tally.status ≡ stop_status c.in_ok-tally.tally.stopped =
    elim c.if-tally.branch [
      | then-tally w ↦ w.status-is ∙ sym (ap stop_status w.if-tally.true)
      | else-tally w ↦ w.status-is ∙ sym (ap stop_status w.if-tally.false)
    ] in
    (c.in_ok-text.ensures [] ∙ summary_bytes c.args.size s.events s.spent c.in_ok-tally.tally tally ∙ sym s.bytes, status ∙ ap stop_status tally.stopped ∙ sym s.status)
