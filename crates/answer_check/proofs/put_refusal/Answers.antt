use Rattle.std.proofs.Common.{rules, ◌≡◌, ℕ, List, subst}
use Rattle.fd_model.specs.Output.{refusal}
use Rattle.byte_ports.specs.Ends.{sink_at}
use Rattle.answer_check.specs.declared.outcome.CheckStatus.TheVariants as status
use Rattle.answer_check.specs.Headline.{Ending}
use Rattle.answer_check.specs.Refusals.{reason_text}
use Rattle.answer_check.proofs.put_refusal.Goals as goal

pub returns-in-Ok : goal.returns-in-Ok
returns-in-Ok g c =
    let e : c.as_bytes.result.now ≡ refusal c.args.place (reason_text c.args.reason) = search rules in
    subst (λ (t : List ℕ). Ending (sink_at (g.K.Sink.written c.args.sink.now) (g.K.Sink.faults c.args.sink.now))
    (sink_at (g.K.Sink.written c.put_last.new.sink) (g.K.Sink.faults c.put_last.new.sink)) c.put_last.result status.Refused t) e c.put_last.ensures.ending
