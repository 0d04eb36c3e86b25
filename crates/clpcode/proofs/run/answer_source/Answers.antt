use Rattle.std.proofs.Common.{refl, ap, subst, sym, Err}
use Rattle.fd_model.specs.Output.{refusal}
use Rattle.fd_model.specs.Verdict.{max_text}
use Rattle.std.proofs.Common.{codes}
use Rattle.fd_model.specs.declared.Status.TheVariants.{Refused}
use Rattle.byte_ports.specs.Ports.{Took}
use Rattle.byte_ports.specs.Ends.{Ends, ends}
use Rattle.byte_ports.proofs.Lemmas.{stays}
use Rattle.clpcode.proofs.Texts.{text_read, text_large}
use Rattle.byte_ports.proofs.Lemmas.{just_front, within_front}
use Rattle.clpcode.proofs.Endings.{with_read, with_answer, with_short, with_fault}
use Rattle.clpcode.proofs.Listings.{large, large_output}
use Rattle.clpcode.proofs.run.answer_source.Goals as goal

pub returns-in-Ok : goal.returns-in-Ok
returns-in-Ok g c = λ words asks.
    let text = c.deref.result.now in
    let took = subst (Took (g.S.Source.left c.args.source.now) (g.S.Source.left c.read_text.new.src)) (sym c.deref.ensures.value) c.in-Ok.ensures.ok in
    let kept = stays (g.S.Source.faults c.args.source.now) (g.S.Source.faults c.read_text.new.src) c.in-Ok.ensures.later (λ l. let e = c.in-Ok.ensures.told l in cc (e)) in
    let old : Ends = ends (g.S.Source.left c.args.source.now) (g.K.Sink.written c.args.sink.now) (g.S.Source.faults c.args.source.now) (g.K.Sink.faults c.args.sink.now) in
    let new : Ends = ends (g.S.Source.left c.read_text.new.src) (g.K.Sink.written c.answer_text.new.sink) (g.S.Source.faults c.read_text.new.src) (g.K.Sink.faults c.answer_text.new.sink) in
    with_read words c.args.task asks old new c.answer_text.result (text, took) text (text_read old new text took c.in-Ok.ensures.end) kept c.answer_text.ensures

pub returns-in-Err-TooLarge : goal.returns-in-Err-TooLarge
returns-in-Err-TooLarge g c = λ words asks.
    let just = c.in-Err-TooLarge.ensures.large (ap Err c.in-Err-TooLarge.field-0-is) in
    let kept = stays (g.S.Source.faults c.args.source.now) (g.S.Source.faults c.read_text.new.src) c.in-Err-TooLarge.ensures.later
    (λ l. let e = c.in-Err-TooLarge.ensures.told l in let f = c.in-Err-TooLarge.field-0-is in cc (e, f)) in
    let old : Ends = ends (g.S.Source.left c.args.source.now) (g.K.Sink.written c.args.sink.now) (g.S.Source.faults c.args.source.now) (g.K.Sink.faults c.args.sink.now) in
    let new : Ends = ends (g.S.Source.left c.read_text.new.src) (g.K.Sink.written c.answer.new.sink) (g.S.Source.faults c.read_text.new.src) (g.K.Sink.faults c.answer.new.sink) in
    let text = text_large old new just in
    with_answer words c.args.task asks old new c.answer.result (just_front _ _ _ just) text.0 text.1 kept
    (large c.args.task _ c.answer.result text.0 text.2 (c.answer.ensures.output (refusal max_text (codes "too large")) Refused (large_output c.refused.result c.refused.ensures)))

pub returns-in-Err-NoMemory : goal.returns-in-Err-NoMemory
returns-in-Err-NoMemory g c = λ words asks.
    with_short words c.args.task asks _ _ _ (within_front _ _ _ (c.in-Err-NoMemory.ensures.memory (ap Err c.in-Err-NoMemory.field-0-is)))
    (stays (g.S.Source.faults c.args.source.now) (g.S.Source.faults c.read_text.new.src) c.in-Err-NoMemory.ensures.later
    (λ l. let e = c.in-Err-NoMemory.ensures.told l in let f = c.in-Err-NoMemory.field-0-is in cc (e, f))) (refl, refl)

pub returns-in-Err-ReadFault : goal.returns-in-Err-ReadFault
returns-in-Err-ReadFault g c = λ words asks.
    with_fault words c.args.task asks _ _ (within_front _ _ _ (c.in-Err-ReadFault.ensures.fault (ap Err c.in-Err-ReadFault.field-0-is))) refl
    (c.in-Err-ReadFault.ensures.cause (ap Err c.in-Err-ReadFault.field-0-is)) c.in-Err-ReadFault.ensures.later
