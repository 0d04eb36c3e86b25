use Rattle.std.proofs.Common.{refl, ap, subst, sym, Err}
use Rattle.byte_ports.specs.Ports.{Took}
use Rattle.command_words.specs.Words.{asked}
use Rattle.top_level.proofs.Endings.{with_read, with_large, with_fault, with_memory, verdict_outputs, verdicts_pieces, large_verdicts}
use Rattle.byte_ports.proofs.Lemmas.{stays}
use Rattle.top_level.proofs.answer_source.Goals as goal

pub returns-in-Ok : goal.returns-in-Ok
returns-in-Ok g c = λ words some.
    let text = c.deref.result.now in
    let took = subst (Took (g.S.Source.left c.args.source.now) (g.S.Source.left c.read_text.new.src)) (sym c.deref.ensures.value) c.in-Ok.ensures.ok in
    with_read words (asked c.args.options) _ _ _ _ c.answer.result text some c.requires.size took c.in-Ok.ensures.end
    (stays (g.S.Source.faults c.args.source.now) (g.S.Source.faults c.read_text.new.src) c.in-Ok.ensures.later (λ l. let e = c.in-Ok.ensures.told l in cc (e)))
    (λ out st o. c.answer.ensures.output out st (verdict_outputs words c.args.options text c.judge_text-verdict.result out st some c.requires.size c.judge_text-verdict.ensures o))
    (λ ps p. c.answer.ensures.pieces ps (verdicts_pieces words c.args.options text c.judge_text-verdict.result ps some c.requires.size c.judge_text-verdict.ensures p))

pub returns-in-Err-TooLarge : goal.returns-in-Err-TooLarge
returns-in-Err-TooLarge g c = λ words some.
    with_large words (asked c.args.options) _ _ _ _ c.answer-in-Err-TooLarge.result some c.requires.size (c.in-Err-TooLarge.ensures.large (ap Err c.in-Err-TooLarge.field-0-is))
    (stays (g.S.Source.faults c.args.source.now) (g.S.Source.faults c.read_text.new.src) c.in-Err-TooLarge.ensures.later
    (λ l. let e = c.in-Err-TooLarge.ensures.told l in let f = c.in-Err-TooLarge.field-0-is in cc (e, f)))
    (λ text long out st o. c.answer-in-Err-TooLarge.ensures.output out st
    (verdict_outputs words c.args.options text c.refused.result out st some c.requires.size
    (large_verdicts c.args.options.infinity text c.refused.result long c.refused.ensures) o))
    (λ text long ps p. c.answer-in-Err-TooLarge.ensures.pieces ps
    (verdicts_pieces words c.args.options text c.refused.result ps some c.requires.size
    (large_verdicts c.args.options.infinity text c.refused.result long c.refused.ensures) p))

pub returns-in-Err-NoMemory : goal.returns-in-Err-NoMemory
returns-in-Err-NoMemory g c = λ words some.
    with_memory words (asked c.args.options) _ _ _ some c.requires.size refl (c.in-Err-NoMemory.ensures.memory (ap Err c.in-Err-NoMemory.field-0-is))
    (stays (g.S.Source.faults c.args.source.now) (g.S.Source.faults c.read_text.new.src) c.in-Err-NoMemory.ensures.later
    (λ l. let e = c.in-Err-NoMemory.ensures.told l in let f = c.in-Err-NoMemory.field-0-is in cc (e, f)))

pub returns-in-Err-ReadFault : goal.returns-in-Err-ReadFault
returns-in-Err-ReadFault g c = λ words some.
    with_fault words (asked c.args.options) _ _ _ some c.requires.size refl (c.in-Err-ReadFault.ensures.fault (ap Err c.in-Err-ReadFault.field-0-is))
    (c.in-Err-ReadFault.ensures.cause (ap Err c.in-Err-ReadFault.field-0-is)) c.in-Err-ReadFault.ensures.later
