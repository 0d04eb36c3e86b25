use Rattle.std.proofs.Common.{refl, map, string_bytes, ap, Err}
use Rattle.byte_ports.proofs.Lemmas.{stays}
use Rattle.answer_check.proofs.Endings.{with_words, with_read, with_large, no_words, some_words}
use Rattle.answer_check.proofs.Lists.{no_items, some_items}
use Rattle.answer_check.proofs.WholeInputs.{can_tell}
use Rattle.answer_check.proofs.check_answers.Goals as goal

pub returns-then-not-is_empty-clause-headline : goal.returns-then-not-is_empty-clause-headline
returns-then-not-is_empty-clause-headline g c = with_words (map string_bytes c.args.words.now) _ _ c.put_last.result
    (some_words string_bytes c.args.words.now (some_items c.args.words.now c.is_empty.result c.is_empty.ensures c.if-not-is_empty.true)) refl refl
    c.put_last.ensures.ending

pub returns-in-Ok-clause-headline : goal.returns-in-Ok-clause-headline
returns-in-Ok-clause-headline g c =
    with_read (map string_bytes c.args.words.now) _ _ c.put_checked.result c.in-Ok.input.items
    (no_words string_bytes c.args.words.now (no_items c.args.words.now c.is_empty.result c.is_empty.ensures c.if-not-is_empty.false)) c.in-Ok.ensures.ok
    c.in-Ok.ensures.end
    (stays (g.S.Source.faults c.args.source.now) (g.S.Source.faults c.read_text.new.src) c.in-Ok.ensures.later (λ l. let e = c.in-Ok.ensures.told l in cc (e)))
    (c.put_checked.ensures c.in-Ok.input.items c.read_input.ensures)

pub returns-in-Err-TooLarge-clause-headline : goal.returns-in-Err-TooLarge-clause-headline
returns-in-Err-TooLarge-clause-headline g c =
    with_large (map string_bytes c.args.words.now) _ _ c.put_refusal.result
    (no_words string_bytes c.args.words.now (no_items c.args.words.now c.is_empty.result c.is_empty.ensures c.if-not-is_empty.false))
    (c.in-Err-TooLarge.ensures.large (ap Err c.in-Err-TooLarge.field-0-is))
    (stays (g.S.Source.faults c.args.source.now) (g.S.Source.faults c.read_text.new.src) c.in-Err-TooLarge.ensures.later
    (λ l. let e = c.in-Err-TooLarge.ensures.told l in let f = c.in-Err-TooLarge.field-0-is in cc (e, f)))
    c.put_refusal.ensures

pub put_checked-requires : goal.put_checked-requires
put_checked-requires g c = can_tell c.in-Ok.input.items c.read_input.result c.read_input.ensures
