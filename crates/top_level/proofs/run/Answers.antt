use Rattle.std.proofs.Common.{refl, map, string_bytes}
use Rattle.command_words.specs.Words.{asked, options_of}
use Rattle.text_output.proofs.Lemmas.{without_memory}
use Rattle.top_level.proofs.Endings.{with_refused, with_summary, words_short, source_words, not_both}
use Rattle.top_level.proofs.run.Goals as goal

pub returns-in-Some-clause-headline : goal.returns-in-Some-clause-headline
returns-in-Some-clause-headline g c =
    with_summary (map string_bytes c.args.words.now) (asked c.in-Ok.options) c.in-Some.size _ _ _ _ c.put_summary.result c.in-Ok.ensures.accepted c.in-Some.is refl refl
    c.put_summary.ensures.output c.put_summary.ensures.pieces

pub returns-in-None-clause-headline : goal.returns-in-None-clause-headline
returns-in-None-clause-headline g c = c.answer_source.ensures (map string_bytes c.args.words.now) c.in-Ok.ensures.accepted

pub returns-in-None-clause-untouched : goal.returns-in-None-clause-untouched
returns-in-None-clause-untouched g c = λ unread.
    let words = map string_bytes c.args.words.now in
    not_both (options_of words) (source_words (options_of words) (asked c.in-Ok.options) c.in-Ok.ensures.accepted c.in-None.is) unread

pub returns-in-Err-Usage-clause-headline : goal.returns-in-Err-Usage-clause-headline
returns-in-Err-Usage-clause-headline g c =
    with_refused (map string_bytes c.args.words.now) _ _ _ _ c.put_last.result (c.in-Err-Usage.ensures.refused c.in-Err-Usage.field-0-is) refl refl
    (without_memory _ _ _ _ _ c.put_last.ensures.ending) c.put_last.ensures.pieces

pub returns-in-Err-NoMemory-clause-headline : goal.returns-in-Err-NoMemory-clause-headline
returns-in-Err-NoMemory-clause-headline g c = words_short (map string_bytes c.args.words.now) _ _
