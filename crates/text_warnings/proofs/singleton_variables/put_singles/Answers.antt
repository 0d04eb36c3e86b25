use Rattle.std.proofs.Common.{◌≡◌, ◌<◌, ◌+◌, ◌++◌, List, get_or, length, sym, ap, ◌∙◌, subst, take, map}
use Rattle.term_reader.specs.declared.reader.Sentence.{Sentence}
use Rattle.term_reader.specs.Sentences.{sentence_of}
use Rattle.text_warnings.specs.Warnings as model
use Rattle.text_warnings.specs.Warnings.{singles, singles_in}
use Rattle.text_warnings.specs.WarningViews.{Adds}
use Rattle.text_warnings.proofs.AddedWarnings.{adds_then, flat_map_push}
use Rattle.term_reader.proofs.Lemmas.{sentences_more}
use Rattle.text_warnings.proofs.singleton_variables.put_singles.Goals as goal

pub loop-sentence-preserved : goal.loop-sentence-preserved
loop-sentence-preserved c =
    let s = c.args.sentences.now in
    let i = c.loop-sentence.sentence-index in
    let item = c.sentence-item.result in
    let value = c.deref-sentence-items.ensures.value in
    let within : i < length s.list.items = subst (λ (xs : List Sentence). i < length xs) value c.loop-sentence-test.true in
    let is : item ≡ get_or s.list.items i item = c.sentence-item.is ∙ ap (λ (xs : List Sentence). get_or xs i item) value in
    let before = map (sentence_of s.pool) (take i s.list.items) in
    let more : singles (map (sentence_of s.pool) (take (i + 1) s.list.items)) ≡ singles before ++ singles_in (sentence_of s.pool item) =
    ap singles (sentences_more s i item within is) ∙ flat_map_push singles_in before (sentence_of s.pool item) in
    subst (λ (l : List model.Warning). Adds s.pool l c.args.warnings.now.items c.put_singles_of.new.warnings.items) (sym more)
    (adds_then s.pool (singles before) (singles_in (sentence_of s.pool item)) c.args.warnings.now.items c.loop-sentence.warnings.items c.put_singles_of.new.warnings.items
    c.loop-sentence.invariant c.in_ok-put_singles_of.ensures)
