use Rattle.std.proofs.Common.{◌≡◌, ◌<◌, ◌+◌, ◌++◌, List, get_or, length, sym, ap, ◌∙◌, subst, take, map}
use Rattle.term_reader.specs.declared.reader.Sentence.{Sentence}
use Rattle.term_reader.specs.Sentences.{sentence_of}
use Rattle.text_warnings.specs.Warnings as model
use Rattle.fd_model.specs.Refusals.{form_of}
use Rattle.fd_language.specs.Reading as reading
use Rattle.text_warnings.specs.SilentLosses.{losses, losses_by}
use Rattle.text_warnings.specs.WarningViews.{Adds}
use Rattle.text_warnings.proofs.AddedWarnings.{adds_then, flat_map_push}
use Rattle.term_reader.proofs.Lemmas.{sentences_more}
use Rattle.text_warnings.proofs.losses.put_losses.Goals as goal

pub loop-sentence-preserved : goal.loop-sentence-preserved
loop-sentence-preserved c =
    let s = c.args.sentences.now in
    let i = c.loop-sentence.sentence-index in
    let each : reading.Sentence → List model.Warning = λ s. losses_by (form_of s.term) in
    let item = c.sentence-item.result in
    let value = c.deref-sentence-items.ensures.value in
    let within : i < length s.list.items = subst (λ (xs : List Sentence). i < length xs) value c.loop-sentence-test.true in
    let is : item ≡ get_or s.list.items i item = c.sentence-item.is ∙ ap (λ (xs : List Sentence). get_or xs i item) value in
    let before = map (sentence_of s.pool) (take i s.list.items) in
    let more : losses (map (sentence_of s.pool) (take (i + 1) s.list.items)) ≡ losses before ++ each (sentence_of s.pool item) =
    ap losses (sentences_more s i item within is) ∙ flat_map_push each before (sentence_of s.pool item) in
    subst (λ (l : List model.Warning). Adds s.pool l c.args.warnings.now.items c.put_losses_of.new.warnings.items) (sym more)
    (adds_then s.pool (losses before) (each (sentence_of s.pool item)) c.args.warnings.now.items c.loop-sentence.warnings.items c.put_losses_of.new.warnings.items
    c.loop-sentence.invariant c.in_ok-put_losses_of.ensures)
