use Rattle.std.proofs.Common.{◌≡◌, ◌<◌, ◌≤◌, ℕ, List, None, length, map, take, get_or, refl, sym, ap, ◌∙◌, subst}
use Rattle.std.proofs.lemmas.List.{take_all}
use Rattle.std.proofs.lemmas.Result.{err_from_is_err_and}
use Rattle.fd_language.specs.declared.TheConstants.{INFINITY}
use Rattle.fd_model.specs.Refusals.{first_refusal}
use Rattle.term_reader.specs.Sentences.{IsSentence}
use Rattle.clause_check.specs.Parts.{KeepsSentences}
use Rattle.clause_check.specs.Terms.{terms_of}
use Rattle.term_reader.specs.declared.reader.Sentence.{Sentence}
use Rattle.clause_check.proofs.SentenceLists.{term_in, refused_at_sentence, accepted_more}
use Rattle.clause_check.proofs.KeptParts.{stands_more}
use Rattle.clause_check.proofs.check.Parts.add_sentences.Goals as goal

-- the sentence in hand is the list's at its place
at_place : (xs ys : List Sentence) (i : ℕ) (item : Sentence) → ys ≡ xs → i < length ys → item ≡ get_or ys i item → (i < length xs) × (item ≡ get_or xs i item)
at_place xs ys i item e h is = (subst (λ (zs : List Sentence). i < length zs) e h, is ∙ ap (λ (zs : List Sentence). get_or zs i item) e)

-- behind the last of them all are done
all_done : (xs ys : List Sentence) (i : ℕ) → ys ≡ xs → length ys ≤ i → take i xs ≡ xs
all_done xs ys i e h = take_all i xs (subst (λ (zs : List Sentence). length zs ≤ i) e h)

pub returns-clause-accepted : goal.returns-clause-accepted
returns-clause-accepted c =
    let s = c.args.sentences.now in
    let all = all_done s.list.items _ c.loop-sentence.sentence-index c.deref-sentence-items.ensures.value c.loop-sentence-test.false in
    subst (λ (xs : List Sentence). first_refusal INFINITY c.args.infinity (terms_of s) (map (term_in s) xs) ≡ None) all c.loop-sentence.invariant.accepted

pub returns-clause-stands : goal.returns-clause-stands
returns-clause-stands c =
    let s = c.args.sentences.now in
    let all = all_done s.list.items _ c.loop-sentence.sentence-index c.deref-sentence-items.ensures.value c.loop-sentence-test.false in
    subst (KeepsSentences c.args.infinity s.pool c.loop-sentence.self) all c.loop-sentence.invariant.stands

pub add_sentence-requires-clause-sentence : goal.add_sentence-requires-clause-sentence
add_sentence-requires-clause-sentence c =
    let s = c.args.sentences.now in
    let i = c.loop-sentence.sentence-index in
    let item = c.sentence-item.result in
    let at = at_place s.list.items _ i item c.deref-sentence-items.ensures.value c.loop-sentence-test.true c.sentence-item.is in
    subst (IsSentence s.pool) (sym at.1) (c.requires.own.list i item at.0)

pub add_sentence-requires-clause-store : goal.add_sentence-requires-clause-store
add_sentence-requires-clause-store c = c.loop-sentence.invariant.stands.store

pub returns-in_err-add_sentence-clause-fault : goal.returns-in_err-add_sentence-clause-fault
returns-in_err-add_sentence-clause-fault c =
    let s = c.args.sentences.now in
    let i = c.loop-sentence.sentence-index in
    let item = c.sentence-item.result in
    let at = at_place s.list.items _ i item c.deref-sentence-items.ensures.value c.loop-sentence-test.true c.sentence-item.is in
    let p = err_from_is_err_and c.from_residual.result c.from_residual.ensures.1 in
    rw (p.1, p.2) (refused_at_sentence c.args.infinity s i item c.in_err-add_sentence.field-0.0 at.0 at.1 c.loop-sentence.invariant.accepted c.in_err-add_sentence.ensures.fault)

pub loop-sentence-init : goal.loop-sentence-init
loop-sentence-init c = record { accepted = refl; stands = c.requires.nothing }

pub loop-sentence-preserved : goal.loop-sentence-preserved
loop-sentence-preserved c =
    let s = c.args.sentences.now in
    let i = c.loop-sentence.sentence-index in
    let item = c.sentence-item.result in
    let at = at_place s.list.items _ i item c.deref-sentence-items.ensures.value c.loop-sentence-test.true c.sentence-item.is in
    let added = c.in_ok-add_sentence.ensures.added in
    record {
      accepted = accepted_more c.args.infinity s i item at.0 at.1 c.loop-sentence.invariant.accepted added.accepted;
      stands = stands_more c.args.infinity s c.loop-sentence.self c.add_sentence.new.self i item at.0 at.1 c.loop-sentence.invariant.stands added;
    }
