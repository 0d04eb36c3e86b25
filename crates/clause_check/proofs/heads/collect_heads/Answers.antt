use Rattle.std.proofs.Common.{◌≡◌, ◌<◌, ◌+◌, ◌++◌, [], ◌∷◌, List, length, get_or, refl, sym, ap, ◌∙◌, subst}
use Rattle.fd_language.specs.PlacedTerm.{PlacedTerm}
use Rattle.term_reader.specs.declared.reader.Sentence.{Sentence}
use Rattle.indexmap.specs.IndexSet.{insert_key}
use Rattle.clause_check.specs.Heads.{same_numbers, AreHeadsOf}
use Rattle.clause_check.proofs.HeadSets.{heads_same, heads_more}
use Rattle.clause_check.proofs.SentenceLists.{front, front_more, term_in}
use Rattle.clause_check.proofs.heads.collect_heads.Goals as goal
use Rattle.clause_check.proofs.heads.collect_heads.Goals.{in-Some+in_ok-insert, in_default}

pub loop-sentence-preserved : goal.loop-sentence-preserved
loop-sentence-preserved c =
    let s = c.args.sentences.now in
    let i = c.loop-sentence.sentence-index in
    let item = c.sentence-item.result in
    let old = c.loop-sentence.heads.keys in
    let new = c.match-head_functor.heads.keys in
    let value = c.deref-sentence-items.ensures.value in
    let within : i < length s.list.items = subst (λ (xs : List Sentence). i < length xs) value c.loop-sentence-test.true in
    let is : item ≡ get_or s.list.items i item = c.sentence-item.is ∙ ap (λ (xs : List Sentence). get_or xs i item) value in
    let more : front s (i + 1) ≡ front s i ++ term_in s item ∷ [] = front_more s i item within is in
    subst (λ (terms : List PlacedTerm). AreHeadsOf s.pool terms new) (sym more)
    (elim c.match-head_functor.branch [
      | in-Some+in_ok-insert w ↦
          let keys : new ≡ insert_key same_numbers old w.in-Some.functor = rw w.heads-is w.in_ok-insert.ensures.keys in
          subst (AreHeadsOf s.pool (front s i ++ term_in s item ∷ [])) (sym keys)
          (heads_more s.pool (front s i) old (term_in s item) c.loop-sentence.invariant c.requires.own.pool w.in-Some.functor w.in-Some.ensures)
      | in_default w ↦
          let keys : new ≡ old = rw w.heads-is refl in
          subst (AreHeadsOf s.pool (front s i ++ term_in s item ∷ [])) (sym keys) (heads_same s.pool (front s i) old (term_in s item) c.loop-sentence.invariant w.in_default.ensures)
    ])
