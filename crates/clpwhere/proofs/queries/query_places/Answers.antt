use Rattle.std.proofs.Common.{◌≡◌, ◌<◌, ◌++◌, ◌∷◌, ◌∙◌, [], ℕ, List, true, false, length, get_or, map, take, sym, ap, rules}
use Rattle.fd_language.specs.PlacedTerm.{place}
use Rattle.term_pool.specs.PlacedTerms.{placed_of}
use Rattle.term_reader.specs.Sentences.{sentence_of}
use Rattle.term_reader.proofs.Lemmas.{place_placed, sentences_more}
use Rattle.clpwhere.specs.Queries.{is_query, query_places}
use Rattle.clpwhere.proofs.QueryPlaces.{places_more, places_same}
use Rattle.clpwhere.proofs.queries.query_places.Goals.{then-is_query+in_ok-push, else-is_query}
use Rattle.clpwhere.proofs.queries.query_places.Goals as goal

pub loop-sentence-preserved : goal.loop-sentence-preserved
loop-sentence-preserved c =
    let s = c.args.sentences.now in
    let i = c.loop-sentence.sentence-index in
    let d = c.sentence-item.result in
    let so_far = map (sentence_of s.pool) (take i s.list.items) in
    let is : d ≡ get_or s.list.items i d = search rules in
    let inside : i < length s.list.items = search rules in
    let more = sentences_more s i d inside is in
    elim c.if-is_query.branch [
      | then-is_query+in_ok-push w ↦
          let query : is_query (placed_of s.pool d.term) ≡ true = sym c.is_query.ensures ∙ w.if-is_query.true in
          let pushed : c.if-is_query.places.items ≡ c.loop-sentence.places.items ++ w.place.result ∷ [] = search rules in
          let at : place (placed_of s.pool d.term) ≡ w.place.result = place_placed s.pool d.term w.place.result w.place.ensures.place in
          pushed ∙ ap (λ (l : List ℕ). l ++ w.place.result ∷ []) c.loop-sentence.invariant ∙ ap (λ (p : ℕ). query_places so_far ++ p ∷ []) (sym at)
          ∙ sym (ap query_places more ∙ places_more so_far (sentence_of s.pool d) query)
      | else-is_query w ↦
          let other : is_query (placed_of s.pool d.term) ≡ false = sym c.is_query.ensures ∙ w.if-is_query.false in
          let same : c.if-is_query.places.items ≡ c.loop-sentence.places.items = search rules in
          same ∙ c.loop-sentence.invariant ∙ sym (ap query_places more ∙ places_same so_far (sentence_of s.pool d) other)
    ]
