use Rattle.std.proofs.Common.{◌≡◌, ◌<◌, ℕ, List, Vec, Global, length, map, sym, ap, ◌∙◌, subst}
use Rattle.std.specs.List.{flat_map}
use Rattle.std.proofs.lemmas.List.{length-map}
use Rattle.std.proofs.lemmas.List.Elements.{recursion_from_All}
use Rattle.fd_model.specs.Refusals as refusals
use Rattle.term_pool.specs.declared.TermId.{TermId}
use Rattle.term_pool.specs.PlacedTerms.{placed_of}
use Rattle.term_reader.specs.Sentences.{sentences_of}
use Rattle.text_warnings.specs.declared.terms.Functor.{Functor}
use Rattle.text_warnings.specs.Clauses.{calls_of, query_calls}
use Rattle.text_warnings.specs.Graphs.{items_of, numbers_in, leads_to, AreBelow, AreLed}
use Rattle.text_warnings.specs.WarningViews.{IsOwn}
use Rattle.text_warnings.proofs.ReachedPredicates.{numbers_below, all_below}
use Rattle.text_warnings.proofs.WarningOrder.{on_ok}
use Rattle.text_warnings.proofs.WarningViews.{names_of}
use Rattle.text_warnings.proofs.unreached_predicates.reach_all.Goals as goal

pub reach-requires : goal.reach-requires
reach-requires c =
    let pool = c.args.sentences.now.pool in
    let keys = c.args.functors.now.keys in
    let ks = c.args.clauses.now in
    let vs = c.in_ok-edges.edges.items in
    let f : TermId → List refusals.Functor = λ b. calls_of (placed_of pool b) in
    let named = names_of pool ks (recursion_from_All (IsOwn pool) ks c.requires.clauses) in
    let keys_named = recursion_from_All (λ (g : Functor). g.name.number < length pool.names) keys c.requires.names in
    let long : length c.deref-3.result.now ≡ length keys = ap (length {A = Vec ℕ Global}) c.deref-3.ensures.value ∙ sym (length-map vs items_of) ∙ c.in_ok-edges.ensures.count in
    record {
      none = c.requires.none;
      starts = subst (λ (m : ℕ). AreBelow m c.deref-2.result.now) (sym long)
          (subst (AreBelow (length keys)) (sym (c.deref-2.ensures.value ∙ c.in_ok-starts.ensures)) (numbers_below pool keys (flat_map f c.deref.result.now)));
      edges = λ n.
          subst (λ (m : ℕ). AreBelow m (leads_to (map items_of c.deref-3.result.now) n)) (sym long)
          (subst (λ (us : List (Vec ℕ Global)). AreBelow (length keys) (leads_to (map items_of us) n)) (sym c.deref-3.ensures.value)
          (all_below pool keys c.requires.own.pool keys_named ks (map items_of vs) c.in_ok-edges.ensures named n));
    }

pub returns : goal.returns
returns c =
    let s = c.args.sentences.now in
    let pool = s.pool in
    let keys = c.args.functors.now.keys in
    let vs = c.in_ok-edges.edges.items in
    let ns = c.reach.new.reached.keys in
    let f : TermId → List refusals.Functor = λ b. calls_of (placed_of pool b) in
    let starts : c.deref-2.result.now ≡ numbers_in pool keys (query_calls (sentences_of s)) =
    c.deref-2.ensures.value ∙ c.in_ok-starts.ensures ∙ ap (λ (bs : List TermId). numbers_in pool keys (flat_map f bs)) c.deref.ensures.value ∙ ap (numbers_in pool keys) c.in_ok-bodies.ensures.kept in
    on_ok c.reach.result
    (λ (led : AreLed c.deref-2.result.now (map items_of c.deref-3.result.now) ns).
    record {
      edges = map items_of vs;
      lead = c.in_ok-edges.ensures;
      led = subst (λ (st : List ℕ). AreLed st (map items_of vs) ns) starts
          (subst (λ (us : List (Vec ℕ Global)). AreLed c.deref-2.result.now (map items_of us) ns) c.deref-3.ensures.value led);
    })
    c.reach.ensures
