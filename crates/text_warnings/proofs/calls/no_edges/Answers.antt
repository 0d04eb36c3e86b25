use Rattle.std.proofs.Common.{List, ℕ, [], ◌∷◌, ◌++◌, Vec, Global, length, map, refl, sym, ap, ◌∙◌, subst, arith, length-append}
use Rattle.std.proofs.lemmas.List.{map_push}
use Rattle.text_warnings.specs.Graphs.{items_of, AreEmpty}
use Rattle.text_warnings.proofs.CallEdges.{empty_push}
use Rattle.text_warnings.proofs.calls.no_edges.Goals as goal

pub loop-number-init : goal.loop-number-init
loop-number-init c = record {
  count = ap (length {A = Vec ℕ Global}) c.in_ok-edges.ensures.items;
  empty = subst AreEmpty (sym (ap (map items_of) c.in_ok-edges.ensures.items)) (λ n. refl);
}

pub loop-number-preserved : goal.loop-number-preserved
loop-number-preserved c =
    let old = c.loop-number.edges.items in
    record {
      count = omega (arith, ap (length {A = Vec ℕ Global}) c.in_ok-push.ensures.items, length-append old (c.new.result ∷ []), c.loop-number.invariant.count);
      empty = subst AreEmpty (sym (ap (map items_of) c.in_ok-push.ensures.items ∙ map_push items_of old c.new.result ∙ ap (λ (l : List ℕ). map items_of old ++ l ∷ []) c.new.ensures.items))
          (empty_push (map items_of old) c.loop-number.invariant.empty);
    }
