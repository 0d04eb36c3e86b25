use Rattle.std.proofs.Common.{◌≡◌, ◌∙◌, ◌∷◌, [], ap, refl, sym, subst, get_or, rules}
use Rattle.fd_language.specs.Range.{Indexical}
use Rattle.fd_model.specs.Levels.{Levels}
use Rattle.branch_state.specs.Constraints.{AreUnbound, variables_in}
use Rattle.branch_state.specs.PostingLists.{AreListed, LinksMore}
use Rattle.branch_state.specs.StoreVariables.{with_level_sets}
use Rattle.branch_state.proofs.ConstraintLinks.{links_none, links_own}
use Rattle.branch_state.proofs.ConstraintSteps.{of_pair}
use Rattle.branch_state.proofs.PostingLists.{none_listed, piece_unbound, piece_links, piece_listed}
use Rattle.branch_state.proofs.posting_lists.list_piece.Goals as goal

pub loop-range-init : goal.loop-range-init
loop-range-init g c = record {
  store = refl;
  below = refl;
  linked = links_none c.args.heap.now.now c.args.store.now.current.sets;
  listed = none_listed c.args.heap.now.now c.args.list.now.items;
}

pub list_range-requires-clause-unbound : goal.list_range-requires-clause-unbound
list_range-requires-clause-unbound g c =
    let is : of_pair c.range-item.result ≡ of_pair (get_or c.args.piece.now c.loop-range.range-index c.range-item.result) = search rules in
    subst (λ (p : Indexical). AreUnbound c.loop-range.heap.now (variables_in (p ∷ []))) (sym is)
    (piece_unbound c.args.heap.now.now c.args.store.now.current.sets c.requires.links c.args.piece.now c.loop-range.range-index c.range-item.result
    c.loop-range-test.true c.loop-range.heap.now c.loop-range.store.current.sets c.loop-range.invariant.linked c.requires.unbound)

pub list_range-requires-clause-links : goal.list_range-requires-clause-links
list_range-requires-clause-links g c = links_own c.args.heap.now.now c.args.store.now.current.sets c.requires.links _ c.loop-range.heap.now
    c.loop-range.store.current.sets c.loop-range.invariant.linked

pub loop-range-preserved : goal.loop-range-preserved
loop-range-preserved g c =
    let is : of_pair c.range-item.result ≡ of_pair (get_or c.args.piece.now c.loop-range.range-index c.range-item.result) = search rules in
    let h = c.args.heap.now.now in
    let sets = c.args.store.now.current.sets in
    let middle = c.loop-range.heap.now in
    let S = c.loop-range.store.current.sets in
    let now = c.list_range.new.heap.now in
    let T = c.list_range.new.store.current.sets in
    let b = subst (λ (p : Indexical). LinksMore middle S (variables_in (p ∷ [])) now T) is c.in_ok-list_range.ensures.linked in
    let y = subst (λ (p : Indexical). AreListed now (p ∷ []) c.loop-range.list.items c.list_range.new.list.items) is c.in_ok-list_range.ensures.listed in
    record {
      store = c.in_ok-list_range.ensures.store ∙ ap (λ (l : Levels). with_level_sets l T) c.loop-range.invariant.store;
      below = c.list_range.ensures.below ∙ c.loop-range.invariant.below;
      linked = piece_links h sets c.requires.links c.args.piece.now c.loop-range.range-index c.range-item.result c.loop-range-test.true middle S c.loop-range.invariant.linked now T b;
      listed = piece_listed h sets c.requires.links c.args.piece.now c.loop-range.range-index c.range-item.result c.loop-range-test.true middle S c.loop-range.invariant.linked now T b
          (links_own h sets c.requires.links _ middle S c.loop-range.invariant.linked) c.args.list.now.items c.loop-range.list.items
          c.list_range.new.list.items c.loop-range.invariant.listed y;
    }
