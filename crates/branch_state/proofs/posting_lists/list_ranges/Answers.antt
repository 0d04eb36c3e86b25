use Rattle.std.proofs.Common.{◌∙◌, ℕ, ap, refl, sym, subst, List}
use Rattle.fd_language.specs.Range.{Range}
use Rattle.constraint_expand.specs.Posts.{indexicals}
use Rattle.branch_state.specs.Constraints.{AreUnbound, variables_in}
use Rattle.branch_state.specs.PostingLists.{AreListed, LinksMore}
use Rattle.fd_model.specs.Levels.{Levels}
use Rattle.branch_state.specs.StoreVariables.{with_level_sets}
use Rattle.branch_state.proofs.ConstraintLinks.{links_own}
use Rattle.branch_state.proofs.PostingLists.{none_given, given_unbound, given_more, given_named, given_same}
use Rattle.branch_state.proofs.posting_lists.list_ranges.Goals as goal

pub loop-list-init : goal.loop-list-init
loop-list-init g c = record {
  store = refl;
  below = refl;
  equated = refl;
  given = none_given c.args.heap.now.now c.args.store.now.current.sets c.args.expansion.now.ranges c.new-list.result.items c.new-list.ensures.items;
}

pub list_piece-requires-clause-unbound : goal.list_piece-requires-clause-unbound
list_piece-requires-clause-unbound g c =
    let p = rw c.in-Some.is at c.in_ok-piece.ensures.piece in
    subst (λ (l : List (ℕ × Range)). AreUnbound c.loop-list.heap.now (variables_in (indexicals l))) (sym c.deref.ensures.value)
    (given_unbound c.args.heap.now.now c.args.store.now.current.sets c.requires.links c.args.expansion.now.ranges c.loop-list.expansion.ranges
    c.loop-list.heap.now c.loop-list.store.current.sets c.loop-list.list.items c.loop-list.invariant.given
    c.next_piece.new.self.ranges c.in-Some.piece.items p c.requires.unbound)

pub list_piece-requires-clause-links : goal.list_piece-requires-clause-links
list_piece-requires-clause-links g c =
    links_own c.args.heap.now.now c.args.store.now.current.sets c.requires.links _ c.loop-list.heap.now c.loop-list.store.current.sets c.loop-list.invariant.given.linked

pub loop-list-preserved : goal.loop-list-preserved
loop-list-preserved g c =
    let p = rw c.in-Some.is at c.in_ok-piece.ensures.piece in
    let links = links_own c.args.heap.now.now c.args.store.now.current.sets c.requires.links _ c.loop-list.heap.now c.loop-list.store.current.sets c.loop-list.invariant.given.linked in
    let now = c.list_piece.new.heap.now in
    let T = c.list_piece.new.store.current.sets in
    let b = subst (λ (l : List (ℕ × Range)). LinksMore c.loop-list.heap.now c.loop-list.store.current.sets (variables_in (indexicals l)) now T)
    c.deref.ensures.value c.in_ok-list_piece.ensures.linked in
    let y = subst (λ (l : List (ℕ × Range)). AreListed now (indexicals l) c.loop-list.list.items c.list_piece.new.list.items)
    c.deref.ensures.value c.in_ok-list_piece.ensures.listed in
    record {
      store = c.in_ok-list_piece.ensures.store ∙ ap (λ (l : Levels). with_level_sets l T) c.loop-list.invariant.store;
      below = c.list_piece.ensures.below ∙ c.loop-list.invariant.below;
      equated = c.next_piece.ensures.rest.equated ∙ c.loop-list.invariant.equated;
      given = given_more c.args.heap.now.now c.args.store.now.current.sets c.requires.links c.args.expansion.now.ranges c.loop-list.expansion.ranges
          c.loop-list.heap.now c.loop-list.store.current.sets c.loop-list.list.items c.loop-list.invariant.given
          c.next_piece.new.self.ranges c.in-Some.piece.items p links now T b c.list_piece.new.list.items y;
    }

pub loop-list-smaller : goal.loop-list-smaller
loop-list-smaller g c = (rw c.in-Some.is at c.in_ok-piece.ensures.piece).some

pub returns-clause-linked : goal.returns-clause-linked
returns-clause-linked g c =
    let p = rw c.in_default.is at c.in_ok-piece.ensures.piece in
    given_named c.args.heap.now.now c.args.store.now.current.sets c.requires.links c.args.expansion.now.ranges c.loop-list.expansion.ranges
    c.loop-list.heap.now c.loop-list.store.current.sets c.loop-list.list.items c.loop-list.invariant.given p.0

pub returns-clause-listed : goal.returns-clause-listed
returns-clause-listed g c =
    let p = rw c.in_default.is at c.in_ok-piece.ensures.piece in
    given_same c.args.heap.now.now c.args.store.now.current.sets c.requires.links c.args.expansion.now.ranges c.loop-list.expansion.ranges
    c.loop-list.heap.now c.loop-list.store.current.sets c.loop-list.list.items c.loop-list.invariant.given p.0
