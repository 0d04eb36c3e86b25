use Rattle.std.proofs.Common.{◌≡◌, ◌∷◌, ◌==◌, ℕ, List, [], true, sym, subst, refl, eq-eqb}
use Rattle.std.proofs.lemmas.Bool.{or_left}
use Rattle.fd_language.specs.Family.{has}
use Rattle.fd_language.specs.Range.{Indexical}
use Rattle.range_code.specs.Slots.{slots_of}
use Rattle.branch_state.specs.Constraints.{AreUnbound, variables_in}
use Rattle.branch_state.specs.PostingLists.{LinksMore}
use Rattle.branch_state.proofs.ConstraintLinks.{links_own}
use Rattle.branch_state.proofs.PostingLists.{range_unbound, range_links, range_linked, one_listed, variables_one}
use Rattle.branch_state.proofs.posting_lists.list_range.Goals as goal

pub link-requires : goal.link-requires
link-requires g c =
    let p : Indexical = record { target = c.args.target; range = c.args.range.now } in
    c.requires.unbound p.target (subst (λ xs. has xs p.target ≡ true) (sym (variables_one p)) (or_left (p.target == p.target) (has (slots_of p.range) p.target) (eq-eqb p.target p.target refl)))

pub link_all-requires-clause-unbound : goal.link_all-requires-clause-unbound
link_all-requires-clause-unbound g c =
    let p : Indexical = record { target = c.args.target; range = c.args.range.now } in
    let slots : c.slots.result.now ≡ slots_of p.range = c.slots.ensures p.range c.in_ok-shape.ensures in
    subst (AreUnbound c.link.new.heap.now) (sym slots)
    (range_unbound c.args.heap.now.now c.args.store.now.current.sets c.requires.links p c.link.new.heap.now c.link.new.store.current.sets c.in_ok-link.ensures.linked c.requires.unbound)

pub link_all-requires-clause-links : goal.link_all-requires-clause-links
link_all-requires-clause-links g c =
    links_own c.args.heap.now.now c.args.store.now.current.sets c.requires.links (c.args.target ∷ []) c.link.new.heap.now c.link.new.store.current.sets c.in_ok-link.ensures.linked

pub instance-requires-clause-linked : goal.instance-requires-clause-linked
instance-requires-clause-linked g c =
    let p : Indexical = record { target = c.args.target; range = c.args.range.now } in
    let slots : c.slots.result.now ≡ slots_of p.range = c.slots.ensures p.range c.in_ok-shape.ensures in
    let now = c.link_all.new.heap.now in
    let T = c.link_all.new.store.current.sets in
    let b = subst (λ (xs : List ℕ). LinksMore c.link.new.heap.now c.link.new.store.current.sets xs now T) slots c.in_ok-link_all.ensures.linked in
    let all = range_links c.args.heap.now.now c.args.store.now.current.sets c.requires.links p c.link.new.heap.now c.link.new.store.current.sets c.in_ok-link.ensures.linked now T b in
    range_linked c.args.heap.now.now c.args.store.now.current.sets c.requires.links (variables_in (p ∷ [])) now T all

pub returns-clause-linked : goal.returns-clause-linked
returns-clause-linked g c =
    let p : Indexical = record { target = c.args.target; range = c.args.range.now } in
    let slots : c.slots.result.now ≡ slots_of p.range = c.slots.ensures p.range c.in_ok-shape.ensures in
    let now = c.link_all.new.heap.now in
    let T = c.link_all.new.store.current.sets in
    let b = subst (λ (xs : List ℕ). LinksMore c.link.new.heap.now c.link.new.store.current.sets xs now T) slots c.in_ok-link_all.ensures.linked in
    range_links c.args.heap.now.now c.args.store.now.current.sets c.requires.links p c.link.new.heap.now c.link.new.store.current.sets c.in_ok-link.ensures.linked now T b

pub returns-clause-listed : goal.returns-clause-listed
returns-clause-listed g c =
    let p : Indexical = record { target = c.args.target; range = c.args.range.now } in
    one_listed c.link_all.new.heap.now p p c.args.list.now.items c.push.new.self.items c.in_ok-instance.instance c.in_ok-instance.ensures refl c.in_ok-push.ensures.items
