use Rattle.std.proofs.Common.{◌≡◌, ◌∙◌, ◌++◌, ◌-◌, ap, sym, subst, true, List, length, map, append_assoc, rules}
use Rattle.std.specs.List.{list_all}
use Rattle.std.specs.List.Sorted.{IsPermutation}
use Rattle.fd_language.specs.Range.{Indexical}
use Rattle.propagate_queue.specs.Instances.{posting, posted_by}
use Rattle.branch_meaning.specs.Store.{posts}
use Rattle.branch_lemmas.specs.Frames.{store_touches}
use Rattle.unify_core.specs.declared.Touch.{Touch}
use Rattle.branch_state.specs.Posting.{is_natural, postings}
use Rattle.fd_language.specs.declared.TheConstants.{INFINITY}
use Rattle.branch_state.specs.VariableBounds.{new_bounds}
use Rattle.branch_state.specs.States.{HasNoModel}
use Rattle.branch_state.proofs.VariableBounds.{none_behind}
use Rattle.branch_state.proofs.States.{ok_true, if_false_as}
use Rattle.branch_state.proofs.Touches.{outside_none, rows_posted, rows_fit}
use Rattle.branch_state.proofs.posting.post_rows.Goals as goal

pub returns-then-not-are_natural-clause-none : goal.returns-then-not-are_natural-clause-none
returns-then-not-are_natural-clause-none g c =
    none_behind ((c.args.store.now.current.posted ++ posted_by c.args.listed.list.items) ++ posts (store_touches c.args.listed.fixed.items)) _
    (outside_none (c.args.store.now.current.posted ++ posted_by c.args.listed.list.items) c.args.listed.fixed.items
    (ap (λ (l : List Touch). list_all is_natural l) (sym c.deref.ensures.value) ∙ sym c.are_natural.ensures ∙ c.if-not-are_natural.true))

pub post_bounded-requires-clause-list : goal.post_bounded-requires-clause-list
post_bounded-requires-clause-list g c =
    let natural : list_all is_natural c.args.listed.fixed.items ≡ true = search rules in
    let listed : map posting c.add_touches.new.list.items ≡ map posting c.args.listed.list.items ++ postings c.args.listed.fixed.items = search rules in
    rows_fit (length c.args.store.now.current.sets) c.add_touches.new.list.items c.args.listed.list.items c.args.listed.fixed.items listed c.requires.list c.requires.fixed natural

pub returns-clause-posted : goal.returns-clause-posted
returns-clause-posted g c =
    let listed : map posting c.add_touches.new.list.items ≡ map posting c.args.listed.list.items ++ postings c.args.listed.fixed.items = search rules in
    let is = ap (λ (l : List Indexical). c.args.store.now.current.posted ++ l) (rows_posted c.add_touches.new.list.items c.args.listed.list.items c.args.listed.fixed.items listed)
    ∙ sym (append_assoc c.args.store.now.current.posted (posted_by c.args.listed.list.items) (posts (store_touches c.args.listed.fixed.items))) in
    ok_true c.post_bounded.result _ _ (λ e. subst (λ (l : List Indexical). IsPermutation c.post_bounded.new.store.current.posted
    (l ++ new_bounds c.args.made.infinity c.args.made.first (length c.args.store.now.current.sets - c.args.made.first))) is e) c.post_bounded.ensures.posted

pub returns-clause-none : goal.returns-clause-none
returns-clause-none g c =
    let listed : map posting c.add_touches.new.list.items ≡ map posting c.args.listed.list.items ++ postings c.args.listed.fixed.items = search rules in
    let is = ap (λ (l : List Indexical). c.args.store.now.current.posted ++ l) (rows_posted c.add_touches.new.list.items c.args.listed.list.items c.args.listed.fixed.items listed)
    ∙ sym (append_assoc c.args.store.now.current.posted (posted_by c.args.listed.list.items) (posts (store_touches c.args.listed.fixed.items))) in
    if_false_as c.post_bounded.result _ _ (λ n. subst (λ (l : List Indexical). HasNoModel INFINITY
    (l ++ new_bounds c.args.made.infinity c.args.made.first (length c.args.store.now.current.sets - c.args.made.first))) is n) c.post_bounded.ensures.none
