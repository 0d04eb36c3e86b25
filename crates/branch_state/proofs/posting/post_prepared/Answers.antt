use Rattle.std.proofs.Common.{◌≡◌, ◌∙◌, ◌∷◌, ◌++◌, ◌-◌, ap, sym, subst, List, length, map, arith, rules}
use Rattle.std.proofs.lemmas.Bool.Decides.{nat_tests}
use Rattle.std.proofs.lemmas.Grind.{common_steps}
use Rattle.std.proofs.lemmas.List.{nil_from_length}
use Rattle.std.specs.List.{list_all}
use Rattle.std.specs.List.Sorted.{IsPermutation}
use Rattle.fd_language.specs.Range.{Indexical}
use Rattle.range_code.specs.declared.frame.Arg.{Arg}
use Rattle.propagate_queue.specs.Instances.{posting}
use Rattle.propagate_queue.specs.Postings.{Posting}
use Rattle.unify_core.specs.declared.Touch.{Touch}
use Rattle.branch_state.specs.Posting.{is_natural, postings}
use Rattle.fd_language.specs.declared.TheConstants.{INFINITY}
use Rattle.branch_state.specs.VariableBounds.{new_bounds}
use Rattle.branch_state.specs.StoreVariables.{goal_ranges}
use Rattle.branch_state.specs.States.{HasNoModel}
use Rattle.branch_state.proofs.VariableBounds.{none_behind, permuted_by, single_posted}
use Rattle.branch_state.proofs.States.{ok_true, if_false_as, if_false_by}
use Rattle.branch_state.proofs.Touches.{goal_listed, goal_posted, goal_fits, goal_outside}
use Rattle.branch_state.proofs.posting.post_prepared.Goals as goal

pub returns-then-not-are_natural-clause-none : goal.returns-then-not-are_natural-clause-none
returns-then-not-are_natural-clause-none g c =
    none_behind (c.args.store.now.current.posted ++ goal_ranges c.args.code.now.value c.args.prepared.target c.args.prepared.args.items c.args.prepared.fixed.items) _
    (goal_outside c.args.store.now.current.posted c.args.code.now.value c.args.prepared.target c.args.prepared.args.items c.args.prepared.fixed.items
    (ap (λ (l : List Touch). list_all is_natural l) (sym c.deref-2.ensures.value) ∙ sym c.are_natural.ensures ∙ c.if-not-are_natural.true))

pub post_bounded-requires-clause-list : goal.post_bounded-requires-clause-list
post_bounded-requires-clause-list g c =
    let first : Posting = record { range = c.args.code.now.value; target = c.args.prepared.target; args = c.args.prepared.args.items } in
    let listed : map posting c.add_touches.new.list.items ≡ first ∷ postings c.args.prepared.fixed.items = search rules in
    goal_fits (length c.args.store.now.current.sets) c.add_touches.new.list.items c.args.code.now.value c.args.prepared.target c.args.prepared.args.items
    c.args.prepared.fixed.items listed c.requires.target c.requires.frame c.requires.fixed
    (ap (λ (l : List Touch). list_all is_natural l) (sym c.deref-2.ensures.value) ∙ sym c.are_natural.ensures ∙ c.if-not-are_natural.false)

pub post_bounded-requires-clause-late : goal.post_bounded-requires-clause-late
post_bounded-requires-clause-late g c =
    let first : Posting = record { range = c.args.code.now.value; target = c.args.prepared.target; args = c.args.prepared.args.items } in
    let listed : map posting c.add_touches.new.list.items ≡ first ∷ postings c.args.prepared.fixed.items = search rules in
    goal_listed c.add_touches.new.list.items first c.args.prepared.fixed.items listed

pub returns-clause-posted : goal.returns-clause-posted
returns-clause-posted g c =
    let first : Posting = record { range = c.args.code.now.value; target = c.args.prepared.target; args = c.args.prepared.args.items } in
    let listed : map posting c.add_touches.new.list.items ≡ first ∷ postings c.args.prepared.fixed.items = search rules in
    ok_true c.post_bounded.result _ _ (λ e. subst (λ (l : List Indexical). IsPermutation c.post_bounded.new.store.current.posted
    ((c.args.store.now.current.posted ++ l)
    ++ new_bounds c.args.made.infinity c.args.made.first (length c.args.store.now.current.sets - c.args.made.first)))
    (goal_posted c.add_touches.new.list.items c.args.code.now.value c.args.prepared.target c.args.prepared.args.items c.args.prepared.fixed.items listed) e)
    c.post_bounded.ensures.posted

pub returns-clause-none : goal.returns-clause-none
returns-clause-none g c =
    let first : Posting = record { range = c.args.code.now.value; target = c.args.prepared.target; args = c.args.prepared.args.items } in
    let listed : map posting c.add_touches.new.list.items ≡ first ∷ postings c.args.prepared.fixed.items = search rules in
    if_false_as c.post_bounded.result _ _ (λ h. subst (λ (l : List Indexical). HasNoModel INFINITY
    ((c.args.store.now.current.posted ++ l)
    ++ new_bounds c.args.made.infinity c.args.made.first (length c.args.store.now.current.sets - c.args.made.first)))
    (goal_posted c.add_touches.new.list.items c.args.code.now.value c.args.prepared.target c.args.prepared.args.items c.args.prepared.fixed.items listed) h)
    c.post_bounded.ensures.none

pub returns-then-made-eq-INFINITY-clause-posted : goal.returns-then-made-eq-INFINITY-clause-posted
returns-then-made-eq-INFINITY-clause-posted g c =
    let all : c.args.made.infinity ≡ INFINITY = first_of (search rules, grind (arith, nat_tests), grind (arith, common_steps)) in
    let none : length c.args.prepared.fixed.items ≡ 0 = first_of (search rules, grind (arith, nat_tests, c.args.prepared.fixed.ok.0), grind (arith, common_steps)) in
    ok_true c.post_single.result _ _
    (λ e. permuted_by c.post_single.new.store.current.posted _
    (e ∙ single_posted c.args.made.infinity c.args.made.first (length c.args.store.now.current.sets - c.args.made.first) all c.args.prepared.fixed.items
    (nil_from_length c.args.prepared.fixed.items none) c.args.store.now.current.posted c.args.code.now.value c.args.prepared.target c.deref.result.now
    ∙ ap (λ (as' : List Arg). (c.args.store.now.current.posted ++ goal_ranges c.args.code.now.value c.args.prepared.target as' c.args.prepared.fixed.items)
    ++ new_bounds c.args.made.infinity c.args.made.first (length c.args.store.now.current.sets - c.args.made.first)) c.deref.ensures.value))
    c.post_single.ensures.posted

pub returns-then-made-eq-INFINITY-clause-none : goal.returns-then-made-eq-INFINITY-clause-none
returns-then-made-eq-INFINITY-clause-none g c =
    let all : c.args.made.infinity ≡ INFINITY = first_of (search rules, grind (arith, nat_tests), grind (arith, common_steps)) in
    let none : length c.args.prepared.fixed.items ≡ 0 = first_of (search rules, grind (arith, nat_tests, c.args.prepared.fixed.ok.0), grind (arith, common_steps)) in
    if_false_by c.post_single.result _ _ _
    (λ e h. subst (HasNoModel INFINITY)
    (e ∙ single_posted c.args.made.infinity c.args.made.first (length c.args.store.now.current.sets - c.args.made.first) all c.args.prepared.fixed.items
    (nil_from_length c.args.prepared.fixed.items none) c.args.store.now.current.posted c.args.code.now.value c.args.prepared.target c.deref.result.now
    ∙ ap (λ (as' : List Arg). (c.args.store.now.current.posted ++ goal_ranges c.args.code.now.value c.args.prepared.target as' c.args.prepared.fixed.items)
    ++ new_bounds c.args.made.infinity c.args.made.first (length c.args.store.now.current.sets - c.args.made.first)) c.deref.ensures.value)
    h) c.post_single.ensures.posted c.post_single.ensures.none
