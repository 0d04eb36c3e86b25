use Rattle.fd_language.specs.declared.TheConstants.{INFINITY}
use Rattle.std.proofs.Common.{◌≡◌, ◌∙◌, [], ◌∷◌, ◌++◌, ap, sym, subst, List, length, map, get_or, arith, rules, w64, to_z, of_z}
use Rattle.std.proofs.lemmas.Int.{ints, to_z-of_z}
use Rattle.std.proofs.lemmas.Grind.{common_steps}
use Rattle.fd_language.specs.Range.{Indexical}
use Rattle.propagate_queue.specs.declared.instance.Instance.{Instance}
use Rattle.propagate_queue.specs.Instances.{posting}
use Rattle.unify_core.specs.declared.Touch.{Touch}
use Rattle.unify_core.specs.declared.Touch.TheVariants.{Value}
use Rattle.branch_state.specs.Posting.{postings}
use Rattle.branch_state.specs.States.{HasNoModel}
use Rattle.branch_state.proofs.States.{ok_true, if_false_by}
use Rattle.branch_state.proofs.Touches.{posted_is, one_touch, touches_fit, outside_none, value_posted}
use Rattle.branch_state.proofs.posting.post_all.Goals as goal

pub returns-then-not-are_natural-clause-none : goal.returns-then-not-are_natural-clause-none
returns-then-not-are_natural-clause-none g c = outside_none c.args.store.now.current.posted c.args.touches.now (sym c.are_natural.ensures ∙ c.if-not-are_natural.true)

pub post_list-requires : goal.post_list-requires
post_list-requires g c =
    touches_fit (length c.args.store.now.current.sets) c.add_touches.new.list.items c.args.touches.now
    (c.in_ok-add_touches.ensures ∙ ap (λ (l : List Instance). map posting l ++ postings c.args.touches.now) c.in_ok-list.ensures.items) c.requires.touches
    (sym c.are_natural.ensures ∙ c.if-not-are_natural.false)

pub returns-clause-posted : goal.returns-clause-posted
returns-clause-posted g c =
    let listed = c.in_ok-add_touches.ensures ∙ ap (λ (l : List Instance). map posting l ++ postings c.args.touches.now) c.in_ok-list.ensures.items in
    ok_true c.post_list.result _ _ (λ e. e ∙ ap (λ (l : List Indexical). c.args.store.now.current.posted ++ l)
    (posted_is c.add_touches.new.list.items c.args.touches.now listed)) c.post_list.ensures.posted

pub returns-clause-none : goal.returns-clause-none
returns-clause-none g c =
    let listed = c.in_ok-add_touches.ensures ∙ ap (λ (l : List Instance). map posting l ++ postings c.args.touches.now) c.in_ok-list.ensures.items in
    if_false_by c.post_list.result _ _ _ (λ e h. subst (HasNoModel INFINITY)
    (e ∙ ap (λ (l : List Indexical). c.args.store.now.current.posted ++ l) (posted_is c.add_touches.new.list.items c.args.touches.now listed)) h)
    c.post_list.ensures.posted c.post_list.ensures.none

pub returns-in-Value-clause-posted : goal.returns-in-Value-clause-posted
returns-in-Value-clause-posted g c =
    let v : Touch = Value c.in-Value.k c.in-Value.z in
    let at : get_or c.args.touches.now 0 v ≡ v = first_of (search rules, cc, grind (arith, common_steps)) in
    let one : c.args.touches.now ≡ v ∷ [] = one_touch c.args.touches.now v c.in-Value.len_at_least c.in-Value.len_below at in
    let fits : to_z w64 (of_z w64 c.in-Value.z) ≡ c.in-Value.z = first_of (search rules, grind (arith, ints, to_z-of_z), grind (arith, common_steps)) in
    let is = value_posted c.args.codes.now.exact.value c.args.codes.now.exact_is c.args.touches.now c.in-Value.k (to_z w64 (of_z w64 c.in-Value.z)) (one ∙ ap (λ y. Value c.in-Value.k y ∷ []) (sym fits)) in
    ok_true c.post_single.result _ _ (λ e. e ∙ ap (λ (l : List Indexical). c.args.store.now.current.posted ++ l) is) c.post_single.ensures.posted

pub returns-in-Value-clause-none : goal.returns-in-Value-clause-none
returns-in-Value-clause-none g c =
    let v : Touch = Value c.in-Value.k c.in-Value.z in
    let at : get_or c.args.touches.now 0 v ≡ v = first_of (search rules, cc, grind (arith, common_steps)) in
    let one : c.args.touches.now ≡ v ∷ [] = one_touch c.args.touches.now v c.in-Value.len_at_least c.in-Value.len_below at in
    let fits : to_z w64 (of_z w64 c.in-Value.z) ≡ c.in-Value.z = first_of (search rules, grind (arith, ints, to_z-of_z), grind (arith, common_steps)) in
    let is = value_posted c.args.codes.now.exact.value c.args.codes.now.exact_is c.args.touches.now c.in-Value.k (to_z w64 (of_z w64 c.in-Value.z)) (one ∙ ap (λ y. Value c.in-Value.k y ∷ []) (sym fits)) in
    if_false_by c.post_single.result _ _ _ (λ e h. subst (HasNoModel INFINITY) (e ∙ ap (λ (l : List Indexical). c.args.store.now.current.posted ++ l) is) h)
    c.post_single.ensures.posted c.post_single.ensures.none
