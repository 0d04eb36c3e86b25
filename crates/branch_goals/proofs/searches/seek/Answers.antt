use Rattle.std.proofs.Common.{◌≡◌, ℕ, ◌-◌, ◌++◌, length, Some, None, ap, sym, ◌∙◌, subst, arith}
use Rattle.fd_language.specs.declared.TheConstants.{INFINITY}
use Rattle.fd_language.specs.Monotonicity.{IsMonotone}
use Rattle.fd_model.specs.BestPosted.{IsCostOf, SoughtValues}
use Rattle.fd_model.specs.ClosedFamilies.{AllPosted}
use Rattle.fd_model.specs.Levels.{Levels}
use Rattle.bound_search.specs.Members.{AreOwn, member_of, members_of}
use Rattle.branch_state.specs.VariableBounds.{new_bounds}
use Rattle.branch_state.specs.States.{State}
use Rattle.branch_goals.specs.Searches.{firsts, IsPrepared, IsSought}
use Rattle.branch_goals.proofs.ListNodes.{is_list_naming, list_naming}
use Rattle.branch_goals.proofs.BestLeafSearch.{as_many, match_none, match_some, open_is, prepared_cost, prepared_more, prepared_own, sought_is}
use Rattle.branch_goals.proofs.searches.seek.Goals as goal

counted : (next vars : ℕ) (s : State) (ls : Levels) → vars ≡ length ls.current.sets → ls ≡ s.levels → next - vars ≡ next - length s.levels.current.sets
counted next vars s ls e f = ap (λ n. next - n) (e ∙ ap (λ (l : Levels). length l.current.sets) f)

pub returns-in-Err-clause-found : goal.returns-in-Err-clause-found
returns-in-Err-clause-found g c = λ name names. subst (IsPrepared name c.args.branch.now c.args.list c.args.cost) c.in-Err.is (c.in_ok-prepared.ensures name names)

pub overflow_sub-added : goal.overflow_sub-added
overflow_sub-added g c =
    let p = subst (IsPrepared list_naming c.args.branch.now c.args.list c.args.cost) c.in-Ok.is (c.in_ok-prepared.ensures list_naming is_list_naming) in
    omega (
      arith,
      prepared_more list_naming c.args.branch.now c.requires.sound c.args.list c.args.cost c.in-Ok.prepared p,
      c.vars.ensures,
      ap (λ (l : Levels). length l.current.sets) c.store-store.ensures,
    )

pub best_leaf-requires-clause-list : goal.best_leaf-requires-clause-list
best_leaf-requires-clause-list g c =
    let p = subst (IsPrepared list_naming c.args.branch.now c.args.list c.args.cost) c.in-Ok.is (c.in_ok-prepared.ensures list_naming is_list_naming) in
    let vars : c.vars.result ≡ length c.args.branch.now.levels.current.sets = c.vars.ensures ∙ ap (λ (l : Levels). length l.current.sets) c.store-store.ensures in
    subst (AreOwn _) (sym c.deref.ensures.value)
    (prepared_own list_naming c.args.branch.now c.requires.sound c.args.list c.args.cost c.in-Ok.prepared p (c.in-Ok.prepared.named.next - c.vars.result)
    (ap (λ n. c.in-Ok.prepared.named.next - n) vars))

pub best_leaf-requires-clause-cost : goal.best_leaf-requires-clause-cost
best_leaf-requires-clause-cost g c =
    let p = subst (IsPrepared list_naming c.args.branch.now c.args.list c.args.cost) c.in-Ok.is (c.in_ok-prepared.ensures list_naming is_list_naming) in
    subst (λ ms. IsCostOf (members_of ms) (member_of c.in-Ok.prepared.cost)) (sym c.deref.ensures.value)
    (prepared_cost list_naming c.args.branch.now c.requires.sound c.args.list c.args.cost c.in-Ok.prepared p)

pub with_values-requires : goal.with_values-requires
with_values-requires g c =
    let p = subst (IsPrepared list_naming c.args.branch.now c.args.list c.args.cost) c.in-Ok.is (c.in_ok-prepared.ensures list_naming is_list_naming) in
    let found = match_some c.in_ok-values.field-0 c.in-Some.values _ _ c.in-Some.is c.in_ok-values.ensures.found in
    ap length c.deref-in-Some.ensures.value
    ∙ as_many list_naming c.args.branch.now c.requires.sound c.args.list c.args.cost c.in-Ok.prepared p c.args.order c.args.least _ c.in-Some.values.items
    (subst (λ ms. SoughtValues INFINITY c.args.order (members_of ms) (member_of c.in-Ok.prepared.cost) c.args.least
    (c.args.branch.now.levels.current.posted ++ new_bounds c.args.branch.now.infinity (length c.args.branch.now.levels.current.sets)
    (c.in-Ok.prepared.named.next - c.vars.result)) (Some c.in-Some.values.items)) c.deref.ensures.value found)
    ∙ sym (ap length c.deref-in-Some-2.ensures.value)

pub returns-in-Some-clause-found : goal.returns-in-Some-clause-found
returns-in-Some-clause-found g c = λ name names.
    let p = subst (IsPrepared name c.args.branch.now c.args.list c.args.cost) c.in-Ok.is (c.in_ok-prepared.ensures name names) in
    let found = match_some c.in_ok-values.field-0 c.in-Some.values _ _ c.in-Some.is c.in_ok-values.ensures.found in
    let mono = subst (λ (l : Levels). AllPosted (λ q. IsMonotone INFINITY q.range) l.current.posted) c.store-store.ensures c.known.ensures.monotone in
    let values = c.in_ok-with_values-in-Some.ensures.seconds ∙ c.deref-in-Some-2.ensures.value in (
      p.0,
      c.in_ok-with_values-in-Some.ensures.firsts ∙ ap firsts c.deref-in-Some.ensures.value ∙ open_is name c.args.branch.now c.requires.sound c.args.list c.args.cost c.in-Ok.prepared p,
      subst (λ ns. IsSought name c.args.branch.now c.args.order c.args.least c.args.list c.args.cost p.0 (Some ns)) (sym values)
          (sought_is name c.args.branch.now c.requires.sound c.args.list c.args.cost c.in-Ok.prepared p (c.in-Ok.prepared.named.next - c.vars.result)
          (counted c.in-Ok.prepared.named.next c.vars.result c.args.branch.now c.store-store.result.now c.vars.ensures c.store-store.ensures) mono
          c.args.order c.args.least (Some c.in-Some.values.items)
          (subst (λ ms. SoughtValues INFINITY c.args.order (members_of ms) (member_of c.in-Ok.prepared.cost) c.args.least
          (c.args.branch.now.levels.current.posted ++ new_bounds c.args.branch.now.infinity (length c.args.branch.now.levels.current.sets)
          (c.in-Ok.prepared.named.next - c.vars.result)) (Some c.in-Some.values.items)) c.deref.ensures.value found)),
    )

pub returns-clause-found : goal.returns-clause-found
returns-clause-found g c = λ name names.
    let p = subst (IsPrepared name c.args.branch.now c.args.list c.args.cost) c.in-Ok.is (c.in_ok-prepared.ensures name names) in
    let found = match_none c.in_ok-values.field-0 _ _ c.in-None.is c.in_ok-values.ensures.found in
    let mono = subst (λ (l : Levels). AllPosted (λ q. IsMonotone INFINITY q.range) l.current.posted) c.store-store.ensures c.known.ensures.monotone in (
      p.0,
      sought_is name c.args.branch.now c.requires.sound c.args.list c.args.cost c.in-Ok.prepared p (c.in-Ok.prepared.named.next - c.vars.result)
          (counted c.in-Ok.prepared.named.next c.vars.result c.args.branch.now c.store-store.result.now c.vars.ensures c.store-store.ensures) mono c.args.order
          c.args.least None
          (subst (λ ms. SoughtValues INFINITY c.args.order (members_of ms) (member_of c.in-Ok.prepared.cost) c.args.least
          (c.args.branch.now.levels.current.posted ++ new_bounds c.args.branch.now.infinity (length c.args.branch.now.levels.current.sets)
          (c.in-Ok.prepared.named.next - c.vars.result)) None) c.deref.ensures.value found),
    )
