use Rattle.std.proofs.Common.{◌∙◌, ◌-◌, ◌++◌, List, length, map, ap, sym, subst}
use Rattle.std.proofs.lemmas.List.Elements.{All-nil}
use Rattle.std.proofs.lemmas.Result.{on_ok_weaker}
use Rattle.std.specs.Prelude.{All}
use Rattle.propagate_queue.specs.declared.instance.Instance.{Instance}
use Rattle.propagate_queue.specs.Instances.{posting, posted_by, IsInstance}
use Rattle.branch_state.specs.VariableBounds.{new_bounds, new_postings}
use Rattle.branch_state.proofs.OpenSets.{open_posted, open_vars}
use Rattle.branch_state.proofs.States.{if_true}
use Rattle.branch_state.proofs.VariableBounds.{bounded_fit, bounded_posted}
use Rattle.branch_state.proofs.open_vars.add_bounded.Goals as goal

pub post_list-requires : goal.post_list-requires
post_list-requires g c =
    let N = c.args.infinity in
    let first = c.vars.result in
    let vars = length c.add_open.new.store.current.sets in
    let none : All (IsInstance vars) c.new-list.result.items = subst (All (IsInstance vars)) (sym c.new-list.ensures.items) (All-nil (IsInstance vars)) in
    bounded_fit vars c.add_new_bounds.new.list.items c.new-list.result.items N first
    (c.in_ok-add_new_bounds.ensures ∙ ap (λ n. map posting c.new-list.result.items ++ new_postings N first (n - first)) c.vars-2.ensures) none c.requires

pub returns-clause-posted : goal.returns-clause-posted
returns-clause-posted g c =
    let N = c.args.infinity in
    let first = c.vars.result in
    let mid = c.add_open.new.store in
    let vars = length mid.current.sets in
    let all = bounded_posted c.add_new_bounds.new.list.items c.new-list.result.items N first (vars - first)
    (c.in_ok-add_new_bounds.ensures ∙ ap (λ n. map posting c.new-list.result.items ++ new_postings N first (n - first)) c.vars-2.ensures) mid.current.posted in
    on_ok_weaker c.post_list.result (λ e. open_posted c.args.store.now mid c.args.count c.in_ok-add_open.ensures c.post_list.new.store N first c.vars.ensures
    (e ∙ all ∙ ap (λ (is : List Instance). (mid.current.posted ++ posted_by is) ++ new_bounds N first (vars - first)) c.new-list.ensures.items))
    c.post_list.ensures.posted

pub returns-clause-kept : goal.returns-clause-kept
returns-clause-kept g c = if_true c.post_list.result _ _ (λ k. k.0) c.post_list.ensures.kept

pub returns-clause-vars : goal.returns-clause-vars
returns-clause-vars g c = on_ok_weaker c.post_list.result (λ e. e ∙ open_vars c.args.store.now c.add_open.new.store c.args.count c.in_ok-add_open.ensures) c.post_list.ensures.vars
