use Rattle.std.proofs.Common.{◌≡◌, ℕ, ◌∙◌, ◌-◌, ◌++◌, List, ap, length, map, arith}
use Rattle.std.proofs.lemmas.List.Sorted.{All-permutation}
use Rattle.std.proofs.lemmas.Result.{on_ok_weaker}
use Rattle.fd_language.specs.declared.TheConstants.{INFINITY}
use Rattle.propagate_queue.specs.Instances.{posting, IsInstance}
use Rattle.propagate_queue.specs.Postings.{Posting}
use Rattle.branch_state.specs.VariableBounds.{new_postings}
use Rattle.branch_state.proofs.States.{if_false_by}
use Rattle.branch_state.proofs.Touches.{listed_more}
use Rattle.branch_state.proofs.VariableBounds.{bounded_fit, bounded_posted, none_permuted, turned_list, turned_posted}
use Rattle.branch_state.proofs.posting.post_bounded.Goals as goal

counted : (now list : List Posting) (N first n m : ℕ) → now ≡ list ++ new_postings N first (n - first) → n ≡ m → now ≡ list ++ new_postings N first (m - first)
counted now list N first n m e f = e ∙ ap (λ i. list ++ new_postings N first (i - first)) f

pub rotate_left-requires : goal.rotate_left-requires
rotate_left-requires g c =
    let more = listed_more c.add_new_bounds.new.list.items c.args.list.items _ c.in_ok-add_new_bounds.ensures in
    omega (arith, more, c.requires.late, c.add_new_bounds.new.list.ok.0)

pub post_list-requires : goal.post_list-requires
post_list-requires g c =
    All-permutation (IsInstance (length c.args.store.now.current.sets)) c.add_new_bounds.new.list.items c.rotate_left.new.self.items
    (turned_list c.args.late c.add_new_bounds.new.list.items c.rotate_left.new.self.items c.rotate_left.ensures.items)
    (bounded_fit (length c.args.store.now.current.sets) c.add_new_bounds.new.list.items c.args.list.items c.args.made.infinity c.args.made.first
    (counted (map posting c.add_new_bounds.new.list.items) (map posting c.args.list.items) c.args.made.infinity c.args.made.first c.vars.result
    (length c.args.store.now.current.sets) c.in_ok-add_new_bounds.ensures c.vars.ensures)
    c.requires.list c.requires.greatest)

pub returns-clause-posted : goal.returns-clause-posted
returns-clause-posted g c =
    let all = bounded_posted c.add_new_bounds.new.list.items c.args.list.items c.args.made.infinity c.args.made.first
    (length c.args.store.now.current.sets - c.args.made.first)
    (counted (map posting c.add_new_bounds.new.list.items) (map posting c.args.list.items) c.args.made.infinity c.args.made.first c.vars.result
    (length c.args.store.now.current.sets) c.in_ok-add_new_bounds.ensures c.vars.ensures)
    c.args.store.now.current.posted in
    on_ok_weaker c.post_list.result (λ e. turned_posted c.add_new_bounds.new.list.items c.rotate_left.new.self.items
    (turned_list c.args.late c.add_new_bounds.new.list.items c.rotate_left.new.self.items c.rotate_left.ensures.items)
    c.args.store.now.current.posted c.post_list.new.store.current.posted _ e all) c.post_list.ensures.posted

pub returns-clause-none : goal.returns-clause-none
returns-clause-none g c =
    let all = bounded_posted c.add_new_bounds.new.list.items c.args.list.items c.args.made.infinity c.args.made.first
    (length c.args.store.now.current.sets - c.args.made.first)
    (counted (map posting c.add_new_bounds.new.list.items) (map posting c.args.list.items) c.args.made.infinity c.args.made.first c.vars.result
    (length c.args.store.now.current.sets) c.in_ok-add_new_bounds.ensures c.vars.ensures)
    c.args.store.now.current.posted in
    if_false_by c.post_list.result _ _ _ (λ e h. none_permuted INFINITY c.post_list.new.store.current.posted _
    (turned_posted c.add_new_bounds.new.list.items c.rotate_left.new.self.items
    (turned_list c.args.late c.add_new_bounds.new.list.items c.rotate_left.new.self.items c.rotate_left.ensures.items) c.args.store.now.current.posted
    c.post_list.new.store.current.posted _ e all) h) c.post_list.ensures.posted c.post_list.ensures.none
