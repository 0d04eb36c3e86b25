use Rattle.std.proofs.Common.{◌<◌, length, sym, subst}
use Rattle.fd_model.specs.Levels.{Levels}
use Rattle.bound_search.proofs.PickedMembers.{open_own}
use Rattle.bound_search.proofs.SearchSteps.{on_ok, advance_closes, advance_tries, advance_tries_work, advance_passes, advance_passes_work}
use Rattle.bound_search.proofs.search.advance.Goals as goal

pub next_value-requires-clause-variable : goal.next_value-requires-clause-variable
next_value-requires-clause-variable g c = open_own (length c.args.store.now.current.sets) c.args.list.now c.args.node.variable c.requires.wanted.list c.requires.node.member

pub post_value-requires-clause-variable : goal.post_value-requires-clause-variable
post_value-requires-clause-variable g c =
    subst (λ (s : Levels). c.args.node.variable < length s.current.sets) (sym c.in_ok-push_mark-in-Some.ensures.marked)
    (open_own (length c.args.store.now.current.sets) c.args.list.now c.args.node.variable c.requires.wanted.list c.requires.node.member)

pub returns-in-None-clause-continues : goal.returns-in-None-clause-continues
returns-in-None-clause-continues g c =
    advance_closes c.args.list.now c.args.aim c.args.store.now c.args.nodes.now.items c.args.node c.args.best.now c.requires.wanted.member c.pop_mark.new.self
    c.pop_mark.ensures.levels c.in-None.ensures.none

pub returns-then-branch-clause-continues : goal.returns-then-branch-clause-continues
returns-then-branch-clause-continues g c =
    on_ok c.look.result _ _
    (advance_tries c.args.list.now c.args.aim c.args.store.now c.args.nodes.now.items c.args.node c.args.best.now c.requires.wanted.member c.in-Some.value
    c.in-Some.ensures.some c.push.new.self.items c.in_ok-push-in-Some.ensures.items c.push_mark.new.self c.in_ok-push_mark-in-Some.ensures.marked
    c.post_value.new.store c.in_ok-post_value-in-Some.ensures.posted c.post_value.ensures.below _
    (c.in_ok-post_value-in-Some.ensures.kept c.if-branch.true))
    c.look.ensures.continues

pub returns-then-branch-clause-work : goal.returns-then-branch-clause-work
returns-then-branch-clause-work g c =
    on_ok c.look.result _ _
    (advance_tries_work c.args.list.now c.args.aim c.args.store.now c.args.nodes.now.items c.args.node c.args.best.now c.requires.wanted.member c.in-Some.value
    c.in-Some.ensures.some c.push.new.self.items c.in_ok-push-in-Some.ensures.items c.push_mark.new.self c.in_ok-push_mark-in-Some.ensures.marked
    c.post_value.new.store c.in_ok-post_value-in-Some.ensures.posted c.post_value.ensures.below _ c.requires.node
    (c.in_ok-post_value-in-Some.ensures.kept c.if-branch.true))
    c.look.ensures.work

pub returns-else-branch-clause-continues : goal.returns-else-branch-clause-continues
returns-else-branch-clause-continues g c =
    advance_passes c.args.list.now c.args.aim c.args.store.now c.args.nodes.now.items c.args.node c.args.best.now c.requires.wanted.member c.in-Some.value
    c.in-Some.ensures.some c.push.new.self.items c.in_ok-push-in-Some.ensures.items c.push_mark.new.self c.in_ok-push_mark-in-Some.ensures.marked
    c.post_value.new.store c.in_ok-post_value-in-Some.ensures.posted c.post_value.ensures.below c.pop_mark-else-branch.new.self
    c.pop_mark-else-branch.ensures.levels
    (c.in_ok-post_value-in-Some.ensures.failed c.if-branch.false)

pub returns-else-branch-clause-work : goal.returns-else-branch-clause-work
returns-else-branch-clause-work g c =
    advance_passes_work c.args.list.now c.args.aim c.args.store.now c.args.nodes.now.items c.args.node c.args.best.now c.requires.wanted.member c.in-Some.value
    c.in-Some.ensures.some c.push.new.self.items c.in_ok-push-in-Some.ensures.items c.push_mark.new.self c.in_ok-push_mark-in-Some.ensures.marked
    c.post_value.new.store c.in_ok-post_value-in-Some.ensures.posted c.post_value.ensures.below c.pop_mark-else-branch.new.self
    c.pop_mark-else-branch.ensures.levels
