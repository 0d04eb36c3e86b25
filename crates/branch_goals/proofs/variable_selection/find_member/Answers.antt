use Rattle.std.proofs.Common.{rules}
use Rattle.branch_goals.proofs.ListNodes.{is_list_naming, list_naming, walk_falls}
use Rattle.branch_goals.proofs.VariableSelection.{one_there, taking_start, taking_more, taking_end, taking_broken, taking_bad}
use Rattle.branch_goals.proofs.variable_selection.find_member.Goals as goal

pub walking-init : goal.walking-init
walking-init g c = λ name names. taking_start c.args.infinity name c.args.heap.now.now (g.V.View.sets c.args.view.now) c.args.order c.args.list c.requires.own

pub node_at-requires-clause-own : goal.node_at-requires-clause-own
node_at-requires-clause-own g c = (c.walking.invariant list_naming is_list_naming).walked.own

pub member_at-requires-clause-own : goal.member_at-requires-clause-own
member_at-requires-clause-own g c = (c.in-Pair.ensures list_naming is_list_naming).0

pub returns-in_err-member-in-Pair : goal.returns-in_err-member-in-Pair
returns-in_err-member-in-Pair g c = λ name names.
    let h = taking_bad c.args.infinity name c.args.heap.now.now (g.V.View.sets c.args.view.now) c.args.order c.args.list names c.walking.at c.walking.taken
    (c.walking.invariant name names) c.in-Pair.head c.in-Pair.tail c.in_err-member-in-Pair.field-0.0 (c.in-Pair.ensures name names)
    (c.in_err-member-in-Pair.ensures name) in search rules

pub take_member-taken-requires-clause-there : goal.take_member-taken-requires-clause-there
take_member-taken-requires-clause-there g c =
    let i = c.in_ok-member-in-Pair.ensures list_naming in
    one_there c.args.heap.now.now (g.V.View.sets c.args.view.now) c.in_ok-member-in-Pair.member i.0 i.1.1

pub walking-smaller : goal.walking-smaller
walking-smaller g c = walk_falls c.args.heap.now.now (g.V.View.sets c.args.view.now) c.walking.at c.in-Pair.head c.in-Pair.tail (c.in-Pair.ensures list_naming is_list_naming)

pub walking-preserved : goal.walking-preserved
walking-preserved g c = λ name names.
    taking_more c.args.infinity name c.args.heap.now.now (g.V.View.sets c.args.view.now) c.args.order c.args.list names c.walking.at c.walking.taken
    (c.walking.invariant name names) c.in-Pair.head c.in-Pair.tail c.in_ok-member-in-Pair.member c.take_member-taken.result
    (c.in-Pair.ensures name names) (c.in_ok-member-in-Pair.ensures name) (λ ss s own at t. c.take_member-taken.ensures name c.args.heap.now.now ss s own at t)

pub returns-in-Empty : goal.returns-in-Empty
returns-in-Empty g c = λ name names.
    taking_end c.args.infinity name c.args.heap.now.now (g.V.View.sets c.args.view.now) c.args.order c.args.list names c.walking.at c.walking.taken
    (c.walking.invariant name names) (c.in-Empty.ensures name names)

pub returns-in-Broken : goal.returns-in-Broken
returns-in-Broken g c = λ name names.
    taking_broken c.args.infinity name c.args.heap.now.now (g.V.View.sets c.args.view.now) c.args.order c.args.list names c.walking.at c.walking.taken
    (c.walking.invariant name names) c.in-Broken.fault (c.in-Broken.ensures name names)
