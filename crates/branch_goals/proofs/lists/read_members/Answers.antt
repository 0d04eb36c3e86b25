use Rattle.std.proofs.Common.{[], List, sym, subst}
use Rattle.heap_cells.specs.declared.Cell.{Cell}
use Rattle.label_search.specs.declared.Member.{Member}
use Rattle.branch_goals.proofs.ListNodes.{IsWalked, is_list_naming, list_naming, members_there, walk_bad, walk_broken, walk_end, walk_falls}
use Rattle.branch_goals.proofs.ListNodes.{walk_pushed, walk_start}
use Rattle.branch_goals.proofs.lists.read_members.Goals as goal

pub walking-init : goal.walking-init
walking-init g c = λ name names.
    subst (λ (xs : List Cell). IsWalked name c.args.heap.now.now (g.V.View.sets c.args.view.now) c.args.list xs c.in_ok-members.members.items c.args.list) (sym c.in_ok-cells.ensures.items)
    (subst (λ (ms : List Member). IsWalked name c.args.heap.now.now (g.V.View.sets c.args.view.now) c.args.list [] ms c.args.list) (sym c.in_ok-members.ensures.items)
    (walk_start name c.args.heap.now.now (g.V.View.sets c.args.view.now) c.args.list c.requires.own))

pub node_at-requires-clause-own : goal.node_at-requires-clause-own
node_at-requires-clause-own g c = (c.walking.invariant list_naming is_list_naming).own

pub member_at-requires-clause-own : goal.member_at-requires-clause-own
member_at-requires-clause-own g c = (c.in-Pair.ensures list_naming is_list_naming).0

pub returns-in-Err : goal.returns-in-Err
returns-in-Err g c = λ name names.
    walk_bad name c.args.heap.now.now (g.V.View.sets c.args.view.now) c.args.list c.walking.cells.items c.walking.members.items c.walking.at c.in-Pair.head
    c.in-Pair.tail c.in-Err.fault names (c.walking.invariant name names) (c.in-Pair.ensures name names) (c.in-Err.ensures name)

pub walking-smaller : goal.walking-smaller
walking-smaller g c = walk_falls c.args.heap.now.now (g.V.View.sets c.args.view.now) c.walking.at c.in-Pair.head c.in-Pair.tail (c.in-Pair.ensures list_naming is_list_naming)

pub walking-preserved : goal.walking-preserved
walking-preserved g c = λ name names.
    walk_pushed name c.args.heap.now.now (g.V.View.sets c.args.view.now) c.args.list c.walking.cells.items c.push.new.self.items c.walking.members.items
    c.push-in-Pair.new.self.items c.walking.at c.in-Pair.head c.in-Pair.tail c.in-Ok.member
    c.in_ok-push-in-Pair.ensures.items c.in_ok-push-in-Pair-2.ensures.items names (c.walking.invariant name names) (c.in-Pair.ensures name names) (c.in-Ok.ensures name)

pub returns-in-Empty : goal.returns-in-Empty
returns-in-Empty g c = λ name names.
    let w = c.walking.invariant name names in (
      w.front,
      walk_end name c.args.heap.now.now (g.V.View.sets c.args.view.now) c.args.list c.walking.cells.items c.walking.members.items c.walking.at names w (c.in-Empty.ensures name names),
      w.are,
      members_there name c.args.heap.now.now (g.V.View.sets c.args.view.now) c.walking.cells.items c.walking.members.items w.front w.are,
    )

pub returns-in-Broken : goal.returns-in-Broken
returns-in-Broken g c = λ name names.
    walk_broken name c.args.heap.now.now (g.V.View.sets c.args.view.now) c.args.list c.walking.cells.items c.walking.members.items c.walking.at
    c.in-Broken.fault (c.walking.invariant name names) (c.in-Broken.ensures name names)
