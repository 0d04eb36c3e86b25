use Rattle.std.proofs.Common.{◌<◌, pos, length, get_or, take, ap, sym, subst, arith}
use Rattle.std.proofs.lemmas.List.{take_all}
use Rattle.heap_cells.specs.Cells.{IsOf}
use Rattle.label_search.specs.declared.Member.TheVariants.{Fixed}
use Rattle.branch_goals.specs.Lists.{IsMemberAt}
use Rattle.branch_goals.specs.Searches.{AreNamed}
use Rattle.branch_goals.proofs.BestLeafSearch.{cells_long, member_there, members_long}
use Rattle.branch_goals.proofs.searches.name_members.Goals as goal

pub index-requires : goal.index-requires
index-requires c =
    let q = c.requires in
    let long = cells_long q.0 c.args.heap.now.now q.1 c.args.list.now.cells.items c.args.list.now.members.items q.2 q.3 in
    let l : c.loop-i.i < length c.args.list.now.cells.items = omega (arith, c.loop-i-test.true, long, ap length c.deref-member-items.ensures.value) in
    grind arith

pub name_member-requires : goal.name_member-requires
name_member-requires c =
    let q = c.requires in
    let l : c.loop-i.i < length c.args.list.now.members.items = omega (arith, c.loop-i-test.true, ap length c.deref-member-items.ensures.value) in
    let r = member_there q.0 c.args.heap.now.now q.1 c.args.list.now.cells.items c.args.list.now.members.items q.2 q.3 c.loop-i.i c.index.result.now (Fixed (pos 0)) l in
    subst (IsOf c.args.heap.now.now) (sym c.index.ensures) r.2

pub loop-i-preserved : goal.loop-i-preserved
loop-i-preserved c = λ name sets ms e a.
    let l : c.loop-i.i < length c.args.list.now.members.items = omega (arith, c.loop-i-test.true, ap length c.deref-member-items.ensures.value) in
    let r = member_there name c.args.heap.now.now sets c.args.list.now.cells.items c.args.list.now.members.items ms a c.loop-i.i c.index.result.now (Fixed (pos 0)) l in
    let there = subst (λ xs. IsMemberAt name c.args.heap.now.now sets c.index.result.now (get_or xs c.loop-i.i (Fixed (pos 0))) r.0) (sym c.deref-member-items.ensures.value)
    (subst (λ d. IsMemberAt name c.args.heap.now.now sets d (get_or c.args.list.now.members.items c.loop-i.i (Fixed (pos 0))) r.0) (sym c.index.ensures) r.3) in
    subst (λ q. AreNamed name c.args.heap.now.now (length sets) q c.name_member.new.named.members.items c.name_member.new.named.open_ones.items c.name_member.new.named.next) (sym r.1)
    (c.in_ok-name_member.ensures name sets (take c.loop-i.i ms) r.0 there (c.loop-i.invariant name sets ms e a))

pub returns : goal.returns
returns c = λ name sets ms e a.
    let n = members_long name c.args.heap.now.now sets c.args.list.now.cells.items c.args.list.now.members.items ms a in
    subst (λ q. AreNamed name c.args.heap.now.now (length sets) q c.loop-i.named.members.items c.loop-i.named.open_ones.items c.loop-i.named.next)
    (take_all c.loop-i.i ms (omega (arith, n, c.loop-i-test.false, ap length c.deref-member-items.ensures.value))) (c.loop-i.invariant name sets ms e a)
