use Rattle.std.proofs.Common.{sym, SFits, to_z-of_z}
use mir.Syntax.{w64}
use Rattle.fd_language.proofs.Lemmas.{two}
use Rattle.range_code.specs.declared.Reach.TheVariants as reach
use Rattle.range_code.proofs.CounterSets.{none_counted, alone_counted, some_counted}
use Rattle.range_code.proofs.quick_forms.counter_reach.Goals as goal

pub returns-in-Outside : goal.returns-in-Outside
returns-in-Outside c =
    let f : SFits w64 c.args.value = c.ranges.value in
    let k = rw (c.in-Outside.is) at c.membership.ensures.membership in
    let n = none_counted c.args.domain.now c.args.value c.membership.ensures.rising (simp to_z-of_z at k) in
    two reach.Between (sym n.0) (sym n.1)

pub returns-in-Alone : goal.returns-in-Alone
returns-in-Alone c =
    let f : SFits w64 c.args.value = c.ranges.value in
    let k = rw (c.in-Alone.is) at c.membership.ensures.membership in
    let n = alone_counted c.args.domain.now c.args.value c.membership.ensures.rising (simp to_z-of_z at k) in
    two reach.Between (sym n.0) (sym n.1)

pub returns-in-Among : goal.returns-in-Among
returns-in-Among c =
    let f : SFits w64 c.args.value = c.ranges.value in
    let k = rw (c.in-Among.is) at c.membership.ensures.membership in
    let m = simp to_z-of_z at k in
    let n = some_counted c.args.domain.now c.args.value _ c.membership.ensures.rising m.0 m.1 m.2 in
    two reach.Between (sym n.0) (sym n.1)
