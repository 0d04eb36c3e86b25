use Rattle.std.proofs.Common.{rules, SFits, to_z-of_z}
use mir.Syntax.{w64}
use Rattle.range_code.proofs.QuickSets.{counter_quick, counted_quick, products_quick, quotients_quick, disjunction_quick}
use Rattle.range_code.proofs.quick_forms.quick_without_val.Goals as goal

pub returns-in_ok-variable-in-Counter : goal.returns-in_ok-variable-in-Counter
returns-in_ok-variable-in-Counter c r a v h =
    let k = rw (c.in-Counter.is) at h in
    let f : SFits w64 c.in-Counter.value = search rules in
    simp to_z-of_z (counter_quick r c.args.args.now a v c.in-Counter.value c.in-Counter.slot c.in_ok-variable-in-Counter.variable c.in_ok-variable-in-Counter.ensures k)

pub returns-in_ok-variable-in-Counted : goal.returns-in_ok-variable-in-Counted
returns-in_ok-variable-in-Counted c r a v h =
    let k = rw (c.in-Counted.is) at h in
    let f : SFits w64 c.in-Counted.value = search rules in
    simp to_z-of_z (counted_quick r c.args.args.now a v c.in-Counted.value c.in-Counted.slot c.in_ok-variable-in-Counted.variable c.in_ok-variable-in-Counted.ensures k)

pub returns-in_ok-other-in-Products : goal.returns-in_ok-other-in-Products
returns-in_ok-other-in-Products c r a v h =
    let k = rw (c.in-Products.is) at h in
    products_quick r c.args.args.now a v c.in-Products.one c.in-Products.other c.in_ok-one-in-Products.one c.in_ok-other-in-Products.other
    c.in_ok-one-in-Products.ensures c.in_ok-other-in-Products.ensures k

pub returns-in_ok-other-in-Quotients : goal.returns-in_ok-other-in-Quotients
returns-in_ok-other-in-Quotients c r a v h =
    let k = rw (c.in-Quotients.is) at h in
    quotients_quick r c.args.args.now a v c.in-Quotients.one c.in-Quotients.other c.in_ok-one-in-Quotients.one c.in_ok-other-in-Quotients.other
    c.in_ok-one-in-Quotients.ensures c.in_ok-other-in-Quotients.ensures k

pub returns-in_ok-other-in-Disjunction : goal.returns-in_ok-other-in-Disjunction
returns-in_ok-other-in-Disjunction c r a v h =
    let k = rw (c.in-Disjunction.is) at h in
    disjunction_quick r c.args.args.now a v c.in-Disjunction.one c.in-Disjunction.other c.in_ok-one-in-Disjunction.one c.in_ok-other-in-Disjunction.other
    c.in_ok-one-in-Disjunction.ensures c.in_ok-other-in-Disjunction.ensures k
