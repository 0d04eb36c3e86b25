use Rattle.std.proofs.Common.{rules, SFits, to_z-of_z}
use mir.Syntax.{w64}
use Rattle.range_code.proofs.QuickSets.{within_quick}
use Rattle.range_code.proofs.quick_forms.quick_within.Goals as goal

pub returns : goal.returns
returns c r a h =
    let f : SFits w64 c.in_ok-low.low = search rules in
    let k : SFits w64 c.in_ok-high.high = search rules in
    simp to_z-of_z (within_quick r c.args.args.now a c.args.nodes.now c.in_ok-slots.slots.0 c.in_ok-slots.slots.1 c.in_ok-low.low c.in_ok-high.high
    c.in_ok-low.ensures c.in_ok-high.ensures c.in_ok-slots.ensures h)
