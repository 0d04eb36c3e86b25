use Rattle.std.proofs.Common.{rules, SFits, to_z-of_z}
use mir.Syntax.{w64}
use Rattle.range_code.proofs.QuickSets.{up_to_quick}
use Rattle.range_code.proofs.told_forms.up_to.Goals as goal

pub returns : goal.returns
returns c r a v h =
    let f : SFits w64 c.args.high.now.constant = search rules in
    up_to_quick r c.args.args.now a v c.args.low.now c.args.high.now h c.as_slice.result.now c.in_ok-sum.sum c.in_ok-number.number c.width-width.result c.in_ok-number.ensures (search rules) (search rules) (search rules) (simp to_z-of_z at c.in_ok-sum.ensures) c.width-width.ensures (search rules)
