use Rattle.std.proofs.Common.{rules, SFits, to_z-of_z}
use mir.Syntax.{w64}
use Rattle.range_code.proofs.QuickSets.{must_be_quick}
use Rattle.range_code.proofs.told_forms.must_be.Goals as goal

pub returns : goal.returns
returns c r a v h =
    let f : SFits w64 c.in_ok-constant.constant = search rules in
    must_be_quick r c.args.args.now a v c.args.low.now c.args.high.now h c.as_slice.result.now c.in_ok-sum.sum c.in_ok-number.number c.in-Up.divisor c.in_ok-constant.constant c.in_ok-number.ensures (search rules) c.in-Up.is (search rules) (search rules) (simp to_z-of_z at c.in_ok-sum.ensures) (search rules) (search rules)
