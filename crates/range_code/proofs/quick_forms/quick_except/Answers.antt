use Rattle.std.proofs.Common.{rules, SFits, to_z-of_z, arith}
use mir.Syntax.{w64}
use Rattle.range_code.proofs.QuickSets.{except_quick, one_alone}
use Rattle.range_code.proofs.quick_forms.quick_except.Goals as goal

pub returns : goal.returns
returns c r a v h =
    let f : SFits w64 c.in_ok-shift.shift.constant = search rules in
    simp to_z-of_z (except_quick r c.args.args.now a c.args.number.now c.in_ok-shift.shift c.in_ok-variable.variable c.args.vals.now c.in_ok-variable.ensures v
    (one_alone c.args.vals.now c.in_ok-shift.shift.slot (omega arith) (search rules)) c.in_ok-shift.ensures h)
