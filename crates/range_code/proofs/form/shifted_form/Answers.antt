use Rattle.std.proofs.Common.{rules, SFits, to_z-of_z}
use mir.Syntax.{w64}
use Rattle.range_code.proofs.Forms.{above_form, below_form}
use Rattle.range_code.proofs.form.shifted_form.Goals as goal

pub returns-in-Some : goal.returns-in-Some
returns-in-Some c r h =
    let f : SFits w64 c.in-Some.number = search rules in
    simp to_z-of_z (above_form r c.args.low.now c.args.high.now c.in_ok-shift.shift c.in-Some.number h c.in_ok-shift.ensures c.in-Some.ensures)

pub returns : goal.returns
returns c r h =
    let f : SFits w64 c.in_ok-number.number = search rules in
    simp to_z-of_z (below_form r c.args.low.now c.args.high.now c.in_ok-shift-2.shift c.in_ok-number.number h c.in_ok-number.ensures c.in_ok-shift-2.ensures)
