use Rattle.std.proofs.Common.{arith, ◌≡◌, pos, ◌+ℤ◌, SFits, to_z, to_z-of_z}
use mir.ValLaws.{to_z_pos}
use mir.Syntax.{w64}
use Rattle.range_code.proofs.Forms.{shift_small, fits_small}
use Rattle.range_code.proofs.form.add_end.Goals as goal

pub overflow_add-result : goal.overflow_add-result
overflow_add-result c =
    let f : SFits w64 c.args.constant = c.ranges.constant in
    let e : to_z w64 c.args.end ≡ pos c.args.end = to_z_pos w64 c.args.end (omega (arith, c.requires.limit)) in
    let s : SFits w64 (c.args.constant +ℤ pos c.args.end) = fits_small (c.args.constant +ℤ pos c.args.end) (shift_small c.args.constant c.args.end c.requires.width c.requires.limit) in
    simp (to_z-of_z, e) s

pub returns : goal.returns
returns c =
    let f : SFits w64 c.args.constant = c.ranges.constant in
    let e : to_z w64 c.args.end ≡ pos c.args.end = to_z_pos w64 c.args.end (omega (arith, c.requires.limit)) in
    let s : SFits w64 (c.args.constant +ℤ pos c.args.end) = fits_small (c.args.constant +ℤ pos c.args.end) (shift_small c.args.constant c.args.end c.requires.width c.requires.limit) in
    simp (to_z-of_z, e)
