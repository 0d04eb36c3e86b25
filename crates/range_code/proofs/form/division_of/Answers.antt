use Rattle.std.proofs.Common.{rules, arith, pos, ◌≤ℤ◌, SFits, to_z-of_z}
use mir.Syntax.{w64}
use Rattle.std.proofs.lemmas.Int.{ints}
use Rattle.range_code.proofs.Forms.{division_down, division_up}
use Rattle.range_code.proofs.form.division_of.Goals as goal

pub returns-in-DivDown : goal.returns-in-DivDown
returns-in-DivDown c =
    let f : SFits w64 c.in-Int.divisor = search rules in
    let h : pos 1 ≤ℤ c.in-Int.divisor = omega (arith, ints, c.if-divisor-lt1.false) in
    simp to_z-of_z (division_down c.args.divisor c.args.operator c.in-Int.divisor c.in-Int.is c.in-DivDown.is h)

pub returns-in-DivUp : goal.returns-in-DivUp
returns-in-DivUp c =
    let f : SFits w64 c.in-Int.divisor = search rules in
    let h : pos 1 ≤ℤ c.in-Int.divisor = omega (arith, ints, c.if-divisor-lt1.false) in
    simp to_z-of_z (division_up c.args.divisor c.args.operator c.in-Int.divisor c.in-Int.is c.in-DivUp.is h)
