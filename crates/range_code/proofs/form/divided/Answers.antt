use Rattle.std.proofs.Common.{rules, ◌∙◌, ap, sym, subst, pos, ◌-ℤ◌, SFits, to_z-of_z}
use mir.Syntax.{w64}
use Rattle.range_code.specs.Forms.{divided, IsPositive}
use Rattle.fd_language.proofs.Lemmas.{up_is}
use Rattle.range_code.proofs.form.divided.Goals as goal

pub returns-in-Up : goal.returns-in-Up
returns-in-Up c =
    let s : SFits w64 c.args.sum = c.ranges.sum in
    let d : SFits w64 c.in-Up.divisor = search rules in
    let q : SFits w64 (pos 0 -ℤ c.args.sum) = search rules in
    let r : SFits w64 (pos 0 -ℤ c.div_euclid-in-Up.result) = search rules in
    let f : SFits w64 c.div_euclid-in-Up.result = search rules in
    let positive = subst IsPositive c.in-Up.is c.requires.positive in
    simp to_z-of_z (ap (λ z. pos 0 -ℤ z) (simp to_z-of_z at c.div_euclid-in-Up.ensures) ∙ (up_is c.args.sum c.in-Up.divisor positive ∙ sym (ap (λ v. divided v c.args.sum) c.in-Up.is)))
