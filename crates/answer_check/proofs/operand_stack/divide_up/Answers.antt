use Rattle.std.proofs.Common.{◌∙◌, ap, pos, ◌-ℤ◌, SFits, to_z-of_z, rules}
use mir.Syntax.{w128}
use Rattle.fd_language.proofs.Lemmas.{up_is, above_zero}
use Rattle.answer_check.proofs.operand_stack.divide_up.Goals as goal

pub returns-then-b-ne0 : goal.returns-then-b-ne0
returns-then-b-ne0 c =
    let a : SFits w128 c.args.a = c.ranges.a in
    let b : SFits w128 c.args.b = c.ranges.b in
    let n : SFits w128 (pos 0 -ℤ c.args.a) = search rules in
    let f : SFits w128 c.div_euclid.result = search rules in
    let r : SFits w128 (pos 0 -ℤ c.div_euclid.result) = search rules in
    simp to_z-of_z (ap (λ z. pos 0 -ℤ z) (simp to_z-of_z at c.div_euclid.ensures) ∙ up_is c.args.a c.args.b (above_zero c.args.b c.requires.natural c.if-b-ne0.true))
