use Rattle.std.proofs.Common.{◌≤◌, ◌<◌, ◌+◌, ◌-◌, ◌/◌, ◌∙◌, arith}
use Rattle.std.proofs.Math.Nat.{div-le_self, pos_of_ne-zero}
use Rattle.std.proofs.lemmas.Int.{to_z_pos}
use mir.Syntax.{w64}
use Rattle.range_code.proofs.EndQuotients.{up_quotient}
use Rattle.range_code.proofs.quick_forms.quotient_up.Goals as goal

pub returns-then-b-ne0 : goal.returns-then-b-ne0
returns-then-b-ne0 c =
    let n = c.args.a + (c.args.b - 1) in
    let one = c.requires.one in
    let other = c.requires.other in
    let d : n / c.args.b ≤ n = div-le_self n c.args.b in
    let low : 0 < c.args.b = pos_of_ne-zero c.if-b-ne0.true in
    to_z_pos w64 (n / c.args.b) (omega (arith, d, one, other)) ∙ up_quotient c.args.a c.args.b low
