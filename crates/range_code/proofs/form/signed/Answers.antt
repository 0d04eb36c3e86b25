use Rattle.std.proofs.Common.{rules, SFits, to_z-of_z}
use mir.Syntax.{w64}
use Rattle.range_code.proofs.Forms.{sign_kept, sign_turned}
use Rattle.range_code.proofs.form.signed.Goals as goal

pub returns-in-Add : goal.returns-in-Add
returns-in-Add c = sign_kept c.args.node c.args.addend c.in-Add.is

pub returns-in_ok-checked_neg-in-Sub : goal.returns-in_ok-checked_neg-in-Sub
returns-in_ok-checked_neg-in-Sub c =
    let f : SFits w64 c.in_ok-checked_neg-in-Sub.field-0 = search rules in
    let h : SFits w64 c.args.addend.weight = search rules in
    let e = simp to_z-of_z at c.in_ok-checked_neg-in-Sub.ensures in
    simp to_z-of_z (sign_turned c.args.node c.args.addend c.in_ok-checked_neg-in-Sub.field-0 c.in-Sub.is e.1)
