use Rattle.std.proofs.Common.{rules, SFits, to_z-of_z}
use mir.Syntax.{w64}
use Rattle.range_code.proofs.Forms.{number_is}
use Rattle.range_code.proofs.form.number_of.Goals as goal

pub returns : goal.returns
returns c =
    let f : SFits w64 c.args.bound.now.constant = search rules in
    simp to_z-of_z (number_is c.args.bound.now (c.is_whole.ensures c.if-not-is_whole.false) (search rules))
