use Rattle.std.proofs.Common.{rules, arith, pos, SFits, to_z-of_z}
use mir.Syntax.{w64}
use Rattle.range_code.specs.declared.form.End.TheVariants.{Least}
use Rattle.range_code.specs.declared.form.Product.{Product}
use Rattle.range_code.proofs.PairedSums.{less_is}
use Rattle.range_code.proofs.quick_forms.less_of.Goals as goal

pub returns : goal.returns
returns c =
    let f : SFits w64 c.args.bound.now.constant = search rules in
    let k : Product = record { weight = pos 0; slot = 0; end = Least } in
    simp to_z-of_z (less_is c.args.bound.now c.as_slice.result.now k c.args.end (c.is_whole.ensures c.if-not-is_whole.false) (search rules) (omega arith) (search rules) (search rules))
