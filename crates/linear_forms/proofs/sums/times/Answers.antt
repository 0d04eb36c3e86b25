use Rattle.std.proofs.Common.{FitsSigned, rules}
use Rattle.std.specs.Int.{w64}
use Rattle.std.proofs.lemmas.Result.{err_from_is_err_and}
use Rattle.linear_forms.specs.Sums.{over_constant_times}
use Rattle.linear_forms.proofs.Words.{over_product}
use Rattle.linear_forms.proofs.sums.times.Goals as goal

pub returns-in_err-constant : goal.returns-in_err-constant
returns-in_err-constant c =
    let p = err_from_is_err_and c.from_residual-in_err-constant.result c.from_residual-in_err-constant.ensures.1 in
    let f : FitsSigned w64 c.args.sum.now.constant = search rules in
    rw (p.1, p.2, c.in_err-constant.ensures.0)
    (over_constant_times (over_product c.args.factor c.args.sum.now.constant c.product.result c.ranges.factor f c.product.ensures c.in_err-constant.ensures.1))
