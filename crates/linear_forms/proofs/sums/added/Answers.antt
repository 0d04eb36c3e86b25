use Rattle.std.proofs.Common.{subst, ◌+ℤ◌, FitsSigned, to_z, of_z, rules}
use Rattle.std.specs.Int.{w64}
use Rattle.std.proofs.lemmas.Result.{err_from_is_err_and}
use Rattle.linear_forms.specs.Shares.{IsWithin}
use Rattle.linear_forms.specs.Sums.{over_many}
use Rattle.linear_forms.proofs.Words.{passed_sum}
use Rattle.linear_forms.proofs.sums.added.Goals as goal

pub returns-in_err-keep_to : goal.returns-in_err-keep_to
returns-in_err-keep_to c =
    let p = err_from_is_err_and c.from_residual-in_err-keep_to.result c.from_residual-in_err-keep_to.ensures.1 in
    rw (p.1, p.2, c.in_err-keep_to.ensures.0) (over_many c.add_terms.new.terms.entries c.in_ok-add_terms.ensures.added c.in_err-keep_to.ensures.1)

pub returns : goal.returns
returns c =
    let f : FitsSigned w64 c.args.longer.constant = search rules in
    let g : FitsSigned w64 c.args.shorter.now.constant = search rules in
    let within = subst (IsWithin (to_z w64 (of_z w64 c.args.longer.constant) +ℤ to_z w64 (of_z w64 c.args.shorter.now.constant))) c.in_ok-longer.ensures c.sum.ensures in
    let k = passed_sum c.args.longer.constant c.args.shorter.now.constant c.in_ok-longer.field-0 f g within in
    record { terms = c.in_ok-add_terms.ensures.added; constant = k.0; inside = k.1; few = c.in_ok-keep_to.ensures }
