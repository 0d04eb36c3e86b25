use Rattle.std.proofs.Common.{ap, ◌∙◌, sym, ◌*ℤ◌}
use Rattle.std.specs.Int.{w64}
use Rattle.std.proofs.lemmas.Int.{to_z-of_z}
use Rattle.fd_model.specs.Linear.{in_integers}
use Rattle.linear_forms.proofs.SingleTerms.{integer_kept, integer_over}
use Rattle.linear_forms.proofs.Words.{passed_product, passed_sign, sign_fits}
use Rattle.linear_forms.proofs.sums.constant_alone.Goals as goal

pub returns-in-Some-clause-sum : goal.returns-in-Some-clause-sum
returns-in-Some-clause-sum c = λ m.
    let k = passed_product c.sign.result c.args.integer c.in-Some.constant (sign_fits c.args.negated c.sign.result c.sign.ensures) c.ranges.integer c.in-Some.ensures in
    integer_kept _ c.args.negated c.args.integer m c.new.ensures.empty c.new.ensures.unique
    (k.0 ∙ ap (λ z. z *ℤ c.args.integer) c.sign.ensures) (ap (λ z. in_integers (z *ℤ c.args.integer)) (sym c.sign.ensures) ∙ k.1)

pub returns-in-None-clause-sum : goal.returns-in-None-clause-sum
returns-in-None-clause-sum c = λ m.
    integer_over c.args.negated c.args.integer
    ((λ i. in_integers (sym (passed_sign c.args.negated c.sign.result c.sign.ensures) i *ℤ sym (to_z-of_z w64 c.args.integer c.ranges.integer) i)) ∙ c.in-None.ensures)
