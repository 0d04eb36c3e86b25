use Rattle.std.proofs.Common.{rules, sym, ◌∙◌, subst, ℤ, FitsSigned}
use Rattle.std.specs.Prelude.{MatchResult}
use Rattle.std.specs.Int.{w64}
use Rattle.std.proofs.lemmas.Int.{to_z-of_z}
use Rattle.fd_model.specs.Linear.{product_of}
use Rattle.linear_forms.specs.Shares.{OverflowsBy}
use Rattle.linear_forms.specs.Sums.{Gives, Multiplies, ExceedsTimes}
use Rattle.linear_forms.proofs.SumArithmetic.{product_left, product_right, product_none}
use Rattle.linear_forms.proofs.sums.multiply.Goals as goal

pub returns-then-is_constant : goal.returns-then-is_constant
returns-then-is_constant c = λ s t lo m hi p q.
    let f : FitsSigned w64 c.args.left.constant = search rules in
    product_left c.args.left c.args.right s t lo m hi p q (sym c.is_constant.ensures ∙ c.if-is_constant.true) c.times.result
    (subst (λ (k : ℤ). MatchResult c.times.result (Multiplies k c.args.right) (OverflowsBy (ExceedsTimes k c.args.right))) (to_z-of_z w64 c.args.left.constant f) c.times.ensures)

pub returns-then-is_constant-2 : goal.returns-then-is_constant-2
returns-then-is_constant-2 c = λ s t lo m hi p q.
    let f : FitsSigned w64 c.args.right.constant = search rules in
    product_right c.args.left c.args.right s t lo m hi p q (sym c.is_constant.ensures ∙ c.if-is_constant.false)
    (sym c.is_constant-else-is_constant.ensures ∙ c.if-is_constant-2.true) c.times-then-is_constant-2.result
    (subst (λ (k : ℤ). MatchResult c.times-then-is_constant-2.result (Multiplies k c.args.left) (OverflowsBy (ExceedsTimes k c.args.left)))
    (to_z-of_z w64 c.args.right.constant f) c.times-then-is_constant-2.ensures)

pub returns : goal.returns
returns c = λ s t lo m hi p q. subst (Gives (product_of s t) lo hi) (sym c.nonlinear.ensures)
    (product_none c.args.left c.args.right s t lo m hi p q (sym c.is_constant.ensures ∙ c.if-is_constant.false)
    (sym c.is_constant-else-is_constant.ensures ∙ c.if-is_constant-2.false))
