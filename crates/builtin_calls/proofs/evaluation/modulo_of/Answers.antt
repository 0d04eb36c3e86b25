use Rattle.std.proofs.Common.{◌≡◌, ℤ, pos, ◌+ℤ◌, false, FitsSigned, w64, to_z, of_z, ap, sym, ◌∙◌, rules, ◌⊎◌, inl, inr}
use lib.Signed.{rem_z}
use Rattle.builtin_calls.proofs.Remainders.{read_back, differ, modulo_stays, modulo_moves, sum_fits}
use Rattle.builtin_calls.proofs.evaluation.modulo_of.Goals as goal
use Rattle.builtin_calls.proofs.evaluation.modulo_of.Goals.{else-rest-ne0-via-then-rest-ne0+else-rest-right, else-rest-ne0-via-else-rest-ne0}

rest_is : (left right rest : ℤ) → FitsSigned w64 left → FitsSigned w64 right → rest ≡ rem_z (to_z w64 (of_z w64 left)) (to_z w64 (of_z w64 right)) → rest ≡ rem_z left right
rest_is left right rest f g e = e ∙ ap (λ x. rem_z x (to_z w64 (of_z w64 right))) (read_back left f) ∙ ap (rem_z left) (read_back right g)

signs : (rest right : ℤ) → FitsSigned w64 rest → FitsSigned w64 right → differ rest right ≡ differ (to_z w64 (of_z w64 rest)) (to_z w64 (of_z w64 right))
signs rest right f g = sym (ap (λ x. differ x (to_z w64 (of_z w64 right))) (read_back rest f) ∙ ap (differ rest) (read_back right g))

pub returns-then-rest-right : goal.returns-then-rest-right
returns-then-rest-right c =
    let fits : FitsSigned w64 c.wrapping_rem-rest.result = search rules in
    let is = rest_is c.args.left c.args.right c.wrapping_rem-rest.result c.ranges.left c.ranges.right c.wrapping_rem-rest.ensures in
    let d = signs c.wrapping_rem-rest.result c.args.right fits c.ranges.right ∙ c.if-rest-right.true in
    ap (λ x. to_z w64 (of_z w64 (x +ℤ to_z w64 (of_z w64 c.args.right)))) (read_back c.wrapping_rem-rest.result fits)
    ∙ ap (λ x. to_z w64 (of_z w64 (c.wrapping_rem-rest.result +ℤ x))) (read_back c.args.right c.ranges.right)
    ∙ read_back (c.wrapping_rem-rest.result +ℤ c.args.right) (sum_fits c.wrapping_rem-rest.result c.args.right fits c.ranges.right d) ∙ ap (λ x. x +ℤ c.args.right) is
    ∙ modulo_moves c.args.left c.args.right c.requires (λ z. c.if-rest-ne0.true (ap (of_z w64) (is ∙ z))) (ap (λ x. differ x c.args.right) (sym is) ∙ d)

pub returns-else-rest-ne0 : goal.returns-else-rest-ne0
returns-else-rest-ne0 c =
    let fits : FitsSigned w64 c.wrapping_rem-rest.result = search rules in
    let is = rest_is c.args.left c.args.right c.wrapping_rem-rest.result c.ranges.left c.ranges.right c.wrapping_rem-rest.ensures in
    let cases : (rem_z c.args.left c.args.right ≡ pos 0) ⊎ (differ (rem_z c.args.left c.args.right) c.args.right ≡ false) = elim c.else-rest-ne0.branch [
      | else-rest-ne0-via-then-rest-ne0+else-rest-right w ↦ inr (ap (λ x. differ x c.args.right) (sym is) ∙ signs c.wrapping_rem-rest.result c.args.right fits c.ranges.right ∙ w.if-rest-right.false)
      | else-rest-ne0-via-else-rest-ne0 w ↦ inl (sym is ∙ sym (read_back c.wrapping_rem-rest.result fits) ∙ ap (to_z w64) w.if-rest-ne0.false)
    ] in
    read_back c.wrapping_rem-rest.result fits ∙ is ∙ modulo_stays c.args.left c.args.right c.requires cases
