use Rattle.std.proofs.Common.{◌≡◌, ℕ, ◌+◌, ◌*◌, true, ap, arith}
use Rattle.std.specs.Prelude.{nat_lt}
use Rattle.std.proofs.lemmas.Bool.{lt-ltb}
use Rattle.fd_language.specs.Characters.{is_digit_of}
use Rattle.fd_language.specs.Tokens.{AfterDigits}
use Rattle.char_tokens.proofs.QuotedAtoms.{digit_fits}
use Rattle.char_tokens.proofs.quotation.past_digits.Goals as goal

pub overflow_mul-result : goal.overflow_mul-result
overflow_mul-result c = omega (arith, digit_fits c.args.count c.args.value 0 c.if-count-lt6.true c.requires.digits.1 (omega arith))

pub overflow_add-result-then-count-lt6 : goal.overflow_add-result-then-count-lt6
overflow_add-result-then-count-lt6 c =
    let v = c.in-Some.ensures.value in
    omega (arith, digit_fits c.args.count c.args.value c.in-Some.digit c.if-count-lt6.true c.requires.digits.1 (omega (arith, v.0, v.1)))

pub returns-then-count-lt6-clause-step : goal.returns-then-count-lt6-clause-step
returns-then-count-lt6-clause-step c =
    let v = c.in-Some.ensures.value in
    let digit : is_digit_of 16 c.args.c ≡ true = lt-ltb _ 16 v.0 in
    let few : nat_lt c.args.count 6 ≡ true = lt-ltb c.args.count 6 c.if-count-lt6.true in
    rw (digit, few) (ap (λ (d : ℕ). AfterDigits c.args.from (c.args.count + 1) (c.args.value * 16 + d)) v.1)

pub returns-then-count-lt6-clause-bounded : goal.returns-then-count-lt6-clause-bounded
returns-then-count-lt6-clause-bounded c =
    let v = c.in-Some.ensures.value in
    (c.requires.from, omega (arith, c.if-count-lt6.true), (digit_fits c.args.count c.args.value c.in-Some.digit c.if-count-lt6.true c.requires.digits.1 (omega (arith, v.0, v.1))).0)
