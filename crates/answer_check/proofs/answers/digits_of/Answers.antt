use Rattle.std.proofs.Common.{◌∙◌, ap, sym, not}
use Rattle.std.specs.Char.{is_ascii_digit}
use Rattle.answer_check.proofs.Positions.{before_all, before_at, none_more}
use Rattle.answer_check.proofs.answers.digits_of.Goals as goal

pub returns-then-not-is_ascii_digit : goal.returns-then-not-is_ascii_digit
returns-then-not-is_ascii_digit c =
    before_at (λ b. not (is_ascii_digit b)) c.args.bytes.now 0 c.loop-at.at c.loop-at-test.true c.loop-at.invariant (ap not (sym c.is_ascii_digit.ensures.value ∙ c.if-not-is_ascii_digit.true))

pub loop-at-preserved : goal.loop-at-preserved
loop-at-preserved c =
    none_more (λ b. not (is_ascii_digit b)) c.args.bytes.now 0 c.loop-at.at c.loop-at.invariant (ap not (sym c.is_ascii_digit.ensures.value ∙ c.if-not-is_ascii_digit.false))

pub returns : goal.returns
returns c = before_all (λ b. not (is_ascii_digit b)) c.args.bytes.now 0 c.loop-at.at c.loop-at-test.false c.loop-at.auto.at-end c.loop-at.invariant
