use Rattle.std.proofs.Common.{not}
use Rattle.std.specs.Char.{is_ascii_digit}
use Rattle.answer_check.proofs.Positions.{NoneBelow}
use Rattle.answer_check.proofs.answers.digits_of.Given as goal

abbrev pub invariant-loop-at : goal.invariant-loop-at
invariant-loop-at l = NoneBelow (λ b. not (is_ascii_digit b)) l.bytes 0 l.at
