use Rattle.std.proofs.Common.{ℕ, List}
use Rattle.answer_check.specs.Rows.{Keeps}
use Rattle.answer_check.proofs.AnswerOrder.{Rise}
use Rattle.answer_check.proofs.report.first_falling.Given as goal

abbrev pub invariant-loop-number : goal.invariant-loop-number
invariant-loop-number l = (nss : List (List ℕ)) → Keeps l.answers.variables nss l.answers → Rise l.labelled nss l.number
