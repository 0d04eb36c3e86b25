use Rattle.std.proofs.Common.{take}
use Rattle.answer_check.specs.AnswerLines.{assigned}
use Rattle.answer_check.proofs.BrokenConstraints.{AllMet}
use Rattle.answer_check.proofs.checks.Scratch.first_broken.Given as goal

abbrev pub invariant-loop-number : goal.invariant-loop-number
invariant-loop-number l = AllMet (assigned l.values) (take l.number l.constraints)
