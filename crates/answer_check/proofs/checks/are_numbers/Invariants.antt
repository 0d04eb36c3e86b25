use Rattle.std.proofs.Common.{take}
use Rattle.fd_language.specs.declared.TheConstants.{INFINITY}
use Rattle.fd_model.specs.Satisfaction.{AreNumbers}
use Rattle.answer_check.specs.AnswerLines.{assigned}
use Rattle.answer_check.specs.Members.{worths_of}
use Rattle.answer_check.proofs.checks.are_numbers.Given as goal

abbrev pub invariant-loop-member : goal.invariant-loop-member
invariant-loop-member l = AreNumbers INFINITY (worths_of (assigned l.values) (take l.member-index l.members))
