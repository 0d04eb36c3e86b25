use Rattle.std.proofs.Common.{◌≡◌, take}
use Rattle.fd_model.specs.Satisfaction.{AreDifferent}
use Rattle.answer_check.specs.AnswerLines.{assigned}
use Rattle.answer_check.specs.Members.{worths_of}
use Rattle.answer_check.proofs.checks.Scratch.are_different.Given as goal

abbrev pub invariant-loop-member : goal.invariant-loop-member
invariant-loop-member l = record {
  seen : l.self.seen.keys ≡ worths_of (assigned l.values) (take l.member-index l.members);
  different : AreDifferent (worths_of (assigned l.values) (take l.member-index l.members));
}
