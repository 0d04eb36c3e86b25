use Rattle.std.proofs.Common.{◌≡◌, ◌≤◌, take}
use Rattle.fd_model.specs.Satisfaction.{occurrences}
use Rattle.answer_check.specs.AnswerLines.{assigned}
use Rattle.answer_check.specs.Members.{worths_of}
use Rattle.answer_check.proofs.checks.occurrences.Given as goal

abbrev pub invariant-loop-member : goal.invariant-loop-member
invariant-loop-member l = record { few : l.count ≤ l.member-index; counted : l.count ≡ occurrences (worths_of (assigned l.values) (take l.member-index l.members)) l.integer }
