use Rattle.std.proofs.Common.{◌≡◌, take}
use Rattle.answer_check.specs.Members.{open_in}
use Rattle.answer_check.proofs.goals.open_ones.Given as goal

abbrev pub invariant-loop-member : goal.invariant-loop-member
invariant-loop-member l = l.open.items ≡ open_in (take l.member-index l.members)
