use Rattle.std.proofs.Common.{◌≡◌, take}
use Rattle.answer_check.proofs.Marks.{marked}
use Rattle.answer_check.proofs.goals.has_below.Given as goal

abbrev pub invariant-loop-variable : goal.invariant-loop-variable
invariant-loop-variable l = l.is_there.items ≡ marked (take l.variable-index l.labelled) l.fn.count
