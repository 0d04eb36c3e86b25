use Rattle.std.proofs.Common.{◌≡◌, take}
use Rattle.answer_check.specs.Judgement.{values_of}
use Rattle.answer_check.proofs.report.precedes.Given as goal

abbrev pub invariant-loop-variable : goal.invariant-loop-variable
invariant-loop-variable l = values_of (take l.variable-index l.labelled) l.before ≡ values_of (take l.variable-index l.labelled) l.behind
