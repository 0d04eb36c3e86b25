use Rattle.std.proofs.Common.{take}
use Rattle.answer_text.specs.Variables.{HasSets}
use Rattle.answer_text.proofs.variables.sets_of.Given as goal

abbrev pub invariant-loop-variable : goal.invariant-loop-variable
invariant-loop-variable l = HasSets (take l.variable-index l.sets) l.found
