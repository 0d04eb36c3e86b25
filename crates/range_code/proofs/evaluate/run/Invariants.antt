use Rattle.std.proofs.Common.{◌≤◌}
use Rattle.range_code.specs.Frames.{slot_set, slot_integer}
use Rattle.range_code.specs.Heights.{HasRoom, KeepsRoom}
use Rattle.range_code.specs.StepNodes.{steps_from, IsAt}
use Rattle.range_code.proofs.evaluate.run.Given as goal

abbrev pub invariant-loop-place : goal.invariant-loop-place
invariant-loop-place g l = record {
  behind : l.steps.tests ≤ l.place;
  walked : IsAt (slot_set (g.V.View.sets l.view) l.args) (slot_integer l.args) l.steps l.place l.work;
  room : HasRoom (steps_from l.steps l.place) l.work;
  kept : KeepsRoom l.fn.work l.work;
}
