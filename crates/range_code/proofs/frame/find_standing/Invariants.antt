use Rattle.std.proofs.Common.{◌≡◌, take, drop}
use Rattle.std.specs.List.{All}
use Rattle.range_code.specs.Frames.{slot_set}
use Rattle.range_code.specs.Standings.{tested, TestRises}
use Rattle.range_code.proofs.frame.find_standing.Given as goal

abbrev pub invariant-loop-test : goal.invariant-loop-test
invariant-loop-test g l = record {
  same : tested (slot_set (g.V.View.sets l.view) l.args) l.tests ≡ tested (slot_set (g.V.View.sets l.view) l.args) (drop l.test-index l.tests);
  rising : All (TestRises (slot_set (g.V.View.sets l.view) l.args)) (take l.test-index l.tests);
}
