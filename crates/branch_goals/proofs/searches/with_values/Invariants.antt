use Rattle.std.proofs.Common.{◌≡◌, take}
use Rattle.branch_goals.specs.Searches.{firsts, seconds}
use Rattle.branch_goals.proofs.searches.with_values.Given as goal

abbrev pub invariant-loop-i : goal.invariant-loop-i
invariant-loop-i l = record {
  firsts_are : firsts l.pairs.items ≡ firsts (take l.i l.fn.open_ones);
  seconds_are : seconds l.pairs.items ≡ take l.i l.fn.values;
}
