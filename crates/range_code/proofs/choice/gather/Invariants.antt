use Rattle.std.proofs.Common.{◌≡◌}
use Rattle.range_code.proofs.ChosenMembers.{Gathering}
use Rattle.range_code.proofs.choice.gather.Given as goal

abbrev pub invariant-loop-pair : goal.invariant-loop-pair
invariant-loop-pair l = record {
  gathered : Gathering l.target l.keys l.pairs l.pair-index l.rest l.from l.count l.sets.sets;
  room : l.sets.room ≡ l.initial.sets.room;
}
