use Rattle.std.proofs.Common.{◌≡◌, ◌+◌}
use Rattle.clause_code.specs.Slots.{AreGiven, AreShown}
use Rattle.clause_code.proofs.query.shown_slots.Given as goal

abbrev pub invariant-loop-x : goal.invariant-loop-x
invariant-loop-x l = record {
  given : AreGiven l.variables l.next l.slots.items;
  shown : AreShown l.shown l.x-index l.slots.items;
  next : l.next ≡ l.x-index + 1;
}
