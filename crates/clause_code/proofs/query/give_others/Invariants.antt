use Rattle.std.proofs.Common.{◌≡◌, ℕ, ◌+◌, ◌<◌, ◌≤◌, length}
use Rattle.clause_code.specs.Slots.{slot, AreGiven, AreAll}
use Rattle.clause_code.proofs.query.give_others.Given as goal

abbrev pub invariant-loop-x : goal.invariant-loop-x
invariant-loop-x l = record {
  given : AreGiven (length l.fn.slots.items) l.next l.slots.items;
  next : l.next ≤ l.first + l.x;
  all : AreAll l.x l.slots.items;
  kept : (y : ℕ) → 0 < slot l.fn.slots.items y → slot l.slots.items y ≡ slot l.fn.slots.items y;
}
