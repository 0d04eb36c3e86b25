use Rattle.std.proofs.Common.{◌≡◌, ◌≤◌, length, take, drop}
use Rattle.code_areas.proofs.put_back.Given as goal

abbrev pub invariant-loop-at : goal.invariant-loop-at
invariant-loop-at l =
    (take l.at l.cells ≡ take l.at (drop l.first l.saved))
    × (l.at ≤ l.held) × (length l.cells ≡ length l.initial.cells)
