use Rattle.std.proofs.Common.{◌≡◌, ℕ, ◌<◌, ◌≤◌, nat_lt, not, length, drop, reverse}
use Rattle.monotone_check.specs.PlaceNeeds.{told, reaches}
use Rattle.monotone_check.proofs.strongest_needs.settled.Given as goal

abbrev pub invariant-loop-number : goal.invariant-loop-number
invariant-loop-number l =
    (l.number ≤ length l.places) × (l.lowest ≤ length l.places) × (l.asked.items ≡ reverse (told l.number (drop l.number l.places)))
    × ((j : ℕ) → j < length l.places → reaches j (drop l.number l.places) ≡ not (nat_lt j l.lowest))

abbrev pub decreases-loop-number : goal.decreases-loop-number
decreases-loop-number l = l.number
