use Rattle.std.proofs.Common.{◌≡◌, ◌+◌, ◌-◌, ◌≤◌, ◌++◌, slice_range, vec_len, vec_capacity}
use Rattle.code_areas.proofs.put_copies.Given as goal

abbrev pub invariant-loop-at : goal.invariant-loop-at
invariant-loop-at l =
    (l.places.items ≡ l.initial.places.items ++ slice_range l.initial.places.items l.start l.at)
    × (l.start ≤ l.at) × (l.at ≤ l.end) × (vec_len l.places + (l.end - l.at) ≤ vec_capacity l.places)
    × (vec_capacity l.places ≡ vec_capacity l.initial.places)
