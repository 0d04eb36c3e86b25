use Rattle.std.proofs.Common.{◌≡◌, ◌+◌, ◌-◌, ◌≤◌, ◌++◌, take, vec_len, vec_capacity}
use Rattle.code_areas.proofs.put_first.Given as goal

abbrev pub invariant-loop-at : goal.invariant-loop-at
invariant-loop-at l =
    (l.places.items ≡ l.initial.places.items ++ take l.at l.from)
    × (l.at ≤ l.count) × (vec_len l.places + (l.count - l.at) ≤ vec_capacity l.places)
