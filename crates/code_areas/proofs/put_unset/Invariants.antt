use Rattle.std.proofs.Common.{◌≡◌, ◌+◌, ◌++◌, replicate, vec_len, vec_capacity}
use Rattle.code_areas.specs.Areas.{nothing_held}
use Rattle.code_areas.proofs.put_unset.Given as goal

abbrev pub invariant-loop : goal.invariant-loop
invariant-loop l =
    (l.places.items ≡ l.initial.places.items ++ replicate l.counter nothing_held)
    × (vec_len l.places ≡ vec_len l.initial.places + l.counter) × (vec_capacity l.places ≡ vec_capacity l.initial.places)
