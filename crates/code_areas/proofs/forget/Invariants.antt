use Rattle.std.proofs.Common.{◌≡◌, ◌-◌, ◌≤◌, ◌++◌, length, take, replicate}
use Rattle.code_areas.specs.Areas.{nothing_held}
use Rattle.code_areas.proofs.forget.Given as goal

abbrev pub invariant-loop-at : goal.invariant-loop-at
invariant-loop-at l =
    (take l.at l.places ≡ take l.start l.initial.places ++ replicate (l.at - l.start) nothing_held)
    × (l.start ≤ l.at) × (l.at ≤ l.end) × (length l.places ≡ length l.initial.places)
