use Rattle.std.proofs.Common.{◌≡◌, ◌≤◌, [], length, take, reverse, map}
use Rattle.monotone_check.specs.PlaceNeeds.{told}
use Rattle.monotone_check.specs.JoinedNeeds.{put_all}
use Rattle.monotone_check.proofs.strongest_needs.gather.Given as goal

abbrev pub invariant-loop-left : goal.invariant-loop-left
invariant-loop-left l =
    (l.left ≤ length l.asked.items) × (l.variables.keys ≡ map (λ d. d.0) l.needs.items)
    × (put_all l.needs.items (reverse (take l.left l.asked.items)) ≡ put_all [] (told 0 l.places))

abbrev pub decreases-loop-left : goal.decreases-loop-left
decreases-loop-left l = l.left
