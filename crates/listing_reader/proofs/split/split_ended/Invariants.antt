use Rattle.std.proofs.Common.{◌≡◌, ◌≤◌, ◌++◌, map, length}
use Rattle.listing_reader.specs.Reading.{split}
use Rattle.listing_reader.proofs.split.split_ended.Given as goal

abbrev pub invariant-loop-at : goal.invariant-loop-at
invariant-loop-at l = record { parts : split l.separator l.text ≡ map (λ w. w.now) l.found.items ++ split l.separator l.rest; shorter : length l.rest ≤ length l.text }

abbrev pub decreases-loop-at : goal.decreases-loop-at
decreases-loop-at l = length l.rest
