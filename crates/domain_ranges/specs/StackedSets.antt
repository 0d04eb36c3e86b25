-- Sets that wait for their operators, as lists of intervals one behind another.
use Rattle.std.specs.Prelude.{ℕ, ◌≤◌, List, [], ◌∷◌, filter, take, drop}
use Rattle.std.specs.List.{All}
use Rattle.fd_language.specs.declared.TheConstants.{INFINITY}
use Rattle.fd_language.specs.Family.{universe}
use Rattle.domain_ranges.specs.Spans.{Span, within}

-- the sets, the one on top first, and how many there may be before their number takes memory
pub record StackedSets : Type 0 where
  pub sets : List (List ℕ)
  pub room : ℕ

-- the numbers of U in some of the intervals, which stand in any order
abbrev pub numbers : List Span → List ℕ
numbers ss = filter (within ss) (universe INFINITY)

-- the sets whose intervals begin at the places, the last one first
abbrev pub stacked : List ℕ → List Span → List (List ℕ)
stacked [] ss = []
stacked (k ∷ ks) ss = numbers (drop k ss) ∷ stacked ks (take k ss)

-- places that fall, from a length on
abbrev pub AreStarts : List ℕ → ℕ → Type 0
AreStarts [] n = Unit {0}
AreStarts (k ∷ ks) n = (k ≤ n) × AreStarts ks k

-- intervals in U, none of them empty
abbrev pub AreIntervals : List Span → Type 0
AreIntervals ss = All (λ s. (s.0 ≤ s.1) × (s.1 ≤ INFINITY)) ss

-- intervals that begin in rising order, from the number on
abbrev pub AreRising : ℕ → List Span → Type 0
AreRising low [] = Unit {0}
AreRising low (s ∷ ss) = (low ≤ s.0) × AreRising s.0 ss
