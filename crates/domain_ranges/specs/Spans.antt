-- Sets of numbers as lists of intervals that rise and don't touch.
use Rattle.std.specs.Prelude.{◌≡◌, ℕ, zero, suc, ◌+◌, ◌-◌, ◌≤◌, Bool, false, ◌&&◌, not, ◌==◌, ◌*◌, ◌/◌, nat_le, nat_lt, int_le, ◌+ℤ◌, max, min, if◌then◌else◌}
use Rattle.std.specs.Prelude.{ℤ, pos, negsuc, List, [], ◌∷◌, ◌++◌, filter, length, Option, Some, None}
use Rattle.std.specs.List.{list_any}
use Rattle.fd_language.specs.declared.TheConstants.{INFINITY}
use Rattle.fd_language.specs.Family.{has, count_up}
use Rattle.fd_language.specs.Range.{least, greatest}

-- an interval, from its least to its greatest number
abbrev pub Span : Type 0
Span = ℕ × ℕ

-- whether the number lies in one of the intervals
abbrev pub within : List Span → ℕ → Bool
within ss n = list_any (λ s. nat_le s.0 n && nat_le n s.1) ss

-- nonempty intervals from low on and up to high, in rising order, with a gap of at least one number between each and the next
abbrev pub IsSpans : ℕ → ℕ → List Span → Type 0
IsSpans low high [] = Unit {0}
IsSpans low high (s ∷ ss) = (low ≤ s.0) × (s.0 ≤ s.1) × (s.1 ≤ high) × IsSpans (s.1 + 2) high ss

-- the numbers of the intervals
unfoldable pub members : List Span → List ℕ
members [] = []
members (s ∷ ss) = count_up s.0 (suc s.1 - s.0) ++ members ss

-- how many intervals a set of numbers has: one for each member whose successor is no member
unfoldable pub interval_count : List ℕ → ℕ
interval_count ns = length (filter (λ n. not (has ns (suc n))) ns)

-- whether the integer is a member
abbrev pub has_int : List ℕ → ℤ → Bool
has_int ns (pos n) = has ns n
has_int ns (negsuc n) = false

-- the interval of the numbers in both, if there are any
abbrev pub meet : Span → Span → List Span
meet a b = if nat_le (max a.0 b.0) (min a.1 b.1) then (max a.0 b.0, min a.1 b.1) ∷ [] else []

-- the interval that a list may end with, while later ones may still touch it
abbrev pub listed : Option Span → List Span
listed None = []
listed (Some s) = s ∷ []

-- what is written where the interval x, which begins no earlier, comes behind it
abbrev pub written : Option Span → Span → List Span
written None x = []
written (Some s) x = if nat_le x.0 (s.1 + 1) then [] else s ∷ []

-- the interval that the list may then end with
abbrev pub joined : Option Span → Span → Span
joined None x = x
joined (Some s) x = if nat_le x.0 (s.1 + 1) then (s.0, max s.1 x.1) else x

-- the numbers from the one on and below the other, as at most one interval
abbrev pub gap : ℕ → ℕ → List Span
gap low end = if nat_lt low end then (low, end - 1) ∷ [] else []

-- the intervals, of which the one at a place loses a number
abbrev pub parted : List Span → ℕ → ℕ → List Span
parted [] place n = []
parted (s ∷ ss) zero n = gap s.0 n ++ (gap (n + 1) (s.1 + 1) ++ ss)
parted (s ∷ ss) (suc place) n = s ∷ parted ss place n

-- whether the number is c more than one in the intervals
abbrev pub shifted : List Span → ℤ → ℕ → Bool
shifted ss c n = list_any (λ s. int_le (pos s.0 +ℤ c) (pos n) && int_le (pos n) (pos s.1 +ℤ c)) ss

-- whether the number is c times one in the intervals, for a c that is not 0
abbrev pub scaled : List Span → ℕ → ℕ → Bool
scaled ss c n = (n / c * c == n) && within ss (n / c)

-- intervals that rise and don't touch, with their least and their greatest number, which are 0 where there is none
pub record AreWithEnds (ss : List Span) (ends : ℕ × ℕ) : Type 0 where
  pub spans : IsSpans 0 INFINITY ss
  pub least : ends.0 ≡ least (members ss)
  pub greatest : ends.1 ≡ greatest (members ss)
