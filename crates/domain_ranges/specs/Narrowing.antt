-- What is left of a set of values.
use Rattle.std.specs.Prelude.{◌≡◌, ℕ, ◌<◌, ◌≤◌, false, ◌&&◌, not, IsTrue, ℤ, pos, int_le, List, [], ◌∷◌, filter, length}
use Rattle.std.specs.Ordering.{int_eq}
use Rattle.fd_language.specs.Family.{has, universe, IsRising, IsSubset}
use Rattle.fd_language.specs.Range.{least, greatest, is_none_left}
use Rattle.fd_language.specs.declared.TheConstants.{INFINITY}
use Rattle.domain_ranges.specs.Spans.{Span, members, has_int}
use Rattle.domain_ranges.specs.declared.Narrowed.{Narrowed}
use Rattle.domain_ranges.specs.declared.Narrowed.TheVariants.{Same, Empty, Changed}
use Rattle.domain_ranges.specs.declared.Part.{Part}
use Rattle.domain_ranges.specs.declared.Part.TheVariants.{All, Nothing, Within}
use Rattle.domain_ranges.specs.declared.Membership.{Membership}
use Rattle.domain_ranges.specs.declared.Membership.TheVariants.{Outside, Alone, Among}

-- the numbers of U from a to b
abbrev pub between : ℤ → ℤ → List ℕ
between a b = filter (λ n. int_le a (pos n) && int_le (pos n) b) (universe INFINITY)

-- the numbers of U other than the integer
abbrev pub all_but : ℤ → List ℕ
all_but z = filter (λ n. not (int_eq (pos n) z)) (universe INFINITY)

-- The set `old`, intersected with another one: all of it is left, nothing is, or some members are and some aren't.
abbrev pub IsNarrowed : List ℕ → List ℕ → Narrowed → Type 0
IsNarrowed old set Same = IsSubset old set
IsNarrowed old set Empty = filter (has set) old ≡ []
IsNarrowed old set (Changed new) = (new ≡ filter (has set) old) × (is_none_left new ≡ false) × (length new < length old)

-- intervals are what is left, and not all
abbrev pub IsLeft : List Span → Narrowed → Type 0
IsLeft ss Same = ⊥
IsLeft ss Empty = ss ≡ []
IsLeft ss (Changed new) = (new ≡ members ss) × (1 ≤ length ss)

-- the least and the greatest member of a set that has one
pub record AreEnds (ends : ℕ × ℕ) (ns : List ℕ) : Type 0 where
  pub some : is_none_left ns ≡ false
  pub rising : IsRising 0 INFINITY ns
  pub least : ends.0 ≡ least ns
  pub greatest : ends.1 ≡ greatest ns

-- all numbers from the least to the greatest one
abbrev pub IsInterval : List ℕ → Type 0
IsInterval ns = ns ≡ members ((least ns, greatest ns) ∷ [])

-- The set `old`, intersected with another one: all of it is left, nothing is, or not all is but the members between two numbers, which are those of an
-- interval.
abbrev pub IsPart : List ℕ → List ℕ → Part → Type 0
IsPart old set All = IsSubset old set
IsPart old set Nothing = filter (has set) old ≡ []
IsPart old set (Within low high) =
    (low ≤ high)
    × (high ≤ INFINITY)
    × (length (filter (has set) old) < length old)
    × (IsInterval old → filter (has set) old ≡ members ((low, high) ∷ []))
    × (filter (has set) old ≡ filter (has (members ((low, high) ∷ []))) old)

-- how an integer stands to a set: it is no member, the only one, or one of several
abbrev pub IsMembership : List ℕ → ℤ → Membership → Type 0
IsMembership ns z Outside = has_int ns z ≡ false
IsMembership ns z Alone = (n : ℕ) × (z ≡ pos n) × (ns ≡ n ∷ [])
IsMembership ns z (Among n) = (z ≡ pos n) × IsTrue (has ns n) × (least ns < greatest ns)
