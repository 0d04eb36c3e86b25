-- Ranges that only shrink, and the law on those that the direction table accepts.
use Rattle.std.specs.Prelude.{ℕ, ℤ, IsTrue, true}
use Rattle.fd_language.specs.Family.{Family, IsFamily, IsInside, IsSubset}
use Rattle.fd_language.specs.Range.{Range, set_of}
use Rattle.fd_language.specs.Check.{range_fits, fill_range}
use Rattle.fd_language.specs.Needs.{meets_needs}

-- the set of the range only shrinks when the family shrinks, empty sets included
pub record IsMonotone (M : ℕ) (r : Range) : Type 0 where
  pub grows : (S S' : Family) → IsFamily M S → IsFamily M S' → IsInside S S' → IsSubset (set_of M S r) (set_of M S' r)

-- What the table accepts is monotone, once its parameters are integers that meet their needs.
abbrev pub AcceptedIsMonotone : Type 0
AcceptedIsMonotone = (M : ℕ) (r : Range) (p : ℕ → ℤ) → IsTrue (range_fits M r true) → IsTrue (meets_needs p r) → IsMonotone M (fill_range p r)
