-- The statements of the laws on the check.
use Rattle.std.specs.Prelude.{◌≡◌, ◌↔◌, ℕ, ◌-◌, ◌^◌, ◌≤◌, ℤ, pos, ◌≤ℤ◌, nat_abs, IsTrue, List, None}
use Rattle.std.specs.List.{All}
use Rattle.fd_language.specs.Range.{Range}
use Rattle.fd_language.specs.Family.{Family, IsFamily}
use Rattle.fd_language.specs.Needs.{meets_needs}
use Rattle.fd_language.specs.Check.{fill_range}
use Rattle.fd_language.specs.EvaluatedValues.{range_values, range_divisors}
use Rattle.fd_language.specs.RangeVerdict.{verdict, is_accepted}

-- The verdict finds no offence exactly where all nodes keep the limit, the direction table fits and no variable has two uses.
abbrev pub VerdictAgrees : Type 0
VerdictAgrees = (M : ℕ) (places : List ℕ) (r : Range) → (verdict M places r ≡ None) ↔ IsTrue (is_accepted M r)

-- Of an accepted range whose parameters are integers that meet their needs, every value keeps the limit, and no divisor is negative.
pub record AreBounded (M : ℕ) (S : Family) (r : Range) : Type 0 where
  pub values : All (λ z. nat_abs z ≤ 2 ^ 126 - 1) (range_values M S r)
  pub divisors : All (λ z. pos 0 ≤ℤ z) (range_divisors M S r)

abbrev pub BoundedValues : Type 0
BoundedValues = (M : ℕ) (r : Range) (p : ℕ → ℤ) (S : Family) → IsTrue (is_accepted M r) → IsTrue (meets_needs p r) → IsFamily M S → AreBounded M S (fill_range p r)
