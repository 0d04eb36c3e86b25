-- How what waits is held: the first few in an array, and the rest behind them.
use Rattle.std.specs.Prelude.{◌≡◌, ℕ, ◌<◌, ◌≤◌, List, [], ◌++◌, length, take}
use Rattle.builtin_calls.specs.declared.operations.OpenOperation.{OpenOperation}

abbrev pub all_open : List OpenOperation → ℕ → List OpenOperation → List OpenOperation
all_open near count far = take count near ++ far

-- nothing stands behind an array that isn't full
pub record IsFilled (near : List OpenOperation) (count : ℕ) (far : List OpenOperation) : Type 0 where
  pub within : count ≤ length near
  pub behind : count < length near → far ≡ []
