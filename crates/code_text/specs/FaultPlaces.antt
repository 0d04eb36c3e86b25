-- Places at which a condition fails, as they are told one after another: the smallest is kept.
use Rattle.std.specs.Prelude.{◌≡◌, ◌⊎◌, ℕ, ◌≤◌, List, Option, Some, None}
use Rattle.wam_code.specs.Area.{State, Area}
use Rattle.code_flow.specs.PlaceConditions.{FitsAt}

-- a place up to this one is told
abbrev pub IsTold : Option ℕ → ℕ → Type 0
IsTold None p = ⊥
IsTold (Some f) p = f ≤ p

-- No more is told than a place of which this is true, which wasn't told before.
pub record Tells (Is : ℕ → Type 0) (old new : Option ℕ) : Type 0 where
  pub kept : (p : ℕ) → IsTold old p → IsTold new p
  pub only : (new ≡ old) ⊎ ((p : ℕ) × (new ≡ Some p) × Is p × ¬ IsTold old p)

-- a condition fails at the place that is told
abbrev pub IsFault : Area → List State → Option ℕ → Type 0
IsFault a ss None = Unit {0}
IsFault a ss (Some p) = ¬ FitsAt a ss p

-- What was told stays told, and what is told newly is a place at which a condition fails.
pub record TellsFaults (a : Area) (ss : List State) (old new : Option ℕ) : Type 0 where
  pub kept : (p : ℕ) → IsTold old p → IsTold new p
  pub fault : IsFault a ss old → IsFault a ss new
