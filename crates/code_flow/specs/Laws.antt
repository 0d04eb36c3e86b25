-- The statements of the laws.
use Rattle.std.specs.Prelude.{◌↔◌, ℕ, List}
use Rattle.wam_code.specs.Area.{State, Area}
use Rattle.wam_code.specs.VerifiedCode.{IsVerifiedBy}
use Rattle.code_flow.specs.PlaceConditions.{FitsAt, IsFirstFailing}

-- Code is verified by states exactly where each place meets the conditions that belong to it; so no place is the first that fails.
pub record PlacesDecide : Type 0 where
  pub meets : (a : Area) (ss : List State) → IsVerifiedBy a ss ↔ ((at : ℕ) → FitsAt a ss at)
  pub none_fails : (a : Area) (ss : List State) (at : ℕ) → IsVerifiedBy a ss → ¬ IsFirstFailing a ss at
