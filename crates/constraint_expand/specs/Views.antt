-- How an expansion is seen.
use Rattle.std.specs.Prelude.{◌≡◌, ℕ, ℤ, List, refl, Result}
use Rattle.std.specs.Coded.{Coded, code_by, coded×, coded_ℕ, coded_ℤ, coded_list}
use Rattle.fd_language.specs.Range.{Indexical}
use Rattle.fd_model.specs.declared.kinds.QueryFault.{QueryFault}
use Rattle.fd_model.specs.Levels.{indexical_coded}
use Rattle.fd_model.specs.LinearRows.{Expansion}
use Rattle.constraint_expand.specs.declared.faults.ExpandFault.{ExpandFault}
use Rattle.constraint_expand.specs.Faults.{Answers}

abbrev pub expansion_coded : Coded Expansion
expansion_coded = code_by (List (ℕ × ℤ) × (List Indexical × ℕ)) (coded× (coded_list (coded× coded_ℕ coded_ℤ)) (coded× (coded_list indexical_coded) coded_ℕ))
    (λ x. (x.equated, (x.ranges, x.fresh))) (λ d. record { equated = d.0; ranges = d.1.0; fresh = d.1.1 }) (λ _. refl)

-- the expansion that the definition gives, or its fault
abbrev pub Expands : Result Expansion QueryFault → Result Expansion ExpandFault → Type 0
Expands d r = Answers (λ x. x) d r

-- the same but for its ranges
pub record IsRest (old new : Expansion) : Type 0 where
  pub equated : new.equated ≡ old.equated
  pub fresh : new.fresh ≡ old.fresh
