-- Sums whose numbers are integers of the language.
use Rattle.std.specs.Prelude.{◌≡◌, ℕ, true, ℤ, if◌then◌else◌, List, Result, Ok, Err}
use Rattle.std.specs.List.{list_all}
use Rattle.fd_model.specs.declared.kinds.QueryFault.{QueryFault}
use Rattle.fd_model.specs.declared.kinds.QueryFault.TheVariants.{Evaluation}
use Rattle.fd_model.specs.Linear as linear
use Rattle.fd_model.specs.Linear.{in_integers}

-- the coefficients are integers of the language
abbrev pub AreIntegers : List (ℕ × ℤ) → Type 0
AreIntegers ts = list_all (λ t. in_integers t.1) ts ≡ true

-- the coefficients and the constant are integers of the language
abbrev pub IsInside : linear.Linear → Type 0
IsInside l = AreIntegers l.products × (in_integers l.constant ≡ true)

-- the form, where its constant is an integer of the language
abbrev pub checked_form : linear.Linear → Result linear.Linear QueryFault
checked_form l = if in_integers l.constant then Ok l else Err Evaluation
