-- Models of equations and posted ranges.
use Rattle.std.specs.Prelude.{◌≡◌, ℕ, IsTrue, List, [], ◌∷◌}
use Rattle.fd_language.specs.Unifier.{Equation}
use Rattle.fd_language.specs.Family.{Family, has}
use Rattle.fd_language.specs.Range.{Indexical}
use Rattle.fd_model.specs.Children.{is_number}
use Rattle.fd_model.specs.ClosedFamilies.{constrained}
use Rattle.fd_model.specs.Models.{IsModel}

-- the list has some model
abbrev pub HasModel : ℕ → ℕ → List Indexical → Type 0
HasModel M N ps = (T : Family) × IsModel M N [] ps T

-- a variable with its integer
pub record Fix : Type 0 where
  pub variable : ℕ
  pub number : ℕ

abbrev pub numbers : List Fix → List Equation
numbers [] = []
numbers (f ∷ fs) = is_number f.variable f.number ∷ numbers fs

-- each of them is constrained, and each model gives it no other integer
abbrev pub Sure : ℕ → ℕ → List Equation → List Indexical → List Fix → Type 0
Sure M N es ps [] = Unit {0}
Sure M N es ps (f ∷ fs) = (IsTrue (has (constrained ps) f.variable) × ((S : Family) → IsModel M N es ps S → (k : ℕ) → IsTrue (has (S f.variable) k) → k ≡ f.number)) × Sure M N es ps fs
