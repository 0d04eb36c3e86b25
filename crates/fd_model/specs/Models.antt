-- Models of equations and posted ranges.
use Rattle.std.specs.Prelude.{ℕ, IsTrue, List}
use Rattle.fd_language.specs.Term.{Substitution}
use Rattle.fd_language.specs.Unifier.{Equation, IsMostGeneral}
use Rattle.fd_language.specs.Family.{Family, has}
use Rattle.fd_language.specs.Range.{Indexical}
use Rattle.fd_model.specs.ClosedFamilies.{IsClosed, constrained}

-- a closed family in which no constrained variable is without a value
pub record IsModel (M N : ℕ) (es : List Equation) (ps : List Indexical) (S : Family) : Type 0 where
  pub unifier : Substitution
  pub general : IsMostGeneral es unifier
  pub closed : IsClosed M N unifier ps S
  pub full : (x : ℕ) → IsTrue (has (constrained ps) x) → (n : ℕ) × IsTrue (has (S x) n)
