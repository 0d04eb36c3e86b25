-- Consistent and Seen. Consistent branches, and terms as they are seen in a branch.
use Rattle.std.specs.Prelude.{◌≡◌, ℕ, ◌≤◌, pos, ◌==◌, Bool, false, IsTrue, if◌then◌else◌, List, [], ◌∷◌, Option, Some, None}
use Rattle.fd_language.specs.Term.{Term, Var, Int, Substitution, apply}
use Rattle.fd_language.specs.Unifier.{Equation, IsMostGeneral}
use Rattle.fd_language.specs.Family.{Family, has, IsInside}
use Rattle.fd_language.specs.Range.{Indexical}
use Rattle.fd_model.specs.ClosedFamilies.{IsClosed, constrained}
use Rattle.fd_model.specs.Domains.{Domains}

-- Consistent: there is a unifier, and no constrained variable is without a value
pub record IsConsistent (M N : ℕ) (es : List Equation) (ps : List Indexical) : Type 0 where
  pub unifier : Substitution
  pub general : IsMostGeneral es unifier
  pub some : (x : ℕ) → IsTrue (has (constrained ps) x) → (n : ℕ) × Domains M N es ps x n

-- The most general unifier that takes equal variables to the least of them, and the family that Domains gives. There is one such view of a branch.
pub record IsView (M N : ℕ) (es : List Equation) (ps : List Indexical) (s : Substitution) (D : Family) : Type 0 where
  pub general : IsMostGeneral es s
  pub least : (x y : ℕ) → s x ≡ Var y → y ≤ x
  pub closed : IsClosed M N s ps D
  pub contains : (S : Family) → IsClosed M N s ps S → IsInside S D

abbrev pub is_variable : Term → ℕ → Bool
is_variable (Var x) y = x == y
is_variable _ y = false

-- the set of the constrained variables, of those listed, that s takes to y
abbrev pub set_at : Substitution → Family → List ℕ → ℕ → Option (List ℕ)
set_at s D [] y = None
set_at s D (w ∷ ws) y = if is_variable (s w) y then Some (D w) else set_at s D ws y

-- a variable with exactly one value is that integer
abbrev pub by_set : Option (List ℕ) → ℕ → Term
by_set None y = Var y
by_set (Some []) y = Var y
by_set (Some (n ∷ [])) y = Int (pos n)
by_set (Some (n ∷ m ∷ ms)) y = Var y

-- Seen
abbrev pub seen : Substitution → Family → List ℕ → Term → Term
seen s D ws t = apply (λ y. by_set (set_at s D ws y) y) (apply s t)
