-- Unifier. Unifiers, and most general ones.
use Rattle.std.specs.Prelude.{◌≡◌, ℕ, List, [], ◌∷◌}
use Rattle.fd_language.specs.Term.{Term, Substitution, apply}

pub record Equation : Type 0 where
  pub left : Term
  pub right : Term

-- both sides of each equation become the same finite term
abbrev pub Unifies : Substitution → List Equation → Type 0
Unifies u [] = Unit {0}
Unifies u (e ∷ es) = (apply u e.left ≡ apply u e.right) × Unifies u es

-- s unifies, and each unifier goes through it
pub record IsMostGeneral (es : List Equation) (s : Substitution) : Type 0 where
  pub unifies : Unifies s es
  pub general : (u : Substitution) (x : ℕ) → Unifies u es → apply u (s x) ≡ u x
