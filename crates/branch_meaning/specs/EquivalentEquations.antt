-- Equations with more variables, which say the same of the others.
use Rattle.std.specs.Prelude.{◌≡◌, ℕ, List}
use Rattle.fd_language.specs.Term.{Substitution}
use Rattle.fd_language.specs.Unifier.{Equation, Unifies}

-- The equations ds say of the variables of P what es say.
pub record SaysSame (P : ℕ → Type 0) (ds es : List Equation) : Type 0 where
  pub there : (u : Substitution) → Unifies u ds → Unifies u es
  pub back : (u : Substitution) → Unifies u es → (w : Substitution) × Unifies w ds × ((x : ℕ) → P x → w x ≡ u x)
