-- What a heap stands for: a most general unifier of a branch's equations, in the heap's own cells.
use Rattle.std.specs.Prelude.{◌≡◌, ℕ, ◌<◌, List, [], ◌∷◌}
use Rattle.fd_language.specs.Term.{Term, Terms, Var, Int, Atom, Comp, no_terms, term, Substitution, apply}
pub use Rattle.fd_language.specs.Term.{after}
use Rattle.fd_language.specs.Unifier.{Equation, Unifies}

-- the equation with s applied
abbrev pub applied : Substitution → Equation → Equation
applied s e = record { left = apply s e.left; right = apply s e.right }

-- the equations with s applied
abbrev pub applied_each : Substitution → List Equation → List Equation
applied_each s [] = []
applied_each s (e ∷ es) = applied s e ∷ applied_each s es

-- each variable of the term is one of P
abbrev mutual
  pub Of : (ℕ → Type 0) → Term → Type 0
  Of P (Var x) = P x
  Of P (Int z) = Unit {0}
  Of P (Atom a) = Unit {0}
  Of P (Comp f ts) = AllOf P ts

  pub AllOf : (ℕ → Type 0) → Terms → Type 0
  AllOf P no_terms = Unit {0}
  AllOf P (term t ts) = Of P t × AllOf P ts

abbrev pub EquationsOf : (ℕ → Type 0) → List Equation → Type 0
EquationsOf P [] = Unit {0}
EquationsOf P (e ∷ es) = (Of P e.left × Of P e.right) × EquationsOf P es

abbrev pub Below : ℕ → Term → Type 0
Below n t = Of (λ x. x < n) t

-- look takes each known variable, that is each of P, to its term over h cells, and each unifier goes through it
pub record StandsForEquations (es : List Equation) (P : ℕ → Type 0) (h : ℕ) (look : Substitution) : Type 0 where
  pub scoped : EquationsOf P es
  pub unifies : Unifies look es
  pub through : (u : Substitution) → Unifies u es → (back : Substitution) × ((x : ℕ) → P x → apply back (look x) ≡ u x)
  pub cells : (x : ℕ) → P x → Below h (look x)
