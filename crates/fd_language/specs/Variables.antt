-- The variables of terms.
use Rattle.std.specs.Prelude.{ℕ, Bool, false, not, ◌||◌, ◌==◌, ◌<◌, List, [], ◌∷◌, ◌++◌, filter}
use Rattle.fd_language.specs.Term.{Term, Terms, Var, Int, Atom, Comp, no_terms, term}

-- the variables of a term, each where it stands
abbrev mutual
  pub variables_of : Term → List ℕ
  variables_of (Var x) = x ∷ []
  variables_of (Int z) = []
  variables_of (Atom a) = []
  variables_of (Comp f ts) = variables_of_all ts

  pub variables_of_all : Terms → List ℕ
  variables_of_all no_terms = []
  variables_of_all (term t ts) = variables_of t ++ variables_of_all ts

-- whether a variable occurs in a term
abbrev mutual
  pub occurs : ℕ → Term → Bool
  occurs x (Var y) = y == x
  occurs x (Int z) = false
  occurs x (Atom a) = false
  occurs x (Comp f ts) = occurs_any x ts

  pub occurs_any : ℕ → Terms → Bool
  occurs_any x no_terms = false
  occurs_any x (term t ts) = occurs x t || occurs_any x ts

-- each number once, in order of first occurrence
abbrev pub distinct : List ℕ → List ℕ
distinct [] = []
distinct (x ∷ xs) = x ∷ filter (λ y. not (x == y)) (distinct xs)

-- the variables of a term are below n
abbrev mutual
  pub TermBelow : ℕ → Term → Type 0
  TermBelow n (Var x) = x < n
  TermBelow n (Int z) = Unit {0}
  TermBelow n (Atom a) = Unit {0}
  TermBelow n (Comp f ts) = TermsBelow n ts

  pub TermsBelow : ℕ → Terms → Type 0
  TermsBelow n no_terms = Unit {0}
  TermsBelow n (term t ts) = TermBelow n t × TermsBelow n ts
