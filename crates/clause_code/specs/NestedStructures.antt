-- A structure inside a structure, taken out of it.
use Rattle.std.specs.Prelude.{ℕ, List, ◌∷◌}
use Rattle.fd_language.specs.Term.{Name, Term, Terms, Var, Comp, term, joined_terms}
use Rattle.fd_language.specs.Unifier.{Equation}

-- t is the structure with these arguments, of which u is one
abbrev pub whole : Term → Name → Terms → Term → Terms → List Equation → List Equation
whole t f xs u ys later = record { left = t; right = Comp f (joined_terms xs (term u ys)) } ∷ later

-- and the same with the variable n for u, which is equated with it next
abbrev pub apart : ℕ → Term → Name → Terms → Term → Terms → List Equation → List Equation
apart n t f xs u ys later = record { left = t; right = Comp f (joined_terms xs (term (Var n) ys)) } ∷ record { left = Var n; right = u } ∷ later
