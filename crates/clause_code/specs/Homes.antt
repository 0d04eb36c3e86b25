-- The registers of a clause's variables while its code is written.
use Rattle.std.specs.Prelude.{ℕ, nat_lt, Bool, true, ◌&&◌}
use Rattle.fd_language.specs.Term.{Term, Terms, Var, Int, Atom, Comp, no_terms, term}

-- ---- from a goal on

-- each variable of the term is below n
abbrev mutual
  pub is_below : ℕ → Term → Bool
  is_below n (Var x) = nat_lt x n
  is_below n (Int z) = true
  is_below n (Atom a) = true
  is_below n (Comp f ts) = are_below n ts

  pub are_below : ℕ → Terms → Bool
  are_below n no_terms = true
  are_below n (term t ts) = is_below n t && are_below n ts
