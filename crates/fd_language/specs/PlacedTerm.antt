-- PlacedTerm. Terms as they are read, each with the place of its principal token, in bytes of the text.
use Rattle.std.specs.Prelude.{ℕ, ℤ}
use Rattle.fd_language.specs.Term.{Name, Term, Terms, Var, Int, Atom, Comp, no_terms, term}

mutual
  pub data PlacedTerm : Type 0 where
    var : ℕ → ℕ → PlacedTerm
    int : ℤ → ℕ → PlacedTerm
    atom : Name → ℕ → PlacedTerm
    comp : Name → ℕ → PlacedTerms → PlacedTerm

  pub data PlacedTerms : Type 0 where
    no_parts : PlacedTerms
    part : PlacedTerm → PlacedTerms → PlacedTerms

abbrev pub append : PlacedTerms → PlacedTerms → PlacedTerms
append no_parts ys = ys
append (part x xs) ys = part x (append xs ys)

abbrev pub one : PlacedTerm → PlacedTerms
one t = part t no_parts

abbrev pub two : PlacedTerm → PlacedTerm → PlacedTerms
two a b = part a (part b no_parts)

abbrev pub with_last : PlacedTerms → PlacedTerm → PlacedTerms
with_last xs t = append xs (one t)

-- the place of the principal token: the operator of an operator term, the name of a functional term, the bracket of a list or curly term, the - of a negative
-- number, the token itself otherwise
abbrev pub place : PlacedTerm → ℕ
place (var n p) = p
place (int z p) = p
place (atom a p) = p
place (comp f p xs) = p

-- the term without its places
abbrev mutual
  pub plain : PlacedTerm → Term
  plain (var n p) = Var n
  plain (int z p) = Int z
  plain (atom a p) = Atom a
  plain (comp f p xs) = Comp f (all_plain xs)

  pub all_plain : PlacedTerms → Terms
  all_plain no_parts = no_terms
  all_plain (part t ts) = term (plain t) (all_plain ts)
