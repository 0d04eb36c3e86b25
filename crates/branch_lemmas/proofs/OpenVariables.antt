-- A term that is read as an open variable is one.
use Rattle.std.proofs.Common.{◌≡◌, ℕ, List, [], ◌∷◌, Option, Some, None, ap}
use Rattle.fd_language.specs.Term.{Term, Var, Int, Atom, Comp}
use Rattle.fd_language.specs.Family.{Family}
use Rattle.heap_cells.specs.Cells.{Cells}
use Rattle.fd_language.specs.SingleValues.{value_in, value_at}
use Rattle.heap_cells.specs.SeenTerms.{link_in, read_term}

-- a variable that is read as open is open
value_var : (xs : List ℕ) (c d : ℕ) → value_in xs c ≡ Var d → c ≡ d
value_var [] c d e = cc
value_var (w ∷ []) c d e = absurd (cc)
value_var (w ∷ v ∷ ws) c d e = cc

value_open : (o : Option ℕ) (G : Family) (c d : ℕ) → value_at o G c ≡ Var d → c ≡ d
value_open None G c d e = cc
value_open (Some k) G c d e = value_var (G k) c d e

pub unsettled : (h : Cells) (G : Family) (t : Term) (d : ℕ) → read_term h G t ≡ Var d → t ≡ Var d
unsettled h G (Var c) d e = ap Var (value_open (link_in h c) G c d e)
unsettled h G (Int z) d e = e
unsettled h G (Atom a) d e = e
unsettled h G (Comp f ts) d e = absurd (cc)
