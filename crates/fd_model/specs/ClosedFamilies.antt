-- Closed. Families closed under equations and posted ranges, by a most general unifier of the equations. M is the greatest number of the universe, and N, which
-- is one of its numbers, the greatest that a variable may have.
use Rattle.std.specs.Prelude.{◌≡◌, ℕ, ◌≤◌, IsTrue, ℤ, pos, List, [], ◌∷◌, ◌++◌}
use Rattle.fd_language.specs.Term.{Terms, Var, Int, Atom, Comp, Name, Substitution}
use Rattle.fd_language.specs.Family.{Family, has, IsFamily, IsSubset}
use Rattle.fd_language.specs.Range.{Indexical, set_of, reads}

-- the variables that the posted ranges name as target or by min, max, dom or val
abbrev pub constrained : List Indexical → List ℕ
constrained [] = []
constrained (p ∷ ps) = p.target ∷ (reads p.range ++ constrained ps)

abbrev pub AllPosted : (Indexical → Type 0) → List Indexical → Type 0
AllPosted H [] = Unit {0}
AllPosted H (p ∷ ps) = H p × AllPosted H ps

pub record IsClosed (M N : ℕ) (s : Substitution) (ps : List Indexical) (S : Family) : Type 0 where
  pub family : IsFamily M S
  pub posted : AllPosted (λ p. IsSubset (S p.target) (set_of M S p.range)) ps
  pub values : (v : ℕ) (z : ℤ) (n : ℕ) → IsTrue (has (constrained ps) v) → s v ≡ Int z → IsTrue (has (S v) n) → pos n ≡ z
  pub same : (v w x : ℕ) → IsTrue (has (constrained ps) v) → IsTrue (has (constrained ps) w) → s v ≡ Var x → s w ≡ Var x → S v ≡ S w
  pub atoms : (v : ℕ) (a : Name) → IsTrue (has (constrained ps) v) → s v ≡ Atom a → S v ≡ []
  pub compounds : (v : ℕ) (f : Name) (ts : Terms) → IsTrue (has (constrained ps) v) → s v ≡ Comp f ts → S v ≡ []
  pub within : (v n : ℕ) → IsTrue (has (constrained ps) v) → IsTrue (has (S v) n) → n ≤ N
