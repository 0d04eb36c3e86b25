-- A variable whose set has one value is that integer.
use Rattle.std.specs.Prelude.{ℕ, pos, List, [], ◌∷◌, Option, Some, None}
use Rattle.fd_language.specs.Family.{Family}
use Rattle.fd_language.specs.Term.{Term, Var, Int}

-- the only member of a set
abbrev pub only : List ℕ → Option ℕ
only [] = None
only (w ∷ []) = Some w
only (w ∷ v ∷ ws) = None

-- the integer of a variable whose set has one value, and else the variable itself
abbrev pub value_in : List ℕ → ℕ → Term
value_in (w ∷ []) c = Int (pos w)
value_in _ c = Var c

-- the same, where a family has the set, if there is one
abbrev pub value_at : Option ℕ → Family → ℕ → Term
value_at None G c = Var c
value_at (Some k) G c = value_in (G k) c
