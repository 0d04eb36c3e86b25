-- Work on a heap: pairs of cells that are still to be made equal.
use Rattle.std.specs.Prelude.{◌≡◌, ℕ, ◌<◌, ◌≤◌, List, [], ◌∷◌, length}
use Rattle.fd_language.specs.Term.{Var, Substitution, apply}
use Rattle.fd_language.specs.Unifier.{Equation, Unifies}
use Rattle.fd_language.specs.Variables.{TermBelow}
use Rattle.heap_cells.specs.declared.Cell.{Cell}
use Rattle.heap_cells.specs.Cells.{Cells, IsOf}
use Rattle.heap_cells.specs.Terms.{Naming, term_of, after}
use Rattle.heap_cells.specs.Atoms.{IsAtomBelow}
use Rattle.unify_core.specs.declared.Pair.{Pair}
use Rattle.unify_core.specs.declared.Touch.{Touch}
use Rattle.unify_core.specs.Touches.{AreTouched}

abbrev pub equation : Naming → Cells → Pair → Equation
equation name h p = record { left = term_of name h p.left; right = term_of name h p.right }

abbrev pub equations : Naming → Cells → List Pair → List Equation
equations name h [] = []
equations name h (p ∷ ps) = equation name h p ∷ equations name h ps

-- A heap with work becomes another heap with other work: the variables have new terms, and the new work says of the new heap what
-- the old work said of the old one.
pub record Reduces (name : Naming) (old : Cells) (work : List Pair) (now : Cells) (left : List Pair)
    (ts : List Touch) : Type 0 where
  pub new : Substitution
  pub terms : (c : Cell) → term_of name now c ≡ apply new (term_of name old c)
  pub forth : (u : Substitution) → Unifies u (equations name old work)
      → ((x : ℕ) → apply u (new x) ≡ u x) × Unifies u (equations name now left)
  pub back : (r : Substitution) → Unifies r (equations name now left)
      → Unifies (after r new) (equations name old work)
  pub cells : (c : ℕ) → c < length old.slots → TermBelow (length old.slots) (new c)
  pub outside : (c : ℕ) → length old.slots ≤ c → new c ≡ Var c
  pub touches : AreTouched old now new ts

-- the cells of the work are of the heap
abbrev pub IsOwn : Cells → Pair → Type 0
IsOwn h p = IsOf h p.left × IsOf h p.right

-- the pair's atoms are among the first n
abbrev pub HasAtoms : ℕ → Pair → Type 0
HasAtoms n p = IsAtomBelow n p.left × IsAtomBelow n p.right

-- the heap has as many variables and compound terms as before
pub record IsSameSize (old now : Cells) : Type 0 where
  pub slots : length now.slots ≡ length old.slots
  pub compounds : now.compounds ≡ old.compounds
