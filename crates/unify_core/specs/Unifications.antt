-- What a unification leaves.
use Rattle.std.specs.Prelude.{◌≡◌, ℕ, ◌<◌, ◌≤◌, List, [], ◌∷◌, ◌++◌, length}
use Rattle.fd_language.specs.Term.{Var, Substitution, apply}
use Rattle.fd_language.specs.Unifier.{Equation, IsMostGeneral}
use Rattle.fd_language.specs.Variables.{TermBelow}
use Rattle.heap_cells.specs.declared.Cell.{Cell}
use Rattle.heap_cells.specs.Cells.{Cells}
use Rattle.heap_cells.specs.Terms.{Naming, IsOneToOne, term_of}
use Rattle.heap_cells.specs.Atoms.{IsAtomBelow, HasAtomsBelow}
use Rattle.unify_core.specs.declared.Touch.{Touch}
use Rattle.unify_core.specs.Touches.{AreTouched, IsRefuted}
use Rattle.unify_core.specs.PairReduction.{IsSameSize}

-- the equation of two cells' terms
abbrev pub cells_equal : Naming → Cells → Cell → Cell → List Equation
cells_equal name h a b = record { left = term_of name h a; right = term_of name h b } ∷ []

-- Each cell stands for its old term under a most general unifier of the two terms.
pub record IsUnified (name : Naming) (old : Cells) (a b : Cell) (now : Cells)
    (ts : List Touch) : Type 0 where
  pub unifier : Substitution
  pub general : IsMostGeneral (cells_equal name old a b) unifier
  pub terms : (c : Cell) → term_of name now c ≡ apply unifier (term_of name old c)
  -- the unifier keeps to the heap's variables
  pub cells : (c : ℕ) → c < length old.slots → TermBelow (length old.slots) (unifier c)
  pub outside : (c : ℕ) → length old.slots ≤ c → unifier c ≡ Var c
  pub touches : AreTouched old now unifier ts

-- under whatever names the atoms have
abbrev pub AreUnified : Cells → Cell → Cell → Cells → List Touch → Type 0
AreUnified old a b now ts = (name : Naming) → IsUnified name old a b now ts

-- Under names that tell the atoms apart, each unifier makes a variable of the store an atom or a compound term.
abbrev pub CannotUnify : Cells → Cell → Cell → Type 0
CannotUnify h a b = (name : Naming) → IsOneToOne name → IsRefuted h (cells_equal name h a b)

-- where the atoms of the heap and of the two cells were among the first n, those of the heap are so still
abbrev pub KeepsAtoms : Cells → Cell → Cell → Cells → Type 0
KeepsAtoms old a b now = (n : ℕ) → HasAtomsBelow n old → IsAtomBelow n a → IsAtomBelow n b
    → HasAtomsBelow n now

-- The cells are equal now; what the store is to be told is behind what it was to be told before.
pub record IsEqualled (old : Cells) (a b : Cell) (now : Cells)
    (before after : List Touch) : Type 0 where
  pub more : List Touch
  pub touches : after ≡ before ++ more
  pub unified : AreUnified old a b now more
  pub size : IsSameSize old now
