-- What the registers and slots hold, and the frames that are kept for later, with the terms of a branch for which the cells stand.
use Rattle.std.specs.Prelude.{◌≡◌, ℕ, suc, ◌≤◌, List, [], ◌∷◌, Option, Some}
use Rattle.fd_language.specs.Term.{Term, Terms, no_terms, term, Substitution, apply}
use Rattle.heap_cells.specs.declared.Cell.{Cell}
use Rattle.heap_cells.specs.Cells.{Cells, IsOf}
use Rattle.heap_cells.specs.Terms.{Naming, term_of}
use Rattle.branch_meaning.specs.Heap.{Of}
use Rattle.wam_code.specs.declared.instruction.Register.{Register}
use Rattle.wam_code.specs.declared.instruction.Register.TheVariants.{X, Y}
use Rattle.wam_code.specs.CodeMeaning.{Return}

-- the cells in the argument registers, and in the slots of the frame; the levels in slots, which are numbers of choice points, and the number that was noted
-- last
pub record Registers : Type 0 where
  pub x : ℕ → Option Cell
  pub y : ℕ → Option Cell
  pub levels : ℕ → Option ℕ
  pub noted : ℕ

-- a continuation: where to go on, with which slots
pub record Saved : Type 0 where
  pub to : ℕ
  pub slots : ℕ → Option Cell
  pub levels : ℕ → Option ℕ

abbrev pub cell_in : Registers → Register → Option Cell
cell_in c (X n) = c.x n
cell_in c (Y n) = c.y n

-- the same cells but that the i-th is d
pub record IsPut (old : ℕ → Option Cell) (i : ℕ) (d : Cell) (new : ℕ → Option Cell) : Type 0 where
  pub here : new i ≡ Some d
  pub else : (n : ℕ) → (n ≡ i → ⊥) → new n ≡ old n

abbrev pub AreSame : {A : Type 0} → (ℕ → Option A) → (ℕ → Option A) → Type 0
AreSame old new = (n : ℕ) → new n ≡ old n

-- the same but for the i-th
abbrev pub AreSameElse : {A : Type 0} → ℕ → (ℕ → Option A) → (ℕ → Option A) → Type 0
AreSameElse i old new = (n : ℕ) → (n ≡ i → ⊥) → new n ≡ old n

-- the same cells from 1 to k
abbrev pub AreSameTo : ℕ → (ℕ → Option Cell) → (ℕ → Option Cell) → Type 0
AreSameTo k old new = (n : ℕ) → 1 ≤ n → n ≤ k → new n ≡ old n

-- the same registers and slots but that this one holds d, and no level
abbrev pub IsWritten : Registers → Register → Cell → Registers → Type 0
IsWritten old (X n) d new = IsPut old.x n d new.x × AreSame old.y new.y × AreSame old.levels new.levels × (new.noted ≡ old.noted)
IsWritten old (Y n) d new = AreSame old.x new.x × IsPut old.y n d new.y × AreSameElse n old.levels new.levels × (new.noted ≡ old.noted)

-- the same registers and slots but that the slot n holds the level k, and no cell
pub record IsMarked (old : Registers) (n k : ℕ) (new : Registers) : Type 0 where
  pub xs : AreSame old.x new.x
  pub ys : AreSameElse n old.y new.y
  pub here : new.levels n ≡ Some k
  pub else : AreSameElse n old.levels new.levels
  pub noted : new.noted ≡ old.noted

-- The cell of the heap h stands for the term t of a branch, whose variables that the heap has are those of P. look takes each to its term.
pub record IsShown (name : Naming) (h : Cells) (look : Substitution) (P : ℕ → Type 0) (t : Term) (d : Cell) : Type 0 where
  pub known : Of P t
  pub own : IsOf h d
  pub value : apply look t ≡ term_of name h d

-- each register that the code counts on holds a cell that stands for its term
abbrev pub AreShown : Naming → Cells → Substitution → (ℕ → Type 0) → (ℕ → Option Term) → (ℕ → Option Cell) → Type 0
AreShown name h look P terms cells = (n : ℕ) (t : Term) → terms n ≡ Some t → (d : Cell) × (cells n ≡ Some d) × IsShown name h look P t d

-- the argument registers from i on hold the cells of these terms
abbrev pub AreHeld : Naming → Cells → Substitution → (ℕ → Type 0) → ℕ → (ℕ → Option Cell) → Terms → Type 0
AreHeld name h look P i cells no_terms = Unit {0}
AreHeld name h look P i cells (term t ts) = ((d : Cell) × (cells i ≡ Some d) × IsShown name h look P t d) × AreHeld name h look P (suc i) cells ts

-- the registers or slots from i on hold these cells
abbrev pub AreIn : (ℕ → Option Cell) → ℕ → List Cell → Type 0
AreIn cells i [] = Unit {0}
AreIn cells i (d ∷ ds) = (cells i ≡ Some d) × AreIn cells (suc i) ds

-- Each continuation goes on where it should, and its slots hold what they should. Their variables are below fresh.
abbrev pub AllShown : Naming → Cells → Substitution → (ℕ → Type 0) → ℕ → List Return → List Saved → Type 0
AllShown name h look P fresh [] [] = Unit {0}
AllShown name h look P fresh (r ∷ rs) [] = ⊥
AllShown name h look P fresh [] (s ∷ ss) = ⊥
AllShown name h look P fresh (r ∷ rs) (s ∷ ss) = (r.to ≡ s.to) × (r.own ≤ fresh) × AreShown name h look P r.slots s.slots × AllShown name h look P fresh rs ss
