-- A branch as callers see it: heaps of cells with levels of a store, in pairs.
use Rattle.std.specs.Prelude.{◌≡◌, ℕ, ◌<◌, ◌≤◌, true, false, List, [], ◌∷◌, length, drop, Some}
use Rattle.fd_language.specs.declared.TheConstants.{INFINITY}
use Rattle.fd_language.specs.Family.{Family, has, IsInside}
use Rattle.fd_language.specs.Range.{Indexical}
use Rattle.fd_model.specs.ClosedFamilies.{constrained}
use Rattle.fd_model.specs.Levels.{Level, Levels}
use Rattle.fd_model.specs.Models.{IsModel}
use Rattle.heap_cells.specs.declared.Cell.{Cell}
use Rattle.heap_cells.specs.Atoms.{IsAtomBelow, HasAtomsBelow}
use Rattle.heap_cells.specs.Cells.{Cells, no_cells, Heaps, with_mark, IsOf}
use Rattle.heap_cells.specs.HeapInvariant.{IsHeap}
use Rattle.range_code.specs.Frames.{family_of}
use Rattle.branch_lemmas.specs.VariableBounds.{IsBounded}
use Rattle.branch_lemmas.specs.Frames.{link_in}

-- how many atoms cells may name, the greatest number that a variable may have, the heaps, and the levels of the store
pub record State : Type 0 where
  pub atoms : ℕ
  pub infinity : ℕ
  pub heaps : Heaps
  pub levels : Levels

-- Where no variable has a number beyond N, the sets are the greatest model of what is posted.
pub record IsSettled (N : ℕ) (l : Level) : Type 0 where
  pub model : IsModel INFINITY N [] l.posted (family_of l.sets)
  pub most : (R : Family) → IsModel INFINITY N [] l.posted R → IsInside R (family_of l.sets)

abbrev pub HasNoModel : ℕ → List Indexical → Type 0
HasNoModel N ps = (T : Family) → IsModel INFINITY N [] ps T → ⊥

-- Unless a variable may have each number of the universe, N is posted as the bound of each variable of the level.
abbrev pub HasBounds : ℕ → Level → Type 0
HasBounds N l = (k : ℕ) → k < length l.sets → (N ≡ INFINITY → ⊥) → IsBounded N l.posted k

-- A heap and a level of the store belong together: each variable of the store that the heap has is the level's, and that of one heap's variable alone. What is
-- posted names only the level's variables, bounds each of them, and it holds.
pub record IsPair (atoms N : ℕ) (h : Cells) (l : Level) : Type 0 where
  pub valid : IsHeap h
  pub names : HasAtomsBelow atoms h
  pub linked : (c k : ℕ) → link_in h c ≡ Some k → k < length l.sets
  pub one : (c d k : ℕ) → link_in h c ≡ Some k → link_in h d ≡ Some k → c ≡ d
  pub posted : (k : ℕ) → has (constrained l.posted) k ≡ true → k < length l.sets
  pub bounded : HasBounds N l
  pub live : l.failed ≡ false
  pub settled : IsSettled N l

abbrev pub ArePairs : ℕ → ℕ → List Cells → List Level → Type 0
ArePairs atoms N [] [] = Unit {0}
ArePairs atoms N (h ∷ hs) (l ∷ ls) = IsPair atoms N h l × ArePairs atoms N hs ls
ArePairs atoms N _ _ = ⊥

-- a variable may have several numbers, and none beyond those of the universe
abbrev pub IsGreatest : ℕ → Type 0
IsGreatest N = (1 ≤ N) × (N ≤ INFINITY)

-- what can be given back is in order, and memory wasn't wanting
pub record IsSoundBelow (s : State) : Type 0 where
  pub greatest : IsGreatest s.infinity
  pub unspent : s.levels.spent ≡ false
  pub marked : 0 < length s.heaps.below
  pub below : ArePairs s.atoms s.infinity s.heaps.below s.levels.below

-- and so is the current pair
pub record IsSound (s : State) : Type 0 where
  pub greatest : IsGreatest s.infinity
  pub unspent : s.levels.spent ≡ false
  pub marked : 0 < length s.heaps.below
  pub below : ArePairs s.atoms s.infinity s.heaps.below s.levels.below
  pub now : IsPair s.atoms s.infinity s.heaps.now s.levels.current

-- no variables, and nothing is posted
abbrev pub no_level : Level
no_level = record { posted = []; sets = []; failed = false }

-- an empty heap, with an equal one below it
abbrev pub first_heaps : Heaps
first_heaps = record { now = no_cells; below = no_cells ∷ [] }

-- a level without variables, with an equal one below it
abbrev pub first_levels : Levels
first_levels = record { current = no_level; below = no_level ∷ []; spent = false }

-- a new branch, with an empty pair below it
abbrev pub first_state : ℕ → ℕ → State
first_state atoms infinity = record { atoms = atoms; infinity = infinity; heaps = first_heaps; levels = first_levels }

-- another current heap
abbrev pub with_heap : State → Cells → State
with_heap s h = record s { heaps = record { now = h; below = s.heaps.below } }

-- a copy of the current pair below it
abbrev pub with_pair : State → State
with_pair s = record s {
  heaps = with_mark s.heaps;
  levels = record s.levels { below = s.levels.current ∷ s.levels.below };
}

-- the n newest of the pairs below are gone
abbrev pub without_pairs : State → ℕ → State
without_pairs s n = record s {
  heaps = record s.heaps { below = drop n s.heaps.below };
  levels = record s.levels { below = drop n s.levels.below };
}

-- the pair below is the current one now
pub record IsUndone (old new : State) : Type 0 where
  pub atoms : new.atoms ≡ old.atoms
  pub infinity : new.infinity ≡ old.infinity
  pub heaps : old.heaps.below ≡ new.heaps.now ∷ new.heaps.below
  pub levels : old.levels.below ≡ new.levels.current ∷ new.levels.below

-- nothing but the current pair is another one
pub record IsSameBelow (old new : State) : Type 0 where
  pub atoms : new.atoms ≡ old.atoms
  pub infinity : new.infinity ≡ old.infinity
  pub heaps : new.heaps.below ≡ old.heaps.below
  pub levels : new.levels.below ≡ old.levels.below

-- the cell is of the branch's heap
abbrev pub IsCell : State → Cell → Type 0
IsCell s c = IsOf s.heaps.now c × IsAtomBelow s.atoms c
