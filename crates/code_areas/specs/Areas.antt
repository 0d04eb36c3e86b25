-- What a machine keeps beside its heap and its store, as callers see it.
use Rattle.std.specs.Prelude.{◌≡◌, ℕ, List, [], Option, Some, None, slice_index_or}
use Rattle.heap_cells.specs.declared.Cell.{Cell}

-- a register or a slot: it is not set, or holds a cell, or a level, which is a number of choice points
pub data Held : Type 0 where
  nothing_held : Held
  holds : Cell → Held
  level : ℕ → Held

abbrev pub Places : Type 0
Places = List Held

abbrev pub cell_of : Held → Option Cell
cell_of (holds d) = Some d
cell_of _ = None

abbrev pub level_of : Held → Option ℕ
level_of (level n) = Some n
level_of _ = None

-- the cell at a number: none past the end
abbrev pub cell_at : Places → ℕ → Option Cell
cell_at cells n = cell_of (slice_index_or cells n nothing_held)

-- and the level
abbrev pub level_at : Places → ℕ → Option ℕ
level_at cells n = level_of (slice_index_or cells n nothing_held)

abbrev pub IsLevelSet : Places → ℕ → Type 0
IsLevelSet cells n = (k : ℕ) × (level_at cells n ≡ Some k)

abbrev pub IsSet : Places → ℕ → Type 0
IsSet cells n = (d : Cell) × (cell_at cells n ≡ Some d)

-- the same cells but that d stands at the number n
pub record IsPut (old : Places) (n : ℕ) (d : Cell) (new : Places) : Type 0 where
  pub here : cell_at new n ≡ Some d
  pub else : (k : ℕ) → (k ≡ n → ⊥) → cell_at new k ≡ cell_at old k

-- where a call goes on when it returns, with which slots
pub record Return : Type 0 where
  pub to : ℕ
  pub slots : Places

-- a place to come back to, with the registers, the slots and the continuations of when it was saved
pub record Point : Type 0 where
  pub place : ℕ
  pub registers : Places
  pub slots : Places
  pub returns : List Return
  pub noted : ℕ

-- the argument registers, the slots of the current frame, the continuations and the choice points,
-- the newest first, and how many choice points there were when it was noted
pub record Contents : Type 0 where
  pub registers : Places
  pub slots : Places
  pub returns : List Return
  pub points : List Point
  pub noted : ℕ

abbrev pub nothing : Contents
nothing = record { registers = []; slots = []; returns = []; points = []; noted = 0 }
