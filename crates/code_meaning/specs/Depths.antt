-- Depths of a search: numbers of choice points, counted from the oldest, with the number of branches that a cut to them keeps.
use Rattle.std.specs.Prelude.{◌≡◌, ◌⊎◌, ℕ, ◌≤◌, List, [], ◌∷◌, Option, Some, length}
use Rattle.branch_meaning.specs.RemainingEvents.{at_level, at_top}
use Rattle.wam_code.specs.Places.{Depth}
use Rattle.wam_code.specs.CodeMeaning.{Return}
use Rattle.code_meaning.specs.Registers.{Registers, Saved}

-- The depth is one of the search whose choice points have these marks: so many choice points are there, and so many branches stand at that level.
pub record IsDepth (marks : List ℕ) (d : Depth) : Type 0 where
  pub points : d.points ≤ length marks
  pub branches : at_level marks d.points ≡ d.branches

-- the depth of them all: what a call notes, and what a test finds
abbrev pub depth_of : List ℕ → Depth
depth_of marks = record { points = length marks; branches = at_top marks }

-- each depth that the code counts on is one of the search, and its slot has the number of choice points
abbrev pub AreDepths : List ℕ → (ℕ → Option Depth) → (ℕ → Option ℕ) → Type 0
AreDepths marks depths numbers = (n : ℕ) (d : Depth) → depths n ≡ Some d → (numbers n ≡ Some d.points) × IsDepth marks d

-- no depth of the continuations is above this one
abbrev pub IsFloor : Depth → List Return → Type 0
IsFloor d [] = Unit {0}
IsFloor d (r ∷ rs) = ((n : ℕ) (e : Depth) → r.levels n ≡ Some e → e.points ≤ d.points) × IsFloor d rs

-- a depth that the code counts on, in a slot or as what was noted
abbrev pub IsCounted : (ℕ → Option Depth) → Option Depth → Depth → Type 0
IsCounted levels noted d = ((n : ℕ) × (levels n ≡ Some d)) ⊎ (noted ≡ Some d)

-- Each continuation's slots have its depths, of which none is below one of the continuations behind it.
abbrev pub AllLeveled : List ℕ → List Return → List Saved → Type 0
AllLeveled marks [] [] = Unit {0}
AllLeveled marks [] (s ∷ ss) = ⊥
AllLeveled marks (r ∷ rs) [] = ⊥
AllLeveled marks (r ∷ rs) (s ∷ ss) = AreDepths marks r.levels s.levels × ((n : ℕ) (d : Depth) → r.levels n ≡ Some d → IsFloor d rs) × AllLeveled marks rs ss

-- The depths that the code counts on, in slots and as what was noted, are depths of the search whose choice points have these marks, and the machine has their
-- numbers. None is below a depth of a continuation.
pub record IsLeveled (marks : List ℕ) (depths : ℕ → Option Depth) (last : Option Depth) (c : Registers) (returns : List Return) (stack : List Saved) : Type 0 where
  pub levels : AreDepths marks depths c.levels
  pub noted : (d : Depth) → last ≡ Some d → (c.noted ≡ d.points) × IsDepth marks d
  pub above : (d : Depth) → IsCounted depths last d → IsFloor d returns
  pub saved : AllLeveled marks returns stack
