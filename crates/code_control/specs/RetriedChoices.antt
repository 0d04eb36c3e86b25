-- What it comes to that a choice point is gone back to, and the choice at its place is taken: the point stays while a later clause may match.
use Rattle.std.specs.Prelude.{◌≡◌, ◌⊎◌, ℕ, ◌<◌, List, ◌∷◌, drop, Option, Some, None}
use Rattle.branch_state.specs.States as branch
use Rattle.branch_state.specs.States.{IsSound, IsUndone, with_pair, without_pairs}
use Rattle.wam_code.specs.Area.{Area}
use Rattle.code_areas.specs.Areas.{Point, Contents}
use Rattle.code_safety.specs.Choices.{point_of}
use Rattle.code_safety.specs.Safety.{IsSafe, IsSafeThen}
use Rattle.code_safety.specs.RemainingEvents.{Resumes}
use Rattle.code_safety.specs.Work.{work_at, work_then}
use Rattle.code_safety.specs.declared.instruction_outcomes.Went.{Went}
use Rattle.code_safety.specs.declared.instruction_outcomes.Went.TheVariants.{On}
use Rattle.code_control.specs.ClauseSelection.{MayMatchFrom, IsLater, LeavesOut, Chooses}

-- The pair below is the current one, and a copy of it stays below.
pub record IsUndoneAgain (old new : branch.State) : Type 0 where
  pub back : branch.State
  pub undone : IsUndone old back
  pub sound : IsSound back
  pub pair : new ≡ with_pair back
  pub kept : IsSound new

-- The newest choice point is for the place of the first choice from the place other on whose clause may match. Where none may, it is gone, and so is its pair.
abbrev pub KeptFor : Area → branch.State → ℕ → Contents → branch.State → Contents → Option ℕ → Type 0
KeptFor area s other c s' c' (Some at) =
    IsLater area s other at c × MayMatchFrom area s at c × (s' ≡ s) × ((p : Point) (ps : List Point) → c.points ≡ p ∷ ps → c' ≡ record c { points = record p { place = at } ∷ ps })
KeptFor area s other c s' c' None = (s' ≡ without_pairs s 1) × (c' ≡ record c { points = drop 1 c.points })

pub record KeepsPoint (area : Area) (s : branch.State) (other : ℕ) (c : Contents) (s' : branch.State) (c' : Contents) : Type 0 where
  pub at : Option ℕ
  pub out : LeavesOut area s other c at
  pub kept : KeptFor area s other c s' c' at

-- The newest choice point was gone back to, and taken away.
pub record IsBackAt (area : Area) (s : branch.State) (c : Contents) (s' : branch.State) (at : ℕ) (c' : Contents) : Type 0 where
  pub safe : IsSafe area s' at 0 c'
  pub runs : Resumes area s c s' at c'
  pub branch : IsUndone s s'
  pub points : c.points ≡ point_of c' at ∷ c'.points

-- A choice was taken.
pub record IsTaken (area : Area) (s : branch.State) (at : ℕ) (c : Contents) (s' : branch.State) (c' : Contents) (w : Went) : Type 0 where
  pub safe : IsSafeThen area s' c' w
  pub chooses : Chooses area s at c s' c' w
  pub falls : work_then area c' w < work_at area at c

-- The newest choice point was gone back to, and the choice at its place was taken, or none stands there.
pub record TriesAgain (area : Area) (s : branch.State) (c : Contents) (s' : branch.State) (c' : Contents) (to : ℕ) : Type 0 where
  pub back : branch.State
  pub at : ℕ
  pub areas : Contents
  pub gone : IsBackAt area s c back at areas
  pub taken : ((s' ≡ back) × (c' ≡ areas) × (to ≡ at)) ⊎ IsTaken area back at areas s' c' (On to)
