-- A structure of two arguments that is there, where the code gives registers for both that are met first.
use Rattle.std.specs.Prelude.{◌≡◌, ℕ, suc, Option, Some, None}
use Rattle.term_pool.specs.declared.AtomId.{AtomId}
use Rattle.branch_state.specs.States as branch
use Rattle.wam_code.specs.declared.instruction.Register.{Register}
use Rattle.wam_code.specs.declared.instruction.Code.TheVariants.{GetStructure, UnifyVariable}
use Rattle.wam_code.specs.Area.{Area, Holds}
use Rattle.code_areas.specs.Areas.{Contents}
use Rattle.code_safety.specs.Machine.{IsSameBehind}
use Rattle.code_safety.specs.Safety.{IsSafe}
use Rattle.code_safety.specs.RepresentedBranch.{KeepsStanding}
use Rattle.code_safety.specs.Work.{LeadsOn}
use Rattle.code_safety.specs.declared.instruction_outcomes.Went.TheVariants.{On}

-- The first argument is asked for a structure of two with this name, and these registers take both.
pub record IsPairAt (area : Area) (at : ℕ) (f : AtomId) (first second : Register) : Type 0 where
  pub asks : Holds area at (GetStructure f 2 1)
  pub first_is : Holds area (suc at) (UnifyVariable first)
  pub second_is : Holds area (suc (suc at)) (UnifyVariable second)

-- Both arguments were read, and the code goes on at the place.
pub record IsPairRead (area : Area) (s : branch.State) (at : ℕ) (c c' : Contents) (next : ℕ) : Type 0 where
  pub name : AtomId
  pub asks : Holds area at (GetStructure name 2 1)
  pub safe : IsSafe area s next 0 c'
  pub stands : KeepsStanding area s at c s c' (On next)
  pub leads : LeadsOn area at (On next)
  pub behind : IsSameBehind c c'

-- So it was, or nothing has changed.
abbrev pub GetsPair : Area → branch.State → ℕ → Contents → Contents → Option ℕ → Type 0
GetsPair area s at c c' (Some next) = IsPairRead area s at c c' next
GetsPair area s at c c' None = c' ≡ c
