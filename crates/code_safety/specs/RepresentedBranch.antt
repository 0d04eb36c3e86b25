-- What instructions keep of the branch that a machine stands for.
use Rattle.std.specs.Prelude.{◌≡◌, ℕ, suc, ◌≤◌, Bool, true, false, List}
use Rattle.fd_language.specs.declared.TheConstants.{INFINITY}
use Rattle.fd_language.specs.Family.{Family}
use Rattle.fd_model.specs.Goal.{Branch}
use Rattle.fd_model.specs.Models.{IsModel}
use Rattle.heap_cells.specs.Terms.{Naming, IsOneToOne}
use Rattle.term_pool.specs.declared.AtomId.{AtomId}
use Rattle.branch_state.specs.States as branch
use Rattle.wam_code.specs.Area.{Area, name_of}
use Rattle.wam_code.specs.VerifiedCode.{IsAtom}
use Rattle.code_areas.specs.Areas.{Contents}
use Rattle.code_meaning.specs.StateMeaning.{Stands}
use Rattle.code_safety.specs.Machine.{registers_of, stack_of}
use Rattle.code_safety.specs.declared.instruction_outcomes.Went.{Went}
use Rattle.code_safety.specs.declared.instruction_outcomes.Went.TheVariants.{On, Back}

-- The names tell atoms apart, and the code's atoms have their own.
pub record IsNaming (area : Area) (name : Naming) : Type 0 where
  pub apart : IsOneToOne name
  pub same : (c : AtomId) → IsAtom area c → name c ≡ name_of area c

abbrev pub HasNoModel : ℕ → Branch → Type 0
HasNoModel N b = (S : Family) → IsModel INFINITY N b.equations b.posted S → ⊥

-- The machine stands for the branch b, where its choice points have such marks, and no variable has a number beyond N.
abbrev pub StandsForBranch : ℕ → List ℕ → Area → List ℕ → Naming → branch.State → ℕ → Contents → Branch → Type 0
StandsForBranch N marks area shown name s at c b = Stands INFINITY N marks area shown name s.heaps.now s.levels.current.posted at (registers_of c) (stack_of c) b

-- It does so where an instruction leads, or the branch has no model.
abbrev pub StandsThen : ℕ → List ℕ → Area → List ℕ → Naming → branch.State → Contents → Went → Branch → Type 0
StandsThen N marks area shown name s c (On to) b = StandsForBranch N marks area shown name s to c b
StandsThen N marks area shown name s c Back b = HasNoModel N b

-- Each branch that the machine stood for it stands for then.
abbrev pub KeepsStanding : Area → branch.State → ℕ → Contents → branch.State → Contents → Went → Type 0
KeepsStanding area s at c s' c' w = (N : ℕ) (small : N ≤ INFINITY) (marks : List ℕ) (shown : List ℕ) (name : Naming) (b : Branch) → IsNaming area name
    → StandsForBranch N marks area shown name s at c b → StandsThen N marks area shown name s' c' w b

-- to the next place where two cells were made equal, and else back
abbrev pub went_by : ℕ → Bool → Went
went_by at true = On (suc at)
went_by at false = Back

-- to a place where it was so, and else back
abbrev pub went_to : ℕ → Bool → Went
went_to at true = On at
went_to at false = Back
