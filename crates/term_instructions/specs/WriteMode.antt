-- The arguments of a structure that is built, gathered one by one.
use Rattle.std.specs.Prelude.{◌≡◌, ℕ, zero, suc, ◌-◌, ◌<◌, ◌≤◌, List, [], ◌∷◌, ◌++◌, length, All}
use Rattle.fd_language.specs.declared.TheConstants.{INFINITY}
use Rattle.fd_language.specs.Term.{Name}
use Rattle.fd_model.specs.Goal.{Branch}
use Rattle.heap_cells.specs.declared.Cell.{Cell}
use Rattle.heap_cells.specs.declared.Cell.TheVariants as cell
use Rattle.heap_cells.specs.Cells.{Cells, with_new_slot}
use Rattle.heap_cells.specs.Terms.{Naming, Same}
use Rattle.branch_lemmas.specs.Frames.{IsGrown}
use Rattle.branch_state.specs.States as branch
use Rattle.branch_state.specs.Compounds.{IsMade}
use Rattle.branch_state.specs.States.{IsCell, IsSameBelow, IsSound, with_heap}
use Rattle.term_pool.specs.declared.AtomId.{AtomId}
use Rattle.wam_code.specs.declared.instruction.Register.TheVariants.{X}
use Rattle.wam_code.specs.Area.{Area, name_of}
use Rattle.code_areas.specs.Areas.{Contents}
use Rattle.code_meaning.specs.Registers.{IsWritten}
use Rattle.code_meaning.specs.WriteMode.{End, GetEnd, PutEnd, Builds}
use Rattle.code_safety.specs.Machine.{registers_of, stack_of, IsSameBehind}
use Rattle.code_safety.specs.Safety.{IsSafe, IsSafeThen}
use Rattle.code_safety.specs.RepresentedBranch.{IsNaming, StandsThen}
use Rattle.code_safety.specs.declared.instruction_outcomes.Went.{Went}
use Rattle.code_safety.specs.declared.instruction_outcomes.Went.TheVariants.{On}
use Rattle.term_instructions.specs.declared.write_mode.Gathered.{Gathered}
use Rattle.term_instructions.specs.declared.write_mode.Gathered.TheVariants.{Pair, Listed}
use Rattle.term_instructions.specs.Arguments.{LeadsAmong, LeadsFrom}

-- what the structure is for: the head's argument with this cell, or a goal's argument in this
-- register
pub data Purpose : Type 0 where
  for_head : Cell → Purpose
  for_goal : ℕ → Purpose

abbrev pub end_of : Area → List ℕ → Branch → Name → Purpose → End
end_of area shown b f (for_head d) = GetEnd area shown b f
end_of area shown b f (for_goal r) = PutEnd area shown b f r

-- a head's argument is gathered first
abbrev pub gathered : Purpose → List Cell → List Cell
gathered (for_head d) cells = d ∷ cells
gathered (for_goal r) cells = cells

-- These cells are the first arguments of a structure with a name, of which so many are left to be
-- given from the place on.
abbrev pub BuildsAt : ℕ → List ℕ → Area → List ℕ → Naming → Name → Purpose → branch.State → ℕ → Contents → List Cell → ℕ → Branch → Type 0
BuildsAt N marks area shown name f use' s at c cells left b = Builds INFINITY N marks area shown name s.heaps.now s.levels.current.posted 0 at (registers_of c)
    (gathered use' cells) left (stack_of c) b (end_of area shown b f use')

-- It is safe to go on to a structure's n arguments, and the machine stands for the same branches.
pub record IsGatheredTo (area : Area) (n : ℕ) (s : branch.State) (at : ℕ) (c : Contents) (cells : List Cell) (s' : branch.State) (at' : ℕ) (c' : Contents) (cells' : List Cell) : Type 0 where
  pub safe : IsSafe area s' at' (n - length cells') c'
  pub within : length cells' ≤ n
  pub leads : LeadsAmong area at at'
  pub own : All (IsCell s') cells'
  pub stays : (d : Cell) → IsCell s d → IsCell s' d
  pub behind : IsSameBehind c c'
  pub below : IsSameBelow s s'
  pub grown : IsGrown s.heaps.now s'.heaps.now
  pub keeps : (N : ℕ) (small : N ≤ INFINITY) (marks : List ℕ) (shown : List ℕ) (name : Naming) (f : Name) (use' : Purpose) (b : Branch) → IsNaming area name
      → BuildsAt N marks area shown name f use' s at c cells (n - length cells) b
      → BuildsAt N marks area shown name f use' s' at' c' cells' (n - length cells') b

-- An instruction gave the cell d, the first of so many arguments that are left, whatever was gathered before.
abbrev pub GivesOne : Area → ℕ → branch.State → ℕ → Contents → branch.State → Contents → Cell
    → Type 0
GivesOne area left s at c s' c' d = (n : ℕ) (cells : List Cell) → n - length cells ≡ left
    → All (IsCell s) cells → IsGatheredTo area n s at c cells s' (suc at) c' (cells ++ d ∷ [])

-- Two arguments are gathered, as a pair, or as far as the place in the list.
abbrev pub GathersTwo : Area → branch.State → ℕ → Contents → branch.State → Contents → List Cell
    → Gathered → Type 0
GathersTwo area s from c s' c' cells (Pair a b next) = IsGatheredTo area 2 s from c [] s' next c'
    (a ∷ b ∷ [])
GathersTwo area s from c s' c' cells (Listed at) = IsGatheredTo area 2 s from c [] s' at c' cells

-- so many new variables of the heap are put behind the cells
abbrev pub AddsVariables : ℕ → Cells → List Cell → Cells → List Cell → Type 0
AddsVariables zero h cells h' cells' = (h' ≡ h) × (cells' ≡ cells)
AddsVariables (suc n) h cells h' cells' = AddsVariables n (with_new_slot h) (cells ++ cell.Ref (length h.slots) ∷ []) h' cells'

pub record AreVariablesAdded (n : ℕ) (s : branch.State) (cells : List Cell) (s' : branch.State) (cells' : List Cell) : Type 0 where
  pub added : AddsVariables n s.heaps.now cells s'.heaps.now cells'
  pub heap : s' ≡ with_heap s s'.heaps.now
  pub sound : IsSound s'

-- The structure was built and made equal to a head's argument with the cell d, and the machine
-- stands for the same branches.
pub record BuildsThen (area : Area) (f : AtomId) (n : ℕ) (d : Cell) (s : branch.State) (at : ℕ) (c : Contents) (s' : branch.State) (c' : Contents) (w : Went) : Type 0 where
  pub safe : IsSafeThen area s' c' w
  pub leads : LeadsFrom area at w
  pub behind : IsSameBehind c c'
  pub below : IsSameBelow s s'
  pub stands : (N : ℕ) (small : N ≤ INFINITY) (marks : List ℕ) (shown : List ℕ) (name : Naming) (b : Branch) → IsNaming area name
      → BuildsAt N marks area shown name (name_of area f) (for_head d) s at c [] n b → StandsThen N marks area shown name s' c' w b

-- so for each cell that comes to a variable
abbrev pub BuildsFor : Area → AtomId → ℕ → ℕ → branch.State → ℕ → Contents → branch.State
    → Contents → Went → Type 0
BuildsFor area f n var s at c s' c' w = (d : Cell) → IsCell s d
    → Same s.heaps.now d (cell.Ref var) → BuildsThen area f n d s at c s' c' w

-- so it is built from the first n arguments of a structure, wherever gathering them began
abbrev pub BuildsOn : Area → AtomId → ℕ → ℕ → branch.State → ℕ → Contents → List Cell
    → branch.State → Contents → Went → Type 0
BuildsOn area f n var s1 at c1 cells s' c' w = (s : branch.State) (from : ℕ) (c : Contents)
    → var < length s.heaps.now.slots → IsGatheredTo area n s from c [] s1 at c1 cells
    → BuildsFor area f n var s from c s' c' w

-- The compound term of the cells is made, and the register a takes it.
pub record IsPutAt (f : AtomId) (args : List Cell) (a next : ℕ) (s : branch.State) (c : Contents)
    (s' : branch.State) (c' : Contents) (w : Went) : Type 0 where
  pub leads : w ≡ On next
  pub built : Cell
  pub made : IsMade f args s s' built
  pub heap : s' ≡ with_heap s s'.heaps.now
  pub sound : IsSound s'
  pub written : IsWritten (registers_of c) (X a) built (registers_of c')
  pub same : IsSameBehind c c'
  pub slots : length c'.slots ≡ length c.slots

-- The arguments that are left of a structure are gathered, and the register takes it.
pub record PutsOn (area : Area) (f : AtomId) (n a : ℕ) (s1 : branch.State) (at : ℕ) (c1 : Contents)
    (cells : List Cell) (s' : branch.State) (c' : Contents) (w : Went) : Type 0 where
  pub next : ℕ
  pub middle : branch.State
  pub contents : Contents
  pub args : List Cell
  pub gathered : IsGatheredTo area n s1 at c1 cells middle next contents args
  pub all : length args ≡ n
  pub put : IsPutAt f args a next middle contents s' c' w
