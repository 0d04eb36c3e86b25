-- What a choice tries, and which clauses it needn't: those whose head asks an argument for another name, number or structure than is there.
use Rattle.std.specs.Prelude.{◌≡◌, ◌⊎◌, ℕ, suc, ◌≤◌, List, [], ◌∷◌, ◌++◌, Option, Some, None}
use Rattle.fd_language.specs.declared.TheConstants.{INFINITY}
use Rattle.fd_model.specs.Goal.{Branch}
use Rattle.heap_cells.specs.declared.Seen.{Seen}
use Rattle.heap_cells.specs.declared.Seen.TheVariants as seen
use Rattle.heap_cells.specs.Terms.{Naming}
use Rattle.branch_state.specs.States as branch
use Rattle.branch_state.specs.States.{with_pair}
use Rattle.wam_code.specs.declared.instruction.Code.{Code}
use Rattle.wam_code.specs.declared.instruction.Code.TheVariants as step
use Rattle.wam_code.specs.declared.instruction.Key.{Key}
use Rattle.wam_code.specs.declared.instruction.Key.TheVariants as key
use Rattle.wam_code.specs.declared.parts.Entry.{Entry}
use Rattle.wam_code.specs.Area.{Area, Holds}
use Rattle.wam_code.specs.CodeRegions.{distance}
use Rattle.code_areas.specs.Areas.{Contents}
use Rattle.code_meaning.specs.ClauseChoices.{IsTrying}
use Rattle.code_safety.specs.Choices.{point_of}
use Rattle.code_safety.specs.Machine.{registers_of, stack_of}
use Rattle.code_safety.specs.Queries.{StaysInside, KeepsQuery, KeepsQueryThen}
use Rattle.code_safety.specs.Safety.{IsThread, IsSafe}
use Rattle.code_safety.specs.RemainingEvents.{LeavesChoice, RunsThen}
use Rattle.code_safety.specs.RepresentedBranch.{IsNaming, HasNoModel}
use Rattle.code_safety.specs.declared.instruction_outcomes.Went.{Went}
use Rattle.code_safety.specs.declared.instruction_outcomes.Went.TheVariants.{On, Back}
use Rattle.code_control.specs.declared.clause_selection.Tried.{Tried}
use Rattle.code_control.specs.declared.clause_selection.Tried.TheVariants as tried
use Rattle.code_control.specs.JumpTargets.{ArgumentShows}
use Rattle.code_control.specs.Rows.{IsKeyOf}

-- ---- choices

-- what a choice at a place tries
abbrev pub tried_by : Code → ℕ → Tried
tried_by (step.TryMeElse other) at = tried.Both (suc at) other
tried_by (step.RetryMeElse other) at = tried.Both (suc at) other
tried_by (step.Try to) at = tried.Both to (suc at)
tried_by (step.Retry to) at = tried.Both to (suc at)
tried_by step.TrustMe at = tried.Last (suc at)
tried_by (step.Trust to) at = tried.Last to
tried_by _ at = tried.Other

abbrev pub IsTried : Area → ℕ → Tried → Type 0
IsTried area at t = (i : Code) × Holds area at i × (t ≡ tried_by i at)

-- the instruction is a choice
abbrev pub IsChoice : Code → Type 0
IsChoice i = tried_by i 0 ≡ tried.Other → ⊥

-- and no choice point was left for it before
abbrev pub IsNewChoice : Code → Type 0
IsNewChoice (step.TryMeElse other) = Unit {0}
IsNewChoice (step.Try to) = Unit {0}
IsNewChoice _ = ⊥

-- the place of the clause that is tried first
abbrev pub first_of : Tried → ℕ → ℕ
first_of (tried.Both to other) at = to
first_of (tried.Last to) at = to
first_of tried.Other at = at

-- the place of those that are tried later
abbrev pub behind_of : Tried → Option ℕ
behind_of (tried.Both to other) = Some other
behind_of (tried.Last to) = None
behind_of tried.Other = None

-- ---- what a head asks for

-- the instruction at a place asks for an argument with this key
abbrev pub AsksHere : Area → ℕ → ℕ → Key → Type 0
AsksHere area at a (key.Atom c) = Holds area at (step.GetConstant c a)
AsksHere area at a (key.Int z) = Holds area at (step.GetInteger z a)
AsksHere area at a (key.Struct f n) = Holds area at (step.GetStructure f n a)

-- the argument and the key that an instruction asks for
abbrev pub asked_by : Code → Option (ℕ × Key)
asked_by (step.GetConstant c a) = Some (a, key.Atom c)
asked_by (step.GetInteger z a) = Some (a, key.Int z)
asked_by (step.GetStructure f n a) = Some (a, key.Struct f n)
asked_by _ = None

-- So does the clause that begins at a place, first of all or right behind its frame.
abbrev pub Asks : Area → ℕ → ℕ → Key → Type 0
Asks area at a k = AsksHere area at a k ⊎ ((n : ℕ) × Holds area at (step.Allocate n) × AsksHere area (suc at) a k)

abbrev pub AsksFirst : Area → ℕ → Option (ℕ × Key) → Type 0
AsksFirst area at (Some k) = Asks area at k.0 k.1
AsksFirst area at None = (a : ℕ) (k : Key) → Asks area at a k → ⊥

-- what is seen at the top of a term may be made equal to a term with the key
abbrev pub Meets : Seen → Key → Type 0
Meets (seen.Open i) k = Unit {0}
Meets (seen.Constrained i j) k = Unit {0}
Meets x k = IsKeyOf x k

-- The clause asks an argument for a key, and so the argument and the key are.
pub record Shows (area : Area) (s : branch.State) (at : ℕ) (c : Contents) (are : Seen → Key → Type 0) : Type 0 where
  pub argument : ℕ
  pub wanted : Key
  pub asks : Asks area at argument wanted
  pub so : ArgumentShows s c argument (λ x. are x wanted)

-- the clause that begins at a place can't match
abbrev pub IsRuledOut : Area → branch.State → ℕ → Contents → Type 0
IsRuledOut area s at c = Shows area s at c (λ x k. Meets x k → ⊥)

-- nothing that its head asks for first tells so
abbrev pub MayMatch : Area → branch.State → ℕ → Contents → Type 0
MayMatch area s at c = Shows area s at c Meets ⊎ ((a : ℕ) (k : Key) → Asks area at a k → ⊥)

abbrev pub MayMatchThen : Area → branch.State → Contents → Went → Type 0
MayMatchThen area s c (On to) = MayMatch area s to c
MayMatchThen area s c Back = Unit {0}

abbrev pub FirstMayMatch : Area → branch.State → ℕ → Contents → Tried → Type 0
FirstMayMatch area s at c t = MayMatch area s (first_of t at) c

-- The clause that is tried first at a place may match; where no choice stands there, the place is the clause's own.
abbrev pub MayMatchFrom : Area → branch.State → ℕ → Contents → Type 0
MayMatchFrom area s at c = (t : Tried) × IsTried area at t × FirstMayMatch area s at c t

-- ---- clauses left out

abbrev pub AreGone : ℕ → List Branch → Type 0
AreGone N [] = Unit {0}
AreGone N (b ∷ bs) = HasNoModel N b × AreGone N bs

-- at the place of a choice the branch b tries clauses, whose branches are kids, where the choice points have such marks
abbrev pub TriesAt : List ℕ → Area → List ℕ → Naming → branch.State → ℕ → Contents → Entry → Branch → List Branch → Type 0
TriesAt marks area shown name s at c e b kids = IsTrying INFINITY s.infinity marks area shown name s.heaps.now s.levels.current.posted at e (registers_of c) (stack_of c) b kids

-- they are those of another place, or none
abbrev pub TriesThen : List ℕ → Area → List ℕ → Naming → branch.State → Option ℕ → Contents → Entry → Branch → List Branch → Type 0
TriesThen marks area shown name s (Some at) c e b kids = TriesAt marks area shown name s at c e b kids
TriesThen marks area shown name s None c e b kids = kids ≡ []

pub record LeavesSome (marks : List ℕ) (area : Area) (shown : List ℕ) (name : Naming) (s : branch.State) (to : Option ℕ) (c : Contents) (e : Entry) (b : Branch) (kids : List Branch) : Type 0 where
  pub gone : List Branch
  pub kept : List Branch
  pub both : kids ≡ gone ++ kept
  pub none : AreGone s.infinity gone
  pub tries : TriesThen marks area shown name s to c e b kept

-- What is tried at a place is tried at another one, or nowhere, but for branches without a model in front.
abbrev pub LeavesOut : Area → branch.State → ℕ → Contents → Option ℕ → Type 0
LeavesOut area s at c to = (marks : List ℕ) (shown : List ℕ) (name : Naming) (e : Entry) (b : Branch) (kids : List Branch) → IsNaming area name
    → TriesAt marks area shown name s at c e b kids → LeavesSome marks area shown name s to c e b kids

-- The place at can be gone on at instead of the place from, with all as it is, and is at or behind it.
pub record IsLater (area : Area) (s : branch.State) (from at : ℕ) (c : Contents) : Type 0 where
  pub goes : (safe : IsSafe area s from 0 c) → IsThread area safe.states s at 0 c.registers c.slots c.returns
  pub near : distance area at ≤ distance area from
  pub inside : StaysInside area from at

-- ---- where a choice leads

-- All is as it was, with no new choice point.
pub record LeavesNone (area : Area) (s : branch.State) (at : ℕ) (c : Contents) (s' : branch.State) (c' : Contents) (w : Went) : Type 0 where
  pub same : s' ≡ s
  pub areas : c' ≡ c
  pub runs : RunsThen area s at c s c w
  pub query : KeepsQueryThen area at c c w

-- A clause is tried, and there is a choice point for others, the first of which may match.
pub record LeavesOne (area : Area) (s : branch.State) (at : ℕ) (c : Contents) (s' : branch.State) (c' : Contents) (w : Went) : Type 0 where
  pub to : ℕ
  pub other : ℕ
  pub on : w ≡ On to
  pub later : MayMatchFrom area s other c
  pub pair : s' ≡ with_pair s
  pub areas : c' ≡ record c { points = point_of c other ∷ c.points }
  pub runs : LeavesChoice area s at c s' to c' other
  pub query : KeepsQuery area at c to c'
  pub left : KeepsQuery area at c other c

abbrev pub Chooses : Area → branch.State → ℕ → Contents → branch.State → Contents → Went → Type 0
Chooses area s at c s' c' w = LeavesNone area s at c s' c' w ⊎ LeavesOne area s at c s' c' w
