-- The code of the goals of a body.
use Rattle.std.specs.Prelude.{◌≡◌, ℕ, suc, ◌+◌, ◌<◌, ◌≤◌, ◌==◌, Bool, true, false, if◌then◌else◌, List, [], ◌∷◌, ◌++◌, Option, Some, None, map, length}
use Rattle.fd_language.specs.Term.{Term, Var}
use Rattle.fd_model.specs.Goal.{Goal, marked_all}
use Rattle.fd_model.specs.Renaming.{rename_goal}
use Rattle.wam_code.specs.declared.instruction.Register.{Register}
use Rattle.wam_code.specs.declared.instruction.Register.TheVariants.{X, Y}
use Rattle.wam_code.specs.declared.instruction.Code.{Code}
use Rattle.wam_code.specs.Area.{State}
use Rattle.wam_code.specs.Effect.{slot_at, is_level, is_set, has_frame}
use Rattle.wam_code.specs.Places.{Depth, Places, read, IsWhole}
use Rattle.clause_code.specs.Pieces.{Base, Does}
use Rattle.clause_code.specs.StateFlow.{Flows, MayEnter}
use Rattle.clause_code.specs.Steps.{home}
pub use Rattle.clause_code.specs.declared.levels.Levels.{Levels}

-- ---- places between goals

abbrev pub is_x : ℕ → Register → Bool
is_x i (X j) = i == j
is_x i (Y j) = false

abbrev pub is_y : ℕ → Register → Bool
is_y i (X j) = false
is_y i (Y j) = i == j

-- the variable whose home passes the test, where the first one is u
abbrev pub found_home : (Register → Bool) → ℕ → List Register → Option Term
found_home test u [] = None
found_home test u (r ∷ rs) = if test r then Some (Var u) else found_home test (suc u) rs

-- a cut may stand there
abbrev pub HasCut : Levels → Type 0
HasCut l = (l.first ≤ l.cut) × (l.cut < l.next)

-- in a test, whose cuts go to the slot `cut`: two more slots are taken
abbrev pub in_test : Levels → ℕ → Levels
in_test l cut = record l { cut = cut; next = suc (suc l.next) }

-- The slot of the cut has the depth d, and no slot has a deeper one.
pub record HasDepths (l : Levels) (depths : ℕ → Option Depth) (d : Depth) : Type 0 where
  pub cut : HasCut l → depths l.cut ≡ Some d
  pub others : (k : ℕ) (e : Depth) → depths k ≡ Some e → (l.first ≤ k) × (k < l.next) × (e.points ≤ d.points)

-- the slot is no variable's
abbrev pub IsNoHome : List Register → ℕ → Type 0
IsNoHome homes k = (x : ℕ) → x < length homes → home homes x ≡ Y k → ⊥

-- The level slots are no variable's.
pub record AreFree (homes : List Register) (l : Levels) : Type 0 where
  pub clear : (k : ℕ) → l.first ≤ k → k < l.end → IsNoHome homes k
  pub within : l.next ≤ l.end

-- the places between goals: each variable is in its home, each depth in its slot, and nothing else is kept
abbrev pub between_goals : ℕ → List Register → (ℕ → Option Depth) → Places
between_goals n homes depths = record { x = λ i. found_home (is_x i) n homes; y = λ i. found_home (is_y i) n homes; levels = depths; noted = None; known = λ v. true; own = n + length homes; top = 0 }

-- At a goal: each variable is in its home, each depth in its slot, and nothing is to be made.
pub record InBody (n : ℕ) (homes : List Register) (depths : ℕ → Option Depth) (p : Places) : Type 0 where
  pub held : (x : ℕ) → x < length homes → read p (home homes x) ≡ Some (Var (n + x))
  pub levels : (k : ℕ) (e : Depth) → depths k ≡ Some e → p.levels k ≡ Some e
  pub whole : IsWhole p
  pub own : p.own ≡ n + length homes

-- a state between goals: the homes are cells, the level slots are levels, and with a frame no argument register counts
pub record IsRest (homes : List Register) (framed : Bool) (l : Levels) (s : State) : Type 0 where
  pub set : (x : ℕ) → x < length homes → is_set s (home homes x) ≡ true
  pub levels : (k : ℕ) → l.first ≤ k → k < l.end → is_level (slot_at s.frame k) ≡ true
  pub owed : s.owed ≡ 0
  pub frame : has_frame s.frame ≡ framed
  pub regs : framed ≡ true → s.regs ≡ []

-- ---- the code of goals

-- The piece takes the goals, one after the other. Their cuts keep what the depth d says.
pub record DoesGoals (b : Base) (homes : List Register) (n : ℕ) (depths : ℕ → Option Depth) (d : Depth) (at : ℕ) (is : List Code) (gs : List Goal) (p : Places) (later : List Goal) : Type 0 where
  pub q : Places
  pub there : InBody n homes depths q
  pub same : p ≡ between_goals n homes depths → q ≡ between_goals n homes depths
  pub does : Does b at is p [] (marked_all d.branches (map (rename_goal (λ x. n + x)) gs) ++ later) q [] later

-- It is the code of these goals, which runs from a state between goals to the same one.
pub record IsGoalsCode (b : Base) (homes : List Register) (framed : Bool) (l : Levels) (at : ℕ) (is : List Code) (gs : List Goal) : Type 0 where
  pub does : (s : State) → IsRest homes framed l s → (n : ℕ) (depths : ℕ → Option Depth) (d : Depth) → HasDepths l depths d → (p : Places) (later : List Goal)
      → InBody n homes depths p → DoesGoals b homes n depths d at is gs p later
  pub flows : (s : State) → IsRest homes framed l s → Flows b at is s s
  pub enters : MayEnter is
