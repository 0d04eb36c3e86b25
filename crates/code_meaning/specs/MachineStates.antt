-- The whole state of a machine over code, with its choice points: the events and reductions that are still to come.
use Rattle.std.specs.Prelude.{◌≡◌, ◌⊎◌, ℕ, suc, ◌<◌, List, [], ◌∷◌, ◌++◌, map, Option}
use Rattle.fd_language.specs.Term.{Var}
use Rattle.fd_language.specs.Range.{Indexical}
use Rattle.fd_model.specs.Children.{by_value}
use Rattle.fd_model.specs.Goal.{Goal, Branch, Program, Query, Event}
use Rattle.fd_model.specs.RunnablePrograms.{EachBelow, NumbersBelow}
use Rattle.heap_cells.specs.Cells.{Cells}
use Rattle.heap_cells.specs.Terms.{Naming}
use Rattle.branch_meaning.specs.RemainingEvents.{Ahead, AllWait, IsBack}
use Rattle.wam_code.specs.declared.parts.Entry.{Entry}
use Rattle.wam_code.specs.Area.{Area}
use Rattle.wam_code.specs.Places.{Places, IsWhole, IsSettled}
use Rattle.wam_code.specs.CodeMeaning.{Means, Return, Continues}
use Rattle.code_meaning.specs.Registers.{Registers, Saved}
use Rattle.code_meaning.specs.StateMeaning.{IsMade, Stands}
use Rattle.code_meaning.specs.ClauseChoices.{IsTrying}

-- The machine stands for the branch b, with each of its variables made and no equation still to be made.
pub record IsReady (M N : ℕ) (marks : List ℕ) (area : Area) (shown : List ℕ) (name : Naming) (h : Cells) (qs : List Indexical) (at : ℕ) (c : Registers) (stack : List Saved) (b : Branch) : Type 0 where
  pub p : Places
  pub returns : List Return
  pub after : List Goal
  pub made : IsMade M N marks name h qs c returns stack b p []
  pub whole : IsWhole p
  pub continues : Continues area shown returns after
  pub means : Means area (record { goals = after; shown = shown }) at p [] b.goals
  pub below : EachBelow b.fresh b.goals
  pub asked : NumbersBelow b.fresh shown

-- At a place the machine stands for these branches: in a clause or a query for one, and before a clause for one for each clause that is to be tried.
abbrev pub Goes : ℕ → ℕ → List ℕ → Area → List ℕ → Naming → Cells → List Indexical → ℕ → Registers → List Saved → List Branch → Type 0
Goes M N marks area shown name h qs at c stack raw =
    ((b : Branch) × Stands M N marks area shown name h qs at c stack b × (raw ≡ b ∷ [])) ⊎ ((e : Entry) × (b : Branch) × IsTrying M N marks area shown name h qs at e c stack b raw)

-- where the machine goes on when it comes back: at a place, or at the place of a labelling with one of these values of a variable of the heap
pub data Left : Type 0 where
  resume : ℕ → Left
  values : List ℕ → ℕ → ℕ → Left

-- with the registers, the continuations, the heap and the store's ranges of when the choice came
pub record Choice : Type 0 where
  pub left : Left
  pub registers : Registers
  pub stack : List Saved
  pub heap : Cells
  pub store : List Indexical

-- the branches that are left, of which some may not be consistent, where the older choice points have such marks
abbrev pub WaitsBy : ℕ → ℕ → Area → List ℕ → Naming → List ℕ → Choice → Left → List Branch → Type 0
WaitsBy M N area shown name marks c (resume at) raw = Goes M N marks area shown name c.heap c.store at c.registers c.stack raw
WaitsBy M N area shown name marks c (values ns v at) raw =
    (b : Branch) × (x : ℕ) × (s : IsReady M N marks area shown name c.heap c.store at c.registers c.stack b) × (x < b.fresh) × (s.made.look x ≡ Var v) × (raw ≡ map (by_value b b.goals x) ns)

abbrev pub Waits : ℕ → ℕ → Area → List ℕ → Naming → List ℕ → Choice → List Branch → Type 0
Waits M N area shown name marks c raw = WaitsBy M N area shown name marks c c.left raw

-- At a place the machine stands for these events and reductions. n is the budget left, and k the number of answers still allowed, or none.
pub record Runs (M N : ℕ) (area : Area) (prog : Program) (q : Query) (name : Naming) (h : Cells) (qs : List Indexical) (at : ℕ) (c : Registers)
    (stack : List Saved) (cs : List Choice) (n : ℕ) (k : Option ℕ) (es : List Event) (r : ℕ) : Type 0 where
  pub first : List Branch
  pub others : List Branch
  pub marks : List ℕ
  pub here : Goes M N marks area q.shown name h qs at c stack first
  pub wait : AllWait M N Choice (Waits M N area q.shown name) cs others marks
  pub ahead : Ahead M N prog q n k (first ++ others) es r

-- and on its way back to its newest choice point
abbrev pub Returns : ℕ → ℕ → Area → Program → Query → Naming → List Choice → ℕ → Option ℕ → List Event → ℕ → Type 0
Returns M N area prog q name cs n k es r = IsBack M N prog q Choice (Waits M N area q.shown name) cs n k es r

-- At a place the machine takes the goal in front, of which taken is true, and then goes on at the next place with the places q.
pub record IsTaking (M N : ℕ) (marks : List ℕ) (area : Area) (shown : List ℕ) (name : Naming) (h : Cells) (qs : List Indexical) (at : ℕ) (c : Registers)
    (stack : List Saved) (b : Branch) (taken : Places → Goal → Type 0) : Type 0 where
  pub ready : IsReady M N marks area shown name h qs at c stack b
  pub goal : Goal
  pub later : List Goal
  pub q : Places
  pub is : taken ready.p goal
  pub settled : IsSettled ready.p q
  pub goals : b.goals ≡ goal ∷ later
  pub next : Means area (record { goals = ready.after; shown = shown }) (suc at) q [] later
