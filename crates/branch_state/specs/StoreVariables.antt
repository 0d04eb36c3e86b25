-- How the variables that a goal `T in r` names get variables of the store.
use Rattle.std.specs.Prelude.{◌≡◌, ℕ, ◌-◌, ◌<◌, ◌≤◌, true, false, ◌==◌, if◌then◌else◌, nat_lt, ℤ, List, [], ◌∷◌, ◌++◌, length, filter, slice_index_or, Option}
use Rattle.std.specs.Prelude.{Some, None}
use Rattle.fd_language.specs.declared.TheConstants.{INFINITY}
use Rattle.fd_language.specs.declared.range_node.Need.{Need}
use Rattle.fd_language.specs.Family.{has, universe}
use Rattle.fd_language.specs.Needs.{meets}
use Rattle.fd_language.specs.Range.{Range, Indexical}
use Rattle.fd_language.specs.Term.{Term, Var, Int, Atom, Comp, Substitution}
use Rattle.fd_model.specs.declared.kinds.QueryFault.{QueryFault}
use Rattle.fd_model.specs.declared.kinds.QueryFault.TheVariants.{Instantiation, BadType, Parameter}
use Rattle.fd_model.specs.Levels.{Levels}
use Rattle.fd_model.specs.Posting.{is_integer, integer_of, or_later, slot}
use Rattle.heap_cells.specs.Atoms.{HasAtomsBelow}
use Rattle.heap_cells.specs.Cells.{Cells, free, linked, slot_at, with_slot}
use Rattle.heap_cells.specs.SeenTerms.{HasLinksBelow}
use Rattle.heap_cells.specs.HeapInvariant.{IsHeap}
use Rattle.range_code.specs.declared.frame.Arg.{Arg}
use Rattle.range_code.specs.declared.frame.Arg.TheVariants as arg
use Rattle.range_code.specs.Frames.{family_of, posted}
use Rattle.unify_core.specs.declared.Touch.{Touch}
use Rattle.unify_core.specs.declared.Touch.TheVariants.{Value}
use Rattle.unify_core.specs.Touches.{IsSymbolic}
use Rattle.branch_meaning.specs.Store.{posts}
use Rattle.branch_lemmas.specs.Frames.{link_in, store_touches}
use Rattle.branch_lemmas.specs.Posting.{Listed, IsLinkedMore}
use Rattle.branch_state.specs.declared.cell_looks.Look.{Look}
use Rattle.branch_state.specs.declared.cell_looks.Look.TheVariants.{Open, Linked, Number, Symbol}

-- what a term over the heap's variables is at its top
abbrev pub LooksAs : Cells → Term → Look → Type 0
LooksAs h t (Open i) = (t ≡ Var i) × (i < length h.slots) × (slot_at h i ≡ free)
LooksAs h t (Linked k) = (i : ℕ) × (t ≡ Var i) × (link_in h i ≡ Some k)
LooksAs h t (Number z) = t ≡ Int z
LooksAs h t Symbol = IsSymbolic t

-- the same by itself, without a heap
abbrev pub IsKind : Term → Look → Type 0
IsKind t (Open i) = t ≡ Var i
IsKind t (Linked k) = (i : ℕ) × (t ≡ Var i)
IsKind t (Number z) = t ≡ Int z
IsKind t Symbol = IsSymbolic t

-- the offence of a slot with this need, or none
abbrev pub offence : Option Need → Term → Option QueryFault
offence None (Var y) = None
offence (Some n) (Var y) = Some Instantiation
offence None (Int z) = None
offence (Some n) (Int z) = if meets n z then None else Some Parameter
offence o (Atom a) = Some BadType
offence o (Comp f ts) = Some BadType

-- the first offence of slots, in their order
abbrev pub first_in : Substitution → List ℕ → List (Option Need) → Option QueryFault
first_in s [] ns = None
first_in s (y ∷ ys) [] = None
first_in s (y ∷ ys) (n ∷ ns) = or_later (offence n (s y)) (first_in s ys ns)

-- the variables that a goal names: its target, and behind it the range's variables other than parameters, each once
abbrev pub named_behind : ℕ → List ℕ → List (Option Need) → List ℕ
named_behind x [] ns = []
named_behind x (y ∷ ys) [] = []
named_behind x (y ∷ ys) (None ∷ ns) = if y == x then named_behind x ys ns else y
    ∷ named_behind x ys ns
named_behind x (y ∷ ys) (Some n ∷ ns) = named_behind x ys ns

-- those that are seen as integers
abbrev pub integers : Substitution → List ℕ → List ℕ
integers s xs = filter (λ y. is_integer (s y)) xs

abbrev pub or_zero : Option ℕ → ℕ
or_zero None = 0
or_zero (Some k) = k

abbrev pub linked_to : Cells → Term → Option ℕ
linked_to h (Var d) = link_in h d
linked_to h t = None

-- the variable of the store of a clause's variable, and from n on those of the fresh ones, which have the variables ks
abbrev pub variable_of : Substitution → ℕ → Cells → List ℕ → ℕ → ℕ
variable_of s n now ks y = if nat_lt y n then or_zero (linked_to now (s y))
    else slice_index_or ks (y - n) 0

-- variables of the store that are to get the integers of ys
abbrev pub values : Substitution → List ℕ → List ℕ → List Touch
values s [] ys = []
values s (k ∷ ks) [] = []
values s (k ∷ ks) (y ∷ ys) = Value k (integer_of (s y)) ∷ values s ks ys

abbrev pub Apart : List ℕ → Type 0
Apart [] = Unit {0}
Apart (x ∷ xs) = (has xs x ≡ false) × Apart xs

-- The variables xs are named on the heap now, which had been h, with the store's sets of then and now: what is open is linked, and integers have fresh
-- variables ks.
pub record IsNaming (s : Substitution) (h : Cells) (sets : List (List ℕ)) (xs : List ℕ)
    (now : Cells) (sets' : List (List ℕ)) (ks : List ℕ) (fixed : List Touch) : Type 0 where
  pub more : List (ℕ × ℕ)
  pub links : IsLinkedMore h now more
  pub atoms : (n : ℕ) → HasAtomsBelow n h → HasAtomsBelow n now
  pub listed : (c k : ℕ) → Listed c k more → (y : ℕ) × (has xs y ≡ true) × (s y ≡ Var c)
      × (length sets ≤ k)
  pub below : (c k : ℕ) → link_in now c ≡ Some k → k < length sets'
  pub longer : length sets ≤ length sets'
  pub same : (k : ℕ) → family_of sets' k ≡ family_of sets k
  pub named : (y d : ℕ) → has xs y ≡ true → s y ≡ Var d → (k : ℕ) × (link_in now d ≡ Some k)
  pub count : length ks ≡ length (integers s xs)
  pub told : fixed ≡ values s ks (integers s xs)
  pub fresh : (k : ℕ) → has ks k ≡ true → (length sets ≤ k) × (k < length sets')
      × ((c : ℕ) → link_in now c ≡ Some k → ⊥)
  pub apart : Apart ks

-- What is named gets the variable k: an open one is linked to a new variable, and an integer has one that no variable of the heap is linked to.
abbrev pub NameStep : Look → Cells → List (List ℕ) → List Touch → Cells → List (List ℕ) → List Touch
    → ℕ → Type 0
NameStep (Open i) h sets fixed now sets' fixed' k = (k ≡ length sets)
    × (now ≡ with_slot h i (linked k)) × (sets' ≡ sets ++ universe INFINITY ∷ []) × (fixed' ≡ fixed)
NameStep (Linked j) h sets fixed now sets' fixed' k = (k ≡ j) × (now ≡ h) × (sets' ≡ sets)
    × (fixed' ≡ fixed)
NameStep (Number z) h sets fixed now sets' fixed' k = (k ≡ length sets) × (now ≡ h)
    × (sets' ≡ sets ++ universe INFINITY ∷ []) × (fixed' ≡ fixed ++ Value k z ∷ [])
NameStep Symbol h sets fixed now sets' fixed' k = ⊥

-- what stands in a slot: a parameter's integer, or the variable of the store of another variable
abbrev pub StandsIn : Substitution → (ℕ → ℕ) → ℕ → Option Need → Arg → Type 0
StandsIn s of y None a = a ≡ arg.Var (of y)
StandsIn s of y (Some n) a = (z : ℤ) × (s y ≡ Int z) × (a ≡ arg.Int z)

abbrev pub AllStand : Substitution → (ℕ → ℕ) → List ℕ → List (Option Need) → List Arg → Type 0
AllStand s of [] [] [] = Unit {0}
AllStand s of (y ∷ ys) (n ∷ ns) (a ∷ as') = StandsIn s of y n a × AllStand s of ys ns as'
AllStand s of _ _ _ = ⊥

-- The target x and the first slots of a goal's range are made ready, where a clause has n variables.
pub record IsReady (s : Substitution) (n : ℕ) (h : Cells) (sets : List (List ℕ)) (x : ℕ)
    (ys : List ℕ) (ns : List (Option Need)) (now : Cells) (sets' : List (List ℕ))
    (fixed : List Touch) (target : ℕ) (as' : List Arg) : Type 0 where
  pub ks : List ℕ
  pub naming : IsNaming s h sets (x ∷ named_behind x ys ns) now sets' ks fixed
  pub at : target ≡ variable_of s n now ks (slot n (integers s (x ∷ named_behind x ys ns)) x)
  pub stand : AllStand s (λ y. variable_of s n now ks
      (slot n (integers s (x ∷ named_behind x ys ns)) y)) ys ns as'

-- what can be named: an open variable of the heap, one of the store, or an integer
abbrev pub CanName : Cells → Look → Type 0
CanName h (Open i) = (i < length h.slots) × (slot_at h i ≡ free)
CanName h (Linked k) = Unit {0}
CanName h (Number z) = Unit {0}
CanName h Symbol = ⊥

-- the store with other sets on its current level
abbrev pub with_level_sets : Levels → List (List ℕ) → Levels
with_level_sets ls sets = record ls { current = record ls.current { sets = sets } }

-- the ranges that are posted for a goal
abbrev pub goal_ranges : Range → ℕ → List Arg → List Touch → List Indexical
goal_ranges r v as' fixed = record { target = v; range = posted r as' }
    ∷ posts (store_touches fixed)

-- the integer of a look that is one
abbrev pub IsInteger : Look → ℤ → Type 0
IsInteger (Number z) w = w ≡ z
IsInteger l w = Unit {0}

-- a heap whose links go to variables of the store, each one's own
pub record OwnLinks (n : ℕ) (h : Cells) : Type 0 where
  pub valid : IsHeap h
  pub below : HasLinksBelow n h
  pub one : (c d k : ℕ) → link_in h c ≡ Some k → link_in h d ≡ Some k → c ≡ d
