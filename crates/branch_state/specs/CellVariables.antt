-- How the terms that a goal on cells names get variables of the store. All that are the same integer share one.
use Rattle.std.specs.Prelude.{◌≡◌, ◌⊎◌, ℕ, ◌<◌, ◌≤◌, true, ℤ, List, [], ◌∷◌, length, Option, Some, None}
use Rattle.fd_language.specs.declared.range_node.Need.{Need}
use Rattle.fd_language.specs.Family.{has}
use Rattle.fd_language.specs.Range.{Range}
use Rattle.fd_language.specs.Term.{Term, Var, Int, Atom, Comp, Substitution}
use Rattle.fd_model.specs.declared.kinds.QueryFault.{QueryFault}
use Rattle.fd_model.specs.Posting.{or_later}
use Rattle.heap_cells.specs.declared.Cell.{Cell}
use Rattle.heap_cells.specs.Atoms.{HasAtomsBelow}
use Rattle.heap_cells.specs.Cells.{Cells}
use Rattle.heap_cells.specs.SeenTerms.{seen_term}
use Rattle.heap_cells.specs.Terms.{Naming}
use Rattle.range_code.specs.declared.frame.Arg.{Arg}
use Rattle.range_code.specs.declared.frame.Arg.TheVariants as arg
use Rattle.range_code.specs.Frames.{family_of}
use Rattle.range_code.specs.Slots.{slots_of, slot_needs}
use Rattle.unify_core.specs.declared.Touch.{Touch}
use Rattle.unify_core.specs.declared.Touch.TheVariants.{Value, Same}
use Rattle.branch_lemmas.specs.CellRanges.{slot_terms}
use Rattle.branch_lemmas.specs.Frames.{link_in}
use Rattle.branch_lemmas.specs.Posting.{Listed, IsLinkedMore}
use Rattle.branch_state.specs.declared.cell_looks.Look.{Look}
use Rattle.branch_state.specs.declared.cell_looks.Look.TheVariants.{Number}
use Rattle.branch_state.specs.StoreVariables.{offence, first_in, or_zero, LooksAs, NameStep, AllStand}

-- what the variables of a range are seen as, by the cells of its slots
abbrev pub shown_slots : Naming → Cells → List (List ℕ) → Range → List Cell → Substitution
shown_slots name h sets r cells = slot_terms name h (family_of sets) (slots_of r) cells

-- the first offence of the target t, and then of the range's slots
abbrev pub slots_offence : Term → Substitution → Range → Option QueryFault
slots_offence t see r = or_later (offence None t) (first_in see (slots_of r) (slot_needs r))

-- a goal whose target looks as l has no offence
abbrev pub IsFineGoal : Cells → List (List ℕ) → Range → Look → List Cell → Type 0
IsFineGoal h sets r l cells = (name : Naming) (t : Term) → LooksAs h t l
    → slots_offence t (shown_slots name h sets r cells) r ≡ None

-- what a slot is seen as has no offence
abbrev pub IsFineSlot : Cells → List (List ℕ) → Option Need → Cell → Type 0
IsFineSlot h sets need c = (name : Naming) → offence need (seen_term name h (family_of sets) c) ≡ None

-- the slots that are no parameters
abbrev pub slots_open : List ℕ → List (Option Need) → List ℕ
slots_open [] ns = []
slots_open (y ∷ ys) [] = []
slots_open (y ∷ ys) (None ∷ ns) = y ∷ slots_open ys ns
slots_open (y ∷ ys) (Some n ∷ ns) = slots_open ys ns

-- the term is the target's, or that of a variable of the list
abbrev pub NamedBy : Term → Substitution → List ℕ → Term → Type 0
NamedBy t see ys u = (u ≡ t) ⊎ ((y : ℕ) × (has ys y ≡ true) × (u ≡ see y))

-- the variable of the store of a term: the one that a variable of the heap is linked to, or the one that gets the integer
abbrev pub slot_in : Cells → (ℤ → Option ℕ) → Term → ℕ
slot_in h of (Var c) = or_zero (link_in h c)
slot_in h of (Int z) = or_zero (of z)
slot_in h of (Atom a) = 0
slot_in h of (Comp f ts) = 0

-- each touch gives an integer's variable the integer
abbrev pub AreTold : (ℤ → Option ℕ) → List Touch → Type 0
AreTold of [] = Unit {0}
AreTold of (Value k z ∷ ts) = (of z ≡ Some k) × AreTold of ts
AreTold of (Same k j ∷ ts) = ⊥

-- one of the touches is this one
abbrev pub IsTold : ℕ → ℤ → List Touch → Type 0
IsTold k z [] = ⊥
IsTold k z (t ∷ ts) = (t ≡ Value k z) ⊎ IsTold k z ts

-- The terms are named on the heap now, which had been h, with the store's sets of then and now: what is open is linked, and each integer has a fresh variable,
-- which the touches tell.
pub record IsTermNaming (h : Cells) (sets : List (List ℕ)) (Named : Term → Type 0) (now : Cells)
    (S : List (List ℕ)) (fs : List Touch) (of : ℤ → Option ℕ) : Type 0 where
  pub more : List (ℕ × ℕ)
  pub links : IsLinkedMore h now more
  pub atoms : (n : ℕ) → HasAtomsBelow n h → HasAtomsBelow n now
  pub listed : (c k : ℕ) → Listed c k more → Named (Var c) × (length sets ≤ k)
  pub below : (c k : ℕ) → link_in now c ≡ Some k → k < length S
  pub longer : length sets ≤ length S
  pub same : (k : ℕ) → family_of S k ≡ family_of sets k
  pub plain : (u : Term) → Named u → offence None u ≡ None
  pub named : (c : ℕ) → Named (Var c) → (k : ℕ) × (link_in now c ≡ Some k)
  pub numbered : (z : ℤ) → Named (Int z) → (k : ℕ) × (of z ≡ Some k)
  pub fresh : (z : ℤ) (k : ℕ) → of z ≡ Some k → Named (Int z) × (length sets ≤ k) × (k < length S)
      × ((c : ℕ) → link_in now c ≡ Some k → ⊥)
  pub apart : (z w : ℤ) (k : ℕ) → of z ≡ Some k → of w ≡ Some k → z ≡ w
  pub told : AreTold of fs
  pub all : (z : ℤ) (k : ℕ) → of z ≡ Some k → IsTold k z fs

-- the integer has the variable k now, and the others what they had
abbrev pub IsPut : (ℤ → Option ℕ) → (ℤ → Option ℕ) → ℤ → ℕ → Type 0
IsPut of of' z k = (of' z ≡ Some k) × ((w : ℤ) → (w ≡ z → ⊥) → of' w ≡ of w)

-- One name more: an integer that was met has its variable already.
abbrev pub TermStep : Look → Cells → List (List ℕ) → List Touch → (ℤ → Option ℕ) → Cells
    → List (List ℕ) → List Touch → (ℤ → Option ℕ) → ℕ → Type 0
TermStep (Number z) h sets fs of now S fs' of' k = ((of z ≡ Some k) × (now ≡ h) × (S ≡ sets)
    × (fs' ≡ fs) × (of' ≡ of)) ⊎ ((of z ≡ None) × IsPut of of' z k
    × NameStep (Number z) h sets fs now S fs' k)
TermStep l h sets fs of now S fs' of' k = (of' ≡ of) × NameStep l h sets fs now S fs' k

-- One argument more: a parameter's integer, or the variable of what is named now. t is what the slot is seen as.
abbrev pub SlotStep : Term → Option Need → Cells → List (List ℕ) → List Touch → (ℤ → Option ℕ)
    → Cells → List (List ℕ) → List Touch → (ℤ → Option ℕ) → Arg → Type 0
SlotStep t (Some n) h sets fs of now S fs' of' a = (now ≡ h) × (S ≡ sets) × (fs' ≡ fs) × (of' ≡ of)
    × ((z : ℤ) → t ≡ Int z → a ≡ arg.Int z)
SlotStep t None h sets fs of now S fs' of' a = (l : Look) × (k : ℕ) × (a ≡ arg.Var k)
    × LooksAs h t l × TermStep l h sets fs of now S fs' of' k

-- The target t and the first slots of a goal's range are made ready.
pub record AreCellsReady (t : Term) (see : Substitution) (h : Cells) (sets : List (List ℕ))
    (ys : List ℕ) (ns : List (Option Need)) (now : Cells) (S : List (List ℕ)) (fs : List Touch)
    (of : ℤ → Option ℕ) (target : ℕ) (as' : List Arg) : Type 0 where
  pub naming : IsTermNaming h sets (NamedBy t see (slots_open ys ns)) now S fs of
  pub at : target ≡ slot_in now of t
  pub stand : AllStand see (λ y. slot_in now of (see y)) ys ns as'

-- and all of them are
abbrev pub IsPrepared : Term → Substitution → Cells → List (List ℕ) → Range → Cells → List (List ℕ)
    → List Touch → ℕ → List Arg → Type 0
IsPrepared t see h sets r now S fs target as' = (of : ℤ → Option ℕ)
    × AreCellsReady t see h sets (slots_of r) (slot_needs r) now S fs of target as'
