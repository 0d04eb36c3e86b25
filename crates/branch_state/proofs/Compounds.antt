-- A compound term that is added to a branch.
use Rattle.std.proofs.Common.{◌≡◌, ℕ, suc, ◌+◌, ◌-◌, ◌<◌, List, [], ◌∷◌, ◌++◌, length, length-append, get_or, refl, ap, sym, ◌∙◌, subst, arith}
use Rattle.std.specs.Prelude.{All, Bool, true, false, Result, Ok, Err, IfOk, OnOk}
use Rattle.std.proofs.lemmas.List.{get_or-append_right}
use Rattle.fd_language.specs.Term.{Comp}
use Rattle.term_pool.specs.declared.AtomId.{AtomId}
use Rattle.term_pool.specs.declared.TheConstants.{NIL}
use Rattle.heap_cells.specs.declared.Cell.{Cell}
use Rattle.heap_cells.specs.declared.Cell.TheVariants as cell
use Rattle.heap_cells.specs.Atoms.{IsAtomBelow, HasAtomsBelow}
use Rattle.heap_cells.specs.Cells.{Cells, Slot, free, bound, Compound, Heaps, IsOf, slot_at, with_slot, compound_at, with_compound, AddsCompound}
use Rattle.heap_cells.specs.Terms.{term_of, compound_term, KeepsTerms, IsAbsent, occurs}
use Rattle.heap_cells.specs.HeapInvariant.{IsHeap}
use Rattle.heap_cells.proofs.Lemmas.{compound_below, terms_agree, term-Struct}
use Rattle.branch_lemmas.specs.Frames.{link_of}
use Rattle.unify_core.specs.declared.Touch.{Touch}
use Rattle.unify_core.specs.OccursCheck.{IsAbsentAmong}
use Rattle.unify_core.specs.Outcome.{IfTrue, IfFalse}
use Rattle.unify_core.specs.Unifications.{CannotUnify, IsEqualled}
use Rattle.branch_lemmas.proofs.Lemmas.{of_grown}
use Rattle.unify_core.proofs.Lemmas.{IsBehind, left_bound}
use Rattle.branch_state.specs.Compounds.{IsMade, IsCompoundOf, BindsCompound}
use Rattle.branch_state.specs.States.{State, IsSound, IsCell, with_heap}
use Rattle.branch_state.proofs.States.{heaps_sound, pair_fewer}

module _ (s : State) (o : IsSound s) (f : AtomId) (args : List Cell) (low : f.number < s.atoms) (cells : All (IsCell s) args) (h : Heaps)
    (added : AddsCompound f args s.heaps h) (kept : KeepsTerms s.heaps.now h.now) (valid : IsHeap h.now) where
  abbrev old : Cells
  old = s.heaps.now

  abbrev new : Compound
  new = record { name = f; args = args }

  abbrev c : Cell
  c = cell.Struct (length old.compounds)

  now_is : h.now ≡ with_compound old new
  now_is = ap (λ (x : Heaps). x.now) added

  parts_are : h.now.compounds ≡ old.compounds ++ new ∷ []
  parts_are = ap (λ (x : Cells). x.compounds) now_is

  slots_are : h.now.slots ≡ old.slots
  slots_are = ap (λ (x : Cells). x.slots) now_is

  one_more : length h.now.compounds ≡ suc (length old.compounds)
  one_more = ap length parts_are ∙ length-append old.compounds (new ∷ []) ∙ (let e : length old.compounds + 1 ≡ suc (length old.compounds) = omega arith in e)

  here : compound_at h.now (length old.compounds) ≡ new
  here = ap (λ (l : List Compound). get_or l (length old.compounds) (record { name = NIL; args = [] })) parts_are
      ∙ get_or-append_right old.compounds (new ∷ []) (length old.compounds) (length old.compounds) (record { name = NIL; args = [] }) refl (omega arith)
      ∙ ap (λ i. get_or (new ∷ []) i (record { name = NIL; args = [] })) (let e : length old.compounds - length old.compounds ≡ 0 = omega arith in e)

  pub made_cell : IsMade f args s (record s { heaps = h }) c
  made_cell = record {
    own = ((let e = one_more in omega (arith, e)), tt);
    term = λ name. term-Struct name h.now valid (length old.compounds) ∙ ap (compound_term name (term_of name h.now)) here
        ∙ ap (Comp (name f)) (terms_agree (IsOf old) (term_of name h.now) (term_of name old) (λ d i. kept name d i) args (λ k d l. (cells k d l).0));
    grown = record {
      slots = λ i. ap (λ (x : List Slot). get_or x i free) slots_are;
      longer = (let e = ap length slots_are in omega (arith, e));
      parts = (let e = one_more in omega (arith, e));
      terms = kept;
    };
  }

  pub made_sound : IsSound (record s { heaps = h })
  made_sound =
      heaps_sound s o h (ap (λ (x : Heaps). x.below) added)
      (pair_fewer s.atoms s.infinity old h.now s.levels.current o.now valid
      (subst (HasAtomsBelow s.atoms) (sym now_is) (compound_below s.atoms old o.now.names new low (λ k d l. (cells k d l).1)))
      (λ d k e. ap link_of (sym (ap (λ (x : List Slot). get_or x d free) slots_are)) ∙ e))

pub if_ok_with : {A E : Type 0} (r : Result A E) (P R : A → Type 0) (Q : Type 0) → ((a : A) → P a → Q → R a) → IfOk r P → OnOk r Q → IfOk r R
if_ok_with (Ok a) P R Q f p q = f a p q
if_ok_with (Err e) P R Q f p q = tt

-- A variable that is in none of the cells isn't in their compound term.
pub compound_absent : (h : Cells) (var : ℕ) (args : List Cell) (c : Cell) → IsCompoundOf h args c → IsAbsentAmong h var args → IsAbsent h var c
compound_absent h var args c made absent name = ap (occurs var) (made name).1 ∙ absent name

-- It is bound to the term.
pub compound_bound : (h now : Cells) → IsHeap h → (var : ℕ) → var < length h.slots → slot_at h var ≡ free → (args : List Cell) (c : Cell) → IsOf h c
    → IsCompoundOf h args c → IsAbsentAmong h var args → now ≡ with_slot h var (bound c) → (ts : List Touch) → IsBehind h (cell.Ref var) c now [] ts ts
compound_bound h now valid var there open_now args c own made absent is ts =
    left_bound h now valid (cell.Ref var) c c var ts there own there open_now (λ name. refl) own (λ name. refl) (record { bound = is; absent = compound_absent h var args c made absent })

-- What was made is a compound term of the cells still.
pub made_of : (s : State) (f : AtomId) (args : List Cell) (now : State) (c : Cell) → All (IsCell s) args → IsMade f args s now c → IsCompoundOf now.heaps.now args c
made_of s f args now c own m name =
    (name f, m.term name ∙ sym (ap (Comp (name f)) (terms_agree (IsOf s.heaps.now) (term_of name now.heaps.now) (term_of name s.heaps.now) (m.grown.terms name) args (λ k d l. (own k d l).0))))

-- The cells are the branch's still.
pub cells_stay : (s : State) (f : AtomId) (args : List Cell) (now : State) (c : Cell) → All (IsCell s) args → IsMade f args s now c → now ≡ with_heap s now.heaps.now → All (IsCell now) args
cells_stay s f args now c own m heap = λ k d l.
    (of_grown s.heaps.now now.heaps.now m.grown (get_or args k d) (own k d l).0, subst (λ n. IsAtomBelow n (get_or args k d)) (sym (ap (λ (t : State). t.atoms) heap)) (own k d l).1)

-- A compound term is made, and then an open variable is made equal to it.
pub binds : (f : AtomId) (args : List Cell) (var : ℕ) (s middle : State) (built : Cell) → IsMade f args s middle built → middle ≡ with_heap s middle.heaps.now
    → IsSound middle → (now : State) (before after : List Touch) {E : Type 0} → (r : Result Bool E)
    → IfTrue r (IsEqualled middle.heaps.now (cell.Ref var) built now.heaps.now before after) → IfFalse r (CannotUnify middle.heaps.now (cell.Ref var) built)
    → IfOk r (BindsCompound f args var s now before after)
binds f args var s middle built made heap sound now before after (Ok true) e n = record { middle = middle; built = built; made = made; heap = heap; sound = sound; equals = e }
binds f args var s middle built made heap sound now before after (Ok false) e n = record { middle = middle; built = built; made = made; heap = heap; sound = sound; equals = n }
binds f args var s middle built made heap sound now before after (Err x) e n = tt

-- What always holds does so after a success.
pub on_any : {A E : Type 0} (r : Result A E) {P : Type 0} → P → OnOk r P
on_any (Ok a) p = p
on_any (Err e) p = tt
