-- A slot that takes a level.
use Rattle.std.proofs.Common.{◌≡◌, ℕ, zero, suc, ◌-◌, ◌<◌, ◌≤◌, true, List, length, Option, Some, None, option_map, slice_get, slice_set, slice_index_or, refl}
use Rattle.std.proofs.Common.{ap, sym, ◌∙◌, subst, inl, inr, arith}
use Rattle.std.proofs.lemmas.List.{length-set, nil_from_length, get_or-set_same, get_or-set_other}
use Rattle.std.proofs.lemmas.Bool.{cases_eq, true≢false}
use Rattle.std.proofs.lemmas.Option.{slice_get_within, none-some}
use Rattle.heap_cells.specs.declared.Cell.{Cell as HeapCell}
use Rattle.branch_state.specs.States as branch
use Rattle.wam_code.specs.Area.{Slot, Unset, Cell, Level, State}
use Rattle.wam_code.specs.Effect.{slot_at, is_level, may_be_level, with_mark, with_level}
use Rattle.code_areas.specs.Areas.{nothing_held, level, cell_of, level_of, Places, cell_at, level_at, IsLevelSet}
use Rattle.code_meaning.specs.Registers.{IsMarked}
use Rattle.code_safety.specs.Machine.{slot_cell, slot_level, IsSlot}
use Rattle.code_safety.specs.Safety.{HasSlots, Fits, AreOwn}
use Rattle.code_safety.proofs.Safety.{put_here, put_else}

-- What may become a level is a slot.
pub level_slot : (frame : Option (List Slot)) (n : ℕ) (slots : Places) → HasSlots frame slots → may_be_level (slot_at frame n) ≡ true → IsSlot n slots
level_slot None n slots h e = absurd (true≢false (sym e))
level_slot (Some ss) zero slots h e = absurd (true≢false (sym e))
level_slot (Some ss) (suc n) slots h e = record { some = omega arith; within = let low = there (slice_get ss n) refl e in let same : length slots ≡ length ss = h.0 in omega (arith, low, same) }
  where
    there : (o : Option Slot) → slice_get ss n ≡ o → may_be_level o ≡ true → n < length ss
    there None i e = absurd (true≢false (sym e))
    there (Some s) i e = slice_get_within ss n s i

-- What is a level holds one.
pub level_there : (frame : Option (List Slot)) (n : ℕ) (slots : Places) → HasSlots frame slots → is_level (slot_at frame n) ≡ true → (1 ≤ n) × IsLevelSet slots (n - 1)
level_there None n slots h e = absurd (true≢false (sym e))
level_there (Some ss) zero slots h e = absurd (true≢false (sym e))
level_there (Some ss) (suc n) slots h e = (omega arith, subst (IsLevelSet slots) (let same : n ≡ suc n - 1 = omega arith in same) (h.2 n (at_level (slice_get ss n) e)))
  where
    at_level : (o : Option Slot) → is_level o ≡ true → o ≡ Some Level
    at_level None e = absurd (true≢false (sym e))
    at_level (Some Unset) e = absurd (true≢false (sym e))
    at_level (Some Cell) e = absurd (true≢false (sym e))
    at_level (Some Level) e = refl

-- ---- what the slots hold then

module _ (slots : Places) (n k : ℕ) (low : n < length slots) where
  abbrev marked : Places
  marked = slice_set slots n (level k)

  level_here : level_of (slice_index_or marked n nothing_held) ≡ Some k
  level_here = ap level_of (get_or-set_same slots n (level k) nothing_held low)

  no_cell_here : (d : HeapCell) → cell_at marked n ≡ Some d → ⊥
  no_cell_here d e = none-some d (sym (ap cell_of (get_or-set_same slots n (level k) nothing_held low)) ∙ e)

  module _ (i : ℕ) (other : i ≡ n → ⊥) where
    same_there : slice_index_or marked i nothing_held ≡ slice_index_or slots i nothing_held
    same_there = get_or-set_other slots n i (level k) nothing_held other

  own_marked : (s : branch.State) → AreOwn s slots → AreOwn s marked
  own_marked s own i d e = elim (cases_eq i n) [
    | inl j ↦ absurd (no_cell_here d (subst (λ m. cell_at marked m ≡ Some d) j e))
    | inr j ↦ own i d (sym (ap cell_of (same_there i j)) ∙ e)
  ]

  frame_marked : (frame : Option (List Slot)) → HasSlots frame slots → HasSlots (option_map (with_mark (suc n)) frame) marked
  frame_marked None h = nil_from_length marked (length-set slots n (level k) ∙ ap length h)
  frame_marked (Some ss) h = (
    length-set slots n (level k) ∙ h.0 ∙ sym (length-set ss n Level),
    (λ i e. elim (cases_eq i n) [
      | inl j ↦ absurd (apart (put_here Level Cell n ss (subst (λ m. slice_get (slice_set ss n Level) m ≡ Some Cell) j e)))
      | inr j ↦ let one = h.1 i (put_else Level Cell n i ss e j) in (one.0, ap cell_of (same_there i j) ∙ one.1)
    ]),
    (λ i e. elim (cases_eq i n) [
      | inl j ↦ (k, ap (λ m. level_of (slice_index_or marked m nothing_held)) j ∙ level_here)
      | inr j ↦ let one = h.2 i (put_else Level Level n i ss e j) in (one.0, ap level_of (same_there i j) ∙ one.1)
    ]),
  )
    where
      apart : Level ≡ Cell → ⊥
      apart e = cc

-- The slot n, from 1 on, takes the level k.
module _ (slots : Places) (n k : ℕ) (is : IsSlot n slots) where
  abbrev pub leveled : Places
  leveled = slice_set slots (n - 1) (level k)

  next_is : suc (n - 1) ≡ n
  next_is = let some = is.some in omega (arith, some)

  pub leveled_fits : (t : State) (registers : Places) → Fits t registers slots → Fits (with_level t n) registers leveled
  leveled_fits t registers f = record { set = f.set; frame = subst (λ m. HasSlots (option_map (with_mark m) t.frame) leveled) next_is (frame_marked slots (n - 1) k is.within t.frame f.frame) }

  pub leveled_own : (s : branch.State) → AreOwn s slots → AreOwn s leveled
  leveled_own s own = own_marked slots (n - 1) k is.within s own

  pub leveled_long : length leveled ≡ length slots
  leveled_long = length-set slots (n - 1) (level k)

  pub leveled_marks : (x : ℕ → Option HeapCell) (noted : ℕ)
      → IsMarked (record { x = x; y = slot_cell slots; levels = slot_level slots; noted = noted }) n k (record { x = x; y = slot_cell leveled; levels = slot_level leveled; noted = noted })
  leveled_marks x noted = record {
    xs = λ i. refl;
    ys = cells;
    here = subst (λ m. slot_level leveled m ≡ Some k) next_is (level_here slots (n - 1) k is.within);
    else = levels;
    noted = refl;
  }
    where
      cells : (i : ℕ) → (i ≡ n → ⊥) → slot_cell leveled i ≡ slot_cell slots i
      cells zero d = refl
      cells (suc i) d = ap cell_of (same_there slots (n - 1) k is.within i (λ e. d (ap suc e ∙ next_is)))

      levels : (i : ℕ) → (i ≡ n → ⊥) → slot_level leveled i ≡ slot_level slots i
      levels zero d = refl
      levels (suc i) d = ap level_of (same_there slots (n - 1) k is.within i (λ e. d (ap suc e ∙ next_is)))

-- what is read there
pub level_read : (slots : Places) (n k : ℕ) → 1 ≤ n → level_at slots (n - 1) ≡ Some k → slot_level slots n ≡ Some k
level_read slots zero k some e = absurd (omega (arith, some))
level_read slots (suc n) k some e = let same : suc n - 1 ≡ n = omega arith in subst (λ m. level_at slots m ≡ Some k) same e
