-- What is safe stays so.
use Rattle.std.proofs.Common.{◌≡◌, ℕ, zero, suc, ◌<◌, Bool, true, false, ◌||◌, IsTrue, List, [], ◌∷◌, length, Option, Some, None, option_map, slice_get}
use Rattle.std.proofs.Common.{slice_set, refl, ap, sym, ◌∙◌, subst, inl, inr, arith, ne_eqb}
use Rattle.std.proofs.lemmas.List.{length-set, nil_from_length}
use Rattle.std.proofs.lemmas.Bool.{cases_eq, true≢false}
use Rattle.std.proofs.lemmas.Option.{slice_get_within, same_Some, none-some}
use Rattle.fd_language.specs.Family.{has}
use Rattle.heap_cells.specs.declared.Cell.{Cell as HeapCell}
use Rattle.heap_cells.specs.Cells.{Cells}
use Rattle.heap_cells.specs.Atoms.{IsAtomBelow}
use Rattle.branch_state.specs.States as branch
use Rattle.branch_state.specs.States.{IsCell, IsSound, IsSoundBelow, IsSameBelow, with_heap}
use Rattle.wam_code.specs.declared.instruction.Register.{Register}
use Rattle.wam_code.specs.declared.instruction.Register.TheVariants.{X, Y}
use Rattle.wam_code.specs.declared.instruction.Code.{Code}
use Rattle.wam_code.specs.Area.{Slot, Unset, Cell, Level, State, Area, Holds}
use Rattle.wam_code.specs.Effect.{slot_at, is_unset, is_cell, with_cell, is_set, is_free, with_set, when, effect_by}
use Rattle.wam_code.specs.VerifiedCode.{goes_on, Falls, Covers, HandedTo, IsVerifiedBy}
use Rattle.wam_code.proofs.Lemmas.{falls_inside, falls_outside}
use Rattle.code_areas.specs.Areas.{Places, cell_at, level_at, Return, Point, Contents}
use Rattle.code_meaning.specs.Registers.{IsPut, AreSameElse, IsWritten}
use Rattle.code_safety.specs.Machine.{slot_cell, slot_level, registers_of, HasCell, CanHold, IsSameBehind}
use Rattle.code_safety.specs.Safety.{HasSlots, Fits, AreOwn, AreReturns, AreBehind, IsThread, ArePoints, IsSafe, IsSafeBack}

-- ---- what an instruction finds

-- The state of the place, what is there for it, and what the instruction hands on.
pub record Finds (area : Area) (ss : List State) (at n : ℕ) (c : Contents) (i : Code) : Type 0 where
  pub state : State
  pub handed : State
  pub fits : Fits state c.registers c.slots
  pub owes : state.owed ≡ n
  pub effect_is : effect_by n area.entries i state ≡ Some handed
  pub goes : IsTrue (goes_on i) → HandedTo ss handed (suc at)

pub found : (area : Area) (s : branch.State) (at n : ℕ) (c : Contents) (i : Code) (safe : IsSafe area s at n c) → Holds area at i → Finds area safe.states at n c i
found area s at n c i safe holds =
    let r = safe.here.reached in
    let l = safe.verified.leads at i r.state holds r.has in
    record { state = r.state; handed = l.0; fits = r.fits; owes = r.owes; effect_is = subst (λ k. effect_by k area.entries i r.state ≡ Some l.0) r.owes l.1; goes = l.3 }

-- The place of a safe machine is in the code.
pub place_within : (area : Area) (s : branch.State) (at n : ℕ) (c : Contents) → IsSafe area s at n c → at < length area.code
place_within area s at n c safe =
    let k = slice_get_within safe.states at safe.here.reached.state safe.here.reached.has in
    let e = safe.verified.states in
    omega (arith, k, e)

pub within_code : (area : Area) (at : ℕ) (i : Code) → Holds area at i → at < length area.code
within_code area at i holds = slice_get_within area.code at i holds

pub when_parts : (b : Bool) (s u : State) → when b s ≡ Some u → (b ≡ true) × (u ≡ s)
when_parts true s u e = (refl, cc)
when_parts false s u e = cc

pub some_is : (s u : State) → Some s ≡ Some u → u ≡ s
some_is s u e = cc

-- what is unset may be written
pub free_holds : (t : State) (c : Contents) (r : Register) → Fits t c.registers c.slots → is_free t r ≡ true → CanHold c r
free_holds t c (X n) f e = tt
free_holds t c (Y n) f e = go t.frame n f.frame e
  where
    at_unset : (o : Option Slot) → is_unset o ≡ true → o ≡ Some Unset
    at_unset None e = absurd (true≢false (sym e))
    at_unset (Some Unset) e = refl
    at_unset (Some Cell) e = absurd (true≢false (sym e))
    at_unset (Some Level) e = absurd (true≢false (sym e))

    go : (frame : Option (List Slot)) (n : ℕ) → HasSlots frame c.slots → is_unset (slot_at frame n) ≡ true → CanHold c (Y n)
    go None zero h e = absurd (true≢false (sym e))
    go None (suc n) h e = absurd (true≢false (sym e))
    go (Some ss) zero h e = absurd (true≢false (sym e))
    go (Some ss) (suc n) h e =
        let low : n < length ss = slice_get_within ss n Unset (at_unset (slice_get ss n) e) in
        let same : length c.slots ≡ length ss = h.0 in
        omega (arith, low, same)

-- what is a cell holds one
pub set_holds : (t : State) (c : Contents) (r : Register) → Fits t c.registers c.slots → is_set t r ≡ true → HasCell c r
set_holds t c (X n) f e = f.set n e
set_holds t c (Y n) f e = go t.frame n f.frame e
  where
    at_cell : (o : Option Slot) → is_cell o ≡ true → o ≡ Some Cell
    at_cell None e = absurd (true≢false (sym e))
    at_cell (Some Unset) e = absurd (true≢false (sym e))
    at_cell (Some Cell) e = refl
    at_cell (Some Level) e = absurd (true≢false (sym e))

    go : (frame : Option (List Slot)) (n : ℕ) → HasSlots frame c.slots → is_cell (slot_at frame n) ≡ true → HasCell c (Y n)
    go None zero h e = absurd (true≢false (sym e))
    go None (suc n) h e = absurd (true≢false (sym e))
    go (Some ss) zero h e = absurd (true≢false (sym e))
    go (Some ss) (suc n) h e = h.1 n (at_cell (slice_get ss n) e)

-- ---- a register is written

-- a slot is put: there, and elsewhere
pub put_here : (v w : Slot) (n : ℕ) (slots : List Slot) → slice_get (slice_set slots n v) n ≡ Some w → v ≡ w
put_here v w n [] e = absurd (none-some w e)
put_here v w zero (s ∷ ss) e = same_Some v w e
put_here v w (suc n) (s ∷ ss) e = put_here v w n ss e

pub put_else : (v w : Slot) (n k : ℕ) (slots : List Slot) → slice_get (slice_set slots n v) k ≡ Some w → (k ≡ n → ⊥) → slice_get slots k ≡ Some w
put_else v w n k [] e d = e
put_else v w zero zero (s ∷ ss) e d = absurd (d refl)
put_else v w zero (suc k) (s ∷ ss) e d = e
put_else v w (suc n) zero (s ∷ ss) e d = e
put_else v w (suc n) (suc k) (s ∷ ss) e d = put_else v w n k ss e (λ i. d (ap suc i))

-- the same slots but for one that is a cell now
slots_fit : (frame : Option (List Slot)) (n : ℕ) (d : HeapCell) (old new : Places) → length new ≡ length old → IsPut (slot_cell old) n d (slot_cell new)
    → AreSameElse n (slot_level old) (slot_level new) → HasSlots frame old → HasSlots (option_map (with_cell n) frame) new
slots_fit None n d old new size put other h = nil_from_length new (size ∙ ap length h)
slots_fit (Some ss) zero d old new size put other h = (
  size ∙ h.0,
  (λ k e. let one = h.1 k e in (one.0, put.else (suc k) (λ i. absurd (omega (arith, i))) ∙ one.1)),
  (λ k e. let one = h.2 k e in (one.0, other (suc k) (λ i. absurd (omega (arith, i))) ∙ one.1)),
)
slots_fit (Some ss) (suc n) d old new size put other h = (
  size ∙ h.0 ∙ sym (length-set ss n Cell),
  (λ k e. elim (cases_eq k n) [
    | inl i ↦ (d, ap (cell_at new) i ∙ put.here)
    | inr i ↦ let one = h.1 k (put_else Cell Cell n k ss e i) in (one.0, put.else (suc k) (λ j. i (omega (arith, j))) ∙ one.1)
  ]),
  (λ k e. elim (cases_eq k n) [
    | inl i ↦ absurd (no_level (put_here Cell Level n ss (subst (λ m. slice_get (slice_set ss n Cell) m ≡ Some Level) i e)))
    | inr i ↦ let one = h.2 k (put_else Cell Level n k ss e i) in (one.0, other (suc k) (λ j. i (omega (arith, j))) ∙ one.1)
  ]),
)
  where
    no_level : Cell ≡ Level → ⊥
    no_level e = cc

same_slots : (frame : Option (List Slot)) (old new : Places) → length new ≡ length old → ((k : ℕ) → cell_at new k ≡ cell_at old k)
    → ((k : ℕ) → level_at new k ≡ level_at old k) → HasSlots frame old → HasSlots frame new
same_slots None old new size same also h = nil_from_length new (size ∙ ap length h)
same_slots (Some ss) old new size same also h = (size ∙ h.0, (λ k e. let one = h.1 k e in (one.0, same k ∙ one.1)), (λ k e. let one = h.2 k e in (one.0, also k ∙ one.1)))

pub written_fits : (t : State) (c c' : Contents) (r : Register) (d : HeapCell) → Fits t c.registers c.slots → IsWritten (registers_of c) r d (registers_of c')
    → length c'.slots ≡ length c.slots → Fits (with_set t r) c'.registers c'.slots
written_fits t c c' (X n) d f w size = record {
  set = λ k e. elim (cases_eq n k) [
    | inl i ↦ (d, ap (cell_at c'.registers) (sym i) ∙ w.0.here)
    | inr i ↦ let one = f.set k (subst (λ b. b || has t.regs k ≡ true) (ne_eqb n k i) e) in (one.0, w.0.else k (λ j. i (sym j)) ∙ one.1)
  ];
  frame = same_slots t.frame c.slots c'.slots size (λ k. w.1 (suc k)) (λ k. w.2 (suc k)) f.frame;
}
written_fits t c c' (Y n) d f w size = record {
  set = λ k e. (let one = f.set k e in (one.0, w.0 k ∙ one.1));
  frame = slots_fit t.frame n d c.slots c'.slots size w.1 w.2 f.frame;
}

-- the cells stay the branch's
pub written_own : (s : branch.State) (c c' : Contents) (r : Register) (d : HeapCell) → AreOwn s c.registers → AreOwn s c.slots → IsCell s d
    → IsWritten (registers_of c) r d (registers_of c') → AreOwn s c'.registers × AreOwn s c'.slots
written_own s c c' (X n) d xs ys own w = (
  (λ k e i. elim (cases_eq k n) [
    | inl j ↦ subst (IsCell s) (same_Some d e (sym w.0.here ∙ ap (cell_at c'.registers) (sym j) ∙ i)) own
    | inr j ↦ xs k e (sym (w.0.else k j) ∙ i)
  ]),
  (λ k e i. ys k e (sym (w.1 (suc k)) ∙ i)),
)
written_own s c c' (Y n) d xs ys own w = (
  (λ k e i. xs k e (sym (w.0 k) ∙ i)),
  (λ k e i. elim (cases_eq (suc k) n) [
    | inl j ↦ subst (IsCell s) (same_Some d e (sym w.1.here ∙ ap (slot_cell c'.slots) (sym j) ∙ i)) own
    | inr j ↦ ys k e (sym (w.1.else (suc k) j) ∙ i)
  ]),
)

-- ---- the next place

pub fits_less : (t u : State) (registers slots : Places) → Covers t u → Fits t registers slots → Fits u registers slots
fits_less t u registers slots c f = record { set = λ n e. f.set n (c.regs n e); frame = subst (λ o. HasSlots o slots) c.frame f.frame }

pub cells_kept : (s s' : branch.State) → ((d : HeapCell) → IsCell s d → IsCell s' d) → (cells : Places) → AreOwn s cells → AreOwn s' cells
cells_kept s s' keep cells own n d e = keep d (own n d e)

pub returns_kept : (ss : List State) (s s' : branch.State) → ((d : HeapCell) → IsCell s d → IsCell s' d) → (rs : List Return) → AreReturns ss s rs → AreReturns ss s' rs
returns_kept ss s s' keep [] own = tt
returns_kept ss s s' keep (r ∷ rs) own = (own.0, cells_kept s s' keep r.slots own.1, returns_kept ss s s' keep rs own.2)

pub same_atoms : (s s' : branch.State) → s'.atoms ≡ s.atoms → (h : Cells) (d : HeapCell) → IsCell (with_heap s h) d → IsCell (with_heap s' h) d
same_atoms s s' e h d o = (o.0, subst (λ n. IsAtomBelow n d) (sym e) o.1)

-- the same thread where cells of the one branch are cells of the other
pub thread_kept : (area : Area) (ss : List State) (s s' : branch.State) (at owed : ℕ) (registers slots : Places) (rs : List Return)
    → ((d : HeapCell) → IsCell s d → IsCell s' d) → IsThread area ss s at owed registers slots rs → IsThread area ss s' at owed registers slots rs
thread_kept area ss s s' at owed registers slots rs keep t = record {
  reached = t.reached;
  registers_own = cells_kept s s' keep registers t.registers_own;
  slots_own = cells_kept s s' keep slots t.slots_own;
  returns_own = returns_kept ss s s' keep rs t.returns_own;
  behind = t.behind;
}

pub points_kept : (area : Area) (ss : List State) (s s' : branch.State) → s'.atoms ≡ s.atoms → (ps : List Point) (hs : List Cells) → ArePoints area ss s ps hs → ArePoints area ss s' ps hs
points_kept area ss s s' e [] hs own = own
points_kept area ss s s' e (p ∷ ps) [] own = own
points_kept area ss s s' e (p ∷ ps) (h ∷ hs) own = (
  thread_kept area ss (with_heap s h) (with_heap s' h) p.place 0 p.registers p.slots p.returns
      (same_atoms s s' e h) own.0,
  points_kept area ss s s' e ps hs own.1,
)

pub behind_on : (area : Area) (ss : List State) → IsVerifiedBy area ss → (at to : ℕ) → Falls area at to → (rs : List Return) → AreBehind area at rs → AreBehind area to rs
behind_on area ss v at to f [] b = (b.0, b.1, b.2, falls_inside area ss b.1 (v.queries b.0 b.1 b.2) at to b.3 f)
behind_on area ss v at to f (r ∷ rs) b = (falls_outside area ss v at to b.0 f, b.1)

module _ (area : Area) (s s' : branch.State) (at n : ℕ) (c c' : Contents) (safe : IsSafe area s at n c) (below : IsSameBelow s s') (same : IsSameBehind c c') where
  pub points_then : ArePoints area safe.states s' c'.points s'.heaps.below
  points_then =
      subst (λ hs. ArePoints area safe.states s' c'.points hs) (sym below.heaps)
      (subst (λ ps. ArePoints area safe.states s' ps s.heaps.below) (sym same.points)
      (points_kept area safe.states s s' below.atoms c.points s.heaps.below safe.points))

  pub back_safe : IsSoundBelow s' → IsSafeBack area s' c'
  back_safe sound = record { states = safe.states; verified = safe.verified; atoms = below.atoms ∙ safe.atoms; sound = sound; points = points_then }

  -- An instruction that goes on hands over to the next place.
  pub next_safe : (i : Code) → Holds area at i → IsTrue (goes_on i) → (f : Finds area safe.states at n c i) → (n' : ℕ) → Fits f.handed c'.registers c'.slots
      → f.handed.owed ≡ n' → IsSound s' → ((d : HeapCell) → IsCell s d → IsCell s' d) → AreOwn s' c'.registers → AreOwn s' c'.slots
      → IsSafe area s' (suc at) n' c'
  next_safe i holds on f n' fits owes sound keep xs ys =
      let h = f.goes on in record {
        states = safe.states;
        verified = safe.verified;
        atoms = below.atoms ∙ safe.atoms;
        sound = sound;
        here = record {
          reached = record { state = h.0; has = h.1; owes = sym h.2.owed ∙ owes; fits = fits_less f.handed h.0 c'.registers c'.slots h.2 fits };
          registers_own = xs;
          slots_own = ys;
          returns_own = subst (λ rs. AreReturns safe.states s' rs) (sym same.returns) (returns_kept safe.states s s' keep c.returns safe.here.returns_own);
          behind = subst (λ rs. AreBehind area (suc at) rs) (sym same.returns) (behind_on area safe.states safe.verified at (suc at) (i, holds, on, refl) c.returns safe.here.behind);
        };
        points = points_then;
      }
