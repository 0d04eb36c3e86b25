-- Where an instruction leads it is safe to go on.
use Rattle.std.proofs.Common.{◌≡◌, ℕ, zero, suc, ◌+◌, ◌<◌, Bool, true, ◌&&◌, IsTrue, List, [], ◌∷◌, length, take, Option, Some, None, Result, Ok, Err, IfOk}
use Rattle.std.proofs.Common.{slice_get, replicate, refl, ap, sym, ◌∙◌, subst, arith}
use Rattle.std.proofs.lemmas.Bool.{true≢false, and_parts}
use Rattle.std.proofs.lemmas.List.{length-replicate, get_or-take}
use Rattle.std.proofs.lemmas.Option.{none-some, same_Some}
use Rattle.fd_language.specs.Family.{has}
use Rattle.heap_cells.specs.declared.Cell.{Cell as HeapCell}
use Rattle.heap_cells.specs.Cells.{Cells}
use Rattle.branch_state.specs.States as branch
use Rattle.branch_state.specs.States.{IsSound, IsSoundBelow, IsUndone, with_heap, with_pair}
use Rattle.wam_code.specs.declared.instruction.Code.{Code}
use Rattle.wam_code.specs.declared.instruction.Code.TheVariants.{Allocate, Deallocate, Call, Execute, Proceed}
use Rattle.wam_code.specs.declared.parts.Entry.{Entry}
use Rattle.wam_code.specs.Area.{Slot, Unset, Cell, Level, State, Area, Holds, HasEntry}
use Rattle.wam_code.specs.Effect.{are_given, are_set, has_frame, no_frame, when, plain_effect, effect_by}
use Rattle.wam_code.specs.CodeRegions.{IsOutside}
use Rattle.wam_code.specs.VerifiedCode.{named, goes_on, Names, HandedTo, Leads, IsVerifiedBy}
use Rattle.wam_code.proofs.Lemmas.{names_outside, entry_outside, returns_outside, executes_outside, entry_covered}
use Rattle.code_areas.specs.Areas.{nothing_held, Places, cell_of, cell_at, IsSet, Return, Contents}
use Rattle.code_safety.specs.Safety.{HasSlots, Fits, AreOwn, IsReached, AreReturns, AreBehind, IsThread, ArePoints, IsSafe, IsSafeBack}
use Rattle.code_safety.specs.Choices.{point_of}
use Rattle.code_safety.proofs.Lemmas.{points_marked, when_parts, some_is, fits_less, thread_kept, same_atoms, points_kept, behind_on as behind_next}

pub sound_below : (s : branch.State) → IsSound s → IsSoundBelow s
sound_below s o = record { greatest = o.greatest; unspent = o.unspent; marked = o.marked; below = o.below }

-- ---- places

pub behind_named : (area : Area) (ss : List State) → IsVerifiedBy area ss → (at to : ℕ) → Names area at to → (rs : List Return) → AreBehind area at rs → AreBehind area to rs
behind_named area ss v at to n [] b = (b.0, b.1, b.2, (v.queries b.0 b.1 b.2).stays at to b.3 n)
behind_named area ss v at to n (r ∷ rs) b = (names_outside area ss v at to b.0 n, b.1)

pub reached_by : (ss : List State) (handed : State) (to : ℕ) (registers slots : Places) → HandedTo ss handed to → handed.owed ≡ 0 → Fits handed registers slots → IsReached ss to 0 registers slots
reached_by ss handed to registers slots h owes f = record { state = h.0; has = h.1; owes = sym h.2.owed ∙ owes; fits = fits_less handed h.0 registers slots h.2 f }

unset : (n k : ℕ) → cell_at (replicate n nothing_held) k ≡ None
unset zero k = refl
unset (suc n) zero = refl
unset (suc n) (suc k) = unset n k

all_unset : (n k : ℕ) (s : Slot) → slice_get (replicate n Unset) k ≡ Some s → s ≡ Unset
all_unset zero k s e = absurd (none-some s e)
all_unset (suc n) zero s e = sym (same_Some Unset s e)
all_unset (suc n) (suc k) s e = all_unset n k s e

no_cell : (n k : ℕ) → slice_get (replicate n Unset) k ≡ Some Cell → ⊥
no_cell n k e = let w = all_unset n k Cell e in cc

no_level : (n k : ℕ) → slice_get (replicate n Unset) k ≡ Some Level → ⊥
no_level n k e = let w = all_unset n k Level e in cc

-- what is set among the first cells
taken : (k : ℕ) (cells : Places) (n : ℕ) (d : HeapCell) → cell_at (take k cells) n ≡ Some d → cell_at cells n ≡ Some d
taken zero [] n d e = absurd (none-some d e)
taken zero (x ∷ xs) n d e = absurd (none-some d e)
taken (suc k) [] n d e = e
taken (suc k) (x ∷ xs) zero d e = e
taken (suc k) (x ∷ xs) (suc n) d e = taken k xs n d e

no_slots_are : (o : Option (List Slot)) (slots : Places) → no_frame o ≡ true → HasSlots o slots → slots ≡ []
no_slots_are None slots e h = h
no_slots_are (Some f) slots e h = absurd (true≢false (sym e))

-- a place that needs no register
without_registers : (t : State) (registers slots : Places) → Fits t [] slots → Fits t registers slots
without_registers t registers slots f = record { set = λ n e. (let k = f.set n e in absurd (none-some k.0 k.1)); frame = f.frame }

module _ (area : Area) (s : branch.State) (at : ℕ) (c : Contents) (safe : IsSafe area s at 0 c) where
  abbrev pub state : State
  state = safe.here.reached.state

  pub fits : Fits state c.registers c.slots
  fits = safe.here.reached.fits

  abbrev pub Goes : ℕ → Places → Places → List Return → Type 0
  Goes to registers slots rs = IsThread area safe.states s to 0 registers slots rs

  -- nothing but the place is another one
  pub moved_safe : (to : ℕ) → Goes to c.registers c.slots c.returns → IsSafe area s to 0 c
  moved_safe to t = record { states = safe.states; verified = safe.verified; atoms = safe.atoms; sound = safe.sound; here = t; points = safe.points }

  -- it is safe to go back
  pub back_safe : IsSafeBack area s c
  back_safe = record { states = safe.states; verified = safe.verified; atoms = safe.atoms; sound = sound_below s safe.sound; points = safe.points }

  -- a new choice point, with other slots
  pub left_with : (to other : ℕ) (slots : Places) → Goes to c.registers slots c.returns → Goes other c.registers slots c.returns → IsSound (with_pair s)
      → IsSafe area (with_pair s) to 0 (record c { slots = slots; points = point_of (record c { slots = slots }) other ∷ c.points })
  left_with to other slots t o sound = record {
    states = safe.states;
    verified = safe.verified;
    atoms = safe.atoms;
    sound = sound;
    here = thread_kept area safe.states s (with_pair s) to 0 c.registers slots c.returns (λ d own. own) t;
    points = (
      thread_kept area safe.states s (with_heap (with_pair s) s.heaps.now) other 0 c.registers slots c.returns (λ d own. own) o,
      points_kept area safe.states s (with_pair s) refl c.points s.heaps.below safe.points,
    );
  }

  -- and with the same ones
  pub left_safe : (to other : ℕ) → Goes to c.registers c.slots c.returns → Goes other c.registers c.slots c.returns → IsSound (with_pair s)
      → IsSafe area (with_pair s) to 0 (record c { points = point_of c other ∷ c.points })
  left_safe to other t o sound = left_with to other c.slots t o sound

  -- other registers, slots and continuations
  other_safe : (to : ℕ) (c' : Contents) → c'.points ≡ c.points → Goes to c'.registers c'.slots c'.returns → IsSafe area s to 0 c'
  other_safe to c' same t = record {
    states = safe.states;
    verified = safe.verified;
    atoms = safe.atoms;
    sound = safe.sound;
    here = t;
    points = subst (λ ps. ArePoints area safe.states s ps s.heaps.below) (sym same) safe.points;
  }

  no_cells : AreOwn s []
  no_cells n d e = absurd (none-some d e)

  module _ (i : Code) (holds : Holds area at i) where
    pub leads : Leads area safe.states at i state
    leads = safe.verified.leads at i state holds safe.here.reached.has

    plain : plain_effect area.entries i state ≡ Some leads.0
    plain = subst (λ k. effect_by k area.entries i state ≡ Some leads.0) safe.here.reached.owes leads.1

    pub behind_on : IsTrue (goes_on i) → AreBehind area (suc at) c.returns
    behind_on on = behind_next area safe.states safe.verified at (suc at) (i, holds, on, refl) c.returns safe.here.behind

    -- The instruction needs something of its state, and hands a state on.
    module _ (need : Bool) (given : State) (is : plain_effect area.entries i state ≡ when need given) where
      pub needed : (need ≡ true) × (leads.0 ≡ given)
      needed = when_parts need given leads.0 (sym is ∙ plain)

      pub handed_on : IsTrue (goes_on i) → HandedTo safe.states given (suc at)
      handed_on on = subst (λ t. HandedTo safe.states t (suc at)) needed.1 (leads.3 on)

      pub handed_named : (to : ℕ) → IsTrue (has (named area i) to) → HandedTo safe.states given to
      handed_named to n = subst (λ t. HandedTo safe.states t to) needed.1 (leads.2 to n)

    -- choices and switches leave all as it is
    module _ (quiet : plain_effect area.entries i state ≡ Some state) where
      handed : (to : ℕ) → HandedTo safe.states leads.0 to → HandedTo safe.states state to
      handed to h = subst (λ t. HandedTo safe.states t to) (some_is state leads.0 (sym quiet ∙ plain)) h

      thread_by : (to : ℕ) → HandedTo safe.states state to → AreBehind area to c.returns → Goes to c.registers c.slots c.returns
      thread_by to h b = record {
        reached = reached_by safe.states state to c.registers c.slots h safe.here.reached.owes fits;
        registers_own = safe.here.registers_own;
        slots_own = safe.here.slots_own;
        returns_own = safe.here.returns_own;
        behind = b;
      }

      -- at a place that is named, and at the next one
      pub named_thread : (to : ℕ) → IsTrue (has (named area i) to) → Goes to c.registers c.slots c.returns
      named_thread to n = thread_by to (handed to (leads.2 to n)) (behind_named area safe.states safe.verified at to (i, holds, n) c.returns safe.here.behind)

      pub next_thread : IsTrue (goes_on i) → Goes (suc at) c.registers c.slots c.returns
      next_thread on = thread_by (suc at) (handed (suc at) (leads.3 on)) (behind_on on)

  -- a switch, whatever it finds in the first register
  pub first_set : (i : Code) → Holds area at i → plain_effect area.entries i state ≡ when (has state.regs 1) state → IsSet c.registers 1
  first_set i holds is = fits.set 1 (needed i holds (has state.regs 1) state is).0

  pub switch_thread : (i : Code) → Holds area at i → plain_effect area.entries i state ≡ when (has state.regs 1) state → (to : ℕ)
      → IsTrue (has (named area i) to) → Goes to c.registers c.slots c.returns
  switch_thread i holds is to n = named_thread i holds (is ∙ ap (λ b. when b state) (needed i holds (has state.regs 1) state is).0) to n

  -- ---- frames

  pub slots_safe : (i : Code) (holds : Holds area at i) (handed : State) → HandedTo safe.states handed (suc at) → handed.owed ≡ 0 → IsTrue (goes_on i)
      → (slots : Places) → Fits handed c.registers slots → AreOwn s slots → IsSafe area s (suc at) 0 (record c { slots = slots })
  slots_safe i holds given h owes on slots f own = other_safe (suc at) (record c { slots = slots }) refl (record {
    reached = reached_by safe.states given (suc at) c.registers slots h owes f;
    registers_own = safe.here.registers_own;
    slots_own = own;
    returns_own = safe.here.returns_own;
    behind = behind_on i holds on;
  })

  module _ (n : ℕ) (holds : Holds area at (Allocate n)) where
    abbrev framed : State
    framed = record state { frame = Some (replicate n Unset) }

    pub no_slots : c.slots ≡ []
    no_slots = no_slots_are state.frame c.slots (needed (Allocate n) holds (no_frame state.frame) framed refl).0 fits.frame

    pub allocate_safe : IsSafe area s (suc at) 0 (record c { slots = replicate n nothing_held })
    allocate_safe =
        slots_safe (Allocate n) holds framed (handed_on (Allocate n) holds (no_frame state.frame) framed refl refl) safe.here.reached.owes refl (replicate n nothing_held)
        (record { set = fits.set; frame = (length-replicate n nothing_held ∙ sym (length-replicate n Unset), (λ k e. absurd (no_cell n k e)), (λ k e. absurd (no_level n k e))) })
        (λ k d e. absurd (none-some d (sym (unset n k) ∙ e)))

  pub deallocate_safe : Holds area at Deallocate → IsSafe area s (suc at) 0 (record c { slots = [] })
  deallocate_safe holds =
      let bare : State = record state { frame = None } in
      slots_safe Deallocate holds bare (handed_on Deallocate holds (has_frame state.frame) bare refl refl) safe.here.reached.owes refl [] (record { set = fits.set; frame = refl }) no_cells

  -- ---- calls

  given_set : (n : ℕ) (e : Entry) → HasEntry area n e → are_given state (slice_get area.entries n) ≡ true → are_set state.regs e.arity ≡ true
  given_set n e there g = subst (λ o. are_given state o ≡ true) there g

  -- the registers of a predicate's arguments
  abbrev pub kept : Entry → Places
  kept e = take (e.arity + 1) c.registers

  kept_own : (e : Entry) → AreOwn s (kept e)
  kept_own e n d i = safe.here.registers_own n d (taken (e.arity + 1) c.registers n d i)

  -- A predicate begins with them, and without slots.
  begins : (n : ℕ) (e : Entry) → HasEntry area n e → are_given state (slice_get area.entries n) ≡ true → IsReached safe.states e.at 0 (kept e) []
  begins n e there g =
      let h = entry_covered area safe.states safe.verified n e there state.regs (given_set n e there g) in
      let b = safe.verified.entries n e there in
      let same : h.0 ≡ b.0 = sym (some_is h.0 b.0 (sym h.1 ∙ b.1)) in
      record {
        state = h.0;
        has = h.1;
        owes = sym h.2.owed;
        fits = record {
          set = λ k i. (
              let w = (b.2.regs k).0 (subst (λ (t : State). has t.regs k ≡ true) same i) in
              let one = fits.set k (h.2.regs k i) in
              (one.0, ap cell_of (get_or-take (e.arity + 1) c.registers k nothing_held (omega (arith, w.1))) ∙ one.1)
              );
          frame = subst (λ o. HasSlots o []) h.2.frame refl;
        };
      }

  pub call_safe : (n : ℕ) → Holds area at (Call n) → (e : Entry) → HasEntry area n e
      → IsSafe area s e.at 0 (record c {
        registers = kept e;
        slots = [];
        returns = record { to = suc at; slots = c.slots } ∷ c.returns;
        noted = length c.points;
      })
  call_safe n holds e there =
      let bare : State = record state { regs = [] } in
      let need : Bool = has_frame state.frame && are_given state (slice_get area.entries n) in
      let parts = and_parts (has_frame state.frame) (are_given state (slice_get area.entries n)) (needed (Call n) holds need bare refl).0 in
      other_safe e.at (record c { registers = kept e; slots = []; returns = record { to = suc at; slots = c.slots } ∷ c.returns; noted = length c.points }) refl (record {
        reached = begins n e there parts.1;
        registers_own = kept_own e;
        slots_own = no_cells;
        returns_own = (
          reached_by safe.states bare (suc at) [] c.slots (handed_on (Call n) holds need bare refl refl) safe.here.reached.owes
              (record { set = λ k i. absurd (true≢false (sym i)); frame = fits.frame }),
          safe.here.slots_own,
          safe.here.returns_own,
        );
        behind = (entry_outside area safe.states safe.verified n e there, behind_on (Call n) holds refl);
      })

  -- a place outside of all queries has a continuation
  pub continued : (rs : List Return) → AreBehind area at rs → IsOutside area at → (r : Return) × (later : List Return) × (rs ≡ r ∷ later) × AreBehind area r.to later
  continued [] b o = absurd (o b.0 b.1 b.2 b.3)
  continued (r ∷ rs) b o = (r, rs, refl, b.1)

  pub execute_safe : (n : ℕ) → Holds area at (Execute n) → (e : Entry) → HasEntry area n e → IsSafe area s e.at 0 (record c { registers = kept e; noted = length c.points })
  execute_safe n holds e there =
      let given : Bool = are_given state (slice_get area.entries n) in
      let parts = and_parts (no_frame state.frame) given (needed (Execute n) holds (no_frame state.frame && given) state refl).0 in
      let none : c.slots ≡ [] = no_slots_are state.frame c.slots parts.0 fits.frame in
      let k = continued c.returns safe.here.behind (executes_outside area safe.states safe.verified at n holds) in
      other_safe e.at (record c { registers = kept e; noted = length c.points }) refl (record {
        reached = subst (λ l. IsReached safe.states e.at 0 (kept e) l) (sym none) (begins n e there parts.1);
        registers_own = kept_own e;
        slots_own = safe.here.slots_own;
        returns_own = safe.here.returns_own;
        behind = subst (λ rs. AreBehind area e.at rs) (sym k.2) (entry_outside area safe.states safe.verified n e there, k.3);
      })

  module _ (holds : Holds area at Proceed) where
    pub some_return : 0 < length c.returns
    some_return = let k = continued c.returns safe.here.behind (returns_outside area safe.states safe.verified at holds) in subst (λ rs. 0 < length rs) (sym k.2) (omega arith)

    pub proceed_safe : (r : Return) (later : List Return) → c.returns ≡ r ∷ later → IsSafe area s r.to 0 (record c { slots = r.slots; returns = later })
    proceed_safe r later is =
        let own : AreReturns safe.states s (r ∷ later) = subst (λ rs. AreReturns safe.states s rs) is safe.here.returns_own in
        let b : AreBehind area at (r ∷ later) = subst (λ rs. AreBehind area at rs) is safe.here.behind in
        other_safe r.to (record c { slots = r.slots; returns = later }) refl (record {
          reached = record { state = own.0.state; has = own.0.has; owes = own.0.owes; fits = without_registers own.0.state c.registers r.slots own.0.fits };
          registers_own = safe.here.registers_own;
          slots_own = own.1;
          returns_own = own.2;
          behind = b.1;
        })

-- ---- back to the newest choice point

module _ (area : Area) (s s' : branch.State) (c c' : Contents) (to : ℕ) (safe : IsSafeBack area s c) (some : c.points ≡ point_of c' to ∷ c'.points) where
  parts_of : (hs : List Cells) → ArePoints area safe.states s (point_of c' to ∷ c'.points) hs → (h : Cells) (later : List Cells) → hs ≡ h ∷ later
      → IsThread area safe.states (with_heap s h) to 0 c'.registers c'.slots c'.returns × ArePoints area safe.states s c'.points later
  parts_of hs own h later is = subst (λ l. ArePoints area safe.states s (point_of c' to ∷ c'.points) l) is own

  pub resumed_safe : IsUndone s s' → IsSound s' → IsSafe area s' to 0 c'
  resumed_safe undone sound =
      let own = parts_of s.heaps.below (subst (λ ps. ArePoints area safe.states s ps s.heaps.below) some safe.points) s'.heaps.now s'.heaps.below undone.heaps in
      record {
        states = safe.states;
        verified = safe.verified;
        atoms = undone.atoms ∙ safe.atoms;
        sound = sound;
        here = thread_kept area safe.states (with_heap s s'.heaps.now) s' to 0 c'.registers c'.slots c'.returns (λ d k. same_atoms s s' undone.atoms s'.heaps.now d k) own.0;
        points = points_kept area safe.states s s' undone.atoms c'.points s'.heaps.below own.1;
      }

-- a pair lies below each point's
pub can_undo : (area : Area) (s : branch.State) (c : Contents) → IsSafeBack area s c → 0 < length c.points → 1 < length s.heaps.below
can_undo area s c safe some = let k = points_marked area safe.states s c.points s.heaps.below safe.points in omega (arith, some, k)

-- ---- results

-- at an equal place with equal areas
pub moved_to : (P : ℕ → Contents → Type 0) (to to' : ℕ) (c c' : Contents) → to' ≡ to → c' ≡ c → P to c → P to' c'
moved_to P to to' c c' e f p = subst (P to') (sym f) (subst (λ n. P n c) (sym e) p)

-- and with an equal branch
pub left_to : (P : branch.State → ℕ → Contents → Type 0) (s s' : branch.State) (to to' : ℕ) (c c' : Contents) → s' ≡ s → to' ≡ to → c' ≡ c → P s to c → P s' to' c'
left_to P s s' to to' c c' d e f p = moved_to (P s') to to' c c' e f (subst (λ t. P t to c) (sym d) p)

pub ok_each : {A : Type 0} {E : Type 0} → (r : Result A E) (P Q : A → Type 0) → ((a : A) → P a → Q a) → IfOk r P → IfOk r Q
ok_each (Ok a) P Q f p = f a p
ok_each (Err e) P Q f p = tt
