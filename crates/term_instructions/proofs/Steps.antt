-- The get and put groups are safe.
use Rattle.std.proofs.Common.{◌≡◌, ℕ, zero, suc, ◌<◌, Bool, true, false, ◌&&◌, IsTrue, ◌∷◌, [], length, Some, None, refl, ap, sym, ◌∙◌, subst, arith}
use Rattle.std.proofs.Common.{length-append, ℤ}
use Rattle.std.proofs.lemmas.Bool.{and_parts}
use Rattle.fd_language.specs.Family.{has}
use Rattle.term_pool.specs.declared.AtomId.{AtomId}
use Rattle.heap_cells.specs.declared.Cell.{Cell as HeapCell}
use Rattle.heap_cells.specs.declared.Cell.TheVariants as cell
use Rattle.heap_cells.specs.Cells.{free, with_new_slot}
use Rattle.branch_state.specs.States as branch
use Rattle.branch_state.specs.States.{IsCell, IsSound, IsSameBelow, with_heap}
use Rattle.wam_code.specs.declared.instruction.Register.{Register}
use Rattle.wam_code.specs.declared.instruction.Register.TheVariants.{X, Y}
use Rattle.wam_code.specs.declared.instruction.Code.{Code}
use Rattle.wam_code.specs.declared.instruction.Code.TheVariants.{GetVariable, GetValue, GetConstant, GetInteger, PutVariable, PutValue, PutConstant, PutInteger}
use Rattle.wam_code.specs.Area.{State, Area, Holds}
use Rattle.wam_code.specs.Effect.{is_set, is_free, with_set, plain_effect}
use Rattle.wam_code.specs.VerifiedCode.{goes_on}
use Rattle.code_areas.specs.Areas.{cell_at, IsSet, Contents}
use Rattle.code_meaning.specs.Registers.{cell_in, IsWritten}
use Rattle.code_safety.specs.Machine.{registers_of, HasCell, CanHold, IsSameBehind}
use Rattle.code_safety.specs.Queries.{StaysInside}
use Rattle.code_safety.specs.Safety.{Fits, AreOwn, IsSafe, IsSafeThen}
use Rattle.code_safety.specs.RepresentedBranch.{went_by}
use Rattle.code_safety.specs.Work.{LeadsOn}
use Rattle.code_safety.specs.declared.instruction_outcomes.Went.{Went}
use Rattle.code_safety.specs.declared.instruction_outcomes.Went.TheVariants.{On, Back}
use Rattle.code_safety.specs.CellEquations.{Equates}
use Rattle.term_instructions.specs.Arguments.{LeadsAmong, LeadsFrom}
use Rattle.code_safety.proofs.Lemmas.{same_cells, next_inside, found, when_parts, some_is, free_holds, set_holds, written_fits, written_own, cells_kept}
use Rattle.code_safety.proofs.Lemmas.{back_safe, next_safe, same_behind, behind_both, same_below, below_heap}

pub owed_set : (t : State) (r : Register) → (with_set t r).owed ≡ t.owed
owed_set t (X n) = refl
owed_set t (Y n) = refl

-- The next place is one behind an argument,
pub next_among : (area : Area) (s : branch.State) (at n : ℕ) (c : Contents) → IsSafe area s at n c → (i : Code) → Holds area at i → IsTrue (goes_on i) → (to : ℕ) → to ≡ suc at → LeadsAmong area at to
next_among area s at n c safe i holds on to is = subst (LeadsAmong area at) (sym is) (omega arith, next_inside area s at n c safe i holds on)

-- and is behind more of them, from a place behind some.
pub among_both : (area : Area) (at from to : ℕ) → LeadsAmong area at from → LeadsAmong area from to → LeadsAmong area at to
among_both area at from to f g = ((let one = f.0 in let two = g.0 in omega (arith, one, two)), λ number i. g.1 number (f.1 number i))

-- no argument yet
pub among_none : (area : Area) (at : ℕ) → LeadsAmong area at at
among_none area at = (omega arith, λ number i. i)

module _ (area : Area) (s : branch.State) (at : ℕ) (c : Contents) (safe : IsSafe area s at 0 c) (i : Code) (holds : Holds area at i) (on : IsTrue (goes_on i)) where
  -- An instruction leads on to the next place.
  pub led_on : (to : ℕ) → to ≡ suc at → LeadsOn area at (On to)
  led_on to is = subst (λ k. LeadsOn area at (On k)) (sym is) (omega arith, next_inside area s at 0 c safe i holds on)

  -- Where two cells were made equal, the next place is a later one.
  pub led_by : (equal : Bool) → LeadsOn area at (went_by at equal)
  led_by true = led_on (suc at) refl
  led_by false = tt

  -- What leads from the next place leads on.
  pub led_from : (from : ℕ) → from ≡ suc at → (w : Went) → LeadsFrom area from w → LeadsOn area at w
  led_from from is (On to) later =
      let next : (at < from) × StaysInside area at from = led_on from is in
      let low = next.0 in
      let high = later.0 in
      (omega (arith, low, high), λ number i. later.1 number (next.1 number i))
  led_from from is Back later = tt

-- what a register holds is a cell of the branch
pub held_own : (s : branch.State) (c : Contents) (r : Register) (d : HeapCell) → AreOwn s c.registers → AreOwn s c.slots → cell_in (registers_of c) r ≡ Some d → IsCell s d
held_own s c (X n) d xs ys e = xs n d e
held_own s c (Y zero) d xs ys e = (let none : None ≡ Some d = e in cc)
held_own s c (Y (suc n)) d xs ys e = ys n d e

-- the cells of a branch stay where it has one more variable
pub new_slot_own : (s s' : branch.State) → s' ≡ with_heap s (with_new_slot s.heaps.now) → (d : HeapCell) → IsCell s d → IsCell s' d
new_slot_own s s' e d o = subst (λ (t : branch.State). IsCell t d) (sym e) (go d o)
  where
    go : (d : HeapCell) → IsCell s d → IsCell (with_heap s (with_new_slot s.heaps.now)) d
    go (cell.Ref i) o = ((let l = o.0 in omega (arith, l, length-append s.heaps.now.slots (free ∷ []))), o.1)
    go (cell.Int z) o = o
    go (cell.Atom a) o = o
    go (cell.Struct j) o = o

module _ (area : Area) (s : branch.State) (at : ℕ) (c : Contents) (safe : IsSafe area s at 0 c) where
  -- a register takes a cell of the branch
  pub written_safe : (i : Code) (r : Register) → Holds area at i → goes_on i ≡ true
      → ((t u : State) → plain_effect area.entries i t ≡ Some u → u ≡ with_set t r) → (c' : Contents) (d : HeapCell) → IsCell s d
      → IsWritten (registers_of c) r d (registers_of c') → IsSameBehind c c' → length c'.slots ≡ length c.slots → IsSafe area s (suc at) 0 c'
  written_safe i r holds on sets c' d own w same size =
      let f = found area s at 0 c i safe holds in
      let k = sets f.state f.handed f.effect_is in
      let o = written_own s c c' r d safe.here.registers_own safe.here.slots_own own w in
      next_safe area s s at 0 c c' safe (same_below s) same i holds on f 0
      (subst (λ u. Fits u c'.registers c'.slots) (sym k) (written_fits f.state c c' r d f.fits w size)) (ap (λ (u : State). u.owed) k ∙ owed_set f.state r
      ∙ f.owes) safe.sound (λ e l. l) o.0 o.1

  -- two cells are made equal
  pub equal_safe : (i : Code) → Holds area at i → goes_on i ≡ true → ((t u : State) → plain_effect area.entries i t ≡ Some u → u ≡ t)
      → (s' : branch.State) (d e : HeapCell) (equal : Bool) → Equates s d e s' equal → IsSameBelow s s' → IsSafeThen area s' c (went_by at equal)
  equal_safe i holds on stays s' d e true q below =
      let f = found area s at 0 c i safe holds in
      let k = stays f.state f.handed f.effect_is in
      let keep = same_cells s s' below.atoms q.size in
      next_safe area s s' at 0 c c safe below (same_behind c) i holds on f 0 (subst (λ u. Fits u c.registers c.slots) (sym k) f.fits) (ap (λ (u : State). u.owed) k ∙ f.owes) q.sound keep
      (cells_kept s s' keep c.registers safe.here.registers_own) (cells_kept s s' keep c.slots safe.here.slots_own)
  equal_safe i holds on stays s' d e false q below = back_safe area s s' at 0 c c safe below (same_behind c) q.1

  -- an atom of the code is one of the branch
  pub atom_own : (k : AtomId) → k.number < length area.pool.names → IsCell s (cell.Atom k)
  atom_own k low = (tt, subst (λ n. k.number < n) (sym safe.atoms) low)

  pub get_variable_needs : (r : Register) (a : ℕ) → Holds area at (GetVariable r a) → IsSet c.registers a × CanHold c r
  get_variable_needs r a holds =
      let f = found area s at 0 c (GetVariable r a) safe holds in
      let p = when_parts (has f.state.regs a && is_free f.state r) (with_set f.state r) f.handed f.effect_is in
      let q = and_parts (has f.state.regs a) (is_free f.state r) p.0 in
      (f.fits.set a q.0, free_holds f.state c r f.fits q.1)

  pub get_variable_safe : (r : Register) (a : ℕ) → Holds area at (GetVariable r a) → (c' : Contents) (d : HeapCell) → cell_at c.registers a ≡ Some d
      → IsWritten (registers_of c) r d (registers_of c') → IsSameBehind c c' → length c'.slots ≡ length c.slots → IsSafe area s (suc at) 0 c'
  get_variable_safe r a holds c' d here =
      written_safe (GetVariable r a) r holds refl (λ t u e. (when_parts (has t.regs a && is_free t r) (with_set t r) u e).1) c' d (safe.here.registers_own a d here)

  pub get_value_needs : (r : Register) (a : ℕ) → Holds area at (GetValue r a) → IsSet c.registers a × HasCell c r
  get_value_needs r a holds =
      let f = found area s at 0 c (GetValue r a) safe holds in
      let p = when_parts (has f.state.regs a && is_set f.state r) f.state f.handed f.effect_is in
      let q = and_parts (has f.state.regs a) (is_set f.state r) p.0 in
      (f.fits.set a q.0, set_holds f.state c r f.fits q.1)

  pub get_value_safe : (r : Register) (a : ℕ) → Holds area at (GetValue r a) → (s' : branch.State) (d e : HeapCell) (equal : Bool) → Equates s d e s' equal
      → IsSameBelow s s' → IsSafeThen area s' c (went_by at equal)
  get_value_safe r a holds = equal_safe (GetValue r a) holds refl (λ t u e. (when_parts (has t.regs a && is_set t r) t u e).1)

  pub get_constant_needs : (k : AtomId) (a : ℕ) → Holds area at (GetConstant k a) → IsSet c.registers a
  get_constant_needs k a holds =
      let f = found area s at 0 c (GetConstant k a) safe holds in
      f.fits.set a (when_parts (has f.state.regs a) f.state f.handed f.effect_is).0

  pub get_constant_own : (k : AtomId) (a : ℕ) → Holds area at (GetConstant k a) → IsCell s (cell.Atom k)
  get_constant_own k a holds = atom_own k (safe.verified.there at (GetConstant k a) holds)

  pub get_constant_safe : (k : AtomId) (a : ℕ) → Holds area at (GetConstant k a) → (s' : branch.State) (d e : HeapCell) (equal : Bool) → Equates s d e s' equal
      → IsSameBelow s s' → IsSafeThen area s' c (went_by at equal)
  get_constant_safe k a holds = equal_safe (GetConstant k a) holds refl (λ t u e. (when_parts (has t.regs a) t u e).1)

  pub get_integer_needs : (z : ℤ) (a : ℕ) → Holds area at (GetInteger z a) → IsSet c.registers a
  get_integer_needs z a holds =
      let f = found area s at 0 c (GetInteger z a) safe holds in
      f.fits.set a (when_parts (has f.state.regs a) f.state f.handed f.effect_is).0

  pub get_integer_safe : (z : ℤ) (a : ℕ) → Holds area at (GetInteger z a) → (s' : branch.State) (d e : HeapCell) (equal : Bool) → Equates s d e s' equal
      → IsSameBelow s s' → IsSafeThen area s' c (went_by at equal)
  get_integer_safe z a holds = equal_safe (GetInteger z a) holds refl (λ t u e. (when_parts (has t.regs a) t u e).1)

  pub put_value_needs : (r : Register) (a : ℕ) → Holds area at (PutValue r a) → HasCell c r
  put_value_needs r a holds =
      let f = found area s at 0 c (PutValue r a) safe holds in
      set_holds f.state c r f.fits (when_parts (is_set f.state r) (with_set f.state (X a)) f.handed f.effect_is).0

  pub put_value_safe : (r : Register) (a : ℕ) → Holds area at (PutValue r a) → (c' : Contents) (d : HeapCell) → cell_in (registers_of c) r ≡ Some d
      → IsWritten (registers_of c) (X a) d (registers_of c') → IsSameBehind c c' → length c'.slots ≡ length c.slots → IsSafe area s (suc at) 0 c'
  put_value_safe r a holds c' d here =
      written_safe (PutValue r a) (X a) holds refl (λ t u e. (when_parts (is_set t r) (with_set t (X a)) u e).1) c' d (held_own s c r d safe.here.registers_own safe.here.slots_own here)

  pub put_constant_safe : (k : AtomId) (a : ℕ) → Holds area at (PutConstant k a) → (c' : Contents)
      → IsWritten (registers_of c) (X a) (cell.Atom k) (registers_of c') → IsSameBehind c c' → length c'.slots ≡ length c.slots → IsSafe area s (suc at) 0 c'
  put_constant_safe k a holds c' =
      written_safe (PutConstant k a) (X a) holds refl (λ t u e. some_is (with_set t (X a)) u e) c' (cell.Atom k) (atom_own k (safe.verified.there at (PutConstant k a) holds))

  pub put_integer_safe : (z : ℤ) (a : ℕ) → Holds area at (PutInteger z a) → (c' : Contents) → IsWritten (registers_of c) (X a) (cell.Int z) (registers_of c')
      → IsSameBehind c c' → length c'.slots ≡ length c.slots → IsSafe area s (suc at) 0 c'
  put_integer_safe z a holds c' =
      written_safe (PutInteger z a) (X a) holds refl (λ t u e. some_is (with_set t (X a)) u e) c' (cell.Int z) (tt, tt)

  pub put_variable_needs : (r : Register) (a : ℕ) → Holds area at (PutVariable r a) → CanHold c r
  put_variable_needs r a holds =
      let f = found area s at 0 c (PutVariable r a) safe holds in
      free_holds f.state c r f.fits (when_parts (is_free f.state r) (with_set (with_set f.state r) (X a)) f.handed f.effect_is).0

  pub put_variable_safe : (r : Register) (a : ℕ) → Holds area at (PutVariable r a) → (s' : branch.State) → s' ≡ with_heap s (with_new_slot s.heaps.now)
      → IsSound s' → (d : HeapCell) → d ≡ cell.Ref (length s.heaps.now.slots) → (c' c'' : Contents)
      → IsWritten (registers_of c) r d (registers_of c') → IsSameBehind c c' → length c'.slots ≡ length c.slots
      → IsWritten (registers_of c') (X a) d (registers_of c'') → IsSameBehind c' c'' → length c''.slots ≡ length c'.slots → IsSafe area s' (suc at) 0 c''
  put_variable_safe r a holds s' added sound d is c' c'' w same size w' same' size' =
      let f = found area s at 0 c (PutVariable r a) safe holds in
      let k = (when_parts (is_free f.state r) (with_set (with_set f.state r) (X a)) f.handed f.effect_is).1 in
      let keep = new_slot_own s s' added in
      let own : IsCell s' d = subst (IsCell s') (sym is)
      (subst (λ (t : branch.State). IsCell t (cell.Ref (length s.heaps.now.slots))) (sym added)
      (omega (arith, length-append s.heaps.now.slots (free ∷ [])), tt)) in
      let o = written_own s' c c' r d (cells_kept s s' keep c.registers safe.here.registers_own) (cells_kept s s' keep c.slots safe.here.slots_own) own w in
      let o' = written_own s' c' c'' (X a) d o.0 o.1 own w' in
      let fits = written_fits (with_set f.state r) c' c'' (X a) d (written_fits f.state c c' r d f.fits w size) w' size' in
      next_safe area s s' at 0 c c'' safe (below_heap s s' (added ∙ ap (with_heap s) (sym (ap (λ (t : branch.State). t.heaps.now) added))))
      (behind_both c c' c'' same same') (PutVariable r a) holds refl f 0 (subst (λ u. Fits u c''.registers c''.slots) (sym k) fits)
      (ap (λ (u : State). u.owed) k ∙ owed_set (with_set f.state r) (X a) ∙ owed_set f.state r ∙ f.owes) sound keep o'.0 o'.1
