-- Structures, from their instruction to the place behind the unify group.
use Rattle.std.specs.Prelude.{◌≤◌, IfOk, OnOk}
use Rattle.std.proofs.Common.{◌≡◌, ℕ, suc, ◌-◌, ◌==◌, true, ◌||◌, List, [], ◌∷◌, length, map, Result, Ok, Err, refl, ap, sym, ◌∙◌, subst, inl, inr, arith, ℤ}
use Rattle.std.proofs.lemmas.Bool.{cases_Bool}
use Rattle.fd_language.specs.declared.TheConstants.{INFINITY}
use Rattle.fd_language.specs.Family.{has}
use Rattle.term_pool.specs.declared.AtomId.{AtomId}
use Rattle.heap_cells.specs.declared.Cell.{Cell}
use Rattle.heap_cells.specs.declared.Cell.TheVariants as cell
use Rattle.heap_cells.specs.Cells.{Heaps, IsOf}
use Rattle.heap_cells.specs.Atoms.{IsAtomBelow}
use Rattle.branch_lemmas.proofs.Lemmas.{of_grown}
use Rattle.branch_state.specs.Compounds.{IsMade}
use Rattle.branch_state.specs.States as branch
use Rattle.branch_state.specs.States.{IsCell, IsSound, IsSameBelow, with_heap}
use Rattle.wam_code.specs.declared.instruction.Register.TheVariants.{X}
use Rattle.wam_code.specs.declared.instruction.Code.TheVariants.{PutStructure}
use Rattle.wam_code.specs.Area.{State, Area, Holds, name_of}
use Rattle.wam_code.specs.VerifiedCode.{IsAtom}
use Rattle.wam_code.specs.Effect.{with_set, with_owed}
use Rattle.code_areas.specs.Areas.{Contents}
use Rattle.code_meaning.specs.Registers.{IsWritten}
use Rattle.code_meaning.specs.WriteMode.{PutEnd, Builds}
use Rattle.code_meaning.specs.StateMeaning.{Stands}
use Rattle.code_meaning.proofs.Lemmas.{start_put, end_put}
use Rattle.code_safety.specs.Machine.{saved_of, registers_of, stack_of, IsSameBehind}
use Rattle.code_safety.specs.Safety.{Fits, AreReturns, AreBehind, IsSafe, IsSafeThen}
use Rattle.code_safety.specs.RepresentedBranch.{KeepsStanding}
use Rattle.code_safety.specs.Work.{LeadsOn}
use Rattle.term_instructions.specs.WriteMode.{for_goal, BuildsAt, IsGatheredTo, IsPutAt, PutsOn}
use Rattle.code_safety.specs.declared.instruction_outcomes.Went.{Went}
use Rattle.code_safety.specs.declared.instruction_outcomes.Went.TheVariants.{On}
use Rattle.code_safety.proofs.Lemmas.{found, some_is, written_fits, written_own, cells_kept, returns_kept, points_then, next_safe, same_behind, behind_both}
use Rattle.code_safety.proofs.Lemmas.{same_below, below_heap, below_both}
use Rattle.term_instructions.proofs.Steps.{led_from}
use Rattle.term_instructions.proofs.UnifyInstructions.{fits_owed}
use Rattle.term_instructions.proofs.BuildSteps.{gathered_both}

has_more : (a k : ℕ) (regs : List ℕ) → has regs k ≡ true → has (a ∷ regs) k ≡ true
has_more a k regs e = elim (cases_Bool (a == k)) [ inl i ↦ ap (λ b. b || has regs k) i | inr i ↦ ap (λ b. b || has regs k) i ∙ e ]

-- a register of a place may take any cell of the branch
pub register_safe : (area : Area) (s : branch.State) (at k : ℕ) (c : Contents) → IsSafe area s at k c → (a : ℕ) (d : Cell) → IsCell s d → (c' : Contents)
    → IsWritten (registers_of c) (X a) d (registers_of c') → IsSameBehind c c' → length c'.slots ≡ length c.slots → IsSafe area s at k c'
register_safe area s at k c safe a d own c' w same size =
    let r = safe.here.reached in
    let fits = written_fits r.state c c' (X a) d r.fits w size in
    let o = written_own s c c' (X a) d safe.here.registers_own safe.here.slots_own own w in
    record {
      states = safe.states;
      verified = safe.verified;
      atoms = safe.atoms;
      sound = safe.sound;
      here = record {
        reached = record { state = r.state; has = r.has; owes = r.owes; fits = record { set = λ n e. fits.set n (has_more a n r.state.regs e); frame = fits.frame } };
        registers_own = o.0;
        slots_own = o.1;
        returns_own = subst (λ rs. AreReturns safe.states s rs) (sym same.returns) safe.here.returns_own;
        behind = subst (λ rs. AreBehind area at rs) (sym same.returns) safe.here.behind;
      };
      points = points_then area s s at k c c' safe (same_below s) same;
    }

-- Cells are made equal, or more are there.
pub equated_safe : (area : Area) (s s' : branch.State) (at k : ℕ) (c : Contents) → IsSafe area s at k c → IsSameBelow s s' → IsSound s'
    → ((d : Cell) → IsCell s d → IsCell s' d) → IsSafe area s' at k c
equated_safe area s s' at k c safe below sound keep = record {
  states = safe.states;
  verified = safe.verified;
  atoms = below.atoms ∙ safe.atoms;
  sound = sound;
  here = record {
    reached = safe.here.reached;
    registers_own = cells_kept s s' keep c.registers safe.here.registers_own;
    slots_own = cells_kept s s' keep c.slots safe.here.slots_own;
    returns_own = returns_kept safe.states s s' keep c.returns safe.here.returns_own;
    behind = safe.here.behind;
  };
  points = points_then area s s' at k c c safe below (same_behind c);
}

-- the heap grows
pub grown_safe : (area : Area) (s s' : branch.State) (at k : ℕ) (c : Contents) → IsSafe area s at k c → s' ≡ with_heap s s'.heaps.now → IsSound s'
    → ((d : Cell) → IsCell s d → IsCell s' d) → IsSafe area s' at k c
grown_safe area s s' at k c safe heap = equated_safe area s s' at k c safe (below_heap s s' heap)

-- more is posted
pub sound_safe : (area : Area) (s s' : branch.State) (at k : ℕ) (c : Contents) → IsSafe area s at k c → s'.heaps ≡ s.heaps → IsSameBelow s s' → IsSound s' → IsSafe area s' at k c
sound_safe area s s' at k c safe heap below sound =
    equated_safe area s s' at k c safe below sound (λ d o. (subst (λ (h : Heaps). IsOf h.now d) (sym heap) o.0, subst (λ n. IsAtomBelow n d) (sym below.atoms) o.1))

-- what grows keeps its cells
pub made_keeps : (f : AtomId) (cells : List Cell) (s s' : branch.State) (new : Cell) → IsMade f cells s s' new → s' ≡ with_heap s s'.heaps.now → (d : Cell) → IsCell s d → IsCell s' d
made_keeps f cells s s' new m heap d o = (of_grown s.heaps.now s'.heaps.now m.grown d o.0, subst (λ n. IsAtomBelow n d) (sym (below_heap s s' heap).atoms) o.1)

module _ (area : Area) (s : branch.State) (at : ℕ) (c : Contents) (safe : IsSafe area s at 0 c) (f : AtomId) (n a : ℕ) (holds : Holds area at (PutStructure f n a)) where
  pub put_atom : IsAtom area f
  put_atom = safe.verified.there at (PutStructure f n a) holds

  -- the register holds some cell meanwhile
  pub put_started : (c1 : Contents) (z : ℤ) → IsWritten (registers_of c) (X a) (cell.Int z) (registers_of c1) → IsSameBehind c c1 → length c1.slots ≡ length c.slots → IsSafe area s (suc at) n c1
  put_started c1 z w same size =
      let e = found area s at 0 c (PutStructure f n a) safe holds in
      let k = some_is (with_owed (with_set e.state (X a)) n) e.handed e.effect_is in
      let o = written_own s c c1 (X a) (cell.Int z) safe.here.registers_own safe.here.slots_own (tt, tt) w in
      let fits : Fits e.handed c1.registers c1.slots = subst (λ v. Fits v c1.registers c1.slots) (sym k)
      (fits_owed (with_set e.state (X a)) n c1.registers c1.slots (written_fits e.state c c1 (X a) (cell.Int z) e.fits w size)) in
      next_safe area s s at 0 c c1 safe (same_below s) same (PutStructure f n a) holds refl e n fits (ap (λ (v : State). v.owed) k) safe.sound (λ x l. l) o.0 o.1

  module _ (c1 : Contents) (z : ℤ) (w1 : IsWritten (registers_of c) (X a) (cell.Int z) (registers_of c1)) (same1 : IsSameBehind c c1) (empty : List Cell)
      (none : empty ≡ []) (s2 : branch.State) (next : ℕ) (c2 : Contents) (cells : List Cell) (g : IsGatheredTo area n s (suc at) c1 empty s2 next c2 cells)
      (all : length cells ≡ n)
      (s3 : branch.State) (new : Cell) (given : List Cell) (given_is : given ≡ cells) (made : IsMade f given s2 s3 new) (heap : s3 ≡ with_heap s2 s3.heaps.now)
      (sound : IsSound s3) (c3 : Contents) (w3 : IsWritten (registers_of c2) (X a) new (registers_of c3)) (same3 : IsSameBehind c2 c3) where
    pub put_behind : IsSameBehind c c3
    put_behind = behind_both c c1 c3 same1 (behind_both c1 c2 c3 g.behind same3)

    pub put_below : IsSameBelow s s3
    put_below = below_both s s2 s3 g.below (below_heap s2 s3 heap)

    pub put_safe : length c3.slots ≡ length c2.slots → IsSafe area s3 next 0 c3
    put_safe size =
        let none_left : n - length cells ≡ 0 = omega (arith, all) in
        let there : IsSafe area s2 next 0 c2 = subst (λ k. IsSafe area s2 next k c2) none_left g.safe in
        register_safe area s3 next 0 c2 (grown_safe area s2 s3 next 0 c2 there heap sound (made_keeps f given s2 s3 new made heap)) a new made.own c3 w3 same3 size

    pub put_stands : KeepsStanding area s at c s3 c3 (On next)
    put_stands N small marks shown name b m st =
        let named = m.same f (safe.verified.there at (PutStructure f n a) holds) in
        let one = start_put INFINITY N marks area shown name s.heaps.now s.levels.current.posted at (registers_of c) (stack_of c) b st f n a holds (registers_of c1) w1.0.else w1.1 w1.2 w1.3 in
        let two : BuildsAt N marks area shown name (name_of area f) (for_goal a) s (suc at) c1 [] (n - length {A = Cell} []) b = subst
        (λ k. BuildsAt N marks area shown name (name_of area f) (for_goal a) s (suc at) c1 [] k b) (let e : n ≡ n - length {A = Cell} [] = omega arith in e)
        (subst (λ rs. Builds INFINITY N marks area shown name s.heaps.now s.levels.current.posted 0 (suc at) (registers_of c1) [] n (map saved_of rs) b
        (PutEnd area shown b (name_of area f) a)) (sym same1.returns) one) in
        let three = g.keeps N small marks shown name (name_of area f) (for_goal a) b m
        (subst (λ l. BuildsAt N marks area shown name (name_of area f) (for_goal a) s (suc at) c1 l (n - length l) b) (sym none) two) in
        let four : BuildsAt N marks area shown name (name_of area f) (for_goal a) s2 next c2 given 0 b =
        subst (λ l. BuildsAt N marks area shown name (name_of area f) (for_goal a) s2 next c2 l 0 b) (sym given_is)
        (subst (λ k. BuildsAt N marks area shown name (name_of area f) (for_goal a) s2 next c2 cells k b)
        (let e : n - length cells ≡ 0 = omega (arith, all) in e) three) in
        let five = end_put INFINITY N marks area shown name s2.heaps.now s2.levels.current.posted next (registers_of c2) (stack_of c2) b f named given
        s3.heaps.now new made.grown made.own.0 (made.term name) a four (registers_of c3) w3 in
        subst (λ rs. Stands INFINITY N marks area shown name s3.heaps.now s3.levels.current.posted next (registers_of c3) (map saved_of rs) b) (sym same3.returns)
        (subst (λ ps. Stands INFINITY N marks area shown name s3.heaps.now ps next (registers_of c3) (stack_of c2) b) (sym (ap (λ (t : branch.State). t.levels.current.posted) heap)) five)

  -- The register takes it.
  pub put_done : (c1 : Contents) (z : ℤ) → IsWritten (registers_of c) (X a) (cell.Int z) (registers_of c1) → IsSameBehind c c1 → (from : ℕ) → from ≡ suc at
      → (s' : branch.State) (c' : Contents) {E : Type 0} (r : Result Went E) → IfOk r (PutsOn area f n a s from c1 [] s' c')
      → IfOk r (IsSafeThen area s' c') × IfOk r (KeepsStanding area s at c s' c') × IfOk r (LeadsOn area at) × OnOk r (IsSameBehind c c') × OnOk r (IsSameBelow s s')
  put_done c1 z w1 same1 from is s' c' (Err e) p = (tt, tt, tt, tt, tt)
  put_done c1 z w1 same1 from is s' c' (Ok w) p =
      let t = p.put in
      let g : IsGatheredTo area n s (suc at) c1 [] p.middle p.next p.contents p.args = subst (λ i. IsGatheredTo area n s i c1 [] p.middle p.next p.contents p.args) is p.gathered in (
        subst (IsSafeThen area s' c') (sym t.leads) (put_safe c1 z w1 same1 [] refl p.middle p.next p.contents p.args g p.all s' t.built p.args refl t.made t.heap t.sound c' t.written t.same t.slots),
        subst (KeepsStanding area s at c s' c') (sym t.leads)
            (put_stands c1 z w1 same1 [] refl p.middle p.next p.contents p.args g p.all s' t.built p.args refl t.made t.heap t.sound c' t.written t.same),
        subst (LeadsOn area at) (sym t.leads) (led_from area s at c safe (PutStructure f n a) holds refl from is (On p.next) p.gathered.leads),
        put_behind c1 z w1 same1 [] refl p.middle p.next p.contents p.args g p.all s' t.built p.args refl t.made t.heap t.sound c' t.written t.same,
        put_below c1 z w1 same1 [] refl p.middle p.next p.contents p.args g p.all s' t.built p.args refl t.made t.heap t.sound c' t.written t.same,
      )

-- The arguments that are left were gathered before.
pub puts_on : (area : Area) (f : AtomId) (n a : ℕ) (s1 : branch.State) (at : ℕ) (c1 : Contents) (cells : List Cell) (s2 : branch.State) (next : ℕ)
    (c2 : Contents) (args : List Cell) → IsGatheredTo area n s1 at c1 cells s2 next c2 args → length args ≡ n → (given : List Cell) → given ≡ args
    → (s' : branch.State) (c' : Contents) {E : Type 0} (r : Result Went E)
    → IfOk r (IsPutAt f given a next s2 c2 s' c') → IfOk r (PutsOn area f n a s1 at c1 cells s' c')
puts_on area f n a s1 at c1 cells s2 next c2 args g all given is s' c' (Ok w) p = record {
  next = next;
  middle = s2;
  contents = c2;
  args = args;
  gathered = g;
  all = all;
  put = subst (λ l. IsPutAt f l a next s2 c2 s' c' w) is p;
}
puts_on area f n a s1 at c1 cells s2 next c2 args g all given is s' c' (Err e) p = tt

-- Some arguments were gathered before the others.
pub puts_from : (area : Area) (f : AtomId) (n a : ℕ) (s : branch.State) (from : ℕ) (c : Contents) (s1 : branch.State) (at : ℕ) (c1 : Contents)
    (cells : List Cell) → IsGatheredTo area n s from c [] s1 at c1 cells → (s' : branch.State) (c' : Contents) {E : Type 0} (r : Result Went E)
    → IfOk r (PutsOn area f n a s1 at c1 cells s' c') → IfOk r (PutsOn area f n a s from c [] s' c')
puts_from area f n a s from c s1 at c1 cells g s' c' (Ok w) p = record {
  next = p.next;
  middle = p.middle;
  contents = p.contents;
  args = p.args;
  gathered = gathered_both area n s from c [] s1 at c1 cells p.middle p.next p.contents p.args g p.gathered;
  all = p.all;
  put = p.put;
}
puts_from area f n a s from c s1 at c1 cells g s' c' (Err e) p = tt
