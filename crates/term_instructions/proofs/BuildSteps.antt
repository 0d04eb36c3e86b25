-- One argument of a structure that is built is gathered.
use Rattle.std.proofs.Common.{◌≡◌, ℕ, zero, suc, ◌+◌, ◌-◌, ◌<◌, ◌≤◌, nat_le, true, List, [], ◌∷◌, ◌++◌, length, map, All, Some, refl, ap, sym, ◌∙◌, subst}
use Rattle.std.proofs.Common.{arith, ℤ, length-append, get_or}
use Rattle.std.proofs.lemmas.List.Elements.{All-append, All-nil}
use Rattle.std.proofs.lemmas.Option.{same_Some}
use Rattle.fd_language.specs.declared.TheConstants.{INFINITY}
use Rattle.fd_language.specs.Term.{Name}
use Rattle.fd_language.specs.Range.{Indexical}
use Rattle.fd_language.proofs.Lemmas.{two}
use Rattle.fd_model.specs.Goal.{Branch}
use Rattle.term_pool.specs.declared.AtomId.{AtomId}
use Rattle.heap_cells.specs.declared.Cell.{Cell}
use Rattle.heap_cells.specs.declared.Cell.TheVariants as cell
use Rattle.heap_cells.specs.Atoms.{IsAtomBelow}
use Rattle.heap_cells.specs.Cells.{free, Cells, IsOf, with_new_slot}
use Rattle.heap_cells.specs.Terms.{Naming}
use Rattle.heap_cells.specs.HeapInvariant.{IsHeap}
use Rattle.heap_cells.proofs.Lemmas.{var_valid}
use Rattle.branch_lemmas.specs.Frames.{IsGrown}
use Rattle.branch_lemmas.proofs.Lemmas.{grown_same, grown_both, grown_var}
use Rattle.branch_state.specs.States as branch
use Rattle.branch_state.specs.States.{IsCell, IsSound, with_heap}
use Rattle.wam_code.specs.declared.instruction.Register.{Register}
use Rattle.wam_code.specs.declared.instruction.Code.{Code}
use Rattle.wam_code.specs.declared.instruction.Code.TheVariants.{UnifyVariable, UnifyValue, UnifyConstant, UnifyInteger, UnifyVoid}
use Rattle.wam_code.specs.Area.{State, Area, Holds}
use Rattle.wam_code.specs.Effect.{is_set, is_free, with_set, with_owed, unify_effect}
use Rattle.wam_code.specs.VerifiedCode.{goes_on}
use Rattle.code_areas.specs.Areas.{Contents}
use Rattle.code_meaning.specs.Registers.{Registers, Saved, cell_in, IsWritten}
use Rattle.code_meaning.specs.WriteMode.{End, Builds}
use Rattle.code_meaning.proofs.Lemmas.{build_variable, build_value, build_constant, build_integer, build_void, build_voids}
use Rattle.code_safety.specs.Machine.{saved_of, registers_of, stack_of, IsSameBehind}
use Rattle.code_safety.specs.Safety.{Fits, IsSafe}
use Rattle.code_safety.specs.RepresentedBranch.{IsNaming}
use Rattle.term_instructions.specs.WriteMode.{Purpose, for_head, for_goal, end_of, gathered, IsGatheredTo, AddsVariables, AreVariablesAdded, GivesOne}
use Rattle.code_safety.proofs.Lemmas.{found, when_parts, some_is, written_fits, written_own, cells_kept, next_safe, same_behind, behind_both, same_below}
use Rattle.code_safety.proofs.Lemmas.{below_heap, below_both}
use Rattle.term_instructions.proofs.Steps.{next_among, among_both, among_none, owed_set, held_own, new_slot_own}
use Rattle.term_instructions.proofs.UnifyInstructions.{fits_owed, effect_owed, no_void}
use Rattle.term_instructions.proofs.ReadSteps.{own_all}

-- ---- new variables

-- one more
pub added_more : (n : ℕ) (h : Cells) (cells : List Cell) (h' : Cells) (cells' : List Cell) → AddsVariables n h cells h' cells'
    → AddsVariables (suc n) h cells (with_new_slot h') (cells' ++ cell.Ref (length h'.slots) ∷ [])
added_more zero h cells h' cells' a = (ap with_new_slot a.0, two (λ (g : Cells) l. l ++ cell.Ref (length g.slots) ∷ []) a.0 a.1)
added_more (suc n) h cells h' cells' a = added_more n (with_new_slot h) (cells ++ cell.Ref (length h.slots) ∷ []) h' cells' a

pub variables_more : (i : ℕ) (s : branch.State) (cells : List Cell) (s1 : branch.State) (cells1 : List Cell) → AreVariablesAdded i s cells s1 cells1
    → (s2 : branch.State) → s2 ≡ with_heap s1 (with_new_slot s1.heaps.now) → IsSound s2 → (d : Cell) → d ≡ cell.Ref (length s1.heaps.now.slots)
    → (cells2 : List Cell) → cells2 ≡ cells1 ++ d ∷ []
    → AreVariablesAdded (suc i) s cells s2 cells2
variables_more i s cells s1 cells1 a s2 added sound d is cells2 pushed =
    let heap_is : s2.heaps.now ≡ with_new_slot s1.heaps.now = ap (λ (t : branch.State). t.heaps.now) added in
    let all : cells2 ≡ cells1 ++ cell.Ref (length s1.heaps.now.slots) ∷ [] = pushed ∙ ap (λ e. cells1 ++ e ∷ []) is in
    record {
      added = subst (λ (h : Cells). AddsVariables (suc i) s.heaps.now cells h cells2) (sym heap_is)
          (subst (λ l. AddsVariables (suc i) s.heaps.now cells (with_new_slot s1.heaps.now) l) (sym all)
          (added_more i s.heaps.now cells s1.heaps.now cells1 a.added));
      heap = added ∙ ap (λ (t : branch.State). with_heap t (with_new_slot s1.heaps.now)) a.heap ∙ ap (with_heap s) (sym heap_is);
      sound = sound;
    }

own_new : (atoms : ℕ) (h : Cells) (d : Cell) → IsOf h d × IsAtomBelow atoms d → IsOf (with_new_slot h) d × IsAtomBelow atoms d
own_new atoms h (cell.Ref i) o = ((let l = o.0 in omega (arith, l, length-append h.slots (free ∷ []))), o.1)
own_new atoms h (cell.Int z) o = o
own_new atoms h (cell.Atom a) o = o
own_new atoms h (cell.Struct j) o = o

one_all : {X : Type 0} (P : X → Type 0) → (x : X) → P x → All P (x ∷ [])
one_all P x p zero d l = p
one_all P x p (suc k) d l = absurd (omega (arith, l))

-- their cells are the heap's, and older ones stay
added_own : (atoms k : ℕ) (h : Cells) (cells : List Cell) (h' : Cells) (cells' : List Cell) → AddsVariables k h cells h' cells' → All (λ d. IsOf h d × IsAtomBelow atoms d) cells
    → ((d : Cell) → IsOf h d × IsAtomBelow atoms d → IsOf h' d × IsAtomBelow atoms d) × All (λ d. IsOf h' d × IsAtomBelow atoms d) cells' × (length cells' ≡ length cells + k)
added_own atoms zero h cells h' cells' a own = (
  (λ d o. subst (λ g. IsOf g d × IsAtomBelow atoms d) (sym a.0) o),
  subst (λ g. All (λ d. IsOf g d × IsAtomBelow atoms d) cells') (sym a.0) (subst (All (λ d. IsOf h d × IsAtomBelow atoms d)) (sym a.1) own),
  (let e = ap length a.1 in omega (arith, e)),
)
added_own atoms (suc k) h cells h' cells' a own =
    let now = with_new_slot h in
    let new : Cell = cell.Ref (length h.slots) in
    let at_new : IsOf now new × IsAtomBelow atoms new = (omega (arith, length-append h.slots (free ∷ [])), tt) in
    let wider : All (λ d. IsOf now d × IsAtomBelow atoms d) cells = λ j d l. own_new atoms h (get_or cells j d) (own j d l) in
    let both = All-append (λ d. IsOf now d × IsAtomBelow atoms d) cells (new ∷ []) wider (one_all (λ d. IsOf now d × IsAtomBelow atoms d) new at_new) in
    let k' = added_own atoms k now (cells ++ new ∷ []) h' cells' a both in
    (λ d o. k'.0 d (own_new atoms h d o), k'.1, (let e = k'.2 in omega (arith, e, length-append cells (new ∷ []))))

added_grown : (k : ℕ) (h : Cells) (cells : List Cell) (h' : Cells) (cells' : List Cell) → IsHeap h → AddsVariables k h cells h' cells' → IsGrown h h'
added_grown zero h cells h' cells' valid a = subst (IsGrown h) (sym a.0) (grown_same h)
added_grown (suc k) h cells h' cells' valid a =
    grown_both h (with_new_slot h) h' (grown_var h valid) (added_grown k (with_new_slot h) (cells ++ cell.Ref (length h.slots) ∷ []) h' cells' (var_valid h valid) a)

next_gathered : (use' : Purpose) (cells : List Cell) (e : Cell) → gathered use' (cells ++ e ∷ []) ≡ gathered use' cells ++ e ∷ []
next_gathered (for_head d) cells e = refl
next_gathered (for_goal r) cells e = refl

voids_built : (M N : ℕ) (marks : List ℕ) (area : Area) (shown : List ℕ) (name : Naming) (qs : List Indexical) (at : ℕ) (c : Registers) (stack : List Saved)
    (b : Branch) (Ends : End) (use' : Purpose) (left k m : ℕ) (h : Cells) (cells : List Cell) (h' : Cells) (cells' : List Cell) → IsHeap h → m ≡ left + k
    → AddsVariables k h cells h' cells'
    → Builds M N marks area shown name h qs k at c (gathered use' cells) m stack b Ends → Builds M N marks area shown name h' qs 0 at c (gathered use' cells') left stack b Ends
voids_built M N marks area shown name qs at c stack b Ends use' left zero m h cells h' cells' valid is a s =
    subst (λ g. Builds M N marks area shown name g qs 0 at c (gathered use' cells') left stack b Ends) (sym a.0)
    (subst (λ l. Builds M N marks area shown name h qs 0 at c (gathered use' l) left stack b Ends) (sym a.1)
    (subst (λ n. Builds M N marks area shown name h qs 0 at c (gathered use' cells) n stack b Ends) (let e : m ≡ left = omega (arith, is) in e) s))
voids_built M N marks area shown name qs at c stack b Ends use' left (suc k) m h cells h' cells' valid is a s =
    let s' : Builds M N marks area shown name h qs (suc k) at c (gathered use' cells) (suc (left + k)) stack b Ends = subst
    (λ n. Builds M N marks area shown name h qs (suc k) at c (gathered use' cells) n stack b Ends)
    (let e : m ≡ suc (left + k) = omega (arith, is) in e) s in
    let one = build_voids M N marks area shown name h qs c (gathered use' cells) (left + k) stack b Ends valid at k s' in
    voids_built M N marks area shown name qs at c stack b Ends use' left k (left + k) (with_new_slot h) (cells ++ cell.Ref (length h.slots) ∷ []) h' cells' (var_valid h valid) refl a
    (subst (λ l. Builds M N marks area shown name (with_new_slot h) qs k at c l (left + k) stack b Ends) (sym (next_gathered use' cells (cell.Ref (length h.slots)))) one)

-- ---- one instruction

module _ (area : Area) (n : ℕ) (s : branch.State) (at : ℕ) (c : Contents) (cells : List Cell) (safe : IsSafe area s at (n - length cells) c)
    (more : length cells < n) (own : All (IsCell s) cells) where
  abbrev h : Cells
  h = s.heaps.now

  abbrev qs : List Indexical
  qs = s.levels.current.posted

  valid : IsHeap h
  valid = safe.sound.now.valid

  abbrev Before : ℕ → List ℕ → List ℕ → Naming → Name → Purpose → Branch → ℕ → Type 0
  Before N marks shown name f use' b k = Builds INFINITY N marks area shown name h qs 0 at (registers_of c) (gathered use' cells) k (stack_of c) b (end_of area shown b f use')

  all_own : (s' : branch.State) → ((e : Cell) → IsCell s e → IsCell s' e) → (d : Cell) → IsCell s' d → All (IsCell s') (cells ++ d ∷ [])
  all_own s' keep d o = All-append (IsCell s') cells (d ∷ []) (own_all s s' keep cells own) (one_all (IsCell s') d o)

  -- a cell of the branch is put behind the others
  plain_gathered : (step : Code) → Holds area at step → goes_on step ≡ true → ((t u : State) → unify_effect step t ≡ Some u → u ≡ with_owed t (t.owed - 1)) → (d : Cell) → IsCell s d
      → ((N : ℕ) (small : N ≤ INFINITY) (marks : List ℕ) (shown : List ℕ) (name : Naming) (f : Name) (use' : Purpose) (b : Branch) (left : ℕ)
      → IsNaming area name → Before N marks shown name f use' b (suc left)
      → Builds INFINITY N marks area shown name h qs 0 (suc at) (registers_of c) (gathered use' cells ++ d ∷ []) left (stack_of c) b
      (end_of area shown b f use'))
      → IsGatheredTo area n s at c cells s (suc at) c (cells ++ d ∷ [])
  plain_gathered step holds on stays d d_own builds =
      let f = found area s at (n - length cells) c step safe holds in
      let k = stays f.state f.handed (effect_owed (n - length cells) area.entries step f.state f.handed (omega (arith, more)) f.effect_is) in
      let fits : Fits f.handed c.registers c.slots = subst (λ v. Fits v c.registers c.slots) (sym k) (fits_owed f.state (f.state.owed - 1) c.registers c.slots f.fits) in
      let size = length-append cells (d ∷ []) in
      let owes : f.handed.owed ≡ n - length (cells ++ d ∷ []) = ap (λ (v : State). v.owed) k ∙ (let x = f.owes in omega (arith, x, size)) in
      let left_is : n - length cells ≡ suc (n - length (cells ++ d ∷ [])) = omega (arith, more, size) in
      record {
        safe = next_safe area s s at (n - length cells) c c safe (same_below s) (same_behind c) step holds on f (n - length (cells ++ d ∷ [])) fits owes
            safe.sound (λ x l. l) safe.here.registers_own safe.here.slots_own;
        within = omega (arith, more, size);
        leads = next_among area s at (n - length cells) c safe step holds on (suc at) refl;
        own = all_own s (λ e o. o) d d_own;
        stays = λ e o. o;
        behind = same_behind c;
        below = same_below s;
        grown = grown_same h;
        keeps = λ N small marks shown name g use' b m w.
            subst (λ l. Builds INFINITY N marks area shown name h qs 0 (suc at) (registers_of c) l (n - length (cells ++ d ∷ [])) (stack_of c) b
            (end_of area shown b g use')) (sym (next_gathered use' cells d))
            (builds N small marks shown name g use' b (n - length (cells ++ d ∷ [])) m (subst (λ k. Before N marks shown name g use' b k) left_is w));
      }

  pub gather_value : (r : Register) → Holds area at (UnifyValue r) → (d : Cell) → cell_in (registers_of c) r ≡ Some d → IsGatheredTo area n s at c cells s (suc at) c (cells ++ d ∷ [])
  gather_value r holds d here =
      plain_gathered (UnifyValue r) holds refl (λ t u e. (when_parts (is_set t r) (with_owed t (t.owed - 1)) u e).1) d
      (held_own s c r d safe.here.registers_own safe.here.slots_own here) (λ N small marks shown name f use' b left m w.
      let k = build_value INFINITY N marks area shown name h qs (registers_of c) (gathered use' cells) left (stack_of c) b (end_of area shown b f use') at w r holds in
      subst (λ e. Builds INFINITY N marks area shown name h qs 0 (suc at) (registers_of c) (gathered use' cells ++ e ∷ []) left (stack_of c) b
      (end_of area shown b f use')) (same_Some k.0 d (sym k.1 ∙ here)) k.3)

  pub gather_constant : (i : AtomId) → Holds area at (UnifyConstant i) → IsGatheredTo area n s at c cells s (suc at) c (cells ++ cell.Atom i ∷ [])
  gather_constant i holds =
      let there = safe.verified.there at (UnifyConstant i) holds in
      plain_gathered (UnifyConstant i) holds refl (λ t u e. some_is (with_owed t (t.owed - 1)) u e) (cell.Atom i) (tt, subst (λ n. i.number < n) (sym safe.atoms) there)
      (λ N small marks shown name f use' b left m w. build_constant INFINITY N marks area shown name h qs (registers_of c) (gathered use' cells) left
      (stack_of c) b (end_of area shown b f use') valid at w i holds (m.same i there))

  pub gather_integer : (z : ℤ) → Holds area at (UnifyInteger z) → IsGatheredTo area n s at c cells s (suc at) c (cells ++ cell.Int z ∷ [])
  gather_integer z holds =
      plain_gathered (UnifyInteger z) holds refl (λ t u e. some_is (with_owed t (t.owed - 1)) u e) (cell.Int z) (tt, tt)
      (λ N small marks shown name f use' b left m w. build_integer INFINITY N marks area shown name h qs (registers_of c) (gathered use' cells) left
      (stack_of c) b (end_of area shown b f use') valid at w z holds)

  -- a new variable is put behind the others, and into the register
  pub gather_variable : (r : Register) → Holds area at (UnifyVariable r) → (s' : branch.State) → s' ≡ with_heap s (with_new_slot h) → IsSound s' → (d : Cell)
      → d ≡ cell.Ref (length h.slots) → (c' : Contents) → IsWritten (registers_of c) r d (registers_of c') → IsSameBehind c c'
      → length c'.slots ≡ length c.slots
      → IsGatheredTo area n s at c cells s' (suc at) c' (cells ++ d ∷ [])
  gather_variable r holds s' added sound d is c' w same slots_size =
      let f = found area s at (n - length cells) c (UnifyVariable r) safe holds in
      let t : State = with_owed f.state (f.state.owed - 1) in
      let k = (when_parts (is_free f.state r) (with_set t r) f.handed (effect_owed (n - length cells) area.entries (UnifyVariable r) f.state f.handed (omega (arith, more)) f.effect_is)).1 in
      let keep = new_slot_own s s' added in
      let d_own : IsCell s' d = subst (IsCell s') (sym is) (subst (λ (t : branch.State). IsCell t (cell.Ref (length h.slots))) (sym added) (omega (arith, length-append h.slots (free ∷ [])), tt)) in
      let o = written_own s' c c' r d (cells_kept s s' keep c.registers safe.here.registers_own) (cells_kept s s' keep c.slots safe.here.slots_own) d_own w in
      let fits : Fits f.handed c'.registers c'.slots = subst (λ v. Fits v c'.registers c'.slots) (sym k)
      (written_fits t c c' r d (fits_owed f.state (f.state.owed - 1) c.registers c.slots f.fits) w slots_size) in
      let size = length-append cells (d ∷ []) in
      let owes : f.handed.owed ≡ n - length (cells ++ d ∷ []) = ap (λ (v : State). v.owed) k ∙ owed_set t r ∙ (let x = f.owes in omega (arith, x, size)) in
      let left_is : n - length cells ≡ suc (n - length (cells ++ d ∷ [])) = omega (arith, more, size) in
      let below = below_heap s s' (added ∙ ap (with_heap s) (sym (ap (λ (t : branch.State). t.heaps.now) added))) in
      record {
        safe = next_safe area s s' at (n - length cells) c c' safe below same (UnifyVariable r) holds refl f (n - length (cells ++ d ∷ [])) fits owes sound keep o.0 o.1;
        within = omega (arith, more, size);
        leads = next_among area s at (n - length cells) c safe (UnifyVariable r) holds refl (suc at) refl;
        own = all_own s' keep d d_own;
        stays = keep;
        behind = same;
        below = below;
        grown = subst (λ (t : branch.State). IsGrown h t.heaps.now) (sym added) (grown_var h valid);
        keeps = λ N small marks shown name g use' b m v.
            let End' = end_of area shown b g use' in
            let left = n - length (cells ++ d ∷ []) in
            let one = build_variable INFINITY N marks area shown name h qs (registers_of c) (gathered use' cells) left (stack_of c) b End' valid at
            (subst (λ k. Before N marks shown name g use' b k) left_is v) r holds (registers_of c')
            (subst (λ e. IsWritten (registers_of c) r e (registers_of c')) is w) in
            let two : Builds INFINITY N marks area shown name (with_new_slot h) qs 0 (suc at) (registers_of c') (gathered use' cells ++ d ∷ []) left
            (stack_of c) b End' = subst (λ e. Builds INFINITY N marks area shown name (with_new_slot h) qs 0 (suc at) (registers_of c')
            (gathered use' cells ++ e ∷ []) left (stack_of c) b End') (sym is) one in
            let three : Builds INFINITY N marks area shown name (with_new_slot h) qs 0 (suc at) (registers_of c') (gathered use' (cells ++ d ∷ [])) left (stack_of c') b End' =
            subst (λ l. Builds INFINITY N marks area shown name (with_new_slot h) qs 0 (suc at) (registers_of c') l left (stack_of c') b End')
            (sym (next_gathered use' cells d)) (subst (λ rs. Builds INFINITY N marks area shown name (with_new_slot h) qs 0 (suc at) (registers_of c')
            (gathered use' cells ++ d ∷ []) left (map saved_of rs) b End') (sym same.returns) two) in
            subst (λ (t : branch.State). Builds INFINITY N marks area shown name t.heaps.now t.levels.current.posted 0 (suc at) (registers_of c')
            (gathered use' (cells ++ d ∷ [])) left (stack_of c') b End') (sym added) three;
      }

  -- so many new variables are put behind the others
  pub gather_void : (k : ℕ) → Holds area at (UnifyVoid k) → k ≤ n - length cells → (s' : branch.State) (cells' : List Cell)
      → AreVariablesAdded k s cells s' cells' → IsGatheredTo area n s at c cells s' (suc at) c cells'
  gather_void k holds low s' cells' a =
      let f = found area s at (n - length cells) c (UnifyVoid k) safe holds in
      let u = (when_parts (nat_le k f.state.owed) (with_owed f.state (f.state.owed - k)) f.handed
      (effect_owed (n - length cells) area.entries (UnifyVoid k) f.state f.handed (omega (arith, more)) f.effect_is)).1 in
      let below = below_heap s s' a.heap in
      let all = added_own s.atoms k h cells s'.heaps.now cells' a.added own in
      let keep : (d : Cell) → IsCell s d → IsCell s' d = λ d o. (let w = all.0 d o in (w.0, subst (λ m. IsAtomBelow m d) (sym below.atoms) w.1)) in
      let size = all.2 in
      let fits : Fits f.handed c.registers c.slots = subst (λ v. Fits v c.registers c.slots) (sym u) (fits_owed f.state (f.state.owed - k) c.registers c.slots f.fits) in
      let owes : f.handed.owed ≡ n - length cells' = ap (λ (v : State). v.owed) u ∙ (let x = f.owes in omega (arith, x, size)) in
      record {
        safe = next_safe area s s' at (n - length cells) c c safe below (same_behind c) (UnifyVoid k) holds refl f (n - length cells') fits owes a.sound keep
            (cells_kept s s' keep c.registers safe.here.registers_own) (cells_kept s s' keep c.slots safe.here.slots_own);
        within = omega (arith, more, low, size);
        leads = next_among area s at (n - length cells) c safe (UnifyVoid k) holds refl (suc at) refl;
        own = subst (λ m. All (λ d. IsOf s'.heaps.now d × IsAtomBelow m d) cells') (sym below.atoms) all.1;
        stays = keep;
        behind = same_behind c;
        below = below;
        grown = added_grown k h cells s'.heaps.now cells' valid a.added;
        keeps = λ N small marks shown name g use' b m v.
            subst (λ ps. Builds INFINITY N marks area shown name s'.heaps.now ps 0 (suc at) (registers_of c) (gathered use' cells') (n - length cells')
            (stack_of c) b (end_of area shown b g use')) (sym (ap (λ (t : branch.State). t.levels.current.posted) a.heap))
            (given N small marks shown name g use' b k holds a.added low size v);
      }
    where
      given : (N : ℕ) (small : N ≤ INFINITY) (marks : List ℕ) (shown : List ℕ) (name : Naming) (g : Name) (use' : Purpose) (b : Branch) (k : ℕ)
          → Holds area at (UnifyVoid k) → AddsVariables k h cells s'.heaps.now cells' → k ≤ n - length cells → length cells' ≡ length cells + k
          → Before N marks shown name g use' b (n - length cells)
          → Builds INFINITY N marks area shown name s'.heaps.now qs 0 (suc at) (registers_of c) (gathered use' cells') (n - length cells') (stack_of c) b (end_of area shown b g use')
      given N small marks shown name g use' b zero holds added low size v = absurd (no_void area at v.p v.ts v.next v.q (let e = v.counted in omega (arith, e, more)) holds v.owed)
      given N small marks shown name g use' b (suc k) holds added low size v =
          let End' = end_of area shown b g use' in
          let left = n - length cells' in
          let left_is : n - length cells ≡ suc (left + k) = omega (arith, more, low, size) in
          let one = build_void INFINITY N marks area shown name h qs (registers_of c) (gathered use' cells) (left + k) (stack_of c) b End' valid at k
          (subst (λ k. Before N marks shown name g use' b k) left_is v) holds in
          voids_built INFINITY N marks area shown name qs (suc at) (registers_of c) (stack_of c) b End' use' left k (left + k) (with_new_slot h)
          (cells ++ cell.Ref (length h.slots) ∷ []) s'.heaps.now cells' (var_valid h valid) refl added
          (subst (λ l. Builds INFINITY N marks area shown name (with_new_slot h) qs k (suc at) (registers_of c) l (left + k) (stack_of c) b End')
          (sym (next_gathered use' cells (cell.Ref (length h.slots)))) one)

-- ---- one argument, whatever was gathered before

module _ (area : Area) (left : ℕ) (s : branch.State) (at : ℕ) (c : Contents) (safe : IsSafe area s at left c) (some : 0 < left) where
  left_safe : (n : ℕ) (cells : List Cell) → n - length cells ≡ left → IsSafe area s at (n - length cells) c
  left_safe n cells e = subst (λ k. IsSafe area s at k c) (sym e) safe

  left_more : (n : ℕ) (cells : List Cell) → n - length cells ≡ left → length cells < n
  left_more n cells e = omega (arith, e, some)

  pub give_value : (r : Register) → Holds area at (UnifyValue r) → (d : Cell) → cell_in (registers_of c) r ≡ Some d → GivesOne area left s at c s c d
  give_value r holds d here = λ n cells e own. gather_value area n s at c cells (left_safe n cells e) (left_more n cells e) own r holds d here

  pub give_constant : (i : AtomId) → Holds area at (UnifyConstant i) → GivesOne area left s at c s c (cell.Atom i)
  give_constant i holds = λ n cells e own. gather_constant area n s at c cells (left_safe n cells e) (left_more n cells e) own i holds

  pub give_integer : (z : ℤ) → Holds area at (UnifyInteger z) → GivesOne area left s at c s c (cell.Int z)
  give_integer z holds = λ n cells e own. gather_integer area n s at c cells (left_safe n cells e) (left_more n cells e) own z holds

  pub give_variable : (r : Register) → Holds area at (UnifyVariable r) → (s' : branch.State) → s' ≡ with_heap s (with_new_slot s.heaps.now) → IsSound s'
      → (d : Cell) → d ≡ cell.Ref (length s.heaps.now.slots) → (c' : Contents) → IsWritten (registers_of c) r d (registers_of c') → IsSameBehind c c'
      → length c'.slots ≡ length c.slots → GivesOne area left s at c s' c' d
  give_variable r holds s' added sound d is c' w same size = λ n cells e own. gather_variable area n s at c cells (left_safe n cells e) (left_more n cells e)
      own r holds s' added sound d is c' w same size

  pub give_void : Holds area at (UnifyVoid 1) → (s' : branch.State) → s' ≡ with_heap s (with_new_slot s.heaps.now) → IsSound s' → (d : Cell)
      → d ≡ cell.Ref (length s.heaps.now.slots) → GivesOne area left s at c s' c d
  give_void holds s' added sound d is = λ n cells e own.
      gather_void area n s at c cells (left_safe n cells e) (left_more n cells e) own 1 holds (let m = left_more n cells e in omega (arith, m)) s' (cells ++ d ∷ [])
      (variables_more 0 s cells s cells (record { added = (refl, refl); heap = refl; sound = safe.sound }) s' added sound d is (cells ++ d ∷ []) refl)

-- ---- many instructions

pub gathered_start : (area : Area) (n : ℕ) (s : branch.State) (at : ℕ) (c : Contents) (cells : List Cell) → IsSafe area s at (n - length cells) c
    → length cells ≤ n → All (IsCell s) cells → IsGatheredTo area n s at c cells s at c cells
gathered_start area n s at c cells safe within own = record {
  safe = safe;
  within = within;
  leads = among_none area at;
  own = own;
  stays = λ d o. o;
  behind = same_behind c;
  below = same_below s;
  grown = grown_same s.heaps.now;
  keeps = λ N small marks shown name f use' b m v. v;
}

pub gathered_both : (area : Area) (n : ℕ) (s : branch.State) (at : ℕ) (c : Contents) (cells : List Cell) (s1 : branch.State) (at1 : ℕ) (c1 : Contents)
    (cells1 : List Cell) (s2 : branch.State) (at2 : ℕ) (c2 : Contents) (cells2 : List Cell)
    → IsGatheredTo area n s at c cells s1 at1 c1 cells1 → IsGatheredTo area n s1 at1 c1 cells1 s2 at2 c2 cells2 → IsGatheredTo area n s at c cells s2 at2 c2 cells2
gathered_both area n s at c cells s1 at1 c1 cells1 s2 at2 c2 cells2 g k = record {
  safe = k.safe;
  within = k.within;
  leads = among_both area at at1 at2 g.leads k.leads;
  own = k.own;
  stays = λ d o. k.stays d (g.stays d o);
  behind = behind_both c c1 c2 g.behind k.behind;
  below = below_both s s1 s2 g.below k.below;
  grown = grown_both s.heaps.now s1.heaps.now s2.heaps.now g.grown k.grown;
  keeps = λ N small marks shown name f use' b m v. k.keeps N small marks shown name f use' b m (g.keeps N small marks shown name f use' b m v);
}

-- ---- two arguments

pub one_given : (area : Area) (s : branch.State) (at : ℕ) (c : Contents) (s1 : branch.State) (c1 : Contents) (a : Cell) → GivesOne area 2 s at c s1 c1 a
    → IsGatheredTo area 2 s at c [] s1 (suc at) c1 (a ∷ [])
one_given area s at c s1 c1 a g = g 2 [] refl (All-nil (IsCell s))

pub two_given : (area : Area) (s : branch.State) (at : ℕ) (c : Contents) (s1 : branch.State) (c1 : Contents) (a : Cell) → GivesOne area 2 s at c s1 c1 a
    → (s2 : branch.State) (c2 : Contents) (b : Cell) → GivesOne area 1 s1 (suc at) c1 s2 c2 b → IsGatheredTo area 2 s at c [] s2 (suc (suc at)) c2 (a ∷ b ∷ [])
two_given area s at c s1 c1 a g s2 c2 b k =
    let one = one_given area s at c s1 c1 a g in
    gathered_both area 2 s at c [] s1 (suc at) c1 (a ∷ []) s2 (suc (suc at)) c2 (a ∷ b ∷ []) one (k 2 (a ∷ []) refl one.own)
