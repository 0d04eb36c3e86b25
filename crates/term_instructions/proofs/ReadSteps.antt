-- One argument of a structure that is there is read.
use Rattle.std.proofs.Common.{◌≡◌, ℕ, zero, suc, ◌+◌, ◌-◌, ◌<◌, ◌≤◌, nat_le, Bool, true, false, if◌then◌else◌, List, [], ◌∷◌, ◌++◌, length, map, drop, All}
use Rattle.std.proofs.Common.{Some, None, Ok, refl, ap, sym, ◌∙◌, subst, arith, append_assoc, ℤ, length-drop, get_or, eq-eqb, ne_eqb}
use Rattle.std.proofs.lemmas.Bool.{false≢true}
use Rattle.std.proofs.lemmas.List.{drop-drop}
use Rattle.std.proofs.lemmas.List.Elements.{All-nil}
use Rattle.std.proofs.lemmas.Option.{same_Some}
use Rattle.fd_language.specs.declared.NoMemory.{NoMemory}
use Rattle.fd_language.specs.declared.TheConstants.{INFINITY}
use Rattle.fd_language.specs.Term.{Terms, no_terms, term, Substitution, term_count}
use Rattle.fd_language.specs.Range.{Indexical}
use Rattle.fd_model.specs.Goal.{Branch}
use Rattle.fd_model.specs.Levels.{Levels}
use Rattle.term_pool.specs.declared.AtomId.{AtomId}
use Rattle.heap_cells.specs.declared.Cell.{Cell}
use Rattle.heap_cells.specs.declared.Cell.TheVariants as cell
use Rattle.heap_cells.specs.Cells.{Cells, IsOf}
use Rattle.heap_cells.specs.Terms.{Naming, Same, term_of}
use Rattle.branch_meaning.specs.Store.{posts}
use Rattle.branch_lemmas.specs.Frames.{store_touches}
use Rattle.unify_core.specs.declared.Touch.{Touch}
use Rattle.unify_core.specs.declared.Touch.TheVariants as touch
use Rattle.unify_core.specs.Outcome.{IfTrue, IfFalse}
use Rattle.unify_core.specs.Unifications.{IsEqualled, CannotUnify}
use Rattle.unify_core.proofs.Lemmas.{integers_true, integers_false, atoms_true, atoms_false}
use Rattle.branch_state.specs.States as branch
use Rattle.branch_state.specs.States.{IsCell, IsSound, IsSoundBelow, with_heap}
use Rattle.branch_state.specs.Steps.{IsTouchBelow, posted_with, AreTouchesOf}
use Rattle.wam_code.specs.declared.instruction.Register.{Register}
use Rattle.wam_code.specs.declared.instruction.Code.{Code}
use Rattle.wam_code.specs.declared.instruction.Code.TheVariants.{UnifyVariable, UnifyValue, UnifyConstant, UnifyInteger, UnifyVoid}
use Rattle.wam_code.specs.Area.{State, Area, Holds}
use Rattle.wam_code.specs.Effect.{is_set, is_free, with_set, with_owed, unify_effect}
use Rattle.wam_code.specs.VerifiedCode.{goes_on}
use Rattle.code_areas.specs.Areas.{Contents}
use Rattle.code_meaning.specs.Registers.{Registers, Saved, cell_in, IsWritten}
use Rattle.code_meaning.specs.StateMeaning.{Made}
use Rattle.code_meaning.specs.ReadMode.{AreCells as CellsShown, Reads, ReadsOnEqual}
use Rattle.code_meaning.proofs.Lemmas.{read_variable, read_value, read_constant, read_integer, read_void, read_voids}
use Rattle.code_safety.specs.Machine.{saved_of, registers_of, stack_of, IsSameBehind}
use Rattle.code_safety.specs.Safety.{Fits, IsSafe}
use Rattle.code_safety.specs.RepresentedBranch.{IsNaming}
use Rattle.term_instructions.specs.ReadMode.{ReadsAt, IsReadTo, IsRefused, ReadsOn, IsNextPlace, TellsEqual, LooksOn, TakesOne}
use Rattle.term_instructions.specs.declared.read_mode.ReadPosition.{ReadPosition}
use Rattle.term_instructions.specs.declared.read_mode.Look.{Look}
use Rattle.term_instructions.specs.declared.read_mode.Look.TheVariants.{Read, Refused, Unclear}
use Rattle.code_safety.proofs.Lemmas.{same_cells, found, when_parts, some_is, written_fits, written_own, cells_kept, back_safe, next_safe, same_behind}
use Rattle.code_safety.proofs.Lemmas.{behind_both, same_below, below_heap, below_both}
use Rattle.term_instructions.proofs.Steps.{next_among, among_both, among_none, owed_set}
use Rattle.term_instructions.proofs.UnifyInstructions.{fits_owed, effect_owed, no_void}

posts_both : (ts us : List Touch) → posts (store_touches (ts ++ us)) ≡ posts (store_touches ts) ++ posts (store_touches us)
posts_both [] us = refl
posts_both (touch.Value k z ∷ ts) us = ap (λ l. posts (store_touches (touch.Value k z ∷ [])) ++ l) (posts_both ts us)
posts_both (touch.Same k j ∷ ts) us = ap (λ l. posts (store_touches (touch.Same k j ∷ [])) ++ l) (posts_both ts us)

posts_behind : (ps : List Indexical) (ts us after : List Touch) → after ≡ ts ++ us → (ps ++ posts (store_touches ts)) ++ posts (store_touches us) ≡ ps ++ posts (store_touches after)
posts_behind ps ts us after e = append_assoc ps (posts (store_touches ts)) (posts (store_touches us)) ∙ ap (λ l. ps ++ l) (sym (posts_both ts us)) ∙ ap (λ l. ps ++ posts (store_touches l)) (sym e)

pub own_all : (s s' : branch.State) → ((d : Cell) → IsCell s d → IsCell s' d) → (cells : List Cell) → All (IsCell s) cells → All (IsCell s') cells
own_all s s' keep cells own = λ k d l. keep (get_or cells k d) (own k d l)

shown_count : (name : Naming) (h : Cells) (look : Substitution) (P : ℕ → Type 0) (ds : List Cell) (ts : Terms) → CellsShown name h look P ds ts → term_count ts ≡ length ds
shown_count name h look P [] no_terms a = refl
shown_count name h look P [] (term t ts) a = absurd a
shown_count name h look P (d ∷ ds) no_terms a = absurd a
shown_count name h look P (d ∷ ds) (term t ts) a = ap suc (shown_count name h look P ds ts a.1)

-- so many arguments are passed over
pass_over : (M N : ℕ) (marks : List ℕ) (area : Area) (shown : List ℕ) (name : Naming) (h : Cells) (qs : List Indexical) (c : Registers) (stack : List Saved)
    (b : Branch) (at n : ℕ) (cells : List Cell) → n ≤ length cells → Reads M N marks area shown name h qs n at c cells stack b
    → Reads M N marks area shown name h qs 0 at c (drop n cells) stack b
pass_over M N marks area shown name h qs c stack b at zero cells l m = m
pass_over M N marks area shown name h qs c stack b at (suc n) [] l m = absurd (omega (arith, l))
pass_over M N marks area shown name h qs c stack b at (suc n) (d ∷ cells) l m =
    pass_over M N marks area shown name h qs c stack b at n cells (omega (arith, l)) (read_voids M N marks area shown name h qs c d cells stack b at n m)

module _ (area : Area) (cells : List Cell) (s : branch.State) (told : List Touch) (at i : ℕ) (c : Contents) (safe : IsSafe area s at (length cells - i) c)
    (more : i < length cells) (own : All (IsCell s) cells) (are_told : AreTouchesOf s told) (d : Cell) (first : drop i cells ≡ d ∷ drop (suc i) cells) where
  abbrev h : Cells
  h = s.heaps.now

  abbrev qs : List Indexical
  qs = posted_with s told

  abbrev from : ReadPosition
  from = record { at = at; next = i }

  abbrev left : List Cell
  left = drop (suc i) cells

  opened : (N : ℕ) (small : N ≤ INFINITY) (marks : List ℕ) (shown : List ℕ) (name : Naming) (b : Branch)
      → ReadsAt N marks area shown name s told at c (drop i cells) b
      → Reads INFINITY N marks area shown name h qs 0 at (registers_of c) (d ∷ left) (stack_of c) b
  opened N small marks shown name b m = subst (λ l. ReadsAt N marks area shown name s told at c l b) first m

  -- the register takes the argument
  pub reads_variable : (r : Register) → Holds area at (UnifyVariable r) → IsCell s d → (c' : Contents) → IsWritten (registers_of c) r d (registers_of c')
      → IsSameBehind c c' → length c'.slots ≡ length c.slots → (to : ReadPosition) → to.at ≡ suc at → to.next ≡ suc i
      → IsReadTo area cells s told from c s told to c'
  reads_variable r holds d_own c' w same size to at_is next_is =
      let e = found area s at (length cells - i) c (UnifyVariable r) safe holds in
      let u = when_parts (is_free e.state r) (with_set (with_owed e.state (e.state.owed - 1)) r) e.handed
      (effect_owed (length cells - i) area.entries (UnifyVariable r) e.state e.handed (omega (arith, more)) e.effect_is) in
      let t : State = with_owed e.state (e.state.owed - 1) in
      let o = written_own s c c' r d safe.here.registers_own safe.here.slots_own d_own w in
      let fits : Fits e.handed c'.registers c'.slots = subst (λ v. Fits v c'.registers c'.slots) (sym u.1)
      (written_fits t c c' r d (fits_owed e.state (e.state.owed - 1) c.registers c.slots e.fits) w size) in
      let owes : e.handed.owed ≡ length cells - to.next = ap (λ (v : State). v.owed) u.1 ∙ owed_set t r ∙ (let x = e.owes in omega (arith, x, next_is)) in
      record {
        safe = subst (λ a. IsSafe area s a (length cells - to.next) c') (sym at_is)
            (next_safe area s s at (length cells - i) c c' safe (same_below s) same (UnifyVariable r) holds refl e (length cells - to.next) fits owes safe.sound
            (λ x l. l) o.0 o.1);
        within = omega (arith, more, next_is);
        leads = next_among area s at (length cells - i) c safe (UnifyVariable r) holds refl to.at at_is;
        own = own;
        are_told = are_told;
        behind = same;
        below = same_below s;
        keeps = λ N small marks shown name b n m.
            let k = read_variable INFINITY N marks area shown name h qs (registers_of c) d left (stack_of c) b at (opened N small marks shown name b m) r holds (registers_of c') w in
            let there : ReadsAt N marks area shown name s told (suc at) c' left b = subst
            (λ rs. Reads INFINITY N marks area shown name h qs 0 (suc at) (registers_of c') left (map saved_of rs) b) (sym same.returns) k in
            subst (λ a. ReadsAt N marks area shown name s told a c' (drop to.next cells) b) (sym at_is)
            (subst (λ j. ReadsAt N marks area shown name s told (suc at) c' (drop j cells) b) (sym next_is) there);
      }

  -- so many arguments are passed over
  pub reads_void : (k : ℕ) → Holds area at (UnifyVoid k) → k ≤ length cells - i → (to : ReadPosition) → to.at ≡ suc at → to.next ≡ i + k → IsReadTo area cells s told from c s told to c
  reads_void k holds low to at_is next_is =
      let e = found area s at (length cells - i) c (UnifyVoid k) safe holds in
      let u = when_parts (nat_le k e.state.owed) (with_owed e.state (e.state.owed - k)) e.handed
      (effect_owed (length cells - i) area.entries (UnifyVoid k) e.state e.handed (omega (arith, more)) e.effect_is) in
      let fits : Fits e.handed c.registers c.slots = subst (λ v. Fits v c.registers c.slots) (sym u.1) (fits_owed e.state (e.state.owed - k) c.registers c.slots e.fits) in
      let owes : e.handed.owed ≡ length cells - to.next = ap (λ (v : State). v.owed) u.1 ∙ (let x = e.owes in omega (arith, x, next_is)) in
      record {
        safe = subst (λ a. IsSafe area s a (length cells - to.next) c) (sym at_is)
            (next_safe area s s at (length cells - i) c c safe (same_below s) (same_behind c) (UnifyVoid k) holds refl e (length cells - to.next) fits owes
            safe.sound (λ x l. l) safe.here.registers_own safe.here.slots_own);
        within = omega (arith, more, low, next_is);
        leads = next_among area s at (length cells - i) c safe (UnifyVoid k) holds refl to.at at_is;
        own = own;
        are_told = are_told;
        behind = same_behind c;
        below = same_below s;
        keeps = λ N small marks shown name b n m. subst (λ a. ReadsAt N marks area shown name s told a c (drop to.next cells) b) (sym at_is)
            (subst (λ j. ReadsAt N marks area shown name s told (suc at) c (drop j cells) b) (sym next_is) (passed N small marks shown name b m k holds low));
      }
    where
      passed : (N : ℕ) (small : N ≤ INFINITY) (marks : List ℕ) (shown : List ℕ) (name : Naming) (b : Branch)
          → ReadsAt N marks area shown name s told at c (drop i cells) b → (k : ℕ) → Holds area at (UnifyVoid k) → k ≤ length cells - i
          → ReadsAt N marks area shown name s told (suc at) c (drop (i + k) cells) b
      passed N small marks shown name b m zero holds low =
          let size = shown_count name h m.made.look (Made m.wide m.base) (drop i cells) m.sides m.cells in
          let counted = m.counted in
          let longer = length-drop i cells in
          absurd (no_void area at m.p m.ts m.next m.q (omega (arith, size, counted, longer, more)) holds m.owed)
      passed N small marks shown name b m (suc k) holds low =
          let one = read_void INFINITY N marks area shown name h qs (registers_of c) d left (stack_of c) b at k (opened N small marks shown name b m) holds in
          let longer = length-drop (suc i) cells in
          let all = pass_over INFINITY N marks area shown name h qs (registers_of c) (stack_of c) b (suc at) k left (omega (arith, longer, low)) one in
          subst (λ l. ReadsAt N marks area shown name s told (suc at) c l b) (drop-drop k (suc i) cells ∙ ap (λ j. drop j cells) (let e : suc i + k ≡ i + suc k = omega arith in e)) all

  -- the argument is made equal to another cell
  pub reads_equal : (step : Code) → Holds area at step → goes_on step ≡ true → ((t u : State) → unify_effect step t ≡ Some u → u ≡ with_owed t (t.owed - 1)) → (e : Cell)
      → ((N : ℕ) (small : N ≤ INFINITY) (marks : List ℕ) (shown : List ℕ) (name : Naming) (b : Branch) → IsNaming area name
      → Reads INFINITY N marks area shown name h qs 0 at (registers_of c) (d ∷ left) (stack_of c) b
      → ReadsOnEqual INFINITY N marks area shown name h qs (suc at) (registers_of c) left (stack_of c) b d e)
      → (E : Type 0) → (s' : branch.State) (told' : List Touch) (equal : Bool) → IfTrue {E = E} (Ok equal) (IsEqualled h d e s'.heaps.now told told')
      → IfFalse {E = E} (Ok equal) (CannotUnify h d e) → (AreTouchesOf s told → IfTrue {E = E} (Ok equal) (AreTouchesOf s' told'))
      → s' ≡ with_heap s s'.heaps.now
      → IfTrue {E = E} (Ok equal) (IsSound s') → IfFalse {E = E} (Ok equal) (IsSoundBelow s') → (to : ReadPosition) → to.at ≡ suc at → to.next ≡ suc i
      → ReadsOn area cells s told from c s' told' c (if equal then Some to else None)
  reads_equal step holds on stays e ons E s' told' true done un told_then heap sound back to at_is next_is =
      let f = found area s at (length cells - i) c step safe holds in
      let k = stays f.state f.handed (effect_owed (length cells - i) area.entries step f.state f.handed (omega (arith, more)) f.effect_is) in
      let below = below_heap s s' heap in
      let keep = same_cells s s' below.atoms done.size in
      let fits : Fits f.handed c.registers c.slots = subst (λ v. Fits v c.registers c.slots) (sym k) (fits_owed f.state (f.state.owed - 1) c.registers c.slots f.fits) in
      let owes : f.handed.owed ≡ length cells - to.next = ap (λ (v : State). v.owed) k ∙ (let x = f.owes in omega (arith, x, next_is)) in
      record {
        safe = subst (λ a. IsSafe area s' a (length cells - to.next) c) (sym at_is)
            (next_safe area s s' at (length cells - i) c c safe below (same_behind c) step holds on f (length cells - to.next) fits owes sound keep
            (cells_kept s s' keep c.registers safe.here.registers_own) (cells_kept s s' keep c.slots safe.here.slots_own));
        within = omega (arith, more, next_is);
        leads = next_among area s at (length cells - i) c safe step holds on to.at at_is;
        own = own_all s s' keep cells own;
        are_told = told_then are_told;
        behind = same_behind c;
        below = below;
        keeps = λ N small marks shown name b n m.
            let g = (ons N small marks shown name b n (opened N small marks shown name b m)).unified s'.heaps.now done.more (done.unified name) done.size in
            let same : qs ++ posts (store_touches done.more) ≡ posted_with s' told' = posts_behind s.levels.current.posted told done.more told' done.touches
            ∙ ap (λ (l : Levels). l.current.posted ++ posts (store_touches told')) (sym (ap (λ (t : branch.State). t.levels) heap)) in
            let there : ReadsAt N marks area shown name s' told' (suc at) c left b = subst
            (λ ps. Reads INFINITY N marks area shown name s'.heaps.now ps 0 (suc at) (registers_of c) left (stack_of c) b) same g in
            subst (λ a. ReadsAt N marks area shown name s' told' a c (drop to.next cells) b) (sym at_is)
            (subst (λ j. ReadsAt N marks area shown name s' told' (suc at) c (drop j cells) b) (sym next_is) there);
      }
  reads_equal step holds on stays e ons E s' told' false done un told_then heap sound back to at_is next_is = record {
    safe = back_safe area s s' at (length cells - i) c c safe (below_heap s s' heap) (same_behind c) back;
    behind = same_behind c;
    below = below_heap s s' heap;
    none = λ N small marks shown name b n m. (ons N small marks shown name b n (opened N small marks shown name b m)).refuted (un name n.apart);
  }

  -- by each instruction that does so
  abbrev OnsEqual : Cell → Type 0
  OnsEqual e = (N : ℕ) (small : N ≤ INFINITY) (marks : List ℕ) (shown : List ℕ) (name : Naming) (b : Branch) → IsNaming area name
      → Reads INFINITY N marks area shown name h qs 0 at (registers_of c) (d ∷ left) (stack_of c) b
      → ReadsOnEqual INFINITY N marks area shown name h qs (suc at) (registers_of c) left (stack_of c) b d e

  pub value_equal : (r : Register) → Holds area at (UnifyValue r) → (e : Cell) → cell_in (registers_of c) r ≡ Some e → OnsEqual e
  value_equal r holds e here N small marks shown name b n m =
      let k = read_value INFINITY N marks area shown name h qs (registers_of c) d left (stack_of c) b at m r holds in
      subst (λ x. ReadsOnEqual INFINITY N marks area shown name h qs (suc at) (registers_of c) left (stack_of c) b d x) (same_Some k.0 e (sym k.1 ∙ here)) k.3

  pub constant_equal : (i : AtomId) → Holds area at (UnifyConstant i) → OnsEqual (cell.Atom i)
  constant_equal i holds N small marks shown name b n m = read_constant INFINITY N marks area shown name h qs (registers_of c) d left (stack_of c) b
      safe.sound.now.valid at m i holds (n.same i (safe.verified.there at (UnifyConstant i) holds))

  pub integer_equal : (z : ℤ) → Holds area at (UnifyInteger z) → OnsEqual (cell.Int z)
  integer_equal z holds N small marks shown name b n m = read_integer INFINITY N marks area shown name h qs (registers_of c) d left (stack_of c) b safe.sound.now.valid at m z holds

  pub constant_own : (i : AtomId) → Holds area at (UnifyConstant i) → IsCell s (cell.Atom i)
  constant_own i holds = (tt, subst (λ k. i.number < k) (sym safe.atoms) (safe.verified.there at (UnifyConstant i) holds))

-- what they do to a state
pub value_stays : (r : Register) (t u : State) → unify_effect (UnifyValue r) t ≡ Some u → u ≡ with_owed t (t.owed - 1)
value_stays r t u e = (when_parts (is_set t r) (with_owed t (t.owed - 1)) u e).1

pub constant_stays : (i : AtomId) (t u : State) → unify_effect (UnifyConstant i) t ≡ Some u → u ≡ with_owed t (t.owed - 1)
constant_stays i t u e = some_is (with_owed t (t.owed - 1)) u e

pub integer_stays : (z : ℤ) (t u : State) → unify_effect (UnifyInteger z) t ≡ Some u → u ≡ with_owed t (t.owed - 1)
integer_stays z t u e = some_is (with_owed t (t.owed - 1)) u e

pub next_place : (equal : Bool) (at : ℕ) (to : ReadPosition) → to.at ≡ suc at → IsNextPlace at (if equal then Some to else None)
next_place true at to e = e
next_place false at to e = tt

-- ---- one argument is looked at

module _ (area : Area) (cells : List Cell) (s : branch.State) (at i : ℕ) (c : Contents) (safe : IsSafe area s at (length cells - i) c) (more : i < length cells)
    (own : All (IsCell s) cells) (d : Cell) (d_own : IsOf s.heaps.now d) (first : drop i cells ≡ d ∷ drop (suc i) cells) where
  untold : AreTouchesOf s []
  untold = All-nil (IsTouchBelow (length s.levels.current.sets))

  -- The code gives a cell that the argument is equal to.
  same_looked : (step : Code) → Holds area at step → goes_on step ≡ true → ((t u : State) → unify_effect step t ≡ Some u → u ≡ with_owed t (t.owed - 1))
      → (e : Cell) → OnsEqual area cells s [] at i c safe more own untold d first e → IsEqualled s.heaps.now d e s.heaps.now [] [] → (to : ReadPosition)
      → to.at ≡ suc at → to.next ≡ suc i
      → IsReadTo area cells s [] (record { at = at; next = i }) c s [] to c
  same_looked step holds on stays e ons same = reads_equal area cells s [] at i c safe more own untold d first step holds on stays e ons NoMemory s [] true same tt (λ a. a) refl safe.sound tt

  -- or one that it can't be
  other_looked : (step : Code) → Holds area at step → goes_on step ≡ true → ((t u : State) → unify_effect step t ≡ Some u → u ≡ with_owed t (t.owed - 1))
      → (e : Cell) → OnsEqual area cells s [] at i c safe more own untold d first e → CannotUnify s.heaps.now d e
      → IsRefused area cells s [] (record { at = at; next = i }) c s c
  other_looked step holds on stays e ons un =
      reads_equal area cells s [] at i c safe more own untold d first step holds on stays e ons NoMemory s [] false tt un (λ a. tt) refl tt
      (record { greatest = safe.sound.greatest; unspent = safe.sound.unspent; marked = safe.sound.marked; below = safe.sound.below })
      (record { at = suc at; next = suc i }) refl refl

  abbrev Looks : ReadPosition → Look → Type 0
  Looks to l = to.at ≡ suc at → to.next ≡ suc i → LooksOn area cells s (record { at = at; next = i }) c c l

  -- what a look tells, where the code gives an atom
  pub looked_atom : (k : AtomId) → Holds area at (UnifyConstant k) → (root : Cell) → Same s.heaps.now d root → (to : ReadPosition) (l : Look) → TellsEqual root (cell.Atom k) to l → Looks to l
  looked_atom k holds root same to (Read there) t at_is next_is =
      let h = s.heaps.now in
      let equal = atoms_true h safe.sound.now.valid d (cell.Atom k) d_own tt k k true [] (sym (eq-eqb k.number k.number refl)) (λ name. same name ∙ ap (term_of name h) t.0) (λ name. refl) in
      subst (λ r. IsReadTo area cells s [] (record { at = at; next = i }) c s [] r c) (sym t.1)
      (same_looked (UnifyConstant k) holds refl (constant_stays k) (cell.Atom k) (constant_equal area cells s [] at i c safe more own untold d first k holds) equal to at_is next_is)
  looked_atom k holds (cell.Atom a) same to Refused t at_is next_is =
      let h = s.heaps.now in
      let un = atoms_false h safe.sound.now.valid d (cell.Atom k) d_own tt a k false
      (sym (ne_eqb a.number k.number (λ e. t (ap (λ n. let f : AtomId = record { number = n } in f) e)))) same (λ name. refl) in
      other_looked (UnifyConstant k) holds refl (constant_stays k) (cell.Atom k) (constant_equal area cells s [] at i c safe more own untold d first k holds) un
  looked_atom k holds (cell.Ref j) same to Refused t at_is next_is = absurd t
  looked_atom k holds (cell.Int x) same to Refused t at_is next_is = absurd t
  looked_atom k holds (cell.Struct j) same to Refused t at_is next_is = absurd t
  looked_atom k holds root same to Unclear t at_is next_is = refl

  -- and where it gives an integer
  pub looked_integer : (z : ℤ) → Holds area at (UnifyInteger z) → (root : Cell) → Same s.heaps.now d root → (to : ReadPosition) (l : Look) → TellsEqual root (cell.Int z) to l → Looks to l
  looked_integer z holds root same to (Read there) t at_is next_is =
      let h = s.heaps.now in
      let equal = integers_true h safe.sound.now.valid d (cell.Int z) d_own tt z z true [] (λ e. refl) (λ name. same name ∙ ap (term_of name h) t.0) (λ name. refl) in
      subst (λ r. IsReadTo area cells s [] (record { at = at; next = i }) c s [] r c) (sym t.1)
      (same_looked (UnifyInteger z) holds refl (integer_stays z) (cell.Int z) (integer_equal area cells s [] at i c safe more own untold d first z holds) equal to at_is next_is)
  looked_integer z holds (cell.Int x) same to Refused t at_is next_is =
      let h = s.heaps.now in
      let un = integers_false h safe.sound.now.valid d (cell.Int z) d_own tt x z false (λ e q. t q) same (λ name. refl) in
      other_looked (UnifyInteger z) holds refl (integer_stays z) (cell.Int z) (integer_equal area cells s [] at i c safe more own untold d first z holds) un
  looked_integer z holds (cell.Ref j) same to Refused t at_is next_is = absurd t
  looked_integer z holds (cell.Atom a) same to Refused t at_is next_is = absurd t
  looked_integer z holds (cell.Struct j) same to Refused t at_is next_is = absurd t
  looked_integer z holds root same to Unclear t at_is next_is = refl

-- ---- many arguments

pub read_start : (area : Area) (cells : List Cell) (s : branch.State) (told : List Touch) (from : ReadPosition) (c : Contents)
    → IsSafe area s from.at (length cells - from.next) c → from.next ≤ length cells → All (IsCell s) cells → AreTouchesOf s told
    → IsReadTo area cells s told from c s told from c
read_start area cells s told from c safe within own are = record {
  safe = safe;
  within = within;
  leads = among_none area from.at;
  own = own;
  are_told = are;
  behind = same_behind c;
  below = same_below s;
  keeps = λ N small marks shown name b n m. m;
}

module _ (area : Area) (cells : List Cell) (s : branch.State) (told : List Touch) (from : ReadPosition) (c : Contents) (s1 : branch.State) (told1 : List Touch)
    (to : ReadPosition) (c1 : Contents) (g : IsReadTo area cells s told from c s1 told1 to c1) where
  pub read_both : (s2 : branch.State) (told2 : List Touch) (to2 : ReadPosition) (c2 : Contents) → IsReadTo area cells s1 told1 to c1 s2 told2 to2 c2 → IsReadTo area cells s told from c s2 told2 to2 c2
  read_both s2 told2 to2 c2 k = record {
    safe = k.safe;
    within = k.within;
    leads = among_both area from.at to.at to2.at g.leads k.leads;
    own = k.own;
    are_told = k.are_told;
    behind = behind_both c c1 c2 g.behind k.behind;
    below = below_both s s1 s2 g.below k.below;
    keeps = λ N small marks shown name b n m. k.keeps N small marks shown name b n (g.keeps N small marks shown name b n m);
  }

  pub read_refused : (s2 : branch.State) (c2 : Contents) → IsRefused area cells s1 told1 to c1 s2 c2 → IsRefused area cells s told from c s2 c2
  read_refused s2 c2 k = record {
    safe = k.safe;
    behind = behind_both c c1 c2 g.behind k.behind;
    below = below_both s s1 s2 g.below k.below;
    none = λ N small marks shown name b n m. k.none N small marks shown name b n (g.keeps N small marks shown name b n m);
  }

  -- the last one is read
  pub read_all : length cells ≤ to.next → IsReadTo area cells s told from c s1 told1 (record { at = to.at; next = length cells }) c1
  read_all low =
      let w = g.within in
      let same : to.next ≡ length cells = omega (arith, low, w) in
      subst (λ n. IsReadTo area cells s told from c s1 told1 (record { at = to.at; next = n }) c1) same g

-- ---- arguments that registers take

-- the register took one, and the next instruction is at the place
pub one_taken : (area : Area) (cells : List Cell) (s : branch.State) (place : ReadPosition) (c c1 : Contents) (taken : Bool) → taken ≡ true
    → TakesOne area cells s place c c1 taken → (to : ReadPosition) → to.at ≡ suc place.at → to.next ≡ suc place.next
    → IsReadTo area cells s [] place c s [] to c1
one_taken area cells s place c c1 true so k to at_is next_is = subst (λ n. IsReadTo area cells s [] place c s [] (record { at = to.at; next = n }) c1)
    (sym next_is) (subst (λ a. IsReadTo area cells s [] place c s [] (record { at = a; next = suc place.next }) c1) (sym at_is) k)
one_taken area cells s place c c1 false so k to at_is next_is = absurd (false≢true so)

-- or none was taken
pub none_taken : (area : Area) (cells : List Cell) (s : branch.State) (first place : ReadPosition) (c c1 c2 : Contents) (taken : Bool) → taken ≡ false
    → TakesOne area cells s place c1 c2 taken → IsReadTo area cells s [] first c s [] place c1 → IsReadTo area cells s [] first c s [] place c2
none_taken area cells s first place c c1 c2 false so k g = subst (λ (e : Contents). IsReadTo area cells s [] first c s [] place e) (sym k) g
none_taken area cells s first place c c1 c2 true so k g = absurd (false≢true (sym so))
