-- A structure of a head, where it is matched.
use Rattle.std.proofs.Common.{◌≤◌, ◌≡◌, ℕ, suc, ◌-◌, ◌<◌, ◌==◌, Bool, true, false, not, List, [], ◌∷◌, ◌++◌, length, drop, All, Some, Bor, Result, Ok, Err}
use Rattle.std.proofs.Common.{refl, ap, sym, ◌∙◌, subst, inl, inr, arith, append-nil, ◌⊎◌, eqb-true, eq-eqb}
use Rattle.std.proofs.lemmas.Bool.{cases_Bool, true≢false}
use Rattle.std.specs.Result.{IfOk, OnOk}
use Rattle.std.proofs.lemmas.Option.{same_Some}
use Rattle.std.proofs.Math.Seq.{drop-length}
use Rattle.fd_language.specs.declared.NoMemory.{NoMemory}
use Rattle.fd_language.specs.declared.TheConstants.{INFINITY}
use Rattle.fd_language.specs.Family.{has}
use Rattle.fd_language.specs.Term.{Term, Terms, Var, Int, Atom, Comp, Substitution, apply, apply_all, term_count}
use Rattle.fd_model.specs.Goal.{Branch}
use Rattle.term_pool.specs.declared.AtomId.{AtomId}
use Rattle.heap_cells.specs.declared.Cell.{Cell}
use Rattle.heap_cells.specs.declared.Cell.TheVariants as cell
use Rattle.heap_cells.specs.declared.Seen.{Seen}
use Rattle.heap_cells.specs.declared.Seen.TheVariants as seen
use Rattle.heap_cells.specs.Cells.{Cells, IsOf, is_bound, compound_at}
use Rattle.heap_cells.specs.SeenCells.{IsSeen}
use Rattle.heap_cells.specs.Terms.{Naming, Same, term_of, terms_by, compound_term}
use Rattle.heap_cells.proofs.Lemmas.{term-Int, term-Atom, term-Struct, unbound_term}
use Rattle.branch_meaning.specs.Store.{posts}
use Rattle.branch_lemmas.proofs.Lemmas.{model_wider}
use Rattle.branch_lemmas.specs.Frames.{store_touches}
use Rattle.unify_core.specs.declared.Touch.{Touch}
use Rattle.unify_core.specs.Outcome.{IfTrue, IfFalse}
use Rattle.unify_core.specs.Touches.{IsLinked, IsSymbolic}
use Rattle.branch_state.specs.Compounds.{IsMade}
use Rattle.branch_state.specs.States as branch
use Rattle.branch_state.specs.States.{IsCell, IsSound, IsSoundBelow, IsSameBelow, with_heap}
use Rattle.branch_state.specs.Steps.{posted_with}
use Rattle.wam_code.specs.declared.instruction.Code.TheVariants.{GetStructure}
use Rattle.wam_code.specs.Area.{State, Area, Holds, name_of}
use Rattle.wam_code.specs.Effect.{with_owed}
use Rattle.wam_code.specs.VerifiedCode.{IsAtom}
use Rattle.code_areas.specs.Areas.{cell_at, IsSet, Contents}
use Rattle.code_meaning.specs.WriteMode.{GetEnd, Builds}
use Rattle.code_meaning.specs.ReadMode.{AllOwn, Reads}
use Rattle.code_meaning.specs.StateMeaning.{Stands}
use Rattle.code_meaning.specs.Steps.{GoesOnEqual}
use Rattle.code_meaning.proofs.Lemmas.{start_get, end_get, IsNone, step_get_structure, read_end, stands_no_model}
use Rattle.code_safety.specs.Machine.{registers_of, stack_of, IsSameBehind}
use Rattle.code_safety.specs.Safety.{Fits, IsSafe, IsSafeBack, IsSafeThen}
use Rattle.code_safety.specs.RepresentedBranch.{IsNaming, KeepsStanding, went_to}
use Rattle.code_safety.specs.Work.{LeadsOn}
use Rattle.code_safety.specs.CellEquations.{Equates}
use Rattle.term_instructions.specs.Arguments.{LeadsAmong, LeadsFrom}
use Rattle.term_instructions.specs.declared.read_mode.ReadPosition.{ReadPosition}
use Rattle.term_instructions.specs.WriteMode.{for_head, BuildsAt, IsGatheredTo, BuildsThen, BuildsFor}
use Rattle.term_instructions.specs.ReadMode.{ReadsAt, IsReadTo, IsRefused, ReadsThen}
use Rattle.code_safety.specs.declared.instruction_outcomes.Went.{Went}
use Rattle.code_safety.specs.declared.instruction_outcomes.Went.TheVariants.{On, Back}
use Rattle.code_safety.proofs.Lemmas.{same_cells, found, when_parts, back_safe, next_safe, same_behind, behind_both, same_below, below_heap, below_both}
use Rattle.term_instructions.proofs.Steps.{among_both, led_from}
use Rattle.term_instructions.proofs.UnifyInstructions.{fits_owed}
use Rattle.term_instructions.proofs.ReadSteps.{read_all}
use Rattle.term_instructions.proofs.Structure.{grown_safe, sound_safe, equated_safe, made_keeps}

-- ---- the arguments of one that is there

-- what was touched is posted, or has no model
pub read_then : (area : Area) (cells : List Cell) (s : branch.State) (told : List Touch) (from : ReadPosition) (c : Contents) (s1 : branch.State)
    (told1 : List Touch) (at : ℕ) (c1 : Contents) → IsReadTo area cells s told from c s1 told1 (record { at = at; next = length cells }) c1
    → (s2 : branch.State) (given : List Touch) → given ≡ told1 → (posted : Bool) → (E : Type 0) → s2.heaps ≡ s1.heaps → IsSameBelow s1 s2
    → IfTrue {E = E} (Ok posted) (s2.levels.current.posted ≡ posted_with s1 given)
    → IfFalse {E = E} (Ok posted) (branch.HasNoModel INFINITY (posted_with s1 given)) → IfTrue {E = E} (Ok posted) (IsSound s2)
    → IfFalse {E = E} (Ok posted) (IsSoundBelow s2) → ReadsThen area (drop from.next cells) s told from.at c s2 c1 (went_to at posted)
read_then area cells s told from c s1 told1 at c1 g s2 given is true E heap below all none sound back =
    let none_left : length cells - length cells ≡ 0 = omega arith in
    let ps : posted_with s1 told1 ≡ s2.levels.current.posted = ap (posted_with s1) (sym is) ∙ sym all in
    record {
      safe = sound_safe area s1 s2 at 0 c1 (subst (λ k. IsSafe area s1 at k c1) none_left g.safe) heap below sound;
      leads = g.leads;
      behind = g.behind;
      below = below_both s s1 s2 g.below below;
      stands = λ N small marks shown name b n m.
          let k = g.keeps N small marks shown name b n m in
          let ended : Reads INFINITY N marks area shown name s1.heaps.now (posted_with s1 told1) 0 at (registers_of c1) [] (stack_of c1) b = subst
          (λ l. Reads INFINITY N marks area shown name s1.heaps.now (posted_with s1 told1) 0 at (registers_of c1) l (stack_of c1) b)
          (drop-length cells) k in
          let st = read_end INFINITY N marks area shown name s1.heaps.now (posted_with s1 told1) at (registers_of c1) (stack_of c1) b ended in
          subst (λ ps. Stands INFINITY N marks area shown name s2.heaps.now ps at (registers_of c1) (stack_of c1) b) ps
          (subst (λ h. Stands INFINITY N marks area shown name h.now (posted_with s1 told1) at (registers_of c1) (stack_of c1) b) (sym heap) st);
    }
read_then area cells s told from c s1 told1 at c1 g s2 given is false E heap below all none sound back =
    record {
      safe = back_safe area s1 s2 at (length cells - length cells) c1 c1 g.safe below (same_behind c1) back;
      leads = tt;
      behind = g.behind;
      below = below_both s s1 s2 g.below below;
      stands = λ N small marks shown name b n m.
          let k = g.keeps N small marks shown name b n m in
          let ended : Reads INFINITY N marks area shown name s1.heaps.now (posted_with s1 told1) 0 at (registers_of c1) [] (stack_of c1) b = subst
          (λ l. Reads INFINITY N marks area shown name s1.heaps.now (posted_with s1 told1) 0 at (registers_of c1) l (stack_of c1) b)
          (drop-length cells) k in
          let st = read_end INFINITY N marks area shown name s1.heaps.now (posted_with s1 told1) at (registers_of c1) (stack_of c1) b ended in
          stands_no_model INFINITY N marks area shown name s1.heaps.now (posted_with s1 told1) at (registers_of c1) (stack_of c1) b st
          (λ T m. subst (branch.HasNoModel INFINITY) (ap (posted_with s1) is) none T (model_wider INFINITY N (posted_with s1 told1) small T m));
    }

pub refused_then : (area : Area) (cells : List Cell) (s : branch.State) (told : List Touch) (from : ReadPosition) (c : Contents) (s1 : branch.State)
    (c1 : Contents) → IsRefused area cells s told from c s1 c1 → ReadsThen area (drop from.next cells) s told from.at c s1 c1 Back
refused_then area cells s told from c s1 c1 r = record { safe = r.safe; leads = tt; behind = r.behind; below = r.below; stands = r.none }

led_both : (area : Area) (a b : ℕ) → LeadsAmong area a b → (w : Went) → LeadsFrom area b w → LeadsFrom area a w
led_both area a b some (On to) more = among_both area a b to some more
led_both area a b some Back more = tt

-- Some of them were read by a look.
module _ (area : Area) (cells : List Cell) (s : branch.State) (from : ReadPosition) (c : Contents) (to : ReadPosition) (c1 : Contents) (g : IsReadTo area cells s [] from c s [] to c1) where
  -- and these were all
  pub looked_all : to.next ≡ length cells → ReadsThen area (drop from.next cells) s [] from.at c s c1 (On to.at)
  looked_all all =
      let k = read_all area cells s [] from c s [] to c1 g (omega (arith, all)) in
      read_then area cells s [] from c s [] to.at c1 k s [] refl true NoMemory refl (same_below s) (sym (append-nil s.levels.current.posted)) tt (g.safe.sound) tt

  -- and the others are read behind
  pub looked_first : (given : List Cell) → given ≡ cells → (told : List Touch) → told ≡ [] → (s' : branch.State) (c' : Contents) {E : Type 0}
      → (r : Result Went E) → IfOk r (ReadsThen area (drop to.next given) s told to.at c1 s' c')
      → IfOk r (ReadsThen area (drop from.next cells) s [] from.at c s' c')
  looked_first given given_is told empty s' c' (Ok w) k =
      let r : ReadsThen area (drop to.next cells) s [] to.at c1 s' c' w = subst (λ ts. ReadsThen area (drop to.next cells) s ts to.at c1 s' c' w) empty
      (subst (λ l. ReadsThen area (drop to.next l) s told to.at c1 s' c' w) given_is k) in
      record {
        safe = r.safe;
        leads = led_both area from.at to.at g.leads w r.leads;
        behind = behind_both c c1 c' g.behind r.behind;
        below = r.below;
        stands = λ N small marks shown name b n m. r.stands N small marks shown name b n (g.keeps N small marks shown name b n m);
      }
  looked_first given given_is told empty s' c' (Err e) k = tt

-- ---- the arguments of a new one

module _ (area : Area) (f : AtomId) (n : ℕ) (d : Cell) (atom : IsAtom area f) (s : branch.State) (from : ℕ) (c : Contents) (d_own : IsCell s d)
    (empty : List Cell) (none : empty ≡ []) (s2 : branch.State) (next : ℕ) (c2 : Contents) (cells : List Cell)
    (g : IsGatheredTo area n s from c empty s2 next c2 cells) (all : length cells ≡ n)
    (s3 : branch.State) (new : Cell) (given : List Cell) (given_is : given ≡ cells) (made : IsMade f given s2 s3 new) (heap : s3 ≡ with_heap s2 s3.heaps.now) (sound : IsSound s3) where
  none_left : n - length cells ≡ 0
  none_left = omega (arith, all)

  grown : IsSafe area s3 next 0 c2
  grown = grown_safe area s2 s3 next 0 c2 (subst (λ k. IsSafe area s2 next k c2) none_left g.safe) heap sound (made_keeps f given s2 s3 new made heap)

  goes : (N : ℕ) (small : N ≤ INFINITY) (marks : List ℕ) (shown : List ℕ) (name : Naming) (b : Branch) → IsNaming area name
      → BuildsAt N marks area shown name (name_of area f) (for_head d) s from c [] n b
      → GoesOnEqual INFINITY N marks area shown name s3.heaps.now s3.levels.current.posted next (registers_of c2) (stack_of c2) b d new
  goes N small marks shown name b m v =
      let g' = name_of area f in
      let two : BuildsAt N marks area shown name g' (for_head d) s from c [] (n - length {A = Cell} []) b = subst
      (λ k. BuildsAt N marks area shown name g' (for_head d) s from c [] k b) (let e : n ≡ n - length {A = Cell} [] = omega arith in e) v in
      let three = g.keeps N small marks shown name g' (for_head d) b m (subst (λ l. BuildsAt N marks area shown name g' (for_head d) s from c l (n - length l) b) (sym none) two) in
      let four : BuildsAt N marks area shown name g' (for_head d) s2 next c2 given 0 b =
      subst (λ l. BuildsAt N marks area shown name g' (for_head d) s2 next c2 l 0 b) (sym given_is)
      (subst (λ k. BuildsAt N marks area shown name g' (for_head d) s2 next c2 cells k b) none_left three) in
      subst (λ ps. GoesOnEqual INFINITY N marks area shown name s3.heaps.now ps next (registers_of c2) (stack_of c2) b d new) (sym (ap (λ (t : branch.State). t.levels.current.posted) heap))
      (end_get INFINITY N marks area shown name s2.heaps.now s2.levels.current.posted next (registers_of c2) (stack_of c2) b f (m.same f atom) given
      s3.heaps.now new made.grown made.own.0 (made.term name) d four)

  pub built_then : (s4 : branch.State) (equal : Bool) → Equates s3 d new s4 equal → IsSameBelow s3 s4 → BuildsThen area f n d s from c s4 c2 (went_to next equal)
  built_then s4 true q below = record {
    safe = equated_safe area s3 s4 next 0 c2 grown below q.sound (same_cells s3 s4 below.atoms q.size);
    leads = g.leads;
    behind = g.behind;
    below = below_both s s2 s4 g.below (below_both s2 s3 s4 (below_heap s2 s3 heap) below);
    stands = λ N small marks shown name b m v.
        let k = goes N small marks shown name b m v in
        subst (λ ps. Stands INFINITY N marks area shown name s4.heaps.now ps next (registers_of c2) (stack_of c2) b) (sym q.posted) (k.unified s4.heaps.now q.touches (q.unified name) q.size);
  }
  built_then s4 false q below = record {
    safe = back_safe area s3 s4 next 0 c2 c2 grown below (same_behind c2) q.1;
    leads = tt;
    behind = g.behind;
    below = below_both s s2 s4 g.below (below_both s2 s3 s4 (below_heap s2 s3 heap) below);
    stands = λ N small marks shown name b m v.
        let k = goes N small marks shown name b m v in elim q.0 [
          | inl un ↦ k.refuted (un name m.apart)
          | inr gone ↦ stands_no_model INFINITY N marks area shown name gone.now (s3.levels.current.posted ++ posts (store_touches gone.touches)) next
              (registers_of c2) (stack_of c2) b (k.unified gone.now gone.touches (gone.unified name) gone.size)
              (λ T m. gone.none T (model_wider INFINITY N (s3.levels.current.posted ++ posts (store_touches gone.touches)) small T m))
        ];
  }

-- ---- the instruction

own_list : (h : Cells) (cells : List Cell) → All (IsOf h) cells → AllOwn h cells
own_list h [] a = tt
own_list h (c ∷ cs) a = (a 0 c (omega arith), own_list h cs (λ k d l. a (suc k) d (omega (arith, l))))

count_made : (back : Substitution) (by : Cell → Term) (cells : List Cell) → term_count (apply_all back (terms_by by cells)) ≡ length cells
count_made back by [] = refl
count_made back by (d ∷ cells) = ap suc (count_made back by cells)

module _ (area : Area) (s : branch.State) (at : ℕ) (c : Contents) (safe : IsSafe area s at 0 c) (f : AtomId) (n a : ℕ) (holds : Holds area at (GetStructure f n a)) where
  abbrev h : Cells
  h = s.heaps.now

  pub get_needs : IsSet c.registers a
  get_needs =
      let e = found area s at 0 c (GetStructure f n a) safe holds in
      e.fits.set a (when_parts (has e.state.regs a) (with_owed e.state n) e.handed e.effect_is).0

  pub get_started : IsSafe area s (suc at) n c
  get_started =
      let e = found area s at 0 c (GetStructure f n a) safe holds in
      let k = (when_parts (has e.state.regs a) (with_owed e.state n) e.handed e.effect_is).1 in
      let fits : Fits e.handed c.registers c.slots = subst (λ v. Fits v c.registers c.slots) (sym k) (fits_owed e.state n c.registers c.slots e.fits) in
      next_safe area s s at 0 c c safe (same_below s) (same_behind c) (GetStructure f n a) holds refl e n fits (ap (λ (v : State). v.owed) k) safe.sound
      (λ x l. l) safe.here.registers_own safe.here.slots_own

  pub get_atom : IsAtom area f
  get_atom = safe.verified.there at (GetStructure f n a) holds

  pub get_back_safe : IsSafeBack area s c
  get_back_safe = back_safe area s s at 0 c c safe (same_below s) (same_behind c)
      (record { greatest = safe.sound.greatest; unspent = safe.sound.unspent; marked = safe.sound.marked; below = safe.sound.below })

  module _ (d : Cell) (here : cell_at c.registers a ≡ Some d) where
    pub get_open : (s' : branch.State) (c' : Contents) (w : Went) → BuildsThen area f n d s (suc at) c s' c' w → KeepsStanding area s at c s' c' w
    get_open s' c' w g N small marks shown name b m st =
        let k = start_get INFINITY N marks area shown name h s.levels.current.posted at (registers_of c) (stack_of c) b st f n a holds in
        g.stands N small marks shown name b m (subst (λ e. Builds INFINITY N marks area shown name h s.levels.current.posted 0 (suc at) (registers_of c)
        (e ∷ []) n (stack_of c) b (GetEnd area shown b (name_of area f))) (same_Some k.0 d (sym k.1 ∙ here)) k.3)

    -- the term of a structure that is there
    term_there : (name : Naming) (g : AtomId) (args : List Cell) (j : ℕ) → compound_at h j ≡ record { name = g; args = args } → Same h d (cell.Struct j)
        → term_of name h d ≡ Comp (name g) (terms_by (term_of name h) args)
    term_there name g args j is same = same name ∙ term-Struct name h safe.sound.now.valid j ∙ ap (compound_term name (term_of name h)) is

    module _ (g : AtomId) (args : List Cell) (j : ℕ) (low : j < length h.compounds) (is : compound_at h j ≡ record { name = g; args = args }) (same : Same h d (cell.Struct j)) where
      pub args_own : All (IsCell s) args
      args_own = subst (λ k. All (IsCell s) k.args) is (λ k e l. (safe.sound.now.valid.parts j k e l, safe.sound.now.names.args j k e l))

      pub get_struct : g ≡ f → length args ≡ n → (cells : List Cell) → cells ≡ args → (told : List Touch) → told ≡ []
          → (s' : branch.State) (c' : Contents) (w : Went) → ReadsThen area cells s told (suc at) c s' c' w → KeepsStanding area s at c s' c' w
      get_struct is_f size cells given told empty s' c' w r N small marks shown name b m st =
          let k = step_get_structure INFINITY N marks area shown name h s.levels.current.posted at (registers_of c) (stack_of c) b st f n a holds in
          let mine : k.0 ≡ d = same_Some k.0 d (sym k.1 ∙ here) in
          let there : term_of name h k.0 ≡ Comp (name_of area f) (terms_by (term_of name h) args) = ap (term_of name h) mine ∙ term_there name g args j is same
          ∙ ap (λ x. Comp x (terms_by (term_of name h) args)) (ap name is_f ∙ m.same f get_atom) in
          let reads = k.3 args size there (own_list h args (λ i e l. (args_own i e l).0)) in
          let ps : s.levels.current.posted ≡ posted_with s told = sym (append-nil s.levels.current.posted) ∙ ap (posted_with s) (sym empty) in
          r.stands N small marks shown name b m (subst (λ l. ReadsAt N marks area shown name s told (suc at) c l b) (sym given)
          (subst (λ qs. Reads INFINITY N marks area shown name h qs 0 (suc at) (registers_of c) args (stack_of c) b) ps reads))

      pub get_other : ((g ≡ f → ⊥) ⊎ (length args ≡ n → ⊥)) → KeepsStanding area s at c s c Back
      get_other differ N small marks shown name b m st =
          let k = step_get_structure INFINITY N marks area shown name h s.levels.current.posted at (registers_of c) (stack_of c) b st f n a holds in
          let mine : k.0 ≡ d = same_Some k.0 d (sym k.1 ∙ here) in
          k.4 (λ back us size e. absurd (clash back us size (ap (apply back) (sym (ap (term_of name h) mine ∙ term_there name g args j is same)) ∙ e) differ))
        where
          clash : (back : Substitution) (us : Terms) → term_count us ≡ n
              → Comp (name g) (apply_all back (terms_by (term_of name h) args)) ≡ Comp (name_of area f) us → ((g ≡ f → ⊥) ⊎ (length args ≡ n → ⊥)) → ⊥
          clash back us size e (inl no_name) = no_name (m.apart g f ((let i : name g ≡ name_of area f = cc in i) ∙ sym (m.same f get_atom)))
          clash back us size e (inr no_size) = no_size (sym (count_made back (term_of name h) args) ∙ ap term_count (let i : apply_all back (terms_by (term_of name h) args) ≡ us = cc in i) ∙ size)

    pub get_constant_seen : (v : Seen) → IsSeen h d v → ((i : ℕ) → v ≡ seen.Open i → ⊥) → ((g : AtomId) (args : Bor (List Cell)) → v ≡ seen.Struct g args → ⊥) → KeepsStanding area s at c s c Back
    get_constant_seen v k not_open not_struct N small marks shown name b m st =
        let e = step_get_structure INFINITY N marks area shown name h s.levels.current.posted at (registers_of c) (stack_of c) b st f n a holds in
        let mine : e.0 ≡ d = same_Some e.0 d (sym e.1 ∙ here) in
        e.4 (subst (λ x. IsNone INFINITY N marks area shown name h s.levels.current.posted at (registers_of c) (stack_of c) b st x (name_of area f) n) (sym mine) (go v k not_open not_struct))
      where
        go : (v : Seen) → IsSeen h d v → ((i : ℕ) → v ≡ seen.Open i → ⊥) → ((g : AtomId) (args : Bor (List Cell)) → v ≡ seen.Struct g args → ⊥)
            → (back : Substitution) (us : Terms) → term_count us ≡ n → apply back (term_of name h d) ≡ Comp (name_of area f) us
            → (e : ℕ) × (k : ℕ) × IsLinked h e k × IsSymbolic (back e)
        go (seen.Open i) k not_open not_struct back us size e = absurd (not_open i refl)
        go (seen.Constrained i j) k not_open not_struct back us size e =
            let at_i : term_of name h d ≡ Var i = k.2 name ∙ unbound_term name h safe.sound.now.valid i (ap is_bound k.1) in
            (i, j, k.1, subst IsSymbolic (sym (sym (ap (apply back) at_i) ∙ e)) tt)
        go (seen.Int z) k not_open not_struct back us size e = (let i : Int z ≡ Comp (name_of area f) us = sym (ap (apply back) (k name ∙ term-Int name h safe.sound.now.valid z)) ∙ e in absurd (cc))
        go (seen.Atom x) k not_open not_struct back us size
            e = (let i : Atom (name x) ≡ Comp (name_of area f) us = sym (ap (apply back) (k name ∙ term-Atom name h safe.sound.now.valid x)) ∙ e in absurd (cc))
        go (seen.Struct g args) k not_open not_struct back us size e = absurd (not_struct g args refl)

-- ---- how a call ends the instruction

-- A structure was built for what this cell comes to.
pub if_ok_at : (area : Area) (f : AtomId) (n var : ℕ) (s : branch.State) (at : ℕ) (c : Contents) (s' : branch.State) (c' : Contents) {E : Type 0}
    → (r : Result Went E) (d : Cell) → IsCell s d → Same s.heaps.now d (cell.Ref var) → IfOk r (BuildsFor area f n var s at c s' c')
    → IfOk r (BuildsThen area f n d s at c s' c')
if_ok_at area f n var s at c s' c' (Ok w) d own same g = g d own same
if_ok_at area f n var s at c s' c' (Err e) d own same g = tt

module _ (area : Area) (s : branch.State) (at : ℕ) (c : Contents) (safe : IsSafe area s at 0 c) (f : AtomId) (n a : ℕ)
    (holds : Holds area at (GetStructure f n a)) (d : Cell) (here : cell_at c.registers a ≡ Some d) (from : ℕ) (is : from ≡ suc at) (s' : branch.State)
    (c' : Contents) where
  -- where a structure was built
  pub get_built : {E : Type 0} → (r : Result Went E) → IfOk r (BuildsThen area f n d s from c s' c')
      → IfOk r (IsSafeThen area s' c') × IfOk r (KeepsStanding area s at c s' c') × IfOk r (LeadsOn area at) × OnOk r (IsSameBehind c c')
      × OnOk r (IsSameBelow s s')
  get_built (Ok w) g = (
    g.safe,
    get_open area s at c safe f n a holds d here s' c' w (subst (λ k. BuildsThen area f n d s k c s' c' w) is g),
    led_from area s at c safe (GetStructure f n a) holds refl from is w g.leads,
    g.behind,
    g.below,
  )
  get_built (Err e) g = (tt, tt, tt, tt, tt)

  -- where one was read
  pub get_read : (g : AtomId) (args : List Cell) (j : ℕ) → j < length s.heaps.now.compounds → compound_at s.heaps.now j ≡ record { name = g; args = args }
      → Same s.heaps.now d (cell.Struct j) → g ≡ f → length args ≡ n → (cells : List Cell) → cells ≡ args → (told : List Touch) → told ≡ []
      → {E : Type 0} → (r : Result Went E) → IfOk r (ReadsThen area cells s told from c s' c')
      → IfOk r (IsSafeThen area s' c') × IfOk r (KeepsStanding area s at c s' c') × IfOk r (LeadsOn area at) × OnOk r (IsSameBehind c c')
      × OnOk r (IsSameBelow s s')
  get_read g args j low there same is_f size cells given told empty (Ok w) k = (
    k.safe,
    get_struct area s at c safe f n a holds d here g args j low there same is_f size cells given told empty s' c' w
        (subst (λ i. ReadsThen area cells s told i c s' c' w) is k),
    led_from area s at c safe (GetStructure f n a) holds refl from is w k.leads,
    k.behind,
    k.below,
  )
  get_read g args j low there same is_f size cells given told empty (Err e) k = (tt, tt, tt, tt, tt)

-- ---- names

pub other_atom : (a b : AtomId) → true ≡ not (a.number == b.number) → a ≡ b → ⊥
other_atom a b t e = true≢false (t ∙ ap not (eq-eqb a.number b.number (ap (λ (n : AtomId). n.number) e)))

-- two atoms with one number are one
pub same_atom : (a b : AtomId) → false ≡ not (a.number == b.number) → a ≡ b
same_atom a b f = elim (cases_Bool (a.number == b.number)) [
  | inl t ↦ ap (λ (n : ℕ). record { number = n }) (eqb-true a.number b.number t)
  | inr t ↦ absurd (true≢false (sym (f ∙ ap not t)))
]
