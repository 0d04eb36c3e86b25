-- A compound term of a clause's head, where the argument is one of its name and arity: its arguments are read one by one.
use Rattle.std.proofs.Common.{◌≡◌, ℕ, zero, suc, ◌+◌, ◌<◌, ◌≤◌, Bool, true, false, cond, ◌&&◌, ◌||◌, List, [], ◌∷◌, ◌++◌, length, Option, Some, refl, ap, sym}
use Rattle.std.proofs.Common.{◌∙◌, subst, inl, inr, ◌⊎◌, arith, nat_lt}
use Rattle.std.proofs.lemmas.Bool.{cases_Bool, cases_eq, true≢false, and_parts, or_cases, and_from}
use Rattle.std.proofs.lemmas.Bool.Decides.{nat_tests}
use Rattle.std.proofs.lemmas.Option.{same_Some}
use Rattle.code_meaning.proofs.ClashingClauses.{count_applied}
use Rattle.fd_language.specs.Term.{Name, Term, Terms, Var, Comp, no_terms, term, Substitution, apply, apply_all, term_count}
use Rattle.fd_language.specs.Unifier.{Equation}
use Rattle.fd_language.specs.Family.{Family}
use Rattle.fd_language.specs.Range.{Indexical}
use Rattle.fd_model.specs.Children.{paired}
use Rattle.fd_model.specs.Goal.{Branch}
use Rattle.fd_model.specs.Models.{IsModel}
use Rattle.fd_model.proofs.Lemmas.{join_both, split_both, weaker}
use Rattle.heap_cells.specs.declared.Cell.{Cell}
use Rattle.heap_cells.specs.Cells.{Cells, IsOf}
use Rattle.heap_cells.specs.Terms.{Naming, terms_by, term_of}
use Rattle.branch_meaning.specs.Heap.{after, Of, AllOf, StandsForEquations}
use Rattle.branch_meaning.specs.EquivalentEquations.{SaysSame}
use Rattle.branch_meaning.proofs.Lemmas.{same_model, after_are, after_is, agree, agree_all, agree_each, more_of, more_all, more_each, still_of}
use Rattle.branch_lemmas.proofs.Lemmas.{kept_more, kept_barred}
use Rattle.term_pool.specs.declared.AtomId.{AtomId}
use Rattle.unify_core.specs.Touches.{IsLinked, IsSymbolic}
use Rattle.wam_code.specs.declared.instruction.Register.{Register}
use Rattle.wam_code.specs.declared.instruction.Register.TheVariants.{X, Y}
use Rattle.wam_code.specs.declared.instruction.Code.{Code}
use Rattle.wam_code.specs.declared.instruction.Code.TheVariants.{GetStructure, UnifyVariable, UnifyValue, UnifyConstant, UnifyInteger, UnifyVoid}
use Rattle.wam_code.specs.Area.{Area, Holds, name_of}
use Rattle.wam_code.specs.Places.{Places, put_at, write, learn, read, IsFresh}
use Rattle.wam_code.specs.CodeMeaning.{UnifyRule, Owed, Return}
use Rattle.code_meaning.specs.Registers.{Registers, Saved, IsShown, AllShown}
use Rattle.code_meaning.specs.StateMeaning.{Made, IsOld, IsMade, Stands}
use Rattle.code_meaning.specs.ReadMode.{AllOwn, AreCells, IsWider, local, IsPlain, ArePlain, Reads}
use Rattle.wam_code.proofs.Lemmas.{put_here, put_else}
use Rattle.code_meaning.proofs.RegisterTerms.{shown_moved, all_moved}
use Rattle.code_meaning.proofs.BranchEquations.{moved_over, learnt_here, learnt_more}
use Rattle.code_meaning.proofs.InstructionSteps.{here}
use Rattle.code_meaning.proofs.Ghosts.{ghosts, assign, assign_below, ghosts_in, ghost_each, ghost_of, assign_ghosts, unify_ghosts, ghosts_unify, same_tail}
use Rattle.code_meaning.proofs.Ghosts.{same_head}

-- ---- the terms that unify instructions give

-- the places q come behind p
record IsAfter (p q : Places) (fresh : ℕ) : Type 0 where
  known : (x : ℕ) → p.known x ≡ true → q.known x ≡ true
  top : q.top ≡ p.top
  own : q.own ≡ p.own
  plain : IsPlain q fresh

made_after : (p q : Places) (fresh : ℕ) → IsAfter p q fresh → (x : ℕ) → Made p fresh x → Made q fresh x
made_after p q fresh a x k = (a.known x k.0, elim k.1 [ inl l ↦ inl l | inr l ↦ inr (let e = a.top in omega (arith, l, e)) ])

after_same : (p : Places) (fresh : ℕ) → IsPlain p fresh → IsAfter p p fresh
after_same p fresh k = record { known = λ x e. e; top = refl; own = refl; plain = k }

after_then : (p r q : Places) (fresh : ℕ) → IsAfter p r fresh → IsAfter r q fresh → IsAfter p q fresh
after_then p r q fresh a d = record { known = λ x e. d.known x (a.known x e); top = d.top ∙ a.top; own = d.own ∙ a.own; plain = d.plain }

after_learn : (p : Places) (fresh v : ℕ) → IsPlain p fresh → IsAfter p (learn p v) fresh
after_learn p fresh v k =
    let more : (x : ℕ) → Made p fresh x → Made (learn p v) fresh x = λ x i. (learnt_more p v x i.0, i.1) in
    record {
      known = λ x e. learnt_more p v x e;
      top = refl;
      own = refl;
      plain = (λ n t e. more_of (Made p fresh) (Made (learn p v) fresh) more t (k.0 n t e), λ n t e. more_of (Made p fresh) (Made (learn p v) fresh) more t (k.1 n t e));
    }

put_plain : (P : ℕ → Type 0) (r : ℕ → Option Term) (i : ℕ) (t : Term) → Of P t → ((n : ℕ) (u : Term) → r n ≡ Some u → Of P u) → (n : ℕ) (u : Term) → put_at i t r n ≡ Some u → Of P u
put_plain P r i t o k n u e = elim (cases_eq n i) [
  | inl j ↦ subst (Of P) (same_Some t u (sym (put_here i t r) ∙ ap (put_at i t r) (sym j) ∙ e)) o
  | inr d ↦ k n u (sym (put_else i t r n d) ∙ e)
]

after_write : (p : Places) (fresh : ℕ) (r : Register) (t : Term) → IsPlain p fresh → Of (Made p fresh) t → IsAfter p (write p r t) fresh
after_write p fresh (X n) t k o = record { known = λ x e. e; top = refl; own = refl; plain = (put_plain (Made p fresh) p.x n t o k.0, k.1) }
after_write p fresh (Y n) t k o = record { known = λ x e. e; top = refl; own = refl; plain = (k.0, put_plain (Made p fresh) p.y n t o k.1) }

read_plain : (p : Places) (fresh : ℕ) (r : Register) (t : Term) → IsPlain p fresh → read p r ≡ Some t → Of (Made p fresh) t
read_plain p fresh (X n) t k e = k.0 n t e
read_plain p fresh (Y n) t k e = k.1 n t e

module _ (area : Area) (fresh : ℕ) where
  abbrev Unified : Places → Places → Term → Type 0
  Unified p q t = Of (Made q fresh) t × IsAfter p q fresh

  learn_unified : (p : Places) (v : ℕ) (t : Term) → IsPlain p fresh → IsFresh p v → t ≡ Var v → Unified p (learn p v) t
  learn_unified p v t k f is = (subst (Of (Made (learn p v) fresh)) (sym is) (learnt_here p v v refl, inr f.1), after_learn p fresh v k)

  unify_after : (i : Code) (p : Places) (t : Term) (voids : ℕ) (q : Places) → IsPlain p fresh → UnifyRule area i p t voids q → Unified p q t
  unify_after (UnifyVariable r) p t voids q k u =
      let v = u.0 in
      let one = learn_unified p v (Var v) k u.1 refl in
      let two = after_write (learn p v) fresh r (Var v) one.1.plain one.0 in
      let all = after_then p (learn p v) (write (learn p v) r (Var v)) fresh one.1 two in
      subst (λ s. Unified p s t) (sym u.4) (subst (Of (Made (write (learn p v) r (Var v)) fresh)) (sym u.2) (made_after (learn p v) (write (learn p v) r (Var v)) fresh two v one.0), all)
  unify_after (UnifyValue r) p t voids q k u = subst (λ s. Unified p s t) (sym u.2) (read_plain p fresh r t k u.0, after_same p fresh k)
  unify_after (UnifyConstant c) p t voids q k u = subst (λ s. Unified p s t) (sym u.2) (subst (Of (Made p fresh)) (sym u.0) tt, after_same p fresh k)
  unify_after (UnifyInteger z) p t voids q k u = subst (λ s. Unified p s t) (sym u.2) (subst (Of (Made p fresh)) (sym u.0) tt, after_same p fresh k)
  unify_after (UnifyVoid zero) p t voids q k u = absurd u
  unify_after (UnifyVoid (suc n)) p t voids q k u = subst (λ s. Unified p s t) (sym u.4) (learn_unified p u.0 t k u.1 u.2)
  unify_after _ p t voids q k u = absurd u

  owed_after : (voids at : ℕ) (p : Places) (ts : Terms) (next : ℕ) (q : Places) → IsPlain p fresh → Owed area voids at p ts next q → AllOf (Made q fresh) ts × IsAfter p q fresh
  owed_after voids at p no_terms next q k o = (tt, subst (λ s. IsAfter p s fresh) (sym o.2) (after_same p fresh k))
  owed_after zero at p (term t ts) next q k o =
      let one = unify_after o.0 p t o.1 o.2 k o.4 in
      let rest = owed_after o.1 (suc at) o.2 ts next q one.1.plain o.5 in
      ((more_of (Made o.2 fresh) (Made q fresh) (made_after o.2 q fresh rest.1) t one.0, rest.0), after_then p o.2 q fresh one.1 rest.1)
  owed_after (suc n) at p (term t ts) next q k o =
      let one = learn_unified p o.0 t k o.1 o.2 in
      let rest = owed_after n at (learn p o.0) ts next q one.1.plain o.3 in
      ((more_of (Made (learn p o.0) fresh) (Made q fresh) (made_after (learn p o.0) q fresh rest.1) t one.0, rest.0), after_then p (learn p o.0) q fresh one.1 rest.1)

-- ---- ghosts of the arguments

or_true : (x y : Bool) → (x ≡ true) ⊎ (y ≡ true) → (x || y) ≡ true
or_true true y e = refl
or_true false y (inl e) = absurd (true≢false (sym e))
or_true false y (inr e) = e

-- as many terms as cells
pub count_terms : (by : Cell → Term) (cs : List Cell) → term_count (terms_by by cs) ≡ length cs
count_terms by [] = refl
count_terms by (c ∷ cs) = ap suc (count_terms by cs)

count_ghosts : (n : ℕ) (ss : Terms) → term_count (ghosts n ss) ≡ term_count ss
count_ghosts n no_terms = refl
count_ghosts n (term s ss) = ap suc (count_ghosts (suc n) ss)

same_parts : (f : Name) (ts us : Terms) → Comp f ts ≡ Comp f us → ts ≡ us
same_parts f ts us e = cc

cells_are : (name : Naming) (h : Cells) (look : Substitution) (Q : ℕ → Type 0) (n : ℕ) (cs : List Cell) → AllOwn h cs
    → AllOf Q (ghosts n (terms_by (term_of name h) cs)) → apply_all look (ghosts n (terms_by (term_of name h) cs)) ≡ terms_by (term_of name h) cs
    → AreCells name h look Q cs (ghosts n (terms_by (term_of name h) cs))
cells_are name h look Q n [] o k e = tt
cells_are name h look Q n (c ∷ cs) o k e =
    let by = term_of name h in
    let rest = terms_by by cs in (
      record { known = k.0; own = o.0; value = same_head (look n) (by c) (apply_all look (ghosts (suc n) rest)) rest e },
      cells_are name h look Q (suc n) cs o.1 k.1 (same_tail (look n) (by c) (apply_all look (ghosts (suc n) rest)) rest e),
    )

all_plain : (name : Naming) (h : Cells) (look : Substitution) (P Q : ℕ → Type 0) → ((x : ℕ) → P x → Q x) → (fresh : ℕ) (rs : List Return) (ss : List Saved)
    → AllShown name h look P fresh rs ss → ArePlain Q fresh rs
all_plain name h look P Q more fresh [] [] a = tt
all_plain name h look P Q more fresh (r ∷ rs) [] a = absurd a
all_plain name h look P Q more fresh [] (s ∷ ss) a = absurd a
all_plain name h look P Q more fresh (r ∷ rs) (s ∷ ss) a = (a.1, (λ n t e. more_of P Q more t (a.2 n t e).2.known), all_plain name h look P Q more fresh rs ss a.3)

module _ (M N : ℕ) (marks : List ℕ) (name : Naming) (h : Cells) (qs : List Indexical) (returns : List Return) (stack : List Saved) (b : Branch) (c : Registers)
    (p : Places) (todo : List Equation) (m : IsMade M N marks name h qs c returns stack b p todo)
    (a : Term) (d : Cell) (at_a : IsShown name h m.look (Made p b.fresh) a d) (f : Name) (cells : List Cell)
    (there : term_of name h d ≡ Comp f (terms_by (term_of name h) cells)) (own : AllOwn h cells)
    (us : Terms) (counted : term_count us ≡ length cells) (low_us : AllOf (λ v. v < b.fresh + p.top) us) where
  abbrev P : ℕ → Type 0
  P = Made p b.fresh

  abbrev base : ℕ
  base = b.fresh + p.top

  abbrev values : Terms
  values = terms_by (term_of name h) cells

  abbrev inner : ℕ → Bool
  inner v = p.known v && (nat_lt v b.fresh || nat_lt v p.top)

  abbrev wide : Places
  wide = record { x = p.x; y = p.y; levels = p.levels; noted = p.noted; known = λ v. cond (nat_lt v base) (inner v) true; own = p.own; top = base + term_count values }

  abbrev Q : ℕ → Type 0
  Q = Made wide base

  abbrev R : ℕ → Type 0
  R v = v < base

  abbrev look' : Substitution
  look' = assign m.look base values

  abbrev gs : Terms
  gs = ghosts base values

  abbrev opened : Equation
  opened = record { left = a; right = Comp f gs }

  abbrev whole : List Equation
  whole = record { left = a; right = Comp f us } ∷ m.done

  low : (v : ℕ) → P v → v < base
  low v k = elim k.1 [ inl l ↦ omega (arith, l) | inr l ↦ omega (arith, l) ]

  inner_true : (v : ℕ) → P v → inner v ≡ true
  inner_true v k = and_from (p.known v) (nat_lt v b.fresh || nat_lt v p.top) k.0
      (or_true (nat_lt v b.fresh) (nat_lt v p.top) (elim k.1 [ inl l ↦ inl (grind (arith, nat_tests)) | inr l ↦ inr (grind (arith, nat_tests)) ]))

  inner_back : (v : ℕ) → inner v ≡ true → P v
  inner_back v e =
      let k = and_parts (p.known v) (nat_lt v b.fresh || nat_lt v p.top) e in
      (k.0, elim (or_cases (nat_lt v b.fresh) (nat_lt v p.top) k.1) [ inl i ↦ inl (grind (arith, nat_tests)) | inr i ↦ inr (grind (arith, nat_tests)) ])

  known_low : (v : ℕ) → v < base → wide.known v ≡ inner v
  known_low v l = let e : nat_lt v base ≡ true = grind (arith, nat_tests) in ap (λ k. cond k (inner v) true) e

  wider : (v : ℕ) → P v → Q v
  wider v k = (known_low v (low v k) ∙ inner_true v k, inl (low v k))

  ghost_known : (v : ℕ) → base ≤ v → v < base + term_count values → Q v
  ghost_known v l k = (let e : nat_lt v base ≡ false = grind (arith, nat_tests) in ap (λ k. cond k (inner v) true) e, inr k)

  by_known : (v : ℕ) → Q v → P v ⊎ ((base ≤ v) × (v < base + term_count values))
  by_known v k = elim (cases_Bool (nat_lt v base)) [
    | inl e ↦ let l : v < base = grind (arith, nat_tests) in inl (inner_back v (sym (known_low v l) ∙ k.0))
    | inr e ↦ let l : base ≤ v = grind (arith, nat_tests) in inr (l, elim k.1 [ inl i ↦ absurd (omega (arith, i, l)) | inr i ↦ i ])
  ]

  abbrev heap_of : StandsForEquations m.done P (length h.slots) m.look
  heap_of = m.kept.stored.heap

  on_side : apply m.look a ≡ Comp f values
  on_side = at_a.value ∙ there

  old_look : (v : ℕ) → P v → look' v ≡ m.look v
  old_look v k = assign_below m.look base values v (low v k)

  ghost_terms : apply_all look' gs ≡ values
  ghost_terms = assign_ghosts m.look base values values refl

  all_known : AllOf Q gs
  all_known = ghosts_in Q base values ghost_known

  through_side : (u back : Substitution) → ((x : ℕ) → P x → apply back (m.look x) ≡ u x) → apply u a ≡ Comp f (apply_all back values)
  through_side u back t = sym (agree P (after back m.look) u t a at_a.known) ∙ after_is back m.look a ∙ ap (apply back) on_side

  opened_says : SaysSame P (opened ∷ m.done) m.done
  opened_says = record {
    there = λ u k. k.1;
    back = λ u k.
        let t = heap_of.through u k in
        let now = apply_all t.0 values in
        let w = assign u base now in
        let same : (x : ℕ) → P x → w x ≡ u x = λ x o. assign_below u base now x (low x o) in
        let first : apply w a ≡ Comp f (apply_all w gs) = agree P w u same a at_a.known ∙ through_side u t.0 t.1
        ∙ ap (Comp f) (sym (assign_ghosts u base values now (sym (count_applied t.0 values)))) in
        (w, (first, agree_each P u w (λ x o. sym (same x o)) m.done heap_of.scoped k), same);
  }

  values_low : AllOf (λ c. c < length h.slots) values
  values_low = subst (Of (λ c. c < length h.slots)) on_side (still_of P (λ c. c < length h.slots) m.look heap_of.cells a at_a.known)

  opened_heap : StandsForEquations (opened ∷ m.done) Q (length h.slots) look'
  opened_heap = record {
    scoped = ((more_of P Q wider a at_a.known, all_known), more_each P Q wider m.done heap_of.scoped);
    unifies = (agree P look' m.look old_look a at_a.known ∙ on_side ∙ ap (Comp f) (sym ghost_terms), agree_each P m.look look' (λ x o. sym (old_look x o)) m.done heap_of.scoped heap_of.unifies);
    through = λ u k.
        let t = heap_of.through u k.1 in
        let each : apply_all (after t.0 look') gs ≡ apply_all u gs = after_are t.0 look' gs ∙ ap (apply_all t.0) ghost_terms
        ∙ same_parts f (apply_all t.0 values) (apply_all u gs) (sym (through_side u t.0 t.1) ∙ k.0) in
        (t.0, λ x o. elim (by_known x o) [ inl i ↦ ap (apply t.0) (old_look x i) ∙ t.1 x i | inr i ↦ ghost_each (after t.0 look') u base values each x i.0 i.1 ]);
    cells = λ x o. elim (by_known x o) [
      | inl i ↦ subst (Of (λ c. c < length h.slots)) (sym (old_look x i)) (heap_of.cells x i)
      | inr i ↦ ghost_of (λ c. c < length h.slots) look' base values (subst (AllOf (λ c. c < length h.slots)) (sym ghost_terms) values_low) x i.0 i.1
    ];
  }

  same_count : term_count values ≡ term_count us
  same_count = count_terms (term_of name h) cells ∙ sym counted

  -- the ghosts and the arguments say what the whole terms do
  whole_says : SaysSame R ((opened ∷ m.done) ++ paired gs us) whole
  whole_says = record {
    there = λ u k. (let s = split_both u m.done (paired gs us) k.1 in (k.0 ∙ ap (Comp f) (unify_ghosts u base values us same_count s.1), s.0));
    back = λ u k.
        let now = apply_all u us in
        let w = assign u base now in
        let same : (x : ℕ) → R x → w x ≡ u x = λ x l. assign_below u base now x l in
        let ghost_now : apply_all w gs ≡ now = assign_ghosts u base values now (same_count ∙ sym (count_applied u us)) in
        let us_now : now ≡ apply_all w us = agree_all R u w (λ x l. sym (same x l)) us low_us in
        let first : apply w a ≡ Comp f (apply_all w gs) = agree P w u (λ x o. same x (low x o)) a at_a.known ∙ k.0 ∙ ap (Comp f) (sym ghost_now) in
        (w, (first, join_both w m.done (paired gs us) (agree_each P u w (λ x o. sym (same x (low x o))) m.done heap_of.scoped k.1) (ghosts_unify w base values us (ghost_now ∙ us_now))), same);
  }

  moves : (S : ℕ → Type 0) → ((x : ℕ) → S x → P x) → (t : Term) (e : Cell) → Of S t → IsOf h e → apply m.look t ≡ term_of name h e → IsOf h e × (apply look' t ≡ term_of name h e)
  moves S into t e o i k = (i, sym (agree S m.look look' (λ x s. sym (old_look x (into x s))) t o) ∙ k)

  opened_made : (now : IsMade M N marks name h qs c returns stack (local b whole base) wide (paired gs us)) × AreCells name h now.look Q cells gs
  opened_made = (
    record {
      done = opened ∷ m.done;
      look = look';
      kept = kept_more M N h qs m.done b.posted P m.look m.kept (opened ∷ m.done) Q look' wider opened_says opened_heap (λ x o. sym (old_look x o));
      same = whole_says;
      xs = shown_moved name h h m.look look' P Q wider (moves P (λ x k. k)) p.x c.x m.xs;
      ys = shown_moved name h h m.look look' P Q wider (moves P (λ x k. k)) p.y c.y m.ys;
      saved = all_moved name h h m.look look' (IsOld p b.fresh) (IsOld wide base) (λ x k. ((wider x (k.0, inl k.1)).0, (let l = k.1 in omega (arith, l))))
          (moves (IsOld p b.fresh) (λ x k. (k.0, inl k.1))) b.fresh base (omega arith) returns stack m.saved;
      leveled = m.leveled;
      own = (let o = m.own in omega (arith, o));
      covered = λ v l k. absurd (omega (arith, l, k));
      used = λ v k. (let l = m.used v k in omega (arith, l));
      scoped = ((more_of P R low a at_a.known, low_us), more_each P R low m.done heap_of.scoped);
    },
    cells_are name h look' Q base cells own all_known ghost_terms,
  )

  opened_wider : IsWider p wide b.fresh base
  opened_wider = record {
    xs = λ n. refl;
    ys = λ n. refl;
    levels = λ n. refl;
    noted = refl;
    known = λ v l k. inner_back v (sym (known_low v l) ∙ k);
    made = λ v k. (wider v k).0;
    low = omega arith;
    top = omega arith;
    above = omega arith;
  }

-- ---- the instruction

module _ (M N : ℕ) (marks : List ℕ) (area : Area) (shown : List ℕ) (name : Naming) (h : Cells) (qs : List Indexical) (at : ℕ) (c : Registers)
    (stack : List Saved) (b : Branch) (m : Stands M N marks area shown name h qs at c stack b) where
  -- Whatever would make the cell such a term makes a variable of the store an atom or a compound term.
  abbrev pub IsNone : Cell → Name → ℕ → Type 0
  IsNone d f n = (back : Substitution) (us : Terms) → term_count us ≡ n → apply back (term_of name h d) ≡ Comp f us → (e : ℕ) × (k : ℕ) × IsLinked h e k × IsSymbolic (back e)

  pub step_get_structure : (f : AtomId) (n a : ℕ) → Holds area at (GetStructure f n a) → (d : Cell) × (c.x a ≡ Some d) × IsOf h d
      × ((cells : List Cell) → length cells ≡ n → term_of name h d ≡ Comp (name_of area f) (terms_by (term_of name h) cells) → AllOwn h cells
      → Reads M N marks area shown name h qs 0 (suc at) c cells stack b)
      × (IsNone d (name_of area f) n → (S : Family) → IsModel M N b.equations b.posted S → ⊥)
  step_get_structure f n a holds =
      let k = here M N marks area shown name h qs at c stack b m (GetStructure f n a) holds in
      let p = k.0 in
      let g = k.2 in
      let us = k.3.0 in
      let q = k.3.2 in
      let e = k.3.4 in
      let later = e.1 in
      let one = g.xs a e.0 e.2 in
      let name' = name_of area f in
      let made : Equation = record { left = e.0; right = Comp name' us } in
      let plain : IsPlain p b.fresh = (λ i t j. (g.xs i t j).2.known, λ i t j. (g.ys i t j).2.known) in
      let end = owed_after area b.fresh 0 (suc at) p us k.3.1 q plain k.3.3.1 in
      let more = made_after p q b.fresh end.1 in
      let low : (v : ℕ) → Made q b.fresh v → v < b.fresh + p.top = λ v i. elim i.1 [ inl l ↦ omega (arith, l) | inr l ↦ (let t = end.1.top in omega (arith, l, t)) ] in
      let low_us : AllOf (λ v. v < b.fresh + p.top) us = more_all (Made q b.fresh) (λ v. v < b.fresh + p.top) low us end.0 in
      let same : SaysSame (λ v. v < b.fresh) ((made ∷ g.done) ++ later) b.equations = moved_over (λ v. v < b.fresh) g.done later b.equations made
      (subst (λ l. SaysSame (λ v. v < b.fresh) (g.done ++ l) b.equations) e.3 g.same) in (
        one.0,
        one.1,
        one.2.own,
        (λ cells size there own.
            let counted : term_count us ≡ length cells = k.3.3.0 ∙ sym size in
            let o = opened_made M N marks name h qs m.returns stack b c p k.1 g e.0 one.0 one.2 name' cells there own us counted low_us in
            record {
              p = p;
              wide = wide M N marks name h qs m.returns stack b c p k.1 g e.0 one.0 one.2 name' cells there own us counted low_us;
              base = b.fresh + p.top;
              q = q;
              next = k.3.1;
              ts = us;
              sides = ghosts (b.fresh + p.top) (terms_by (term_of name h) cells);
              whole = made ∷ g.done;
              todo = later;
              returns = m.returns;
              after = m.after;
              made = o.0;
              cells = o.1;
              counted = counted ∙ sym (count_terms (term_of name h) cells) ∙ sym (count_ghosts (b.fresh + p.top) (terms_by (term_of name h) cells));
              wider = opened_wider M N marks name h qs m.returns stack b c p k.1 g e.0 one.0 one.2 name' cells there own us counted low_us;
              owed = k.3.3.1;
              ahead = record {
                same = same;
                made = ((more_of (Made p b.fresh) (Made q b.fresh) more e.0 one.2.known, end.0), more_each (Made p b.fresh) (Made q b.fresh) more g.done g.kept.stored.heap.scoped);
                plain = end.1.plain;
                saved = all_plain name h g.look (IsOld p b.fresh) (IsOld q b.fresh) (λ x i. (end.1.known x i.0, i.1)) b.fresh m.returns stack g.saved;
                own = (let i = end.1.own in let j = g.own in omega (arith, i, j));
                covered = λ v l t. end.1.known v (g.covered v l (let i = end.1.top in omega (arith, i, t)));
                used = g.used;
                scoped = g.scoped;
              };
              continues = m.continues;
              means = e.4;
              below = m.below;
              asked = m.asked;
            }),
        (λ none S j.
            let all = same_model M N (λ v. v < b.fresh) ((made ∷ g.done) ++ later) b.equations b.posted S same g.used j in
            kept_barred M N h qs g.done b.posted (Made p b.fresh) g.look g.kept e.0 (Comp name' us)
            (λ back v t i. none back (apply_all v us) (count_applied v us ∙ k.3.3.0) (ap (apply back) (sym one.2.value) ∙ sym (after_is back g.look e.0)
            ∙ agree (Made p b.fresh) (after back g.look) v t e.0 one.2.known ∙ i))
            S (weaker M N ((made ∷ g.done) ++ later) (made ∷ g.done) b.posted S (λ u i. (i.0, (split_both u g.done later i.1).0)) all)),
      )
