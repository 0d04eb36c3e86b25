-- A kept frame with each variable bound whose set has one value: the store is at rest then, and what is seen in the branch is what the frame shows.
use Rattle.std.proofs.Common.{◌≡◌, ◌≢◌, ℕ, zero, suc, ◌<◌, ◌≤◌, true, false, cond, nat_lt, ℤ, pos, List, [], ◌∷◌, Option, Some, None, refl, ap, sym, ◌∙◌, subst}
use Rattle.std.proofs.Common.{inl, inr, arith, eq-eqb, ne_eqb}
use Rattle.std.proofs.lemmas.Bool.{cases_Bool, cases_eq}
use Rattle.std.proofs.lemmas.Bool.Decides.{nat_tests}
use Rattle.fd_language.proofs.Lemmas.{apply_vars, after_is, number_for, number_at}
use Rattle.fd_model.proofs.Lemmas.{test_below}
use Rattle.fd_language.specs.Term.{Var, Substitution, apply}
use Rattle.fd_language.specs.Unifier.{Equation}
use Rattle.fd_language.specs.Family.{Family, has, IsInside}
use Rattle.fd_language.specs.Range.{Indexical}
use Rattle.fd_model.specs.ClosedFamilies.{constrained}
use Rattle.fd_model.specs.Models.{IsModel}
use Rattle.fd_model.specs.Goal.{Query}
use Rattle.heap_cells.specs.Cells.{Cells}
use Rattle.heap_cells.specs.Terms.{Naming}
use Rattle.heap_cells.specs.HeapInvariant.{IsHeap}
use Rattle.branch_meaning.specs.Heap.{after, Below}
use Rattle.fd_language.specs.SingleValues.{value_in, value_at}
use Rattle.branch_meaning.specs.HeldBranches.{HeldState, IsHeld, IsAtRest, open_link, link_at, fixed_held}
use Rattle.branch_meaning.proofs.Lemmas.{held_fix, functions, fixed_rest, sole_value, without_cell}
use Rattle.branch_lemmas.specs.Frames.{held_of, IsKept}
use Rattle.branch_lemmas.proofs.NewVariables.{unused_cell}

number_else : (i : ℕ) (z : ℤ) (c : ℕ) → c ≢ i → number_for i z c ≡ Var c
unfolding number_for
number_else i z c d = rw (ne_eqb c i d) refl

without_here : (i : ℕ) (link : ℕ → Option ℕ) → without_cell i link i ≡ None
unfolding without_cell
without_here i link = rw (eq-eqb i i refl) refl

without_else : (i : ℕ) (link : ℕ → Option ℕ) (c : ℕ) → c ≢ i → without_cell i link c ≡ link c
unfolding without_cell
without_else i link c d = rw (ne_eqb c i d) refl

kept_value : (i : ℕ) (z : ℤ) (c : ℕ) → c ≢ i → (xs : List ℕ) → apply (number_for i z) (value_in xs c) ≡ value_in xs c
kept_value i z c d [] = number_else i z c d
kept_value i z c d (w ∷ []) = refl
kept_value i z c d (w ∷ v ∷ ws) = number_else i z c d

kept_at : (i : ℕ) (z : ℤ) (c : ℕ) → c ≢ i → (o : Option ℕ) (G : Family) → apply (number_for i z) (value_at o G c) ≡ value_at o G c
kept_at i z c d None G = number_else i z c d
kept_at i z c d (Some k) G = kept_value i z c d (G k)

above_test : (c i : ℕ) → i ≤ c → nat_lt c i ≡ false
above_test c i l = grind (arith, nat_tests)

-- the new values up to i, and the old ones from there on
module _ {A : Type 0} (new old : ℕ → A) where
  abbrev to : ℕ → ℕ → A
  to i c = cond (nat_lt c i) (new c) (old c)

  to_low : (i c : ℕ) → c < i → to i c ≡ new c
  to_low i c l = ap (λ b. cond b (new c) (old c)) (test_below c i l)

  to_high : (i c : ℕ) → i ≤ c → to i c ≡ old c
  to_high i c l = ap (λ b. cond b (new c) (old c)) (above_test c i l)

  to_next : (i c : ℕ) → c ≢ i → to (suc i) c ≡ to i c
  to_next i c d = elim (cases_Bool (nat_lt c i)) [
    | inl e ↦ (let l : c < i = grind (arith, nat_tests) in to_low (suc i) c (omega (arith, l)) ∙ sym (to_low i c l))
    | inr e ↦ (let l : i ≤ c = grind (arith, nat_tests) in to_high (suc i) c (omega (arith, l, d)) ∙ sym (to_high i c l))
  ]

  -- where the i-th is the same by both
  to_same : (i : ℕ) → new i ≡ old i → (c : ℕ) → to (suc i) c ≡ to i c
  to_same i e c = elim (cases_eq c i) [
    | inl k ↦ to_low (suc i) c (omega (arith, k)) ∙ ap new k ∙ e ∙ ap old (sym k) ∙ sym (to_high i c (omega (arith, k)))
    | inr d ↦ to_next i c d
  ]

-- What holds of no binding and of each further one holds of all.
module _ (link : ℕ → Option ℕ) (G : Family) (X : Substitution → (ℕ → Option ℕ) → Type 0)
    (bind : (s : Substitution) (l : ℕ → Option ℕ) (c k w : ℕ) → l c ≡ Some k → G k ≡ w ∷ [] → link c ≡ Some k → X s l → X (after (number_for c (pos w)) s) (without_cell c l)) where
  abbrev value : Substitution
  value c = value_at (link c) G c

  abbrev left : ℕ → Option ℕ
  left c = link_at (link c) G

  moved : (s t : Substitution) (l m : ℕ → Option ℕ) → ((c : ℕ) → s c ≡ t c) → ((c : ℕ) → l c ≡ m c) → X s l → X t m
  moved s t l m e f x = subst (λ y. X y m) (functions e) (subst (X s) (functions f) x)

  next_value : (i k w : ℕ) → link i ≡ Some k → G k ≡ w ∷ [] → (c : ℕ) → after (number_for i (pos w)) (to value Var i) c ≡ to value Var (suc i) c
  next_value i k w e g c = elim (cases_eq c i) [
    | inl j ↦
        ap (apply (number_for i (pos w))) (to_high value Var i c (omega (arith, j))) ∙ ap (number_for i (pos w)) j ∙ number_at i (pos w)
        ∙ sym (ap value j ∙ ap (λ o. value_at o G i) e ∙ ap (λ xs. value_in xs i) g)
        ∙ sym (to_low value Var (suc i) c (omega (arith, j)))
    | inr d ↦ elim (cases_Bool (nat_lt c i)) [
      | inl t ↦ (let l : c < i = grind (arith, nat_tests) in
          ap (apply (number_for i (pos w))) (to_low value Var i c l) ∙ kept_at i (pos w) c d (link c) G ∙ sym (to_low value Var (suc i) c (omega (arith, l))))
      | inr t ↦ (let l : i ≤ c = grind (arith, nat_tests) in
          ap (apply (number_for i (pos w))) (to_high value Var i c l) ∙ number_else i (pos w) c d ∙ sym (to_high value Var (suc i) c (omega (arith, l, d))))
    ]
  ]

  next_left : (i k w : ℕ) → link i ≡ Some k → G k ≡ w ∷ [] → (c : ℕ) → without_cell i (to left link i) c ≡ to left link (suc i) c
  next_left i k w e g c = elim (cases_eq c i) [
    | inl j ↦
        ap (without_cell i (to left link i)) j ∙ without_here i (to left link i)
        ∙ sym (ap left j ∙ ap (λ o. link_at o G) e ∙ ap (λ xs. open_link xs k) g)
        ∙ sym (to_low left link (suc i) c (omega (arith, j)))
    | inr d ↦ without_else i (to left link i) c d ∙ sym (to_next left link i c d)
  ]

  same_next : (i : ℕ) → value i ≡ Var i → left i ≡ link i → X (to value Var i) (to left link i) → X (to value Var (suc i)) (to left link (suc i))
  same_next i e f x = moved (to value Var i) (to value Var (suc i)) (to left link i) (to left link (suc i)) (λ c. sym (to_same value Var i e c)) (λ c. sym (to_same left link i f c)) x

  by_set : (i k : ℕ) → link i ≡ Some k → (xs : List ℕ) → G k ≡ xs → X (to value Var i) (to left link i) → X (to value Var (suc i)) (to left link (suc i))
  by_set i k e [] g x = same_next i (ap (λ o. value_at o G i) e ∙ ap (λ l. value_in l i) g) (ap (λ o. link_at o G) e ∙ ap (λ l. open_link l k) g ∙ sym e) x
  by_set i k e (w ∷ []) g x =
      moved (after (number_for i (pos w)) (to value Var i)) (to value Var (suc i)) (without_cell i (to left link i)) (to left link (suc i)) (next_value i k w e g) (next_left i k w e g)
      (bind (to value Var i) (to left link i) i k w (to_high left link i i (omega arith) ∙ e) g e x)
  by_set i k e (w ∷ v ∷ ws) g x = same_next i (ap (λ o. value_at o G i) e ∙ ap (λ l. value_in l i) g) (ap (λ o. link_at o G) e ∙ ap (λ l. open_link l k) g ∙ sym e) x

  by_link : (i : ℕ) (o : Option ℕ) → link i ≡ o → X (to value Var i) (to left link i) → X (to value Var (suc i)) (to left link (suc i))
  by_link i None e x = same_next i (ap (λ o. value_at o G i) e) (ap (λ o. link_at o G) e ∙ sym e) x
  by_link i (Some k) e x = by_set i k e (G k) refl x

  first_bound : (i : ℕ) → X Var link → X (to value Var i) (to left link i)
  first_bound zero x = moved Var (to value Var 0) link (to left link 0) (λ c. sym (to_high value Var 0 c (omega arith))) (λ c. sym (to_high left link 0 c (omega arith))) x
  first_bound (suc i) x = by_link i (link i) refl (first_bound i x)

  pub all_bound : (n : ℕ) → ((c : ℕ) → n ≤ c → link c ≡ None) → X Var link → X value left
  all_bound n none x = moved (to value Var n) value (to left link n) left
      (λ c. elim (cases_Bool (nat_lt c n)) [
        | inl t ↦ (let l : c < n = grind (arith, nat_tests) in to_low value Var n c l)
        | inr t ↦ (let l : n ≤ c = grind (arith, nat_tests) in to_high value Var n c l ∙ sym (ap (λ o. value_at o G c) (none c l)))
      ])
      (λ c. elim (cases_Bool (nat_lt c n)) [
        | inl t ↦ (let l : c < n = grind (arith, nat_tests) in to_low left link n c l)
        | inr t ↦ (let l : n ≤ c = grind (arith, nat_tests) in to_high left link n c l ∙ none c l ∙ sym (ap (λ o. link_at o G) (none c l)))
      ])
      (first_bound n x)

-- no variable is bound for its set
no_link : (o : Option ℕ) → ((k : ℕ) → o ≡ Some k → ⊥) → o ≡ None
no_link None h = refl
no_link (Some k) h = absurd (h k refl)

module _ (M N : ℕ) (name : Naming) (h : Cells) (valid : IsHeap h) (qs : List Indexical) (es : List Equation) (ps : List Indexical) (P : ℕ → Type 0)
    (look : Substitution) (s : IsKept M N h qs es ps P look) where
  abbrev f : HeldState
  f = held_of name h qs

  -- a kept frame is one of the machine relation, where nothing is fixed
  pub kept_held : IsHeld M N f es ps P look
  kept_held = record { slot = s.slot; fixed = []; unused = unused_cell name h valid; stored = s.stored; sure = tt }

  module _ (G : Family) (most : (R : Family) → IsModel M N [] qs R → IsInside R G) where
    -- each variable's integer where its set has one value
    abbrev pub settled_look : Substitution
    settled_look = after (λ c. value_at (f.link c) G c) look

    abbrev at : Substitution → (ℕ → Option ℕ) → HeldState
    at t l = record { heap = after t f.heap; cells = f.cells; link = l; store = f.store }

    abbrev Holds : Substitution → (ℕ → Option ℕ) → Type 0
    Holds t l = IsHeld M N (at t l) es ps P (after t look)

    sole : (c k w : ℕ) → f.link c ≡ Some k → G k ≡ w ∷ [] → (T : Family) → IsModel M N [] qs T → T k ≡ w ∷ []
    sole c k w e g T m = let v = s.stored.from c k e in sole_value M N qs G most k w (subst (λ j. has (constrained qs) j ≡ true) v.3 (s.stored.slots v.0 v.1)) g T m

    bind : (t : Substitution) (l : ℕ → Option ℕ) (c k w : ℕ) → l c ≡ Some k → G k ≡ w ∷ [] → f.link c ≡ Some k → Holds t l → Holds (after (number_for c (pos w)) t) (without_cell c l)
    bind t l c k w e g i x =
        let n = number_for c (pos w) in
        let one = held_fix M N (at t l) es ps P (after t look) x c k w e (sole c k w i g) in
        let heaps : after n (after t f.heap) ≡ after (after n t) f.heap = functions (λ d. sym (after_is n t (f.heap d))) in
        let looks : after n (after t look) ≡ after (after n t) look = functions (λ v. sym (after_is n t (look v))) in
        subst (λ u. IsHeld M N (record { heap = u; cells = f.cells; link = without_cell c l; store = f.store }) es ps P (after (after n t) look)) heaps
        (subst (IsHeld M N (record { heap = after n (after t f.heap); cells = f.cells; link = without_cell c l; store = f.store }) es ps P) looks one)

    none_behind : (c : ℕ) → f.cells ≤ c → f.link c ≡ None
    none_behind c l = no_link (f.link c) (λ k e. (let v = s.stored.from c k e in
        let low : c < f.cells = subst (Below f.cells) v.2 (s.stored.heap.cells v.0 (s.stored.used v.0 v.1)) in omega (arith, l, low)))

    start : Holds Var f.link
    start = subst (λ u. IsHeld M N (record { heap = u; cells = f.cells; link = f.link; store = f.store }) es ps P (after Var look)) (functions (λ c. sym (apply_vars (f.heap c))))
        (subst (IsHeld M N f es ps P) (functions (λ v. sym (apply_vars (look v)))) kept_held)

    -- The frame with these variables bound stands for the same branch.
    pub settled_held : IsHeld M N (fixed_held f G) es ps P settled_look
    settled_held = all_bound f.link G Holds bind f.cells none_behind start

    -- and its store is at rest
    pub settled_rest : (q : Query) → IsModel M N [] qs G → IsAtRest M N (fixed_held f G) G
    settled_rest q = fixed_rest M N q f G most
