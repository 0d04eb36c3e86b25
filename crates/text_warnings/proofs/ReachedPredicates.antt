-- The predicates that queries reach, by their numbers.
use Rattle.std.proofs.Common.{◌≡◌, ℕ, ◌<◌, ◌≤◌, ◌⊎◌, inl, inr, Bool, true, false, cond, List, [], ◌∷◌, Option, Some, None, length, map, get_or, refl, sym, ap}
use Rattle.std.proofs.Common.{ap₂, ◌∙◌, subst, true≢false}
use Rattle.std.specs.Prelude.{◌↔◌, ◌&&◌, nat_eq, position}
use Rattle.std.specs.List.{list_any, flat_map, cons_option, AllByRecursion}
use Rattle.std.proofs.lemmas.Bool.{and_parts, eqb-true, eq-eqb, cases_lt}
use Rattle.std.proofs.lemmas.List.{get_or_past}
use Rattle.std.proofs.lemmas.List.Folds.{list_any-append}
use Rattle.std.proofs.lemmas.List.Quantifiers.{position-Some}
use Rattle.fd_model.specs.Refusals as refusals
use Rattle.fd_model.specs.Refusals.{same_functor}
use Rattle.term_pool.specs.Contents.{Contents}
use Rattle.term_pool.specs.PoolInvariant.{IsPool}
use Rattle.text_warnings.specs.declared.terms.Functor.{Functor}
use Rattle.text_warnings.specs.declared.clauses.Clause.{Clause}
use Rattle.text_warnings.specs.Terms.{functor_in, same_numbers}
use Rattle.text_warnings.specs.Clauses.{is_among, calls_through, IsReachedFrom, by_query, by_clause}
use Rattle.text_warnings.specs.WarningViews.{key_of, body_calls, clause_in}
use Rattle.text_warnings.specs.Graphs.{number_in, numbers_in, is_at, edges_by, leads_to, is_in, is_number_in, AreKeys, AreBelow, AreEdges, AreLed, IsLed}
use Rattle.text_warnings.specs.Graphs.{at_first, by_edge}
use Rattle.text_warnings.proofs.Functors.{equal_functor, same_functor_itself, number_same, position_found, same_itself}
use Rattle.text_warnings.proofs.ReachedNumbers.{or_cases, or_left, or_right}

module _ (c : Contents) (keys : List Functor) where
  -- the predicate with a number
  abbrev pub named : ℕ → refusals.Functor
  named n = functor_in c (get_or keys n (record { name = record { number = 0 }; arity = 0 }))

  -- a predicate has its number
  pub number_means : (f : refusals.Functor) (n : ℕ) → number_in c keys f ≡ Some n → (n < length keys) × (f ≡ named n)
  number_means f n e =
      let found = position-Some (λ g. same_functor f (functor_in c g)) keys n (record { name = record { number = 0 }; arity = 0 }) e in
      (found.0, equal_functor f (named n) found.1)

  -- ---- the numbers of functors

  in_cons : (o : Option ℕ) (ns : List ℕ) (n : ℕ) → is_in (cons_option o ns) n ≡ true → (o ≡ Some n) ⊎ (is_in ns n ≡ true)
  in_cons None ns n e = inr e
  in_cons (Some m) ns n e = elim (or_cases (nat_eq n m) (is_in ns n) e) [ inl h ↦ inl (ap (λ k. Some k) (sym (eqb-true n m h))) | inr h ↦ inr h ]

  cons_later : (o : Option ℕ) (ns : List ℕ) (n : ℕ) → is_in ns n ≡ true → is_in (cons_option o ns) n ≡ true
  cons_later None ns n e = e
  cons_later (Some m) ns n e = or_right (nat_eq n m) (is_in ns n) e

  -- a number among those of functors is that of one of them
  pub numbers_mean : (fs : List refusals.Functor) (n : ℕ) → is_in (numbers_in c keys fs) n ≡ true → (n < length keys) × (is_among fs (named n) ≡ true)
  numbers_mean [] n e = absurd (true≢false (sym e))
  numbers_mean (f ∷ fs) n e = elim (in_cons (number_in c keys f) (numbers_in c keys fs) n e) [
    | inl h ↦
        let means = number_means f n h in
        (means.0, or_left (same_functor (named n) f) (is_among fs (named n)) (ap (same_functor (named n)) means.1 ∙ same_functor_itself (named n)))
    | inr h ↦ let rest = numbers_mean fs n h in (rest.0, or_right (same_functor (named n) f) (is_among fs (named n)) rest.1)
  ]

  -- and that of each of them is among them
  pub numbers_have : (fs : List refusals.Functor) (f : refusals.Functor) (n : ℕ) → is_among fs f ≡ true → number_in c keys f ≡ Some n → is_in (numbers_in c keys fs) n ≡ true
  numbers_have [] f n e h = absurd (true≢false (sym e))
  numbers_have (g ∷ gs) f n e h = elim (or_cases (same_functor f g) (is_among gs f) e) [
    | inl k ↦
        let own : number_in c keys g ≡ Some n = ap (number_in c keys) (sym (equal_functor f g k)) ∙ h in
        ap (λ (o : Option ℕ). is_in (cons_option o (numbers_in c keys gs)) n) own ∙ or_left (nat_eq n n) (is_in (numbers_in c keys gs) n) (eq-eqb n n refl)
    | inr k ↦ cons_later (number_in c keys g) (numbers_in c keys gs) n (numbers_have gs f n k h)
  ]

  pub numbers_below : (fs : List refusals.Functor) → AreBelow (length keys) (numbers_in c keys fs)
  numbers_below fs = λ n e. (numbers_mean fs n e).0

  -- ---- the predicates

  module _ (valid : IsPool c) (own : AllByRecursion (λ g. g.name.number < length c.names) keys) where
    -- the number of a clause's predicate, by the numbers of names
    at_number : (k : Clause) (n : ℕ) → k.functor.name.number < length c.names → is_at n (position (same_numbers k.functor) keys) ≡ true → number_in c keys (functor_in c k.functor) ≡ Some n
    at_number k n h e = sym (number_same c valid keys k.functor h own) ∙ by (position (same_numbers k.functor) keys) e
      where
        by : (o : Option ℕ) → is_at n o ≡ true → o ≡ Some n
        by None e = absurd (true≢false (sym e))
        by (Some m) e = ap (λ j. Some j) (eqb-true m n e)

    -- what a clause of the predicate m calls
    edge_means : (k : Clause) (m n : ℕ) → k.functor.name.number < length c.names → is_in (edges_by c keys m k) n ≡ true
        → (number_in c keys (functor_in c k.functor) ≡ Some m) × (is_in (numbers_in c keys (body_calls c k.body)) n ≡ true)
    edge_means k m n h e = by (is_at m (position (same_numbers k.functor) keys)) refl e
      where
        by : (b : Bool) → is_at m (position (same_numbers k.functor) keys) ≡ b → is_in (cond b (numbers_in c keys (body_calls c k.body)) []) n ≡ true
            → (number_in c keys (functor_in c k.functor) ≡ Some m) × (is_in (numbers_in c keys (body_calls c k.body)) n ≡ true)
        by true t f = (at_number k m h t, f)
        by false t f = absurd (true≢false (sym f))

    edges_mean : (ks : List Clause) (m n : ℕ) → AllByRecursion (λ k. k.functor.name.number < length c.names) ks → is_in (flat_map (edges_by c keys m) ks) n ≡ true
        → (n < length keys) × (calls_through (map (clause_in c) ks) (named m) (named n) ≡ true)
    edges_mean [] m n all e = absurd (true≢false (sym e))
    edges_mean (k ∷ ks) m n all e =
        elim (or_cases (is_in (edges_by c keys m k) n) (is_in (flat_map (edges_by c keys m) ks) n) (sym (list_any-append (nat_eq n) (edges_by c keys m k) (flat_map (edges_by c keys m) ks)) ∙ e)) [
          | inl h ↦
              let edge = edge_means k m n all.0 h in
              let calls = numbers_mean (body_calls c k.body) n edge.1 in
              let head : same_functor (named m) (functor_in c k.functor) ≡ true = ap (same_functor (named m)) (number_means (functor_in c k.functor) m edge.0).1 ∙ same_functor_itself (named m) in (
                calls.0,
                or_left (same_functor (named m) (functor_in c k.functor) && is_among (body_calls c k.body) (named n))
                    (calls_through (map (clause_in c) ks) (named m) (named n)) (ap₂ (λ (a b : Bool). a && b) head calls.1),
              )
          | inr h ↦
              let rest = edges_mean ks m n all.1 h in
              (rest.0, or_right (same_functor (named m) (functor_in c k.functor) && is_among (body_calls c k.body) (named n)) (calls_through (map (clause_in c) ks) (named m) (named n)) rest.1)
        ]

    edges_have : (ks : List Clause) (g f : refusals.Functor) (m n : ℕ) → AllByRecursion (λ k. k.functor.name.number < length c.names) ks → calls_through (map (clause_in c) ks) g f ≡ true
        → number_in c keys g ≡ Some m → number_in c keys f ≡ Some n → is_in (flat_map (edges_by c keys m) ks) n ≡ true
    edges_have [] g f m n all e a b = absurd (true≢false (sym e))
    edges_have (k ∷ ks) g f m n all e a b =
        list_any-append (nat_eq n) (edges_by c keys m k) (flat_map (edges_by c keys m) ks)
        ∙ elim (or_cases (same_functor g (functor_in c k.functor) && is_among (body_calls c k.body) f) (calls_through (map (clause_in c) ks) g f) e) [
          | inl h ↦
              let both = and_parts (same_functor g (functor_in c k.functor)) (is_among (body_calls c k.body) f) h in
              let at : position (same_numbers k.functor) keys ≡ Some m = number_same c valid keys k.functor all.0 own
              ∙ ap (number_in c keys) (sym (equal_functor g (functor_in c k.functor) both.0)) ∙ a in
              let here : is_at m (position (same_numbers k.functor) keys) ≡ true = ap (is_at m) at ∙ eq-eqb m m refl in
              or_left (is_in (edges_by c keys m k) n) (is_in (flat_map (edges_by c keys m) ks) n)
              (ap (λ (t : Bool). is_in (cond t (numbers_in c keys (body_calls c k.body)) []) n) here ∙ numbers_have (body_calls c k.body) f n both.1 b)
          | inr h ↦ or_right (is_in (edges_by c keys m k) n) (is_in (flat_map (edges_by c keys m) ks) n) (edges_have ks g f m n all.1 h a b)
        ]

    pub edges_below : (ks : List Clause) (m : ℕ) → AllByRecursion (λ k. k.functor.name.number < length c.names) ks → AreBelow (length keys) (flat_map (edges_by c keys m) ks)
    edges_below ks m all = λ n e. (edges_mean ks m n all e).0

    pub all_below : (ks : List Clause) (edges : List (List ℕ)) → AreEdges c keys ks edges → AllByRecursion (λ k. k.functor.name.number < length c.names) ks
        → (n : ℕ) → AreBelow (length keys) (leads_to edges n)
    all_below ks edges e all n = by (cases_lt n (length edges))
      where
        by : (n < length edges) ⊎ (length edges ≤ n) → AreBelow (length keys) (leads_to edges n)
        by (inl h) = subst (AreBelow (length keys)) (sym (e.each n h)) (edges_below ks n all)
        by (inr h) = subst (AreBelow (length keys)) (sym (get_or_past edges n [] h)) (λ m f. absurd (true≢false (sym f)))

    find_number : (f : refusals.Functor) (us : List Clause) → AllByRecursion (λ k. k.functor.name.number < length c.names) us → list_any (λ k. same_functor f (functor_in c k.functor)) us ≡ true
        → ((g : Functor) → list_any (same_numbers g) (map key_of us) ≡ true → list_any (same_numbers g) keys ≡ true) → (n : ℕ) × (number_in c keys f ≡ Some n)
    find_number f [] mine e into = absurd (true≢false (sym e))
    find_number f (u ∷ us) mine e into = elim (or_cases (same_functor f (functor_in c u.functor)) (list_any (λ k. same_functor f (functor_in c k.functor)) us) e) [
      | inl h ↦
          let there = into u.functor (or_left (same_numbers u.functor u.functor) (list_any (same_numbers u.functor) (map key_of us)) (same_itself u.functor)) in
          let at = position_found (same_numbers u.functor) keys there in
          (at.0, ap (number_in c keys) (equal_functor f (functor_in c u.functor) h) ∙ sym (number_same c valid keys u.functor mine.0 own) ∙ at.1)
      | inr h ↦ find_number f us mine.1 h (λ g k. into g (or_right (same_numbers g u.functor) (list_any (same_numbers g) (map key_of us)) k))
    ]

    -- each predicate of a clause has a number
    pub has_number : (ks : List Clause) (f : refusals.Functor) → AreKeys ks keys → AllByRecursion (λ k. k.functor.name.number < length c.names) ks
        → list_any (λ k. same_functor f (functor_in c k.functor)) ks ≡ true
        → (n : ℕ) × (number_in c keys f ≡ Some n)
    has_number ks f known all e = find_number f ks all e (λ g h. known g ∙ h)

    callers : (g f : refusals.Functor) (us : List Clause) → calls_through (map (clause_in c) us) g f ≡ true → list_any (λ u. same_functor g (functor_in c u.functor)) us ≡ true
    callers g f [] h = absurd (true≢false (sym h))
    callers g f (u ∷ us) h = elim (or_cases (same_functor g (functor_in c u.functor) && is_among (body_calls c u.body) f) (calls_through (map (clause_in c) us) g f) h) [
      | inl k ↦ or_left (same_functor g (functor_in c u.functor)) (list_any (λ u. same_functor g (functor_in c u.functor)) us)
          (and_parts (same_functor g (functor_in c u.functor)) (is_among (body_calls c u.body) f) k).0
      | inr k ↦ or_right (same_functor g (functor_in c u.functor)) (list_any (λ u. same_functor g (functor_in c u.functor)) us) (callers g f us k)
    ]

    -- what is reached by numbers is reached
    module _ (asked : List refusals.Functor) (ks : List Clause) (edges : List (List ℕ)) (all : AllByRecursion (λ k. k.functor.name.number < length c.names) ks)
        (e : AreEdges c keys ks edges) (known : AreKeys ks keys) where
      led_means : (n : ℕ) → IsLed (numbers_in c keys asked) edges n → (n < length keys) × IsReachedFrom asked (map (clause_in c) ks) (named n)
      led_means n (at_first h) = let means = numbers_mean asked n h in (means.0, by_query means.1)
      led_means n (by_edge {m = m} h k) =
          let before = led_means m h in
          let edge = edges_mean ks m n all (ap (λ (l : List ℕ). is_in l n) (sym (e.each m (subst (λ i. m < i) (sym e.count) before.0))) ∙ k) in
          (edge.0, by_clause before.1 edge.1)

      led_has : (f : refusals.Functor) → IsReachedFrom asked (map (clause_in c) ks) f → (n : ℕ) → number_in c keys f ≡ Some n → IsLed (numbers_in c keys asked) edges n
      led_has f (by_query h) n k = at_first (numbers_have asked f n h k)
      led_has f (by_clause {g = g} h k) n l =
          let mine = has_number ks g known all (callers g f ks k) in
          let inside = (number_means g mine.0 mine.1).0 in
          by_edge (led_has g h mine.0 mine.1)
          (ap (λ (l : List ℕ). is_in l n) (e.each mine.0 (subst (λ i. mine.0 < i) (sym e.count) inside)) ∙ edges_have ks g f mine.0 n all k mine.1 l)

      -- A predicate with a clause is reached exactly where its number is.
      pub reached_as_led : (ns : List ℕ) → AreLed (numbers_in c keys asked) edges ns → (f : refusals.Functor) → list_any (λ k. same_functor f (functor_in c k.functor)) ks ≡ true
          → (is_number_in ns (number_in c keys f) ≡ true) ↔ IsReachedFrom asked (map (clause_in c) ks) f
      reached_as_led ns led f has =
          let mine = has_number ks f known all has in
          let means = number_means f mine.0 mine.1 in (
            λ h. subst (IsReachedFrom asked (map (clause_in c) ks)) (sym means.1) (led_means mine.0 ((led mine.0).0 (ap (is_number_in ns) (sym mine.1) ∙ h))).1,
            λ h. ap (is_number_in ns) mine.1 ∙ (led mine.0).1 (led_has f h mine.0 mine.1),
          )
