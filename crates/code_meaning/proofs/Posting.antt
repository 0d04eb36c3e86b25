-- One more range on a branch and on the store, where variables that it names may be integers: the store has a variable for each integer too.
use Rattle.std.proofs.Common.{◌≡◌, ℕ, true, false, cond, ◌==◌, ℤ, pos, negsuc, List, [], ◌∷◌, ◌++◌, Option, Some, refl, ap, sym, ◌∙◌, subst, inl, inr, ◌⊎◌}
use Rattle.std.proofs.Common.{eqb-true, eq-eqb}
use Rattle.std.proofs.lemmas.Bool.{cases_Bool, or_cases, or_left, or_right, true≢false}
use Rattle.std.proofs.lemmas.Option.{same_Some}
use Rattle.fd_language.specs.Term.{Term, Var, Int, Atom, Comp, Substitution, apply}
use Rattle.fd_language.specs.Unifier.{Equation, Unifies}
use Rattle.fd_language.specs.Family.{Family, has, IsFamily, IsSubset}
use Rattle.fd_language.specs.Range.{Indexical, set_of, reads}
use Rattle.fd_language.specs.RangeRenaming.{rename_range, rename_indexical}
use Rattle.fd_language.proofs.Lemmas.{identity, set_same}
use Rattle.fd_model.specs.ClosedFamilies.{constrained}
use Rattle.fd_model.specs.Models.{IsModel}
use Rattle.fd_model.proofs.Lemmas.{closed_without, posted_right, named_left, named_right, one_term, single_from}
use Rattle.branch_meaning.specs.Store.{Touch, Value, Same, touched, posts, next_slot, IsStored, names, shown_set, linked_set}
use Rattle.branch_meaning.proofs.Lemmas.{ungrown, front, by_shown, holds_agree, extended, set_term, set_term_int, as_equations, as_posts, pick, pick_named}
use Rattle.branch_meaning.proofs.Lemmas.{pick_other, pick_rising, new_or_old, one_left, one_back, slot_there, slot_back}

-- each touch says of a named variable's slot which integer the variable is
abbrev pub AreTold : Indexical → Substitution → (ℕ → ℕ) → List Touch → Type 0
AreTold p look f [] = Unit {0}
AreTold p look f (Value k z ∷ ts) = ((v : ℕ) × (has (names p) v ≡ true) × (f v ≡ k) × (look v ≡ Int z)) × AreTold p look f ts
AreTold p look f (Same k j ∷ ts) = ⊥

-- What a heap and a store supply for a range whose variables may be integers: f gives each named variable one of the store. An open cell is linked to it, an
-- integer has a new one, and the touches say of these which integers they are.
pub record IsSeenPosted (ps : List Indexical) (P : ℕ → Type 0) (look : Substitution) (link : ℕ → Option ℕ) (qs : List Indexical) (p : Indexical) (f : ℕ → ℕ)
    (link' : ℕ → Option ℕ) (ts : List Touch) : Type 0 where
  pub used : (v : ℕ) → has (names p) v ≡ true → P v
  pub kind : (v : ℕ) → has (names p) v ≡ true → ((c : ℕ) × (look v ≡ Var c) × (link' c ≡ Some (f v))) ⊎ ((z : ℤ) × (look v ≡ Int z) × (has (constrained qs) (f v) ≡ false))
  pub apart : (v w : ℕ) → has (names p) v ≡ true → has (names p) w ≡ true → f v ≡ f w → look v ≡ look w
  pub keep : (c k : ℕ) → link c ≡ Some k → link' c ≡ Some k
  pub fresh : (c k : ℕ) → link' c ≡ Some k → (link c ≡ Some k) ⊎ ((v : ℕ) × (has (names p) v ≡ true) × (look v ≡ Var c) × (has (constrained qs) k ≡ false))
  pub told : AreTold p look f ts
  pub all : (v : ℕ) (z : ℤ) → has (names p) v ≡ true → look v ≡ Int z → (u : Substitution) → Unifies u (touched ts) → u (f v) ≡ Int z

module _ (M N : ℕ) (es : List Equation) (ps : List Indexical) (P : ℕ → Type 0) (h : ℕ) (look : Substitution) (link : ℕ → Option ℕ) (slot : ℕ → ℕ)
    (qs : List Indexical) (st : IsStored M N es ps P h look link slot qs)
    (p : Indexical) (f : ℕ → ℕ) (link' : ℕ → Option ℕ) (ts : List Touch) (po : IsSeenPosted ps P look link qs p f link' ts) where
  abbrev pub seen_slot : ℕ → ℕ
  seen_slot = next_slot ps slot f

  abbrev Q : List Indexical
  Q = qs ++ rename_indexical f p ∷ []

  slot_old : (v : ℕ) → has (constrained ps) v ≡ true → seen_slot v ≡ slot v
  slot_old v c = ap (λ b. cond b (slot v) (f v)) c

  slot_new : (v : ℕ) → has (constrained ps) v ≡ false → seen_slot v ≡ f v
  slot_new v c = ap (λ b. cond b (slot v) (f v)) c

  named_in : (v : ℕ) → has (names p) v ≡ true → has (constrained (p ∷ ps)) v ≡ true
  named_in v c = named_left (p ∷ []) ps v (one_left p v c)

  -- a touched variable of the store is a named variable's
  touched_named : (us : List Touch) → AreTold p look f us → (k : ℕ) → has (constrained (posts us)) k ≡ true → (v : ℕ) × (has (names p) v ≡ true) × (f v ≡ k)
  touched_named [] t k c = absurd (true≢false (sym c))
  touched_named (Value j z ∷ us) t k c = elim (or_cases (j == k) (has (constrained (posts us)) k) c) [ inl e ↦ (t.0.0, t.0.1, t.0.2 ∙ eqb-true j k e) | inr e ↦ touched_named us t.1 k e ]
  touched_named (Same i j ∷ us) t k c = absurd t

  module _ (T : Family) (m : IsModel M N [] (Q ++ posts ts) T) where
    middle : IsModel M N [] Q T
    middle = front M N Q (posts ts) T m

    before : IsModel M N [] qs T
    before = front M N qs (rename_indexical f p ∷ []) T middle

    full_named : (v : ℕ) → has (names p) v ≡ true → (n : ℕ) × (has (T (f v)) n ≡ true)
    full_named v c = middle.full (f v) (named_right qs (rename_indexical f p ∷ []) (f v) (slot_there f p v c))

    says : Unifies (λ k. set_term (T k)) (touched ts)
    says = as_equations M T m.closed.family ts (λ k c. (let v = touched_named ts po.told k c in
        subst (λ j. (n : ℕ) × (has (T j) n ≡ true)) v.2 (full_named v.0 v.1)))
        (posted_right (λ q. IsSubset (T q.target) (set_of M T q.range)) Q (posts ts) m.closed.posted)

    -- an integer's variable of the store has that value
    number_set : (l : ℕ → Option ℕ) (v : ℕ) (z : ℤ) → has (names p) v ≡ true → look v ≡ Int z → shown_set l T (Int z) ≡ T (f v)
    number_set l v z c e =
        let one = set_term_int (T (f v)) z (po.all v z c e (λ k. set_term (T k)) says) in
        ap (shown_set l T) (ap Int (sym one.2)) ∙ sym one.1

    at_named : (v : ℕ) → has (names p) v ≡ true → T (seen_slot v) ≡ T (f v)
    at_named v c = elim (cases_Bool (has (constrained ps) v)) [
      | inl d ↦ elim (po.kind v c) [
        | inl w ↦
            let l = st.linked v w.0 d w.1 in
            let same : l.0 ≡ f v = same_Some l.0 (f v) (sym (po.keep w.0 l.0 l.1) ∙ w.2) in
            ap T (slot_old v d) ∙ sym (st.agrees T before v d) ∙ ap (shown_set link T) w.1 ∙ ap (λ o. linked_set o T) l.1 ∙ ap T same
        | inr w ↦ ap T (slot_old v d) ∙ sym (st.agrees T before v d) ∙ ap (shown_set link T) w.1 ∙ number_set link v w.0 c w.1
      ]
      | inr d ↦ ap T (slot_new v d)
    ]

    shown_more : (v : ℕ) (t : Term) → has (constrained ps) v ≡ true → look v ≡ t → shown_set link' T t ≡ shown_set link T t
    shown_more v (Var c) d e = let l = st.linked v c d e in ap (λ o. linked_set o T) (po.keep c l.0 l.1 ∙ sym l.1)
    shown_more v (Int (pos w)) d e = refl
    shown_more v (Int (negsuc w)) d e = refl
    shown_more v (Atom a) d e = refl
    shown_more v (Comp g us) d e = refl

    agrees_posted : (v : ℕ) → has (constrained (p ∷ ps)) v ≡ true → shown_set link' T (look v) ≡ T (seen_slot v)
    agrees_posted v c = elim (new_or_old p ps v c) [
      | inl d ↦ shown_more v (look v) d refl ∙ st.agrees T before v d ∙ sym (ap T (slot_old v d))
      | inr d ↦ elim (po.kind v (one_back p v d)) [
        | inl w ↦ ap (shown_set link' T) w.1 ∙ ap (λ o. linked_set o T) w.2 ∙ sym (at_named v (one_back p v d))
        | inr w ↦ ap (shown_set link' T) w.1 ∙ number_set link' v w.0 (one_back p v d) w.1 ∙ sym (at_named v (one_back p v d))
      ]
    ]

    down_posted : IsModel M N es (p ∷ ps) (λ v. T (seen_slot v))
    down_posted =
        let base = st.down T before in
        let last = posted_right (λ q. IsSubset (T q.target) (set_of M T q.range)) qs (rename_indexical f p ∷ []) middle.closed.posted in
        by_shown M N es (p ∷ ps) P h look link' T (λ v. T (seen_slot v)) st.heap (record { rising = λ v. m.closed.family.rising (seen_slot v) }) (
          subst (λ l. IsSubset l (set_of M (λ v. T (seen_slot v)) p.range)) (sym (at_named p.target (or_left (p.target == p.target) (has (reads p.range) p.target) (eq-eqb p.target p.target refl))))
              (subst (IsSubset (T (f p.target))) (set_same M f T (λ v. T (seen_slot v)) p.range (λ v c. sym (at_named v (or_right (p.target == v) (has (reads p.range) v) c)))) last.0),
          holds_agree M (λ v. T (seen_slot v)) (λ v. T (slot v)) ps (λ v c. ap T (slot_old v c)) base.closed.posted,
        )
        agrees_posted
        (λ v i c h. elim (new_or_old p ps v c) [
          | inl d ↦ base.closed.within v i d (subst (λ k. has (T k) i ≡ true) (slot_old v d) h)
          | inr d ↦ middle.closed.within (f v) i (named_right qs (rename_indexical f p ∷ []) (f v) (slot_there f p v (one_back p v d))) (subst (λ l. has l i ≡ true) (at_named v (one_back p v d)) h)
        ])
        (λ v c. elim (new_or_old p ps v c) [
          | inl d ↦ let g = base.full v d in (g.0, subst (λ k. has (T k) g.0 ≡ true) (sym (slot_old v d)) g.1)
          | inr d ↦ let g = full_named v (one_back p v d) in (g.0, subst (λ l. has l g.0 ≡ true) (sym (at_named v (one_back p v d))) g.1)
        ])

  module _ (S : Family) (m : IsModel M N es (p ∷ ps) S) where
    first : IsModel M N es ps S
    first = ungrown M N [] es (p ∷ []) ps S m

    -- variables that the heap shows as one term have one set
    shown_one : (v w : ℕ) → has (constrained (p ∷ ps)) v ≡ true → has (constrained (p ∷ ps)) w ≡ true → P v → P w → look v ≡ look w → S v ≡ S w
    shown_one v w c d a b e =
        let back = st.heap.through m.unifier m.general.unifies in
        one_term M N es (p ∷ ps) S m v w (m.unifier w) c d (sym (back.1 v a) ∙ ap (apply back.0) e ∙ back.1 w b) refl

    -- and where it is an integer, that value
    number_one : (v : ℕ) (z : ℤ) → has (names p) v ≡ true → look v ≡ Int z → set_term (S v) ≡ Int z
    number_one v z c e =
        let back = st.heap.through m.unifier m.general.unifies in
        let is : m.unifier v ≡ Int z = sym (back.1 v (po.used v c)) ∙ ap (apply back.0) e in
        let some = m.full v (named_in v c) in
        let value : pos some.0 ≡ z = m.closed.values v z some.0 (named_in v c) is some.1 in
        let one : S v ≡ some.0 ∷ [] = single_from 0 M some.0 (S v) (m.closed.family.rising v) some.1
        (λ i g. let a : pos i ≡ pos some.0 = m.closed.values v z i (named_in v c) is g ∙ sym value in cc) in
        ap set_term one ∙ ap Int value

    module _ (T : Family) (t : IsModel M N [] qs T) (equal : (v : ℕ) → has (constrained ps) v ≡ true → T (slot v) ≡ S v) where
      abbrev new_sets : Family
      new_sets = pick f S T (names p)

      at_slot : (v : ℕ) → has (names p) v ≡ true → new_sets (f v) ≡ S v
      at_slot v c = pick_named f S T (names p) v (λ w d e. shown_one w v (named_in w d) (named_in v c) (po.used w d) (po.used v c) (po.apart w v d c e)) c

      at_old : (k : ℕ) → has (constrained qs) k ≡ true → new_sets k ≡ T k
      at_old k c = pick_other f S T (names p) k (λ w d e. elim (po.kind w d) [
        | inl a ↦ elim (po.fresh a.0 (f w) a.2) [
          | inl l ↦
              let u = st.from a.0 (f w) l in
              shown_one w u.0 (named_in w d) (named_right (p ∷ []) ps u.0 u.1) (po.used w d) (st.used u.0 u.1) (a.1 ∙ sym u.2) ∙ sym (equal u.0 u.1) ∙ ap T (u.3 ∙ e)
          | inr l ↦ absurd (true≢false (sym (subst (λ j. has (constrained qs) j ≡ true) (sym e) c) ∙ l.3))
        ]
        | inr a ↦ absurd (true≢false (sym (subst (λ j. has (constrained qs) j ≡ true) (sym e) c) ∙ a.2))
      ])

      slot_set : (v : ℕ) → has (constrained (p ∷ ps)) v ≡ true → new_sets (seen_slot v) ≡ S v
      slot_set v c = elim (cases_Bool (has (constrained ps) v)) [
        | inl d ↦ ap new_sets (slot_old v d) ∙ at_old (slot v) (st.slots v d) ∙ equal v d
        | inr d ↦ elim (new_or_old p ps v c) [
          | inl g ↦ absurd (true≢false (sym g ∙ d))
          | inr g ↦ ap new_sets (slot_new v d) ∙ at_slot v (one_back p v g)
        ]
      ]

      told_hold : (us : List Touch) → AreTold p look f us → Unifies (λ k. set_term (new_sets k)) (touched us)
      told_hold [] a = tt
      told_hold (Value k z ∷ us) a = (let v = a.0 in ap set_term (ap new_sets (sym v.2) ∙ at_slot v.0 v.1) ∙ number_one v.0 z v.1 v.3, told_hold us a.1)
      told_hold (Same k j ∷ us) a = absurd a

      up_middle : IsModel M N [] Q new_sets
      up_middle =
          let fam : IsFamily M new_sets = pick_rising M f S T (names p) m.closed.family t.closed.family in
          let last = m.closed.posted in
          extended M N qs (rename_indexical f p ∷ []) new_sets
          (record {
            unifier = Var;
            general = identity;
            closed = closed_without M N qs new_sets fam (holds_agree M new_sets T qs at_old t.closed.posted) (λ k i c h. t.closed.within k i c (subst (λ l. has l i ≡ true) (at_old k c) h));
            full = λ k c. (let g = t.full k c in (g.0, subst (λ l. has l g.0 ≡ true) (sym (at_old k c)) g.1));
          }) (
            subst (λ l. IsSubset l (set_of M new_sets (rename_range f p.range)))
                (sym (at_slot p.target (or_left (p.target == p.target) (has (reads p.range) p.target) (eq-eqb p.target p.target refl))))
                (subst (IsSubset (S p.target)) (sym (set_same M f new_sets S p.range (λ v c. at_slot v (or_right (p.target == v) (has (reads p.range) v) c)))) last.0),
            tt,
          )
          (λ k i c h. (let v = slot_back f p k c in m.closed.within v.0 i (named_in v.0 v.1) (subst (λ l. has l i ≡ true) (at_slot v.0 v.1) (subst (λ j. has (new_sets j) i ≡ true) (sym v.2) h))))
          (λ k c. (let v = slot_back f p k c in let g = m.full v.0 (named_in v.0 v.1) in
          (g.0, subst (λ j. has (new_sets j) g.0 ≡ true) v.2 (subst (λ l. has l g.0 ≡ true) (sym (at_slot v.0 v.1)) g.1))))

      up_posted : IsModel M N [] (Q ++ posts ts) new_sets
      up_posted =
          extended M N Q (posts ts) new_sets up_middle (as_posts M new_sets up_middle.closed.family ts (told_hold ts po.told))
          (λ k i c h. (let v = touched_named ts po.told k c in
          m.closed.within v.0 i (named_in v.0 v.1) (subst (λ l. has l i ≡ true) (at_slot v.0 v.1) (subst (λ j. has (new_sets j) i ≡ true) (sym v.2) h))))
          (λ k c. (let v = touched_named ts po.told k c in let g = m.full v.0 (named_in v.0 v.1) in
          (g.0, subst (λ j. has (new_sets j) g.0 ≡ true) v.2 (subst (λ l. has l g.0 ≡ true) (sym (at_slot v.0 v.1)) g.1))))

  slots_posted : (v : ℕ) → has (constrained (p ∷ ps)) v ≡ true → has (constrained Q) (seen_slot v) ≡ true
  slots_posted v c = elim (cases_Bool (has (constrained ps) v)) [
    | inl d ↦ subst (λ k. has (constrained Q) k ≡ true) (sym (slot_old v d)) (named_left qs (rename_indexical f p ∷ []) (slot v) (st.slots v d))
    | inr d ↦ elim (new_or_old p ps v c) [
      | inl g ↦ absurd (true≢false (sym g ∙ d))
      | inr g ↦ subst (λ k. has (constrained Q) k ≡ true) (sym (slot_new v d)) (named_right qs (rename_indexical f p ∷ []) (f v) (slot_there f p v (one_back p v g)))
    ]
  ]

  no_open : (c : ℕ) (z : ℤ) → Int z ≡ Var c → ⊥
  no_open c z e = cc

  -- Heap and store stand for the branch with that range.
  pub seen_posted : IsStored M N es (p ∷ ps) P h look link' seen_slot (Q ++ posts ts)
  seen_posted = record {
    heap = st.heap;
    used = λ v c. elim (new_or_old p ps v c) [ inl d ↦ st.used v d | inr d ↦ po.used v (one_back p v d) ];
    down = down_posted;
    up = λ S m. (let t = st.up S (first S m) in (new_sets S m t.0 t.1 t.2, up_posted S m t.0 t.1 t.2, slot_set S m t.0 t.1 t.2));
    agrees = agrees_posted;
    slots = λ v c. named_left Q (posts ts) (seen_slot v) (slots_posted v c);
    linked = λ v c d e. elim (new_or_old p ps v d) [
      | inl g ↦ let l = st.linked v c g e in (l.0, po.keep c l.0 l.1)
      | inr g ↦ elim (po.kind v (one_back p v g)) [
        | inl w ↦ let a : Var w.0 ≡ Var c = sym w.1 ∙ e in let b : w.0 ≡ c = cc in (f v, subst (λ i. link' i ≡ Some (f v)) b w.2)
        | inr w ↦ absurd (no_open c w.0 (sym w.1 ∙ e))
      ]
    ];
    from = λ c k e. elim (po.fresh c k e) [
      | inl l ↦ let u = st.from c k l in (u.0, named_right (p ∷ []) ps u.0 u.1, u.2, slot_old u.0 u.1 ∙ u.3)
      | inr l ↦ elim (po.kind l.0 l.1) [
        | inl w ↦
            let a : Var w.0 ≡ Var c = sym w.1 ∙ l.2 in
            let b : w.0 ≡ c = cc in
            let g : f l.0 ≡ k = same_Some (f l.0) k (sym w.2 ∙ ap link' b ∙ e) in
            elim (cases_Bool (has (constrained ps) l.0)) [
              | inl d ↦
                  let o = st.linked l.0 c d l.2 in
                  let u = st.from c o.0 o.1 in
                  let same : o.0 ≡ k = same_Some o.0 k (sym (po.keep c o.0 o.1) ∙ e) in
                  (u.0, named_right (p ∷ []) ps u.0 u.1, u.2, slot_old u.0 u.1 ∙ u.3 ∙ same)
              | inr d ↦ (l.0, named_in l.0 l.1, l.2, slot_new l.0 d ∙ g)
            ]
        | inr w ↦ absurd (no_open c w.0 (sym w.1 ∙ l.2))
      ]
    ];
  }
