-- What follows for a heap and a store that stand for a branch.
use Rattle.std.proofs.Common.{◌≤◌, ◌≡◌, ◌≢◌, ℕ, Bool, true, false, cond, ◌==◌, ℤ, pos, List, [], ◌∷◌, ◌++◌, Option, Some, None, refl, ap, sym, ◌∙◌, subst, inl}
use Rattle.std.proofs.Common.{inr, eqb-true, eq-eqb, ne_eqb}
use Rattle.std.proofs.lemmas.Bool.{cases_eq, or_cases, or_left, true≢false}
use Rattle.fd_language.specs.Term.{Var, Int, Substitution}
use Rattle.fd_language.specs.Unifier.{Equation, IsMostGeneral}
use Rattle.fd_language.specs.Family.{Family, has, IsSubset, IsInside}
use Rattle.fd_language.specs.Range.{Indexical, set_of}
use Rattle.fd_model.specs.ClosedFamilies.{constrained}
use Rattle.fd_language.proofs.Lemmas.{rising_same, identity, number_for, number_at}
use Rattle.fd_model.proofs.Lemmas.{closed_without, posted_both, constrained_either, single_from, only_member}
use Rattle.fd_model.specs.Children.{is_number}
use Rattle.fd_model.specs.Models.{IsModel}
use Rattle.branch_meaning.specs.Heap.{after, applied_each, Below, EquationsOf}
use Rattle.branch_meaning.specs.Models.{Sure}
use Rattle.branch_meaning.specs.Store.{Value, posts, IsUnified, IsStored}
use Rattle.branch_meaning.proofs.Models.{front, number_general}
use Rattle.branch_meaning.proofs.TouchedValues.{unified, Holds, as_posts, set_term}

module _ (M N : ℕ) (es : List Equation) (ps : List Indexical) (P : ℕ → Type 0) (h : ℕ) (look : Substitution) (link : ℕ → Option ℕ) (slot : ℕ → ℕ)
    (qs : List Indexical) (st : IsStored M N es ps P h look link slot qs) where
  -- the greatest families of both have the same sets
  pub same_sets : (S T : Family) → IsModel M N es ps S → ((R : Family) → IsModel M N es ps R → IsInside R S) → IsModel M N [] qs T
      → ((R : Family) → IsModel M N [] qs R → IsInside R T) → (v : ℕ) → has (constrained ps) v ≡ true → S v ≡ T (slot v)
  same_sets S T a most b largest v c =
      let up = st.up S a in
      rising_same 0 M (S v) (T (slot v)) (a.closed.family.rising v) (b.closed.family.rising (slot v))
      (subst (λ l. IsSubset l (T (slot v))) (up.2 v c) ((largest up.0 up.1).at (slot v)))
      ((most (λ w. T (slot w)) (st.down T b)).at v)

  -- other ranges with the same models
  pub same_store : (rs : List Indexical) → ((k : ℕ) → has (constrained qs) k ≡ true → has (constrained rs) k ≡ true)
      → ((T : Family) → IsModel M N [] qs T → IsModel M N [] rs T) → ((T : Family) → IsModel M N [] rs T → IsModel M N [] qs T)
      → IsStored M N es ps P h look link slot rs
  same_store rs more there back = record {
    heap = st.heap;
    used = st.used;
    down = λ T m. st.down T (back T m);
    up = λ S m. (let t = st.up S m in (t.0, there t.0 t.1, t.2));
    agrees = λ T m. st.agrees T (back T m);
    slots = λ v c. more (slot v) (st.slots v c);
    linked = st.linked;
    from = st.from;
  }

-- a model of the store that meets more ranges
pub extended : (M N : ℕ) (qs rs : List Indexical) (T : Family) → IsModel M N [] qs T → Holds M T rs
    → ((k i : ℕ) → has (constrained rs) k ≡ true → has (T k) i ≡ true → i ≤ N) → ((k : ℕ) → has (constrained rs) k ≡ true → (i : ℕ) × (has (T k) i ≡ true))
    → IsModel M N [] (qs ++ rs) T
extended M N qs rs T m holds low full = record {
  unifier = Var;
  general = identity;
  closed = closed_without M N (qs ++ rs) T m.closed.family (posted_both (λ p. IsSubset (T p.target) (set_of M T p.range)) qs rs m.closed.posted holds)
      (λ k i c h. elim (constrained_either qs rs k c) [ inl a ↦ m.closed.within k i a h | inr a ↦ low k i a h ]);
  full = λ k c. elim (constrained_either qs rs k c) [ inl a ↦ m.full k a | inr a ↦ full k a ];
}

-- where the store's greatest model gives k one value, each model does
pub sole_value : (M N : ℕ) (qs : List Indexical) (G : Family) → ((R : Family) → IsModel M N [] qs R → IsInside R G) → (k w : ℕ) → has (constrained qs) k ≡ true
    → G k ≡ w ∷ [] → (T : Family) → IsModel M N [] qs T → T k ≡ w ∷ []
sole_value M N qs G most k w c e T m =
    let only : (i : ℕ) → has (T k) i ≡ true → i ≡ w = λ i j. sym (only_member w i (subst (λ l. has l i ≡ true) e (((most T m).at k).each i j))) in
    let some = m.full k c in
    single_from 0 M w (T k) (m.closed.family.rising k) (subst (λ i. has (T k) i ≡ true) (only some.0 some.1) some.1) only

-- without one cell
unfoldable pub without_cell : ℕ → (ℕ → Option ℕ) → ℕ → Option ℕ
without_cell c link d = cond (d == c) None (link d)

without_case : (b : Bool) (o : Option ℕ) (j : ℕ) → cond b None o ≡ Some j → (b ≡ false) × (o ≡ Some j)
without_case true o j e = absurd (cc)
without_case false o j e = (refl, e)

-- the machine binds a variable whose set has one value
module _ (M N : ℕ) (es : List Equation) (ps : List Indexical) (P : ℕ → Type 0) (h : ℕ) (look : Substitution) (link : ℕ → Option ℕ) (slot : ℕ → ℕ)
    (qs : List Indexical) (st : IsStored M N es ps P h look link slot qs)
    (c k w : ℕ) (linked : link c ≡ Some k) (one : (T : Family) → IsModel M N [] qs T → T k ≡ w ∷ []) where
  pub number_other : (d : ℕ) → d ≢ c → number_for c (pos w) d ≡ Var d
  unfolding number_for
  number_other d e = let f : (d == c) ≡ false = ne_eqb d c e in rw f refl

  without_other : (d j : ℕ) → d ≢ c → link d ≡ Some j → without_cell c link d ≡ Some j
  unfolding without_cell
  without_other d j e g = let f : (d == c) ≡ false = ne_eqb d c e in rw f g

  without_from : (d j : ℕ) → without_cell c link d ≡ Some j → (d ≢ c) × (link d ≡ Some j)
  unfolding without_cell
  without_from d j e = let f = without_case (d == c) (link d) j e in ((λ g. true≢false (sym (eq-eqb d c g) ∙ f.0)), f.1)

  same_slot : (j : ℕ) → link c ≡ Some j → j ≡ k
  same_slot j e = let f : Some j ≡ Some k = sym e ∙ linked in cc

  not_int : (d : ℕ) (z : ℤ) → number_for c (pos w) d ≡ Int z → (d ≡ c) × (z ≡ pos w)
  not_int d z e = elim (cases_eq d c) [
    | inl f ↦ (f, let g : Int z ≡ Int (pos w) = sym e ∙ ap (number_for c (pos w)) f ∙ number_at c (pos w) in let r : z ≡ pos w = cc in r)
    | inr f ↦ absurd (let g : Var d ≡ Int z = sym (number_other d f) ∙ e in cc)
  ]

  not_var : (d i : ℕ) → number_for c (pos w) d ≡ Var i → (d ≢ c) × (i ≡ d)
  not_var d i e = elim (cases_eq d c) [
    | inl f ↦ absurd (let g : Int (pos w) ≡ Var i = sym (number_at c (pos w)) ∙ ap (number_for c (pos w)) (sym f) ∙ e in cc)
    | inr f ↦ (f, let g : Var i ≡ Var d = sym e ∙ number_other d f in let r : i ≡ d = cc in r)
  ]

  by_number : (x : ℕ) → look x ≡ Var c → IsUnified h link (applied_each look (is_number x w ∷ [])) (number_for c (pos w)) (without_cell c link) (Value k (pos w) ∷ [])
  by_number x e = record {
    general = subst (λ t. IsMostGeneral (record { left = t; right = Int (pos w) } ∷ []) (number_for c (pos w))) (sym e) (number_general c (pos w));
    cells = λ d l. elim (cases_eq d c) [
      | inl f ↦ subst (Below h) (sym (ap (number_for c (pos w)) f ∙ number_at c (pos w))) tt
      | inr f ↦ subst (Below h) (sym (number_other d f)) l
    ];
    still = λ d j f. (let g = without_from d j f in (g.1, number_other d g.0));
    plain = λ d j f. elim (cases_eq d c) [
      | inl g ↦ inl (pos w, ap (number_for c (pos w)) g ∙ number_at c (pos w))
      | inr g ↦ inr (d, j, number_other d g, without_other d j g f)
    ];
    named = λ j f. (c, elim (or_cases (k == j) false f) [ inl g ↦ linked ∙ ap Some (eqb-true k j g) | inr g ↦ absurd (true≢false (sym g)) ]);
    follow = λ a ints pairs. (ints c k (pos w) linked (number_at c (pos w)), tt);
    values = λ a u d j z f g. (let r = not_int d z g in let s : j ≡ k = same_slot j (ap link (sym r.0) ∙ f) in ap a s ∙ u.0 ∙ ap Int (sym r.1));
    pairs = λ a u d i j l f g r. (let v = not_var d i r in let s = without_from i l g in let t : Some j ≡ Some l = sym f ∙ ap link (sym v.1) ∙ s.1 in let q : j ≡ l = cc in ap a q);
  }

  -- The heap's terms are then the seen terms: the machine binds a variable whose set has one value, and nothing is posted.
  pub bound : (x : ℕ) × (has (constrained ps) x ≡ true) × IsStored M N (is_number x w ∷ es) ps P h (after (number_for c (pos w)) look) (without_cell c link)
      slot qs × Sure M N es ps (record { variable = x; number = w } ∷ [])
  bound =
      let v = st.from c k linked in
      let u = by_number v.0 v.2 in
      let below : EquationsOf P (is_number v.0 w ∷ []) = ((st.used v.0 v.1, tt), tt) in
      let new = unified M N es ps P h look link slot qs st (is_number v.0 w ∷ []) below (number_for c (pos w)) (without_cell c link) (Value k (pos w) ∷ []) u in
      let some : (T : Family) → IsModel M N [] qs T → (j : ℕ) → has (constrained (posts (Value k (pos w) ∷ []))) j ≡ true
      → (i : ℕ) × (has (T j) i ≡ true) = λ T m j e. (
        w,
        subst (λ i. has (T i) w ≡ true) (only_one j e)
            (subst (λ l. has l w ≡ true) (sym (one T m)) (or_left (w == w) false (eq-eqb w w refl))),
      ) in
      let low : (T : Family) → IsModel M N [] qs T → (j i : ℕ) → has (constrained (posts (Value k (pos w) ∷ []))) j ≡ true → has (T j) i ≡ true → i ≤ N =
      λ T m j i e h. (st.down T m).closed.within v.0 i v.1 (subst (λ a. has (T a) i ≡ true) (sym (v.3 ∙ only_one j e)) h) in
      let here : (T : Family) → IsModel M N [] qs T → Holds M T (posts (Value k (pos w) ∷ [])) = λ T m. as_posts M T m.closed.family (Value k (pos w) ∷ []) (ap set_term (one T m), tt) in (
        v.0,
        v.1,
        same_store M N (is_number v.0 w ∷ es) ps P h (after (number_for c (pos w)) look) (without_cell c link) slot (qs ++ posts (Value k (pos w) ∷ [])) new qs
            (λ j e. elim (constrained_either qs (posts (Value k (pos w) ∷ [])) j e) [ inl a ↦ a | inr a ↦ subst (λ i. has (constrained qs) i ≡ true) (v.3 ∙ only_one j a) (st.slots v.0 v.1) ])
            (λ T m. front M N qs (posts (Value k (pos w) ∷ [])) T m)
            (λ T m. extended M N qs (posts (Value k (pos w) ∷ [])) T m (here T m) (low T m) (some T m)),
        ((v.1, λ S m i e. sets S m v.0 v.1 v.3 i e), tt),
      )
    where
      only_one : (j : ℕ) → has (k ∷ []) j ≡ true → k ≡ j
      only_one j e = only_member k j e

      sets : (S : Family) → IsModel M N es ps S → (x : ℕ) → has (constrained ps) x ≡ true → slot x ≡ k → (i : ℕ) → has (S x) i ≡ true → i ≡ w
      sets S m x con same i e =
          let t = st.up S m in
          let is : S x ≡ w ∷ [] = sym (t.2 x con) ∙ ap t.0 same ∙ one t.0 t.1 in
          sym (only_member w i (subst (λ l. has l i ≡ true) is e))
