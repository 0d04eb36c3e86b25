-- One more range on a branch and on the store.
use Rattle.std.proofs.Common.{◌≤◌, ◌≡◌, ℕ, Bool, true, false, cond, ◌==◌, ℤ, pos, negsuc, List, [], ◌∷◌, ◌++◌, Option, Some, map, refl, ap, sym, ◌∙◌, subst}
use Rattle.std.proofs.Common.{inl, inr, ◌⊎◌, eqb-true, eq-eqb}
use Rattle.std.proofs.lemmas.Bool.{cases_Bool, or_cases, or_left, or_right, true≢false}
use Rattle.std.proofs.lemmas.Option.{same_Some}
use Rattle.fd_language.specs.Term.{Term, Var, Int, Atom, Comp, Substitution, apply}
use Rattle.fd_language.specs.Unifier.{Equation}
use Rattle.fd_language.specs.Family.{Family, has, IsFamily, IsSubset, IsRising}
use Rattle.fd_language.specs.Range.{Indexical, set_of, reads}
use Rattle.fd_model.specs.ClosedFamilies.{constrained}
use Rattle.fd_language.proofs.Lemmas.{has_either, solved, identity, in_left, in_right, set_same, set_agree, reads_map}
use Rattle.fd_model.proofs.Lemmas.{closed_without, posted_right, named_left, named_right, constrained_either, has_map, map_has, only_member, one_term}
use Rattle.fd_model.proofs.Lemmas.{has_general}
use Rattle.fd_language.specs.RangeRenaming.{rename_range, rename_indexical}
use Rattle.fd_model.specs.Models.{IsModel}
use Rattle.branch_meaning.specs.Heap.{StandsForEquations}
use Rattle.branch_meaning.specs.Store.{IsLinked, next_slot, IsStored, IsPosted, names, shown_set, linked_set}
use Rattle.branch_meaning.proofs.Models.{ungrown, front}
use Rattle.branch_meaning.proofs.TouchedValues.{Holds}
use Rattle.branch_meaning.proofs.Store.{extended}

-- a family that the heap shows is closed under the equations
pub by_shown : (M N : ℕ) (es : List Equation) (ps : List Indexical) (P : ℕ → Type 0) (h : ℕ) (look : Substitution) (link : ℕ → Option ℕ) (T S : Family)
    → StandsForEquations es P h look → IsFamily M S → Holds M S ps
    → ((v : ℕ) → has (constrained ps) v ≡ true → shown_set link T (look v) ≡ S v) → ((v n : ℕ) → has (constrained ps) v ≡ true → has (S v) n ≡ true → n ≤ N)
    → ((v : ℕ) → has (constrained ps) v ≡ true → (i : ℕ) × (has (S v) i ≡ true)) → IsModel M N es ps S
by_shown M N es ps P h look link T S heap f holds agrees low full =
    let s = has_general es look heap.unifies (solved es) in
    let shows : (v : ℕ) (t : Term) → has (constrained ps) v ≡ true → s.0 v ≡ t → shown_set link T (apply look t) ≡ S v =
    λ v t c e. subst (λ r. shown_set link T r ≡ S v) (sym (s.1.general look v heap.unifies) ∙ ap (apply look) e) (agrees v c) in
    record {
      unifier = s.0;
      general = s.1;
      closed = record {
        family = f;
        posted = holds;
        values = λ v z k c e g. value z k (subst (λ l. has l k ≡ true) (sym (shows v (Int z) c e)) g);
        same = λ v w x c d e g. sym (shows v (Var x) c e) ∙ shows w (Var x) d g;
        atoms = λ v a c e. sym (shows v (Atom a) c e);
        compounds = λ v g rs c e. sym (shows v (Comp g rs) c e);
        within = low;
      };
      full = full;
    }
  where
    value : (z : ℤ) (k : ℕ) → has (shown_set link T (Int z)) k ≡ true → pos k ≡ z
    value (pos w) k e = ap pos (sym (only_member w k e))
    value (negsuc w) k e = absurd (true≢false (sym e))

-- each range of the list depends on the constrained variables alone
pub holds_agree : (M : ℕ) (T S : Family) (ps : List Indexical) → ((v : ℕ) → has (constrained ps) v ≡ true → T v ≡ S v) → Holds M S ps → Holds M T ps
holds_agree M T S [] h g = tt
holds_agree M T S (p ∷ ps) h g = (
  subst (λ l. IsSubset l (set_of M T p.range)) (sym (h p.target (or_left (p.target == p.target) (has (reads p.range ++ constrained ps) p.target) (eq-eqb p.target p.target refl))))
      (subst (IsSubset (S p.target)) (sym (set_agree M T S p.range
      (λ v c. h v (or_right (p.target == v) (has (reads p.range ++ constrained ps) v) (in_left (reads p.range) (constrained ps) v c))))) g.0),
  holds_agree M T S ps (λ v c. h v (or_right (p.target == v) (has (reads p.range ++ constrained ps) v) (in_right (reads p.range) (constrained ps) v c))) g.1,
)

-- the sets of the named variables, where one of them has the slot k
pub pick : (ℕ → ℕ) → Family → Family → List ℕ → ℕ → List ℕ
pick f S T [] k = T k
pick f S T (v ∷ vs) k = cond (f v == k) (S v) (pick f S T vs k)

-- a named variable has its own set at its slot, where all that have the slot have one set
pub pick_named : (f : ℕ → ℕ) (S T : Family) (vs : List ℕ) (v : ℕ) → ((w : ℕ) → has vs w ≡ true → f w ≡ f v → S w ≡ S v) → has vs v ≡ true → pick f S T vs (f v) ≡ S v
unfolding pick
pick_named f S T [] v one c = absurd (true≢false (sym c))
pick_named f S T (w ∷ vs) v one c = elim (cases_Bool (f w == f v)) [
  | inl e ↦ rw e (one w (or_left (w == w) (has vs w) (eq-eqb w w refl)) (eqb-true (f w) (f v) e))
  | inr e ↦ rw e (pick_named f S T vs v (λ u d. one u (or_right (w == u) (has vs u) d))
      (elim (or_cases (w == v) (has vs v) c) [ inl g ↦ absurd (true≢false (sym (eq-eqb (f w) (f v) (ap f (eqb-true w v g))) ∙ e)) | inr g ↦ g ]))
]

-- a slot whose named variables have its old set keeps it
pub pick_other : (f : ℕ → ℕ) (S T : Family) (vs : List ℕ) (k : ℕ) → ((w : ℕ) → has vs w ≡ true → f w ≡ k → S w ≡ T k) → pick f S T vs k ≡ T k
unfolding pick
pick_other f S T [] k one = refl
pick_other f S T (w ∷ vs) k one = elim (cases_Bool (f w == k)) [
  | inl e ↦ rw e (one w (or_left (w == w) (has vs w) (eq-eqb w w refl)) (eqb-true (f w) k e))
  | inr e ↦ rw e (pick_other f S T vs k (λ u d. one u (or_right (w == u) (has vs u) d)))
]

-- the sets so picked are a family
pub pick_rising : (M : ℕ) (f : ℕ → ℕ) (S T : Family) (vs : List ℕ) → IsFamily M S → IsFamily M T → IsFamily M (pick f S T vs)
unfolding pick
pick_rising M f S T [] a b = b
pick_rising M f S T (v ∷ vs) a b = let later = pick_rising M f S T vs a b in record { rising = λ k. either (f v == k) (S v) (pick f S T vs k) (a.rising v) (later.rising k) }
  where
    either : (c : Bool) (xs ys : List ℕ) → IsRising 0 M xs → IsRising 0 M ys → IsRising 0 M (cond c xs ys)
    either true xs ys g h = g
    either false xs ys g h = h

pub new_or_old : (p : Indexical) (ps : List Indexical) (v : ℕ) → has (constrained (p ∷ ps)) v ≡ true → (has (constrained ps) v ≡ true) ⊎ (has (constrained (p ∷ [])) v ≡ true)
new_or_old p ps v c = elim (constrained_either (p ∷ []) ps v c) [ inl d ↦ inr d | inr d ↦ inl d ]

-- the variables of one range
pub one_left : (p : Indexical) (v : ℕ) → has (names p) v ≡ true → has (constrained (p ∷ [])) v ≡ true
one_left p v h = elim (or_cases (p.target == v) (has (reads p.range) v) h) [
  | inl e ↦ or_left (p.target == v) (has (reads p.range ++ []) v) e
  | inr e ↦ or_right (p.target == v) (has (reads p.range ++ []) v) (in_left (reads p.range) [] v e)
]

pub one_back : (p : Indexical) (v : ℕ) → has (constrained (p ∷ [])) v ≡ true → has (names p) v ≡ true
one_back p v h = elim (or_cases (p.target == v) (has (reads p.range ++ []) v) h) [
  | inl e ↦ or_left (p.target == v) (has (reads p.range) v) e
  | inr e ↦ or_right (p.target == v) (has (reads p.range) v) (elim (has_either (reads p.range) [] v e) [ inl g ↦ g | inr g ↦ absurd (true≢false (sym g)) ])
]

pub names_renamed : (f : ℕ → ℕ) (p : Indexical) → names (rename_indexical f p) ≡ map f (names p)
names_renamed f p = ap (λ l. f p.target ∷ l) (reads_map f p.range)

pub slot_there : (f : ℕ → ℕ) (p : Indexical) (v : ℕ) → has (names p) v ≡ true → has (constrained (rename_indexical f p ∷ [])) (f v) ≡ true
slot_there f p v h = one_left (rename_indexical f p) (f v) (subst (λ l. has l (f v) ≡ true) (sym (names_renamed f p)) (has_map f (names p) v h))

pub slot_back : (f : ℕ → ℕ) (p : Indexical) (k : ℕ) → has (constrained (rename_indexical f p ∷ [])) k ≡ true → (v : ℕ) × (has (names p) v ≡ true) × (f v ≡ k)
slot_back f p k h = map_has f (names p) k (subst (λ l. has l k ≡ true) (names_renamed f p) (one_back (rename_indexical f p) k h))

module _ (M N : ℕ) (es : List Equation) (ps : List Indexical) (P : ℕ → Type 0) (h : ℕ) (look : Substitution) (link : ℕ → Option ℕ) (slot : ℕ → ℕ)
    (qs : List Indexical) (st : IsStored M N es ps P h look link slot qs)
    (p : Indexical) (f : ℕ → ℕ) (link' : ℕ → Option ℕ) (slot' : ℕ → ℕ) (po : IsPosted ps P look link slot qs p f link' slot') where
  module _ (T : Family) (m : IsModel M N [] (qs ++ rename_indexical f p ∷ []) T) where
    before : IsModel M N [] qs T
    before = front M N qs (rename_indexical f p ∷ []) T m

    at_named : (v : ℕ) → has (names p) v ≡ true → T (slot' v) ≡ T (f v)
    at_named v c = elim (cases_Bool (has (constrained ps) v)) [
      | inl d ↦
          let w = po.cell v c in
          let l = st.linked v w.0 d w.1 in
          let same : l.0 ≡ f v = same_Some l.0 (f v) (sym (po.keep w.0 l.0 l.1) ∙ w.2) in
          ap T (po.old v d) ∙ sym (st.agrees T before v d) ∙ ap (shown_set link T) w.1 ∙ ap (λ o. linked_set o T) l.1 ∙ ap T same
      | inr d ↦ ap T (po.new v c d)
    ]

    shown_more : (v : ℕ) (t : Term) → has (constrained ps) v ≡ true → look v ≡ t → shown_set link' T t ≡ shown_set link T t
    shown_more v (Var c) d e = let l = st.linked v c d e in ap (λ o. linked_set o T) (po.keep c l.0 l.1 ∙ sym l.1)
    shown_more v (Int (pos w)) d e = refl
    shown_more v (Int (negsuc w)) d e = refl
    shown_more v (Atom a) d e = refl
    shown_more v (Comp g ts) d e = refl

    agrees_posted : (v : ℕ) → has (constrained (p ∷ ps)) v ≡ true → shown_set link' T (look v) ≡ T (slot' v)
    agrees_posted v c = elim (new_or_old p ps v c) [
      | inl d ↦ shown_more v (look v) d refl ∙ st.agrees T before v d ∙ sym (ap T (po.old v d))
      | inr d ↦ let w = po.cell v (one_back p v d) in ap (shown_set link' T) w.1 ∙ ap (λ o. linked_set o T) w.2 ∙ sym (at_named v (one_back p v d))
    ]

    down_posted : IsModel M N es (p ∷ ps) (λ v. T (slot' v))
    down_posted =
        let base = st.down T before in
        let last = posted_right (λ q. IsSubset (T q.target) (set_of M T q.range)) qs (rename_indexical f p ∷ []) m.closed.posted in
        by_shown M N es (p ∷ ps) P h look link' T (λ v. T (slot' v)) st.heap (record { rising = λ v. m.closed.family.rising (slot' v) }) (
          subst (λ l. IsSubset l (set_of M (λ v. T (slot' v)) p.range)) (sym (at_named p.target (or_left (p.target == p.target) (has (reads p.range) p.target) (eq-eqb p.target p.target refl))))
              (subst (IsSubset (T (f p.target))) (set_same M f T (λ v. T (slot' v)) p.range (λ v c. sym (at_named v (or_right (p.target == v) (has (reads p.range) v) c)))) last.0),
          holds_agree M (λ v. T (slot' v)) (λ v. T (slot v)) ps (λ v c. ap T (po.old v c)) base.closed.posted,
        )
        agrees_posted
        (λ v i c h. elim (new_or_old p ps v c) [
          | inl d ↦ base.closed.within v i d (subst (λ k. has (T k) i ≡ true) (po.old v d) h)
          | inr d ↦ m.closed.within (f v) i (named_right qs (rename_indexical f p ∷ []) (f v) (slot_there f p v (one_back p v d))) (subst (λ l. has l i ≡ true) (at_named v (one_back p v d)) h)
        ])
        (λ v c. elim (new_or_old p ps v c) [
          | inl d ↦ let g = base.full v d in (g.0, subst (λ k. has (T k) g.0 ≡ true) (sym (po.old v d)) g.1)
          | inr d ↦ let g = m.full (f v) (named_right qs (rename_indexical f p ∷ []) (f v) (slot_there f p v (one_back p v d))) in
              (g.0, subst (λ l. has l g.0 ≡ true) (sym (at_named v (one_back p v d))) g.1)
        ])

  module _ (S : Family) (m : IsModel M N es (p ∷ ps) S) where
    first : IsModel M N es ps S
    first = ungrown M N [] es (p ∷ []) ps S m

    -- variables that the heap shows as one term have one set
    shown_one : (v w : ℕ) → has (constrained (p ∷ ps)) v ≡ true → has (constrained (p ∷ ps)) w ≡ true → P v → P w → look v ≡ look w → S v ≡ S w
    shown_one v w c d a b e =
        let back = st.heap.through m.unifier m.general.unifies in
        one_term M N es (p ∷ ps) S m v w (m.unifier w) c d (sym (back.1 v a) ∙ ap (apply back.0) e ∙ back.1 w b) refl

    named_in : (v : ℕ) → has (names p) v ≡ true → has (constrained (p ∷ ps)) v ≡ true
    named_in v c = named_left (p ∷ []) ps v (one_left p v c)

    module _ (T : Family) (t : IsModel M N [] qs T) (equal : (v : ℕ) → has (constrained ps) v ≡ true → T (slot v) ≡ S v) where
      abbrev new_sets : Family
      new_sets = pick f S T (names p)

      at_slot : (v : ℕ) → has (names p) v ≡ true → new_sets (f v) ≡ S v
      at_slot v c = pick_named f S T (names p) v (λ w d e.
          let a = po.cell w d in
          let b = po.cell v c in
          let same : a.0 ≡ b.0 = po.one a.0 b.0 (f v) (a.2 ∙ ap Some e) b.2 in
          shown_one w v (named_in w d) (named_in v c) (po.used w d) (po.used v c) (a.1 ∙ ap Var same ∙ sym b.1)) c

      at_old : (k : ℕ) → has (constrained qs) k ≡ true → new_sets k ≡ T k
      at_old k c = pick_other f S T (names p) k (λ w d e.
          let a = po.cell w d in
          elim (po.fresh a.0 (f w) a.2) [
            | inl l ↦
                let u = st.from a.0 (f w) l in
                shown_one w u.0 (named_in w d) (named_right (p ∷ []) ps u.0 u.1) (po.used w d) (st.used u.0 u.1) (a.1 ∙ sym u.2) ∙ sym (equal u.0 u.1) ∙ ap T (u.3 ∙ e)
            | inr l ↦ absurd (true≢false (sym (subst (λ j. has (constrained qs) j ≡ true) (sym e) c) ∙ l.4))
          ])

      slot_set : (v : ℕ) → has (constrained (p ∷ ps)) v ≡ true → new_sets (slot' v) ≡ S v
      slot_set v c = elim (cases_Bool (has (constrained ps) v)) [
        | inl d ↦ ap new_sets (po.old v d) ∙ at_old (slot v) (st.slots v d) ∙ equal v d
        | inr d ↦ elim (new_or_old p ps v c) [
          | inl g ↦ absurd (true≢false (sym g ∙ d))
          | inr g ↦ ap new_sets (po.new v (one_back p v g) d) ∙ at_slot v (one_back p v g)
        ]
      ]

      up_posted : IsModel M N [] (qs ++ rename_indexical f p ∷ []) new_sets
      up_posted =
          let fam : IsFamily M new_sets = pick_rising M f S T (names p) m.closed.family t.closed.family in
          let last = m.closed.posted in
          extended M N qs (rename_indexical f p ∷ []) new_sets
          (record {
            unifier = Var;
            general = identity;
            closed = closed_without M N qs new_sets fam (holds_agree M new_sets T qs at_old t.closed.posted) (λ k i c h. t.closed.within k i c (subst (λ l. has l i ≡ true) (at_old k c) h));
            full = λ k c. (let g = t.full k c in (g.0, subst (λ l. has l g.0 ≡ true) (sym (at_old k c)) g.1));
          }) (
            subst (λ l. IsSubset l (set_of M new_sets (rename_range f p.range)))
                (sym (at_slot p.target (or_left (p.target == p.target) (has (reads p.range) p.target) (eq-eqb p.target p.target refl))))
                (subst (IsSubset (S p.target)) (sym (set_same M f new_sets S p.range (λ v c. at_slot v (or_right (p.target == v) (has (reads p.range) v) c)))) last.0),
            tt,
          )
          (λ k i c h. (let v = slot_back f p k c in m.closed.within v.0 i (named_in v.0 v.1) (subst (λ l. has l i ≡ true) (at_slot v.0 v.1) (subst (λ j. has (new_sets j) i ≡ true) (sym v.2) h))))
          (λ k c. (let v = slot_back f p k c in let g = m.full v.0 (named_in v.0 v.1) in
          (g.0, subst (λ j. has (new_sets j) g.0 ≡ true) v.2 (subst (λ l. has l g.0 ≡ true) (sym (at_slot v.0 v.1)) g.1))))

  -- One posted range: heap and store stand for the branch with that range.
  pub posted : IsStored M N es (p ∷ ps) P h look link' slot' (qs ++ rename_indexical f p ∷ [])
  posted = record {
    heap = st.heap;
    used = λ v c. elim (new_or_old p ps v c) [ inl d ↦ st.used v d | inr d ↦ po.used v (one_back p v d) ];
    down = down_posted;
    up = λ S m. (let t = st.up S (first S m) in (new_sets S m t.0 t.1 t.2, up_posted S m t.0 t.1 t.2, slot_set S m t.0 t.1 t.2));
    agrees = agrees_posted;
    slots = λ v c. elim (cases_Bool (has (constrained ps) v)) [
      | inl d ↦ subst (λ k. has (constrained (qs ++ rename_indexical f p ∷ [])) k ≡ true) (sym (po.old v d)) (named_left qs (rename_indexical f p ∷ []) (slot v) (st.slots v d))
      | inr d ↦ elim (new_or_old p ps v c) [
        | inl g ↦ absurd (true≢false (sym g ∙ d))
        | inr g ↦ subst (λ k. has (constrained (qs ++ rename_indexical f p ∷ [])) k ≡ true) (sym (po.new v (one_back p v g) d))
            (named_right qs (rename_indexical f p ∷ []) (f v) (slot_there f p v (one_back p v g)))
      ]
    ];
    linked = λ v c d e. elim (new_or_old p ps v d) [
      | inl g ↦ let l = st.linked v c g e in (l.0, po.keep c l.0 l.1)
      | inr g ↦ let w = po.cell v (one_back p v g) in let a : Var w.0 ≡ Var c = sym w.1 ∙ e in let b : w.0 ≡ c = cc in (f v, subst (λ i. link' i ≡ Some (f v)) b w.2)
    ];
    from = λ c k e. elim (po.fresh c k e) [
      | inl l ↦ let u = st.from c k l in (u.0, named_right (p ∷ []) ps u.0 u.1, u.2, po.old u.0 u.1 ∙ u.3)
      | inr l ↦
          let w = po.cell l.0 l.1 in
          let a : Var w.0 ≡ Var c = sym w.1 ∙ l.2 in
          let b : w.0 ≡ c = cc in
          let g : f l.0 ≡ k = same_Some (f l.0) k (sym w.2 ∙ ap link' b ∙ e) in
          (l.0, named_left (p ∷ []) ps l.0 (one_left p l.0 l.1), l.2, po.new l.0 l.1 l.3 ∙ g)
    ];
  }

-- what a heap and a store supply is enough
pub posted_by : (M N : ℕ) (es : List Equation) (ps : List Indexical) (P : ℕ → Type 0) (h : ℕ) (look : Substitution) (link : ℕ → Option ℕ) (slot : ℕ → ℕ)
    (qs : List Indexical) → IsStored M N es ps P h look link slot qs
    → (p : Indexical) (f : ℕ → ℕ) (link' : ℕ → Option ℕ) → IsLinked P look link qs p f link' → IsPosted ps P look link slot qs p f link' (next_slot ps slot f)
posted_by M N es ps P h look link slot qs st p f link' l = record {
  used = l.used;
  old = λ v c. ap (λ b. cond b (slot v) (f v)) c;
  new = λ v c d. ap (λ b. cond b (slot v) (f v)) d;
  cell = l.cell;
  keep = l.keep;
  fresh = λ c k e. elim (l.fresh c k e) [
    | inl a ↦ inl a
    | inr a ↦ elim (cases_Bool (has (constrained ps) a.0)) [
      | inl d ↦ let o = st.linked a.0 c d a.2 in let same : o.0 ≡ k = same_Some o.0 k (sym (l.keep c o.0 o.1) ∙ e) in inl (o.1 ∙ ap Some same)
      | inr d ↦ inr (a.0, a.1, a.2, d, a.3)
    ]
  ];
  one = l.one;
}
