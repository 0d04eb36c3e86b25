-- A node of a search: posted ranges, and the equations of a branch for which they stand. The heap's cells of the variables that were picked are taken to be
-- bound.
use Rattle.std.proofs.Common.{◌≡◌, ◌⊎◌, ℕ, ◌<◌, ◌≤◌, ◌==◌, true, false, cond, ℤ, pos, List, [], ◌∷◌, ◌++◌, Option, Some, None, Ok, refl, ap, sym, ◌∙◌, subst}
use Rattle.std.proofs.Common.{inl, inr, eq-eqb, ne_eqb, append-nil, suc, ◌+◌, Bool, length, eqb-true, arith}
use Rattle.std.proofs.lemmas.Bool.{cases_Bool, cases_eq, true≢false, or_cases}
use Rattle.fd_language.specs.Family.{Family, has}
use Rattle.fd_language.specs.Monotonicity.{IsMonotone}
use Rattle.fd_language.specs.Range.{Indexical}
use Rattle.fd_language.specs.Term.{Term, Var, Int, Substitution, apply}
use Rattle.fd_language.specs.Unifier.{Equation}
use Rattle.fd_language.proofs.Lemmas.{after_is, apply_vars, has_high}
use Rattle.fd_model.specs.declared.kinds.Order.{Order}
use Rattle.fd_model.specs.Branches.{is_number, look_in, sets_in}
use Rattle.fd_model.specs.Builtins.{is_open}
use Rattle.fd_model.specs.ClosedFamilies.{constrained}
use Rattle.fd_model.specs.Goal.{Label, Branch}
use Rattle.fd_model.specs.Labelling.{read_list, pick, values_by, open_ones}
use Rattle.fd_model.specs.Members.{Member}
use Rattle.fd_model.specs.Models.{IsModel}
use Rattle.fd_model.specs.PostedLeaves.{exactly, with_value}
use Rattle.fd_model.specs.BranchViews.{IsConsistent, IsView}
use Rattle.fd_model.proofs.Lemmas.{AllMonotone, monotone_more, consistent_from, constrained_either, named_left, only_member, posted_both}
use Rattle.branch_meaning.specs.Heap.{after, applied_each, Below}
use Rattle.branch_meaning.specs.Store.{IsUnified, IsStored}
use Rattle.branch_meaning.proofs.Lemmas.{front, number_touches, numbered, unified, without}
use Rattle.branch_lemmas.proofs.Lemmas.{bounded_at, model_bounded, model_narrower, model_wider}
use Rattle.sought_leaves.specs.LeafSearch.{IsSearched}
use Rattle.sought_leaves.proofs.Values.{exact_value, with_exact, put_value, value_here, value_else, bounds_monotone, put_begun, branch_model}

-- ---- how many of some cells are open

abbrev pub counted : Bool → ℕ
counted true = 1
counted false = 0

abbrev pub opens : Substitution → List ℕ → ℕ
opens w [] = 0
opens w (d ∷ ds) = counted (is_open (w d)) + opens w ds

pub opens_all : (ds : List ℕ) → opens Var ds ≡ length ds
opens_all [] = refl
opens_all (d ∷ ds) = (let k = opens_all ds in omega (arith, k))

module _ (v w : Substitution) (still : (e : ℕ) → is_open (w e) ≡ true → is_open (v e) ≡ true) where
  one_fewer : (p q : Bool) → (p ≡ true → q ≡ true) → counted p ≤ counted q
  one_fewer false q f = omega arith
  one_fewer true true f = omega arith
  one_fewer true false f = absurd (true≢false (sym (f refl)))

  opens_fewer : (ds : List ℕ) → opens w ds ≤ opens v ds
  opens_fewer [] = omega arith
  opens_fewer (e ∷ ds) = (let a = one_fewer (is_open (w e)) (is_open (v e)) (still e) in let b = opens_fewer ds in omega (arith, a, b))

  -- one of them is bound, and they are fewer
  pub opens_fall : (d : ℕ) → is_open (v d) ≡ true → is_open (w d) ≡ false → (ds : List ℕ) → has ds d ≡ true → suc (opens w ds) ≤ opens v ds
  opens_fall d o c [] i = absurd (true≢false (sym i))
  opens_fall d o c (e ∷ ds) i = elim (or_cases (e == d) (has ds d) i) [
    | inl a ↦
        let same : e ≡ d = eqb-true e d a in
        let old : counted (is_open (v e)) ≡ 1 = ap (λ x. counted (is_open (v x))) same ∙ ap counted o in
        let new : counted (is_open (w e)) ≡ 0 = ap (λ x. counted (is_open (w x))) same ∙ ap counted c in
        let b = opens_fewer ds in
        omega (arith, old, new, b)
    | inr a ↦ (let x = one_fewer (is_open (w e)) (is_open (v e)) (still e) in let b = opens_fall d o c ds a in omega (arith, x, b))
  ]

-- ---- one cell takes an integer

abbrev pub put_number : ℕ → ℕ → Substitution
put_number c n d = cond (d == c) (Int (pos n)) (Var d)

pub number_here : (c n : ℕ) → put_number c n c ≡ Int (pos n)
number_here c n = ap (λ b. cond b (Int (pos n)) (Var c)) (eq-eqb c c refl)

pub number_else : (c n d : ℕ) → (d ≡ c → ⊥) → put_number c n d ≡ Var d
number_else c n d k = ap (λ b. cond b (Int (pos n)) (Var d)) (ne_eqb d c k)

-- a cell that isn't linked: nothing is touched
module _ (h : ℕ) (link : ℕ → Option ℕ) (c n : ℕ) (none : link c ≡ None) where
  other_cell : (d k : ℕ) → link d ≡ Some k → put_number c n d ≡ Var d
  other_cell d k e = number_else c n d (λ i. (let f : None ≡ Some k = sym none ∙ ap link (sym i) ∙ e in absurd (cc)))

  pub unlinked : IsUnified h link (record { left = Var c; right = Int (pos n) } ∷ []) (put_number c n) link []
  unlinked = record {
    general = record {
      unifies = (number_here c n, tt);
      general = λ u x g. elim (cases_eq x c) [
        | inl e ↦ ap (λ y. apply u (put_number c n y)) e ∙ ap (apply u) (number_here c n) ∙ sym g.0 ∙ ap u (sym e)
        | inr d ↦ ap (apply u) (number_else c n x d)
      ];
    };
    cells = λ d l. elim (cases_eq d c) [
      | inl e ↦ subst (Below h) (sym (ap (put_number c n) e ∙ number_here c n)) tt
      | inr k ↦ subst (Below h) (sym (number_else c n d k)) l
    ];
    still = λ d k e. (e, other_cell d k e);
    plain = λ d k e. inr (d, k, other_cell d k e, e);
    named = λ k e. absurd (true≢false (sym e));
    follow = λ a i p. tt;
    values = λ a u d k z e g. absurd (let f : Var d ≡ Int z = sym (other_cell d k e) ∙ g in cc);
    pairs = λ a u d f k j e g w. (
        let v : Var d ≡ Var f = sym (other_cell d k e) ∙ w in
        let i : d ≡ f = cc in
        let same : Some k ≡ Some j = sym e ∙ ap link i ∙ g in
        let q : k ≡ j = cc in
        ap a q
        );
  }

-- The store, or none, is touched.
module _ (M N : ℕ) (es : List Equation) (ps : List Indexical) (P : ℕ → Type 0) (h : ℕ) (look : Substitution) (link : ℕ → Option ℕ) (slot : ℕ → ℕ) (qs : List Indexical)
    (st : IsStored M N es ps P h look link slot qs)
    (x c n : ℕ) (known : P x) (at_c : look x ≡ Var c) where
  equation : applied_each look (is_number x n ∷ []) ≡ record { left = Var c; right = Int (pos n) } ∷ []
  equation = ap (λ u. record { left = u; right = Int (pos n) } ∷ []) at_c

  pub stored_unlinked : link c ≡ None → IsStored M N (is_number x n ∷ es) ps P h (after (put_number c n) look) link slot qs
  stored_unlinked none =
      let u = subst (λ ds. IsUnified h link ds (put_number c n) link []) (sym equation) (unlinked h link c n none) in
      subst (λ l. IsStored M N (is_number x n ∷ es) ps P h (after (put_number c n) look) link slot l) (append-nil qs)
      (unified M N es ps P h look link slot qs st (is_number x n ∷ []) ((known, tt), tt) (put_number c n) link [] u)

  abbrev pub number : List (ℕ × ℤ)
  number = (c, pos n) ∷ []

  pub stored_linked : (own : ℕ → ℕ) → link c ≡ Some (own c) → IsStored M N (is_number x n ∷ es) ps P h (after (put_number c n) look) (without number link) slot (with_value qs (own c) n)
  stored_linked own e =
      let u = subst (λ ds. IsUnified h link ds (put_number c n) (without number link) (number_touches own number)) (sym equation) (numbered link h own number (number_here c n, tt) (e, tt)) in
      unified M N es ps P h look link slot qs st (is_number x n ∷ []) ((known, tt), tt) (put_number c n) (without number link) (number_touches own number) u

-- what is so without number
without_here : (c n : ℕ) (link : ℕ → Option ℕ) (d : ℕ) → (d ≡ c → ⊥) → without ((c, pos n) ∷ []) link d ≡ link d
without_here c n link d k = ap (λ b. cond b None (link d)) (ne_eqb d c k)

-- a branch with these equations, whose only goal is the labelling
module _ (b : Branch) (o : Order) (t : Term) where
  abbrev pub at_branch : List Equation → Branch
  at_branch es = record { goals = Label o t ∷ []; equations = es; posted = b.posted; fresh = b.fresh }

module _ (M N : ℕ) (b : Branch) (o : Order) (t : Term) where
  -- the variable that the labelling picks where the branch has these equations
  pub record IsPicked (es : List Equation) (s : Substitution) (D : Family) (ms : List Member) (x : ℕ) : Type 0 where
    pub view : IsView M N es b.posted s D
    pub list : read_list (apply (look_in (at_branch b o t es) s D) t) ≡ Ok ms
    pub picked : pick o (λ y. values_by N (sets_in (at_branch b o t es) s D y)) ms ≡ Some x

  -- the equations are reached by so many picked variables that take values, each of which is one of Is
  pub data Reached (Is : ℕ → ℕ → Type 0) : ℕ → List Equation → Type 0 where
    begins : Reached Is 0 b.equations
    goes : {j : ℕ} {es : List Equation} → Reached Is j es → (s : Substitution) (D : Family) (ms : List Member) (x n : ℕ) → IsPicked es s D ms x
        → IsConsistent M N (is_number x n ∷ es) b.posted → Is x n → Reached Is (suc j) (is_number x n ∷ es)

  pub reached_more : (Is Are : ℕ → ℕ → Type 0) → ((x n : ℕ) → Is x n → Are x n) → (j : ℕ) (es : List Equation) → Reached Is j es → Reached Are j es
  reached_more Is Are f j es begins = begins
  reached_more Is Are f j es (goes r s D ms x n p c i) = goes (reached_more Is Are f _ _ r) s D ms x n p c (f x n i)

module _ (M N : ℕ) (big : 0 < N) (b : Branch) (o : Order) (t c : Term) (h : ℕ) (look : Substitution) (link : ℕ → Option ℕ) (slot : ℕ → ℕ) (qs : List Indexical) (A : Family) (ms : List Member)
    (cost : Member) (own : ℕ → ℕ) (ls : List Indexical) (s : IsSearched M N b t c h look link slot qs A ms cost own ls) where
  abbrev pub xs : List ℕ
  xs = open_ones ms

  abbrev pub P : ℕ → Type 0
  P v = v < b.fresh

  -- a picked variable is a cell, which has its value
  abbrev pub HasTaken : Substitution → ℕ → ℕ → Type 0
  HasTaken bound x n = (d : ℕ) × (look x ≡ Var d) × (bound d ≡ Int (pos n))

  -- The posted ranges l stand for the branch with the equations es. store has those on variables that were constrained before the search; bound gives each cell
  -- of a picked variable its integer.
  pub record IsNode (es : List Equation) (l : List Indexical) : Type 0 where
    pub bound : Substitution
    pub at : Substitution
    pub links : ℕ → Option ℕ
    pub slots : ℕ → ℕ
    pub store : List Indexical
    pub stored : IsStored M N es b.posted P h at links slots store
    pub looks : (x : ℕ) → at x ≡ apply bound (look x)
    pub plain : (d : ℕ) → (bound d ≡ Var d) ⊎ ((n : ℕ) × (bound d ≡ Int (pos n)))
    pub held : (d n : ℕ) → bound d ≡ Int (pos n) → (has xs d ≡ true) × ((T : Family) → IsModel M M [] l T → T (own d) ≡ n ∷ [])
    pub same : (d : ℕ) → bound d ≡ Var d → links d ≡ link d
    pub low : (d : ℕ) → has xs d ≡ true → (T : Family) → IsModel M M [] l T → (n : ℕ) → has (T (own d)) n ≡ true → n ≤ N
    pub free : (d : ℕ) → has xs d ≡ true → bound d ≡ Var d → link d ≡ None → (T : Family) → IsModel M M [] l T → (n : ℕ) → n ≤ N → IsModel M M [] l (put_value (own d) n T)
    pub unnamed : (d : ℕ) → has xs d ≡ true → link d ≡ None → has (constrained store) (own d) ≡ false
    pub more : (T : Family) → IsModel M M [] l T → IsModel M N [] store T
    pub back : (T : Family) → IsModel M N [] store T → (R : Family) × IsModel M M [] l R × ((k : ℕ) → has (constrained store) k ≡ true → R k ≡ T k)
    pub older : (T : Family) → IsModel M N [] store T → IsModel M N [] qs T
    pub base : (k : ℕ) → has (constrained qs) k ≡ true → has (constrained store) k ≡ true
    pub list_monotone : AllMonotone M l
    pub store_monotone : AllMonotone M store

  -- the search begins
  begun_model : (T : Family) → IsModel M M [] ls T → IsModel M N [] qs T
  begun_model T m =
      model_narrower M N qs s.begun.each s.within T (front M M qs s.begun.bounds T (subst (λ l. IsModel M M [] l T) s.begun.behind m))

  begun_low : (d : ℕ) → has xs d ≡ true → (T : Family) → IsModel M M [] ls T → (n : ℕ) → has (T (own d)) n ≡ true → n ≤ N
  begun_low d i T m n e = by_link (link d) refl
    where
      by_link : (q : Option ℕ) → link d ≡ q → n ≤ N
      by_link None f = elim (cases_eq N M) [
        | inl same ↦ (let l = has_high 0 M (T (own d)) n (m.closed.family.rising (own d)) e in omega (arith, same, l))
        | inr other ↦ bounded_at M N ls T (own d) m.closed.posted (s.begun.new d i f other) n e
      ]
      by_link (Some j) f =
          let v = s.stored.from d j f in
          let named : has (constrained qs) (own d) ≡ true = subst (λ x. has (constrained qs) x ≡ true) (v.3 ∙ sym (s.owned.linked d j i f)) (s.stored.slots v.0 v.1) in
          (begun_model T m).closed.within (own d) n named e

  pub first_node : IsNode b.equations ls
  first_node = record {
    bound = Var;
    at = look;
    links = link;
    slots = slot;
    store = qs;
    stored = s.stored;
    looks = λ x. sym (apply_vars (look x));
    plain = λ d. inl refl;
    held = λ d n e. absurd (cc);
    same = λ d e. refl;
    low = begun_low;
    free = λ d i e none T m n l. subst (λ ps. IsModel M M [] ps (put_value (own d) n T)) (sym s.begun.behind)
        (put_begun M N qs s.begun.bounds (own d) n T l s.within s.begun.are (s.owned.new d i none) (subst (λ ps. IsModel M M [] ps T) s.begun.behind m));
    unnamed = λ d i none. s.owned.new d i none;
    more = begun_model;
    back = λ T m. (
        let w = model_bounded M N qs s.begun.bounds s.within s.begun.are T m in
        (w.0, subst (λ ps. IsModel M M [] ps w.0) (sym s.begun.behind) (model_wider M N (qs ++ s.begun.bounds) s.within w.0 w.1), w.2)
        );
    older = λ T m. m;
    base = λ k i. i;
    list_monotone = subst (AllMonotone M) (sym s.begun.behind) (posted_both (λ p. IsMonotone M p.range) qs s.begun.bounds s.store (bounds_monotone M N s.begun.bounds s.begun.are));
    store_monotone = s.store;
  }

  pub first_open : first_node.bound ≡ Var
  unfolding first_node
  first_open = refl

  module _ (es : List Equation) (l : List Indexical) (k : IsNode es l) where
    -- both are consistent, or neither is
    pub list_consistent : IsConsistent M N es b.posted → IsConsistent M M [] l
    list_consistent i =
        let w = branch_model M N es b.posted s.monotone i in
        let u = k.stored.up w.0 w.1 in
        let v = k.back u.0 u.1 in
        consistent_from M M [] l v.0 v.1

    pub branch_consistent : IsConsistent M M [] l → IsConsistent M N es b.posted
    branch_consistent i =
        let w = branch_model M M [] l k.list_monotone i in
        consistent_from M N es b.posted (λ v. w.0 (k.slots v)) (k.stored.down w.0 (k.more w.0 w.1))

    -- ---- a child

    module _ (x d n : ℕ) (low : x < b.fresh) (among : has xs d ≡ true) (at_d : look x ≡ Var d) (open_now : k.bound d ≡ Var d) (small : n ≤ N) where
      wide : n ≤ M
      wide = let l = s.within in omega (arith, small, l)

      abbrev pub now : Substitution
      now = after (put_number d n) k.bound

      at_cell : k.at x ≡ Var d
      at_cell = k.looks x ∙ ap (apply k.bound) at_d ∙ open_now

      now_here : now d ≡ Int (pos n)
      now_here = ap (apply (put_number d n)) open_now ∙ number_here d n

      now_else : (e : ℕ) → (e ≡ d → ⊥) → k.bound e ≡ Var e → now e ≡ Var e
      now_else e i j = ap (apply (put_number d n)) j ∙ number_else d n e i

      now_plain : (e : ℕ) → (now e ≡ Var e) ⊎ ((m : ℕ) × (now e ≡ Int (pos m)))
      now_plain e = elim (k.plain e) [
        | inl j ↦ elim (cases_eq e d) [ inl i ↦ inr (n, ap now i ∙ now_here) | inr i ↦ inl (now_else e i j) ]
        | inr j ↦ inr (j.0, ap (apply (put_number d n)) j.1)
      ]

      -- one that is open now was, and is another one
      was_open : (e : ℕ) → now e ≡ Var e → (k.bound e ≡ Var e) × (e ≡ d → ⊥)
      was_open e i = elim (k.plain e) [
        | inl j ↦ (j, λ same. (let f : Int (pos n) ≡ Var e = sym (ap now same ∙ now_here) ∙ i in cc))
        | inr j ↦ absurd (let f : Int (pos j.0) ≡ Var e = sym (ap (apply (put_number d n)) j.1) ∙ i in cc)
      ]

      -- and one that has an integer had it, or has it now
      was_bound : (e m : ℕ) → now e ≡ Int (pos m) → (k.bound e ≡ Int (pos m)) ⊎ ((e ≡ d) × (n ≡ m))
      was_bound e m i = elim (k.plain e) [
        | inl j ↦ elim (cases_eq e d) [
          | inl same ↦ inr (same, (let f : Int (pos n) ≡ Int (pos m) = sym (ap now same ∙ now_here) ∙ i in cc))
          | inr other ↦ absurd (let f : Var e ≡ Int (pos m) = sym (now_else e other j) ∙ i in cc)
        ]
        | inr j ↦ inl (j.1 ∙ (let f : Int (pos j.0) ≡ Int (pos m) = sym (ap (apply (put_number d n)) j.1) ∙ i in f))
      ]

      abbrev pub child : List Indexical
      child = with_value l (own d) n

      child_before : (T : Family) → IsModel M M [] child T → IsModel M M [] l T
      child_before T m = front M M l (exactly (own d) n ∷ []) T m

      child_held : (e m : ℕ) → now e ≡ Int (pos m) → (has xs e ≡ true) × ((T : Family) → IsModel M M [] child T → T (own e) ≡ m ∷ [])
      child_held e m i = elim (was_bound e m i) [
        | inl j ↦ (let old = k.held e m j in (old.0, λ T g. old.1 T (child_before T g)))
        | inr j ↦ (subst (λ z. has xs z ≡ true) (sym j.0) among, λ T g. ap T (ap own j.0) ∙ exact_value M M l (own d) n T g ∙ ap (λ z. z ∷ []) j.1)
      ]

      child_low : (e : ℕ) → has xs e ≡ true → (T : Family) → IsModel M M [] child T → (m : ℕ) → has (T (own e)) m ≡ true → m ≤ N
      child_low e i T g m f = k.low e i T (child_before T g) m f

      -- another variable stays free
      child_free : ((e : ℕ) → has xs e ≡ true → (e ≡ d → ⊥) → link e ≡ None → own d ≡ own e → ⊥) → (e : ℕ) → has xs e ≡ true → now e ≡ Var e → link e ≡ None
          → (T : Family) → IsModel M M [] child T → (m : ℕ) → m ≤ N
          → IsModel M M [] child (put_value (own e) m T)
      child_free apart e i j none T g m low' =
          let old = was_open e j in
          let there = k.free e i old.0 none T (child_before T g) m low' in
          with_exact M M l (own d) n (put_value (own e) m T) wide there (value_else (own e) m T (own d) (apart e i old.1 none) ∙ exact_value M M l (own d) n T g)

      -- of a cell that is linked: the store has the value too
      child_linked : link d ≡ Some (own d) → (q : IsNode (is_number x n ∷ es) child) × (q.bound ≡ now)
      child_linked e =
          let there = k.same d open_now ∙ e in
          let v = s.stored.from d (own d) e in
          let named : has (constrained qs) (own d) ≡ true = subst (λ j. has (constrained qs) j ≡ true) v.3 (s.stored.slots v.0 v.1) in (
            record {
              bound = now;
              at = after (put_number d n) k.at;
              links = without ((d, pos n) ∷ []) k.links;
              slots = k.slots;
              store = with_value k.store (own d) n;
              stored = stored_linked M N es b.posted P h k.at k.links k.slots k.store k.stored x d n low at_cell own there;
              looks = λ y. ap (apply (put_number d n)) (k.looks y) ∙ sym (after_is (put_number d n) k.bound (look y));
              plain = now_plain;
              held = child_held;
              same = λ f i. (let old = was_open f i in without_here d n k.links f old.1 ∙ k.same f old.0);
              low = child_low;
              free = child_free (λ f i other none same. true≢false (sym (subst (λ j. has (constrained qs) j ≡ true) same named) ∙ s.owned.new f i none));
              unnamed = λ f i none. elim (cases_Bool (has (constrained (with_value k.store (own d) n)) (own f))) [
                | inl y ↦
                    let there : has (constrained k.store) (own f) ≡ true = elim (constrained_either k.store (exactly (own d) n ∷ []) (own f) y)
                    [ inl a ↦ a | inr a ↦ subst (λ z. has (constrained k.store) z ≡ true) (only_member (own d) (own f) a) (k.base (own d) named) ] in
                    absurd (true≢false (sym there ∙ k.unnamed f i none))
                | inr y ↦ y
              ];
              older = λ T m. k.older T (front M N k.store (exactly (own d) n ∷ []) T m);
              more = λ T m. with_exact M N k.store (own d) n T small (k.more T (child_before T m)) (exact_value M M l (own d) n T m);
              back = λ T m. (
                  let old = front M N k.store (exactly (own d) n ∷ []) T m in
                  let r = k.back T old in
                  let here = r.2 (own d) (k.base (own d) named) ∙ exact_value M N k.store (own d) n T m in (
                    r.0,
                    with_exact M M l (own d) n r.0 wide r.1 here,
                    λ j i. elim (constrained_either k.store (exactly (own d) n ∷ []) j i)
                        [ inl a ↦ r.2 j a | inr a ↦ r.2 j (subst (λ z. has (constrained k.store) z ≡ true) (only_member (own d) j a) (k.base (own d) named)) ],
                  )
                  );
              base = λ j i. named_left k.store (exactly (own d) n ∷ []) j (k.base j i);
              list_monotone = monotone_more M l (own d) n k.list_monotone;
              store_monotone = monotone_more M k.store (own d) n k.store_monotone;
            },
            refl,
          )

      -- of another one: the store of the branch stays
      child_unlinked : link d ≡ None → (q : IsNode (is_number x n ∷ es) child) × (q.bound ≡ now)
      child_unlinked none = (
        record {
          bound = now;
          at = after (put_number d n) k.at;
          links = k.links;
          slots = k.slots;
          store = k.store;
          stored = stored_unlinked M N es b.posted P h k.at k.links k.slots k.store k.stored x d n low at_cell (k.same d open_now ∙ none);
          looks = λ y. ap (apply (put_number d n)) (k.looks y) ∙ sym (after_is (put_number d n) k.bound (look y));
          plain = now_plain;
          held = child_held;
          same = λ f i. k.same f (was_open f i).0;
          low = child_low;
          free = child_free (λ f i other apart same. other (sym (s.owned.apart d f among i none apart same)));
          unnamed = k.unnamed;
          older = k.older;
          more = λ T m. k.more T (child_before T m);
          back = λ T m. (
              let r = k.back T m in
              let R = put_value (own d) n r.0 in
              let there = k.free d among open_now none r.0 r.1 n small in (
                R,
                with_exact M M l (own d) n R wide there (value_here (own d) n r.0),
                λ j i. value_else (own d) n r.0 j
                    (λ e. true≢false (sym i ∙ ap (has (constrained k.store)) e ∙ k.unnamed d among none)) ∙ r.2 j i,
              )
              );
          base = k.base;
          list_monotone = monotone_more M l (own d) n k.list_monotone;
          store_monotone = k.store_monotone;
        },
        refl,
      )

      pub child_node : (q : IsNode (is_number x n ∷ es) child) × (q.bound ≡ now)
      child_node = by_link (link d) refl
        where
          by_link : (q : Option ℕ) → link d ≡ q → (q : IsNode (is_number x n ∷ es) child) × (q.bound ≡ now)
          by_link None e = child_unlinked e
          by_link (Some j) e = child_linked (e ∙ ap Some (sym (s.owned.linked d j among e)))

      -- one cell less is open
      pub child_opens : suc (opens now xs) ≤ opens k.bound xs
      child_opens = opens_fall k.bound now (λ e i. elim (now_plain e) [
        | inl j ↦ ap is_open (was_open e j).0
        | inr j ↦ absurd (true≢false (sym i ∙ ap is_open j.1))
      ]) d (ap is_open open_now) (ap is_open now_here) xs among

      -- how it is reached
      pub child_path : (j : ℕ) → Reached M N b o t (HasTaken k.bound) j es → (v : Substitution) (D : Family) (ns : List Member) → IsPicked M N b o t es v D ns x
          → IsConsistent M N (is_number x n ∷ es) b.posted → Reached M N b o t (HasTaken now) (suc j) (is_number x n ∷ es)
      child_path j r v D ns p i = goes (reached_more M N b o t (HasTaken k.bound) (HasTaken now) (λ y m g. (g.0, g.1, ap (apply (put_number d n)) g.2)) j es r) v D ns x n p i (d, at_d, now_here)
