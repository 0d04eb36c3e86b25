-- The law on touched values and pairs.
use Rattle.std.proofs.Common.{◌≤◌, ◌≡◌, ℕ, Bool, true, false, cond, ◌==◌, ◌||◌, ℤ, pos, negsuc, ◌≤ℤ◌, List, [], ◌∷◌, ◌++◌, Option, Some, None, refl, ap, sym}
use Rattle.std.proofs.Common.{◌∙◌, subst, inl, inr, ◌⊎◌, arith, eq-eqb}
use Rattle.std.proofs.lemmas.Bool.{or_left, or_right, true≢false}
use Rattle.std.proofs.lemmas.Int.{ints}
use Rattle.fd_language.specs.Term.{Term, Var, Int, Atom, Comp, Substitution, apply}
use Rattle.fd_language.specs.Unifier.{Equation, Unifies}
use Rattle.fd_language.specs.Family.{Family, has, IsFamily, IsSubset, universe}
use Rattle.fd_language.specs.Range.{Indexical, set_of, Span, Dom, Number, in_set, is_none_left}
use Rattle.fd_model.specs.ClosedFamilies.{AllPosted, constrained}
use Rattle.fd_model.specs.Models.{IsModel}
use Rattle.fd_language.proofs.Lemmas.{rising_same, has_high, has-filter, has-filter_back, in_universe, identity, solved}
use Rattle.fd_model.proofs.Lemmas.{closed_without, in_span, from_span, var_from, posted_right, named_left, posted_both, constrained_either, single_from}
use Rattle.fd_model.proofs.Lemmas.{only_member, one_term, has_general}
use Rattle.branch_meaning.specs.Heap.{after, applied_each, EquationsOf, StandsForEquations}
use Rattle.branch_meaning.specs.Store.{Touch, Value, Same, touched, posts, IsUnified, IsStored, shown_set, linked_set}
use Rattle.branch_meaning.proofs.HeapExtension.{more}
use Rattle.branch_meaning.proofs.Models.{ungrown, front}

-- a set as a term: one value is that integer
abbrev pub set_term : List ℕ → Term
set_term [] = Atom []
set_term (n ∷ []) = Int (pos n)
set_term (n ∷ m ∷ ms) = Atom (n ∷ m ∷ ms)

pub set_term_same : (xs ys : List ℕ) → set_term xs ≡ set_term ys → xs ≡ ys
set_term_same [] [] e = refl
set_term_same [] (y ∷ []) e = absurd (cc)
set_term_same [] (y ∷ z ∷ zs) e = cc
set_term_same (x ∷ []) [] e = absurd (cc)
set_term_same (x ∷ []) (y ∷ []) e = cc
set_term_same (x ∷ []) (y ∷ z ∷ zs) e = absurd (cc)
set_term_same (x ∷ w ∷ xs) [] e = cc
set_term_same (x ∷ w ∷ xs) (y ∷ []) e = absurd (cc)
set_term_same (x ∷ w ∷ xs) (y ∷ z ∷ zs) e = cc

pub set_term_int : (xs : List ℕ) (z : ℤ) → set_term xs ≡ Int z → (n : ℕ) × (xs ≡ n ∷ []) × (pos n ≡ z)
set_term_int [] z e = absurd (cc)
set_term_int (x ∷ []) z e = (x, refl, let h : pos x ≡ z = cc in h)
set_term_int (x ∷ w ∷ xs) z e = absurd (cc)

abbrev pub Full : Family → List ℕ → Type 0
Full T vs = (k : ℕ) → has vs k ≡ true → (n : ℕ) × (has (T k) n ≡ true)

-- `k in z..z`
int_of : (M : ℕ) (T : Family) (k : ℕ) (z : ℤ) → IsFamily M T → (n : ℕ) × (has (T k) n ≡ true) → IsSubset (T k) (set_of M T (Span (Number z) (Number z))) → set_term (T k) ≡ Int z
int_of M T k z f some s =
    let is : (n : ℕ) → has (T k) n ≡ true → pos n ≡ z = λ n h. (let b = from_span M T z z n (s.each n h) in between n z b.0 b.1) in
    let one : T k ≡ some.0 ∷ [] = single_from 0 M some.0 (T k) (f.rising k) some.1 (λ n h. let e : pos n ≡ pos some.0 = is n h ∙ sym (is some.0 some.1) in cc) in
    ap set_term one ∙ ap Int (is some.0 some.1)
  where
    between : (n : ℕ) (w : ℤ) → w ≤ℤ pos n → pos n ≤ℤ w → pos n ≡ w
    between n w a b = grind (arith, ints)

-- a number of a set that is a subset of U is in `dom`
in_dom : (M : ℕ) (T : Family) (j n : ℕ) → IsFamily M T → has (T j) n ≡ true → has (set_of M T (Dom j)) n ≡ true
in_dom M T j n f h = has-filter (in_set M T (Dom j)) (universe M) n (in_universe M n (has_high 0 M (T j) n (f.rising j) h)) (passes (T j) n h)
  where
    passes : (xs : List ℕ) (k : ℕ) → has xs k ≡ true → cond (is_none_left xs || false) false (has xs k) ≡ true
    passes [] k e = e
    passes (x ∷ xs) k e = e

from_dom : (M : ℕ) (T : Family) (j n : ℕ) → has (set_of M T (Dom j)) n ≡ true → has (T j) n ≡ true
from_dom M T j n h = passes (T j) n (has-filter_back (in_set M T (Dom j)) (universe M) n h).1
  where
    passes : (xs : List ℕ) (k : ℕ) → cond (is_none_left xs || false) false (has xs k) ≡ true → has xs k ≡ true
    passes [] k e = e
    passes (x ∷ xs) k e = e

abbrev pub Holds : ℕ → Family → List Indexical → Type 0
Holds M T ps = AllPosted (λ p. IsSubset (T p.target) (set_of M T p.range)) ps

-- The law: where no touched variable is without a value, the posts hold of a family exactly where its sets, as terms, unify the touches.
module _ (M : ℕ) (T : Family) (f : IsFamily M T) where
  pub as_equations : (ts : List Touch) → Full T (constrained (posts ts)) → Holds M T (posts ts) → Unifies (λ k. set_term (T k)) (touched ts)
  as_equations [] full h = tt
  as_equations (Value k z ∷ ts) full h = (
    int_of M T k z f (full k (or_left (k == k) (has (constrained (posts ts)) k) (eq-eqb k k refl))) h.0,
    as_equations ts (λ j i. full j (or_right (k == j) (has (constrained (posts ts)) j) i)) h.1,
  )
  as_equations (Same k j ∷ ts) full h = (
    ap set_term (rising_same 0 M (T k) (T j) (f.rising k) (f.rising j) (record { each = λ n i. from_dom M T j n (h.0.each n i) }) (record { each = λ n i. from_dom M T k n (h.1.0.each n i) })),
    as_equations ts (λ i e. full i (deep (k == i) (j == i) (has (constrained (posts ts)) i) e)) h.1.1,
  )
    where
      deep : (a b c : Bool) → c ≡ true → (a || (b || (b || (a || c)))) ≡ true
      deep a b c e = grind arith

  pub as_posts : (ts : List Touch) → Unifies (λ k. set_term (T k)) (touched ts) → Holds M T (posts ts)
  as_posts [] h = tt
  as_posts (Value k z ∷ ts) h = (let one = set_term_int (T k) z h.0 in record { each = λ n i. inside n one.0 one.1 one.2 i }, as_posts ts h.1)
    where
      inside : (n m : ℕ) → T k ≡ m ∷ [] → pos m ≡ z → has (T k) n ≡ true → has (set_of M T (Span (Number z) (Number z))) n ≡ true
      inside n m e g i =
          let w : m ≡ n = only_member m n (subst (λ l. has l n ≡ true) e i) in
          let v : pos n ≡ z = ap pos (sym w) ∙ g in
          in_span M T z z n (has_high 0 M (T k) n (f.rising k) i) (grind (arith, ints)) (grind (arith, ints))
  as_posts (Same k j ∷ ts) h =
      let e : T k ≡ T j = set_term_same (T k) (T j) h.0 in (
        record { each = λ n i. in_dom M T j n f (subst (λ l. has l n ≡ true) e i) },
        (record { each = λ n i. in_dom M T k n f (subst (λ l. has l n ≡ true) (sym e) i) }, as_posts ts h.1),
      )

-- what the new terms say
module _ (M N : ℕ) (es : List Equation) (ps : List Indexical) (P : ℕ → Type 0) (h : ℕ) (look : Substitution) (link : ℕ → Option ℕ) (slot : ℕ → ℕ) (qs : List Indexical)
    (st : IsStored M N es ps P h look link slot qs) (ds : List Equation) (below : EquationsOf P ds) (new : Substitution) (link' : ℕ → Option ℕ)
    (ts : List Touch) (u : IsUnified h link (applied_each look ds) new link' ts) where
  heap_more : StandsForEquations (ds ++ es) P h (after new look)
  heap_more = more es ds P h look new st.heap below u.general u.cells

  -- a linked cell's variable of the store has a value in each model
  some_value : (T : Family) → IsModel M N [] qs T → (c k : ℕ) → link c ≡ Some k → (m : ℕ) × (has (T k) m ≡ true)
  some_value T m c k e =
      let v = st.from c k e in
      let f = (st.down T m).full v.0 v.1 in
      (f.0, subst (λ j. has (T j) f.0 ≡ true) v.3 f.1)

  touched_full : (T : Family) → IsModel M N [] qs T → Full T (constrained (posts ts))
  touched_full T m k c = let l = u.named k c in some_value T m l.0 k l.1

  -- and none beyond the greatest number of a variable
  touched_low : (T : Family) → IsModel M N [] qs T → (k : ℕ) → has (constrained (posts ts)) k ≡ true → (i : ℕ) → has (T k) i ≡ true → i ≤ N
  touched_low T m k c i h =
      let l = u.named k c in
      let v = st.from l.0 k l.1 in
      (st.down T m).closed.within v.0 i v.1 (subst (λ j. has (T j) i ≡ true) (sym v.3) h)

  module _ (T : Family) (m : IsModel M N [] (qs ++ posts ts) T) where
    before : IsModel M N [] qs T
    before = front M N qs (posts ts) T m

    says : Unifies (λ k. set_term (T k)) (touched ts)
    says = as_equations M T m.closed.family ts (touched_full T before) (posted_right (λ p. IsSubset (T p.target) (set_of M T p.range)) qs (posts ts) m.closed.posted)

    some_link : (o : Option ℕ) (S : List ℕ) (k : ℕ) → has S k ≡ true → linked_set o T ≡ S → (j : ℕ) × (o ≡ Some j)
    some_link None S k e l = absurd (true≢false (sym (subst (λ x. has x k ≡ true) (sym l) e)))
    some_link (Some j) S k e l = (j, refl)

    shown_int : (xs : List ℕ) (z : ℤ) → set_term xs ≡ Int z → shown_set link' T (Int z) ≡ xs
    shown_int xs z e = let one = set_term_int xs z e in subst (λ w. shown_set link' T (Int w) ≡ xs) one.2 (sym one.1)

    at_cell : (c k : ℕ) (t : Term) → link c ≡ Some k → new c ≡ t → ((z : ℤ) × (new c ≡ Int z)) ⊎ ((d : ℕ) × (j : ℕ) × (new c ≡ Var d) × (link' d ≡ Some j)) → shown_set link' T t ≡ T k
    at_cell c k t e g (inl a) = subst (λ r. shown_set link' T r ≡ T k) (sym a.1 ∙ g) (shown_int (T k) a.0 (u.values (λ i. set_term (T i)) says c k a.0 e a.1))
    at_cell c k t e g (inr a) = subst (λ r. shown_set link' T r ≡ T k) (sym a.2 ∙ g)
        (ap (λ o. linked_set o T) a.3 ∙ sym (set_term_same (T k) (T a.1) (u.pairs (λ i. set_term (T i)) says c a.0 k a.1 e a.3 a.2)))

    still_shown : (v m : ℕ) (t : Term) (S : List ℕ) → look v ≡ t → has S m ≡ true → shown_set link T t ≡ S → shown_set link' T (apply new t) ≡ S
    still_shown v i (Var c) S e h g = (let k = some_link (link c) S i h g in at_cell c k.0 (new c) k.1 refl (u.plain c k.0 k.1) ∙ sym (ap (λ o. linked_set o T) k.1) ∙ g)
    still_shown v i (Int (pos w)) S e h g = g
    still_shown v i (Int (negsuc w)) S e h g = g
    still_shown v i (Atom a) S e h g = g
    still_shown v i (Comp f rs) S e h g = g

    pub agrees_more : (v : ℕ) → has (constrained ps) v ≡ true → shown_set link' T (after new look v) ≡ T (slot v)
    agrees_more v c = let f = (st.down T before).full v c in still_shown v f.0 (look v) (T (slot v)) refl f.1 (st.agrees T before v c)

    shown_value : (z : ℤ) (k : ℕ) → has (shown_set link' T (Int z)) k ≡ true → pos k ≡ z
    shown_value (pos w) k e = ap pos (sym (only_member w k e))
    shown_value (negsuc w) k e = absurd (true≢false (sym e))

    -- by the new terms the family is closed under the new equations
    pub down_more : IsModel M N (ds ++ es) ps (λ v. T (slot v))
    down_more =
        let old = st.down T before in
        let s = has_general (ds ++ es) (after new look) heap_more.unifies (solved (ds ++ es)) in
        let shows : (v : ℕ) (t : Term) → s.0 v ≡ t → after new look v ≡ apply (after new look) t = λ v t e. sym (s.1.general (after new look) v heap_more.unifies) ∙ ap (apply (after new look)) e in
        let set_of_term : (v : ℕ) (t : Term) → has (constrained ps) v ≡ true → s.0 v ≡ t
        → shown_set link' T (apply (after new look) t) ≡ T (slot v) = λ v t c e. subst (λ r. shown_set link' T r ≡ T (slot v)) (shows v t e)
        (agrees_more v c) in
        record {
          unifier = s.0;
          general = s.1;
          closed = record {
            family = old.closed.family;
            posted = old.closed.posted;
            values = λ v z k c e g. shown_value z k (subst (λ l. has l k ≡ true) (sym (set_of_term v (Int z) c e)) g);
            same = λ v w x c d e g. sym (set_of_term v (Var x) c e) ∙ set_of_term w (Var x) d g;
            atoms = λ v a c e. sym (set_of_term v (Atom a) c e);
            compounds = λ v g rs c e. sym (set_of_term v (Comp g rs) c e);
            within = old.closed.within;
          };
          full = old.full;
        }

  module _ (S : Family) (m : IsModel M N (ds ++ es) ps S) where
    first : IsModel M N es ps S
    first = ungrown M N ds es [] ps S m

    back : (r : Substitution) × ((x : ℕ) → P x → apply r (after new look x) ≡ m.unifier x)
    back = heap_more.through m.unifier m.general.unifies

    module _ (T : Family) (t : IsModel M N [] qs T) (equal : (v : ℕ) → has (constrained ps) v ≡ true → T (slot v) ≡ S v) where
      int_follows : (c k : ℕ) (z : ℤ) → link c ≡ Some k → new c ≡ Int z → set_term (T k) ≡ Int z
      int_follows c k z e g =
          let v = st.from c k e in
          let here : m.unifier v.0 ≡ Int z = sym (back.1 v.0 (st.used v.0 v.1)) ∙ ap (λ r. apply back.0 (apply new r)) v.2 ∙ ap (apply back.0) g in
          let f = m.full v.0 v.1 in
          let is : pos f.0 ≡ z = m.closed.values v.0 z f.0 v.1 here f.1 in
          let one : S v.0 ≡ f.0 ∷ [] = single_from 0 M f.0 (S v.0) (m.closed.family.rising v.0) f.1 (λ k i. let a : pos k ≡ pos f.0 = m.closed.values v.0 z k v.1 here i ∙ sym is in cc) in
          ap (λ j. set_term (T j)) (sym v.3) ∙ ap set_term (equal v.0 v.1 ∙ one) ∙ ap Int is

      pair_follows : (c d k j : ℕ) → link c ≡ Some k → link d ≡ Some j → new c ≡ new d → set_term (T k) ≡ set_term (T j)
      pair_follows c d k j e g same =
          let v = st.from c k e in
          let w = st.from d j g in
          let here : m.unifier v.0 ≡ apply back.0 (new d) = sym (back.1 v.0 (st.used v.0 v.1)) ∙ ap (λ r. apply back.0 (apply new r)) v.2 ∙ ap (apply back.0) same in
          let there : m.unifier w.0 ≡ apply back.0 (new d) = sym (back.1 w.0 (st.used w.0 w.1)) ∙ ap (λ r. apply back.0 (apply new r)) w.2 in
          let sets : S v.0 ≡ S w.0 = one_term M N (ds ++ es) ps S m v.0 w.0 (apply back.0 (new d)) v.1 w.1 here there in
          ap (λ i. set_term (T i)) (sym v.3) ∙ ap set_term (equal v.0 v.1 ∙ sets ∙ sym (equal w.0 w.1)) ∙ ap (λ i. set_term (T i)) w.3

      posts_hold : Holds M T (posts ts)
      posts_hold = as_posts M T t.closed.family ts (u.follow (λ k. set_term (T k)) int_follows pair_follows)

      full_more : (k : ℕ) → has (constrained (qs ++ posts ts)) k ≡ true → (i : ℕ) × (has (T k) i ≡ true)
      full_more k c = elim (constrained_either qs (posts ts) k c) [ inl a ↦ t.full k a | inr a ↦ touched_full T t k a ]

      low_more : (k i : ℕ) → has (constrained (qs ++ posts ts)) k ≡ true → has (T k) i ≡ true → i ≤ N
      low_more k i c h = elim (constrained_either qs (posts ts) k c) [ inl a ↦ t.closed.within k i a h | inr a ↦ touched_low T t k a i h ]

      pub up_more : IsModel M N [] (qs ++ posts ts) T
      up_more = record {
        unifier = Var;
        general = identity;
        closed = closed_without M N (qs ++ posts ts) T t.closed.family (posted_both (λ p. IsSubset (T p.target) (set_of M T p.range)) qs (posts ts) t.closed.posted posts_hold) low_more;
        full = full_more;
      }

  still_linked : (c k d : ℕ) → new c ≡ Var d → ((z : ℤ) × (new c ≡ Int z)) ⊎ ((d' : ℕ) × (j : ℕ) × (new c ≡ Var d') × (link' d' ≡ Some j)) → (j : ℕ) × (link' d ≡ Some j)
  still_linked c k d e (inl a) = absurd (let f : Int a.0 ≡ Var d = sym a.1 ∙ e in cc)
  still_linked c k d e (inr a) = (a.1, let f : Var a.0 ≡ Var d = sym a.2 ∙ e in let g : a.0 ≡ d = cc in subst (λ i. link' i ≡ Some a.1) g a.3)

  -- One unification: the heap with the new terms and the store with the posts stand for the branch with the new equations.
  pub unified : IsStored M N (ds ++ es) ps P h (after new look) link' slot (qs ++ posts ts)
  unified = record {
    heap = heap_more;
    used = st.used;
    down = down_more;
    up = λ S m. (let t = st.up S (first S m) in (t.0, up_more S m t.0 t.1 t.2, t.2));
    agrees = agrees_more;
    slots = λ v c. named_left qs (posts ts) (slot v) (st.slots v c);
    linked = λ v c e f. (let old = var_from new (look v) c f in let o = st.linked v old.0 e old.1 in still_linked old.0 o.0 c (ap (apply new) (sym old.1) ∙ f) (u.plain old.0 o.0 o.1));
    from = λ c k e. (
        let o = u.still c k e in
        let v = st.from c k o.0 in
        (v.0, v.1, ap (apply new) v.2 ∙ o.1, v.3)
        );
  }
