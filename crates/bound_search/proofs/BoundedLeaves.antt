-- Leaves with a bound on the cost: by Leftmost they are the leaves without it, but for some whose cost is no better than the bound's.
use Rattle.std.proofs.Common.{◌≡◌, ℕ, Bool, true, false, cond, ◌==◌, ℤ, pos, int_le, List, [], ◌∷◌, ◌++◌, map, filter, Option, Some, None, ◌⊎◌, inl, inr}
use Rattle.std.proofs.Common.{refl, ap, sym, ◌∙◌, subst, arith, eq-eqb, eqb-true, append_assoc}
use Rattle.std.proofs.lemmas.Bool.{cases_Bool, or_cases, or_right, true≢false}
use Rattle.std.proofs.lemmas.Int.{ints}
use Rattle.fd_language.specs.Term.{Var}
use Rattle.fd_language.specs.Family.{Family, has, IsFamily, IsInside, IsRising, IsSubset}
use Rattle.fd_language.specs.Range.{Indexical, set_of}
use Rattle.fd_language.specs.SingleValues.{only}
use Rattle.fd_language.proofs.Lemmas.{identity, only_member, first_member, has-filter, has-filter_back, has_high, rising-filter, rising_same}
use Rattle.fd_model.specs.declared.kinds.Order.TheVariants.{Leftmost}
use Rattle.fd_model.specs.ClosedFamilies.{AllPosted, constrained}
use Rattle.fd_model.specs.Domains.{Domains}
use Rattle.fd_model.specs.BranchViews.{IsConsistent}
use Rattle.fd_model.specs.Labelling.{open_ones, first_open}
use Rattle.fd_model.specs.Leaves.{IsBetter, IsAsGood}
use Rattle.fd_model.specs.Members.{Member, Open, Known}
use Rattle.fd_model.specs.PostedLeaves.{AreLeft, open_unless, seen_in, picked_in, exactly, with_value, KeptLists, PostedLeaves, no_leaves, leaf, grows}
use Rattle.fd_model.specs.BestPosted.{Costs, HaveValues}
use Rattle.fd_model.proofs.Lemmas.{AllMonotone, monotone_more, greatest_for, closed_either, whole, in_span, posted_both, posted_left, posted_right}
use Rattle.fd_model.proofs.Lemmas.{left_once, left_narrower, left_exactly, left_some, inconsistent_by, consistent_by, single_from, some_only, none_picked, end_only}

-- one of two numbers is better, or the other is as good
better_or_good : (least : Bool) (n : ℕ) (z : ℤ) → IsBetter least (pos n) z ⊎ IsAsGood least z (pos n)
better_or_good true n z = elim (cases_Bool (int_le z (pos n))) [ inl h ↦ inr (grind (arith, ints)) | inr h ↦ inl (grind (arith, ints)) ]
better_or_good false n z = elim (cases_Bool (int_le (pos n) z)) [ inl h ↦ inr (grind (arith, ints)) | inr h ↦ inl (grind (arith, ints)) ]

none_left : (ns : List ℕ) → filter (has []) ns ≡ []
none_left [] = refl
none_left (n ∷ ns) = none_left ns

-- the members of a part of rising numbers
filtered : (M : ℕ) (xs ys : List ℕ) → IsRising 0 M xs → IsRising 0 M ys → IsSubset ys xs → filter (has ys) xs ≡ ys
filtered M xs ys r s i = rising_same 0 M (filter (has ys) xs) ys (rising-filter (has ys) 0 M xs r) s
    (record { each = λ n h. (has-filter_back (has ys) xs n h).1 }) (record { each = λ n h. has-filter (has ys) xs n (i.each n h) h })

-- where a set has a value its only value stays, and none of one value becomes one of several
module _ (M : ℕ) (D E : Family) (rises : IsFamily M E) (inside : IsInside E D) (some : (x : ℕ) → (n : ℕ) × (has (E x) n ≡ true)) where
  pub single : (y n : ℕ) → only (D y) ≡ Some n → only (E y) ≡ Some n
  single y n e =
      let in_one : (j : ℕ) → has (E y) j ≡ true → j ≡ n = λ j g. sym (only_member n j (subst (λ l. has l j ≡ true) (some_only (D y) n e) ((inside.at y).each j g))) in
      ap only (single_from 0 M n (E y) (rises.rising y) (subst (λ j. has (E y) j ≡ true) (in_one (some y).0 (some y).1) (some y).1) in_one)

  none_still : (ms : List Member) → first_open (map (seen_in D) ms) ≡ None → first_open (map (seen_in E) ms) ≡ None
  none_still [] e = refl
  none_still (Known z ∷ ms) e = none_still ms e
  none_still (Open y ∷ ms) e = by_sets (only (D y)) (only (E y)) refl refl e (none_still ms)
    where
      by_sets : (a b : Option ℕ) → only (D y) ≡ a → only (E y) ≡ b → first_open (open_unless y a ∷ map (seen_in D) ms) ≡ None
          → (first_open (map (seen_in D) ms) ≡ None → first_open (map (seen_in E) ms) ≡ None) → first_open (open_unless y b ∷ map (seen_in E) ms) ≡ None
      by_sets None b f g h later = absurd (let k : ⊥ = cc in k)
      by_sets (Some n) (Some k) f g h later = later h
      by_sets (Some n) None f g h later = absurd (let j = single y n f in let k : ⊥ = cc in k)

  first_still : (x : ℕ) → only (E x) ≡ None → (ms : List Member) → first_open (map (seen_in D) ms) ≡ Some x → first_open (map (seen_in E) ms) ≡ Some x
  first_still x o [] e = absurd (let k : ⊥ = cc in k)
  first_still x o (Known z ∷ ms) e = first_still x o ms e
  first_still x o (Open y ∷ ms) e = by_sets (only (D y)) (only (E y)) refl refl e (first_still x o ms)
    where
      here : (b : Option ℕ) → only (E y) ≡ b → y ≡ x → first_open (open_unless y b ∷ map (seen_in E) ms) ≡ Some x
      here None g j = ap Some j
      here (Some k) g j = absurd (let i = ap (λ v. only (E v)) j in let c : ⊥ = cc in c)

      by_sets : (a b : Option ℕ) → only (D y) ≡ a → only (E y) ≡ b → first_open (open_unless y a ∷ map (seen_in D) ms) ≡ Some x
          → (first_open (map (seen_in D) ms) ≡ Some x → first_open (map (seen_in E) ms) ≡ Some x) → first_open (open_unless y b ∷ map (seen_in E) ms) ≡ Some x
      by_sets None b f g h later = here b g (let j : y ≡ x = cc in j)
      by_sets (Some n) (Some k) f g h later = later h
      by_sets (Some n) None f g h later = absurd (let j = single y n f in let k : ⊥ = cc in k)

module _ (M : ℕ) where
  -- the ranges of a list, in the family
  abbrev pub InRanges : Family → List Indexical → Type 0
  InRanges S ps = AllPosted (λ p. IsSubset (S p.target) (set_of M S p.range)) ps

  -- there are sets that monotone ranges leave, and they lie in the ranges
  left_with : (ps : List Indexical) → AllMonotone M ps → (D : Family) × AreLeft M ps D × InRanges D ps
  left_with ps m =
      let d = greatest_for M M Var ps m in (
        d.0,
        record {
          family = d.1.family;
          domains = λ x n. (
            λ h. record { unifier = Var; general = identity; family = d.0; closed = d.1; member = h },
            λ e. ((d.2 e.family (closed_either M M [] Var e.unifier ps e.family identity e.general e.closed)).at x).each n e.member,
          );
        },
        d.1.posted,
      )

  left_ranges : (ps : List Indexical) (D : Family) → AllMonotone M ps → AreLeft M ps D → InRanges D ps
  left_ranges ps D m d = let e = left_with ps m in subst (λ (S : Family). InRanges S ps) (left_once M ps e.0 D e.1 d) e.2

  -- what a family has that the ranges don't narrow, they leave
  left_has : (ps : List Indexical) (D S : Family) (x n : ℕ) → AreLeft M ps D → IsFamily M S → InRanges S ps → has (S x) n ≡ true → has (D x) n ≡ true
  left_has ps D S x n d f r h = (d.domains x n).1 (record { unifier = Var; general = identity; family = S; closed = whole M ps S f r; member = h })

  -- whether ranges are consistent
  all_some : (D : Family) (xs : List ℕ) → ((x : ℕ) → has xs x ≡ true → (n : ℕ) × (has (D x) n ≡ true)) ⊎ ((x : ℕ) × ((n : ℕ) → has (D x) n ≡ true → ⊥))
  all_some D [] = inl (λ x h. absurd (true≢false (sym h)))
  all_some D (y ∷ ys) = by_set (D y) refl (all_some D ys)
    where
      more : (n : ℕ) (ns : List ℕ) → D y ≡ n ∷ ns → ((x : ℕ) → has ys x ≡ true → (n : ℕ) × (has (D x) n ≡ true)) → (x : ℕ) → has (y ∷ ys) x ≡ true → (n : ℕ) × (has (D x) n ≡ true)
      more n ns e f x h = elim (or_cases (y == x) (has ys x) h) [
        | inl g ↦ (n, subst (λ v. has (D v) n ≡ true) (eqb-true y x g) (subst (λ l. has l n ≡ true) (sym e) (first_member n ns)))
        | inr g ↦ f x g
      ]

      by_set : (l : List ℕ) → D y ≡ l → ((x : ℕ) → has ys x ≡ true → (n : ℕ) × (has (D x) n ≡ true)) ⊎ ((x : ℕ) × ((n : ℕ) → has (D x) n ≡ true → ⊥))
          → ((x : ℕ) → has (y ∷ ys) x ≡ true → (n : ℕ) × (has (D x) n ≡ true)) ⊎ ((x : ℕ) × ((n : ℕ) → has (D x) n ≡ true → ⊥))
      by_set [] e r = inr (y, λ n h. true≢false (sym (subst (λ l. has l n ≡ true) e h)))
      by_set (n ∷ ns) e (inl f) = inl (more n ns e f)
      by_set (n ∷ ns) e (inr g) = inr g

  decide : (ps : List Indexical) → AllMonotone M ps → IsConsistent M M [] ps ⊎ (IsConsistent M M [] ps → ⊥)
  decide ps m =
      let d = left_with ps m in
      elim (all_some d.0 (constrained ps)) [
        | inl f ↦ inl (record { unifier = Var; general = identity; some = λ x h. (let n = f x h in (n.0, (d.1.domains x n.0).0 n.1)) })
        | inr g ↦ inr (inconsistent_by M ps g.0 (λ n e. g.1 n ((d.1.domains g.0 n).1 e)))
      ]

  -- with a value more it is consistent only if it is without, and the value is among those that were left
  pub kept_first : (ps : List Indexical) (D : Family) (x n : ℕ) → AllMonotone M ps → AreLeft M ps D → IsConsistent M M [] (with_value ps x n) → IsConsistent M M [] ps × (has (D x) n ≡ true)
  kept_first ps D x n m d c =
      let e = left_with (with_value ps x n) (monotone_more M ps x n m) in
      let inside = left_narrower M ps (exactly x n ∷ []) D e.0 d e.1 in
      let some = left_some M (with_value ps x n) e.0 c e.1 in
      let here = some x in (
        consistent_by M ps (λ y. (let s = some y in (s.0, (d.domains y s.0).0 ((inside.at y).each s.0 s.1)))),
        (inside.at x).each n (subst (λ k. has (e.0 x) k ≡ true) (left_exactly M ps x n e.0 e.1 here.0 here.1) here.1),
      )

  module _ (ms : List Member) (least : Bool) (k : ℕ) (z : ℤ) where
    -- The second list is the first one with a bound: what it doesn't narrow the first one doesn't, and what the first one doesn't it doesn't where the cost is better.
    pub record IsUnder (ps qs : List Indexical) : Type 0 where
      pub first : AllMonotone M ps
      pub monotone : AllMonotone M qs
      pub keeps : (S : Family) → IsFamily M S → InRanges S qs → InRanges S ps
      pub lasts : (S : Family) → IsFamily M S → InRanges S ps → ((n : ℕ) → has (S k) n ≡ true → IsBetter least (pos n) z) → InRanges S qs

    pub under_inside : (ps qs : List Indexical) (D E : Family) → IsUnder ps qs → AreLeft M ps D → AreLeft M qs E → IsInside E D
    under_inside ps qs D E b d e = record {
      at = λ x. record { each = λ n h. left_has ps D E x n d e.family (b.keeps E e.family (left_ranges qs E b.monotone e)) h };
    }

    under_consistent : (ps qs : List Indexical) → IsUnder ps qs → IsConsistent M M [] qs → IsConsistent M M [] ps
    under_consistent ps qs b c =
        let d = left_with ps b.first in
        let e = left_with qs b.monotone in
        consistent_by M ps (λ x. (let s = left_some M qs e.0 c e.1 x in (s.0, (d.1.domains x s.0).0 (((under_inside ps qs d.0 e.0 b d.1 e.1).at x).each s.0 s.1))))

    -- a value more for both
    pub under_more : (ps qs : List Indexical) (x n : ℕ) → IsUnder ps qs → IsUnder (with_value ps x n) (with_value qs x n)
    under_more ps qs x n b = record {
      first = monotone_more M ps x n b.first;
      monotone = monotone_more M qs x n b.monotone;
      keeps = λ S f r. posted_both (λ p. IsSubset (S p.target) (set_of M S p.range)) ps (exactly x n ∷ [])
          (b.keeps S f (posted_left (λ p. IsSubset (S p.target) (set_of M S p.range)) qs (exactly x n ∷ []) r))
          (posted_right (λ p. IsSubset (S p.target) (set_of M S p.range)) qs (exactly x n ∷ []) r);
      lasts = λ S f r g. posted_both (λ p. IsSubset (S p.target) (set_of M S p.range)) qs (exactly x n ∷ [])
          (b.lasts S f (posted_left (λ p. IsSubset (S p.target) (set_of M S p.range)) ps (exactly x n ∷ []) r) g)
          (posted_right (λ p. IsSubset (S p.target) (set_of M S p.range)) ps (exactly x n ∷ []) r);
    }

    -- a value more for the first one, which is the only one that the bound leaves
    under_only : (ps qs : List Indexical) (E : Family) (x v : ℕ) → IsUnder ps qs → AreLeft M qs E → only (E x) ≡ Some v → IsUnder (with_value ps x v) qs
    under_only ps qs E x v b e o = record {
      first = monotone_more M ps x v b.first;
      monotone = b.monotone;
      keeps = λ S f r. posted_both (λ p. IsSubset (S p.target) (set_of M S p.range)) ps (exactly x v ∷ []) (b.keeps S f r) (alone S f r, tt);
      lasts = λ S f r g. b.lasts S f (posted_left (λ p. IsSubset (S p.target) (set_of M S p.range)) ps (exactly x v ∷ []) r) g;
    }
      where
        alone : (S : Family) → IsFamily M S → InRanges S qs → IsSubset (S x) (set_of M S (exactly x v).range)
        alone S f r = record {
          each = λ n h.
              let same : v ≡ n = only_member v n (subst (λ l. has l n ≡ true) (some_only (E x) v o) (left_has qs E S x n e f r h)) in
              in_span M S (pos v) (pos v) n (has_high 0 M (S x) n (f.rising x) h) (omega (arith, ints)) (omega (arith, ints));
        }

    -- each of the first lists with a bound, where this is consistent
    abbrev pub AreBounded : List (List Indexical) → List (List Indexical) → Type 0
    AreBounded [] ds = ds ≡ []
    AreBounded (b ∷ bs) ds =
        (q : List Indexical) × IsUnder b q × IsConsistent M M [] b
        × ((IsConsistent M M [] q × ((es : List (List Indexical)) × (ds ≡ q ∷ es) × AreBounded bs es)) ⊎ ((IsConsistent M M [] q → ⊥) × AreBounded bs ds))

    bounded_both : (cs ds bs es : List (List Indexical)) → AreBounded cs ds → AreBounded bs es → AreBounded (cs ++ bs) (ds ++ es)
    bounded_both [] ds bs es h g = subst (λ (l : List (List Indexical)). AreBounded bs (l ++ es)) (sym h) g
    bounded_both (c ∷ cs) ds bs es h g = (h.0, h.1, h.2, by_kept h.3 (λ l i. bounded_both cs l bs es i g))
      where
        by_kept : (IsConsistent M M [] h.0 × ((l : List (List Indexical)) × (ds ≡ h.0 ∷ l) × AreBounded cs l)) ⊎ ((IsConsistent M M [] h.0 → ⊥) × AreBounded cs ds)
            → ((l : List (List Indexical)) → AreBounded cs l → AreBounded (cs ++ bs) (l ++ es))
            → (IsConsistent M M [] h.0 × ((l : List (List Indexical)) × (ds ++ es ≡ h.0 ∷ l) × AreBounded (cs ++ bs) l)) ⊎ ((IsConsistent M M [] h.0 → ⊥) × AreBounded (cs ++ bs) (ds ++ es))
        by_kept (inl i) later = inl (i.0, (i.1.0 ++ es, ap (λ (l : List (List Indexical)). l ++ es) i.1.1, later i.1.0 i.1.2))
        by_kept (inr i) later = inr (i.0, later ds i.1)

    -- The children of a list, each with a bound.
    module _ (b : List Indexical) (x : ℕ) (ys : List ℕ) (r : ℕ → List Indexical) (within : (n : ℕ) → IsUnder (with_value b x n) (r n))
        (among : (n : ℕ) → IsConsistent M M [] (r n) → has ys n ≡ true)
      where
        pub record AreChildren (ns : List ℕ) (cs : List (List Indexical)) : Type 0 where
          pub kids : List (List Indexical)
          pub bounded : AreBounded cs kids
          pub kept : KeptLists M (map r (filter (has ys) ns)) kids

        none_kept : (n : ℕ) (ns : List ℕ) (kids : List (List Indexical)) → (IsConsistent M M [] (r n) → ⊥) → KeptLists M (map r (filter (has ys) ns)) kids
            → KeptLists M (map r (filter (has ys) (n ∷ ns))) kids
        none_kept n ns kids c h = by_test (has ys n)
          where
            by_test : (t : Bool) → KeptLists M (map r (cond t (n ∷ filter (has ys) ns) (filter (has ys) ns))) kids
            by_test true = inr (c, h)
            by_test false = h

        one_kept : (n : ℕ) (ns : List ℕ) (kids : List (List Indexical)) → IsConsistent M M [] (r n) → KeptLists M (map r (filter (has ys) ns)) kids
            → KeptLists M (map r (filter (has ys) (n ∷ ns))) (r n ∷ kids)
        one_kept n ns kids c h = subst (λ t. KeptLists M (map r (cond t (n ∷ filter (has ys) ns) (filter (has ys) ns))) (r n ∷ kids)) (sym (among n c)) (inl (c, (kids, refl, h)))

        pub children_of : (ns : List ℕ) (cs : List (List Indexical)) → KeptLists M (map (with_value b x) ns) cs → AreChildren ns cs
        children_of [] cs k = record { kids = []; bounded = subst (λ (l : List (List Indexical)). AreBounded l []) (sym k) refl; kept = refl }
        children_of (n ∷ ns) cs (inl k) = by_bound (decide (r n) (within n).monotone) (children_of ns k.1.0 k.1.2)
          where
            by_bound : IsConsistent M M [] (r n) ⊎ (IsConsistent M M [] (r n) → ⊥) → AreChildren ns k.1.0 → AreChildren (n ∷ ns) cs
            by_bound (inl c) h = record {
              kids = r n ∷ h.kids;
              bounded = subst (λ (l : List (List Indexical)). AreBounded l (r n ∷ h.kids)) (sym k.1.1) (r n, within n, k.0, inl (c, (h.kids, refl, h.bounded)));
              kept = one_kept n ns h.kids c h.kept;
            }
            by_bound (inr c) h = record {
              kids = h.kids;
              bounded = subst (λ (l : List (List Indexical)). AreBounded l h.kids) (sym k.1.1) (r n, within n, k.0, inr (c, h.bounded));
              kept = none_kept n ns h.kids c h.kept;
            }
        children_of (n ∷ ns) cs (inr k) =
            let h = children_of ns cs k.1 in
            record { kids = h.kids; bounded = h.bounded; kept = none_kept n ns h.kids (λ c. k.0 (under_consistent (with_value b x n) (r n) (within n) c)) h.kept }

    -- no child is consistent under a bound that isn't
    pub none_under : (b q : List Indexical) (x : ℕ) → IsUnder b q → (IsConsistent M M [] q → ⊥) → (ns : List ℕ) (cs : List (List Indexical)) → KeptLists M (map (with_value b x) ns) cs → AreBounded cs []
    none_under b q x h none ns cs kept =
        let e = left_with q h.monotone in
        let kids = children_of b x [] (λ n. with_value q x n) (λ n. under_more b q x n h) (λ n c. absurd (none (kept_first q e.0 x n h.monotone e.1 c).0)) ns cs kept in
        let empty : kids.kids ≡ [] = subst (λ vs. KeptLists M (map (with_value q x) vs) kids.kids) (none_left ns) kids.kept in
        subst (AreBounded cs) empty kids.bounded

    -- The leaves, without some that are no better.
    pub record IsSameLeaf (l j : List Indexical) : Type 0 where
      pub costs : (c : ℤ) → Costs M (Open k) j c → Costs M (Open k) l c
      pub values : (ns : List ℕ) → HaveValues M (open_ones ms) j ns → HaveValues M (open_ones ms) l ns

    abbrev pub AreThinned : List (List Indexical) → List (List Indexical) → Type 0
    AreThinned [] ks = ks ≡ []
    AreThinned (l ∷ ls) ks =
        ((c : ℤ) × Costs M (Open k) l c × IsAsGood least z c × AreThinned ls ks)
        ⊎ ((j : List Indexical) × (js : List (List Indexical)) × (ks ≡ j ∷ js) × IsSameLeaf l j × AreThinned ls js)

    pub record HasBoundedLeaves (ls ds : List (List Indexical)) : Type 0 where
      pub leaves : List (List Indexical)
      pub come : PostedLeaves M Leftmost ms ds leaves
      pub thinned : AreThinned ls leaves

    module _ (is_cost : has (open_ones ms) k ≡ true) where
      -- a leaf whose cost is better stays consistent under the bound
      leaf_skipped : (b q : List Indexical) (D : Family) → IsUnder b q → IsConsistent M M [] b → (IsConsistent M M [] q → ⊥) → AreLeft M b D → picked_in Leftmost D ms ≡ None
          → (c : ℤ) × Costs M (Open k) b c × IsAsGood least z c
      leaf_skipped b q D h c worse d e =
          let n = end_only D ms (none_picked Leftmost D (map (seen_in D) ms) e) k is_cost in (
            pos n.0,
            record { family = D; left = d; seen = ap (open_unless k) n.1 },
            elim (better_or_good least n.0 z) [ inl g ↦ absurd (worse (still n.0 n.1 g)) | inr g ↦ g ],
          )
        where
          still : (n : ℕ) → only (D k) ≡ Some n → IsBetter least (pos n) z → IsConsistent M M [] q
          still n f g =
              let r = h.lasts D d.family (left_ranges b D h.first d) (λ i m. subst (λ j. IsBetter least (pos j) z) (only_member n i (subst (λ l. has l i ≡ true) (some_only (D k) n f) m)) g) in
              let e = left_with q h.monotone in
              consistent_by M q (λ x. (let s = left_some M b D c d x in (s.0, (e.1.domains x s.0).0 (left_has q e.0 D x s.0 e.1 d.family r s.1))))

      -- where one set has a part of each set of the other
      same_leaf : (b q : List Indexical) (D E : Family) → IsUnder b q → AreLeft M b D → AreLeft M q E → IsConsistent M M [] q → picked_in Leftmost D ms ≡ None → IsSameLeaf b q
      same_leaf b q D E h d e c p = record {
        costs = λ w i. record { family = D; left = d; seen = seen_same w (ap (λ S. seen_in S (Open k)) (left_once M q E i.family e i.left) ∙ i.seen) };
        values = λ ns i. record { family = D; left = d; values = all_same (open_ones ms) (λ x g. ended x g) ∙ ap (λ (S : Family). map S (open_ones ms)) (left_once M q E i.family e i.left) ∙ i.values };
      }
        where
          ended : (x : ℕ) → has (open_ones ms) x ≡ true → D x ≡ E x
          ended x g =
              let n = end_only D ms (none_picked Leftmost D (map (seen_in D) ms) p) x g in
              let o = single M D E e.family (under_inside b q D E h d e) (left_some M q E c e) x n.0 n.1 in
              some_only (D x) n.0 n.1 ∙ sym (some_only (E x) n.0 o)

          seen_same : (w : ℤ) → seen_in E (Open k) ≡ Known w → seen_in D (Open k) ≡ Known w
          seen_same w f = ap (λ l. open_unless k (only l)) (ended k is_cost) ∙ f

          all_same : (xs : List ℕ) → ((x : ℕ) → has xs x ≡ true → D x ≡ E x) → map D xs ≡ map E xs
          all_same [] f = refl
          all_same (x ∷ xs) f =
              let here : D x ≡ E x = f x (first_member x xs) in
              let rest : map D xs ≡ map E xs = all_same xs (λ y i. f y (or_right (x == y) (has xs y) i)) in
              ap (λ l. l ∷ map D xs) here ∙ ap (λ (l : List (List ℕ)). E x ∷ l) rest

      -- what the children of a list with a bound give
      module _ {ls : List (List Indexical)} (b q : List Indexical) (bs : List (List Indexical)) (D : Family) (x : ℕ) (cs : List (List Indexical)) (h : IsUnder b q) (d : AreLeft M b D)
          (p : picked_in Leftmost D ms ≡ Some x) (kept : KeptLists M (map (with_value b x) (D x)) cs)
          (go : (ds : List (List Indexical)) → AreBounded (cs ++ bs) ds → HasBoundedLeaves ls ds)
        where
          -- none, where it isn't consistent,
          under_none : (ds : List (List Indexical)) → (IsConsistent M M [] q → ⊥) → AreBounded bs ds → HasBoundedLeaves ls ds
          under_none ds none more =
              go ds (bounded_both cs [] bs ds (none_under b q x h none (D x) cs kept) more)

          module _ (E : Family) (e : AreLeft M q E) (c : IsConsistent M M [] q) (es : List (List Indexical)) (more : AreBounded bs es) where
            inside : IsInside E D
            inside = under_inside b q D E h d e

            there : filter (has (E x)) (D x) ≡ E x
            there = filtered M (D x) (E x) (d.family.rising x) (e.family.rising x) (inside.at x)

            -- those of its own children, where it leaves the picked variable several values,
            under_several : only (E x) ≡ None → HasBoundedLeaves ls (q ∷ es)
            under_several o =
                let kids = children_of b x (E x) (λ n. with_value q x n) (λ n. under_more b q x n h) (λ n i. (kept_first q E x n h.monotone e i).1) (D x) cs kept in
                let own : KeptLists M (map (with_value q x) (E x)) kids.kids = subst (λ ns. KeptLists M (map (with_value q x) ns) kids.kids) there kids.kept in
                let made = go (kids.kids ++ es) (bounded_both cs kids.kids bs es kids.bounded more) in
                record {
                  leaves = made.leaves;
                  come = grows E x kids.kids e (first_still M D E e.family inside (left_some M q E c e) x o ms p) own made.come;
                  thinned = made.thinned;
                }

            -- and its own, where it leaves it one.
            module _ (v : ℕ) (o : only (E x) ≡ Some v) where
              abbrev r : ℕ → List Indexical
              r n = cond (n == v) q (with_value q x n)

              within : (n : ℕ) → IsUnder (with_value b x n) (r n)
              within n = by_test (n == v) refl
                where
                  by_test : (t : Bool) → (n == v) ≡ t → IsUnder (with_value b x n) (cond t q (with_value q x n))
                  by_test true f = under_only b q E x n h e (o ∙ ap Some (sym (eqb-true n v f)))
                  by_test false f = under_more b q x n h

              among : (n : ℕ) → IsConsistent M M [] (r n) → has (E x) n ≡ true
              among n i = by_test (n == v) refl i
                where
                  by_test : (t : Bool) → (n == v) ≡ t → IsConsistent M M [] (cond t q (with_value q x n)) → has (E x) n ≡ true
                  by_test true f j = subst (λ l. has l n ≡ true) (sym (some_only (E x) v o)) (subst (λ m. has (m ∷ []) n ≡ true) (eqb-true n v f) (first_member n []))
                  by_test false f j = (kept_first q E x n h.monotone e j).1

              alone : (kids : List (List Indexical)) → KeptLists M (q ∷ []) kids → kids ≡ q ∷ []
              alone kids (inl i) = i.1.1 ∙ ap (λ (l : List (List Indexical)). q ∷ l) i.1.2
              alone kids (inr i) = absurd (i.0 c)

              under_one : HasBoundedLeaves ls (q ∷ es)
              under_one =
                  let kids = children_of b x (E x) r within among (D x) cs kept in
                  let one : KeptLists M (r v ∷ []) kids.kids = subst (λ ns. KeptLists M (map r ns) kids.kids) (there ∙ some_only (E x) v o) kids.kept in
                  let own : KeptLists M (q ∷ []) kids.kids = subst (λ (l : List Indexical). KeptLists M (l ∷ []) kids.kids) (ap (λ t. cond t q (with_value q x v)) (eq-eqb v v refl)) one in
                  subst (λ (l : List (List Indexical)). HasBoundedLeaves ls (l ++ es)) (alone kids.kids own) (go (kids.kids ++ es) (bounded_both cs kids.kids bs es kids.bounded more))

            under_some : HasBoundedLeaves ls (q ∷ es)
            under_some = by_set (only (E x)) refl
              where
                by_set : (s : Option ℕ) → only (E x) ≡ s → HasBoundedLeaves ls (q ∷ es)
                by_set None o = under_several o
                by_set (Some v) o = under_one v o

      -- Lists with a bound have the leaves of those without it, but for some that are no better.
      pub bounded_leaves : {bs ls : List (List Indexical)} → PostedLeaves M Leftmost ms bs ls → (ds : List (List Indexical)) → AreBounded bs ds → HasBoundedLeaves ls ds
      bounded_leaves no_leaves ds h = record { leaves = []; come = subst (λ (l : List (List Indexical)). PostedLeaves M Leftmost ms l []) (sym h) no_leaves; thinned = refl }
      bounded_leaves (leaf {b = b} {bs = bs} {ls = ls} D d p l) ds h = by_bound h.3 (λ es i. bounded_leaves l es i)
        where
          by_bound : (IsConsistent M M [] h.0 × ((es : List (List Indexical)) × (ds ≡ h.0 ∷ es) × AreBounded bs es)) ⊎ ((IsConsistent M M [] h.0 → ⊥) × AreBounded bs ds)
              → ((es : List (List Indexical)) → AreBounded bs es → HasBoundedLeaves ls es) → HasBoundedLeaves (b ∷ ls) ds
          by_bound (inl i) go =
              let made = go i.1.0 i.1.2 in
              let e = left_with h.0 h.1.monotone in
              let still = none_still M D e.0 e.1.family (under_inside b h.0 D e.0 h.1 d e.1) (left_some M h.0 e.0 i.0 e.1) ms p in
              record {
                leaves = h.0 ∷ made.leaves;
                come = subst (λ (l : List (List Indexical)). PostedLeaves M Leftmost ms l (h.0 ∷ made.leaves)) (sym i.1.1) (leaf e.0 e.1 still made.come);
                thinned = inr (h.0, made.leaves, refl, same_leaf b h.0 D e.0 h.1 d e.1 i.0 p, made.thinned);
              }
          by_bound (inr i) go =
              let made = go ds i.1 in
              let c = leaf_skipped b h.0 D h.1 h.2 i.0 d p in
              record { leaves = made.leaves; come = made.come; thinned = inl (c.0, c.1, c.2, made.thinned) }
      bounded_leaves (grows {b = b} {bs = bs} {ls = ls} D x cs d p kept l) ds h = by_bound h.3 (λ es i. bounded_leaves l es i)
        where
          by_bound : (IsConsistent M M [] h.0 × ((es : List (List Indexical)) × (ds ≡ h.0 ∷ es) × AreBounded bs es)) ⊎ ((IsConsistent M M [] h.0 → ⊥) × AreBounded bs ds)
              → ((es : List (List Indexical)) → AreBounded (cs ++ bs) es → HasBoundedLeaves ls es) → HasBoundedLeaves ls ds
          by_bound (inl i) go =
              let e = left_with h.0 h.1.monotone in
              subst (λ (l : List (List Indexical)). HasBoundedLeaves ls l) (sym i.1.1) (under_some b h.0 bs D x cs h.1 d p kept go e.0 e.1 i.0 i.1.0 i.1.2)
          by_bound (inr i) go = under_none b h.0 bs D x cs h.1 d p kept go ds i.0 i.1
