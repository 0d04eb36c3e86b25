-- Leaves of posted lists and the assignments that keep the posted ranges.
use Rattle.std.proofs.Common.{◌≡◌, ℕ, ◌≤◌, true, ◌==◌, List, [], ◌∷◌, ◌++◌, map, Some, None, pos, refl, ap, sym, ◌∙◌, subst, inl, inr, arith, eqb-true}
use Rattle.std.proofs.Common.{append_assoc, append-nil}
use Rattle.std.proofs.lemmas.Bool.{or_cases, or_right, true≢false}
use Rattle.std.proofs.lemmas.Int.{ints}
use Rattle.fd_model.specs.declared.kinds.Order.{Order}
use Rattle.fd_language.specs.Family.{Family, has, IsFamily, IsInside, IsSubset}
use Rattle.fd_language.specs.Lists.{Each}
use Rattle.fd_language.specs.Range.{Indexical, set_of, reads, least}
use Rattle.fd_language.specs.SingleValues.{only}
use Rattle.fd_language.proofs.Lemmas.{first_member, only_member, least_small, set_agree, in_left, in_right}
use Rattle.fd_model.specs.Answers.{Somewhere, OneValue}
use Rattle.fd_model.specs.ClosedFamilies.{AllPosted, constrained}
use Rattle.fd_model.specs.Domains.{Domains}
use Rattle.fd_model.specs.Labelling.{open_ones}
use Rattle.fd_model.specs.Members.{Member}
use Rattle.fd_model.specs.PostedLeaves.{AreLeft, seen_in, picked_in, exactly, with_value, KeptLists, PostedLeaves, no_leaves, leaf, grows}
use Rattle.fd_model.specs.BestPosted.{HaveValues}
use Rattle.fd_model.specs.PostedLaws.{Keeps, IsWhole, LeavesAreKept, KeptAreLeaves}
use Rattle.fd_model.specs.Satisfaction.{Assignment, singles}
use Rattle.fd_model.specs.BranchViews.{IsConsistent}
use Rattle.fd_model.proofs.Constants.{in_span}
use Rattle.fd_model.proofs.AddedRanges.{posted_both}
use Rattle.fd_model.proofs.ListNames.{posted_left}
use Rattle.fd_model.proofs.PostedSets.{AllMonotone, InRanges, monotone_more, left_ranges, left_narrower, left_some, domains_from, consistent_by}
use Rattle.fd_model.proofs.PostedLeaves.{some_only, still_only, none_picked, each_leaf}
use Rattle.fd_model.proofs.BestPosted.{end_only}

-- an assignment that keeps the ranges has its values among those that they leave
module _ (M : ℕ) (a : Assignment) where
  single_family : ((x : ℕ) → a x ≤ M) → IsFamily M (singles a)
  single_family b = record { rising = λ x. (omega arith, b x, tt) }

  single_ranges : (ps : List Indexical) → AllPosted (λ p. has (set_of M (singles a) p.range) (a p.target) ≡ true) ps → InRanges M (singles a) ps
  single_ranges [] h = tt
  single_ranges (p ∷ ps) h = (record { each = λ n e. subst (λ k. has (set_of M (singles a) p.range) k ≡ true) (only_member (a p.target) n e) h.0 }, single_ranges ps h.1)

  kept_domain : (ps : List Indexical) → Keeps M ps a → (x : ℕ) → Domains M M [] ps x (a x)
  kept_domain ps k x = domains_from M ps (singles a) x (a x) (single_family k.bounded) (single_ranges ps k.posted) (first_member (a x) [])

  kept_in : (ps : List Indexical) (D : Family) → Keeps M ps a → AreLeft M ps D → (x : ℕ) → has (D x) (a x) ≡ true
  kept_in ps D k d x = (d.domains x (a x)).1 (kept_domain ps k x)

  kept_consistent : (ps : List Indexical) → Keeps M ps a → IsConsistent M M [] ps
  kept_consistent ps k = consistent_by M ps (λ x. (a x, kept_domain ps k x))

  kept_more : (ps : List Indexical) (x : ℕ) → Keeps M ps a → Keeps M (with_value ps x (a x)) a
  kept_more ps x k = record {
    bounded = k.bounded;
    posted = posted_both (λ p. has (set_of M (singles a) p.range) (a p.target) ≡ true) ps (exactly x (a x) ∷ []) k.posted
        (in_span M (singles a) (pos (a x)) (pos (a x)) (a x) (k.bounded x) (omega (arith, ints)) (omega (arith, ints)), tt);
  }

  -- where each has one value these are the assignment's
  kept_values : (D : Family) (xs : List ℕ) → ((x : ℕ) → has (D x) (a x) ≡ true) → ((x : ℕ) → has xs x ≡ true → (n : ℕ) × (only (D x) ≡ Some n)) → map D xs ≡ map (λ n. n ∷ []) (map a xs)
  kept_values D [] h f = refl
  kept_values D (x ∷ xs) h f =
      let n = f x (first_member x xs) in
      let one = some_only (D x) n.0 n.1 in
      let same : n.0 ≡ a x = only_member n.0 (a x) (subst (λ l. has l (a x) ≡ true) one (h x)) in
      let here : D x ≡ a x ∷ [] = one ∙ ap (λ k. k ∷ []) same in
      let rest = kept_values D xs h (λ y g. f y (or_right (x == y) (has xs y) g)) in
      cc

module _ (M : ℕ) (o : Order) (ms : List Member) (a : Assignment) where
  abbrev HasThem : List Indexical → Type 0
  HasThem l = HaveValues M (open_ones ms) l (map a (open_ones ms))

  abbrev KeptHere : List Indexical → Type 0
  KeptHere c = Keeps M c a

  somewhere_left : (xs ys : List (List Indexical)) → Somewhere KeptHere xs → Somewhere KeptHere (xs ++ ys)
  somewhere_left [] ys h = absurd h
  somewhere_left (x ∷ xs) ys (inl h) = inl h
  somewhere_left (x ∷ xs) ys (inr h) = inr (somewhere_left xs ys h)

  somewhere_right : (xs ys : List (List Indexical)) → Somewhere KeptHere ys → Somewhere KeptHere (xs ++ ys)
  somewhere_right [] ys h = h
  somewhere_right (x ∷ xs) ys h = inr (somewhere_right xs ys h)

  kept_among : (b : List Indexical) (x : ℕ) (ns : List ℕ) → has ns (a x) ≡ true → Keeps M b a → (cs : List (List Indexical)) → KeptLists M (map (with_value b x) ns) cs → Somewhere KeptHere cs
  kept_among b x [] h k cs g = absurd (true≢false (sym h))
  kept_among b x (n ∷ ns) h k cs (inl g) = subst (Somewhere KeptHere) (sym g.1.1) (elim (or_cases (n == a x) (has ns (a x)) h) [
    | inl e ↦ inl (subst (λ v. Keeps M (with_value b x v) a) (sym (eqb-true n (a x) e)) (kept_more M a b x k))
    | inr e ↦ inr (kept_among b x ns e k g.1.0 g.1.2)
  ])
  kept_among b x (n ∷ ns) h k cs (inr g) = elim (or_cases (n == a x) (has ns (a x)) h) [
    | inl e ↦ absurd (g.0 (subst (λ v. IsConsistent M M [] (with_value b x v)) (sym (eqb-true n (a x) e)) (kept_consistent M a (with_value b x (a x)) (kept_more M a b x k))))
    | inr e ↦ kept_among b x ns e k cs g.1
  ]

  kept_leaf : {bs ls : List (List Indexical)} → PostedLeaves M o ms bs ls → Somewhere KeptHere bs → Somewhere HasThem ls
  kept_leaf no_leaves h = absurd h
  kept_leaf (leaf {b = b} D d e l) (inl k) = inl (record {
    family = D;
    left = d;
    values = kept_values M a D (open_ones ms) (kept_in M a b D k d) (end_only D ms (none_picked o D (map (seen_in D) ms) e));
  })
  kept_leaf (leaf D d e l) (inr h) = inr (kept_leaf l h)
  kept_leaf (grows {b = b} {bs = bs} D x cs d e g l) (inl k) = kept_leaf l (somewhere_left cs bs (kept_among b x (D x) (kept_in M a b D k d x) k cs g))
  kept_leaf (grows {bs = bs} D x cs d e g l) (inr h) = kept_leaf l (somewhere_right cs bs h)

pub kept_are_leaves : KeptAreLeaves
kept_are_leaves M o ms ps ls l a k = kept_leaf M o ms a l (inl k)

-- the assignment that takes the least value of each set
abbrev lowest : Family → Assignment
lowest E x = least (E x)

one_least : (xs : List ℕ) → OneValue xs → xs ≡ least xs ∷ []
one_least xs h = h.1 ∙ ap (λ n. n ∷ []) (sym (ap least h.1))

one_only : (xs : List ℕ) (n : ℕ) → only xs ≡ Some n → OneValue xs
one_only xs n e = (n, some_only xs n e)

module _ (M : ℕ) (E : Family) (rises : IsFamily M E) where
  lowest_keeps : (ps : List Indexical) → InRanges M E ps → ((x : ℕ) → has (constrained ps) x ≡ true → OneValue (E x))
      → AllPosted (λ p. has (set_of M (singles (lowest E)) p.range) (lowest E p.target) ≡ true) ps
  lowest_keeps [] r f = tt
  lowest_keeps (p ∷ ps) r f =
      let target : has (E p.target) (least (E p.target)) ≡ true =
      (let e = one_least (E p.target) (f p.target (first_member p.target (reads p.range ++ constrained ps))) in
      subst (λ l. has l (least (E p.target)) ≡ true) (sym e) (first_member (least (E p.target)) [])) in
      let same : set_of M (singles (lowest E)) p.range ≡ set_of M E p.range = set_agree M (singles (lowest E)) E p.range
      (λ v i. sym (one_least (E v) (f v (or_right (p.target == v) (has (reads p.range ++ constrained ps) v)
      (in_left (reads p.range) (constrained ps) v i))))) in (
        subst (λ l. has l (least (E p.target)) ≡ true) (sym same) (r.0.each (least (E p.target)) target),
        lowest_keeps ps r.1 (λ x i. f x (or_right (p.target == x) (has (reads p.range ++ constrained ps) x) (in_right (reads p.range) (constrained ps) x i))),
      )

-- In each leaf of a whole labelling the members have the values of an assignment that keeps the ranges.
module _ (M : ℕ) (o : Order) (ms : List Member) (ps : List Indexical) (ws : List ℕ) (whole : IsWhole M ms ps ws) where
  record IsBelow (qs : List Indexical) : Type 0 where
    pub monotone : AllMonotone M qs
    pub consistent : IsConsistent M M [] qs
    pub more : List Indexical
    pub extends : qs ≡ ps ++ more

  below_child : (qs : List Indexical) (D : Family) (x n : ℕ) → IsBelow qs → AreLeft M qs D → picked_in o D ms ≡ Some x → IsConsistent M M [] (with_value qs x n) → IsBelow (with_value qs x n)
  below_child qs D x n b d e c = record {
    monotone = monotone_more M qs x n b.monotone;
    consistent = c;
    more = b.more ++ exactly x n ∷ [];
    extends = ap (λ (l : List Indexical). l ++ exactly x n ∷ []) b.extends ∙ append_assoc ps b.more (exactly x n ∷ []);
  }

  leaf_kept : (qs : List Indexical) (E : Family) → IsBelow qs → AreLeft M qs E → picked_in o E ms ≡ None → (a : Assignment) × Keeps M ps a × HaveValues M (open_ones ms) qs (map a (open_ones ms))
  leaf_kept qs E b e k =
      let lies : InRanges M E ps = posted_left (λ p. IsSubset (E p.target) (set_of M E p.range)) ps b.more (subst (InRanges M E) b.extends (left_ranges M qs E b.monotone e)) in
      let some = left_some M qs E b.consistent e in
      let inside : IsInside E whole.covered.family = left_narrower M ps b.more whole.covered.family E whole.covered.left (subst (λ (l : List Indexical). AreLeft M l E) b.extends e) in
      let ended = end_only E ms (none_picked o E (map (seen_in E) ms) k) in
      let one : (x : ℕ) → has (constrained ps) x ≡ true → OneValue (E x) =
      whole.settles E e.family lies (λ x c. some x)
      (λ x c f. elim (whole.covered.covered x c) [
        | inl h ↦ absurd (true≢false (sym h ∙ f))
        | inr (inl h) ↦ let n = ended x h in one_only (E x) n.0 n.1
        | inr (inr h) ↦ one_only (E x) h.0 (still_only M (whole.covered.family x) (E x) h.0 (some x).0 (e.family.rising x) (inside.at x) h.1 (some x).1)
      ]) in (
        lowest E,
        record { bounded = λ x. least_small M (E x) (e.family.rising x); posted = lowest_keeps M E e.family ps lies one },
        record { family = E; left = e; values = ones (open_ones ms) (λ x h. let n = ended x h in one_only (E x) n.0 n.1) },
      )
    where
      ones : (xs : List ℕ) → ((x : ℕ) → has xs x ≡ true → OneValue (E x)) → map E xs ≡ map (λ n. n ∷ []) (map (lowest E) xs)
      ones [] f = refl
      ones (x ∷ xs) f =
          let here = one_least (E x) (f x (first_member x xs)) in
          let rest = ones xs (λ y h. f y (or_right (x == y) (has xs y) h)) in
          cc

  pub whole_leaves : (ls : List (List Indexical)) → PostedLeaves M o ms (ps ∷ []) ls → Each (λ l. (a : Assignment) × Keeps M ps a × HaveValues M (open_ones ms) l (map a (open_ones ms))) ls
  whole_leaves ls l = each_leaf M o ms IsBelow (λ qs. (a : Assignment) × Keeps M ps a × HaveValues M (open_ones ms) qs (map a (open_ones ms))) below_child
      leaf_kept l (record { monotone = whole.monotone; consistent = whole.consistent; more = []; extends = sym (append-nil ps) }, tt)

pub leaves_are_kept : LeavesAreKept
leaves_are_kept M o ms ps ws ls whole l = whole_leaves M o ms ps ws whole ls l
