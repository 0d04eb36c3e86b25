-- The first best leaf of a list that grows, and what a node's sets tell of the leaves below it.
use Rattle.std.proofs.Common.{◌≡◌, ℕ, Bool, true, false, ◌==◌, ℤ, List, [], ◌∷◌, ◌++◌, map, Option, Some, None, pos, refl, ap, sym, ◌∙◌, subst, inl, inr, arith}
use Rattle.std.proofs.Common.{eqb-true, append_assoc}
use Rattle.std.proofs.lemmas.Bool.{or_cases, or_right, true≢false}
use Rattle.std.proofs.lemmas.Int.{ints}
use Rattle.fd_model.specs.declared.kinds.Order.{Order}
use Rattle.fd_language.specs.Family.{Family, has, IsInside}
use Rattle.fd_language.specs.Lists.{Each}
use Rattle.fd_language.specs.Range.{Indexical, least}
use Rattle.fd_language.specs.SingleValues.{only}
use Rattle.fd_language.proofs.Lemmas.{each_both, first_member}
use Rattle.fd_model.specs.Labelling.{open_ones}
use Rattle.fd_model.specs.PostedLeaves.{AreLeft, open_unless, seen_in, picked_in, exactly, with_value, KeptLists, PostedLeaves}
use Rattle.fd_model.specs.Leaves.{IsBetter, IsAsGood}
use Rattle.fd_model.specs.BestPosted.{Costs, HaveValues, EachCosts, IsBestPosted, IsCostOf}
use Rattle.fd_model.specs.Members.{Member, Open, Known}
use Rattle.fd_model.specs.BranchViews.{IsConsistent}
use Rattle.fd_model.proofs.PostedSets.{left_narrower, left_once}
use Rattle.fd_model.proofs.PostedLeaves.{some_only, none_picked, each_leaf, each_kept}

-- better, then as good
better_then : (least : Bool) (u v w : ℤ) → IsBetter least u v → IsAsGood least v w → IsAsGood least u w
better_then true u v w h g = omega (arith, ints)
better_then false u v w h g = omega (arith, ints)

better_twice : (least : Bool) (u v w : ℤ) → IsBetter least u v → IsBetter least v w → IsBetter least u w
better_twice true u v w h g = omega (arith, ints)
better_twice false u v w h g = omega (arith, ints)

better_good : (least : Bool) (u v w : ℤ) → IsBetter least u v → IsAsGood least v w → IsBetter least u w
better_good true u v w h g = omega (arith, ints)
better_good false u v w h g = omega (arith, ints)

as_good_then : (least : Bool) (u v w : ℤ) → IsAsGood least u v → IsAsGood least v w → IsAsGood least u w
as_good_then true u v w h g = omega (arith, ints)
as_good_then false u v w h g = omega (arith, ints)

module _ (M : ℕ) (least : Bool) (cost : Member) where
  costs_more : (A B : ℤ → Type 0) → ((z : ℤ) → A z → B z) → (ls : List (List Indexical)) → EachCosts M cost A ls → EachCosts M cost B ls
  costs_more A B f [] h = tt
  costs_more A B f (l ∷ ls) h = ((h.0.0, h.0.1, f h.0.0 h.0.2), costs_more A B f ls h.1)

  costs_both : (A : ℤ → Type 0) (ls ks : List (List Indexical)) → EachCosts M cost A ls → EachCosts M cost A ks → EachCosts M cost A (ls ++ ks)
  costs_both A ls ks h g = each_both (λ l. (z : ℤ) × Costs M cost l z × A z) ls ks h g

  -- a leaf alone is the best
  pub first_alone : (l : List Indexical) (z : ℤ) → Costs M cost l z → IsBestPosted M least cost (l ∷ []) l z
  first_alone l z c = record { before = []; behind = []; among = refl; costs = c; earlier = tt; later = tt }

  -- the best stays where others that are no better come behind it
  pub first_more : (ls ks : List (List Indexical)) (l : List Indexical) (z : ℤ) → IsBestPosted M least cost ls l z → EachCosts M cost (IsAsGood least z) ks → IsBestPosted M least cost (ls ++ ks) l z
  first_more ls ks l z b h = record {
    before = b.before;
    behind = b.behind ++ ks;
    among = ap (λ (xs : List (List Indexical)). xs ++ ks) b.among ∙ append_assoc b.before (l ∷ b.behind) ks;
    costs = b.costs;
    earlier = b.earlier;
    later = costs_both (IsAsGood least z) b.behind ks b.later h;
  }

  -- a better one takes its place
  pub first_new : (ls : List (List Indexical)) (l k : List Indexical) (z w : ℤ) → IsBestPosted M least cost ls l z → Costs M cost k w → IsBetter least w z
      → IsBestPosted M least cost (ls ++ k ∷ []) k w
  first_new ls l k z w b c h = record {
    before = ls;
    behind = [];
    among = refl;
    costs = c;
    earlier = subst (EachCosts M cost (IsBetter least w)) (sym b.among)
        (costs_both (IsBetter least w) b.before (l ∷ b.behind)
        (costs_more (IsBetter least z) (IsBetter least w) (λ v g. better_twice least w z v h g) b.before b.earlier) (
          (z, b.costs, h),
          costs_more (IsAsGood least z) (IsBetter least w) (λ v g. better_good least w z v h g) b.behind b.later,
        ));
    later = tt;
  }

-- the integer that the cost is, or one of the values that the sets leave to it
abbrev pub IsAmong : Family → Member → ℤ → Type 0
IsAmong D (Known w) z = z ≡ w
IsAmong D (Open x) z = (n : ℕ) × (z ≡ pos n) × (has (D x) n ≡ true)

-- where all members are seen as integers each has one value
pub end_only : (D : Family) (ms : List Member) → open_ones (map (seen_in D) ms) ≡ [] → (x : ℕ) → has (open_ones ms) x ≡ true → (n : ℕ) × (only (D x) ≡ Some n)
end_only D [] e x h = absurd (true≢false (sym h))
end_only D (Known z ∷ ms) e x h = end_only D ms e x h
end_only D (Open y ∷ ms) e x h = by_set (only (D y)) refl e (λ f. end_only D ms f x)
  where
    by_set : (s : Option ℕ) → only (D y) ≡ s → open_ones (open_unless y s ∷ map (seen_in D) ms) ≡ []
        → (open_ones (map (seen_in D) ms) ≡ [] → has (open_ones ms) x ≡ true → (n : ℕ) × (only (D x) ≡ Some n)) → (n : ℕ) × (only (D x) ≡ Some n)
    by_set None f g later = absurd (let b : ⊥ = cc in b)
    by_set (Some n) f g later = elim (or_cases (y == x) (has (open_ones ms) x) h) [
      | inl k ↦ (n, ap (λ v. only (D v)) (sym (eqb-true y x k)) ∙ f)
      | inr k ↦ later g k
    ]

module _ (M : ℕ) (o : Order) (ms : List Member) where
  ended : (D : Family) → picked_in o D ms ≡ None → (x : ℕ) → has (open_ones ms) x ≡ true → (n : ℕ) × (only (D x) ≡ Some n)
  ended D e = end_only D ms (none_picked o D (map (seen_in D) ms) e)

  -- an end's cost
  pub end_costs : (cost : Member) (ps : List Indexical) (D : Family) → IsCostOf ms cost → AreLeft M ps D → picked_in o D ms ≡ None → (z : ℤ) × Costs M cost ps z × IsAmong D cost z
  end_costs (Known z) ps D c d e = (z, record { family = D; left = d; seen = refl }, refl)
  end_costs (Open x) ps D c d e =
      let n = ended D e x c in
      (pos n.0, record { family = D; left = d; seen = ap (open_unless x) n.1 }, (n.0, refl, subst (λ l. has l n.0 ≡ true) (sym (some_only (D x) n.0 n.1)) (first_member n.0 [])))

  -- and its values
  end_singles : (D : Family) (xs : List ℕ) → ((x : ℕ) → has xs x ≡ true → (n : ℕ) × (only (D x) ≡ Some n)) → map D xs ≡ map (λ n. n ∷ []) (map (λ x. least (D x)) xs)
  end_singles D [] f = refl
  end_singles D (x ∷ xs) f =
      let n = f x (first_member x xs) in
      let here : D x ≡ least (D x) ∷ [] = (let e = some_only (D x) n.0 n.1 in e ∙ ap (λ k. k ∷ []) (sym (ap least e))) in
      let rest = end_singles D xs (λ y h. f y (or_right (x == y) (has xs y) h)) in
      cc

  pub end_values : (ps : List Indexical) (D : Family) → AreLeft M ps D → picked_in o D ms ≡ None → HaveValues M (open_ones ms) ps (map (λ x. least (D x)) (open_ones ms))
  end_values ps D d e = record { family = D; left = d; values = end_singles D (open_ones ms) (ended D e) }

  -- In each leaf below a node the cost is one of the values that the node's sets leave to it.
  module _ (cost : Member) (is_cost : IsCostOf ms cost) (D : Family) where
    abbrev Within : List Indexical → Type 0
    Within qs = (E : Family) → AreLeft M qs E → IsInside E D

    within_down : (ps : List Indexical) (E : Family) (x n : ℕ) → Within ps → AreLeft M ps E → picked_in o E ms ≡ Some x → IsConsistent M M [] (with_value ps x n) → Within (with_value ps x n)
    within_down ps E x n w e p c F f = record { at = λ y. record { each = λ k h. ((w E e).at y).each k (((left_narrower M ps (exactly x n ∷ []) E F e f).at y).each k h) } }

    among_further : (c : Member) (E : Family) (z : ℤ) → IsInside E D → IsAmong E c z → IsAmong D c z
    among_further (Known w) E z i a = a
    among_further (Open x) E z i a = (a.0, a.1, (i.at x).each a.0 a.2)

    within_end : (ps : List Indexical) (E : Family) → Within ps → AreLeft M ps E → picked_in o E ms ≡ None → (z : ℤ) × Costs M cost ps z × IsAmong D cost z
    within_end ps E w e p = let c = end_costs cost ps E is_cost e p in (c.0, c.1, among_further cost E c.0 (w E e) c.2)

    pub leaves_within : (ps : List Indexical) (ls : List (List Indexical)) → AreLeft M ps D → PostedLeaves M o ms (ps ∷ []) ls → EachCosts M cost (IsAmong D cost) ls
    leaves_within ps ls d l = each_leaf M o ms Within (λ k. (z : ℤ) × Costs M cost k z × IsAmong D cost z) within_down within_end l
        ((λ E e. record { at = λ y. record { each = λ k h. subst (λ (S : Family). has (S y) k ≡ true) (left_once M ps E D e d) h } }), tt)

    values_within : (ps : List Indexical) (x : ℕ) → AreLeft M ps D → (ns : List ℕ) → Each (λ c. IsConsistent M M [] c → Within c) (map (with_value ps x) ns)
    values_within ps x d [] = tt
    values_within ps x d (n ∷ ns) = (λ c E e. left_narrower M ps (exactly x n ∷ []) D E d e, values_within ps x d ns)

    -- the same below those of its children that a list of values gives
    pub children_within : (ps : List Indexical) (x : ℕ) (ns : List ℕ) (cs ls : List (List Indexical)) → AreLeft M ps D
        → KeptLists M (map (with_value ps x) ns) cs → PostedLeaves M o ms cs ls → EachCosts M cost (IsAmong D cost) ls
    children_within ps x ns cs ls d k l = each_leaf M o ms Within (λ k. (z : ℤ) × Costs M cost k z × IsAmong D cost z) within_down within_end l
        (each_kept M o ms Within (map (with_value ps x) ns) cs k (values_within ps x d ns))
