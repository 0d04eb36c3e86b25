-- A bound on the cost, as it is posted on a level.
use Rattle.std.proofs.Common.{◌≡◌, ℕ, ◌≤◌, Bool, true, false, nat_le, ℤ, pos, ◌≤ℤ◌, List, [], ◌∷◌, ◌++◌, map, filter, refl, ap, sym, ◌∙◌, subst, arith, append_assoc}
use Rattle.std.proofs.lemmas.Int.{ints}
use Rattle.fd_language.specs.declared.TheConstants.{INFINITY}
use Rattle.fd_language.specs.Family.{Family, has, universe, IsFamily, IsRising, IsSubset}
use Rattle.fd_language.specs.Monotonicity.{IsMonotone}
use Rattle.fd_language.specs.Range.{Indexical, in_set, set_of, Span, Number}
use Rattle.fd_language.proofs.Lemmas.{has-filter, has-filter_back, has_high, rising-filter, rising_same, universe_rising}
use Rattle.fd_model.specs.declared.kinds.Order.{Order}
use Rattle.fd_model.specs.ClosedFamilies.{AllPosted}
use Rattle.fd_model.specs.Leaves.{IsBetter}
use Rattle.fd_model.specs.Members as seen
use Rattle.fd_model.specs.PostedLeaves.{KeptLists, PostedLeaves, no_leaves, leaf, grows}
use Rattle.fd_model.proofs.Lemmas.{AllMonotone, from_span, in_span, posted_both, posted_left}
use Rattle.bound_search.specs.Posting.{better_low, better_high, with_bound}
use Rattle.bound_search.proofs.BoundedLeaves.{IsUnder}

-- what is better is between the ends
low_end : (least : Bool) (n : ℕ) (z : ℤ) → IsBetter least (pos n) z → better_low least z ≤ℤ pos n
low_end true n z h = omega (arith, ints)
low_end false n z h = omega (arith, ints)

high_end : (least : Bool) (n : ℕ) (z : ℤ) → n ≤ INFINITY → IsBetter least (pos n) z → pos n ≤ℤ better_high least z
high_end true n z l h = omega (arith, ints)
high_end false n z l h = omega (arith, ints)

abbrev Holds : Family → Indexical → Type 0
Holds S p = IsSubset (S p.target) (set_of INFINITY S p.range)

abbrev bound_on : Bool → ℕ → ℤ → Indexical
bound_on least x z = record { target = x; range = Span (Number (better_low least z)) (Number (better_high least z)) }

-- its range never shrinks where sets do
ends_monotone : (low high : ℤ) → IsMonotone INFINITY (Span (Number low) (Number high))
ends_monotone low high = record {
  grows = λ S T f g i. record {
    each = λ k h. (let b = from_span INFINITY S low high k h in in_span INFINITY T low high k (has_high 0 INFINITY (set_of INFINITY S (Span (Number low) (Number high))) k (rising S) h) b.0 b.1);
  };
}
  where
    rising : (S : Family) → IsRising 0 INFINITY (set_of INFINITY S (Span (Number low) (Number high)))
    rising S = rising-filter (in_set INFINITY S (Span (Number low) (Number high))) 0 INFINITY (universe INFINITY) (universe_rising INFINITY)

-- so what keeps the ranges keeps the bound, too, where the cost is better
pub bound_within : (ms : List seen.Member) (least : Bool) (x : ℕ) (z : ℤ) (ps qs : List Indexical) → AllMonotone INFINITY ps → qs ≡ with_bound ps x least z
    → IsUnder INFINITY ms least x z ps qs
bound_within ms least x z ps qs m e = record {
  first = m;
  monotone = subst (AllMonotone INFINITY) (sym e) (posted_both (λ p. IsMonotone INFINITY p.range) ps (bound_on least x z ∷ []) m (ends_monotone (better_low least z) (better_high least z), tt));
  keeps = λ S f r. posted_left (Holds S) ps (bound_on least x z ∷ []) (subst (AllPosted (Holds S)) e r);
  lasts = λ S f r g. subst (AllPosted (Holds S)) (sym e) (posted_both (Holds S) ps (bound_on least x z ∷ []) r (
    record {
      each = λ n h. (let l = has_high 0 INFINITY (S x) n (f.rising x) h in in_span INFINITY S (better_low least z) (better_high least z) n l (low_end least n z (g n h)) (high_end least n z l (g n h)));
    },
    tt,
  ));
}

-- the values from one on that are in a part
pub values_under : (xs ys : List ℕ) (from : ℕ) → IsRising 0 INFINITY xs → IsRising 0 INFINITY ys → IsSubset ys xs
    → filter (has ys) (filter (λ k. nat_le from k) xs) ≡ filter (λ k. nat_le from k) ys
values_under xs ys from r s i = rising_same 0 INFINITY (filter (has ys) (filter (λ k. nat_le from k) xs)) (filter (λ k. nat_le from k) ys)
    (rising-filter (has ys) 0 INFINITY (filter (λ k. nat_le from k) xs) (rising-filter (λ k. nat_le from k) 0 INFINITY xs r))
    (rising-filter (λ k. nat_le from k) 0 INFINITY ys s)
    (record {
      each = λ n h.
          let a = has-filter_back (has ys) (filter (λ k. nat_le from k) xs) n h in
          let b = has-filter_back (λ k. nat_le from k) xs n a.0 in
          has-filter (λ k. nat_le from k) ys n a.1 b.1;
    })
    (record {
      each = λ n h.
          let a = has-filter_back (λ k. nat_le from k) ys n h in
          has-filter (has ys) (filter (λ k. nat_le from k) xs) n (has-filter (λ k. nat_le from k) xs n (i.each n a.0) a.1) a.0;
    })

-- leaves of lists put together
module _ (M : ℕ) (o : Order) (ms : List seen.Member) (bs ks : List (List Indexical)) (others : PostedLeaves M o ms bs ks) where
  pub leaves_both : {cs ls : List (List Indexical)} → PostedLeaves M o ms cs ls → PostedLeaves M o ms (cs ++ bs) (ls ++ ks)
  leaves_both no_leaves = others
  leaves_both (leaf D d p l) = leaf D d p (leaves_both l)
  leaves_both {ls = ls} (grows {b = b} {bs = as'} D x cs d p k l) =
      grows D x cs d p k (subst (λ (qs : List (List Indexical)). PostedLeaves M o ms qs (ls ++ ks)) (append_assoc cs as' bs) (leaves_both l))
