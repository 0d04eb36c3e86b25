-- Quick forms reach the sets of their ranges.
use Rattle.std.proofs.Common.{◌≡◌, ℕ, ◌+◌, ◌*◌, ◌-◌, ◌/◌, ◌^◌, ◌<◌, ◌≤◌, min, ℤ, pos, negsuc, nat_abs, ◌+ℤ◌, ◌-ℤ◌, ◌*ℤ◌, Bool, true, false, cond, List, [], ◌∷◌, length}
use Rattle.std.proofs.Common.{get_or, refl, sym, ◌∙◌, ap, subst, arith}
use Rattle.std.proofs.Math.Bool.{or-false}
use Rattle.std.proofs.Math.IntN.{+ℤ_assoc, +ℤ_comm, +ℤ_idl}
use Rattle.std.specs.List.{All, list_any}
use Rattle.fd_language.specs.declared.TheConstants.{INFINITY}
use Rattle.fd_language.specs.declared.range_node.RangeNode.{RangeNode}
use Rattle.fd_language.specs.declared.range_node.RangeNode.TheVariants as node
use Rattle.fd_language.specs.Features.{features_of}
use Rattle.range_code.specs.Standings.{opens}
use Rattle.fd_language.specs.Family.{Family}
use Rattle.fd_language.specs.Range.{Range, set_of, least, greatest, div_down, div_up, is_none_left, is_several}
use Rattle.fd_language.specs.RangeVerdict.{is_accepted}
use Rattle.fd_language.specs.PostfixRanges.{nodes_of, spelled_range, spelled_range-nodes}
use Rattle.fd_language.proofs.Lemmas.{two}
use Rattle.domain_ranges.specs.Narrowing.{between, all_but}
use Rattle.range_code.specs.declared.frame.Arg.{Arg}
use Rattle.range_code.specs.declared.form.End.{End}
use Rattle.range_code.specs.declared.form.End.TheVariants.{Least, Greatest}
use Rattle.range_code.specs.declared.form.Bound.{Bound}
use Rattle.range_code.specs.declared.form.Product.{Product}
use Rattle.range_code.specs.declared.form.Shift.{Shift}
use Rattle.range_code.specs.declared.form.Division.TheVariants.{Whole, Down, Up}
use Rattle.range_code.specs.declared.quick_forms.Quick.TheVariants.{Within, Differs, Above, Below, Moved, Plus, Minus, Counter, Counted, Products, Quotients, UpTo, From, MayBe, MustBe, Turned, Conjunct, Disjunct, Disjunction}
use Rattle.range_code.specs.declared.quick_forms.Pair.{Pair}
use Rattle.range_code.specs.declared.told_forms.Pairing.{Pairing}
use Rattle.range_code.specs.declared.Reach.TheVariants as reach
use Rattle.range_code.specs.Frames.{IsArgumentFrame, posted, family_of, slot_set, slot_integer, slot_variable}
use Rattle.range_code.specs.Nodes.{IsSeen, IsReadable}
use Rattle.range_code.specs.ValSlots.{val_slots}
use Rattle.range_code.specs.Slots.{in_slots}
use Rattle.range_code.specs.Steps.{outside}
use Rattle.range_code.specs.Work.{filled_set}
use Rattle.range_code.specs.Forms.{end_of, sum_of, product_value, divided, bound_value, AreNarrow, AreSeen, IsInterval, IsException, IsAbove, IsBelow, IsShiftOf}
use Rattle.range_code.specs.Forms.{all_but_val, IsNumber}
use Rattle.range_code.specs.SpelledRanges.{counter_range, counted_range, products_range, quotients_range, disjunction_range, MeansSame}
use Rattle.range_code.specs.SetReaches.{IsReach}
use Rattle.range_code.specs.QuickForms.{between_parameters, counter_least, counter_greatest, counted_reach, IsQuick, IsSmall, IsPairOf, IsLessOf}
use Rattle.range_code.specs.PairedSums.{extreme_sum, far_of, width_of_pairing, IsPairingOf}
use Rattle.range_code.proofs.PairedSums.{sum_of_pairing, far_from, disjunction_is, less_once}
use Rattle.range_code.proofs.Forms.{whole_value, plus_none, once_is, but_val_set, except_one}
use Rattle.range_code.proofs.CounterSets.{counter_is, counted_is}
use Rattle.range_code.proofs.Frames.{all_readable}
use Rattle.range_code.proofs.PostedRanges.{one_use}
use Rattle.range_code.proofs.RangeRuns.{opens_same, settled_set, shifted_set, open_set, one_open}

-- two products of which the first counts once
module _ (b : Bound) (p q : Product) (whole : b.division ≡ Whole) (once : p.weight ≡ pos 1) where
  abbrev parts : Pair
  parts = record { constant = b.constant; first = p.slot; second = q.slot }

  end_alone : (S : Family) → product_value S p ≡ pos (end_of (S p.slot) p.end)
  end_alone S = ap (λ x. x *ℤ pos (end_of (S p.slot) p.end)) once ∙ sym (once_is (pos (end_of (S p.slot) p.end)))

  both : (S : Family) → b.constant +ℤ (product_value S p +ℤ product_value S q) ≡ (b.constant +ℤ pos (end_of (S p.slot) p.end)) +ℤ product_value S q
  both S = ap (λ z. b.constant +ℤ (z +ℤ product_value S q)) (end_alone S) ∙ sym (+ℤ_assoc b.constant (pos (end_of (S p.slot) p.end)) (product_value S q))

  small : (n k m : ℕ) → k ≡ 1 → m ≡ 1 → n + (k * INFINITY + (m * INFINITY + 0)) ≤ 2 ^ 63 - 1 → n + (INFINITY + INFINITY) ≤ 2 ^ 63 - 1
  small n k m e f h = omega (arith, e, f, h)

  pub pair_forward : b.products.items ≡ p ∷ q ∷ [] → IsPairOf b p.end q.weight q.end parts
  pair_forward e = record {
    value = λ S. whole_value S b whole ∙ (ap (λ ms. b.constant +ℤ sum_of S ms) e ∙ (ap (λ z. b.constant +ℤ (product_value S p +ℤ z)) (plus_none (product_value S q)) ∙ both S));
    width = λ h w. small (nat_abs b.constant) (nat_abs p.weight) (nat_abs q.weight) (ap nat_abs once) w (subst (AreNarrow (nat_abs b.constant)) e h);
    seen = λ count args h. let s = subst (AreSeen count args) e h in (s 0 p (omega arith), s 1 p (omega arith));
  }

  pub pair_back : b.products.items ≡ q ∷ p ∷ [] → IsPairOf b p.end q.weight q.end parts
  pair_back e = record {
    value = λ S. whole_value S b whole ∙ (ap (λ ms. b.constant +ℤ sum_of S ms) e
        ∙ (ap (λ z. b.constant +ℤ (product_value S q +ℤ z)) (plus_none (product_value S p))
        ∙ (ap (λ z. b.constant +ℤ z) (+ℤ_comm (product_value S q) (product_value S p)) ∙ both S)));
    width = λ h w. small (nat_abs b.constant) (nat_abs q.weight) (nat_abs p.weight) w (ap nat_abs once) (subst (AreNarrow (nat_abs b.constant)) e h);
    seen = λ count args h. let s = subst (AreSeen count args) e h in (s 1 p (omega arith), s 0 p (omega arith));
  }

two_products : (ms : List Product) (d : Product) → length ms ≡ 2 → ms ≡ get_or ms 0 d ∷ get_or ms 1 d ∷ []
two_products [] d e = absurd (let k : ⊥ = omega (arith, e) in k)
two_products (m ∷ []) d e = absurd (let k : ⊥ = omega (arith, e) in k)
two_products (m ∷ k ∷ []) d e = refl
two_products (m ∷ k ∷ n ∷ ms) d e = absurd (let z : ⊥ = omega (arith, e) in z)

-- the same by the places of the products
module _ (b : Bound) (ms : List Product) (d : Product) (end other : End) (weight : ℤ) (whole : b.division ≡ Whole) (same : ms ≡ b.products.items) (size : length ms ≡ 2) where
  pub pair_is : (get_or ms 0 d).weight ≡ pos 1 → (get_or ms 0 d).end ≡ end → (get_or ms 1 d).weight ≡ weight → (get_or ms 1 d).end ≡ other
      → IsPairOf b end weight other (record { constant = b.constant; first = (get_or ms 0 d).slot; second = (get_or ms 1 d).slot })
  pair_is once e w f = subst (λ x. IsPairOf b x weight other (record { constant = b.constant; first = (get_or ms 0 d).slot; second = (get_or ms 1 d).slot })) e
      (subst (λ x. IsPairOf b (get_or ms 0 d).end x other (record { constant = b.constant; first = (get_or ms 0 d).slot; second = (get_or ms 1 d).slot })) w
      (subst (λ x. IsPairOf b (get_or ms 0 d).end (get_or ms 1 d).weight x (record { constant = b.constant; first = (get_or ms 0 d).slot; second = (get_or ms 1 d).slot })) f
      (pair_forward b (get_or ms 0 d) (get_or ms 1 d) whole once (sym same ∙ two_products ms d size))))

  pub pair_turned : (get_or ms 1 d).weight ≡ pos 1 → (get_or ms 1 d).end ≡ end → (get_or ms 0 d).weight ≡ weight → (get_or ms 0 d).end ≡ other
      → IsPairOf b end weight other (record { constant = b.constant; first = (get_or ms 1 d).slot; second = (get_or ms 0 d).slot })
  pair_turned once e w f = subst (λ x. IsPairOf b x weight other (record { constant = b.constant; first = (get_or ms 1 d).slot; second = (get_or ms 0 d).slot })) e
      (subst (λ x. IsPairOf b (get_or ms 1 d).end x other (record { constant = b.constant; first = (get_or ms 1 d).slot; second = (get_or ms 0 d).slot })) w
      (subst (λ x. IsPairOf b (get_or ms 1 d).end (get_or ms 0 d).weight x (record { constant = b.constant; first = (get_or ms 1 d).slot; second = (get_or ms 0 d).slot })) f
      (pair_back b (get_or ms 1 d) (get_or ms 0 d) whole once (sym same ∙ two_products ms d size))))

pub one_alone : (ys : List ℕ) (n : ℕ) → length ys ≡ 1 → get_or ys 0 0 ≡ n → ys ≡ n ∷ []
one_alone [] n l e = absurd (let k : ⊥ = omega (arith, l) in k)
one_alone (y ∷ []) n l e = ap (λ k. k ∷ []) e
one_alone (y ∷ z ∷ ys) n l e = absurd (let k : ⊥ = omega (arith, l) in k)

module _ (r : Range) (args : List Arg) (accepted : is_accepted INFINITY r ≡ true) where
  nodes : (count : ℕ) → IsArgumentFrame count r args → All (IsReadable count args) (nodes_of (in_slots r))
  nodes count fit = all_readable count r args fit (one_use r accepted)

  there : (count slot k : ℕ) → slot_variable args slot ≡ k → IsSeen count args slot → k < count
  there count slot k e s = subst (λ v. v < count) e s.1

  abbrev set : List (List ℕ) → List ℕ
  set sets = set_of INFINITY (family_of sets) (posted r args)

  -- all numbers but a moved value
  module _ (z : ℤ) (slot k : ℕ) (e : slot_variable args slot ≡ k) (seen : (count : ℕ) → IsArgumentFrame count r args → IsSeen count args slot) (small : IsSmall z)
      (left : (S : Family) (p : ℕ → ℤ) → filled_set S p (in_slots r) ≡ all_but (z +ℤ pos (least (S slot))))
      (opened : (sets : List (List ℕ)) → IsArgumentFrame (length sets) r args → ((x : ℕ) → is_none_left (family_of sets x) ≡ false)
      → list_any (λ s. is_several (slot_set sets args s)) (val_slots r) ≡ is_several (slot_set sets args slot)) where
    differs_in : (sets : List (List ℕ)) → IsArgumentFrame (length sets) r args → ((x : ℕ) → is_none_left (family_of sets x) ≡ false) → (b : Bool) → is_several (slot_set sets args slot) ≡ b
        → IsReach (set sets) (cond b reach.All (reach.Except (z +ℤ pos (least (family_of sets k)))))
    differs_in sets fit some true g = open_set sets r args accepted fit (val_slots r) some refl (sym (opened sets fit some ∙ g))
    differs_in sets fit some false g = settled_set sets r args accepted fit some (opened sets fit some ∙ g)
        ∙ (left (slot_set sets args) (slot_integer args) ∙ ap (λ v. all_but (z +ℤ pos (least (family_of sets v)))) e)

    differs_all : IsQuick r args (Differs k z)
    differs_all = record {
      within = λ count fit. (there count slot k e (seen count fit), small);
      reach = λ sets fit some. differs_in sets fit some (is_several (family_of sets k)) (ap (λ v. is_several (family_of sets v)) e);
    }

  pub differs_quick : (slot k : ℕ) → slot_variable args slot ≡ k → in_slots r ≡ all_but_val slot → IsQuick r args (Differs k (pos 0))
  differs_quick slot k e h = differs_all (pos 0) slot k e
      (λ count fit. subst (λ q. All (IsReadable count args) (nodes_of q)) h (nodes count fit) 0 node.One (omega arith))
      (omega arith)
      (λ S p. ap (filled_set S p) h ∙ (but_val_set S p slot ∙ ap all_but (sym (+ℤ_idl (pos (least (S slot)))))))
      (λ sets fit some. one_open sets r args accepted fit slot h some)

  pub except_quick : (a : Bound) (s : Shift) (k : ℕ) (ys : List ℕ) → slot_variable args s.slot ≡ k → ys ≡ val_slots r → ys ≡ s.slot ∷ [] → IsShiftOf a Least s
      → IsException (in_slots r) a → IsQuick r args (Differs k s.constant)
  except_quick a s k ys e v only h x = differs_all s.constant s.slot k e
      (λ count fit. h.seen count args (x.value.seen count args (nodes count fit)))
      (h.width x.value.width)
      (λ S p. x.set S p ∙ (ap (λ y. outside (between y y)) (h.value S) ∙ sym (except_one (s.constant +ℤ pos (least (S s.slot))))))
      (λ sets fit some. ap (list_any (λ y. is_several (slot_set sets args y))) (sym v ∙ only) ∙ or-false (is_several (slot_set sets args s.slot)))

  pub within_quick : (ns : List RangeNode) (x y : ℕ) (a b : ℤ) → slot_integer args x ≡ a → slot_integer args y ≡ b → ns ≡ nodes_of (between_parameters x y)
      → ns ≡ nodes_of (in_slots r) → IsQuick r args (Within a b)
  within_quick ns x y a b e f g h =
      let is : in_slots r ≡ between_parameters x y = sym (spelled_range-nodes (in_slots r)) ∙ (ap spelled_range (sym h ∙ g) ∙ spelled_range-nodes (between_parameters x y)) in record {
        within = λ count fit. tt;
        reach = λ sets fit some. settled_set sets r args accepted fit some (opens_same sets r args accepted fit (val_slots r) refl ∙ ap (λ q. list_any (opens (slot_set sets args)) (features_of q)) is)
            ∙ (ap (filled_set (slot_set sets args) (slot_integer args)) is ∙ two between e f);
      }

  module _ (no_val : val_slots r ≡ []) where
    pub above_quick : (s : Shift) (z : ℤ) (k : ℕ) → slot_variable args s.slot ≡ k → IsAbove (in_slots r) s z → IsQuick r args (Above k s.constant z)
    above_quick s z k e h = record {
      within = λ count fit. (there count s.slot k e (h.usable.seen count args (nodes count fit)), h.usable.width);
      reach = λ sets fit some. shifted_set sets r args accepted fit some no_val
          ∙ (h.set (slot_set sets args) (slot_integer args) ∙ ap (λ v. between (s.constant +ℤ pos (least (family_of sets v))) z) e);
    }

    pub below_quick : (s : Shift) (z : ℤ) (k : ℕ) → slot_variable args s.slot ≡ k → IsBelow (in_slots r) z s → IsQuick r args (Below k s.constant z)
    below_quick s z k e h = record {
      within = λ count fit. (there count s.slot k e (h.usable.seen count args (nodes count fit)), h.usable.width);
      reach = λ sets fit some. shifted_set sets r args accepted fit some no_val
          ∙ (h.set (slot_set sets args) (slot_integer args) ∙ ap (λ v. between z (s.constant +ℤ pos (greatest (family_of sets v)))) e);
    }

    -- a range that all its nodes tell
    module _ (q : Range) (m : MeansSame (in_slots r) q) where
      same_set : (sets : List (List ℕ)) → IsArgumentFrame (length sets) r args → ((x : ℕ) → is_none_left (family_of sets x) ≡ false)
          → set sets ≡ filled_set (slot_set sets args) (slot_integer args) q
      same_set sets fit some = shifted_set sets r args accepted fit some no_val ∙ m.set (slot_set sets args) (slot_integer args)

      there_all : (count : ℕ) → IsArgumentFrame count r args → All (IsReadable count args) (nodes_of q)
      there_all count fit = m.readable count args (nodes count fit)

    pub counter_quick : (v : ℤ) (slot k : ℕ) → slot_variable args slot ≡ k → MeansSame (in_slots r) (counter_range v slot) → IsQuick r args (Counter k v)
    counter_quick v slot k e m = record {
      within = λ count fit. there count slot k e (there_all (counter_range v slot) m count fit 2 node.One (omega arith));
      reach = λ sets fit some. same_set (counter_range v slot) m sets fit some
          ∙ (counter_is (slot_set sets args) (slot_integer args) v slot (some (slot_variable args slot))
          ∙ ap (λ x. between (counter_least (family_of sets x) v) (counter_greatest (family_of sets x) v)) e);
    }

    pub counted_quick : (v : ℤ) (slot k : ℕ) → slot_variable args slot ≡ k → MeansSame (in_slots r) (counted_range v slot) × IsNumber v → IsQuick r args (Counted k v)
    counted_quick v slot k e m = record {
      within = λ count fit. (there count slot k e (there_all (counted_range v slot) m.0 count fit 2 node.One (omega arith)), m.1);
      reach = λ sets fit some.
          subst (λ s. IsReach s (counted_reach (family_of sets k) v)) (sym (same_set (counted_range v slot) m.0 sets fit some))
          (subst (λ x. IsReach (filled_set (slot_set sets args) (slot_integer args) (counted_range v slot)) (counted_reach (family_of sets x) v)) e
          (counted_is (slot_set sets args) (slot_integer args) v slot m.1));
    }

    module _ (x y k j : ℕ) (e : slot_variable args x ≡ k) (f : slot_variable args y ≡ j) where
      pub products_quick : MeansSame (in_slots r) (products_range x y) → IsQuick r args (Products k j)
      products_quick m = record {
        within = λ count fit. let all = there_all (products_range x y) m count fit in (
          there count x k e (all 0 node.One (omega arith)),
          there count y j f (all 1 node.One (omega arith)),
        );
        reach = λ sets fit some. same_set (products_range x y) m sets fit some
            ∙ two (λ v w. between (pos (least (family_of sets v)) *ℤ pos (least (family_of sets w))) (pos (greatest (family_of sets v)) *ℤ pos (greatest (family_of sets w)))) e f;
      }

      pub quotients_quick : MeansSame (in_slots r) (quotients_range x y) → IsQuick r args (Quotients k j)
      quotients_quick m = record {
        within = λ count fit. let all = there_all (quotients_range x y) m count fit in (
          there count x k e (all 0 node.One (omega arith)),
          there count y j f (all 1 node.One (omega arith)),
        );
        reach = λ sets fit some. same_set (quotients_range x y) m sets fit some
            ∙ two (λ v w. between (div_up INFINITY (pos (least (family_of sets v))) (pos (greatest (family_of sets w))))
            (div_down INFINITY (pos (greatest (family_of sets v))) (pos (least (family_of sets w))))) e f;
      }

      pub disjunction_quick : MeansSame (in_slots r) (disjunction_range x y) → IsQuick r args (Disjunction k j)
      disjunction_quick m = record {
        within = λ count fit. let all = there_all (disjunction_range x y) m count fit in (
          there count x k e (all 0 node.One (omega arith)),
          there count y j f (all 1 node.One (omega arith)),
        );
        reach = λ sets fit some. same_set (disjunction_range x y) m sets fit some ∙ (disjunction_is (slot_set sets args) (slot_integer args) x y
            ∙ two (λ v w. between (pos ((least (family_of sets v) + least (family_of sets w) + 1) / 2)) (pos (min 1 (greatest (family_of sets v) + greatest (family_of sets w))))) e f);
      }

    module _ (a b : Bound) (h : IsInterval (in_slots r) a b) where
      row : (sets : List (List ℕ)) → IsArgumentFrame (length sets) r args → ((x : ℕ) → is_none_left (family_of sets x) ≡ false) → (y z : ℤ)
          → bound_value (slot_set sets args) a ≡ y → bound_value (slot_set sets args) b ≡ z → set sets ≡ between y z
      row sets fit some y z e f = shifted_set sets r args accepted fit some no_val ∙ (h.set (slot_set sets args) (slot_integer args) ∙ two between e f)

      low_seen : (count : ℕ) → IsArgumentFrame count r args → AreSeen count args a.products.items
      low_seen count fit = h.low.seen count args (nodes count fit)

      pub moved_quick : (s t : Shift) (k : ℕ) → slot_variable args s.slot ≡ k → s.slot ≡ t.slot → s.constant ≡ t.constant → IsShiftOf a Least s
          → IsShiftOf b Greatest t → IsQuick r args (Moved k s.constant)
      moved_quick s t k e i j m n = record {
        within = λ count fit. (there count s.slot k e (m.seen count args (low_seen count fit)), m.width h.low.width);
        reach = λ sets fit some. row sets fit some _ _ (m.value (slot_set sets args) ∙ ap (λ v. s.constant +ℤ pos (least (family_of sets v))) e)
            (n.value (slot_set sets args) ∙ two (λ x y. x +ℤ pos (greatest (slot_set sets args y))) (sym j) (sym i) ∙ ap (λ v. s.constant +ℤ pos (greatest (family_of sets v))) e);
      }

      module _ (p q : Pair) (x y : ℕ) (e : slot_variable args p.first ≡ x) (f : slot_variable args p.second ≡ y) (same : p ≡ q) where
        pub plus_quick : IsPairOf a Least (pos 1) Least p → IsPairOf b Greatest (pos 1) Greatest q → IsQuick r args (Plus x y p.constant)
        plus_quick m n' = let n = subst (IsPairOf b Greatest (pos 1) Greatest) (sym same) n' in record {
          within = λ count fit. let s = m.seen count args (low_seen count fit) in (there count p.first x e s.0, there count p.second y f s.1, m.width h.low.width refl);
          reach = λ sets fit some. row sets fit some _ _
              (m.value (slot_set sets args) ∙ (ap (λ z. (p.constant +ℤ pos (least (slot_set sets args p.first))) +ℤ z)
              (sym (once_is (pos (least (slot_set sets args p.second)))))
              ∙ two (λ v w. (p.constant +ℤ pos (least (family_of sets v))) +ℤ pos (least (family_of sets w))) e f))
              (n.value (slot_set sets args) ∙ (ap (λ z. (p.constant +ℤ pos (greatest (slot_set sets args p.first))) +ℤ z)
              (sym (once_is (pos (greatest (slot_set sets args p.second)))))
              ∙ two (λ v w. (p.constant +ℤ pos (greatest (family_of sets v))) +ℤ pos (greatest (family_of sets w))) e f));
        }

        pub minus_quick : IsPairOf a Least (negsuc 0) Greatest p → IsPairOf b Greatest (negsuc 0) Least q → IsQuick r args (Minus x y p.constant)
        minus_quick m n' = let n = subst (IsPairOf b Greatest (negsuc 0) Least) (sym same) n' in record {
          within = λ count fit. let s = m.seen count args (low_seen count fit) in (there count p.first x e s.0, there count p.second y f s.1, m.width h.low.width refl);
          reach = λ sets fit some. row sets fit some _ _
              (m.value (slot_set sets args) ∙ (less_once (p.constant +ℤ pos (least (slot_set sets args p.first))) (greatest (slot_set sets args p.second))
              ∙ two (λ v w. (p.constant +ℤ pos (least (family_of sets v))) -ℤ pos (greatest (family_of sets w))) e f))
              (n.value (slot_set sets args) ∙ (less_once (p.constant +ℤ pos (greatest (slot_set sets args p.first))) (least (slot_set sets args p.second))
              ∙ two (λ v w. (p.constant +ℤ pos (greatest (family_of sets v))) -ℤ pos (least (family_of sets w))) e f));
        }

      -- a bound that is a sum of one product or two
      high_seen : (count : ℕ) → IsArgumentFrame count r args → AreSeen count args b.products.items
      high_seen count fit = h.high.seen count args (nodes count fit)

      module _ (ms : List Product) (p : Pairing) where
        pub up_to_quick : (z : ℤ) (w : ℕ) → ((S : Family) → bound_value S a ≡ z) → z ≡ pos 0 → b.division ≡ Whole → ms ≡ b.products.items → IsPairingOf ms b.constant Greatest args p
            → w ≡ width_of_pairing p → w ≤ 2 ^ 63 - 1 → IsQuick r args (UpTo p)
        up_to_quick z w none is_none whole e m width narrow = record {
          within = λ count fit. let k = m.within count (subst (AreSeen count args) (sym e) (high_seen count fit)) in record { one = k.0; other = k.1; width = subst (λ n. n ≤ 2 ^ 63 - 1) width narrow };
          reach = λ sets fit some. row sets fit some _ _ (none (slot_set sets args) ∙ is_none)
              (whole_value (slot_set sets args) b whole ∙ (ap (λ xs. b.constant +ℤ sum_of (slot_set sets args) xs) (sym e) ∙ sum_of_pairing sets ms b.constant Greatest args p m));
        }

        pub from_quick : (z : ℤ) (w : ℕ) → ((S : Family) → bound_value S b ≡ z) → z ≡ pos INFINITY → a.division ≡ Whole → ms ≡ a.products.items → IsPairingOf ms a.constant Least args p
            → w ≡ width_of_pairing p → w ≤ 2 ^ 63 - 1 → IsQuick r args (From p)
        from_quick z w all is_all whole e m width narrow = record {
          within = λ count fit. let k = m.within count (subst (AreSeen count args) (sym e) (low_seen count fit)) in record { one = k.0; other = k.1; width = subst (λ n. n ≤ 2 ^ 63 - 1) width narrow };
          reach = λ sets fit some. row sets fit some _ _
              (whole_value (slot_set sets args) a whole ∙ (ap (λ xs. a.constant +ℤ sum_of (slot_set sets args) xs) (sym e) ∙ sum_of_pairing sets ms a.constant Least args p m))
              (all (slot_set sets args) ∙ is_all);
        }

        pub may_be_quick : (z d c : ℤ) → ((S : Family) → bound_value S a ≡ z) → z ≡ pos 0 → b.division ≡ Down d → c ≡ b.constant -ℤ d → ms ≡ b.products.items
            → IsPairingOf ms c Greatest args p → d ≡ far_of p → width_of_pairing p ≤ 2 ^ 63 - 1 → IsQuick r args (MayBe p)
        may_be_quick z d c none is_none down k e m far narrow = record {
          within = λ count fit. let w = m.within count (subst (AreSeen count args) (sym e) (high_seen count fit)) in record { one = w.0; other = w.1; width = narrow };
          reach = λ sets fit some. row sets fit some _ _ (none (slot_set sets args) ∙ is_none)
              (two (λ v x. divided v (b.constant +ℤ sum_of (slot_set sets args) x)) down (sym e)
              ∙ two (λ z x. div_down INFINITY z x) (far_from sets ms b.constant d c Greatest args p m k ∙ ap (λ x. extreme_sum (family_of sets) Greatest p +ℤ x) far) far);
        }

        pub must_be_quick : (z d c : ℤ) → ((S : Family) → bound_value S b ≡ z) → z ≡ pos INFINITY → a.division ≡ Up d → c ≡ a.constant -ℤ pos 1 → ms ≡ a.products.items
            → IsPairingOf ms c Least args p → d ≡ far_of p → width_of_pairing p ≤ 2 ^ 63 - 1 → IsQuick r args (MustBe p)
        must_be_quick z d c all is_all up k e m far narrow = record {
          within = λ count fit. let w = m.within count (subst (AreSeen count args) (sym e) (low_seen count fit)) in record { one = w.0; other = w.1; width = narrow };
          reach = λ sets fit some. row sets fit some _ _
              (two (λ v x. divided v (a.constant +ℤ sum_of (slot_set sets args) x)) up (sym e)
              ∙ two (λ z x. div_up INFINITY z x) (far_from sets ms a.constant (pos 1) c Least args p m k) far)
              (all (slot_set sets args) ∙ is_all);
        }

      -- the ranges of gates
      pub turned_quick : (s t : Shift) (k : ℕ) → slot_variable args s.slot ≡ k → s.slot ≡ t.slot → s.constant ≡ t.constant → IsLessOf a Greatest t
          → IsLessOf b Least s → IsQuick r args (Turned k s.constant)
      turned_quick s t k e i j n m = record {
        within = λ count fit. (there count s.slot k e (m.seen count args (high_seen count fit)), m.width h.high.width);
        reach = λ sets fit some. row sets fit some _ _
            (n.value (slot_set sets args) ∙ two (λ x y. x -ℤ pos (greatest (slot_set sets args y))) (sym j) (sym i) ∙ ap (λ v. s.constant -ℤ pos (greatest (family_of sets v))) e)
            (m.value (slot_set sets args) ∙ ap (λ v. s.constant -ℤ pos (least (family_of sets v))) e);
      }

      module _ (s : Shift) (p : Pair) (x y : ℕ) (e : slot_variable args p.first ≡ x) (f : slot_variable args p.second ≡ y) (same : s.slot ≡ p.first) (none : s.constant ≡ pos 0) where
        moved_none : (z : ℤ) → s.constant +ℤ z ≡ z
        moved_none z = ap (λ c. c +ℤ z) none ∙ +ℤ_idl z

        pub conjunct_quick : p.constant ≡ pos 1 → IsShiftOf a Least s → IsPairOf b Greatest (negsuc 0) Least p → IsQuick r args (Conjunct x y)
        conjunct_quick one n m = record {
          within = λ count fit. let k = m.seen count args (high_seen count fit) in (there count p.first x e k.0, there count p.second y f k.1);
          reach = λ sets fit some. row sets fit some _ _
              (n.value (slot_set sets args) ∙ (moved_none (pos (least (slot_set sets args s.slot))) ∙ ap (λ v. pos (least (family_of sets v))) (ap (slot_variable args) same ∙ e)))
              (m.value (slot_set sets args) ∙ (less_once (p.constant +ℤ pos (greatest (slot_set sets args p.first))) (least (slot_set sets args p.second))
              ∙ (ap (λ c. (c +ℤ pos (greatest (slot_set sets args p.first))) -ℤ pos (least (slot_set sets args p.second))) one
              ∙ two (λ v w. (pos 1 +ℤ pos (greatest (family_of sets v))) -ℤ pos (least (family_of sets w))) e f)));
        }

        pub disjunct_quick : p.constant ≡ pos 0 → IsPairOf a Least (negsuc 0) Greatest p → IsShiftOf b Greatest s → IsQuick r args (Disjunct x y)
        disjunct_quick zero m n = record {
          within = λ count fit. let k = m.seen count args (low_seen count fit) in (there count p.first x e k.0, there count p.second y f k.1);
          reach = λ sets fit some. row sets fit some _ _
              (m.value (slot_set sets args) ∙ (less_once (p.constant +ℤ pos (least (slot_set sets args p.first))) (greatest (slot_set sets args p.second))
              ∙ (ap (λ c. (c +ℤ pos (least (slot_set sets args p.first))) -ℤ pos (greatest (slot_set sets args p.second))) zero
              ∙ (ap (λ c. c -ℤ pos (greatest (slot_set sets args p.second))) (+ℤ_idl (pos (least (slot_set sets args p.first))))
              ∙ two (λ v w. pos (least (family_of sets v)) -ℤ pos (greatest (family_of sets w))) e f))))
              (n.value (slot_set sets args) ∙ (moved_none (pos (greatest (slot_set sets args s.slot))) ∙ ap (λ v. pos (greatest (family_of sets v))) (ap (slot_variable args) same ∙ e)));
        }
