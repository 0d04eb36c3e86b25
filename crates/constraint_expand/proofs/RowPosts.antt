-- The rows of a form, one by one.
use Rattle.std.proofs.Common.{◌≡◌, ℕ, ◌+◌, ◌*◌, ◌<◌, Bool, true, false, ℤ, pos, negsuc, neg_ℤ, ◌<ℤ◌, ◌≤ℤ◌, List, [], ◌∷◌, ◌++◌, length, take, drop, get_or}
use Rattle.std.proofs.Common.{refl, sym, ap, subst, ◌∙◌, arith}
use Rattle.std.specs.Prelude.{FitsSigned}
use Rattle.std.proofs.Common.{to_z, of_z}
use Rattle.std.specs.Int.{w64, int_wrapping_neg}
use Rattle.std.proofs.lemmas.Int.{ints, to_z-of_z, wrapping_neg_is, int_wrap_fits}
use lib.Signed.{lt_z}
use Rattle.fd_language.specs.Range.{Range}
use Rattle.fd_language.specs.PostfixRanges.{nodes_of, spelled_range, spelled_range-nodes}
use Rattle.fd_language.specs.declared.range_node.RangeNode.{RangeNode}
use Rattle.fd_model.specs.Linear.{in_integers, scaled}
use Rattle.fd_model.specs.LinearRows.{row_by_sign, rows_behind}
use Rattle.linear_forms.proofs.Lemmas.{integer_fits, neg_inside}
use Rattle.constraint_expand.specs.declared.rows.Comparison.{Comparison}
use Rattle.constraint_expand.specs.declared.rows.RowForm.{RowForm}
use Rattle.std.proofs.lemmas.List.{take-append-drop, length-take-le, drop_more}
use Rattle.constraint_expand.specs.Nodes.{CanTurn, comparison_of, lower_reading, upper_reading, product_nodes, row_list, HasProduct, IsRowForm, AreSides}
use Rattle.constraint_expand.specs.Nodes.{product_at, row_at, form_rows}
use Rattle.constraint_expand.proofs.RowNodes.{straight_row, turned_row, products_length, scaled_length}

-- the negation of an integer of the language
pub negation_fits : (z : ℤ) → in_integers z ≡ true → FitsSigned w64 (neg_ℤ z)
negation_fits z h = integer_fits (neg_ℤ z) (neg_inside z h)

pub wrapped_negation : (z : ℤ) → FitsSigned w64 z → in_integers z ≡ true → int_wrapping_neg w64 z ≡ neg_ℤ z
wrapped_negation z f h = wrapping_neg_is w64 z f ∙ int_wrap_fits w64 (neg_ℤ z) (negation_fits z h)

-- nodes that spell a range
pub spelled_back : (ns : List RangeNode) (r : Range) → ns ≡ nodes_of r → (nodes_of (spelled_range ns) ≡ ns) × (spelled_range ns ≡ r)
spelled_back ns r e =
    let same : spelled_range ns ≡ r = ap spelled_range e ∙ spelled_range-nodes r in
    (ap nodes_of same ∙ sym e, same)

-- a list around its element at i
around : (ts : List (ℕ × ℤ)) (i : ℕ) (d : ℕ × ℤ) → i < length ts → ts ≡ take i ts ++ get_or ts i d ∷ drop (i + 1) ts
around ts i d h = sym (take-append-drop i ts) ∙ ap (λ us. take i ts ++ us) (drop_more ts i d h)

short : (ts : List (ℕ × ℤ)) (i : ℕ) → i < length ts → i ≡ length (take i ts)
short ts i h = sym (length-take-le i ts (omega arith))

module _ (k : Comparison) (straight turned : RowForm) (i : ℕ) (s : AreSides k straight turned i) where
  low_length : (form : RowForm) (b : Bool) (ts : List (ℕ × ℤ)) (c : ℤ) → IsRowForm k b ts c form → i < length ts → HasProduct form i form.lower.items × HasProduct form i form.upper.items
  low_length form b ts c f h =
      let l : length form.lower.items ≡ 4 * length ts = ap (λ ns. length ns) f.lower ∙ products_length (lower_reading k) ts in
      let u : length form.upper.items ≡ 4 * length ts = ap (λ ns. length ns) f.upper ∙ products_length (upper_reading k) ts in
      let n : length form.terms.items ≡ length ts = ap (λ us. length us) f.terms in
      (record { term = omega arith; nodes = omega arith }, record { term = omega arith; nodes = omega arith })

  pub has_straight : HasProduct straight i straight.lower.items × HasProduct straight i straight.upper.items
  has_straight = low_length straight false straight.terms.items straight.constant s.straight_form s.within

  pub has_turned : (product_at straight i).1 <ℤ pos 0 → HasProduct turned i turned.lower.items × HasProduct turned i turned.upper.items
  has_turned h = low_length turned true (scaled (negsuc 0) straight.terms.items) (neg_ℤ straight.constant) (s.turned_form h) (let e = scaled_length straight.terms.items in omega (arith, s.within))

  -- where the coefficient is at least 0 the row is that of the form, and else that of the turned form
  pub straight_nodes : pos 0 ≤ℤ (product_at straight i).1 → row_list k straight i ≡ nodes_of (row_at k straight i).range
  straight_nodes h = by (product_at straight i).1 refl h where
    by : (z : ℤ) → (product_at straight i).1 ≡ z → pos 0 ≤ℤ z
        → row_list k straight i ≡ nodes_of (row_by_sign (comparison_of k) straight.constant (take i straight.terms.items ++ drop (i + 1) straight.terms.items)
        (product_at straight i).1)
    by (pos a) e g =
        let parts : straight.terms.items ≡ take i straight.terms.items ++ ((product_at straight i).0, pos a) ∷ drop (i + 1) straight.terms.items =
        around straight.terms.items i (0, pos 0) s.within ∙ (λ j. take i straight.terms.items ++ ((product_at straight i).0, e j) ∷ drop (i + 1) straight.terms.items) in
        straight_row k (take i straight.terms.items) (drop (i + 1) straight.terms.items) (product_at straight i).0 a straight.constant straight i (short straight.terms.items i s.within)
        (subst (λ ts. IsRowForm k false ts straight.constant straight) parts s.straight_form)
        ∙ ap (λ z. nodes_of (row_by_sign (comparison_of k) straight.constant (take i straight.terms.items ++ drop (i + 1) straight.terms.items) z)) (sym e)
    by (negsuc n) e g = absurd (omega (arith, ints))

  pub turned_nodes : (product_at straight i).1 <ℤ pos 0 → row_list k turned i ≡ nodes_of (row_at k straight i).range
  turned_nodes h = by (product_at straight i).1 refl h where
    by : (z : ℤ) → (product_at straight i).1 ≡ z → z <ℤ pos 0
        → row_list k turned i ≡ nodes_of (row_by_sign (comparison_of k) straight.constant (take i straight.terms.items ++ drop (i + 1) straight.terms.items)
        (product_at straight i).1)
    by (pos a) e g = absurd (omega (arith, ints))
    by (negsuc n) e g =
        let parts : straight.terms.items ≡ take i straight.terms.items ++ ((product_at straight i).0, negsuc n) ∷ drop (i + 1) straight.terms.items =
        around straight.terms.items i (0, pos 0) s.within ∙ (λ j. take i straight.terms.items ++ ((product_at straight i).0, e j) ∷ drop (i + 1) straight.terms.items) in
        turned_row k (take i straight.terms.items) (drop (i + 1) straight.terms.items) (product_at straight i).0 n straight.constant turned i (short straight.terms.items i s.within)
        (subst (λ ts. IsRowForm k true (scaled (negsuc 0) ts) (neg_ℤ straight.constant) turned) parts (s.turned_form h))
        ∙ ap (λ z. nodes_of (row_by_sign (comparison_of k) straight.constant (take i straight.terms.items ++ drop (i + 1) straight.terms.items) z)) (sym e)

-- the sides of a form that was made
self_form : (k : Comparison) (b : Bool) (ts : List (ℕ × ℤ)) (c : ℤ) (form : RowForm) → IsRowForm k b ts c form → IsRowForm k b form.terms.items form.constant form
self_form k b ts c form f = record {
  side = f.side;
  terms = refl;
  constant = refl;
  lower = f.lower ∙ ap (product_nodes (lower_reading k)) (sym f.terms);
  upper = f.upper ∙ ap (product_nodes (upper_reading k)) (sym f.terms);
}

pub sides_of : (k : Comparison) (ts us : List (ℕ × ℤ)) (c d : ℤ) (straight turned : RowForm) → IsRowForm k false ts c straight → IsRowForm k true us d turned
    → us ≡ scaled (negsuc 0) ts → CanTurn ts c → (in_integers c ≡ true → d ≡ neg_ℤ c) → (i : ℕ) → i < length straight.terms.items → AreSides k straight turned i
sides_of k ts us c d straight turned f g e can m i h = record {
  straight_form = self_form k false ts c straight f;
  turned_form = λ below. subst (λ z. IsRowForm k true (scaled (negsuc 0) straight.terms.items) z turned)
      (m (can i (subst (λ (us : List (ℕ × ℤ)). (get_or us i (0, pos 0)).1 <ℤ pos 0) f.terms below)) ∙ ap neg_ℤ (sym f.constant))
      (subst (λ vs. IsRowForm k true vs d turned) (e ∙ ap (scaled (negsuc 0)) (sym f.terms)) g);
  within = h;
}

pub rows_same : (k : Comparison) (ts : List (ℕ × ℤ)) (c : ℤ) (straight : RowForm) → IsRowForm k false ts c straight → form_rows k straight ≡ rows_behind (comparison_of k) c [] ts
rows_same k ts c straight f = λ i. rows_behind (comparison_of k) (f.constant i) [] (f.terms i)

-- the sign of a coefficient that is passed on
pub sign_below : (z y : ℤ) → FitsSigned w64 z → lt_z (to_z w64 (of_z w64 z)) (pos 0) ≡ true → z ≡ y → y <ℤ pos 0
sign_below z y f h e = subst (λ x. x <ℤ pos 0) e (let k : lt_z z (pos 0) ≡ true = ap (λ x. lt_z x (pos 0)) (sym (to_z-of_z w64 z f)) ∙ h in grind (arith, ints))

pub sign_above : (z y : ℤ) → FitsSigned w64 z → lt_z (to_z w64 (of_z w64 z)) (pos 0) ≡ false → z ≡ y → pos 0 ≤ℤ y
sign_above z y f h e = subst (λ x. pos 0 ≤ℤ x) e (let k : lt_z z (pos 0) ≡ false = ap (λ x. lt_z x (pos 0)) (sym (to_z-of_z w64 z f)) ∙ h in grind (arith, ints))

pub made_form : (k : Comparison) (b : Bool) (us ts : List (ℕ × ℤ)) (d c : ℤ) (form : RowForm) → IsRowForm k b us d form → us ≡ ts → d ≡ c → IsRowForm k b ts c form
made_form k b us ts d c form f e m = subst (λ z. IsRowForm k b ts z form) m (subst (λ vs. IsRowForm k b vs d form) e f)
