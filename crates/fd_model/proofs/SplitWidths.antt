-- The rows of products and Boolean constraints keep the limit of width, and all rows are accepted.
use Rattle.std.proofs.Common.{◌≡◌, ℕ, suc, ◌+◌, ◌*◌, ◌^◌, ◌≤◌, ◌<◌, max, true, not, ℤ, pos, negsuc, ◌+ℤ◌, ◌-ℤ◌, neg_ℤ, nat_abs, List, [], length, Some, refl}
use Rattle.std.proofs.Common.{sym, subst, inl, inr, ◌⊎◌, arith, Ok, mul-le-mul}
use Rattle.fd_model.specs.declared.kinds.ConstraintKind.{ConstraintKind}
use Rattle.fd_model.specs.declared.kinds.ConstraintKind.TheVariants.{Compare, And, Or, Not, Reified}
use Rattle.fd_language.specs.Term.{Term, Terms, no_terms, term}
use Rattle.fd_language.specs.Range.{Indexical}
use Rattle.fd_language.specs.RangeVerdict.{over_limit, range_within}
use Rattle.fd_model.specs.Linear.{Linear, Comparison, IsEqual, IsOther, IsAtMost, scaled, turned, with_product, nonzero, in_integers}
use Rattle.fd_model.specs.LinearRows.{Expansion}
use Rattle.fd_model.specs.Members.{place_of, after}
use Rattle.fd_model.specs.ProductRows.{product, quotient, product_form, product_ranges}
use Rattle.fd_model.specs.BooleanRows.{and_ranges, or_ranges, not_ranges, conjunct, disjunction, disjunct, negation}
use Rattle.fd_model.specs.ReifiedRows.{reach, equal_ranges, reified_sums, reified_ranges}
use Rattle.fd_model.specs.Splitting.{Split, sum_rows, joined, of_two, of_three, reified, split}
use Rattle.fd_model.specs.ConstraintExpansion.{expand}
use Rattle.fd_model.specs.ConstraintLaws.{HaveIntegers, HasShortLists, AcceptedRows}
use Rattle.fd_model.proofs.LinearForms.{NoneZero, nonzero_left}
use Rattle.fd_model.proofs.RowWidths.{under, weight, weight_product, weight_nonzero, weight-scaled, AreNarrow, rows_within}
use Rattle.fd_model.proofs.CompareWidths.{integer_size, nonzero_integers, integers_narrow, weight_most, most, AreRows, collect_sizes, normal_sizes, within}
use Rattle.fd_model.proofs.CompareWidths.{Within}
use Rattle.fd_model.proofs.ListWidths.{limit, append_within, basic_within, all_accepted}
use Rattle.fd_model.proofs.Splits.{expand_ok, of_some, three_ok, two_ok, product_ok, IsAgain, IsComparison, reified_ok}
use Rattle.fd_model.proofs.SplitSums.{sums_each, sums_posted}
use Rattle.fd_model.proofs.SplitDirections.{expand_fitting}

form_sizes : (k : Term) (p : Comparison × Linear) → IsComparison k p → AreRows p.1.products
form_sizes k p i = subst (λ (m : Linear). AreRows m.products) i.normal_is (normal_sizes i.relation i.linear (collect_sizes i.left i.right i.linear i.collected))

module _ (M : ℕ) (small : M < 2 ^ 28) where
  square : M * M ≤ 2 ^ 28 * 2 ^ 28
  square = mul-le-mul less less where
    less : M ≤ 2 ^ 28
    less = omega arith

  product_within : (x y : ℕ) → range_within M (product x y) ≡ true
  product_within x y = let q = square in let e : not (over_limit (M * M)) ≡ true = under (M * M) (omega arith) in let f = limit M small in rw (e, f) refl

  quotient_within : (z y : ℕ) → range_within M (quotient z y) ≡ true
  quotient_within z y = let e : not (over_limit (max M M)) ≡ true = under (max M M) (omega arith) in let f = limit M small in rw (e, f) refl

  conjunct_within : (z y : ℕ) → range_within M (conjunct z y) ≡ true
  conjunct_within z y =
      let e : not (over_limit (M + 1)) ≡ true = under (M + 1) (omega arith) in
      let g : not (over_limit (M + 1 + M)) ≡ true = under (M + 1 + M) (omega arith) in
      let f = limit M small in
      rw (e, f, g) refl

  disjunction_within : (x y : ℕ) → range_within M (disjunction x y) ≡ true
  disjunction_within x y =
      let e : not (over_limit (M + M)) ≡ true = under (M + M) (omega arith) in
      let g : not (over_limit (max (M + M) M)) ≡ true = under (max (M + M) M) (omega arith) in
      let f = limit M small in
      rw (e, f, g) refl

  disjunct_within : (z y : ℕ) → range_within M (disjunct z y) ≡ true
  disjunct_within z y = let e : not (over_limit (M + M)) ≡ true = under (M + M) (omega arith) in let f = limit M small in rw (e, f) refl

  negation_within : (y : ℕ) → range_within M (negation y) ≡ true
  negation_within y = let e : not (over_limit (1 + M)) ≡ true = under (1 + M) (omega arith) in let f = limit M small in rw (e, f) refl

  products_within : (x y z : ℕ) → Within M small (product_ranges x y z)
  products_within x y z = (product_within x y, (quotient_within z y, (quotient_within z x, tt)))

  and_within : (x y z : ℕ) → Within M small (and_ranges x y z)
  and_within x y z = (refl, (refl, (product_within x y, (conjunct_within z y, (conjunct_within z x, tt)))))

  or_within : (x y z : ℕ) → Within M small (or_ranges x y z)
  or_within x y z = (refl, (refl, (disjunction_within x y, (disjunct_within z y, (disjunct_within z x, tt)))))

  not_within : (x y : ℕ) → Within M small (not_ranges x y)
  not_within x y = (negation_within y, (negation_within x, tt))

  equal_within : (x f g : ℕ) → Within M small (equal_ranges x f g)
  equal_within x f g = (refl, (refl, and_within f g x))

  ranges_within : (c : Comparison) (x m : ℕ) → Within M small (reified_ranges c x m)
  ranges_within IsAtMost x m = (refl, tt)
  ranges_within IsEqual x m = equal_within x m (suc m)
  ranges_within IsOther x m = append_within M small (equal_ranges m (suc m) (suc (suc m))) (not_ranges m x) (equal_within m (suc m) (suc (suc m))) (not_within m x)

  -- a sum that keeps the limit
  record IsNarrowSum (u : Linear) : Type 0 where
    pub nonzero : NoneZero u.products
    pub narrow : AreNarrow u.products
    pub size : nat_abs u.constant + weight M u.products < 2 ^ 126

  again_narrow : (ts : List (ℕ × ℤ)) (c : ℤ) (u : Linear) → IsAgain ts c u → weight M ts ≤ 2 ^ 123 → IsNarrowSum u
  again_narrow ts c u i w = subst IsNarrowSum i.is (record {
    nonzero = nonzero_left ts;
    narrow = integers_narrow (nonzero ts) (nonzero_integers ts i.coefficients);
    size = let e = integer_size c i.constant in let f = weight_nonzero M ts in omega arith;
  })

  form_weight : (l : Linear) → AreRows l.products → weight M l.products ≤ 2 ^ 122
  form_weight l r = let w = weight_most M l.products r.integers in let v = most M (length l.products) small r.few in omega arith

  either_weight : (k l : Linear) → AreRows l.products → (k ≡ l) ⊎ (k ≡ turned l) → weight M k.products ≤ 2 ^ 122
  either_weight k l r (inl e) = subst (λ (m : Linear). weight M m.products ≤ 2 ^ 122) (sym e) (form_weight l r)
  either_weight k l r (inr e) = subst (λ (m : Linear). weight M m.products ≤ 2 ^ 122) (sym e) (let f = weight-scaled M l.products in let g = form_weight l r in omega arith)

  told_weight : (ts : List (ℕ × ℤ)) (f : ℕ) (w : ℤ) → in_integers w ≡ true → weight M ts ≤ 2 ^ 122 → weight M (with_product ts f w) ≤ 2 ^ 123
  told_weight ts f w i h = let e = weight_product M ts f w in let g = more (nat_abs w) (integer_size w i) in omega arith where
    more : (n : ℕ) → n < 2 ^ 63 → n * M ≤ 2 ^ 63 * 2 ^ 28
    more n h = mul-le-mul one two where
      one : n ≤ 2 ^ 63
      one = omega arith

      two : M ≤ 2 ^ 28
      two = omega arith

  sums_within : (c : Comparison) (x m : ℕ) (l : Linear) (ls : List Linear) → AreRows l.products → reified_sums M c x m l ≡ Ok ls → Within M small (sum_rows ls)
  sums_within c x m l ls r e =
      sums_posted (λ p. range_within M p.range ≡ true) IsNarrowSum (λ u i. rows_within M (within M small) IsAtMost u.constant [] u.products i.nonzero tt i.narrow i.size) ls
      (sums_each IsNarrowSum M x m l c ls e (λ f k t o w.
      let v = told_weight k.products f (pos (reach M l)) w (either_weight k l r o) in (
        (λ u i. again_narrow (with_product k.products f (pos (reach M l))) (k.constant +ℤ pos (reach M l)) u i v),
        (λ u i. again_narrow (scaled (negsuc 0) (with_product k.products f (pos (reach M l)))) (neg_ℤ k.constant -ℤ pos 1) u i
            (let s = weight-scaled M (with_product k.products f (pos (reach M l))) in omega arith)),
      )))

  three_within : (rows : ℕ → ℕ → ℕ → List Indexical) → ((x y z : ℕ) → Within M small (rows x y z)) → (x y z : Term) (n : ℕ) (s : Split)
      → of_three rows x y z n ≡ Ok s → Within M small (joined s).ranges
  three_within rows narrow x y z n s e =
      let k = three_ok rows x y z n s e in
      let u = place_of n k.first in
      let v = place_of (after n k.first) k.second in
      let w = place_of (after (after n k.first) k.second) k.third in
      subst (λ q. Within M small (joined q).ranges) k.is (append_within M small (rows u v w) [] (narrow u v w) tt)

  two_within : (x y : Term) (n : ℕ) (s : Split) → of_two not_ranges x y n ≡ Ok s → Within M small (joined s).ranges
  two_within x y n s e =
      let k = two_ok not_ranges x y n s e in
      let u = place_of n k.first in
      let v = place_of (after n k.first) k.second in
      subst (λ q. Within M small (joined q).ranges) k.is (append_within M small (not_ranges u v) [] (not_within u v) tt)

  pub split_within : (kind : ConstraintKind) (ts : Terms) (n : ℕ) (s : Split) → split M kind ts n ≡ Some (Ok s) → Within M small (joined s).ranges
  split_within (Compare r) (term t (term u no_terms)) n s e =
      let k = product_ok n (product_form r t u) s e in
      let p = k.product in
      let z = place_of n p.result in
      subst (λ q. Within M small (joined q).ranges) k.is (append_within M small (product_ranges p.left p.right z) [] (products_within p.left p.right z) tt)
  split_within And (term x (term y (term z no_terms))) n s e = three_within and_ranges and_within x y z n s (of_some (of_three and_ranges x y z n) s e)
  split_within Or (term x (term y (term z no_terms))) n s e = three_within or_ranges or_within x y z n s (of_some (of_three or_ranges x y z n) s e)
  split_within Not (term x (term y no_terms)) n s e = two_within x y n s (of_some (of_two not_ranges x y n) s e)
  split_within Reified (term b (term t no_terms)) n s e =
      let k = reified_ok M b t n s (of_some (reified M b t n) s e) in
      let x = place_of n k.teller in
      let end = after n k.teller in
      subst (λ q. Within M small (joined q).ranges) k.is
      (append_within M small (reified_ranges k.kind x end) (sum_rows k.sums) (ranges_within k.kind x end)
      (sums_within k.kind x end k.form k.sums (form_sizes t (k.kind, k.form) k.from_term) k.sums_are))
  split_within _ _ n s e = absurd (cc)

  expand_within : (kind : ConstraintKind) (ts : Terms) (n : ℕ) (x : Expansion) → HaveIntegers ts → HasShortLists kind ts → expand M kind ts n ≡ Ok x → Within M small x.ranges
  expand_within kind ts n x i s h = elim (expand_ok M kind ts n x h) [
    | inl k ↦ basic_within M small kind ts n x i s k.basic_is
    | inr k ↦ subst (λ y. Within M small y.ranges) k.rows (split_within kind ts n k.parts k.split_is)
  ]

pub accepted_rows : AcceptedRows
accepted_rows M kind ts n x small i s h = all_accepted M small x.ranges (expand_fitting M kind ts n x h) (expand_within M small kind ts n x i s h)
