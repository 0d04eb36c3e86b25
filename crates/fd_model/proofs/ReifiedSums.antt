-- What a variable tells by sums that are at most their constants.
use Rattle.std.proofs.Common.{◌≡◌, ℕ, zero, suc, ◌+◌, ◌*◌, ◌≤◌, ◌<◌, Bool, true, false, cond, ◌==◌, ℤ, pos, negsuc, ◌+ℤ◌, ◌-ℤ◌, ◌*ℤ◌, neg_ℤ, ◌≤ℤ◌, ◌<ℤ◌, int_le}
use Rattle.std.proofs.Common.{nat_abs, List, [], ◌∷◌, refl, ap, sym, ◌∙◌, subst, inl, inr, ◌⊎◌, arith, mul-le-mul, mul-le-mul_left}
use Rattle.std.specs.Ordering.{int_eq}
use Rattle.std.proofs.lemmas.Int.{ints}
use Rattle.fd_language.proofs.Lemmas.{int_le_true, abs_add, abs_mul}
use Rattle.fd_model.specs.Linear.{Linear, IsAtMost, with_product, scaled, nonzero, turned}
use Rattle.fd_model.specs.LinearRows.{rows_behind}
use Rattle.fd_model.specs.Satisfaction.{Assignment}
use Rattle.fd_model.specs.ReifiedRows.{magnitudes, reach}
use Rattle.fd_model.specs.Splitting.{sum_rows}
use Rattle.fd_model.specs.ConstraintLaws.{total}
use Rattle.fd_model.proofs.Integers.{turned_once, mul_none}
use Rattle.fd_model.proofs.Sums.{total-with_product, total-scaled, total-nonzero}
use Rattle.fd_model.proofs.LinearForms.{NoneZero, nonzero_left, rows_inside, rows_back}
use Rattle.fd_model.proofs.RowWidths.{weight, weight-scaled}
use Rattle.fd_model.proofs.Singles.{Inside, inside_append, inside_left, inside_right}
use Rattle.fd_model.proofs.Splits.{IsAgain, IsTold}

-- 1 where it is so, and else 0
abbrev pub truth : Bool → ℕ
truth true = 1
truth false = 0

-- some coefficient isn't 0
abbrev HasNonzero : List (ℕ × ℤ) → Type 0
HasNonzero [] = ⊥
HasNonzero (t ∷ ts) = (t.1 ≡ pos 0 → ⊥) ⊎ HasNonzero ts

-- so it is where a coefficient was added that is more than all others
more_left : (ts : List (ℕ × ℤ)) (x w : ℕ) → magnitudes ts < w → HasNonzero (with_product ts x (pos w))
more_left [] x w h = inl (λ e. absurd (none w h e)) where
  none : (w : ℕ) → 0 < w → pos w ≡ pos 0 → ⊥
  none w h e = omega (arith, ints)
more_left (t ∷ ts) x w h = by_test (t.0 == x) (more_left ts x w (omega arith)) where
  none : (z : ℤ) (w m : ℕ) → nat_abs z + m < w → z +ℤ pos w ≡ pos 0 → ⊥
  none z w m h e = omega (arith, ints)

  by_test : (c : Bool) → HasNonzero (with_product ts x (pos w)) → HasNonzero (cond c ((x, t.1 +ℤ pos w) ∷ ts) (t ∷ with_product ts x (pos w)))
  by_test true g = inl (λ e. absurd (none t.1 w (magnitudes ts) h e))
  by_test false g = inr g

turned_left : (ts : List (ℕ × ℤ)) → HasNonzero ts → HasNonzero (scaled (negsuc 0) ts)
turned_left [] h = absurd h
turned_left (t ∷ ts) (inl f) = inl (λ e. f (let g = turned_once t.1 in omega (arith, ints)))
turned_left (t ∷ ts) (inr h) = inr (turned_left ts h)

some_left : (ts : List (ℕ × ℤ)) → HasNonzero ts → (t : ℕ × ℤ) × (us : List (ℕ × ℤ)) × (nonzero ts ≡ t ∷ us)
some_left [] h = absurd h
some_left (t ∷ ts) h = by_test (int_eq t.1 (pos 0)) (zero_from t.1) h (λ g. some_left ts g) where
  zero_from : (z : ℤ) → int_eq z (pos 0) ≡ true → z ≡ pos 0
  zero_from z h = grind (arith, ints)

  by_test : (c : Bool) → (c ≡ true → t.1 ≡ pos 0) → (t.1 ≡ pos 0 → ⊥) ⊎ HasNonzero ts → (HasNonzero ts → (u : ℕ × ℤ) × (us : List (ℕ × ℤ)) × (nonzero ts ≡ u ∷ us))
      → (u : ℕ × ℤ) × (us : List (ℕ × ℤ)) × (cond c (nonzero ts) (t ∷ nonzero ts) ≡ u ∷ us)
  by_test true f (inl g) k = absurd (g (f refl))
  by_test true f (inr g) k = k g
  by_test false f g k = (t, nonzero ts, refl)

module _ (M : ℕ) (b : Assignment) (small : (v : ℕ) → b v ≤ M) where
  -- how far a sum is from 0
  pub total_size : (ts : List (ℕ × ℤ)) → nat_abs (total b ts) ≤ weight M ts
  total_size [] = omega (arith, ints)
  total_size (t ∷ ts) =
      let e = abs_add (t.1 *ℤ pos (b t.0)) (total b ts) in
      let f = abs_mul t.1 (pos (b t.0)) in
      let g = at_most (nat_abs t.1) (b t.0) (small t.0) in
      let h = total_size ts in
      omega (arith, ints) where
        same : (n : ℕ) → n ≤ n
        same n = omega arith

        at_most : (n k : ℕ) → k ≤ M → n * k ≤ n * M
        at_most n k h = mul-le-mul (same n) h

  -- the rows of a sum
  sum_inside : (ts : List (ℕ × ℤ)) (c : ℤ) (l : Linear) → IsAgain ts c l → int_le (total b ts) c ≡ true → Inside M b (rows_behind IsAtMost l.constant [] l.products)
  sum_inside ts c l i h = subst (λ (m : Linear). Inside M b (rows_behind IsAtMost m.constant [] m.products)) i.is
      (rows_inside M b small IsAtMost c [] (nonzero ts) (nonzero_left ts) (subst (λ s. int_le s c ≡ true) (sym (total-nonzero b ts)) h))

  inside_sum : (ts : List (ℕ × ℤ)) (c : ℤ) (l : Linear) → IsAgain ts c l → HasNonzero ts → Inside M b (rows_behind IsAtMost l.constant [] l.products) → int_le (total b ts) c ≡ true
  inside_sum ts c l i some h = subst (λ s. int_le s c ≡ true) (total-nonzero b ts)
      (back (nonzero ts) (some_left ts some) (nonzero_left ts)
      (subst (λ (m : Linear). Inside M b (rows_behind IsAtMost m.constant [] m.products)) (sym i.is) h)) where
        back : (us : List (ℕ × ℤ)) → (t : ℕ × ℤ) × (vs : List (ℕ × ℤ)) × (us ≡ t ∷ vs) → NoneZero us → Inside M b (rows_behind IsAtMost c [] us) → int_le (total b us) c ≡ true
        back [] e z h = absurd (let f = e.2 in cc)
        back (u ∷ us) e z h = rows_back M b small IsAtMost c u us z h

from_le : (x y : ℤ) → x ≤ℤ y → int_le x y ≡ true
from_le x y h = grind (arith, ints)

not_le : (x y : ℤ) → int_le x y ≡ false → y <ℤ x
not_le x y h = grind (arith, ints)

from_less : (x y : ℤ) → y <ℤ x → int_le x y ≡ false
from_less x y h = grind (arith, ints)

no_times : (w k : ℕ) → k ≡ 0 → pos w *ℤ pos k ≡ pos 0
no_times w k h = ap (λ n. pos w *ℤ pos n) h ∙ mul_none (pos w)

one_time : (w k : ℕ) → k ≡ 1 → pos w *ℤ pos k ≡ pos w
one_time w k h = ap (λ n. pos w *ℤ pos n) h ∙ ap pos (omega arith)

-- t is a sum, c its constant, w farther than both, and k tells
module _ (t c : ℤ) (w k : ℕ) (far : nat_abs t + nat_abs c < w) where
  over_is : k ≡ truth (int_le t c) → int_le ((pos w *ℤ pos k) +ℤ t) (c +ℤ pos w) ≡ true
  over_is h = by_test (int_le t c) (int_le_true t c) h where
    by_test : (q : Bool) → (q ≡ true → t ≤ℤ c) → k ≡ truth q → int_le ((pos w *ℤ pos k) +ℤ t) (c +ℤ pos w) ≡ true
    by_test true l e = let i = one_time w k e in let j = l refl in from_le ((pos w *ℤ pos k) +ℤ t) (c +ℤ pos w) (omega (arith, ints))
    by_test false l e = let i = no_times w k e in from_le ((pos w *ℤ pos k) +ℤ t) (c +ℤ pos w) (omega (arith, ints))

  under_is : k ≡ truth (int_le t c) → int_le (negsuc 0 *ℤ ((pos w *ℤ pos k) +ℤ t)) (neg_ℤ c -ℤ pos 1) ≡ true
  under_is h = by_test (int_le t c) (not_le t c) h where
    by_test : (q : Bool) → (q ≡ false → c <ℤ t) → k ≡ truth q → int_le (negsuc 0 *ℤ ((pos w *ℤ pos k) +ℤ t)) (neg_ℤ c -ℤ pos 1) ≡ true
    by_test true l e =
        let i = one_time w k e in
        let m = turned_once ((pos w *ℤ pos k) +ℤ t) in
        from_le (negsuc 0 *ℤ ((pos w *ℤ pos k) +ℤ t)) (neg_ℤ c -ℤ pos 1) (omega (arith, ints))
    by_test false l e =
        let i = no_times w k e in
        let j = l refl in
        let m = turned_once ((pos w *ℤ pos k) +ℤ t) in
        from_le (negsuc 0 *ℤ ((pos w *ℤ pos k) +ℤ t)) (neg_ℤ c -ℤ pos 1) (omega (arith, ints))

  pub told_is : k ≤ 1 → int_le ((pos w *ℤ pos k) +ℤ t) (c +ℤ pos w) ≡ true → int_le (negsuc 0 *ℤ ((pos w *ℤ pos k) +ℤ t)) (neg_ℤ c -ℤ pos 1) ≡ true → k ≡ truth (int_le t c)
  told_is l h g = elim (zero_or_one k l) [
    | inl e ↦
        let i = no_times w k e in
        let m = turned_once ((pos w *ℤ pos k) +ℤ t) in
        let u = int_le_true (negsuc 0 *ℤ ((pos w *ℤ pos k) +ℤ t)) (neg_ℤ c -ℤ pos 1) g in
        e ∙ ap truth (sym (from_less t c (omega (arith, ints))))
    | inr e ↦
        let i = one_time w k e in
        let o = int_le_true ((pos w *ℤ pos k) +ℤ t) (c +ℤ pos w) h in
        e ∙ ap truth (sym (from_le t c (omega (arith, ints))))
  ] where
    zero_or_one : (k : ℕ) → k ≤ 1 → (k ≡ 0) ⊎ (k ≡ 1)
    zero_or_one zero l = inl refl
    zero_or_one (suc zero) l = inr refl
    zero_or_one (suc (suc k)) l = absurd (omega arith)

magnitudes_least : (M : ℕ) → 0 < M → (ts : List (ℕ × ℤ)) → magnitudes ts ≤ weight M ts
magnitudes_least M p [] = omega arith
magnitudes_least M p (t ∷ ts) = let e = mul-le-mul_left (nat_abs t.1) p in let f = magnitudes_least M p ts in omega arith

module _ (M : ℕ) (b : Assignment) (small : (v : ℕ) → b v ≤ M) (positive : 0 < M) (f w : ℕ) (l : Linear) (far : weight M l.products + nat_abs l.constant < w) where
  far_total : nat_abs (total b l.products) + nat_abs l.constant < w
  far_total = let e = total_size M b small l.products in omega arith

  over_total : total b (with_product l.products f (pos w)) ≡ (pos w *ℤ pos (b f)) +ℤ total b l.products
  over_total = total-with_product b l.products f (pos w)

  under_total : total b (scaled (negsuc 0) (with_product l.products f (pos w))) ≡ negsuc 0 *ℤ ((pos w *ℤ pos (b f)) +ℤ total b l.products)
  under_total = total-scaled b (negsuc 0) (with_product l.products f (pos w)) ∙ ap (λ s. negsuc 0 *ℤ s) over_total

  some : HasNonzero (with_product l.products f (pos w))
  some = more_left l.products f w (let e = magnitudes_least M positive l.products in omega arith)

  -- f tells whether the sum is at most its constant
  pub told_inside : (ls : List Linear) → IsTold f (pos w) l ls → b f ≡ truth (int_le (total b l.products) l.constant) → Inside M b (sum_rows ls)
  told_inside ls i h = subst (λ ms. Inside M b (sum_rows ms)) i.are
      (inside_append M b (rows_behind IsAtMost i.over.constant [] i.over.products) (sum_rows (i.under ∷ []))
      (sum_inside M b small (with_product l.products f (pos w)) (l.constant +ℤ pos w) i.over i.from_over
      (ap (λ s. int_le s (l.constant +ℤ pos w)) over_total ∙ over_is (total b l.products) l.constant w (b f) far_total h))
      (inside_append M b (rows_behind IsAtMost i.under.constant [] i.under.products) []
      (sum_inside M b small (scaled (negsuc 0) (with_product l.products f (pos w))) (neg_ℤ l.constant -ℤ pos 1) i.under i.from_under
      (ap (λ s. int_le s (neg_ℤ l.constant -ℤ pos 1)) under_total ∙ under_is (total b l.products) l.constant w (b f) far_total h)) tt))

  pub inside_told : (ls : List Linear) → IsTold f (pos w) l ls → b f ≤ 1 → Inside M b (sum_rows ls) → b f ≡ truth (int_le (total b l.products) l.constant)
  inside_told ls i one h =
      let g : Inside M b (sum_rows (i.over ∷ i.under ∷ [])) = subst (λ ms. Inside M b (sum_rows ms)) (sym i.are) h in
      let later = inside_right M b (rows_behind IsAtMost i.over.constant [] i.over.products) (sum_rows (i.under ∷ [])) g in
      let o = inside_sum M b small (with_product l.products f (pos w)) (l.constant +ℤ pos w) i.over i.from_over some
      (inside_left M b (rows_behind IsAtMost i.over.constant [] i.over.products) (sum_rows (i.under ∷ [])) g) in
      let u = inside_sum M b small (scaled (negsuc 0) (with_product l.products f (pos w))) (neg_ℤ l.constant -ℤ pos 1) i.under i.from_under (turned_left (with_product l.products f (pos w)) some)
      (inside_left M b (rows_behind IsAtMost i.under.constant [] i.under.products) [] later) in
      told_is (total b l.products) l.constant w (b f) far_total one (ap (λ s. int_le s (l.constant +ℤ pos w)) (sym over_total) ∙ o)
      (ap (λ s. int_le s (neg_ℤ l.constant -ℤ pos 1)) (sym under_total) ∙ u)

-- what W is over, for a form and turned
pub reach_far : (M : ℕ) (l : Linear) → weight M l.products + nat_abs l.constant < reach M l
reach_far M l = let e = weight_is M l.products in omega arith where
  weight_is : (M : ℕ) (ts : List (ℕ × ℤ)) → weight M ts ≡ M * magnitudes ts
  weight_is M [] = omega arith
  weight_is M (t ∷ ts) = more (nat_abs t.1) M (magnitudes ts) (weight M ts) (weight_is M ts) where
    more : (a m k w : ℕ) → w ≡ m * k → a * m + w ≡ m * (a + k)
    more a m k w h = grind arith

pub reach_turned : (M : ℕ) (l : Linear) → weight M (turned l).products + nat_abs (turned l).constant < reach M l
reach_turned M l = let e = weight-scaled M l.products in let f = negated l.constant in let g = reach_far M l in omega arith where
  negated : (z : ℤ) → nat_abs (neg_ℤ z) ≡ nat_abs z
  negated z = omega (arith, ints)
