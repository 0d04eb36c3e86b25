-- The linear rows where each variable has its one value.
use Rattle.std.proofs.Common.{◌≡◌, ℕ, zero, suc, ◌*◌, ◌/◌, ◌≤◌, ◌<◌, Bool, true, false, not, ◌&&◌, ℤ, pos, negsuc, ◌+ℤ◌, ◌-ℤ◌, ◌*ℤ◌, neg_ℤ, ◌≤ℤ◌, int_le, List}
use Rattle.std.proofs.Common.{[], ◌∷◌, refl, ap, ◌∙◌, arith}
use Rattle.std.proofs.Math.Nat.{le-div_iff_mul-le, div-lt_iff_lt-mul, mul_comm}
use Rattle.std.specs.Ordering.{int_eq}
use Rattle.std.proofs.lemmas.Int.{ints}
use Rattle.std.specs.Cmp.{both_ways}
use Rattle.fd_language.proofs.Lemmas.{int_le_true}
use Rattle.fd_language.specs.Range.{Expr, Number, Min, Max, Val, Sub, Mul, value, in_range, down_by}
use Rattle.fd_model.specs.Linear.{scaled, Comparison, IsEqual, IsOther, IsAtMost}
use Rattle.fd_model.specs.LinearRows.{by_sign, minus_products, low, high, exact, row, row_by_sign, compares}
use Rattle.fd_model.specs.Satisfaction.{Assignment, singles}
use Rattle.fd_model.specs.ConstraintLaws.{total}
use Rattle.fd_model.proofs.Integers.{turned_once}
use Rattle.fd_model.proofs.Sums.{total-scaled}

module _ (M : ℕ) (b : Assignment) where
  abbrev Reads : (ℕ → Expr) → Type 0
  Reads f = (x : ℕ) → value M (singles b) (f x) ≡ pos (b x)

  sign_value : (f g : ℕ → Expr) → Reads f → Reads g → (x : ℕ) (z : ℤ) → value M (singles b) (by_sign f g x z) ≡ pos (b x)
  sign_value f g h k x (pos n) = h x
  sign_value f g h k x (negsuc n) = k x

  pub less_value : (f g : ℕ → Expr) → Reads f → Reads g → (e : Expr) (ts : List (ℕ × ℤ)) → value M (singles b) (minus_products f g e ts) ≡ value M (singles b) e -ℤ total b ts
  less_value f g h k e [] = omega (arith, ints)
  less_value f g h k e (t ∷ ts) =
      let later = less_value f g h k (Sub e (Mul (Number t.1) (by_sign f g t.0 t.1))) ts in
      let one : t.1 *ℤ value M (singles b) (by_sign f g t.0 t.1) ≡ t.1 *ℤ pos (b t.0) = ap (λ z. t.1 *ℤ z) (sign_value f g h k t.0 t.1) in
      omega (arith, ints)

  pub low_value : (c : ℤ) (ts : List (ℕ × ℤ)) → value M (singles b) (low c ts) ≡ c -ℤ total b ts
  low_value c ts = less_value Max Min (λ x. refl) (λ x. refl) (Number c) ts

  pub high_value : (c : ℤ) (ts : List (ℕ × ℤ)) → value M (singles b) (high c ts) ≡ c -ℤ total b ts
  high_value c ts = less_value Min Max (λ x. refl) (λ x. refl) (Number c) ts

  pub exact_value : (c : ℤ) (ts : List (ℕ × ℤ)) → value M (singles b) (exact c ts) ≡ c -ℤ total b ts
  exact_value c ts = less_value Val Val (λ x. refl) (λ x. refl) (Number c) ts

from_le : (a b : ℤ) → a ≤ℤ b → int_le a b ≡ true
from_le a b h = grind (arith, ints)

to_eq : (a b : ℤ) → int_eq a b ≡ true → a ≡ b
to_eq a b h = grind (arith, ints)

from_eq : (a b : ℤ) → a ≡ b → int_eq a b ≡ true
from_eq a b h = grind (arith, ints)

same_le : (a b c d : ℤ) → (a ≤ℤ b → c ≤ℤ d) → (c ≤ℤ d → a ≤ℤ b) → int_le a b ≡ int_le c d
same_le a b c d f g = both_ways (int_le a b) (int_le c d) (λ h. from_le c d (f (int_le_true a b h))) (λ h. from_le a b (g (int_le_true c d h)))

pub same_eq : (a b c d : ℤ) → (a ≡ b → c ≡ d) → (c ≡ d → a ≡ b) → int_eq a b ≡ int_eq c d
same_eq a b c d f g = both_ways (int_eq a b) (int_eq c d) (λ h. from_eq c d (f (to_eq a b h))) (λ h. from_eq a b (g (to_eq c d h)))

-- quotients against a number
nat_down : (n m k : ℕ) → n ≤ m / suc k → suc k * n ≤ m
nat_down n m k h = let e = (le-div_iff_mul-le {k = suc k} {x = n} {y = m} (omega arith)).0 h in omega (arith, mul_comm n (suc k))

nat_down_back : (n m k : ℕ) → suc k * n ≤ m → n ≤ m / suc k
nat_down_back n m k h = (le-div_iff_mul-le {k = suc k} {x = n} {y = m} (omega arith)).1 (omega (arith, mul_comm n (suc k)))

nat_up : (n m k : ℕ) → m / suc k < n → m < suc k * n
nat_up n m k h = let e = (div-lt_iff_lt-mul {k = suc k} {x = m} {y = n} (omega arith)).0 h in omega (arith, mul_comm n (suc k))

nat_up_back : (n m k : ℕ) → m < suc k * n → m / suc k < n
nat_up_back n m k h = (div-lt_iff_lt-mul {k = suc k} {x = m} {y = n} (omega arith)).1 (omega (arith, mul_comm n (suc k)))

down_test : (v : ℤ) (n k : ℕ) → int_le (pos n) (down_by v k) ≡ int_le (pos (suc k * n)) v
down_test (pos m) n k = same_le (pos n) (pos (m / suc k)) (pos (suc k * n)) (pos m) (λ h. let e = nat_down n m k (omega (arith, ints)) in
    omega (arith, ints)) (λ h. let e = nat_down_back n m k (omega (arith, ints)) in omega (arith, ints))
down_test (negsuc m) n k = same_le (pos n) (negsuc (m / suc k)) (pos (suc k * n)) (negsuc m) (λ h. absurd (omega (arith, ints))) (λ h. absurd (omega (arith, ints)))

pub up_test : (v : ℤ) (n k : ℕ) → int_le (neg_ℤ (down_by (neg_ℤ v) k)) (pos n) ≡ int_le v (pos (suc k * n))
up_test (pos zero) n k = same_le (neg_ℤ (pos (0 / suc k))) (pos n) (pos 0) (pos (suc k * n)) (λ h. omega (arith, ints)) (λ h. omega (arith, ints))
up_test (pos (suc m)) n k = same_le (pos (suc (m / suc k))) (pos n) (pos (suc m)) (pos (suc k * n)) (λ h. let e = nat_up n m k (omega (arith, ints)) in
    omega (arith, ints)) (λ h. let e = nat_up_back n m k (omega (arith, ints)) in omega (arith, ints))
up_test (negsuc m) n k = same_le (neg_ℤ (pos (suc m / suc k))) (pos n) (negsuc m) (pos (suc k * n)) (λ h. omega (arith, ints)) (λ h. omega (arith, ints))

both_tests : (p v : ℤ) → (int_le v p && int_le p v) ≡ int_eq p v
both_tests p v = grind (arith, ints)

pub span_test : (v : ℤ) (n k : ℕ) → (int_le (neg_ℤ (down_by (neg_ℤ v) k)) (pos n) && int_le (pos n) (down_by v k)) ≡ int_eq (pos (suc k * n)) v
span_test v n k = rw (up_test v n k, down_test v n k) (both_tests (pos (suc k * n)) v)

natural_test : (n : ℕ) (q : Bool) → (int_le (pos 0) (pos n) && q) ≡ q
natural_test n q = grind (arith, ints)

within_test : (n M : ℕ) (q : Bool) → n ≤ M → (q && int_le (pos n) (pos M)) ≡ q
within_test n M q h = grind (arith, ints)

module _ (M : ℕ) (b : Assignment) where
  -- the row of a form that isn't turned
  plain_row : (k : Comparison) (c : ℤ) (ts : List (ℕ × ℤ)) (a n : ℕ) → in_range M (singles b) (row k false c ts (suc a)) n ≡ compares k (pos (suc a * n) +ℤ total b ts) c
  plain_row IsEqual c ts a n =
      rw (low_value M b c ts, high_value M b c ts) (span_test (c -ℤ total b ts) n a
      ∙ same_eq (pos (suc a * n)) (c -ℤ total b ts) (pos (suc a * n) +ℤ total b ts) c (λ h. omega (arith, ints)) (λ h. omega (arith, ints)))
  plain_row IsOther c ts a n =
      rw (exact_value M b c ts) (ap not (span_test (c -ℤ total b ts) n a
      ∙ same_eq (pos (suc a * n)) (c -ℤ total b ts) (pos (suc a * n) +ℤ total b ts) c (λ h. omega (arith, ints)) (λ h. omega (arith, ints))))
  plain_row IsAtMost c ts a n =
      rw (high_value M b c ts) (natural_test n _ ∙ (down_test (c -ℤ total b ts) n a
      ∙ same_le (pos (suc a * n)) (c -ℤ total b ts) (pos (suc a * n) +ℤ total b ts) c (λ h. omega (arith, ints)) (λ h. omega (arith, ints))))

  -- of one that is
  turned_row : (k : Comparison) (c : ℤ) (ts : List (ℕ × ℤ)) (a n : ℕ) → n ≤ M
      → in_range M (singles b) (row k true (neg_ℤ c) (scaled (negsuc 0) ts) (suc a)) n ≡ compares k (neg_ℤ (pos (suc a * n)) +ℤ total b ts) c
  turned_row IsEqual c ts a n h =
      let e = total-scaled b (negsuc 0) ts in let f = turned_once (total b ts) in let v = neg_ℤ c -ℤ total b (scaled (negsuc 0) ts) in
      rw (low_value M b (neg_ℤ c) (scaled (negsuc 0) ts), high_value M b (neg_ℤ c) (scaled (negsuc 0) ts))
      (span_test v n a ∙ same_eq (pos (suc a * n)) v (neg_ℤ (pos (suc a * n)) +ℤ total b ts) c (λ h. omega (arith, ints)) (λ h. omega (arith, ints)))
  turned_row IsOther c ts a n h =
      let e = total-scaled b (negsuc 0) ts in let f = turned_once (total b ts) in let v = neg_ℤ c -ℤ total b (scaled (negsuc 0) ts) in
      rw (exact_value M b (neg_ℤ c) (scaled (negsuc 0) ts))
      (ap not (span_test v n a ∙ same_eq (pos (suc a * n)) v (neg_ℤ (pos (suc a * n)) +ℤ total b ts) c (λ h. omega (arith, ints))
      (λ h. omega (arith, ints))))
  turned_row IsAtMost c ts a n h =
      let e = total-scaled b (negsuc 0) ts in let f = turned_once (total b ts) in let v = neg_ℤ c -ℤ total b (scaled (negsuc 0) ts) in
      rw (low_value M b (neg_ℤ c) (scaled (negsuc 0) ts))
      (within_test n M _ h ∙ (up_test v n a ∙ same_le v (pos (suc a * n)) (neg_ℤ (pos (suc a * n)) +ℤ total b ts) c (λ h. omega (arith, ints))
      (λ h. omega (arith, ints))))

  pub row_is : (k : Comparison) (c : ℤ) (ts : List (ℕ × ℤ)) (z : ℤ) (n : ℕ) → (z ≡ pos 0 → ⊥) → n ≤ M → in_range M (singles b) (row_by_sign k c ts z) n ≡ compares k ((z *ℤ pos n) +ℤ total b ts) c
  row_is k c ts (pos zero) n f h = absurd (f refl)
  row_is k c ts (pos (suc a)) n f h = plain_row k c ts a n
  row_is k c ts (negsuc a) n f h = turned_row k c ts a n h
