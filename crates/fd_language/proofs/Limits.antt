-- Every value of an accepted range keeps the limit, and no divisor is negative.
use Rattle.std.proofs.Common.{◌≡◌, ℕ, zero, suc, ◌+◌, ◌-◌, ◌*◌, ◌/◌, ◌^◌, ◌≤◌, ◌<◌, max, Bool, true, false, cond, not, ◌||◌, ◌&&◌, ℤ, pos, negsuc, ◌+ℤ◌, ◌-ℤ◌}
use Rattle.std.proofs.Common.{◌*ℤ◌, neg_ℤ, ◌≤ℤ◌, int_le, nat_lt, nat_abs, List, [], ◌∷◌, ◌++◌, map, refl, sym, subst, inl, inr, ◌⊎◌, arith, mul-le-mul}
use Rattle.std.proofs.Common.{div-le_self}
use Rattle.std.specs.List.{All}
use Rattle.std.proofs.lemmas.List.Elements.{All-append, All-cons, All-map}
use Rattle.std.proofs.lemmas.Int.{ints}
use Rattle.std.proofs.lemmas.Bool.{cases_Bool, true≢false, and_parts}
use Rattle.std.proofs.Math.Nat.{le_trans}
use Rattle.fd_language.specs.declared.range_node.Need.{Need}
use Rattle.fd_language.specs.declared.range_node.Need.TheVariants.{Divisor}
use Rattle.fd_language.specs.Family.{Family, IsFamily, IsRising, count_up, universe}
use Rattle.fd_language.specs.Range.{Range, Span, One, Dom, Union, Inter, Outside, Plus, Minus, Times, Over, Expr, Number, Infinity, Param, Min, Max, Val, Add}
use Rattle.fd_language.specs.Range.{Sub, Mul, DivDown, DivUp, value, least, greatest, down_by, div_down, div_up}
use Rattle.fd_language.specs.Needs.{meets, is_literal, by_place, quotient_asks, expr_asks, over_asks, asks}
use Rattle.fd_language.specs.Check.{Wish, Rising, Falling, Constant, turn, literal_value, by_sign, is_parameter, is_natural, quotient_fits, expr_fits}
use Rattle.fd_language.specs.Check.{range_fits, fill, fill_range}
use Rattle.fd_language.specs.RangeVerdict.{bound, over_limit, factor_over_limit, expr_within, range_within, has_one_use}
use Rattle.fd_language.specs.EvaluatedValues.{expr_values, range_values, expr_divisors, range_divisors}
use Rattle.fd_language.specs.CheckLaws.{BoundedValues}
use Rattle.fd_language.proofs.PartNeeds.{asks_met, split_asks, asks_from_needs, meets_size, needs_met, divisor_meets, expr_meets, over_meets, range_meets}
use Rattle.fd_language.proofs.Directions.{literal_is, Quotient, by_constant, by_term, quotient, natural_is}

-- magnitudes
pub abs_add : (x y : ℤ) → nat_abs (x +ℤ y) ≤ nat_abs x + nat_abs y
abs_add x y = omega (arith, ints)

pub abs_sub : (x y : ℤ) → nat_abs (x -ℤ y) ≤ nat_abs x + nat_abs y
abs_sub x y = omega (arith, ints)

abs_neg : (n : ℕ) → nat_abs (neg_ℤ (pos n)) ≤ n
abs_neg n = omega (arith, ints)

abs_turned : (z : ℤ) → nat_abs (neg_ℤ z) ≤ nat_abs z
abs_turned z = omega (arith, ints)

pub abs_mul : (x y : ℤ) → nat_abs (x *ℤ y) ≤ nat_abs x * nat_abs y
abs_mul (pos m) (pos n) = omega arith
abs_mul (pos m) (negsuc n) = abs_neg (m * suc n)
abs_mul (negsuc m) (pos n) = abs_neg (suc m * n)
abs_mul (negsuc m) (negsuc n) = omega arith

pub sums : (a b c d e : ℕ) → a ≤ b + c → b ≤ d → c ≤ e → a ≤ d + e
sums a b c d e h g i = omega arith

pub products : (a b c d e : ℕ) → a ≤ b * c → b ≤ d → c ≤ e → a ≤ d * e
products a b c d e h g i = let k = mul-le-mul g i in omega (arith, k)

greater : (a b c m : ℕ) → a ≤ max b m → b ≤ c → a ≤ max c m
greater a b c m h g = omega arith

left_max : (a b m : ℕ) → a ≤ b → a ≤ max b m
left_max a b m h = omega arith

abs_down : (a : ℤ) (n : ℕ) → nat_abs (down_by a n) ≤ nat_abs a
abs_down (pos a) n = div-le_self a (suc n)
abs_down (negsuc a) n = let h = div-le_self a (suc n) in more (a / suc n) a h where
  more : (x y : ℕ) → x ≤ y → suc x ≤ suc y
  more x y h = omega arith

abs_div_down : (M : ℕ) (a b : ℤ) → nat_abs (div_down M a b) ≤ max (nat_abs a) M
abs_div_down M a (pos (suc n)) = left_max _ _ M (abs_down a n)
abs_div_down M (pos a) (pos zero) = omega arith
abs_div_down M (negsuc a) (pos zero) = omega arith
abs_div_down M a (negsuc n) = omega arith

abs_div_up : (M : ℕ) (a b : ℤ) → nat_abs (div_up M a b) ≤ max (nat_abs a) M
abs_div_up M a (pos (suc n)) = left_max _ _ M (le_trans (abs_turned (down_by (neg_ℤ a) n)) (le_trans (abs_down (neg_ℤ a) n) (abs_turned a)))
abs_div_up M (pos zero) (pos zero) = omega arith
abs_div_up M (pos (suc a)) (pos zero) = omega arith
abs_div_up M (negsuc a) (pos zero) = omega arith
abs_div_up M a (negsuc n) = omega arith

pub least_small : (M : ℕ) (xs : List ℕ) → IsRising 0 M xs → least xs ≤ M
least_small M [] r = omega arith
least_small M (x ∷ xs) r = r.1

greatest_small : (low M : ℕ) (xs : List ℕ) → IsRising low M xs → greatest xs ≤ M
greatest_small low M [] r = omega arith
greatest_small low M (x ∷ []) r = r.1
greatest_small low M (x ∷ y ∷ ys) r = greatest_small (suc x) M (y ∷ ys) r.2

-- the parameters are small
abbrev SmallParams : (ℕ → ℤ) → Expr → Type 0
SmallParams p (Param x) = nat_abs (p x) ≤ 2 ^ 63 - 1
SmallParams p (Add a b) = SmallParams p a × SmallParams p b
SmallParams p (Sub a b) = SmallParams p a × SmallParams p b
SmallParams p (Mul a b) = SmallParams p a × SmallParams p b
SmallParams p (DivDown a b) = SmallParams p a × SmallParams p b
SmallParams p (DivUp a b) = SmallParams p a × SmallParams p b
SmallParams p e = Unit {0}

abbrev AllSmall : (ℕ → ℤ) → Range → Type 0
AllSmall p (Span a b) = SmallParams p a × SmallParams p b
AllSmall p (One t) = SmallParams p t
AllSmall p (Dom y) = Unit {0}
AllSmall p (Union r q) = AllSmall p r × AllSmall p q
AllSmall p (Inter r q) = AllSmall p r × AllSmall p q
AllSmall p (Outside r) = AllSmall p r
AllSmall p (Plus r c) = AllSmall p r × SmallParams p c
AllSmall p (Minus r c) = AllSmall p r × SmallParams p c
AllSmall p (Times r c) = AllSmall p r × SmallParams p c
AllSmall p (Over r c) = AllSmall p r × SmallParams p c

size_small : (n : ℕ) → nat_lt n (2 ^ 63) ≡ true → n ≤ 2 ^ 63 - 1
size_small n h = grind arith

module _ (p : ℕ → ℤ) where
  one_small : (x : ℕ) (n : Need) → asks_met p ((x, n) ∷ []) ≡ true → nat_abs (p x) ≤ 2 ^ 63 - 1
  one_small x n h = size_small (nat_abs (p x)) (meets_size n (p x) ((and_parts (meets n (p x)) true h).0))

  branches : (c : Bool) (xs ys : List (ℕ × Need)) (Q : Type 0) → (c ≡ true → asks_met p xs ≡ true → Q) → (asks_met p ys ≡ true → Q) → asks_met p (cond c xs ys) ≡ true → Q
  branches true xs ys Q f g h = f refl h
  branches false xs ys Q f g h = g h

  literal_small : (e : Expr) → is_literal e ≡ true → SmallParams p e
  literal_small (Param x) h = absurd (true≢false (sym h))
  literal_small (Add a b) h = (literal_small a ((and_parts (is_literal a) (is_literal b) h).0), literal_small b ((and_parts (is_literal a) (is_literal b) h).1))
  literal_small (Sub a b) h = (literal_small a ((and_parts (is_literal a) (is_literal b) h).0), literal_small b ((and_parts (is_literal a) (is_literal b) h).1))
  literal_small (Mul a b) h = (literal_small a ((and_parts (is_literal a) (is_literal b) h).0), literal_small b ((and_parts (is_literal a) (is_literal b) h).1))
  literal_small (DivDown a b) h = absurd (true≢false (sym h))
  literal_small (DivUp a b) h = absurd (true≢false (sym h))
  literal_small e h = tt

  both_small : (xs ys : List (ℕ × Need)) (P Q : Type 0) → (asks_met p xs ≡ true → P) → (asks_met p ys ≡ true → Q) → asks_met p (xs ++ ys) ≡ true → P × Q
  both_small xs ys P Q f g h = let s = split_asks p xs ys h in (f s.0, g s.1)

  plain_small : (b : Expr) (plain left right : List (ℕ × Need)) (P : Type 0) → (asks_met p plain ≡ true → P) → (asks_met p left ≡ true → P) → (asks_met p right ≡ true → SmallParams p b) →
      asks_met p (cond (is_literal b) plain (left ++ right)) ≡ true → P × SmallParams p b
  plain_small b plain left right P f g k h = branches (is_literal b) plain (left ++ right) (P × SmallParams p b) (λ l m. (f m, literal_small b l)) (both_small left right P (SmallParams p b) g k) h

  quotient_small : (b : Expr) (plain left right : List (ℕ × Need)) (P : Type 0) → (asks_met p plain ≡ true → P) → (asks_met p left ≡ true → P) → (asks_met p right ≡ true → SmallParams p b) →
      asks_met p (quotient_asks b plain left right) ≡ true → P × SmallParams p b
  quotient_small (Param x) plain left right P f g k h = both_small plain ((x, Divisor) ∷ []) P (nat_abs (p x) ≤ 2 ^ 63 - 1) f (one_small x Divisor) h
  quotient_small e plain left right P f g k h = plain_small e plain left right P f g k h

  small_from : (e : Expr) (n : Bool) → asks_met p (expr_asks e n) ≡ true → SmallParams p e
  small_from (Param x) n h = one_small x (by_place n) h
  small_from (Add a b) n h = both_small (expr_asks a n) (expr_asks b n) (SmallParams p a) (SmallParams p b) (small_from a n) (small_from b n) h
  small_from (Sub a b) n h = both_small (expr_asks a n) (expr_asks b n) (SmallParams p a) (SmallParams p b) (small_from a n) (small_from b n) h
  small_from (Mul a b) n h = branches (is_literal a || is_literal b) (expr_asks a n ++ expr_asks b n) (expr_asks a true ++ expr_asks b true) (SmallParams p a × SmallParams p b)
      (λ l. both_small (expr_asks a n) (expr_asks b n) (SmallParams p a) (SmallParams p b) (small_from a n) (small_from b n))
      (both_small (expr_asks a true) (expr_asks b true) (SmallParams p a) (SmallParams p b) (small_from a true) (small_from b true)) h
  small_from (DivDown a b) n h = quotient_small b (expr_asks a n) (expr_asks a true) (expr_asks b true) (SmallParams p a) (small_from a n) (small_from a true) (small_from b true) h
  small_from (DivUp a b) n h = quotient_small b (expr_asks a n) (expr_asks a true) (expr_asks b true) (SmallParams p a) (small_from a n) (small_from a true) (small_from b true) h
  small_from e n h = tt

  over_small : (c : Expr) → asks_met p (over_asks c) ≡ true → SmallParams p c
  over_small (Param x) h = one_small x Divisor h
  over_small e h = small_from e false h

  all_small : (r : Range) → asks_met p (asks r) ≡ true → AllSmall p r
  all_small (Span a b) h = both_small (expr_asks a false) (expr_asks b false) (SmallParams p a) (SmallParams p b) (small_from a false) (small_from b false) h
  all_small (One t) h = small_from t false h
  all_small (Dom y) h = tt
  all_small (Union r q) h = both_small (asks r) (asks q) (AllSmall p r) (AllSmall p q) (all_small r) (all_small q) h
  all_small (Inter r q) h = both_small (asks r) (asks q) (AllSmall p r) (AllSmall p q) (all_small r) (all_small q) h
  all_small (Outside r) h = all_small r h
  all_small (Plus r c) h = both_small (asks r) (expr_asks c false) (AllSmall p r) (SmallParams p c) (all_small r) (small_from c false) h
  all_small (Minus r c) h = both_small (asks r) (expr_asks c false) (AllSmall p r) (SmallParams p c) (all_small r) (small_from c false) h
  all_small (Times r c) h = both_small (asks r) (expr_asks c false) (AllSmall p r) (SmallParams p c) (all_small r) (small_from c false) h
  all_small (Over r c) h = both_small (asks r) (over_asks c) (AllSmall p r) (SmallParams p c) (all_small r) (over_small c) h

abbrev Kept : ℤ → Type 0
Kept z = nat_abs z ≤ 2 ^ 126 - 1

abbrev NotNegative : ℤ → Type 0
NotNegative z = pos 0 ≤ℤ z

pub not_over : (n : ℕ) → not (over_limit n) ≡ true → n ≤ 2 ^ 126 - 1
not_over n h = grind arith

factor_not_over : (M c : ℕ) → not (factor_over_limit M c) ≡ true → M * c ≤ 2 ^ 126 - 1
factor_not_over M c h = not_over (M * c) (part (over_limit (M * c)) _ h) where
  part : (a b : Bool) → not (a || b) ≡ true → not a ≡ true
  part a b h = grind arith

pub within_left : (a b c : Bool) → ((a && b) && c) ≡ true → a ≡ true
within_left a b c h = grind arith

pub within_right : (a b c : Bool) → ((a && b) && c) ≡ true → b ≡ true
within_right a b c h = grind arith

pub within_here : (a b c : Bool) → ((a && b) && c) ≡ true → c ≡ true
within_here a b c h = grind arith

count_all : (low n high : ℕ) → low + n ≤ suc high → All (λ e. e ≤ high) (count_up low n)
count_all low zero high h = λ k d l. absurd (none k l) where
  none : (k : ℕ) → k < 0 → ⊥
  none k l = omega arith
count_all low (suc n) high h = All-cons (λ e. e ≤ high) low (count_up (suc low) n) (omega arith) (count_all (suc low) n high (omega arith))

universe_all : (M : ℕ) → All (λ e. e ≤ M) (universe M)
unfolding universe
universe_all M = count_all 0 (suc M) M (omega arith)

module _ (M : ℕ) (p : ℕ → ℤ) (S : Family) (family : IsFamily M S) where
  value_bound : (e : Expr) → SmallParams p e → nat_abs (value M S (fill p e)) ≤ bound M e
  value_bound (Number z) s = omega arith
  value_bound Infinity s = omega arith
  value_bound (Param x) s = s
  value_bound (Min y) s = least_small M (S y) (family.rising y)
  value_bound (Max y) s = greatest_small 0 M (S y) (family.rising y)
  value_bound (Val y) s = least_small M (S y) (family.rising y)
  value_bound (Add a b) s = sums _ _ _ _ _ (abs_add (value M S (fill p a)) (value M S (fill p b))) (value_bound a s.0) (value_bound b s.1)
  value_bound (Sub a b) s = sums _ _ _ _ _ (abs_sub (value M S (fill p a)) (value M S (fill p b))) (value_bound a s.0) (value_bound b s.1)
  value_bound (Mul a b) s = products _ _ _ _ _ (abs_mul (value M S (fill p a)) (value M S (fill p b))) (value_bound a s.0) (value_bound b s.1)
  value_bound (DivDown a b) s = greater _ _ _ M (abs_div_down M (value M S (fill p a)) (value M S (fill p b))) (value_bound a s.0)
  value_bound (DivUp a b) s = greater _ _ _ M (abs_div_up M (value M S (fill p a)) (value M S (fill p b))) (value_bound a s.0)

  nothing : All Kept []
  nothing = λ k d l. absurd (none k l) where
    none : (k : ℕ) → k < 0 → ⊥
    none k l = omega arith

  node_kept : (e : Expr) → SmallParams p e → not (over_limit (bound M e)) ≡ true → Kept (value M S (fill p e))
  node_kept e s h = le_trans (value_bound e s) (not_over (bound M e) h)

  values_kept : (e : Expr) → SmallParams p e → expr_within M e ≡ true → All Kept (expr_values M S (fill p e))
  values_kept (Add a b) s h = All-cons Kept (value M S (fill p (Add a b))) (expr_values M S (fill p a) ++ expr_values M S (fill p b))
      (node_kept (Add a b) s (within_here (expr_within M a) (expr_within M b) (not (over_limit (bound M (Add a b)))) h))
      (All-append Kept (expr_values M S (fill p a)) (expr_values M S (fill p b))
      (values_kept a s.0 (within_left (expr_within M a) (expr_within M b) (not (over_limit (bound M (Add a b)))) h))
      (values_kept b s.1 (within_right (expr_within M a) (expr_within M b) (not (over_limit (bound M (Add a b)))) h)))
  values_kept (Sub a b) s h = All-cons Kept (value M S (fill p (Sub a b))) (expr_values M S (fill p a) ++ expr_values M S (fill p b))
      (node_kept (Sub a b) s (within_here (expr_within M a) (expr_within M b) (not (over_limit (bound M (Sub a b)))) h))
      (All-append Kept (expr_values M S (fill p a)) (expr_values M S (fill p b))
      (values_kept a s.0 (within_left (expr_within M a) (expr_within M b) (not (over_limit (bound M (Sub a b)))) h))
      (values_kept b s.1 (within_right (expr_within M a) (expr_within M b) (not (over_limit (bound M (Sub a b)))) h)))
  values_kept (Mul a b) s h = All-cons Kept (value M S (fill p (Mul a b))) (expr_values M S (fill p a) ++ expr_values M S (fill p b))
      (node_kept (Mul a b) s (within_here (expr_within M a) (expr_within M b) (not (over_limit (bound M (Mul a b)))) h))
      (All-append Kept (expr_values M S (fill p a)) (expr_values M S (fill p b))
      (values_kept a s.0 (within_left (expr_within M a) (expr_within M b) (not (over_limit (bound M (Mul a b)))) h))
      (values_kept b s.1 (within_right (expr_within M a) (expr_within M b) (not (over_limit (bound M (Mul a b)))) h)))
  values_kept (DivDown a b) s h = All-cons Kept (value M S (fill p (DivDown a b))) (expr_values M S (fill p a) ++ expr_values M S (fill p b))
      (node_kept (DivDown a b) s (within_here (expr_within M a) (expr_within M b) (not (over_limit (bound M (DivDown a b)))) h))
      (All-append Kept (expr_values M S (fill p a)) (expr_values M S (fill p b))
      (values_kept a s.0 (within_left (expr_within M a) (expr_within M b) (not (over_limit (bound M (DivDown a b)))) h))
      (values_kept b s.1 (within_right (expr_within M a) (expr_within M b) (not (over_limit (bound M (DivDown a b)))) h)))
  values_kept (DivUp a b) s h = All-cons Kept (value M S (fill p (DivUp a b))) (expr_values M S (fill p a) ++ expr_values M S (fill p b))
      (node_kept (DivUp a b) s (within_here (expr_within M a) (expr_within M b) (not (over_limit (bound M (DivUp a b)))) h))
      (All-append Kept (expr_values M S (fill p a)) (expr_values M S (fill p b))
      (values_kept a s.0 (within_left (expr_within M a) (expr_within M b) (not (over_limit (bound M (DivUp a b)))) h))
      (values_kept b s.1 (within_right (expr_within M a) (expr_within M b) (not (over_limit (bound M (DivUp a b)))) h)))
  values_kept e s h = All-cons Kept (value M S (fill p e)) [] (node_kept e s h) nothing

  each_kept : (f : ℕ → ℤ) → ((e : ℕ) → e ≤ M → Kept (f e)) → All Kept (map f (universe M))
  each_kept f g = All-map Kept f (universe M) (λ k d l. g _ (universe_all M k d l))

  ranges_kept : (r : Range) → AllSmall p r → range_within M r ≡ true → All Kept (range_values M S (fill_range p r))
  ranges_kept (Span a b) s h = All-append Kept (expr_values M S (fill p a)) (expr_values M S (fill p b))
      (values_kept a s.0 ((and_parts (expr_within M a) (expr_within M b) h).0)) (values_kept b s.1 ((and_parts (expr_within M a) (expr_within M b) h).1))
  ranges_kept (One t) s h = values_kept t s h
  ranges_kept (Dom y) s h = nothing
  ranges_kept (Union r q) s h = All-append Kept (range_values M S (fill_range p r)) (range_values M S (fill_range p q))
      (ranges_kept r s.0 ((and_parts (range_within M r) (range_within M q) h).0)) (ranges_kept q s.1 ((and_parts (range_within M r) (range_within M q) h).1))
  ranges_kept (Inter r q) s h = All-append Kept (range_values M S (fill_range p r)) (range_values M S (fill_range p q))
      (ranges_kept r s.0 ((and_parts (range_within M r) (range_within M q) h).0)) (ranges_kept q s.1 ((and_parts (range_within M r) (range_within M q) h).1))
  ranges_kept (Outside r) s h = ranges_kept r s h
  ranges_kept (Plus r c) s h =
      let f : ℕ → ℤ = λ e. pos e +ℤ value M S (fill p c) in
      All-append Kept (range_values M S (fill_range p r)) (expr_values M S (fill p c) ++ map f (universe M))
      (ranges_kept r s.0 (within_left (range_within M r) (expr_within M c) (not (over_limit (M + bound M c))) h))
      (All-append Kept (expr_values M S (fill p c)) (map f (universe M))
      (values_kept c s.1 (within_right (range_within M r) (expr_within M c) (not (over_limit (M + bound M c))) h))
      (each_kept f (λ e l. le_trans (sums _ _ _ _ _ (abs_add (pos e) (value M S (fill p c))) l (value_bound c s.1))
      (not_over (M + bound M c) (within_here (range_within M r) (expr_within M c) (not (over_limit (M + bound M c))) h)))))
  ranges_kept (Minus r c) s h =
      let f : ℕ → ℤ = λ e. pos e -ℤ value M S (fill p c) in
      All-append Kept (range_values M S (fill_range p r)) (expr_values M S (fill p c) ++ map f (universe M))
      (ranges_kept r s.0 (within_left (range_within M r) (expr_within M c) (not (over_limit (M + bound M c))) h))
      (All-append Kept (expr_values M S (fill p c)) (map f (universe M))
      (values_kept c s.1 (within_right (range_within M r) (expr_within M c) (not (over_limit (M + bound M c))) h))
      (each_kept f (λ e l. le_trans (sums _ _ _ _ _ (abs_sub (pos e) (value M S (fill p c))) l (value_bound c s.1))
      (not_over (M + bound M c) (within_here (range_within M r) (expr_within M c) (not (over_limit (M + bound M c))) h)))))
  ranges_kept (Times r c) s h =
      let f : ℕ → ℤ = λ e. pos e *ℤ value M S (fill p c) in
      All-append Kept (range_values M S (fill_range p r)) (expr_values M S (fill p c) ++ map f (universe M))
      (ranges_kept r s.0 (within_left (range_within M r) (expr_within M c) (not (factor_over_limit M (bound M c))) h))
      (All-append Kept (expr_values M S (fill p c)) (map f (universe M))
      (values_kept c s.1 (within_right (range_within M r) (expr_within M c) (not (factor_over_limit M (bound M c))) h))
      (each_kept f (λ e l. le_trans (products _ _ _ _ _ (abs_mul (pos e) (value M S (fill p c))) l (value_bound c s.1))
      (factor_not_over M (bound M c) (within_here (range_within M r) (expr_within M c) (not (factor_over_limit M (bound M c))) h)))))
  ranges_kept (Over r c) s h =
      let f : ℕ → ℤ = λ e. pos e *ℤ value M S (fill p c) in
      All-append Kept (range_values M S (fill_range p r)) (expr_values M S (fill p c) ++ map f (universe M))
      (ranges_kept r s.0 (within_left (range_within M r) (expr_within M c) (not (factor_over_limit M (bound M c))) h))
      (All-append Kept (expr_values M S (fill p c)) (map f (universe M))
      (values_kept c s.1 (within_right (range_within M r) (expr_within M c) (not (factor_over_limit M (bound M c))) h))
      (each_kept f (λ e l. le_trans (products _ _ _ _ _ (abs_mul (pos e) (value M S (fill p c))) l (value_bound c s.1))
      (factor_not_over M (bound M c) (within_here (range_within M r) (expr_within M c) (not (factor_over_limit M (bound M c))) h)))))

  no_divisor : All NotNegative []
  no_divisor = λ k d l. absurd (none k l) where
    none : (k : ℕ) → k < 0 → ⊥
    none k l = omega arith

  abbrev Divides : Expr → Type 0
  Divides e = All NotNegative (expr_divisors M S (fill p e))

  two_divide : (a b : Expr) → Divides a → Divides b → All NotNegative (expr_divisors M S (fill p a) ++ expr_divisors M S (fill p b))
  two_divide a b f g = All-append NotNegative (expr_divisors M S (fill p a)) (expr_divisors M S (fill p b)) f g

  literal_divides : (e : Expr) → is_literal e ≡ true → Divides e
  literal_divides (Add a b) h = two_divide a b (literal_divides a ((and_parts (is_literal a) (is_literal b) h).0)) (literal_divides b ((and_parts (is_literal a) (is_literal b) h).1))
  literal_divides (Sub a b) h = two_divide a b (literal_divides a ((and_parts (is_literal a) (is_literal b) h).0)) (literal_divides b ((and_parts (is_literal a) (is_literal b) h).1))
  literal_divides (Mul a b) h = two_divide a b (literal_divides a ((and_parts (is_literal a) (is_literal b) h).0)) (literal_divides b ((and_parts (is_literal a) (is_literal b) h).1))
  literal_divides (DivDown a b) h = absurd (true≢false (sym h))
  literal_divides (DivUp a b) h = absurd (true≢false (sym h))
  literal_divides e h = no_divisor

  parameter_divides : (e : Expr) → is_parameter e ≡ true → Divides e
  parameter_divides (Add a b) h = absurd (true≢false (sym h))
  parameter_divides (Sub a b) h = absurd (true≢false (sym h))
  parameter_divides (Mul a b) h = absurd (true≢false (sym h))
  parameter_divides (DivDown a b) h = absurd (true≢false (sym h))
  parameter_divides (DivUp a b) h = absurd (true≢false (sym h))
  parameter_divides e h = no_divisor

  -- the parts of what fits and meets its needs
  signed : (v : ℤ) (x y : Bool) → by_sign v x y ≡ true → (x ≡ true) ⊎ (y ≡ true)
  signed (pos n) x y h = inl h
  signed (negsuc n) x y h = inr h

  -- a product fits by a literal on the left, by one on the right, or as both its operands do
  product_parts : (la lb n : Bool) (va vb : ℤ) (fa ga fb gb : Bool) → cond la (by_sign va fb gb) (cond lb (by_sign vb fa ga) (n && (fa && fb))) ≡ true
      → ((la ≡ true) × ((fb ≡ true) ⊎ (gb ≡ true))) ⊎ (((lb ≡ true) × ((fa ≡ true) ⊎ (ga ≡ true))) ⊎ ((fa ≡ true) × (fb ≡ true)))
  product_parts true lb n va vb fa ga fb gb h = inl (refl, signed va fb gb h)
  product_parts false true n va vb fa ga fb gb h = inr (inl (refl, signed vb fa ga h))
  product_parts false false n va vb fa ga fb gb h = inr (inr (and_parts fa fb ((and_parts n (fa && fb) h).1)))

  met_left : (c x y u v : Bool) → cond c (x && y) (u && v) ≡ true → (x ≡ true) ⊎ (u ≡ true)
  met_left true x y u v h = inl ((and_parts x y h).0)
  met_left false x y u v h = inr ((and_parts u v h).0)

  met_right : (c x y u v : Bool) → cond c (x && y) (u && v) ≡ true → (y ≡ true) ⊎ (v ≡ true)
  met_right true x y u v h = inl ((and_parts x y h).1)
  met_right false x y u v h = inr ((and_parts u v h).1)

  at_least_one : (d : ℤ) → pos 1 ≤ℤ d → pos 0 ≤ℤ d
  at_least_one d h = omega (arith, ints)

  if_false : (c x y : Bool) → c ≡ false → cond c x y ≡ true → y ≡ true
  if_false true x y e h = absurd (true≢false e)
  if_false false x y e h = h

  turned_fits : (b : Expr) (plain turned natural : Bool) → is_literal b ≡ false → is_parameter b ≡ false → quotient_fits M b plain turned natural ≡ true → turned ≡ true
  turned_fits b plain turned natural l k h = (and_parts plain turned ((and_parts natural (plain && turned) (if_false (is_parameter b) plain _ k (if_false (is_literal b) _ _ l h))).1)).1

  others_meet : (b : Expr) (plain others : Bool) → is_literal b ≡ false → is_parameter b ≡ false → divisor_meets p b plain others ≡ true → others ≡ true
  others_meet (Param x) plain others l k h = absurd (true≢false k)
  others_meet e plain others l k h = if_false (is_literal e) plain others l h

  value_divides : (a b : Expr) (w : Wish) → Quotient M p a b w → NotNegative (value M S (fill p b))
  value_divides a b w (by_constant m d g h e o) = subst NotNegative (sym (e S)) (at_least_one d o)
  value_divides a b w (by_term i j g h c d) = natural_is M p S b j d

  dividend : (a b : Expr) (w : Wish) → Quotient M p a b w → (m : Bool) × ((expr_fits M a w ≡ true) × (expr_meets p a m ≡ true))
  dividend a b w (by_constant m d g h e o) = (m, (g, h))
  dividend a b w (by_term i j g h c d) = (true, (g, c))

  quotient_kept : (a b : Expr) (w : Wish) (n : Bool) → quotient_fits M b (expr_fits M a w) (expr_fits M b (turn w)) (is_natural M a && is_natural M b) ≡ true
      → divisor_meets p b (expr_meets p a n) (expr_meets p a true && expr_meets p b true) ≡ true
      → ((k : Bool) → expr_fits M a w ≡ true → expr_meets p a k ≡ true → Divides a) → (expr_fits M b (turn w) ≡ true → expr_meets p b true ≡ true → Divides b)
      → All NotNegative (value M S (fill p b) ∷ (expr_divisors M S (fill p a) ++ expr_divisors M S (fill p b)))
  quotient_kept a b w n f m left right =
      let q : Quotient M p a b w = quotient M p a b w n f m in
      let d = dividend a b w q in
      let divisor : Divides b = elim (cases_Bool (is_literal b)) [
        | inl l ↦ literal_divides b l
        | inr l ↦ elim (cases_Bool (is_parameter b)) [
          | inl k ↦ parameter_divides b k
          | inr k ↦ right (turned_fits b (expr_fits M a w) (expr_fits M b (turn w)) (is_natural M a && is_natural M b) l k f)
              ((and_parts (expr_meets p a true) (expr_meets p b true) (others_meet b (expr_meets p a n) (expr_meets p a true && expr_meets p b true) l k m)).1)
        ]
      ] in
      All-cons NotNegative (value M S (fill p b)) (expr_divisors M S (fill p a) ++ expr_divisors M S (fill p b)) (value_divides a b w q)
      (two_divide a b (left d.0 d.1.0 d.1.1) divisor)

  divisors_kept : (e : Expr) (w : Wish) (n : Bool) → expr_fits M e w ≡ true → expr_meets p e n ≡ true → Divides e
  divisors_kept (Add a b) w n f m = two_divide a b
      (divisors_kept a w n ((and_parts (expr_fits M a w) (expr_fits M b w) f).0) ((and_parts (expr_meets p a n) (expr_meets p b n) m).0))
      (divisors_kept b w n ((and_parts (expr_fits M a w) (expr_fits M b w) f).1) ((and_parts (expr_meets p a n) (expr_meets p b n) m).1))
  divisors_kept (Sub a b) w n f m = two_divide a b
      (divisors_kept a w n ((and_parts (expr_fits M a w) (expr_fits M b (turn w)) f).0) ((and_parts (expr_meets p a n) (expr_meets p b n) m).0))
      (divisors_kept b (turn w) n ((and_parts (expr_fits M a w) (expr_fits M b (turn w)) f).1) ((and_parts (expr_meets p a n) (expr_meets p b n) m).1))
  divisors_kept (Mul a b) w n f m =
      let ma = met_left (is_literal a || is_literal b) (expr_meets p a n) (expr_meets p b n) (expr_meets p a true) (expr_meets p b true) m in
      let mb = met_right (is_literal a || is_literal b) (expr_meets p a n) (expr_meets p b n) (expr_meets p a true) (expr_meets p b true) m in
      let da : (v : Wish) → expr_fits M a v ≡ true → Divides a = λ v g. elim ma [ inl i ↦ divisors_kept a v n g i | inr i ↦ divisors_kept a v true g i ] in
      let db : (v : Wish) → expr_fits M b v ≡ true → Divides b = λ v g. elim mb [ inl i ↦ divisors_kept b v n g i | inr i ↦ divisors_kept b v true g i ] in
      elim (product_parts (is_literal a) (is_literal b) (is_natural M a && is_natural M b) (literal_value M a) (literal_value M b) (expr_fits M a w)
      (expr_fits M a (turn w)) (expr_fits M b w) (expr_fits M b (turn w)) f) [
        | inl l ↦ two_divide a b (literal_divides a l.0) (elim l.1 [ inl g ↦ db w g | inr g ↦ db (turn w) g ])
        | inr o ↦ elim o [
          | inl k ↦ two_divide a b (elim k.1 [ inl g ↦ da w g | inr g ↦ da (turn w) g ]) (literal_divides b k.0)
          | inr g ↦ two_divide a b (da w g.0) (db w g.1)
        ]
      ]
  divisors_kept (DivDown a b) w n f m = quotient_kept a b w n f m (λ k g h. divisors_kept a w k g h) (λ g h. divisors_kept b (turn w) true g h)
  divisors_kept (DivUp a b) w n f m = quotient_kept a b w n f m (λ k g h. divisors_kept a w k g h) (λ g h. divisors_kept b (turn w) true g h)
  divisors_kept e w n f m = no_divisor

  above_one : (z : ℤ) → int_le (pos 1) z ≡ true → pos 0 ≤ℤ z
  above_one z h = grind (arith, ints)

  by_literal : (c : Expr) → (is_literal c && int_le (pos 1) (literal_value M c)) ≡ true → NotNegative (value M S (fill p c))
  by_literal c h = subst NotNegative (sym (literal_is M p S c ((and_parts (is_literal c) (int_le (pos 1) (literal_value M c)) h).0)))
      (above_one (literal_value M c) ((and_parts (is_literal c) (int_le (pos 1) (literal_value M c)) h).1))

  over_divides : (c : Expr) → (is_parameter c || (is_literal c && int_le (pos 1) (literal_value M c))) ≡ true → over_meets p c ≡ true → NotNegative (value M S (fill p c))
  over_divides (Param x) h g = above_one (p x) g
  over_divides e h g = by_literal e h

  ranges_divide : (r : Range) (w : Bool) → range_fits M r w ≡ true → range_meets p r ≡ true → All NotNegative (range_divisors M S (fill_range p r))
  ranges_divide (Span a b) true f m = two_divide a b (divisors_kept a Rising false ((and_parts (expr_fits M a Rising) (expr_fits M b Falling) f).0)
      ((and_parts (expr_meets p a false) (expr_meets p b false) m).0))
      (divisors_kept b Falling false ((and_parts (expr_fits M a Rising) (expr_fits M b Falling) f).1)
      ((and_parts (expr_meets p a false) (expr_meets p b false) m).1))
  ranges_divide (Span a b) false f m = two_divide a b
      (divisors_kept a Falling false ((and_parts (expr_fits M a Falling) (expr_fits M b Rising) f).0)
      ((and_parts (expr_meets p a false) (expr_meets p b false) m).0))
      (divisors_kept b Rising false ((and_parts (expr_fits M a Falling) (expr_fits M b Rising) f).1)
      ((and_parts (expr_meets p a false) (expr_meets p b false) m).1))
  ranges_divide (One t) w f m = divisors_kept t Constant false f m
  ranges_divide (Dom y) w f m = no_divisor
  ranges_divide (Union r q) w f m = All-append NotNegative (range_divisors M S (fill_range p r)) (range_divisors M S (fill_range p q))
      (ranges_divide r w ((and_parts (range_fits M r w) (range_fits M q w) f).0) ((and_parts (range_meets p r) (range_meets p q) m).0))
      (ranges_divide q w ((and_parts (range_fits M r w) (range_fits M q w) f).1) ((and_parts (range_meets p r) (range_meets p q) m).1))
  ranges_divide (Inter r q) w f m = All-append NotNegative (range_divisors M S (fill_range p r)) (range_divisors M S (fill_range p q))
      (ranges_divide r w ((and_parts (range_fits M r w) (range_fits M q w) f).0) ((and_parts (range_meets p r) (range_meets p q) m).0))
      (ranges_divide q w ((and_parts (range_fits M r w) (range_fits M q w) f).1) ((and_parts (range_meets p r) (range_meets p q) m).1))
  ranges_divide (Outside r) w f m = ranges_divide r (not w) f m
  ranges_divide (Plus r c) w f m = All-append NotNegative (range_divisors M S (fill_range p r)) (expr_divisors M S (fill p c))
      (ranges_divide r w ((and_parts (range_fits M r w) (expr_fits M c Constant) f).0) ((and_parts (range_meets p r) (expr_meets p c false) m).0))
      (divisors_kept c Constant false ((and_parts (range_fits M r w) (expr_fits M c Constant) f).1) ((and_parts (range_meets p r) (expr_meets p c false) m).1))
  ranges_divide (Minus r c) w f m = All-append NotNegative (range_divisors M S (fill_range p r)) (expr_divisors M S (fill p c))
      (ranges_divide r w ((and_parts (range_fits M r w) (expr_fits M c Constant) f).0) ((and_parts (range_meets p r) (expr_meets p c false) m).0))
      (divisors_kept c Constant false ((and_parts (range_fits M r w) (expr_fits M c Constant) f).1) ((and_parts (range_meets p r) (expr_meets p c false) m).1))
  ranges_divide (Times r c) w f m = All-append NotNegative (range_divisors M S (fill_range p r)) (expr_divisors M S (fill p c))
      (ranges_divide r w ((and_parts (range_fits M r w) (expr_fits M c Constant) f).0) ((and_parts (range_meets p r) (expr_meets p c false) m).0))
      (divisors_kept c Constant false ((and_parts (range_fits M r w) (expr_fits M c Constant) f).1) ((and_parts (range_meets p r) (expr_meets p c false) m).1))
  ranges_divide (Over r c) w f m =
      let d : Bool = is_parameter c || (is_literal c && int_le (pos 1) (literal_value M c)) in
      All-append NotNegative (range_divisors M S (fill_range p r)) (value M S (fill p c) ∷ [])
      (ranges_divide r w ((and_parts (range_fits M r w) d f).0) ((and_parts (range_meets p r) (over_meets p c) m).0))
      (All-cons NotNegative (value M S (fill p c)) [] (over_divides c ((and_parts (range_fits M r w) d f).1) ((and_parts (range_meets p r) (over_meets p c) m).1)) no_divisor)

pub bounded_values : BoundedValues
bounded_values M r p S h g family = record {
  values = ranges_kept M p S family r (all_small p r (asks_from_needs p r g)) ((and_parts (range_within M r) (range_fits M r true && has_one_use r) h).0);
  divisors = ranges_divide M p S family r true ((and_parts (range_fits M r true) (has_one_use r) ((and_parts (range_within M r) (range_fits M r true && has_one_use r) h).1)).0) (needs_met p r g);
}
