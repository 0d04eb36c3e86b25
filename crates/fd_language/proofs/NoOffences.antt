-- The verdict says yes exactly where the table accepts.
use Rattle.std.proofs.Common.{◌≡◌, ℕ, ◌+◌, ◌-◌, Bool, true, false, cond, not, ◌||◌, ◌&&◌, ℤ, pos, negsuc, int_le, List, [], ◌∷◌, ◌++◌, Option, Some, None, refl}
use Rattle.std.proofs.Common.{sym, ◌∙◌, ap, arith}
use Rattle.std.proofs.Math.Bool.{and-true}
use Rattle.std.proofs.lemmas.Int.{ints}
use Rattle.std.proofs.lemmas.Bool.{true≢false, and_from, and_parts}
use Rattle.fd_language.specs.declared.range_node.Offence.{Offence}
use Rattle.fd_language.specs.Range.{Range, Span, One, Dom, Union, Inter, Outside, Plus, Minus, Times, Over, Expr, Number, Infinity, Param, Min, Max, Val, Add}
use Rattle.fd_language.specs.Range.{Sub, Mul, DivDown, DivUp}
use Rattle.fd_language.specs.Needs.{is_literal}
use Rattle.fd_language.specs.Check.{Wish, Rising, Falling, Constant, turn, is_rising, is_falling, literal_value, by_sign, is_parameter, is_natural, expr_fits}
use Rattle.fd_language.specs.Check.{range_fits}
use Rattle.fd_language.specs.RangeVerdict.{expr_size, range_size, bound, over_limit, factor_over_limit, where_too_wide, wide_in_expr, wide_in_range}
use Rattle.fd_language.specs.RangeVerdict.{where_below_zero, unless_fits, where_natural, unless_divides, scaled, expr_offences, range_offences, is_before}
use Rattle.fd_language.specs.RangeVerdict.{earlier, first, expr_within, range_within}
use Rattle.fd_language.proofs.PartNeeds.{above_zero}

abbrev pub nil : List Offence → Bool
nil [] = true
nil (o ∷ os) = false

pub nil-append : (xs ys : List Offence) → nil (xs ++ ys) ≡ (nil xs && nil ys)
nil-append [] ys = refl
nil-append (x ∷ xs) ys = refl

found : (o : Offence) (b : Option Offence) → earlier (Some o) b ≡ None → ⊥
found o None e = absurd cc
found o (Some b) e = which (is_before b o) e where
  which : (c : Bool) → cond c (Some b) (Some o) ≡ None → ⊥
  which true h = absurd cc
  which false h = absurd cc

pub nil-first : (os : List Offence) → first os ≡ None → nil os ≡ true
nil-first [] e = refl
nil-first (o ∷ os) e = absurd (found o (first os) e)

pub first-nil : (os : List Offence) → nil os ≡ true → first os ≡ None
first-nil [] e = refl
first-nil (o ∷ os) e = absurd (true≢false (sym e))

nil-wide : (b : Bool) (p : ℕ) → nil (where_too_wide b p) ≡ not b
nil-wide true p = refl
nil-wide false p = refl

nil_three : (xs ys zs : List Offence) (a b c : Bool) → nil xs ≡ a → nil ys ≡ b → nil zs ≡ c → nil (xs ++ ys ++ zs) ≡ ((a && b) && c)
nil_three xs ys zs a b c e f g = nil-append (xs ++ ys) zs ∙ (ap (λ v. v && nil zs) (nil-append xs ys) ∙ three (nil xs) (nil ys) (nil zs) a b c e f g) where
  three : (x y z a b c : Bool) → x ≡ a → y ≡ b → z ≡ c → ((x && y) && z) ≡ ((a && b) && c)
  three x y z a b c e f g = cc

nil_two : (xs ys : List Offence) (a b : Bool) → nil xs ≡ a → nil ys ≡ b → nil (xs ++ ys) ≡ (a && b)
nil_two xs ys a b e f = nil-append xs ys ∙ two (nil xs) (nil ys) a b e f where
  two : (x y a b : Bool) → x ≡ a → y ≡ b → (x && y) ≡ (a && b)
  two x y a b e f = cc

module _ (M : ℕ) (at : ℕ → ℕ) where
  nil-expr : (n : ℕ) (e : Expr) → nil (wide_in_expr M at n e) ≡ expr_within M e
  nil-expr n (Add a b) = nil_three (wide_in_expr M at (n - 1 - expr_size b) a) (wide_in_expr M at (n - 1) b)
      (where_too_wide (over_limit (bound M (Add a b))) (at n)) _ _ _ (nil-expr (n - 1 - expr_size b) a) (nil-expr (n - 1) b)
      (nil-wide (over_limit (bound M (Add a b))) (at n))
  nil-expr n (Sub a b) = nil_three (wide_in_expr M at (n - 1 - expr_size b) a) (wide_in_expr M at (n - 1) b)
      (where_too_wide (over_limit (bound M (Sub a b))) (at n)) _ _ _ (nil-expr (n - 1 - expr_size b) a) (nil-expr (n - 1) b)
      (nil-wide (over_limit (bound M (Sub a b))) (at n))
  nil-expr n (Mul a b) = nil_three (wide_in_expr M at (n - 1 - expr_size b) a) (wide_in_expr M at (n - 1) b)
      (where_too_wide (over_limit (bound M (Mul a b))) (at n)) _ _ _ (nil-expr (n - 1 - expr_size b) a) (nil-expr (n - 1) b)
      (nil-wide (over_limit (bound M (Mul a b))) (at n))
  nil-expr n (DivDown a b) = nil_three (wide_in_expr M at (n - 1 - expr_size b) a) (wide_in_expr M at (n - 1) b)
      (where_too_wide (over_limit (bound M (DivDown a b))) (at n)) _ _ _ (nil-expr (n - 1 - expr_size b) a) (nil-expr (n - 1) b)
      (nil-wide (over_limit (bound M (DivDown a b))) (at n))
  nil-expr n (DivUp a b) = nil_three (wide_in_expr M at (n - 1 - expr_size b) a) (wide_in_expr M at (n - 1) b)
      (where_too_wide (over_limit (bound M (DivUp a b))) (at n)) _ _ _ (nil-expr (n - 1 - expr_size b) a) (nil-expr (n - 1) b)
      (nil-wide (over_limit (bound M (DivUp a b))) (at n))
  nil-expr n e = nil-wide (over_limit (bound M e)) (at n)

  pub nil-range : (n : ℕ) (r : Range) → nil (wide_in_range M at n r) ≡ range_within M r
  nil-range n (Span a b) = nil_two (wide_in_expr M at (n - 1 - expr_size b) a) (wide_in_expr M at (n - 1) b) _ _ (nil-expr (n - 1 - expr_size b) a) (nil-expr (n - 1) b)
  nil-range n (One t) = nil-expr (n - 1) t
  nil-range n (Dom y) = refl
  nil-range n (Union r q) = nil_two (wide_in_range M at (n - 1 - range_size q) r) (wide_in_range M at (n - 1) q) _ _ (nil-range (n - 1 - range_size q) r) (nil-range (n - 1) q)
  nil-range n (Inter r q) = nil_two (wide_in_range M at (n - 1 - range_size q) r) (wide_in_range M at (n - 1) q) _ _ (nil-range (n - 1 - range_size q) r) (nil-range (n - 1) q)
  nil-range n (Outside r) = nil-range (n - 1) r
  nil-range n (Plus r c) = nil_three (wide_in_range M at (n - 1 - expr_size c) r) (wide_in_expr M at (n - 1) c)
      (where_too_wide (over_limit (M + bound M c)) (at n)) _ _ _ (nil-range (n - 1 - expr_size c) r) (nil-expr (n - 1) c)
      (nil-wide (over_limit (M + bound M c)) (at n))
  nil-range n (Minus r c) = nil_three (wide_in_range M at (n - 1 - expr_size c) r) (wide_in_expr M at (n - 1) c)
      (where_too_wide (over_limit (M + bound M c)) (at n)) _ _ _ (nil-range (n - 1 - expr_size c) r) (nil-expr (n - 1) c)
      (nil-wide (over_limit (M + bound M c)) (at n))
  nil-range n (Times r c) = nil_three (wide_in_range M at (n - 1 - expr_size c) r) (wide_in_expr M at (n - 1) c)
      (where_too_wide (factor_over_limit M (bound M c)) (at n)) _ _ _ (nil-range (n - 1 - expr_size c) r) (nil-expr (n - 1) c)
      (nil-wide (factor_over_limit M (bound M c)) (at n))
  nil-range n (Over r c) = nil_three (wide_in_range M at (n - 1 - expr_size c) r) (wide_in_expr M at (n - 1) c)
      (where_too_wide (factor_over_limit M (bound M c)) (at n)) _ _ _ (nil-range (n - 1 - expr_size c) r) (nil-expr (n - 1) c)
      (nil-wide (factor_over_limit M (bound M c)) (at n))

  either_sign : (v : ℤ) (x y : Bool) → x ≡ true → y ≡ true → by_sign v x y ≡ true
  either_sign (pos n) x y f g = f
  either_sign (negsuc n) x y f g = g

  -- literals fit every wish, and are natural by their values
  literal_fits : (e : Expr) (w : Wish) → is_literal e ≡ true → expr_fits M e w ≡ true
  literal_fits (Number z) w h = refl
  literal_fits Infinity w h = refl
  literal_fits (Add a b) w h = and_from (expr_fits M a w) (expr_fits M b w) (literal_fits a w ((and_parts (is_literal a) (is_literal b) h).0))
      (literal_fits b w ((and_parts (is_literal a) (is_literal b) h).1))
  literal_fits (Sub a b) w h = and_from (expr_fits M a w) (expr_fits M b (turn w)) (literal_fits a w ((and_parts (is_literal a) (is_literal b) h).0))
      (literal_fits b (turn w) ((and_parts (is_literal a) (is_literal b) h).1))
  literal_fits (Mul a b) w h =
      let k = (and_parts (is_literal a) (is_literal b) h).1 in
      rw (and_parts (is_literal a) (is_literal b) h).0 (either_sign (literal_value M a) (expr_fits M b w) (expr_fits M b (turn w)) (literal_fits b w k) (literal_fits b (turn w) k))
  literal_fits e w h = absurd (true≢false (sym h))

  literal_natural : (e : Expr) → is_literal e ≡ true → is_natural M e ≡ int_le (pos 0) (literal_value M e)
  literal_natural (Number z) h = refl
  literal_natural Infinity h = sym (at_least M) where
    at_least : (m : ℕ) → int_le (pos 0) (pos m) ≡ true
    at_least m = grind (arith, ints)
  literal_natural (Add a b) h = ap (λ c. cond c (int_le (pos 0) (literal_value M (Add a b))) (is_natural M a && is_natural M b)) h
  literal_natural (Sub a b) h = ap (λ c. cond c (int_le (pos 0) (literal_value M (Sub a b))) false) h
  literal_natural (Mul a b) h = ap (λ c. cond c (int_le (pos 0) (literal_value M (Mul a b))) (is_natural M a && is_natural M b)) h
  literal_natural e h = absurd (true≢false (sym h))

  nil-below : (k : Bool) (z : ℤ) (p : ℕ) → nil (where_below_zero k z p) ≡ (not k || int_le (pos 0) z)
  nil-below true (pos n) p = sym (at_least n) where
    at_least : (m : ℕ) → int_le (pos 0) (pos m) ≡ true
    at_least m = grind (arith, ints)
  nil-below true (negsuc n) p = sym (below n) where
    below : (m : ℕ) → int_le (pos 0) (negsuc m) ≡ false
    below m = grind (arith, ints)
  nil-below false z p = refl

  nil-fits : (b : Bool) (p : ℕ) → nil (unless_fits b p) ≡ b
  nil-fits true p = refl
  nil-fits false p = refl

  nil-divides : (b : Bool) (p : ℕ) → nil (unless_divides b p) ≡ b
  nil-divides true p = refl
  nil-divides false p = refl

  nil-natural : (b : Bool) (p : ℕ) → nil (where_natural b p) ≡ not b
  nil-natural true p = refl
  nil-natural false p = refl

  anyhow : (b k : Bool) → b ≡ (b && (not k || true))
  anyhow true true = refl
  anyhow true false = refl
  anyhow false k = refl

  sign_scaled : (v : ℤ) (f : Wish → Bool) (w : Wish) → by_sign v (f w) (f (turn w)) ≡ f (scaled v w)
  sign_scaled (pos n) f w = refl
  sign_scaled (negsuc n) f w = refl

  -- the Boolean parts of each operator: fa and fb that the operands fit, na and nb that they are natural
  sum_part : (c k fa fb na nb v : Bool) (xs ys : List Offence) → nil xs ≡ (not k || v) → nil ys ≡ ((fa && (not k || na)) && (fb && (not k || nb))) → (c ≡ true → (fa && fb) ≡ true) →
      nil (cond c xs ys) ≡ ((fa && fb) && (not k || cond c v (na && nb)))
  sum_part true k fa fb na nb v xs ys e f g = e ∙ ap (λ b. b && (not k || v)) (sym (g refl))
  sum_part false k fa fb na nb v xs ys e f g = f ∙ mixed k fa fb na nb where
    mixed : (k fa fb na nb : Bool) → ((fa && (not k || na)) && (fb && (not k || nb))) ≡ ((fa && fb) && (not k || (na && nb)))
    mixed k fa fb na nb = grind arith

  difference_part : (c k fa fb na nb v : Bool) (xs ys : List Offence) → nil xs ≡ (not k || v) → nil ys ≡ (((fa && (not k || na)) && (fb && (not k || nb))) && not k) → (c ≡ true → (fa && fb) ≡ true) →
      nil (cond c xs ys) ≡ ((fa && fb) && (not k || cond c v false))
  difference_part true k fa fb na nb v xs ys e f g = e ∙ ap (λ b. b && (not k || v)) (sym (g refl))
  difference_part false k fa fb na nb v xs ys e f g = f ∙ mixed k fa fb na nb where
    mixed : (k fa fb na nb : Bool) → (((fa && (not k || na)) && (fb && (not k || nb))) && not k) ≡ ((fa && fb) && (not k || false))
    mixed k fa fb na nb = grind arith

  product_part : (la lb k fa fas fb fbs na nb v : Bool) (xs p q s : List Offence) → nil xs ≡ (not k || v) →
      nil p ≡ ((fa && (not k || na)) && (fbs && (not k || nb))) → nil q ≡ ((fas && (not k || na)) && (fb && (not k || nb))) → nil s ≡ ((fa && na) && (fb && nb)) →
      (la ≡ true → fa ≡ true) → (lb ≡ true → fb ≡ true) → (lb ≡ true → fbs ≡ true) →
      nil (cond (la && lb) xs (cond la p (cond lb q s))) ≡ (cond la fbs (cond lb fas ((na && nb) && (fa && fb))) && (not k || cond (la && lb) v (na && nb)))
  product_part true true k fa fas fb fbs na nb v xs p q s e f g h i j l = e ∙ ap (λ b. b && (not k || v)) (sym (l refl))
  product_part true false k fa fas fb fbs na nb v xs p q s e f g h i j l = f ∙ (ap (λ b. (b && (not k || na)) && (fbs && (not k || nb))) (i refl) ∙ mixed k fbs na nb) where
    mixed : (k fb na nb : Bool) → ((true && (not k || na)) && (fb && (not k || nb))) ≡ (fb && (not k || (na && nb)))
    mixed k fb na nb = grind arith
  product_part false true k fa fas fb fbs na nb v xs p q s e f g h i j l = g ∙ (ap (λ b. (fas && (not k || na)) && (b && (not k || nb))) (j refl) ∙ mixed k fas na nb) where
    mixed : (k fa na nb : Bool) → ((fa && (not k || na)) && (true && (not k || nb))) ≡ (fa && (not k || (na && nb)))
    mixed k fa na nb = grind arith
  product_part false false k fa fas fb fbs na nb v xs p q s e f g h i j l = h ∙ mixed k fa fb na nb where
    mixed : (k fa fb na nb : Bool) → ((fa && na) && (fb && nb)) ≡ (((na && nb) && (fa && fb)) && (not k || (na && nb)))
    mixed k fa fb na nb = grind arith

  quotient_part : (lb par k fa ft na nb d : Bool) (p q s : List Offence) → nil p ≡ ((fa && (not k || na)) && d) → nil q ≡ (fa && (not k || na)) → nil s ≡ ((fa && na) && (ft && nb)) →
      (lb ≡ true → d ≡ true → nb ≡ true) → (par ≡ true → nb ≡ true) →
      nil (cond lb p (cond par q s)) ≡ (cond lb (d && fa) (cond par fa ((na && nb) && (fa && ft))) && (not k || (na && nb)))
  quotient_part true par k fa ft na nb d p q s e f g h i = e ∙ mixed k fa na nb d (h refl) where
    mixed : (k fa na nb d : Bool) → (d ≡ true → nb ≡ true) → ((fa && (not k || na)) && d) ≡ ((d && fa) && (not k || (na && nb)))
    mixed k fa na nb true h = grind (arith, h)
    mixed k fa na nb false h = grind arith
  quotient_part false true k fa ft na nb d p q s e f g h i = f ∙ mixed k fa na nb (i refl) where
    mixed : (k fa na nb : Bool) → nb ≡ true → (fa && (not k || na)) ≡ (fa && (not k || (na && nb)))
    mixed k fa na nb h = grind arith
  quotient_part false false k fa ft na nb d p q s e f g h i = g ∙ mixed k fa ft na nb where
    mixed : (k fa ft na nb : Bool) → ((fa && na) && (ft && nb)) ≡ (((na && nb) && (fa && ft)) && (not k || (na && nb)))
    mixed k fa ft na nb = grind arith

  divisor_natural : (b : Expr) → is_literal b ≡ true → int_le (pos 1) (literal_value M b) ≡ true → is_natural M b ≡ true
  divisor_natural b l h = literal_natural b l ∙ above_zero (literal_value M b) h

  parameter_natural : (b : Expr) → is_parameter b ≡ true → is_natural M b ≡ true
  parameter_natural (Param x) h = refl
  parameter_natural Infinity h = refl
  parameter_natural (Min y) h = refl
  parameter_natural (Max y) h = refl
  parameter_natural (Val y) h = refl
  parameter_natural e h = absurd (true≢false (sym h))

  nil-offences : (n : ℕ) (e : Expr) (w : Wish) (k : Bool) → nil (expr_offences M at n e w k) ≡ (expr_fits M e w && (not k || is_natural M e))
  nil-offences n (Number z) w k = nil-below k z (at n)
  nil-offences n (Min y) w k = nil-fits (is_rising w) (at n) ∙ anyhow (is_rising w) k
  nil-offences n (Max y) w k = nil-fits (is_falling w) (at n) ∙ anyhow (is_falling w) k
  nil-offences n (Add a b) w k = sum_part (is_literal a && is_literal b) k (expr_fits M a w) (expr_fits M b w) (is_natural M a) (is_natural M b) (int_le (pos 0) (literal_value M (Add a b))) _ _
      (nil-below k (literal_value M (Add a b)) (at n))
      (nil_two (expr_offences M at (n - 1 - expr_size b) a w k) (expr_offences M at (n - 1) b w k) _ _ (nil-offences (n - 1 - expr_size b) a w k) (nil-offences (n - 1) b w k))
      (λ c. and_from (expr_fits M a w) (expr_fits M b w) (literal_fits a w ((and_parts (is_literal a) (is_literal b) c).0)) (literal_fits b w ((and_parts (is_literal a) (is_literal b) c).1)))
  nil-offences n (Sub a b) w k = difference_part (is_literal a && is_literal b) k (expr_fits M a w) (expr_fits M b (turn w)) (is_natural M a) (is_natural M b)
      (int_le (pos 0) (literal_value M (Sub a b))) _ _
      (nil-below k (literal_value M (Sub a b)) (at n))
      (nil_three (expr_offences M at (n - 1 - expr_size b) a w k) (expr_offences M at (n - 1) b (turn w) k) (where_natural k (at n)) _ _ _
      (nil-offences (n - 1 - expr_size b) a w k) (nil-offences (n - 1) b (turn w) k) (nil-natural k (at n)))
      (λ c. and_from (expr_fits M a w) (expr_fits M b (turn w)) (literal_fits a w ((and_parts (is_literal a) (is_literal b) c).0))
      (literal_fits b (turn w) ((and_parts (is_literal a) (is_literal b) c).1)))
  nil-offences n (Mul a b) w k =
      product_part (is_literal a) (is_literal b) k (expr_fits M a w) (by_sign (literal_value M b) (expr_fits M a w) (expr_fits M a (turn w))) (expr_fits M b w)
      (by_sign (literal_value M a) (expr_fits M b w) (expr_fits M b (turn w))) (is_natural M a) (is_natural M b)
      (int_le (pos 0) (literal_value M (Mul a b))) _ _ _ _
      (nil-below k (literal_value M (Mul a b)) (at n))
      (nil_two (expr_offences M at (n - 1 - expr_size b) a w k) (expr_offences M at (n - 1) b (scaled (literal_value M a) w) k) _ _
      (nil-offences (n - 1 - expr_size b) a w k) (nil-offences (n - 1) b (scaled (literal_value M a) w) k
      ∙ ap (λ f. f && (not k || is_natural M b)) (sym (sign_scaled (literal_value M a) (λ v. expr_fits M b v) w))))
      (nil_two (expr_offences M at (n - 1 - expr_size b) a (scaled (literal_value M b) w) k) (expr_offences M at (n - 1) b w k) _ _
      (nil-offences (n - 1 - expr_size b) a (scaled (literal_value M b) w) k
      ∙ ap (λ f. f && (not k || is_natural M a)) (sym (sign_scaled (literal_value M b) (λ v. expr_fits M a v) w))) (nil-offences (n - 1) b w k))
      (nil_two (expr_offences M at (n - 1 - expr_size b) a w true) (expr_offences M at (n - 1) b w true) _ _ (nil-offences (n - 1 - expr_size b) a w true) (nil-offences (n - 1) b w true))
      (literal_fits a w) (literal_fits b w)
      (λ l. sign_scaled (literal_value M a) (λ v. expr_fits M b v) w ∙ literal_fits b (scaled (literal_value M a) w) l)
  nil-offences n (DivDown a b) w k =
      quotient_part (is_literal b) (is_parameter b) k (expr_fits M a w) (expr_fits M b (turn w)) (is_natural M a) (is_natural M b) (int_le (pos 1) (literal_value M b)) _ _ _
      (nil_two (expr_offences M at (n - 1 - expr_size b) a w k) (unless_divides (int_le (pos 1) (literal_value M b)) (at (n - 1))) _ _
      (nil-offences (n - 1 - expr_size b) a w k) (nil-divides (int_le (pos 1) (literal_value M b)) (at (n - 1))))
      (nil-offences (n - 1 - expr_size b) a w k)
      (nil_two (expr_offences M at (n - 1 - expr_size b) a w true) (expr_offences M at (n - 1) b (turn w) true) _ _
      (nil-offences (n - 1 - expr_size b) a w true) (nil-offences (n - 1) b (turn w) true))
      (divisor_natural b) (parameter_natural b)
  nil-offences n (DivUp a b) w k =
      quotient_part (is_literal b) (is_parameter b) k (expr_fits M a w) (expr_fits M b (turn w)) (is_natural M a) (is_natural M b) (int_le (pos 1) (literal_value M b)) _ _ _
      (nil_two (expr_offences M at (n - 1 - expr_size b) a w k) (unless_divides (int_le (pos 1) (literal_value M b)) (at (n - 1))) _ _
      (nil-offences (n - 1 - expr_size b) a w k) (nil-divides (int_le (pos 1) (literal_value M b)) (at (n - 1))))
      (nil-offences (n - 1 - expr_size b) a w k)
      (nil_two (expr_offences M at (n - 1 - expr_size b) a w true) (expr_offences M at (n - 1) b (turn w) true) _ _
      (nil-offences (n - 1 - expr_size b) a w true) (nil-offences (n - 1) b (turn w) true))
      (divisor_natural b) (parameter_natural b)
  nil-offences n e w k = anyhow true k

  plainly : (n : ℕ) (e : Expr) (w : Wish) → nil (expr_offences M at n e w false) ≡ expr_fits M e w
  plainly n e w = nil-offences n e w false ∙ and-true (expr_fits M e w)

  pub nil-fitting : (n : ℕ) (r : Range) (w : Bool) → nil (range_offences M at n r w) ≡ range_fits M r w
  nil-fitting n (Span a b) true = nil_two (expr_offences M at (n - 1 - expr_size b) a Rising false) (expr_offences M at (n - 1) b Falling false) _ _
      (plainly (n - 1 - expr_size b) a Rising) (plainly (n - 1) b Falling)
  nil-fitting n (Span a b) false = nil_two (expr_offences M at (n - 1 - expr_size b) a Falling false) (expr_offences M at (n - 1) b Rising false) _ _
      (plainly (n - 1 - expr_size b) a Falling) (plainly (n - 1) b Rising)
  nil-fitting n (One t) w = plainly (n - 1) t Constant
  nil-fitting n (Dom y) w = nil-fits w (at n)
  nil-fitting n (Union r q) w = nil_two (range_offences M at (n - 1 - range_size q) r w) (range_offences M at (n - 1) q w) _ _ (nil-fitting (n - 1 - range_size q) r w) (nil-fitting (n - 1) q w)
  nil-fitting n (Inter r q) w = nil_two (range_offences M at (n - 1 - range_size q) r w) (range_offences M at (n - 1) q w) _ _ (nil-fitting (n - 1 - range_size q) r w) (nil-fitting (n - 1) q w)
  nil-fitting n (Outside r) w = nil-fitting (n - 1) r (not w)
  nil-fitting n (Plus r c) w = nil_two (range_offences M at (n - 1 - expr_size c) r w) (expr_offences M at (n - 1) c Constant false) _ _
      (nil-fitting (n - 1 - expr_size c) r w) (plainly (n - 1) c Constant)
  nil-fitting n (Minus r c) w = nil_two (range_offences M at (n - 1 - expr_size c) r w) (expr_offences M at (n - 1) c Constant false) _ _
      (nil-fitting (n - 1 - expr_size c) r w) (plainly (n - 1) c Constant)
  nil-fitting n (Times r c) w = nil_two (range_offences M at (n - 1 - expr_size c) r w) (expr_offences M at (n - 1) c Constant false) _ _
      (nil-fitting (n - 1 - expr_size c) r w) (plainly (n - 1) c Constant)
  nil-fitting n (Over r c) w =
      let d : Bool = is_parameter c || (is_literal c && int_le (pos 1) (literal_value M c)) in
      nil_two (range_offences M at (n - 1 - expr_size c) r w) (unless_divides d (at (n - 1))) _ _ (nil-fitting (n - 1 - expr_size c) r w) (nil-divides d (at (n - 1)))
