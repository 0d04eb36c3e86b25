-- What the needs of parameters give at each part of a range.
use Rattle.std.proofs.Common.{◌≡◌, ℕ, ◌^◌, Bool, true, false, cond, ◌||◌, ◌&&◌, not, ◌==◌, ℤ, pos, int_le, nat_lt, nat_abs, List, [], ◌∷◌, ◌++◌, map, filter}
use Rattle.std.proofs.Common.{refl, sym, ◌∙◌, subst, inl, inr, arith, eqb-true, eq-eqb}
use Rattle.std.specs.Prelude.{if◌then◌else◌}
use Rattle.std.proofs.lemmas.Int.{ints}
use Rattle.std.proofs.lemmas.Bool.{cases_Bool, true≢false, and_parts, and_from}
use Rattle.std.proofs.lemmas.List.Folds.{list_all-append, list_all-map}
use Rattle.std.specs.List.{list_all}
use Rattle.fd_language.specs.declared.range_node.Need.{Need}
use Rattle.fd_language.specs.declared.range_node.Need.TheVariants.{Whole, Natural, Divisor}
use Rattle.fd_language.specs.Range.{Range, Span, One, Dom, Union, Inter, Outside, Plus, Minus, Times, Over, Expr, Number, Infinity, Param, Add, Sub, Mul}
use Rattle.fd_language.specs.Range.{DivDown, DivUp}
use Rattle.fd_language.specs.Needs.{meets, is_literal, by_place, quotient_asks, expr_asks, over_asks, asks, stronger, strongest, once, parameters, need_of}
use Rattle.fd_language.specs.Needs.{meets_needs}

-- at least 1 is natural
pub above_zero : (z : ℤ) → int_le (pos 1) z ≡ true → int_le (pos 0) z ≡ true
above_zero z h = grind (arith, ints)

-- at each place: natural inside a natural term, at least 1 as a divisor
abbrev pub by_natural : Bool → ℤ → Bool
by_natural true z = int_le (pos 0) z
by_natural false z = true

abbrev pub divisor_meets : (ℕ → ℤ) → Expr → Bool → Bool → Bool
divisor_meets p (Param x) plain others = int_le (pos 1) (p x) && plain
divisor_meets p b plain others = if is_literal b then plain else others

abbrev pub expr_meets : (ℕ → ℤ) → Expr → Bool → Bool
expr_meets p (Param x) n = by_natural n (p x)
expr_meets p (Add a b) n = expr_meets p a n && expr_meets p b n
expr_meets p (Sub a b) n = expr_meets p a n && expr_meets p b n
expr_meets p (Mul a b) n = if is_literal a || is_literal b then expr_meets p a n && expr_meets p b n else expr_meets p a true && expr_meets p b true
expr_meets p (DivDown a b) n = divisor_meets p b (expr_meets p a n) (expr_meets p a true && expr_meets p b true)
expr_meets p (DivUp a b) n = divisor_meets p b (expr_meets p a n) (expr_meets p a true && expr_meets p b true)
expr_meets p e n = true

abbrev pub over_meets : (ℕ → ℤ) → Expr → Bool
over_meets p (Param x) = int_le (pos 1) (p x)
over_meets p _ = true

abbrev pub range_meets : (ℕ → ℤ) → Range → Bool
range_meets p (Span a b) = expr_meets p a false && expr_meets p b false
range_meets p (One t) = expr_meets p t false
range_meets p (Dom y) = true
range_meets p (Union r q) = range_meets p r && range_meets p q
range_meets p (Inter r q) = range_meets p r && range_meets p q
range_meets p (Outside r) = range_meets p r
range_meets p (Plus r c) = range_meets p r && expr_meets p c false
range_meets p (Minus r c) = range_meets p r && expr_meets p c false
range_meets p (Times r c) = range_meets p r && expr_meets p c false
range_meets p (Over r c) = range_meets p r && over_meets p c

-- a stronger need asks for all that a weaker one asks for
pub meets_size : (n : Need) (z : ℤ) → meets n z ≡ true → nat_lt (nat_abs z) (2 ^ 63) ≡ true
meets_size Whole z h = h
meets_size Natural z h = (and_parts (nat_lt (nat_abs z) (2 ^ 63)) (int_le (pos 0) z) h).0
meets_size Divisor z h = (and_parts (nat_lt (nat_abs z) (2 ^ 63)) (int_le (pos 1) z) h).0

meets_natural : (z : ℤ) → meets Divisor z ≡ true → meets Natural z ≡ true
meets_natural z h = and_from (nat_lt (nat_abs z) (2 ^ 63)) (int_le (pos 0) z) (meets_size Divisor z h) (above_zero z ((and_parts (nat_lt (nat_abs z) (2 ^ 63)) (int_le (pos 1) z) h).1))

meets_left : (a b : Need) (z : ℤ) → meets (stronger a b) z ≡ true → meets a z ≡ true
meets_left Whole b z h = meets_size b z h
meets_left Natural Whole z h = h
meets_left Natural Natural z h = h
meets_left Natural Divisor z h = meets_natural z h
meets_left Divisor b z h = h

meets_right : (a b : Need) (z : ℤ) → meets (stronger a b) z ≡ true → meets b z ≡ true
meets_right Whole b z h = h
meets_right Natural Whole z h = meets_size Natural z h
meets_right Natural Natural z h = h
meets_right Natural Divisor z h = h
meets_right Divisor Whole z h = meets_size Divisor z h
meets_right Divisor Natural z h = meets_natural z h
meets_right Divisor Divisor z h = h

-- all that is asked for is met
abbrev pub asks_met : (ℕ → ℤ) → List (ℕ × Need) → Bool
asks_met p ds = list_all (λ d. meets d.1 (p d.0)) ds

either_left : (c : Bool) (a b : Need) (z : ℤ) → c ≡ true → meets (cond c (stronger a b) b) z ≡ true → meets a z ≡ true
either_left true a b z e h = meets_left a b z h
either_left false a b z e h = absurd (true≢false (sym e))

either_right : (c : Bool) (a b : Need) (z : ℤ) → meets (cond c (stronger a b) b) z ≡ true → meets b z ≡ true
either_right true a b z h = meets_right a b z h
either_right false a b z h = h

from_strongest : (p : ℕ → ℤ) (all ds : List (ℕ × Need)) → ((x : ℕ) (z : ℤ) → meets (strongest all x) z ≡ true → meets (strongest ds x) z ≡ true) →
    list_all (λ d. meets (strongest all d.0) (p d.0)) ds ≡ true → asks_met p ds ≡ true
from_strongest p all [] f h = refl
from_strongest p all (d ∷ ds) f h = and_from (meets d.1 (p d.0)) (asks_met p ds)
    (either_left (d.0 == d.0) d.1 (strongest ds d.0) (p d.0) (eq-eqb d.0 d.0 refl)
    (f d.0 (p d.0) ((and_parts (meets (strongest all d.0) (p d.0)) (list_all (λ c. meets (strongest all c.0) (p c.0)) ds) h).0)))
    (from_strongest p all ds (λ x z k. either_right (d.0 == x) d.1 (strongest ds x) z (f x z k))
    ((and_parts (meets (strongest all d.0) (p d.0)) (list_all (λ c. meets (strongest all c.0) (p c.0)) ds) h).1))

unfilter : (f : ℕ → Bool) (x : ℕ) (ys : List ℕ) → f x ≡ true → list_all f (filter (λ y. not (y == x)) ys) ≡ true → list_all f ys ≡ true
unfilter f x [] e h = refl
unfilter f x (y ∷ ys) e h = elim (cases_Bool (y == x)) [
  | inl i ↦ and_from (f y) (list_all f ys) (subst (λ n. f n ≡ true) (sym (eqb-true y x i)) e)
      (unfilter f x ys e (subst (λ b. list_all f (cond (not b) (y ∷ filter (λ n. not (n == x)) ys) (filter (λ n. not (n == x)) ys)) ≡ true) i h))
  | inr i ↦
      let g : (f y && list_all f (filter (λ n. not (n == x)) ys)) ≡ true = subst (λ b. list_all f (cond (not b) (y ∷ filter (λ n. not (n == x)) ys) (filter (λ n. not (n == x)) ys)) ≡ true) i h in
      and_from (f y) (list_all f ys) ((and_parts (f y) (list_all f (filter (λ n. not (n == x)) ys)) g).0) (unfilter f x ys e ((and_parts (f y) (list_all f (filter (λ n. not (n == x)) ys)) g).1))
]

from_once : (f : ℕ → Bool) (xs : List ℕ) → list_all f (once xs) ≡ true → list_all f xs ≡ true
from_once f [] h = refl
from_once f (x ∷ xs) h =
    let e : f x ≡ true = (and_parts (f x) (list_all f (filter (λ y. not (y == x)) (once xs))) h).0 in
    and_from (f x) (list_all f xs) e (from_once f xs (unfilter f x (once xs) e ((and_parts (f x) (list_all f (filter (λ y. not (y == x)) (once xs))) h).1)))

pub asks_from_needs : (p : ℕ → ℤ) (r : Range) → meets_needs p r ≡ true → asks_met p (asks r) ≡ true
asks_from_needs p r h =
    let f : ℕ → Bool = λ x. meets (need_of r x) (p x) in
    let a : list_all f (parameters r) ≡ true = sym (list_all-map (λ d. meets d.1 (p d.0)) (λ x. (x, need_of r x)) (parameters r)) ∙ h in
    let b : list_all f (map (λ d. d.0) (asks r)) ≡ true = from_once f (map (λ d. d.0) (asks r)) a in
    let c : list_all (λ d. f d.0) (asks r) ≡ true = sym (list_all-map f (λ d. d.0) (asks r)) ∙ b in
    from_strongest p (asks r) (asks r) (λ x z k. k) c

module _ (p : ℕ → ℤ) where
  pub split_asks : (xs ys : List (ℕ × Need)) → asks_met p (xs ++ ys) ≡ true → (asks_met p xs ≡ true) × (asks_met p ys ≡ true)
  split_asks xs ys h = let g : (asks_met p xs && asks_met p ys) ≡ true = sym (list_all-append (λ d. meets d.1 (p d.0)) xs ys) ∙ h in
      ((and_parts (asks_met p xs) (asks_met p ys) g).0, (and_parts (asks_met p xs) (asks_met p ys) g).1)

  both_asked : (xs ys : List (ℕ × Need)) (x y : Bool) → (asks_met p xs ≡ true → x ≡ true) → (asks_met p ys ≡ true → y ≡ true) → asks_met p (xs ++ ys) ≡ true → (x && y) ≡ true
  both_asked xs ys x y f g h = let s = split_asks xs ys h in and_from x y (f s.0) (g s.1)

  if_asked : (c : Bool) (xs ys : List (ℕ × Need)) (x y : Bool) → (asks_met p xs ≡ true → x ≡ true) → (asks_met p ys ≡ true → y ≡ true) → asks_met p (cond c xs ys) ≡ true → cond c x y ≡ true
  if_asked true xs ys x y f g h = f h
  if_asked false xs ys x y f g h = g h

  divisor_asked : (x : ℕ) → asks_met p ((x, Divisor) ∷ []) ≡ true → int_le (pos 1) (p x) ≡ true
  divisor_asked x h = (and_parts (nat_lt (nat_abs (p x)) (2 ^ 63)) (int_le (pos 1) (p x)) ((and_parts (meets Divisor (p x)) true h).0)).1

  quotient_asked : (b : Expr) (plain left right : List (ℕ × Need)) (x y z : Bool) → (asks_met p plain ≡ true → x ≡ true) → (asks_met p left ≡ true → y ≡ true) → (asks_met p right ≡ true → z ≡ true) →
      asks_met p (quotient_asks b plain left right) ≡ true → divisor_meets p b x (y && z) ≡ true
  quotient_asked (Param v) plain left right x y z f g k h = let s = split_asks plain ((v, Divisor) ∷ []) h in and_from (int_le (pos 1) (p v)) x (divisor_asked v s.1) (f s.0)
  quotient_asked (Number n) plain left right x y z f g k h = if_asked true plain (left ++ right) x (y && z) f (both_asked left right y z g k) h
  quotient_asked Infinity plain left right x y z f g k h = if_asked true plain (left ++ right) x (y && z) f (both_asked left right y z g k) h
  quotient_asked (Add c d) plain left right x y z f g k h = if_asked (is_literal (Add c d)) plain (left ++ right) x (y && z) f (both_asked left right y z g k) h
  quotient_asked (Sub c d) plain left right x y z f g k h = if_asked (is_literal (Sub c d)) plain (left ++ right) x (y && z) f (both_asked left right y z g k) h
  quotient_asked (Mul c d) plain left right x y z f g k h = if_asked (is_literal (Mul c d)) plain (left ++ right) x (y && z) f (both_asked left right y z g k) h
  quotient_asked e plain left right x y z f g k h = if_asked false plain (left ++ right) x (y && z) f (both_asked left right y z g k) h

  param_asked : (x : ℕ) (n : Bool) → asks_met p ((x, by_place n) ∷ []) ≡ true → by_natural n (p x) ≡ true
  param_asked x true h = (and_parts (nat_lt (nat_abs (p x)) (2 ^ 63)) (int_le (pos 0) (p x)) ((and_parts (meets Natural (p x)) true h).0)).1
  param_asked x false h = refl

  expr_asked : (e : Expr) (n : Bool) → asks_met p (expr_asks e n) ≡ true → expr_meets p e n ≡ true
  expr_asked (Param x) n h = param_asked x n h
  expr_asked (Add a b) n h = both_asked (expr_asks a n) (expr_asks b n) (expr_meets p a n) (expr_meets p b n) (expr_asked a n) (expr_asked b n) h
  expr_asked (Sub a b) n h = both_asked (expr_asks a n) (expr_asks b n) (expr_meets p a n) (expr_meets p b n) (expr_asked a n) (expr_asked b n) h
  expr_asked (Mul a b) n h =
      if_asked (is_literal a || is_literal b) (expr_asks a n ++ expr_asks b n) (expr_asks a true ++ expr_asks b true) (expr_meets p a n && expr_meets p b n)
      (expr_meets p a true && expr_meets p b true)
      (both_asked (expr_asks a n) (expr_asks b n) (expr_meets p a n) (expr_meets p b n) (expr_asked a n) (expr_asked b n))
      (both_asked (expr_asks a true) (expr_asks b true) (expr_meets p a true) (expr_meets p b true) (expr_asked a true) (expr_asked b true)) h
  expr_asked (DivDown a b) n h = quotient_asked b (expr_asks a n) (expr_asks a true) (expr_asks b true) (expr_meets p a n) (expr_meets p a true)
      (expr_meets p b true) (expr_asked a n) (expr_asked a true) (expr_asked b true) h
  expr_asked (DivUp a b) n h = quotient_asked b (expr_asks a n) (expr_asks a true) (expr_asks b true) (expr_meets p a n) (expr_meets p a true)
      (expr_meets p b true) (expr_asked a n) (expr_asked a true) (expr_asked b true) h
  expr_asked e n h = refl

  over_asked : (c : Expr) → asks_met p (over_asks c) ≡ true → over_meets p c ≡ true
  over_asked (Param x) h = divisor_asked x h
  over_asked e h = refl

  range_asked : (r : Range) → asks_met p (asks r) ≡ true → range_meets p r ≡ true
  range_asked (Span a b) h = both_asked (expr_asks a false) (expr_asks b false) (expr_meets p a false) (expr_meets p b false) (expr_asked a false) (expr_asked b false) h
  range_asked (One t) h = expr_asked t false h
  range_asked (Dom y) h = refl
  range_asked (Union r q) h = both_asked (asks r) (asks q) (range_meets p r) (range_meets p q) (range_asked r) (range_asked q) h
  range_asked (Inter r q) h = both_asked (asks r) (asks q) (range_meets p r) (range_meets p q) (range_asked r) (range_asked q) h
  range_asked (Outside r) h = range_asked r h
  range_asked (Plus r c) h = both_asked (asks r) (expr_asks c false) (range_meets p r) (expr_meets p c false) (range_asked r) (expr_asked c false) h
  range_asked (Minus r c) h = both_asked (asks r) (expr_asks c false) (range_meets p r) (expr_meets p c false) (range_asked r) (expr_asked c false) h
  range_asked (Times r c) h = both_asked (asks r) (expr_asks c false) (range_meets p r) (expr_meets p c false) (range_asked r) (expr_asked c false) h
  range_asked (Over r c) h = both_asked (asks r) (over_asks c) (range_meets p r) (over_meets p c) (range_asked r) (over_asked c) h

-- integers that meet the needs are as the table wants them at each place
pub needs_met : (p : ℕ → ℤ) (r : Range) → meets_needs p r ≡ true → range_meets p r ≡ true
needs_met p r h = range_asked p r (asks_from_needs p r h)
