-- An accepted range fits, once its parameters meet their needs.
use Rattle.std.proofs.Common.{◌≡◌, ℕ, Bool, true, false, ◌||◌, ◌&&◌, ◌==◌, eq-eqb, ℤ, pos, ◌+ℤ◌, ◌-ℤ◌, ◌*ℤ◌, ◌≤ℤ◌, int_le, List, [], ◌∷◌, ◌++◌, map, refl, sym}
use Rattle.std.proofs.Common.{ap, subst}
use Rattle.std.specs.List.{All}
use Rattle.std.proofs.lemmas.Int.{ints}
use Rattle.std.proofs.lemmas.Bool.{true≢false, or_left, and_parts}
use Rattle.std.proofs.Common.{arith}
use Rattle.std.proofs.lemmas.List.Elements.{All-nil, All-cons, All-head, All-tail, All-append}
use Rattle.fd_language.specs.declared.TheConstants.{INFINITY}
use Rattle.fd_language.specs.Family.{Family, has, universe}
use Rattle.fd_language.specs.Range.{Range, Span, One, Dom, Union, Inter, Outside, Plus, Minus, Times, Over, Expr, Number, Infinity, Param, Min, Max, Val, Add}
use Rattle.fd_language.specs.Range.{Sub, Mul, DivDown, DivUp, value, div_down, div_up, least, greatest, reads, expr_reads}
use Rattle.fd_language.specs.Needs.{is_literal}
use Rattle.fd_language.specs.Check.{Constant, fill, fill_range, literal_value, is_parameter, expr_fits, range_fits}
use Rattle.fd_language.specs.EvaluatedValues.{expr_values, expr_divisors, range_values, range_divisors}
use Rattle.fd_language.specs.RangeRenaming.{rename_expr, rename_range}
use Rattle.fd_language.proofs.Lemmas.{literal_is, expr_meets, over_meets, range_meets, two, in_left, in_right}
use Rattle.range_code.specs.Work.{IsLimited, filled_value, Fits, RangeFits}

front_all : {A : Type 0} (P : A → Type 0) (xs ys : List A) → All P (xs ++ ys) → All P xs
front_all P [] ys h = All-nil P
front_all P (x ∷ xs) ys h = All-cons P x xs (All-head P x (xs ++ ys) h) (front_all P xs ys (All-tail P x (xs ++ ys) h))

back_all : {A : Type 0} (P : A → Type 0) (xs ys : List A) → All P (xs ++ ys) → All P ys
back_all P [] ys h = h
back_all P (x ∷ xs) ys h = back_all P xs ys (All-tail P x (xs ++ ys) h)

-- the value of a term is among its values
own_value : (M : ℕ) (S : Family) (P : ℤ → Type 0) (e : Expr) → All P (expr_values M S e) → P (value M S e)
own_value M S P (Number z) h = All-head P (value M S (Number z)) [] h
own_value M S P Infinity h = All-head P (value M S Infinity) [] h
own_value M S P (Param x) h = All-head P (value M S (Param x)) [] h
own_value M S P (Min y) h = All-head P (value M S (Min y)) [] h
own_value M S P (Max y) h = All-head P (value M S (Max y)) [] h
own_value M S P (Val y) h = All-head P (value M S (Val y)) [] h
own_value M S P (Add a b) h = All-head P (value M S (Add a b)) (expr_values M S a ++ expr_values M S b) h
own_value M S P (Sub a b) h = All-head P (value M S (Sub a b)) (expr_values M S a ++ expr_values M S b) h
own_value M S P (Mul a b) h = All-head P (value M S (Mul a b)) (expr_values M S a ++ expr_values M S b) h
own_value M S P (DivDown a b) h = All-head P (value M S (DivDown a b)) (expr_values M S a ++ expr_values M S b) h
own_value M S P (DivUp a b) h = All-head P (value M S (DivUp a b)) (expr_values M S a ++ expr_values M S b) h

abbrev pub NotNegative : ℤ → Type 0
NotNegative z = pos 0 ≤ℤ z

-- no divisor of a range is below 1
abbrev pub Divides : Family → (ℕ → ℤ) → Range → Type 0
Divides S p (Span a b) = Unit {0}
Divides S p (One t) = Unit {0}
Divides S p (Dom y) = Unit {0}
Divides S p (Union r q) = Divides S p r × Divides S p q
Divides S p (Inter r q) = Divides S p r × Divides S p q
Divides S p (Outside r) = Divides S p r
Divides S p (Plus r c) = Divides S p r
Divides S p (Minus r c) = Divides S p r
Divides S p (Times r c) = Divides S p r
Divides S p (Over r c) = Divides S p r × (pos 1 ≤ℤ filled_value S p c) × All NotNegative (expr_divisors INFINITY S (fill p c))

at_least_one : (z : ℤ) → int_le (pos 1) z ≡ true → pos 1 ≤ℤ z
at_least_one z h = grind (arith, ints)

module _ (S : Family) (p : ℕ → ℤ) where
  by_literal : (c : Expr) → (is_literal c && int_le (pos 1) (literal_value INFINITY c)) ≡ true → pos 1 ≤ℤ filled_value S p c
  by_literal c h =
      subst (λ z. pos 1 ≤ℤ z) (sym (literal_is INFINITY p S c ((and_parts (is_literal c) (int_le (pos 1) (literal_value INFINITY c)) h).0)))
      (at_least_one (literal_value INFINITY c) ((and_parts (is_literal c) (int_le (pos 1) (literal_value INFINITY c)) h).1))

  by_divisor : (c : Expr) → (is_parameter c || (is_literal c && int_le (pos 1) (literal_value INFINITY c))) ≡ true → over_meets p c ≡ true → pos 1 ≤ℤ filled_value S p c
  by_divisor (Param x) h g = at_least_one (p x) g
  by_divisor (Number n) h g = by_literal (Number n) h
  by_divisor Infinity h g = by_literal Infinity h
  by_divisor (Min n) h g = by_literal (Min n) h
  by_divisor (Max n) h g = by_literal (Max n) h
  by_divisor (Val n) h g = by_literal (Val n) h
  by_divisor (Add c d) h g = by_literal (Add c d) h
  by_divisor (Sub c d) h g = by_literal (Sub c d) h
  by_divisor (Mul c d) h g = by_literal (Mul c d) h
  by_divisor (DivDown c d) h g = by_literal (DivDown c d) h
  by_divisor (DivUp c d) h g = by_literal (DivUp c d) h

  no_divisors : (e : Expr) → is_literal e ≡ true → All NotNegative (expr_divisors INFINITY S (fill p e))
  no_divisors (Number z) h = All-nil NotNegative
  no_divisors Infinity h = All-nil NotNegative
  no_divisors (Param x) h = absurd (true≢false (sym h))
  no_divisors (Min y) h = absurd (true≢false (sym h))
  no_divisors (Max y) h = absurd (true≢false (sym h))
  no_divisors (Val y) h = absurd (true≢false (sym h))
  no_divisors (Add a b) h = All-append NotNegative (expr_divisors INFINITY S (fill p a)) (expr_divisors INFINITY S (fill p b))
      (no_divisors a ((and_parts (is_literal a) (is_literal b) h).0)) (no_divisors b ((and_parts (is_literal a) (is_literal b) h).1))
  no_divisors (Sub a b) h = All-append NotNegative (expr_divisors INFINITY S (fill p a)) (expr_divisors INFINITY S (fill p b))
      (no_divisors a ((and_parts (is_literal a) (is_literal b) h).0)) (no_divisors b ((and_parts (is_literal a) (is_literal b) h).1))
  no_divisors (Mul a b) h = All-append NotNegative (expr_divisors INFINITY S (fill p a)) (expr_divisors INFINITY S (fill p b))
      (no_divisors a ((and_parts (is_literal a) (is_literal b) h).0)) (no_divisors b ((and_parts (is_literal a) (is_literal b) h).1))
  no_divisors (DivDown a b) h = absurd (true≢false (sym h))
  no_divisors (DivUp a b) h = absurd (true≢false (sym h))

  plain_divisor : (c : Expr) → (is_parameter c || (is_literal c && int_le (pos 1) (literal_value INFINITY c))) ≡ true → All NotNegative (expr_divisors INFINITY S (fill p c))
  plain_divisor (Param x) h = All-nil NotNegative
  plain_divisor (Number n) h = no_divisors (Number n) ((and_parts (is_literal (Number n)) (int_le (pos 1) (literal_value INFINITY (Number n))) h).0)
  plain_divisor Infinity h = no_divisors Infinity ((and_parts (is_literal Infinity) (int_le (pos 1) (literal_value INFINITY Infinity)) h).0)
  plain_divisor (Min n) h = no_divisors (Min n) ((and_parts (is_literal (Min n)) (int_le (pos 1) (literal_value INFINITY (Min n))) h).0)
  plain_divisor (Max n) h = no_divisors (Max n) ((and_parts (is_literal (Max n)) (int_le (pos 1) (literal_value INFINITY (Max n))) h).0)
  plain_divisor (Val n) h = no_divisors (Val n) ((and_parts (is_literal (Val n)) (int_le (pos 1) (literal_value INFINITY (Val n))) h).0)
  plain_divisor (Add c d) h = no_divisors (Add c d) ((and_parts (is_literal (Add c d)) (int_le (pos 1) (literal_value INFINITY (Add c d))) h).0)
  plain_divisor (Sub c d) h = no_divisors (Sub c d) ((and_parts (is_literal (Sub c d)) (int_le (pos 1) (literal_value INFINITY (Sub c d))) h).0)
  plain_divisor (Mul c d) h = no_divisors (Mul c d) ((and_parts (is_literal (Mul c d)) (int_le (pos 1) (literal_value INFINITY (Mul c d))) h).0)
  plain_divisor (DivDown c d) h = no_divisors (DivDown c d) ((and_parts (is_literal (DivDown c d)) (int_le (pos 1) (literal_value INFINITY (DivDown c d))) h).0)
  plain_divisor (DivUp c d) h = no_divisors (DivUp c d) ((and_parts (is_literal (DivUp c d)) (int_le (pos 1) (literal_value INFINITY (DivUp c d))) h).0)

  abbrev pub Wanted : Range → Type 0
  Wanted r = (w : Bool) → range_fits INFINITY r w ≡ true → range_meets p r ≡ true → Divides S p r

  pub divides : (r : Range) → Wanted r
  divides (Span a b) w f m = tt
  divides (One t) w f m = tt
  divides (Dom y) w f m = tt
  divides (Union r q) w f m = (
    divides r w ((and_parts (range_fits INFINITY r w) (range_fits INFINITY q w) f).0) ((and_parts (range_meets p r) (range_meets p q) m).0),
    divides q w ((and_parts (range_fits INFINITY r w) (range_fits INFINITY q w) f).1) ((and_parts (range_meets p r) (range_meets p q) m).1),
  )
  divides (Inter r q) w f m = (
    divides r w ((and_parts (range_fits INFINITY r w) (range_fits INFINITY q w) f).0) ((and_parts (range_meets p r) (range_meets p q) m).0),
    divides q w ((and_parts (range_fits INFINITY r w) (range_fits INFINITY q w) f).1) ((and_parts (range_meets p r) (range_meets p q) m).1),
  )
  divides (Outside r) true f m = divides r false f m
  divides (Outside r) false f m = divides r true f m
  divides (Plus r c) w f m = divides r w ((and_parts (range_fits INFINITY r w) (expr_fits INFINITY c Constant) f).0) ((and_parts (range_meets p r) (expr_meets p c false) m).0)
  divides (Minus r c) w f m = divides r w ((and_parts (range_fits INFINITY r w) (expr_fits INFINITY c Constant) f).0) ((and_parts (range_meets p r) (expr_meets p c false) m).0)
  divides (Times r c) w f m = divides r w ((and_parts (range_fits INFINITY r w) (expr_fits INFINITY c Constant) f).0) ((and_parts (range_meets p r) (expr_meets p c false) m).0)
  divides (Over r c) w f m =
      let d : Bool = is_parameter c || (is_literal c && int_le (pos 1) (literal_value INFINITY c)) in (
        divides r w ((and_parts (range_fits INFINITY r w) d f).0) ((and_parts (range_meets p r) (over_meets p c) m).0),
        by_divisor c ((and_parts (range_fits INFINITY r w) d f).1) ((and_parts (range_meets p r) (over_meets p c) m).1),
        plain_divisor c ((and_parts (range_fits INFINITY r w) d f).1),
      )

-- The same under other variables: f gives the new ones, and the sets of those that are read are the same.
module _ (f : ℕ → ℕ) (S T : Family) (p : ℕ → ℤ) where
  abbrev given : ℕ → ℤ
  given y = p (f y)

  abbrev Agree : List ℕ → Type 0
  Agree ys = (y : ℕ) → has ys y ≡ true → S y ≡ T (f y)

  agree_left : (xs ys : List ℕ) → Agree (xs ++ ys) → Agree xs
  agree_left xs ys s y h = s y (in_left xs ys y h)

  agree_right : (xs ys : List ℕ) → Agree (xs ++ ys) → Agree ys
  agree_right xs ys s y h = s y (in_right xs ys y h)

  agree_here : (y : ℕ) → Agree (y ∷ []) → S y ≡ T (f y)
  agree_here y s = s y (or_left (y == y) false (eq-eqb y y refl))

  value_moves : (e : Expr) → Agree (expr_reads e) → filled_value S given e ≡ filled_value T p (rename_expr f e)
  value_moves (Number z) s = refl
  value_moves Infinity s = refl
  value_moves (Param x) s = refl
  value_moves (Min y) s = ap (λ l. pos (least l)) (agree_here y s)
  value_moves (Max y) s = ap (λ l. pos (greatest l)) (agree_here y s)
  value_moves (Val y) s = ap (λ l. pos (least l)) (agree_here y s)
  value_moves (Add a b) s = two (λ x y. x +ℤ y) (value_moves a (agree_left (expr_reads a) (expr_reads b) s)) (value_moves b (agree_right (expr_reads a) (expr_reads b) s))
  value_moves (Sub a b) s = two (λ x y. x -ℤ y) (value_moves a (agree_left (expr_reads a) (expr_reads b) s)) (value_moves b (agree_right (expr_reads a) (expr_reads b) s))
  value_moves (Mul a b) s = two (λ x y. x *ℤ y) (value_moves a (agree_left (expr_reads a) (expr_reads b) s)) (value_moves b (agree_right (expr_reads a) (expr_reads b) s))
  value_moves (DivDown a b) s = two (div_down INFINITY) (value_moves a (agree_left (expr_reads a) (expr_reads b) s)) (value_moves b (agree_right (expr_reads a) (expr_reads b) s))
  value_moves (DivUp a b) s = two (div_up INFINITY) (value_moves a (agree_left (expr_reads a) (expr_reads b) s)) (value_moves b (agree_right (expr_reads a) (expr_reads b) s))

  abbrev Values : Expr → List ℤ
  Values e = expr_values INFINITY S (fill given e)

  abbrev Divisors : Expr → List ℤ
  Divisors e = expr_divisors INFINITY S (fill given e)

  own : (e : Expr) → Agree (expr_reads e) → All IsLimited (Values e) → IsLimited (filled_value T p (rename_expr f e))
  own e s h = subst IsLimited (value_moves e s) (own_value INFINITY S IsLimited (fill given e) h)

  left_values : (a b : Expr) (z : ℤ) → All IsLimited (z ∷ (Values a ++ Values b)) → All IsLimited (Values a)
  left_values a b z h = front_all IsLimited (Values a) (Values b) (All-tail IsLimited z (Values a ++ Values b) h)

  right_values : (a b : Expr) (z : ℤ) → All IsLimited (z ∷ (Values a ++ Values b)) → All IsLimited (Values b)
  right_values a b z h = back_all IsLimited (Values a) (Values b) (All-tail IsLimited z (Values a ++ Values b) h)

  abbrev Limits : Expr → Type 0
  Limits e = Agree (expr_reads e) → All IsLimited (Values e) → All NotNegative (Divisors e) → Fits T p (rename_expr f e)

  term_fits : (e : Expr) → Limits e
  term_fits (Number z) s h g = tt
  term_fits Infinity s h g = tt
  term_fits (Param x) s h g = tt
  term_fits (Min y) s h g = tt
  term_fits (Max y) s h g = tt
  term_fits (Val y) s h g = tt
  term_fits (Add a b) s h g = (
    term_fits a (agree_left (expr_reads a) (expr_reads b) s) (left_values a b (filled_value S given (Add a b)) h) (front_all NotNegative (Divisors a) (Divisors b) g),
    term_fits b (agree_right (expr_reads a) (expr_reads b) s) (right_values a b (filled_value S given (Add a b)) h) (back_all NotNegative (Divisors a) (Divisors b) g),
    own (Add a b) s h,
  )
  term_fits (Sub a b) s h g = (
    term_fits a (agree_left (expr_reads a) (expr_reads b) s) (left_values a b (filled_value S given (Sub a b)) h) (front_all NotNegative (Divisors a) (Divisors b) g),
    term_fits b (agree_right (expr_reads a) (expr_reads b) s) (right_values a b (filled_value S given (Sub a b)) h) (back_all NotNegative (Divisors a) (Divisors b) g),
    own (Sub a b) s h,
  )
  term_fits (Mul a b) s h g = (
    term_fits a (agree_left (expr_reads a) (expr_reads b) s) (left_values a b (filled_value S given (Mul a b)) h) (front_all NotNegative (Divisors a) (Divisors b) g),
    term_fits b (agree_right (expr_reads a) (expr_reads b) s) (right_values a b (filled_value S given (Mul a b)) h) (back_all NotNegative (Divisors a) (Divisors b) g),
    own (Mul a b) s h,
  )
  term_fits (DivDown a b) s h g =
      let l = left_values a b (filled_value S given (DivDown a b)) h in
      let d = All-tail NotNegative (filled_value S given b) (Divisors a ++ Divisors b) g in (
        term_fits a (agree_left (expr_reads a) (expr_reads b) s) l (front_all NotNegative (Divisors a) (Divisors b) d),
        term_fits b (agree_right (expr_reads a) (expr_reads b) s) (right_values a b (filled_value S given (DivDown a b)) h) (back_all NotNegative (Divisors a) (Divisors b) d),
        (
          own a (agree_left (expr_reads a) (expr_reads b) s) l,
          subst NotNegative (value_moves b (agree_right (expr_reads a) (expr_reads b) s))
              (All-head NotNegative (filled_value S given b) (Divisors a ++ Divisors b) g),
        ),
      )
  term_fits (DivUp a b) s h g =
      let l = left_values a b (filled_value S given (DivUp a b)) h in
      let d = All-tail NotNegative (filled_value S given b) (Divisors a ++ Divisors b) g in (
        term_fits a (agree_left (expr_reads a) (expr_reads b) s) l (front_all NotNegative (Divisors a) (Divisors b) d),
        term_fits b (agree_right (expr_reads a) (expr_reads b) s) (right_values a b (filled_value S given (DivUp a b)) h) (back_all NotNegative (Divisors a) (Divisors b) d),
        (
          own a (agree_left (expr_reads a) (expr_reads b) s) l,
          subst NotNegative (value_moves b (agree_right (expr_reads a) (expr_reads b) s))
              (All-head NotNegative (filled_value S given b) (Divisors a ++ Divisors b) g),
        ),
      )

  abbrev RangeValues : Range → List ℤ
  RangeValues r = range_values INFINITY S (fill_range given r)

  abbrev RangeDivisors : Range → List ℤ
  RangeDivisors r = range_divisors INFINITY S (fill_range given r)

  pub fits : (r : Range) → Agree (reads r) → All IsLimited (RangeValues r) → All NotNegative (RangeDivisors r) → Divides S given r → RangeFits T p (rename_range f r)
  fits (Span a b) s h g d = (
    term_fits a (agree_left (expr_reads a) (expr_reads b) s) (front_all IsLimited (Values a) (Values b) h) (front_all NotNegative (Divisors a) (Divisors b) g),
    term_fits b (agree_right (expr_reads a) (expr_reads b) s) (back_all IsLimited (Values a) (Values b) h) (back_all NotNegative (Divisors a) (Divisors b) g),
  )
  fits (One t) s h g d = term_fits t s h g
  fits (Dom y) s h g d = tt
  fits (Union r q) s h g d = (
    fits r (agree_left (reads r) (reads q) s) (front_all IsLimited (RangeValues r) (RangeValues q) h) (front_all NotNegative (RangeDivisors r) (RangeDivisors q) g) d.0,
    fits q (agree_right (reads r) (reads q) s) (back_all IsLimited (RangeValues r) (RangeValues q) h) (back_all NotNegative (RangeDivisors r) (RangeDivisors q) g) d.1,
  )
  fits (Inter r q) s h g d = (
    fits r (agree_left (reads r) (reads q) s) (front_all IsLimited (RangeValues r) (RangeValues q) h) (front_all NotNegative (RangeDivisors r) (RangeDivisors q) g) d.0,
    fits q (agree_right (reads r) (reads q) s) (back_all IsLimited (RangeValues r) (RangeValues q) h) (back_all NotNegative (RangeDivisors r) (RangeDivisors q) g) d.1,
  )
  fits (Outside r) s h g d = fits r s h g d
  fits (Plus r c) s h g d =
      let moved : List ℤ = map (λ e. pos e +ℤ filled_value S given c) (universe INFINITY) in
      let l : All IsLimited (Values c) = front_all IsLimited (Values c) moved (back_all IsLimited (RangeValues r) (Values c ++ moved) h) in (
        fits r (agree_left (reads r) (expr_reads c) s) (front_all IsLimited (RangeValues r) (Values c ++ moved) h) (front_all NotNegative (RangeDivisors r) (Divisors c) g) d,
        term_fits c (agree_right (reads r) (expr_reads c) s) l (back_all NotNegative (RangeDivisors r) (Divisors c) g),
        own c (agree_right (reads r) (expr_reads c) s) l,
      )
  fits (Minus r c) s h g d =
      let moved : List ℤ = map (λ e. pos e -ℤ filled_value S given c) (universe INFINITY) in
      let l : All IsLimited (Values c) = front_all IsLimited (Values c) moved (back_all IsLimited (RangeValues r) (Values c ++ moved) h) in (
        fits r (agree_left (reads r) (expr_reads c) s) (front_all IsLimited (RangeValues r) (Values c ++ moved) h) (front_all NotNegative (RangeDivisors r) (Divisors c) g) d,
        term_fits c (agree_right (reads r) (expr_reads c) s) l (back_all NotNegative (RangeDivisors r) (Divisors c) g),
        own c (agree_right (reads r) (expr_reads c) s) l,
      )
  fits (Times r c) s h g d =
      let moved : List ℤ = map (λ e. pos e *ℤ filled_value S given c) (universe INFINITY) in
      let l : All IsLimited (Values c) = front_all IsLimited (Values c) moved (back_all IsLimited (RangeValues r) (Values c ++ moved) h) in (
        fits r (agree_left (reads r) (expr_reads c) s) (front_all IsLimited (RangeValues r) (Values c ++ moved) h) (front_all NotNegative (RangeDivisors r) (Divisors c) g) d,
        term_fits c (agree_right (reads r) (expr_reads c) s) l (back_all NotNegative (RangeDivisors r) (Divisors c) g),
      )
  fits (Over r c) s h g d =
      let moved : List ℤ = map (λ e. pos e *ℤ filled_value S given c) (universe INFINITY) in
      let l : All IsLimited (Values c) = front_all IsLimited (Values c) moved (back_all IsLimited (RangeValues r) (Values c ++ moved) h) in (
        fits r (agree_left (reads r) (expr_reads c) s) (front_all IsLimited (RangeValues r) (Values c ++ moved) h) (front_all NotNegative (RangeDivisors r) (filled_value S given c ∷ []) g) d.0,
        term_fits c (agree_right (reads r) (expr_reads c) s) l d.2,
        subst (λ z. pos 1 ≤ℤ z) (value_moves c (agree_right (reads r) (expr_reads c) s)) d.1,
      )
