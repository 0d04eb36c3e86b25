-- The values that are met while a range is evaluated.
use Rattle.std.specs.Prelude.{ℕ, ℤ, pos, ◌+ℤ◌, ◌-ℤ◌, ◌*ℤ◌, List, [], ◌∷◌, ◌++◌, map}
use Rattle.fd_language.specs.Family.{Family, universe}
use Rattle.fd_language.specs.Range.{Range, Span, One, Dom, Union, Inter, Outside, Plus, Minus, Times, Over, Expr, Add, Sub, Mul, DivDown, DivUp, value}

-- the values of all subterms
abbrev pub expr_values : ℕ → Family → Expr → List ℤ
expr_values M S (Add a b) = value M S (Add a b) ∷ (expr_values M S a ++ expr_values M S b)
expr_values M S (Sub a b) = value M S (Sub a b) ∷ (expr_values M S a ++ expr_values M S b)
expr_values M S (Mul a b) = value M S (Mul a b) ∷ (expr_values M S a ++ expr_values M S b)
expr_values M S (DivDown a b) = value M S (DivDown a b) ∷ (expr_values M S a ++ expr_values M S b)
expr_values M S (DivUp a b) = value M S (DivUp a b) ∷ (expr_values M S a ++ expr_values M S b)
expr_values M S e = value M S e ∷ []

-- Those of all terms, and in the pointwise forms what each number of U gives with c.
abbrev pub range_values : ℕ → Family → Range → List ℤ
range_values M S (Span a b) = expr_values M S a ++ expr_values M S b
range_values M S (One t) = expr_values M S t
range_values M S (Dom y) = []
range_values M S (Union r q) = range_values M S r ++ range_values M S q
range_values M S (Inter r q) = range_values M S r ++ range_values M S q
range_values M S (Outside r) = range_values M S r
range_values M S (Plus r c) = range_values M S r ++ (expr_values M S c ++ map (λ e. pos e +ℤ value M S c) (universe M))
range_values M S (Minus r c) = range_values M S r ++ (expr_values M S c ++ map (λ e. pos e -ℤ value M S c) (universe M))
range_values M S (Times r c) = range_values M S r ++ (expr_values M S c ++ map (λ e. pos e *ℤ value M S c) (universe M))
range_values M S (Over r c) = range_values M S r ++ (expr_values M S c ++ map (λ e. pos e *ℤ value M S c) (universe M))

-- the values of the divisors
abbrev pub expr_divisors : ℕ → Family → Expr → List ℤ
expr_divisors M S (Add a b) = expr_divisors M S a ++ expr_divisors M S b
expr_divisors M S (Sub a b) = expr_divisors M S a ++ expr_divisors M S b
expr_divisors M S (Mul a b) = expr_divisors M S a ++ expr_divisors M S b
expr_divisors M S (DivDown a b) = value M S b ∷ (expr_divisors M S a ++ expr_divisors M S b)
expr_divisors M S (DivUp a b) = value M S b ∷ (expr_divisors M S a ++ expr_divisors M S b)
expr_divisors M S e = []

abbrev pub range_divisors : ℕ → Family → Range → List ℤ
range_divisors M S (Span a b) = expr_divisors M S a ++ expr_divisors M S b
range_divisors M S (One t) = expr_divisors M S t
range_divisors M S (Dom y) = []
range_divisors M S (Union r q) = range_divisors M S r ++ range_divisors M S q
range_divisors M S (Inter r q) = range_divisors M S r ++ range_divisors M S q
range_divisors M S (Outside r) = range_divisors M S r
range_divisors M S (Plus r c) = range_divisors M S r ++ expr_divisors M S c
range_divisors M S (Minus r c) = range_divisors M S r ++ expr_divisors M S c
range_divisors M S (Times r c) = range_divisors M S r ++ expr_divisors M S c
range_divisors M S (Over r c) = range_divisors M S r ++ (value M S c ∷ [])
