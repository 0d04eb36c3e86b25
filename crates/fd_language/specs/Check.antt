-- The direction table, on trees and without places.
use Rattle.std.specs.Prelude.{ℕ, Bool, true, false, ◌||◌, ◌&&◌, not, if◌then◌else◌, ℤ, pos, negsuc, int_le, []}
use Rattle.fd_language.specs.Range.{Expr, Number, Param, Min, Max, Val, Add, Sub, Mul, DivDown, DivUp, Range, Span, One, Dom, Union, Inter, Outside, Plus}
use Rattle.fd_language.specs.Range.{Minus, Times, Over, value}
use Rattle.fd_language.specs.Needs.{is_literal}
use Rattle.fd_language.specs.NewLeaves.{NewLeaves, new_expr, new_range}

pub data Wish : Type 0 where
  Rising Falling Constant : Wish

abbrev pub turn : Wish → Wish
turn Rising = Falling
turn Falling = Rising
turn Constant = Constant

abbrev pub is_rising : Wish → Bool
is_rising Rising = true
is_rising _ = false

abbrev pub is_falling : Wish → Bool
is_falling Falling = true
is_falling _ = false

-- the value of a literal, which no family changes
abbrev pub literal_value : ℕ → Expr → ℤ
literal_value M e = value M (λ y. []) e

abbrev pub by_sign : ℤ → Bool → Bool → Bool
by_sign (pos n) x y = x
by_sign (negsuc n) x y = y

abbrev pub is_parameter : Expr → Bool
is_parameter (Param x) = true
is_parameter _ = false

-- no difference outside literals, and no literal below 0
abbrev pub is_natural : ℕ → Expr → Bool
is_natural M (Number z) = int_le (pos 0) z
is_natural M (Add a b) = if is_literal a && is_literal b then int_le (pos 0) (literal_value M (Add a b)) else is_natural M a && is_natural M b
is_natural M (Sub a b) = if is_literal a && is_literal b then int_le (pos 0) (literal_value M (Sub a b)) else false
is_natural M (Mul a b) = if is_literal a && is_literal b then int_le (pos 0) (literal_value M (Mul a b)) else is_natural M a && is_natural M b
is_natural M (DivDown a b) = is_natural M a && is_natural M b
is_natural M (DivUp a b) = is_natural M a && is_natural M b
is_natural M e = true

-- a quotient: by a literal, by a parameter alone, and by another term
abbrev pub quotient_fits : ℕ → Expr → Bool → Bool → Bool → Bool
quotient_fits M b plain turned natural =
    if is_literal b then int_le (pos 1) (literal_value M b) && plain else
    if is_parameter b then plain else natural && (plain && turned)

abbrev pub expr_fits : ℕ → Expr → Wish → Bool
expr_fits M (Min y) w = is_rising w
expr_fits M (Max y) w = is_falling w
expr_fits M (Add a b) w = expr_fits M a w && expr_fits M b w
expr_fits M (Sub a b) w = expr_fits M a w && expr_fits M b (turn w)
expr_fits M (Mul a b) w =
    if is_literal a then by_sign (literal_value M a) (expr_fits M b w) (expr_fits M b (turn w)) else
    if is_literal b then by_sign (literal_value M b) (expr_fits M a w) (expr_fits M a (turn w)) else
    (is_natural M a && is_natural M b) && (expr_fits M a w && expr_fits M b w)
expr_fits M (DivDown a b) w = quotient_fits M b (expr_fits M a w) (expr_fits M b (turn w)) (is_natural M a && is_natural M b)
expr_fits M (DivUp a b) w = quotient_fits M b (expr_fits M a w) (expr_fits M b (turn w)) (is_natural M a && is_natural M b)
expr_fits M e w = true

-- shrinking at true, growing at false
abbrev pub range_fits : ℕ → Range → Bool → Bool
range_fits M (Span a b) true = expr_fits M a Rising && expr_fits M b Falling
range_fits M (Span a b) false = expr_fits M a Falling && expr_fits M b Rising
range_fits M (One t) w = expr_fits M t Constant
range_fits M (Dom y) w = w
range_fits M (Union r q) w = range_fits M r w && range_fits M q w
range_fits M (Inter r q) w = range_fits M r w && range_fits M q w
range_fits M (Outside r) w = range_fits M r (not w)
range_fits M (Plus r c) w = range_fits M r w && expr_fits M c Constant
range_fits M (Minus r c) w = range_fits M r w && expr_fits M c Constant
range_fits M (Times r c) w = range_fits M r w && expr_fits M c Constant
range_fits M (Over r c) w = range_fits M r w && (is_parameter c || (is_literal c && int_le (pos 1) (literal_value M c)))

-- each parameter replaced by its integer
abbrev pub filling : (ℕ → ℤ) → NewLeaves
filling p = record { param = λ x. Number (p x); for_min = λ y. Min y; for_max = λ y. Max y; one_value = λ y. Val y; domain = λ y. y }

abbrev pub fill : (ℕ → ℤ) → Expr → Expr
fill p e = new_expr (filling p) e

abbrev pub fill_range : (ℕ → ℤ) → Range → Range
fill_range p r = new_range (filling p) r
