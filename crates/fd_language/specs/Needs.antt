-- The needs of a range's parameters, and the integers that meet them.
use Rattle.std.specs.Prelude.{ℕ, ◌^◌, Bool, true, false, ◌||◌, ◌&&◌, not, ◌==◌, if◌then◌else◌, ℤ, pos, int_le, nat_lt, nat_abs, List, [], ◌∷◌, ◌++◌, map}
use Rattle.std.specs.Prelude.{filter}
use Rattle.std.specs.List.{list_all}
use Rattle.fd_language.specs.declared.range_node.Need.{Need}
use Rattle.fd_language.specs.declared.range_node.Need.TheVariants.{Whole, Natural, Divisor}
use Rattle.fd_language.specs.Range.{Range, Span, One, Dom, Union, Inter, Outside, Plus, Minus, Times, Over, Expr, Number, Infinity, Param, Add, Sub, Mul}
use Rattle.fd_language.specs.Range.{DivDown, DivUp}

-- Whether an integer meets a need. Each need asks for a magnitude of at most 2^63 - 1.
abbrev pub meets : Need → ℤ → Bool
meets Whole z = nat_lt (nat_abs z) (2 ^ 63)
meets Natural z = nat_lt (nat_abs z) (2 ^ 63) && int_le (pos 0) z
meets Divisor z = nat_lt (nat_abs z) (2 ^ 63) && int_le (pos 1) z

-- a term made of integers, infinity, sums, differences and products alone
abbrev pub is_literal : Expr → Bool
is_literal (Number z) = true
is_literal Infinity = true
is_literal (Add a b) = is_literal a && is_literal b
is_literal (Sub a b) = is_literal a && is_literal b
is_literal (Mul a b) = is_literal a && is_literal b
is_literal e = false

-- the need of a parameter inside a natural term, and outside
abbrev pub by_place : Bool → Need
by_place true = Natural
by_place false = Whole

-- What is asked for at each place of a parameter, from left to right. A divisor that is no literal is a parameter alone, or it makes both operands natural.
abbrev pub quotient_asks : Expr → List (ℕ × Need) → List (ℕ × Need) → List (ℕ × Need) → List (ℕ × Need)
quotient_asks (Param x) plain left right = plain ++ (x, Divisor) ∷ []
quotient_asks b plain left right = if is_literal b then plain else left ++ right

abbrev pub expr_asks : Expr → Bool → List (ℕ × Need)
expr_asks (Param x) natural = (x, by_place natural) ∷ []
expr_asks (Add a b) natural = expr_asks a natural ++ expr_asks b natural
expr_asks (Sub a b) natural = expr_asks a natural ++ expr_asks b natural
expr_asks (Mul a b) natural =
    if is_literal a || is_literal b then expr_asks a natural ++ expr_asks b natural else expr_asks a true ++ expr_asks b true
expr_asks (DivDown a b) natural = quotient_asks b (expr_asks a natural) (expr_asks a true) (expr_asks b true)
expr_asks (DivUp a b) natural = quotient_asks b (expr_asks a natural) (expr_asks a true) (expr_asks b true)
expr_asks e natural = []

abbrev pub over_asks : Expr → List (ℕ × Need)
over_asks (Param x) = (x, Divisor) ∷ []
over_asks c = expr_asks c false

abbrev pub asks : Range → List (ℕ × Need)
asks (Span a b) = expr_asks a false ++ expr_asks b false
asks (One t) = expr_asks t false
asks (Dom y) = []
asks (Union r q) = asks r ++ asks q
asks (Inter r q) = asks r ++ asks q
asks (Outside r) = asks r
asks (Plus r c) = asks r ++ expr_asks c false
asks (Minus r c) = asks r ++ expr_asks c false
asks (Times r c) = asks r ++ expr_asks c false
asks (Over r c) = asks r ++ over_asks c

-- Divisor is stronger than Natural, and Natural than Whole
abbrev pub stronger : Need → Need → Need
stronger Whole n = n
stronger Natural Whole = Natural
stronger Natural Natural = Natural
stronger Natural Divisor = Divisor
stronger Divisor n = Divisor

-- the strongest need of those that are asked of the parameter x
abbrev pub strongest : List (ℕ × Need) → ℕ → Need
strongest [] x = Whole
strongest (d ∷ ds) x = if d.0 == x then stronger d.1 (strongest ds x) else strongest ds x

-- each number once, in the order of first occurrence
abbrev pub once : List ℕ → List ℕ
once [] = []
once (x ∷ xs) = x ∷ filter (λ y. not (y == x)) (once xs)

-- the parameters in the order of first occurrence
abbrev pub parameters : Range → List ℕ
parameters r = once (map (λ d. d.0) (asks r))

abbrev pub need_of : Range → ℕ → Need
need_of r x = strongest (asks r) x

-- each parameter with its need
abbrev pub needs : Range → List (ℕ × Need)
needs r = map (λ x. (x, need_of r x)) (parameters r)

-- the integers of the parameters meet the needs of the range
abbrev pub meets_needs : (ℕ → ℤ) → Range → Bool
meets_needs p r = list_all (λ d. meets d.1 (p d.0)) (needs r)
