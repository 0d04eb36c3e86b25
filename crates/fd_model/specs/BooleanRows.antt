-- The ranges of `fd_and`, `fd_or` and `fd_not`.
use Rattle.std.specs.Prelude.{ℕ, pos, List, [], ◌∷◌}
use Rattle.fd_language.specs.Range.{Range, Span, Inter, Expr, Number, Min, Max, Add, Sub, DivUp, Indexical}
use Rattle.fd_model.specs.ProductRows.{product}

abbrev pub zero : Expr
zero = Number (pos 0)

abbrev pub one : Expr
one = Number (pos 1)

-- 0 or 1
abbrev pub bit : ℕ → Indexical
bit x = record { target = x; range = Span zero one }

-- at least z, and at most z and one more less y
abbrev pub conjunct : ℕ → ℕ → Range
conjunct z y = Span (Min z) (Sub (Add (Max z) one) (Min y))

-- z is 1 where both are 1, and else 0
abbrev pub and_ranges : ℕ → ℕ → ℕ → List Indexical
and_ranges x y z =
    bit x
    ∷ bit y
    ∷ record { target = z; range = product x y }
    ∷ record { target = x; range = conjunct z y }
    ∷ record { target = y; range = conjunct z x }
    ∷ []

-- half of the sum rounded up, to the sum
abbrev pub disjunction : ℕ → ℕ → Range
disjunction x y = Inter (Span (DivUp (Add (Min x) (Min y)) (Number (pos 2))) (Add (Max x) (Max y))) (Span zero one)

-- at least z less y, and at most z
abbrev pub disjunct : ℕ → ℕ → Range
disjunct z y = Span (Sub (Min z) (Max y)) (Max z)

-- z is 0 where both are 0, and else 1
abbrev pub or_ranges : ℕ → ℕ → ℕ → List Indexical
or_ranges x y z =
    bit x
    ∷ bit y
    ∷ record { target = z; range = disjunction x y }
    ∷ record { target = x; range = disjunct z y }
    ∷ record { target = y; range = disjunct z x }
    ∷ []

-- 1 less y
abbrev pub negation : ℕ → Range
negation y = Span (Sub one (Max y)) (Sub one (Min y))

-- x and y are 1 together
abbrev pub not_ranges : ℕ → ℕ → List Indexical
not_ranges x y = record { target = x; range = negation y } ∷ record { target = y; range = negation x } ∷ []
