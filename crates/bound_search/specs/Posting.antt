-- The ranges by which a variable gets a value, and the cost a bound.
use Rattle.std.specs.Prelude.{Bool, true, false, ℤ, pos, nat_abs, ◌<◌, ◌+ℤ◌, ◌-ℤ◌, ℕ, List, [], ◌∷◌, ◌++◌}
use Rattle.fd_language.specs.declared.TheConstants.{INFINITY}
use Rattle.fd_language.specs.Range.{Range, Indexical, Span, Number, Param}

-- the variable gets the integer of the parameter
abbrev pub exact_range : Range
exact_range = Span (Param 0) (Param 0)

-- the variable is between the integers of the parameters
abbrev pub between_range : Range
between_range = Span (Param 0) (Param 1)

-- an integer that a parameter may have
abbrev pub IsEnd : ℤ → Type 0
IsEnd z = nat_abs z < 9223372036854775808

-- x is between two integers, too
abbrev pub with_ends : List Indexical → ℕ → ℤ → ℤ → List Indexical
with_ends ps x low high = ps ++ record { target = x; range = Span (Number low) (Number high) } ∷ []

-- the ends of what is better than the cost z: what is below it where the least is wanted, and else what is above it
abbrev pub better_low : Bool → ℤ → ℤ
better_low true z = pos 0
better_low false z = z +ℤ pos 1

abbrev pub better_high : Bool → ℤ → ℤ
better_high true z = z -ℤ pos 1
better_high false z = pos INFINITY

-- x is better than the cost z, too
abbrev pub with_bound : List Indexical → ℕ → Bool → ℤ → List Indexical
with_bound ps x least z = with_ends ps x (better_low least z) (better_high least z)
