-- Where code is, seen from its queries and from its end.
use Rattle.std.specs.Prelude.{ℕ, ◌-◌, List, length, None}
use Rattle.wam_code.specs.Area.{State, Span, Area, HasQuery}
use Rattle.wam_code.specs.VerifiedCode.{IsIn}

-- the place belongs to no query
abbrev pub IsOutside : Area → ℕ → Type 0
IsOutside a at = (n : ℕ) (q : Span) → HasQuery a n q → ¬ IsIn q at

-- how far the place is from the code's end
abbrev pub distance : Area → ℕ → ℕ
distance a at = length a.code - at

-- a predicate's or a query's first state: these registers, no frame, nothing owed
abbrev pub begun : List ℕ → State
begun regs = record { regs = regs; frame = None; owed = 0 }
