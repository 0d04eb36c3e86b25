-- The query whose code a machine is in.
use Rattle.std.specs.Prelude.{ℕ, List, [], ◌∷◌}
use Rattle.wam_code.specs.Area.{Span, Area, HasQuery}
use Rattle.wam_code.specs.VerifiedCode.{IsIn}
use Rattle.code_areas.specs.Areas.{Return, Contents}
use Rattle.code_safety.specs.declared.instruction_outcomes.Went.{Went}
use Rattle.code_safety.specs.declared.instruction_outcomes.Went.TheVariants.{On, Back}

-- the place is one of the query with a number
abbrev pub IsInQuery : Area → ℕ → ℕ → Type 0
IsInQuery area number at = (span : Span) × HasQuery area number span × IsIn span at

-- each query that has the place at has the place to, too
abbrev pub StaysInside : Area → ℕ → ℕ → Type 0
StaysInside area at to = (number : ℕ) → IsInQuery area number at → IsInQuery area number to

-- When all its calls have returned, a machine at the place is in the query with a number.
abbrev pub EndsIn : Area → ℕ → ℕ → List Return → Type 0
EndsIn area number at [] = IsInQuery area number at
EndsIn area number at (r ∷ rs) = EndsIn area number r.to rs

-- A machine that ends in a query from the place at ends in it from the place to.
abbrev pub KeepsQuery : Area → ℕ → Contents → ℕ → Contents → Type 0
KeepsQuery area at c to c' = (number : ℕ) → EndsIn area number at c.returns → EndsIn area number to c'.returns

-- so it does where an instruction leads
abbrev pub KeepsQueryThen : Area → ℕ → Contents → Contents → Went → Type 0
KeepsQueryThen area at c c' (On to) = KeepsQuery area at c to c'
KeepsQueryThen area at c c' Back = Unit {0}
