-- The occurrences of variables in a range.
use Rattle.std.specs.Prelude.{ℕ, Bool, List, [], ◌∷◌}
use Rattle.fd_language.specs.Range.{Range, Expr, Leaf, is_parameter_role, from_expr, from_range}

-- a variable that stands in a range, and whether it stands there as a parameter
pub record Occurrence : Type 0 where
  pub variable : ℕ
  pub parameter : Bool

abbrev pub one_occurrence : ℕ → Bool → List Occurrence
one_occurrence y p = record { variable = y; parameter = p } ∷ []

abbrev pub occurrence_at : Leaf → List Occurrence
occurrence_at l = one_occurrence l.variable (is_parameter_role l.role)

-- the occurrences in text order: one for each leaf that names a variable
abbrev pub expr_occurrences : Expr → List Occurrence
expr_occurrences t = from_expr occurrence_at t

abbrev pub range_occurrences : Range → List Occurrence
range_occurrences r = from_range occurrence_at r
