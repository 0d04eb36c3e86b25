-- Ranges with other variables.
use Rattle.std.specs.Prelude.{ℕ}
use Rattle.fd_language.specs.Range.{Range, Expr, Param, Min, Max, Val, Indexical}
use Rattle.fd_language.specs.NewLeaves.{NewLeaves, new_expr, new_range}

-- each leaf names the variable that f gives
abbrev pub renaming : (ℕ → ℕ) → NewLeaves
renaming f = record { param = λ x. Param (f x); for_min = λ y. Min (f y); for_max = λ y. Max (f y); one_value = λ y. Val (f y); domain = λ y. f y }

abbrev pub rename_expr : (ℕ → ℕ) → Expr → Expr
rename_expr f e = new_expr (renaming f) e

abbrev pub rename_range : (ℕ → ℕ) → Range → Range
rename_range f r = new_range (renaming f) r

abbrev pub rename_indexical : (ℕ → ℕ) → Indexical → Indexical
rename_indexical f p = record { target = f p.target; range = rename_range f p.range }
