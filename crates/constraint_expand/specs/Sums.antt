-- The rows of sums that are at most their constants.
use Rattle.std.specs.Prelude.{◌≡◌, suc, ◌<◌, List, [], ◌++◌, length, map, drop}
use Rattle.fd_language.specs.Range.{Indexical}
use Rattle.fd_model.specs.Linear as linear
use Rattle.fd_model.specs.Splitting.{sum_rows}
use Rattle.linear_forms.specs.LinearForm.{form_of}
use Rattle.linear_forms.specs.IntegerSums.{IsInside}
use Rattle.fd_language.specs.Lists.{Each}
use Rattle.constraint_expand.specs.declared.sums.Sums.{Sums}
use Rattle.constraint_expand.specs.Pieces.{rows_ahead, AreReady}
use Rattle.constraint_expand.specs.Posts.{Accepted}

-- the forms whose rows have not been made
abbrev pub forms_ahead : Sums → List linear.Linear
forms_ahead s = map form_of (drop s.next s.forms.items)

abbrev pub sums_ahead : Sums → List Indexical
sums_ahead s = rows_ahead s.current ++ sum_rows (forms_ahead s)

-- the rows can be given
pub record AreReadySums (s : Sums) : Type 0 where
  pub current : AreReady s.current
  pub inside : Each IsInside (forms_ahead s)
  pub accepted : Accepted (sum_rows (forms_ahead s))

-- there is a next sum, and no row is left of the one before
pub record IsLoadable (s : Sums) : Type 0 where
  pub more : s.next < length s.forms.items
  pub over : rows_ahead s.current ≡ []

pub record Loads (old new : Sums) : Type 0 where
  pub forms : new.forms ≡ old.forms
  pub next : new.next ≡ suc old.next
  pub ahead : sums_ahead new ≡ sums_ahead old
