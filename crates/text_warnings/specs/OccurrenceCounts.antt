-- How often a variable was met, and where.
use Rattle.std.specs.Prelude.{◌≡◌, ℕ, ◌<◌, List, [], ◌∷◌, length, slice_index_or, if◌then◌else◌}
use Rattle.fd_language.specs.PlacedTerm.{PlacedTerm}
use Rattle.fd_language.specs.Term.{Name}
use Rattle.fd_model.specs.Queries.{is_shown}
use Rattle.text_warnings.specs.Warnings.{Warning, warning, single, places_of}
use Rattle.text_warnings.specs.declared.singleton_variables.Met.{Met}
use Rattle.text_warnings.specs.declared.singleton_variables.Met.TheVariants.{Never, Once, Often}

-- at these places
abbrev pub met_at : List ℕ → Met
met_at [] = Never
met_at (p ∷ []) = Once p
met_at (p ∷ q ∷ ps) = Often

-- at the places of two lists
abbrev pub joined : Met → Met → Met
joined Never n = n
joined (Once p) Never = Once p
joined (Once p) (Once q) = Often
joined (Once p) Often = Often
joined Often n = Often

-- each variable was met as before, and at its places in the term
abbrev pub AreMet : PlacedTerm → List Met → List Met → Type 0
AreMet t old new = (n : ℕ) → n < length old → slice_index_or new n Never ≡ joined (slice_index_or old n Never) (met_at (places_of n t))

-- each variable was met at its places in the term
abbrev pub AreMetIn : PlacedTerm → List Met → Type 0
AreMetIn t met = (n : ℕ) → n < length met → slice_index_or met n Never ≡ met_at (places_of n t)

-- the warning of a variable with this name that was met so often
abbrev pub single_met : Name → Met → List Warning
single_met name Never = []
single_met name (Once p) = if is_shown name then warning p (single name) ∷ [] else []
single_met name Often = []
