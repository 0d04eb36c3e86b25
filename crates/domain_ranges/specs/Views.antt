-- The sets of a view, one for each variable.
use Rattle.std.specs.Prelude.{List, ℕ, slice_index_or}
use Rattle.fd_language.specs.declared.TheConstants.{INFINITY}
use Rattle.fd_language.specs.Family.{Family, universe}

-- as a family
abbrev pub family_of : List (List ℕ) → Family
family_of sets k = slice_index_or sets k (universe INFINITY)
