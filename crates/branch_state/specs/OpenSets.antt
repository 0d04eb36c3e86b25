-- Variables that the store has for as long as a search takes.
use Rattle.std.specs.Prelude.{ℕ, zero, suc, List, [], ◌∷◌, ◌++◌}
use Rattle.fd_language.specs.declared.TheConstants.{INFINITY}
use Rattle.fd_language.specs.Family.{universe}

-- the sets with those of so many more variables, which may have any value
abbrev pub with_open_sets : ℕ → List (List ℕ) → List (List ℕ)
with_open_sets zero sets = sets
with_open_sets (suc n) sets = with_open_sets n sets ++ universe INFINITY ∷ []
