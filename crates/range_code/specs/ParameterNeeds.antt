-- The needs of parameters, found by their variables.
use Rattle.std.specs.Prelude.{ℕ, ◌==◌, if◌then◌else◌, List, [], ◌∷◌, Option, Some, None}
use Rattle.fd_language.specs.declared.range_node.Need.{Need}

abbrev pub unless_found : Option Need → Option Need → Option Need
unless_found (Some n) m = Some n
unless_found None m = m

-- the need of the variable in the list
abbrev pub need_in : List (ℕ × Need) → ℕ → Option Need
need_in [] y = None
need_in (d ∷ ds) y = unless_found (need_in ds y) (if d.0 == y then Some d.1 else None)
