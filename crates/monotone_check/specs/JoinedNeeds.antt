-- Needs, put together place by place.
use Rattle.std.specs.Prelude.{ℕ, ◌==◌, if◌then◌else◌, List, [], ◌∷◌}
use Rattle.fd_language.specs.declared.range_node.Need.{Need}
use Rattle.fd_language.specs.Needs.{stronger}

-- one more place: its need joins those of the parameter, or stands at the end
abbrev pub put : List (ℕ × Need) → ℕ → Need → List (ℕ × Need)
put [] x n = (x, n) ∷ []
put (d ∷ ds) x n = if d.0 == x then (d.0, stronger d.1 n) ∷ ds else d ∷ put ds x n

abbrev pub put_all : List (ℕ × Need) → List (ℕ × Need) → List (ℕ × Need)
put_all ds [] = ds
put_all ds (c ∷ cs) = put_all (put ds c.0 c.1) cs
