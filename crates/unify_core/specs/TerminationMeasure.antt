-- A number that falls with each pair that is worked off.
use Rattle.std.specs.Prelude.{ℕ, zero, suc, ◌+◌, ◌*◌, ◌-◌, List, [], ◌∷◌, length}
use Rattle.term_pool.specs.Terms.{size}
use Rattle.heap_cells.specs.Cells.{Cells}
use Rattle.heap_cells.specs.Terms.{Naming, term_of}
use Rattle.heap_cells.specs.HeapInvariant.{bound_in}
use Rattle.unify_core.specs.declared.Pair.{Pair}

-- all atoms have one name
abbrev pub unnamed : Naming
unnamed a = []

-- the sizes of the terms together
abbrev pub weight : Cells → List Pair → ℕ
weight h [] = 0
weight h (p ∷ ps) = size (term_of unnamed h p.left) + size (term_of unnamed h p.right) + weight h ps

-- n squared so often
abbrev pub squared : ℕ → ℕ → ℕ
squared zero n = n
squared (suc k) n = squared k (n * n)

-- A binding squares the sizes at most, and there is one variable less to bind.
unfoldable pub effort : Cells → List Pair → ℕ
effort h ps = squared (length h.slots - bound_in h.slots) (weight h ps)
