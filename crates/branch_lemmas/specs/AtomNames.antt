-- Names for all atoms: those of a pool, and others for atoms that aren't there.
use Rattle.std.specs.Prelude.{ℕ, zero, suc, ◌+◌, nat_lt, if◌then◌else◌, List, [], ◌∷◌, length, sum_by}
use Rattle.fd_language.specs.Term.{Name}
use Rattle.term_pool.specs.Contents.{name_in}
use Rattle.heap_cells.specs.Terms.{Naming}

abbrev pub zeros : ℕ → Name
zeros zero = []
zeros (suc n) = 0 ∷ zeros n

-- an atom that isn't of the pool has a name that is longer than all of the pool's
abbrev pub full : List Name → Naming
full names a = if nat_lt a.number (length names) then name_in names a
    else zeros (suc (sum_by length names + a.number))
