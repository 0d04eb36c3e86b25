-- How the fields of a pool are seen.
use Rattle.std.specs.Prelude.{◌≡◌, ℕ, ◌+◌, ◌≤◌, List, ◌++◌, length, take, drop, slice_get, Some, map}
use Rattle.fd_language.specs.Term.{Name}
use Rattle.term_pool.specs.declared.TermId.{TermId}
use Rattle.term_pool.specs.declared.Stored.{Stored}
use Rattle.term_pool.specs.declared.Stored.TheVariants as stored
use Rattle.term_pool.specs.declared.Placed.{Placed}
use Rattle.term_pool.specs.Contents.{Shape, var, int, atom, comp, Entry}
use Rattle.term_pool.specs.PoolInvariant.{IsPool}

-- a stored node, whose parts stand in the list of all parts
abbrev pub stored_shape : List TermId → Stored → Shape
stored_shape parts (stored.Var x) = var x
stored_shape parts (stored.Int z) = int z
stored_shape parts (stored.Atom a) = atom a
stored_shape parts (stored.Comp f from count) = comp f (take count (drop from parts))

-- a stored node with its place, and all of them
abbrev pub entry_of : List TermId → Placed → Entry
entry_of parts n = record { shape = stored_shape parts n.node; place = n.place }

abbrev pub entries_of : List TermId → List Placed → List Entry
entries_of parts nodes = map (entry_of parts) nodes

-- the parts of a stored node are all there
abbrev pub HasParts : ℕ → Stored → Type 0
HasParts n (stored.Var x) = Unit {0}
HasParts n (stored.Int z) = Unit {0}
HasParts n (stored.Atom a) = Unit {0}
HasParts n (stored.Comp f from count) = from + count ≤ n

-- what holds of the fields of every pool
pub record AreStored (names : List Name) (parts : List TermId) (nodes : List Placed) : Type 0 where
  pub pool : IsPool (record { names = names; entries = entries_of parts nodes })
  pub held : (i : ℕ) (n : Placed) → slice_get nodes i ≡ Some n → HasParts (length parts) n.node

-- new begins with old
abbrev pub Grows : List TermId → List TermId → Type 0
Grows old new = (more : List TermId) × (new ≡ old ++ more)
