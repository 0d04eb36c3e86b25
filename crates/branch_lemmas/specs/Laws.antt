-- The statements of the laws.
use Rattle.std.specs.Prelude.{◌≡◌, ◌<◌, List, length}
use Rattle.fd_language.specs.Term.{Name}
use Rattle.term_pool.specs.declared.AtomId.{AtomId}
use Rattle.term_pool.specs.Contents.{name_in}
use Rattle.term_pool.specs.PoolInvariant.{AreDistinct}
use Rattle.heap_cells.specs.declared.Cell.{Cell}
use Rattle.heap_cells.specs.Cells.{Cells}
use Rattle.heap_cells.specs.Terms.{Naming, IsOneToOne}
use Rattle.unify_core.specs.declared.Touch.{Touch}
use Rattle.unify_core.specs.Unifications as core
use Rattle.unify_core.specs.Unifications.{cells_equal}
use Rattle.branch_meaning.specs.Store.{IsUnified}
use Rattle.branch_lemmas.specs.Frames.{link_in, store_touches}
use Rattle.branch_lemmas.specs.AtomNames.{full}

-- A unification of two cells gives the machine relation's: its unifier, the links that are left, and the touches.
abbrev pub UnifiedIsGeneral : Type 0
UnifiedIsGeneral =
    (name : Naming) (old now : Cells) (a b : Cell) (ts : List Touch)
    (u : core.IsUnified name old a b now ts)
    → IsUnified (length old.slots) (link_in old) (cells_equal name old a b) u.unifier (link_in now)
    (store_touches ts)

-- The names of a pool can be told apart, and so can those of all other atoms.
abbrev pub FullNames : Type 0
FullNames = (names : List Name) → AreDistinct names → IsOneToOne (full names)
    × ((a : AtomId) → a.number < length names → full names a ≡ name_in names a)
