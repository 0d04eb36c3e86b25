-- Atoms and rows as they stand in a line.
use Rattle.std.specs.Prelude.{ℕ}
use Rattle.term_pool.specs.declared.AtomId.{AtomId}
use Rattle.listing_reader.specs.NumberBounds.{IsNumber}

-- an atom with a number of a type's size
abbrev pub IsSmallAtom : AtomId → Type 0
IsSmallAtom c = IsNumber c.number
