use Rattle.std.proofs.Common.{ℕ, ◌<◌, get_or, All}
use Rattle.listing_reader.specs.NumberBounds.{IsSmallKey, IsNumber}
use Rattle.held_code.proofs.code.hold_tables.Given as goal

abbrev pub invariant-loop-index : goal.invariant-loop-index
invariant-loop-index l = (k : ℕ) (d : _) → k < l.index → All (λ row. IsSmallKey row.0 × IsNumber row.1) (get_or l.tables k d).items
