use Rattle.std.proofs.Common.{All, arith}
use Rattle.std.proofs.lemmas.List.Elements.{All-map}
use Rattle.listing_reader.specs.NumberBounds.{IsSmallKey, IsNumber}
use Rattle.held_code.proofs.code.hold_tables.Goals as goal

pub returns : goal.returns
returns c = All-map (All (λ row. IsSmallKey row.0 × IsNumber row.1)) (λ t. t.items) c.args.tables.now (λ k d h. c.loop-index.invariant k d (omega arith))
