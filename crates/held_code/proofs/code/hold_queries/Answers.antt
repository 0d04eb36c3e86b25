use Rattle.std.proofs.Common.{arith}
use Rattle.std.proofs.lemmas.List.Elements.{All-map}
use Rattle.wam_code.specs.Area.{span_of}
use Rattle.listing_reader.specs.NumberBounds.{IsSmallSpan}
use Rattle.held_code.proofs.code.hold_queries.Goals as goal

pub returns-clause-numbers : goal.returns-clause-numbers
returns-clause-numbers c = All-map IsSmallSpan span_of c.args.queries.now (λ k d h. c.loop-index.invariant k d (omega arith))
