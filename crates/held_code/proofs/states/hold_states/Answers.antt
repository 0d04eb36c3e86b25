use Rattle.std.proofs.Common.{arith}
use Rattle.std.proofs.lemmas.List.Elements.{All-map}
use Rattle.code_listing.specs.States.{state_of}
use Rattle.listing_reader.specs.NumberBounds.{IsSmallState}
use Rattle.held_code.proofs.states.hold_states.Goals as goal

pub returns : goal.returns
returns c = All-map IsSmallState state_of c.args.states.now (λ k d h. c.loop-index.invariant k d (omega arith))
