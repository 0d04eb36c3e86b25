use Rattle.std.proofs.Common.{◌≡◌, ◌++◌, take, map}
use Rattle.code_listing.specs.Words.{line_bytes}
use Rattle.code_listing.specs.Listing.{places_text}
use Rattle.code_listing.specs.States.{state_of}
use Rattle.code_listing.proofs.write.put_places.Given as goal

abbrev pub invariant-loop-index : goal.invariant-loop-index
invariant-loop-index l = l.text.items ≡ l.initial.text.items ++ line_bytes (places_text l.area.tables (map state_of (take l.index l.states)) (take l.index l.area.code))
