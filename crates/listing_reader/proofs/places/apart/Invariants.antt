use Rattle.std.proofs.Common.{◌≡◌, map}
use Rattle.code_listing.specs.States.{states_of}
use Rattle.listing_reader.specs.TableNumbers.{codes_of, states_in, tables_of}
use Rattle.listing_reader.specs.Places.{place_in}
use Rattle.listing_reader.proofs.places.apart.Given as goal

abbrev pub invariant-loop-place : goal.invariant-loop-place
invariant-loop-place l = record {
  states : states_of l.states.items ≡ states_in (map place_in l.yielded);
  code : l.code.items ≡ codes_of 0 (map place_in l.yielded);
  tables : map (λ t. t.items) l.tables.items ≡ tables_of (map place_in l.yielded);
}
