-- Places as they are kept.
use Rattle.std.specs.Prelude.{◌≡◌, List, map}
use Rattle.code_listing.specs.States.{state_of, states_of}
use Rattle.listing_reader.specs.declared.places.Parts.{Parts}
use Rattle.listing_reader.specs.declared.places.Place.{Place}
use Rattle.listing_reader.specs.Lists.{Placed}
use Rattle.listing_reader.specs.TableNumbers.{codes_of, states_in, tables_of}

abbrev pub place_in : Place → Placed
place_in p = (state_of p.state, (p.code, p.rows.items))

-- the parts of these places
pub record AreParts (ps : List Placed) (parts : Parts) : Type 0 where
  pub states : states_of parts.states.items ≡ states_in ps
  pub code : parts.code.items ≡ codes_of 0 ps
  pub tables : map (λ t. t.items) parts.tables.items ≡ tables_of ps
