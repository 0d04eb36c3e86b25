-- All that lines tell, as it is kept until tables have numbers.
use Rattle.std.specs.Prelude.{◌≡◌, ℕ, List, ◌∷◌, map}
use Rattle.fd_language.specs.Term.{Name}
use Rattle.wam_code.specs.Area.{span_of}
use Rattle.code_listing.specs.Listing.{Sheet}
use Rattle.listing_reader.specs.declared.read.Behind.{Behind}
use Rattle.listing_reader.specs.Lists.{Placed}
use Rattle.listing_reader.specs.TableNumbers.{codes_of, states_in, tables_of}
use Rattle.listing_reader.specs.Places.{place_in}
use Rattle.listing_reader.specs.Sections.{TellsAtoms, TellsRanges, first_line}

abbrev pub places_in : Behind → List Placed
places_in b = map place_in b.places.items

abbrev pub TellsBehind : Behind → List (List ℕ) → Type 0
TellsBehind b lines = TellsRanges (map (λ r. r.items) b.ranges.items) b.entries.items (map span_of b.queries.items) (places_in b) lines

abbrev pub TellsAll : List Name → Behind → List (List ℕ) → Type 0
TellsAll names b lines = TellsAtoms names (map (λ r. r.items) b.ranges.items) b.entries.items (map span_of b.queries.items) (places_in b) lines

-- the same, behind the first line
pub record TellsListing (names : List Name) (b : Behind) (lines : List (List ℕ)) : Type 0 where
  pub behind : List (List ℕ)
  pub are : lines ≡ first_line ∷ behind
  pub all : TellsAll names b behind

-- the sheet of it
abbrev pub sheet_of_all : List Name → Behind → Sheet
sheet_of_all names b = record {
  atoms = names;
  ranges = map (λ r. r.items) b.ranges.items;
  entries = b.entries.items;
  queries = map span_of b.queries.items;
  tables = tables_of (places_in b);
  states = states_in (places_in b);
  code = codes_of 0 (places_in b);
}
