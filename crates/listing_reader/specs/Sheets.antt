-- What is read, as contracts see it.
use Rattle.std.specs.Prelude.{map, string_bytes}
use Rattle.wam_code.specs.Area.{span_of}
use Rattle.code_listing.specs.Listing as listing
use Rattle.code_listing.specs.States.{states_of}
use Rattle.listing_reader.specs.declared.sheet.Sheet.{Sheet}

-- what a sheet tells
abbrev pub sheet_in : Sheet → listing.Sheet
sheet_in s = record {
  atoms = map string_bytes s.atoms.items;
  ranges = map (λ r. r.items) s.ranges.items;
  entries = s.entries.items;
  queries = map span_of s.queries.items;
  tables = map (λ t. t.items) s.tables.items;
  states = states_of s.states.items;
  code = s.code.items;
}
