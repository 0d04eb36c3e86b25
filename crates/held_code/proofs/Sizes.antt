-- What a sheet needs, from what is known of the parts of code.
use Rattle.std.proofs.Common.{◌≡◌, ◌+◌, List, All, IsUtf8, map, drop, length, sym, subst, arith, length-drop}
use Rattle.std.proofs.lemmas.List.{get_or-drop}
use Rattle.fd_language.specs.Term.{Name}
use Rattle.term_pool.specs.PoolInvariant.{IsPool}
use Rattle.code_listing.specs.Listing.{sheet_of}
use Rattle.fd_language.specs.Range.{Range}
use Rattle.fd_language.specs.PostfixRanges.{nodes_of}
use Rattle.range_code.specs.Slots.{in_slots}
use Rattle.wam_code.specs.declared.instruction.Code.{Code}
use Rattle.wam_code.specs.declared.parts.Entry.{Entry}
use Rattle.wam_code.specs.declared.parts.QueryEntry.{QueryEntry}
use Rattle.wam_code.specs.declared.parts.CodeParts.{CodeParts}
use Rattle.wam_code.specs.Area.{State, Table, area_of, span_of}
use Rattle.listing_reader.specs.NumberBounds.{HasSize, HasSizes, IsNumber, IsSmallCode, IsSmallEntry, IsSmallKey, IsSmallSpan, IsSmallState}

-- the atoms that are listed
pub names_listed : (names : List Name) → All IsUtf8 names → All IsUtf8 (drop 3 names)
names_listed names h k d l = let size = length-drop 3 names in subst IsUtf8 (sym (get_or-drop 3 names k d)) (h (3 + k) d (omega (arith, l, size)))

pub count_listed : (names : List Name) → IsNumber (length names) → IsNumber (length (drop 3 names))
count_listed names h = let size = length-drop 3 names in omega (arith, h, size)

-- all of it
pub sizes_of : (p : CodeParts) (ss : List State) → IsPool p.pool → IsNumber (length p.pool.names) → (codes : List Code) → codes ≡ p.code.items
    → All IsSmallCode codes → IsNumber (length codes) → (es : List Entry) → es ≡ p.entries.items → All IsSmallEntry es → IsNumber (length es)
    → (qs : List QueryEntry) → qs ≡ p.queries.items → All IsSmallSpan (map span_of qs) → IsNumber (length (map span_of qs)) → (tables : List Table)
    → tables ≡ (area_of p).tables → All (All (λ row. IsSmallKey row.0 × IsNumber row.1)) tables
    → (rs : List Range) → rs ≡ (area_of p).ranges → All (All HasSize) (map (λ r. nodes_of (in_slots r)) rs)
    → IsNumber (length (map (λ r. nodes_of (in_slots r)) rs)) → All IsSmallState ss → HasSizes (sheet_of (area_of p) ss)
sizes_of p ss pool atoms codes code_is code places es entries_is entries entry_count qs queries_is queries query_count tables tables_is rows rs ranges_is nodes range_count states = record {
  names = names_listed p.pool.names pool.texts;
  nodes = subst (λ (l : List Range). All (All HasSize) (map (λ r. nodes_of (in_slots r)) l)) ranges_is nodes;
  entries = subst (All IsSmallEntry) entries_is entries;
  queries = subst (λ (l : List QueryEntry). All IsSmallSpan (map span_of l)) queries_is queries;
  tables = subst (All (All (λ row. IsSmallKey row.0 × IsNumber row.1))) tables_is rows;
  states = states;
  code = subst (All IsSmallCode) code_is code;
  atom_count = count_listed p.pool.names atoms;
  range_count = subst (λ (l : List Range). IsNumber (length (map (λ r. nodes_of (in_slots r)) l))) ranges_is range_count;
  entry_count = subst (λ (l : List Entry). IsNumber (length l)) entries_is entry_count;
  query_count = subst (λ (l : List QueryEntry). IsNumber (length (map span_of l))) queries_is query_count;
  place_count = subst (λ (l : List Code). IsNumber (length l)) code_is places;
}
