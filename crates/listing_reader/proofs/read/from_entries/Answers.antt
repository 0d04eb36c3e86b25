use Rattle.std.proofs.Common.{rules, ◌≡◌, ◌∙◌, ◌⊎◌, inl, inr, ◌+◌, ◌-◌, ◌<◌, ◌≤◌, suc, Bor, Global, Vec, List, [], ◌++◌, ℕ, All, ap, codes, drop, length, map}
use Rattle.std.proofs.Common.{refl, string_bytes, subst, sym, take, arith}
use Rattle.std.specs.Str.{IsUtf8}
use Rattle.std.proofs.lemmas.List.{length-map}
use Rattle.fd_language.specs.TermTexts.{Quoted, atom_text}
use Rattle.fd_language.specs.declared.range_node.RangeNode.{RangeNode}
use Rattle.wam_code.specs.Area.{span_of}
use Rattle.code_listing.specs.Listing.{counted}
use Rattle.code_listing.specs.Texts.{entry_text, nodes_text, span_text}
use Rattle.listing_reader.specs.NumberBounds.{HasSize, IsSmallEntry, IsSmallSpan}
use Rattle.listing_reader.specs.Lists.{FitsPlace, placed_text}
use Rattle.listing_reader.specs.Places.{place_in}
use Rattle.listing_reader.specs.Sections.{FromAtoms, FromEntries, FromQueries, FromRanges, IsPlaces, TellsEntries, TellsPlaces, TellsQueries, TellsRanges}
use Rattle.listing_reader.specs.LineContents.{TellsBehind, places_in}
use Rattle.listing_reader.proofs.SectionLoops.{empty_entries, empty_places, empty_queries, empty_ranges, left_behind, left_end, left_first, left_head}
use Rattle.listing_reader.proofs.SectionLoops.{left_last, left_then, section_long, told_end, told_then}
use Rattle.listing_reader.proofs.read.from_entries.Goals as goal

abbrev now : Bor (List ℕ) → List ℕ
now w = w.now

pub returns-in_err-entries-clause-fault : goal.returns-in_err-entries-clause-fault
returns-in_err-entries-clause-fault c =
    let h = left_first (codes "entries") IsSmallEntry entry_text FromQueries (counted (codes "queries") [] ++ counted (codes "code") []) empty_queries
    (map now c.args.lines.now) c.args.rest.now c.args.at c.in_err-entries.field-0.0 c.in_err-entries.ensures.fault in search rules

pub returns-in_err-queries-clause-fault : goal.returns-in_err-queries-clause-fault
returns-in_err-queries-clause-fault c =
    let l : c.len-size.result ≡ length c.in_ok-entries.entries.items = search rules in
    let size : c.len-size.result + 1 ≡ suc (length c.in_ok-entries.entries.items) = omega (arith, l) in
    let h = left_then now (codes "entries") IsSmallEntry entry_text c.args.lines.now c.in_ok-entries.entries.items c.in_ok-entries.ensures.told FromQueries
    c.args.rest.now (c.len-size.result + 1) c.args.at size c.in_err-queries.field-0.0 c.in_err-queries.ensures.fault in search rules

pub returns-clause-told : goal.returns-clause-told
returns-clause-told c =
    let l : c.len-size.result ≡ length c.in_ok-entries.entries.items = search rules in
    let size : c.len-size.result + 1 ≡ suc (length c.in_ok-entries.entries.items) = omega (arith, l) in
    let t = c.in_ok-queries.ensures.told in (
      told_then now (codes "entries") IsSmallEntry entry_text c.args.lines.now c.in_ok-entries.entries.items c.in_ok-entries.ensures.told
          (TellsQueries (map span_of c.in_ok-queries.queries.items) (map place_in c.in_ok-queries.places.items)) (c.len-size.result + 1) size t.0,
      t.1,
    )
