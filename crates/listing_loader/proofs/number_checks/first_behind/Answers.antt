use Rattle.std.proofs.Common.{◌≡◌, ◌∙◌, ℕ, map, string_bytes, sym, ap, arith, rules, Vec, Global, Option, Some, None}
use Rattle.std.specs.List.{position}
use Rattle.std.specs.Prelude.{not}
use Rattle.std.proofs.lemmas.List.{length-map}
use Rattle.fd_language.specs.declared.range_node.RangeNode.{RangeNode}
use Rattle.wam_code.specs.declared.instruction.Key.{Key}
use Rattle.wam_code.specs.Area.{span_of}
use Rattle.code_listing.specs.Listing.{table_of}
use Rattle.listing_reader.specs.Sheets.{sheet_in}
use Rattle.listing_loader.specs.Marks.{has_slots_in_order, entry_mark, query_mark, instruction_mark, place_mark, counts_of}
use Rattle.listing_loader.proofs.Sections.{range_exit, entry_exit, query_exit, place_exit, right_exit, seen_by}
use Rattle.listing_loader.proofs.number_checks.first_behind.Goals as goal
use Rattle.listing_loader.proofs.number_checks.first_behind.Goals.{After-first_range, After-first_entry, After-first_query, After-first_place}

-- what the searches found
in_ranges : (c : After-first_range) (o : Option ℕ) → c.first_range.result ≡ o → o ≡ position (λ ns. not (has_slots_in_order ns)) (sheet_in c.args.sheet.now).ranges
in_ranges c o e = seen_by (λ ns. not (has_slots_in_order ns)) (λ (v : Vec RangeNode Global). v.items) c.args.sheet.now.ranges.items c.deref.result.now o
    c.first_range.result c.deref.ensures.value e c.first_range.ensures

in_entries : (c : After-first_entry) (o : Option ℕ) → c.first_entry.result ≡ o → o ≡ position (λ e. not (entry_mark (counts_of (sheet_in c.args.sheet.now)) e)) (sheet_in c.args.sheet.now).entries
in_entries c o e =
    sym e ∙ c.first_entry.ensures ∙ ap (position (λ e. not (entry_mark c.counts_in-counts.result e))) c.deref-2.ensures.value
    ∙ ap (λ n. position (λ e. not (entry_mark n e)) (sheet_in c.args.sheet.now).entries) c.counts_in-counts.ensures

in_queries : (c : After-first_query) (o : Option ℕ) → c.first_query.result ≡ o → o ≡ position (λ q. not (query_mark (counts_of (sheet_in c.args.sheet.now)) q)) (sheet_in c.args.sheet.now).queries
in_queries c o e =
    seen_by (λ q. not (query_mark c.counts_in-counts.result q)) span_of c.args.sheet.now.queries.items c.deref-3.result.now o c.first_query.result c.deref-3.ensures.value e c.first_query.ensures
    ∙ ap (λ n. position (λ q. not (query_mark n q)) (sheet_in c.args.sheet.now).queries) c.counts_in-counts.ensures

in_places : (c : After-first_place) (o : Option ℕ) → c.first_place.result ≡ o → o ≡ position (λ i. not (place_mark (sheet_in c.args.sheet.now) i)) (sheet_in c.args.sheet.now).code
in_places c o e =
    sym e ∙ c.first_place.ensures
    ∙ ap (λ l. position (λ i. not (instruction_mark c.counts_in-counts.result (table_of (map (λ (t : Vec (Key × ℕ) Global). t.items) l) i) i)) c.deref-5.result.now) c.deref-4.ensures.value
    ∙ ap (position (λ i. not (instruction_mark c.counts_in-counts.result (table_of (sheet_in c.args.sheet.now).tables i) i))) c.deref-5.ensures.value
    ∙ ap (λ n. position (λ i. not (instruction_mark n (table_of (sheet_in c.args.sheet.now).tables i) i)) (sheet_in c.args.sheet.now).code) c.counts_in-counts.ensures

pub returns-in-Some : goal.returns-in-Some
returns-in-Some c = λ a.
    let s = sheet_in c.args.sheet.now in
    let found : c.first_range.result ≡ Some c.in-Some.number = search rules in
    range_exit s _ c.in-Some.number (omega (arith, c.len-ranges.ensures, c.args.sheet.now.atoms.ok.0, length-map c.args.sheet.now.atoms.items string_bytes)) a
    (in_ranges (goal.at.returns-in-Some c).After-first_range (Some c.in-Some.number) found)

pub returns-in-Some-first_entry : goal.returns-in-Some-first_entry
returns-in-Some-first_entry c = λ a.
    let s = sheet_in c.args.sheet.now in
    let none : c.first_range.result ≡ None = search rules in
    let found : c.first_entry.result ≡ Some c.in-Some-first_entry.number = search rules in
    let at = goal.at.returns-in-Some-first_entry c in
    entry_exit s _ c.in-Some-first_entry.number (omega (
      arith,
      c.len-ranges.ensures,
      c.args.sheet.now.atoms.ok.0,
      length-map c.args.sheet.now.atoms.items string_bytes,
      c.len.ensures,
      c.args.sheet.now.ranges.ok.0,
      length-map c.args.sheet.now.ranges.items (λ (v : Vec RangeNode Global). v.items),
    )) a (in_ranges at.After-first_range None none)
    (in_entries at.After-first_entry (Some c.in-Some-first_entry.number) found)

pub returns-in-Some-first_query : goal.returns-in-Some-first_query
returns-in-Some-first_query c = λ a.
    let s = sheet_in c.args.sheet.now in
    let none : c.first_range.result ≡ None = search rules in
    let none2 : c.first_entry.result ≡ None = search rules in
    let found : c.first_query.result ≡ Some c.in-Some-first_query.number = search rules in
    let at = goal.at.returns-in-Some-first_query c in
    query_exit s _ c.in-Some-first_query.number (omega (
      arith,
      c.len-ranges.ensures,
      c.args.sheet.now.atoms.ok.0,
      length-map c.args.sheet.now.atoms.items string_bytes,
      c.len.ensures,
      c.args.sheet.now.ranges.ok.0,
      length-map c.args.sheet.now.ranges.items (λ (v : Vec RangeNode Global). v.items),
      c.len-2.ensures,
      c.args.sheet.now.entries.ok.0,
    )) a
    (in_ranges at.After-first_range None none) (in_entries at.After-first_entry None none2)
    (in_queries at.After-first_query (Some c.in-Some-first_query.number) found)

pub returns-in-Some-first_place : goal.returns-in-Some-first_place
returns-in-Some-first_place c = λ a.
    let s = sheet_in c.args.sheet.now in
    let none : c.first_range.result ≡ None = search rules in
    let none2 : c.first_entry.result ≡ None = search rules in
    let none3 : c.first_query.result ≡ None = search rules in
    let found : c.first_place.result ≡ Some c.in-Some-first_place.number = search rules in
    let at = goal.at.returns-in-Some-first_place c in
    place_exit s _ c.in-Some-first_place.number (omega (
      arith,
      c.len-ranges.ensures,
      c.args.sheet.now.atoms.ok.0,
      length-map c.args.sheet.now.atoms.items string_bytes,
      c.len.ensures,
      c.args.sheet.now.ranges.ok.0,
      length-map c.args.sheet.now.ranges.items (λ (v : Vec RangeNode Global). v.items),
      c.len-2.ensures,
      c.args.sheet.now.entries.ok.0,
      c.len-3.ensures,
      c.args.sheet.now.queries.ok.0,
      length-map c.args.sheet.now.queries.items span_of,
    )) a (in_ranges at.After-first_range None none)
    (in_entries at.After-first_entry None none2) (in_queries at.After-first_query None none3)
    (in_places at.After-first_place (Some c.in-Some-first_place.number) found)

pub returns : goal.returns
returns c = λ a.
    let none : c.first_range.result ≡ None = search rules in
    let none2 : c.first_entry.result ≡ None = search rules in
    let none3 : c.first_query.result ≡ None = search rules in
    let none4 : c.first_place.result ≡ None = search rules in
    let at = goal.at.returns c in
    right_exit (sheet_in c.args.sheet.now) a (in_ranges at.After-first_range None none) (in_entries at.After-first_entry None none2)
    (in_queries at.After-first_query None none3) (in_places at.After-first_place None none4)
