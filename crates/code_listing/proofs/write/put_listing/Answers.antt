use Rattle.std.proofs.Common.{◌≡◌, ◌++◌, ◌∙◌, List, [], ◌∷◌, map, drop, sym, subst, codes}
use Rattle.fd_language.specs.TermTexts.{Quoted, atom_text}
use Rattle.fd_language.specs.PostfixRanges.{nodes_of}
use Rattle.range_code.specs.Slots.{in_slots}
use Rattle.fd_language.specs.Range.{Range}
use Rattle.wam_code.specs.declared.parts.Entry.{Entry}
use Rattle.wam_code.specs.declared.parts.QueryEntry.{QueryEntry}
use Rattle.wam_code.specs.Area.{Area, State, span_of, area_of}
use Rattle.code_listing.specs.Words.{line_bytes}
use Rattle.code_listing.specs.Texts.{nodes_text, entry_text, span_text}
use Rattle.code_listing.specs.Listing.{counted, places_text, listing}
use Rattle.code_listing.specs.States.{states_of}
use Rattle.code_listing.proofs.JoinedTexts.{six_groups}
use Rattle.code_listing.proofs.write.put_listing.Goals as goal

pub returns : goal.returns
returns c =
    let p = c.parts-parts.result.now in
    let a : Area = area_of p in
    let ss : List State = states_of c.states.result.now in
    let t4 = c.put_queries.new.text.items in
    let t5 = c.put_places.new.text.items in
    let old = c.args.text.now.items in
    let places : t5 ≡ t4 ++ line_bytes (counted (codes "code") (places_text a.tables ss a.code)) =
    subst (λ (x : Area). t5 ≡ t4 ++ line_bytes (counted (codes "code") (places_text x.tables ss x.code))) (sym c.parts-parts.ensures.parts) c.in_ok-put_places.ensures in
    let slots = λ (r : Range). nodes_of (in_slots r) in
    let t1 = c.put_atoms.new.text.items in
    let t2 = c.put_ranges.new.text.items in
    let t3 = c.put_entries.new.text.items in
    let ranges : t2 ≡ t1 ++ line_bytes (counted (codes "ranges") (map nodes_text (map slots a.ranges))) =
    subst (λ xs. t2 ≡ t1 ++ line_bytes (counted (codes "ranges") (map nodes_text (map slots (map (λ r. r.value) xs))))) c.deref.ensures.value c.in_ok-put_ranges.ensures in
    let entries : t3 ≡ t2 ++ line_bytes (counted (codes "entries") (map entry_text a.entries)) =
    subst (λ (xs : List Entry). t3 ≡ t2 ++ line_bytes (counted (codes "entries") (map entry_text xs))) c.deref-2.ensures.value c.in_ok-put_entries.ensures in
    let queries : t4 ≡ t3 ++ line_bytes (counted (codes "queries") (map span_text a.queries)) =
    subst (λ (xs : List QueryEntry). t4 ≡ t3 ++ line_bytes (counted (codes "queries") (map span_text (map span_of xs)))) c.deref-3.ensures.value c.in_ok-put_queries.ensures in
    let all : t5 ≡ old ++ listing a ss =
    six_groups old c.put_header.new.text.items c.put_atoms.new.text.items c.put_ranges.new.text.items c.put_entries.new.text.items t4 t5
    (codes "clpfd code 1" ∷ []) (counted (codes "atoms") (map (atom_text Quoted) (drop 3 a.pool.names))) (counted (codes "ranges") (map nodes_text (map (λ r. nodes_of (in_slots r)) a.ranges)))
    (counted (codes "entries") (map entry_text a.entries)) (counted (codes "queries") (map span_text a.queries)) (counted (codes "code") (places_text a.tables ss a.code))
    c.in_ok-put_header.ensures c.in_ok-put_atoms.ensures ranges entries queries places in
    subst (λ (x : Area). t5 ≡ old ++ listing x c.args.code.now.states) (c.parts-parts.ensures.parts ∙ c.area-area.ensures.area)
    (subst (λ (x : List State). t5 ≡ old ++ listing a x) c.states.ensures.states all)
