use Rattle.std.proofs.Common.{rules, ◌≡◌, ◌∙◌, ◌++◌, ◌+◌, ◌<◌, length, [], ◌∷◌, Bor, List, ℕ, ap, codes, map, refl, subst}
use Rattle.std.proofs.Common.{sym, arith}
use Rattle.std.proofs.lemmas.List.{length-map}
use Rattle.listing_reader.specs.Lines.{IsStop, header}
use Rattle.listing_reader.specs.Sections.{IsPlaces}
use Rattle.listing_reader.specs.Lists.{FitsPlace, placed_text}
use Rattle.listing_reader.specs.Places.{place_in}
use Rattle.listing_reader.proofs.LinePrefixes.{map_join}
use Rattle.listing_reader.proofs.SectionLoops.{header_stops, no_line, section_step, section_stops}
use Rattle.listing_reader.proofs.SectionLoops.{some_place, some_place_fits, wrong_line}
use Rattle.listing_reader.proofs.Loops.{match_none, match_some, reads_none, reads_some}
use Rattle.listing_reader.proofs.sections.read_places.Goals as goal

abbrev now : Bor (List ℕ) → List ℕ
now w = w.now

pub returns-in_err-count-clause-fault : goal.returns-in_err-count-clause-fault
returns-in_err-count-clause-fault c =
    let f = c.in_err-count.ensures.fault in
    let none = match_none _ _ c.announced.result f.0 c.announced.ensures in
    let h = subst (IsStop IsPlaces (map now c.args.lines.now) c.args.at) (sym f.1) (header_stops (codes "code") FitsPlace placed_text (map now c.args.lines.now) c.args.at none) in
    search rules

pub returns-in_err-line-clause-fault : goal.returns-in_err-line-clause-fault
returns-in_err-line-clause-fault c =
    let f = c.in_err-line.ensures.fault in
    let none = match_none _ _ c.next_line.result f.0 c.next_line.ensures in
    let small = (match_some _ _ c.announced.result (c.in_ok-count.count, c.in_ok-count.behind) c.in_ok-count.ensures.found c.announced.ensures).0 in
    let low : c.loop-index.index < c.in_ok-count.count = omega arith in
    let h = subst (IsStop IsPlaces (map now c.args.lines.now) c.args.at) (sym f.1)
    (section_stops (map place_in) place_in (λ xs x. map_join place_in xs (x ∷ [])) (λ xs. length-map xs place_in) (codes "code") FitsPlace placed_text
    (map now c.args.lines.now) c.in_ok-count.count some_place some_place_fits c.loop-index.places.items (map now c.loop-index.rest.now) c.loop-index.index c.args.at
    (c.args.at + c.loop-index.index + 2) small c.loop-index.invariant.size low refl c.loop-index.invariant.fit c.loop-index.invariant.told
    (no_line FitsPlace placed_text (map now c.loop-index.rest.now) none)) in
    search rules

pub returns-in_err-place-clause-fault : goal.returns-in_err-place-clause-fault
returns-in_err-place-clause-fault c =
    let f = c.in_err-place.ensures.fault in
    let first = match_some _ _ c.next_line.result (c.in_ok-line.line, c.in_ok-line.later) c.in_ok-line.ensures.found c.next_line.ensures in
    let small = (match_some _ _ c.announced.result (c.in_ok-count.count, c.in_ok-count.behind) c.in_ok-count.ensures.found c.announced.ensures).0 in
    let low : c.loop-index.index < c.in_ok-count.count = omega arith in
    let h = subst (IsStop IsPlaces (map now c.args.lines.now) c.args.at) (sym f.1)
    (section_stops (map place_in) place_in (λ xs x. map_join place_in xs (x ∷ [])) (λ xs. length-map xs place_in) (codes "code") FitsPlace placed_text
    (map now c.args.lines.now) c.in_ok-count.count some_place some_place_fits c.loop-index.places.items (map now c.loop-index.rest.now) c.loop-index.index c.args.at
    (c.args.at + c.loop-index.index + 2) small c.loop-index.invariant.size low refl c.loop-index.invariant.fit c.loop-index.invariant.told
    (wrong_line FitsPlace placed_text (map now c.loop-index.rest.now) (map now c.in_ok-line.later.now) c.in_ok-line.line.now first
    (reads_none place_in FitsPlace placed_text _ c.in_ok-read_place.field-0 f.0 c.in_ok-read_place.ensures))) in
    search rules

pub loop-index-preserved : goal.loop-index-preserved
loop-index-preserved c =
    let first = match_some _ _ c.next_line.result (c.in_ok-line.line, c.in_ok-line.later) c.in_ok-line.ensures.found c.next_line.ensures in
    let t = section_step (map place_in) place_in (λ xs x. map_join place_in xs (x ∷ [])) (λ xs. length-map xs place_in) (codes "code") FitsPlace placed_text
    (map now c.args.lines.now) c.in_ok-count.count c.loop-index.places.items c.push.new.self.items c.in_ok-place.place c.in_ok-line.line.now
    (map now c.in_ok-line.later.now) c.in_ok-push.ensures.items c.loop-index.invariant.fit
    (c.loop-index.invariant.told ∙ ap (λ (l : List (List ℕ)). header (codes "code") c.in_ok-count.count ∷ (map placed_text (map place_in c.loop-index.places.items) ++ l)) first)
    (reads_some place_in FitsPlace placed_text _ c.in_ok-read_place.field-0 c.in_ok-place.place c.in_ok-place.ensures.found c.in_ok-read_place.ensures) in
    let size : length c.push.new.self.items ≡ c.loop-index.index + 1 = search rules in
    record { fit = t.0; told = t.1; size = size }
