use Rattle.std.proofs.Common.{rules, ◌≡◌, ◌+◌, suc, Bor, List, ℕ, codes}
use Rattle.std.proofs.Common.{length, map, subst, sym, arith}
use Rattle.std.proofs.lemmas.List.{length-map}
use Rattle.listing_reader.specs.Lines.{IsLeft}
use Rattle.listing_reader.specs.Lists.{FitsPlace, placed_text}
use Rattle.listing_reader.specs.Places.{place_in}
use Rattle.listing_reader.specs.Sections.{IsPlaces}
use Rattle.listing_reader.proofs.SectionLoops.{left_end}
use Rattle.listing_reader.proofs.SectionLoops.{left_last, section_long}
use Rattle.listing_reader.proofs.read.from_places.Goals as goal

abbrev now : Bor (List ℕ) → List ℕ
now w = w.now

pub overflow_add-size : goal.overflow_add-size
overflow_add-size c = let h = section_long now (codes "code") FitsPlace placed_text c.args.lines.now (map place_in c.in_ok-places.places.items)
    c.in_ok-places.ensures.told in let n = length-map c.in_ok-places.places.items place_in in let r = c.requires.room in omega (arith, h, n, r)

pub returns-in_err-places-clause-fault : goal.returns-in_err-places-clause-fault
returns-in_err-places-clause-fault c =
    let h = left_last (codes "code") FitsPlace placed_text (map now c.args.lines.now) c.args.rest.now c.args.at c.in_err-places.field-0.0 c.in_err-places.ensures.fault in search rules

pub returns-in_err-check_end-clause-fault : goal.returns-in_err-check_end-clause-fault
returns-in_err-check_end-clause-fault c =
    let l : c.len-size.result ≡ length c.in_ok-places.places.items = search rules in
    let size : c.len-size.result + 1 ≡ suc (length (map place_in c.in_ok-places.places.items)) = (let m = length-map c.in_ok-places.places.items place_in in omega (arith, m, l)) in
    let f = c.in_err-check_end.ensures.fault in
    let h = subst (IsLeft IsPlaces (map now c.args.lines.now) c.args.rest.now c.args.at) (sym f.1)
    (left_end now (codes "code") FitsPlace placed_text c.args.lines.now (map place_in c.in_ok-places.places.items) c.in_ok-places.ensures.told c.args.rest.now
    (c.len-size.result + 1) c.args.at size f.0) in
    search rules
