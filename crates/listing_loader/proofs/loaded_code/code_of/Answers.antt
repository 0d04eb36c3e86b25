use Rattle.std.proofs.Common.{◌∙◌, ◌+◌, map, sym, ap, subst, arith}
use Rattle.wam_code.specs.Area.{Area}
use Rattle.wam_code.specs.VerifiedCode.{IsVerifiedBy}
use Rattle.code_listing.specs.States.{states_of}
use Rattle.code_flow.specs.PlaceConditions.{IsFirstFailing}
use Rattle.listing_reader.specs.Sheets.{sheet_in}
use Rattle.listing_loader.proofs.SheetCode.{area_with, area_is, failing_at, has_order, place_within, place_fault}
use Rattle.listing_loader.proofs.loaded_code.code_of.Goals as goal
use Rattle.listing_loader.proofs.loaded_code.code_of.Goals.{In-Err-NotVerified}

pub from_verified-area-requires : goal.from_verified-area-requires
from_verified-area-requires c = (states_of c.deref.result.now, c.in-Ok.ensures.ok)

pub from_verified-requires-clause-verified : goal.from_verified-requires-clause-verified
from_verified-requires-clause-verified c =
    let s = sheet_in c.args.sheet in
    let by : IsVerifiedBy (area_with s c.args.pool (map (λ r. r.value) c.args.ranges.items)) s.states = subst
    (λ l. IsVerifiedBy (area_with s c.args.pool (map (λ r. r.value) c.args.ranges.items)) (states_of l)) c.deref.ensures.value c.in-Ok.ensures.ok in
    subst (λ (a : Area). IsVerifiedBy a s.states) (sym c.from_verified-area.ensures) by

pub from_verified-requires-clause-tables : goal.from_verified-requires-clause-tables
from_verified-requires-clause-tables c =
    has_order (sheet_in c.args.sheet) c.args.pool (map (λ r. r.value) c.args.ranges.items) c.requires.pool c.requires.ranges c.requires.sheet c.requires.right
    c.from_verified-area.result c.from_verified-area.ensures

pub returns-in-Ok-clause-code : goal.returns-in-Ok-clause-code
returns-in-Ok-clause-code c =
    let s = sheet_in c.args.sheet in
    c.from_verified.ensures ∙ ap (λ (a : Area). record { area = a; states = s.states })
    (c.from_verified-area.ensures ∙ area_is s c.args.pool (map (λ r. r.value) c.args.ranges.items) c.requires.pool c.requires.ranges)

-- the place, as its lemmas have it
first : (c : In-Err-NotVerified) → IsFirstFailing (area_with (sheet_in c.args.sheet) c.args.pool (map (λ r. r.value) c.args.ranges.items)) (sheet_in c.args.sheet).states c.in-Err-NotVerified.place
first c =
    let a = area_with (sheet_in c.args.sheet) c.args.pool (map (λ r. r.value) c.args.ranges.items) in
    let told = failing_at a (states_of c.deref.result.now) c.in-Err-NotVerified.field-0 c.in-Err-NotVerified.place c.in-Err-NotVerified.field-0-is c.in-Err-NotVerified.ensures.fault in
    subst (λ l. IsFirstFailing a (states_of l) c.in-Err-NotVerified.place) c.deref.ensures.value told

pub overflow_add-line : goal.overflow_add-line
overflow_add-line c =
    let f = first (goal.at.overflow_add-line c).In-Err-NotVerified in
    let w = place_within (sheet_in c.args.sheet) c.args.pool (map (λ r. r.value) c.args.ranges.items) c.requires.pool c.requires.ranges c.requires.sheet
    c.requires.right c.in-Err-NotVerified.place f in
    let v = c.args.sheet.code in
    omega (arith, w, v.small, v.ok.0, v.ok.1, c.first_line-first.ensures.small)

pub returns-in-Err-NotVerified-clause-fault : goal.returns-in-Err-NotVerified-clause-fault
returns-in-Err-NotVerified-clause-fault c =
    place_fault (sheet_in c.args.sheet) c.args.pool (map (λ r. r.value) c.args.ranges.items) c.requires.pool c.requires.ranges c.requires.sheet c.requires.right
    _ c.in-Err-NotVerified.place (ap (λ n. n + c.in-Err-NotVerified.place) c.first_line-first.ensures.line)
    (first (goal.at.returns-in-Err-NotVerified-clause-fault c).In-Err-NotVerified)
