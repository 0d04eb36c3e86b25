use Rattle.std.proofs.Common.{◌≡◌, ◌∙◌, All, IsTrue, map, ap, subst}
use Rattle.fd_language.specs.declared.TheConstants.{INFINITY}
use Rattle.fd_language.specs.RangeVerdict.{is_accepted}
use Rattle.term_pool.specs.PoolInvariant.{IsPool}
use Rattle.wam_code.specs.declared.parts.CodeParts.{CodeParts}
use Rattle.wam_code.specs.Area.{Area, area_of}
use Rattle.code_listing.specs.Listing.{sheet_of}
use Rattle.listing_reader.specs.NumberBounds.{HasSizes, IsNumber, IsSmallState}
use Rattle.held_code.proofs.Sizes.{sizes_of}
use Rattle.held_code.proofs.hold.Goals as goal

pub returns : goal.returns
returns c =
    let p : CodeParts = c.parts-parts.result.now in
    let same : area_of p ≡ c.args.code.now.area = c.parts-parts.ensures.parts ∙ c.area.ensures.area in
    let pool = c.atoms.ensures.valid in
    let atoms = subst IsNumber c.atoms.ensures.count c.hold_place.ensures in
    let states = subst (All IsSmallState) c.states.ensures.states c.hold_states.ensures in
    let sizes =
    sizes_of p c.args.code.now.states pool atoms c.deref.result.now c.deref.ensures.value c.hold_code.ensures.numbers c.hold_code.ensures.count
    c.deref-2.result.now c.deref-2.ensures.value c.hold_entries.ensures.numbers c.hold_entries.ensures.count
    c.deref-3.result.now c.deref-3.ensures.value c.hold_queries.ensures.numbers c.hold_queries.ensures.count (map (λ t. t.items) c.deref-4.result.now)
    (ap (map (λ t. t.items)) c.deref-4.ensures.value) c.hold_tables.ensures
    (map (λ r. r.value) c.deref-5.result.now) (ap (map (λ r. r.value)) c.deref-5.ensures.value) c.hold_ranges.ensures.nodes c.hold_ranges.ensures.count states in
    record {
      listed = c.area.ensures.listed;
      pool = subst (λ (a : Area). IsPool a.pool) same pool;
      ranges = subst (λ (a : Area). All (λ r. IsTrue (is_accepted INFINITY r)) a.ranges) same
          (subst (λ rs. All (λ r. IsTrue (is_accepted INFINITY r)) (map (λ r. r.value) rs)) c.deref-5.ensures.value c.hold_ranges.ensures.accepted);
      sizes = subst (λ (a : Area). HasSizes (sheet_of a c.args.code.now.states)) same sizes;
    }
