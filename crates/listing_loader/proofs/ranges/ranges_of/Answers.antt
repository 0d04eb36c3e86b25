use Rattle.std.proofs.Common.{◌≡◌, ◌∙◌, Vec, Global, Some, slice_get, map, sym, ap, arith, length}
use Rattle.std.proofs.lemmas.List.{map-append, length-map}
use Rattle.std.proofs.lemmas.Option.{MatchOption-at_some}
use Rattle.fd_language.specs.declared.range_node.RangeNode.{RangeNode}
use Rattle.listing_reader.specs.Sheets.{sheet_in}
use Rattle.listing_loader.proofs.ReadyRanges.{kept_here, good_more, made_more, all_made}
use Rattle.listing_loader.proofs.ranges.ranges_of.Goals as goal
use Rattle.listing_loader.proofs.ranges.ranges_of.Goals.{After-range_of}

-- the nodes that are looked at
here : (c : After-range_of) → slice_get (sheet_in c.args.sheet.now).ranges c.loop-index.index ≡ Some c.deref.result.now
here c =
    kept_here (sheet_in c.args.sheet.now) c.deref-nodes-items.result.now c.loop-index.index c.nodes-item.result c.deref.result.now
    (ap (map (λ (x : Vec RangeNode Global). x.items)) (sym c.deref-nodes-items.ensures.value)) c.loop-index-test.true c.nodes-item.is c.deref.ensures.value

pub loop-index-preserved : goal.loop-index-preserved
loop-index-preserved c =
    let s = sheet_in c.args.sheet.now in
    let i = c.loop-index.index in
    let at = here (goal.at.loop-index-preserved c).After-range_of in
    let good = MatchOption-at_some _ _ c.in-Some.range c.in-Some.is c.in_ok-range.ensures in
    record {
      made = ap (map (λ r. r.value)) c.in_ok-push.ensures.items ∙ map-append (λ r. r.value) c.loop-index.ranges.items _
          ∙ made_more s i c.deref.result.now at (map (λ r. r.value) c.loop-index.ranges.items) _ c.loop-index.invariant.made (c.in_ok-new.ensures.ok ∙ good.1);
      good = good_more s i c.deref.result.now at c.loop-index.invariant.good good.0;
    }

pub returns-clause-ranges : goal.returns-clause-ranges
returns-clause-ranges c =
    let s = sheet_in c.args.sheet.now in
    all_made s c.loop-index.index (map (λ r. r.value) c.loop-index.ranges.items)
    (omega (
      arith,
      c.loop-index-test.false,
      ap length c.deref-nodes-items.ensures.value,
      length-map c.args.sheet.now.ranges.items (λ (x : Vec RangeNode Global). x.items),
    )) c.loop-index.invariant.made c.loop-index.invariant.good
