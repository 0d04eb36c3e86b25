use Rattle.std.proofs.Common.{◌<◌, All, map, arith, IsTrue, length, subst}
use Rattle.std.proofs.lemmas.List.Elements.{All-map}
use Rattle.fd_language.specs.declared.TheConstants.{INFINITY}
use Rattle.fd_language.specs.PostfixRanges.{nodes_of}
use Rattle.fd_language.specs.RangeVerdict.{is_accepted}
use Rattle.range_code.specs.Slots.{in_slots}
use Rattle.listing_reader.specs.NumberBounds.{HasSize}
use Rattle.held_code.proofs.ListItems.{one_more}
use Rattle.held_code.proofs.ranges.hold_ranges.Goals as goal

pub loop-index-preserved : goal.loop-index-preserved
loop-index-preserved c =
    let ranges = c.args.ranges.now in
    let i = c.loop-index.index in
    let within : i < length ranges = omega arith in
    let x = c.index-ranges-index.result in
    record {
      nodes = one_more (λ r. All HasSize (nodes_of (in_slots r.value))) ranges i x within c.index-ranges-index.is c.loop-index.invariant.nodes
          (subst (λ r. All HasSize (nodes_of (in_slots r))) c.deref.ensures c.hold_range.ensures.nodes);
      accepted = one_more (λ r. IsTrue (is_accepted INFINITY r.value)) ranges i x within c.index-ranges-index.is c.loop-index.invariant.accepted
          (subst (λ r. IsTrue (is_accepted INFINITY r)) c.deref.ensures c.hold_range.ensures.accepted);
    }

pub returns-clause-nodes : goal.returns-clause-nodes
returns-clause-nodes c =
    All-map (All HasSize) (λ r. nodes_of (in_slots r)) (map (λ r. r.value) c.args.ranges.now)
    (All-map (λ r. All HasSize (nodes_of (in_slots r))) (λ r. r.value) c.args.ranges.now (λ k d h. c.loop-index.invariant.nodes k d (omega arith)))

pub returns-clause-accepted : goal.returns-clause-accepted
returns-clause-accepted c = All-map (λ r. IsTrue (is_accepted INFINITY r)) (λ r. r.value) c.args.ranges.now (λ k d h. c.loop-index.invariant.accepted k d (omega arith))
