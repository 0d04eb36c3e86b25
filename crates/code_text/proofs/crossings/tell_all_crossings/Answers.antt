use Rattle.std.proofs.Common.{length, [], below_more, arith}
use Rattle.wam_code.specs.Area.{area_of}
use Rattle.code_text.specs.Owners.{AreCrossings}
use Rattle.code_text.proofs.PlaceOwners.{owners_kept}
use Rattle.code_text.proofs.CrossingFaults.{crossings_kept}
use Rattle.code_text.proofs.FaultPlaces.{faults_same, faults_then}
use Rattle.code_text.proofs.crossings.tell_all_crossings.Goals as goal

pub loop-at-init : goal.loop-at-init
loop-at-init c = record { crossings = λ at l. absurd (omega (arith, l)); tells = λ ss. faults_same (area_of c.args.parts.now) ss c.args.first.now.place }

pub loop-at-preserved : goal.loop-at-preserved
loop-at-preserved c =
    let a = area_of c.args.parts.now in
    let own = c.args.owners.now in
    let first = c.args.first.now.place in
    let old = c.loop-at.first.place in
    let new = c.tell_crossings.new.first.place in
    let o = owners_kept a (length a.code) first old own ((c.loop-at.invariant.tells []).kept) c.requires in
    let step = c.in_ok-tell_crossings.ensures.tells [] o in
    record {
      crossings = below_more (λ k. AreCrossings a own new k) c.loop-at.at (λ k l. crossings_kept a own old new step.kept k (c.loop-at.invariant.crossings k l))
          c.in_ok-tell_crossings.ensures.crossings;
      tells = λ ss. faults_then a ss first old new (c.loop-at.invariant.tells ss) (c.in_ok-tell_crossings.ensures.tells ss o);
    }

pub returns : goal.returns
returns c = record { crossings = λ at l. c.loop-at.invariant.crossings at (omega (arith, l, c.loop-at-test.false)); tells = c.loop-at.invariant.tells }
