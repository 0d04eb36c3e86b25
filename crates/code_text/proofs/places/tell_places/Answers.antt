use Rattle.std.proofs.Common.{◌⊎◌, below_more, arith}
use Rattle.wam_code.specs.Area.{area_of}
use Rattle.code_text.specs.Places.{FitsPlace}
use Rattle.code_listing.specs.States.{states_of}
use Rattle.code_text.specs.FaultPlaces.{IsTold}
use Rattle.code_text.proofs.Faults.{fits_kept}
use Rattle.code_text.proofs.FaultPlaces.{faults_same, faults_then}
use Rattle.code_text.proofs.places.tell_places.Goals as goal

pub loop-at-init : goal.loop-at-init
loop-at-init c = record { found = λ at l. absurd (omega (arith, l)); tells = faults_same (area_of c.args.parts.now) (states_of c.args.states.now) c.args.first.now.place }

pub loop-at-preserved : goal.loop-at-preserved
loop-at-preserved c =
    let a = area_of c.args.parts.now in
    let ss = states_of c.args.states.now in
    let first = c.args.first.now.place in
    let old = c.loop-at.first.place in
    let new = c.tell_place.new.first.place in
    let inv = c.loop-at.invariant in
    record {
      found = below_more (λ k. FitsPlace a ss k ⊎ IsTold new k) c.loop-at.at
          (λ k l. fits_kept (FitsPlace a ss k) old new k c.in_ok-tell_place.ensures.tells.kept (inv.found k l)) c.in_ok-tell_place.ensures.found;
      tells = faults_then a ss first old new inv.tells c.in_ok-tell_place.ensures.tells;
    }

pub returns : goal.returns
returns c = record { found = λ at l. c.loop-at.invariant.found at (omega (arith, l, c.loop-at-test.false)); tells = c.loop-at.invariant.tells }
