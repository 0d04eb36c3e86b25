use Rattle.std.proofs.Common.{length, below_more, arith}
use Rattle.wam_code.specs.Area.{area_of}
use Rattle.code_text.specs.Places.{IsEntryTold}
use Rattle.code_listing.specs.States.{states_of}
use Rattle.code_text.proofs.Faults.{entry_kept}
use Rattle.code_text.proofs.PlaceOwners.{owners_kept}
use Rattle.code_text.proofs.FaultPlaces.{faults_same, faults_then}
use Rattle.code_text.proofs.verification.tell_entries.Goals as goal

pub loop-number-init : goal.loop-number-init
loop-number-init c = record { found = λ n l. absurd (omega (arith, l)); tells = faults_same (area_of c.args.parts.now) (states_of c.args.states.now) c.args.first.now.place }

pub tell_entry-requires-clause-owners : goal.tell_entry-requires-clause-owners
tell_entry-requires-clause-owners c =
    let a = area_of c.args.parts.now in
    owners_kept a (length a.code) c.args.first.now.place c.loop-number.first.place c.args.owners.now c.loop-number.invariant.tells.kept c.requires.owners

pub loop-number-preserved : goal.loop-number-preserved
loop-number-preserved c =
    let a = area_of c.args.parts.now in
    let ss = states_of c.args.states.now in
    let own = c.args.owners.now in
    let first = c.args.first.now.place in
    let old = c.loop-number.first.place in
    let new = c.tell_entry.new.first.place in
    let inv = c.loop-number.invariant in
    record {
      found = below_more (λ k. IsEntryTold a ss own new k) c.loop-number.number (λ k l. entry_kept a ss own old new k c.tell_entry.ensures.tells.kept (inv.found k l)) c.tell_entry.ensures.found;
      tells = faults_then a ss first old new inv.tells c.tell_entry.ensures.tells;
    }
