use Rattle.clause_code.proofs.Rests.{pushing_next, pushing_last}
use Rattle.clause_code.proofs.terms.push_compounds.Goals as goal

pub loop-id-preserved : goal.loop-id-preserved
loop-id-preserved c =
    pushing_next c.args.pool.now c.args.read c.args.first c.args.free c.loop-id.register c.in_ok-register.register c.loop-id.id-index c.args.ids.now
    c.args.works.now.items c.loop-id.works.items c.push_compound.new.works.items (record { number = 0 }) c.loop-id-test.true
    (c.requires c.loop-id.id-index (record { number = 0 }) c.loop-id-test.true) c.in_ok-register.ensures c.in_ok-push_compound.ensures c.loop-id.invariant

pub returns : goal.returns
returns c = pushing_last c.args.pool.now c.args.read c.args.first c.args.free c.loop-id.register c.loop-id.id-index c.args.ids.now c.args.works.now.items
    c.loop-id.works.items c.loop-id-test.false c.loop-id.invariant
