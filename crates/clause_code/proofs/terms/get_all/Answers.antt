use Rattle.std.proofs.Common.{◌∙◌, arith, length}
use Rattle.clause_code.proofs.Rests.{get_next, suits_next}
use Rattle.clause_code.proofs.WrittenSteps.{writes_long}
use Rattle.clause_code.proofs.terms.get_all.Goals as goal

pub loop-id-preserved : goal.loop-id-preserved
loop-id-preserved c =
    let k = c.loop-id.invariant in
    let w = c.in_ok-get.ensures in
    let e = k.register in record {
      owes =
          get_next c.args.homes.now c.loop-id.code.items c.get.new.code.items c.loop-id.made.items c.get.new.made.items c.args.pool.now c.args.ids.now
          c.loop-id.id-index c.loop-id.register c.args.free (record { number = 0 }) _ _ c.loop-id-test.true k.owes w.writes;
      suits = (suits_next c.args.pool.now (length c.args.homes.now) c.args.ids.now c.loop-id.id-index (record { number = 0 }) c.loop-id-test.true k.suits).1;
      long = writes_long c.args.homes.now c.loop-id.code.items c.get.new.code.items c.loop-id.made.items c.get.new.made.items _ w.writes ∙ k.long;
      register = omega (arith, e);
      works = w.done;
    }
