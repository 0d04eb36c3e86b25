use Rattle.std.proofs.Common.{◌∙◌, length}
use Rattle.clause_code.proofs.Rests.{part_next, suits_next}
use Rattle.clause_code.proofs.WrittenSteps.{writes_long}
use Rattle.clause_code.proofs.terms.unify_parts.Goals as goal

pub loop-id-preserved : goal.loop-id-preserved
loop-id-preserved c =
    let k = c.loop-id.invariant in
    let w = c.in_ok-unify_part.ensures in record {
      owes =
          part_next c.args.homes.now c.loop-id.code.items c.unify_part.new.code.items c.loop-id.made.items c.unify_part.new.made.items c.args.pool.now
          c.args.read c.args.ids.now c.loop-id.id-index c.loop-id.register c.in_ok-register.register (record { number = 0 }) _ _ c.loop-id-test.true
          c.in_ok-register.ensures k.owes w;
      suits = (suits_next c.args.pool.now (length c.args.homes.now) c.args.ids.now c.loop-id.id-index (record { number = 0 }) c.loop-id-test.true k.suits).1;
      long = writes_long c.args.homes.now c.loop-id.code.items c.unify_part.new.code.items c.loop-id.made.items c.unify_part.new.made.items _ w ∙ k.long;
    }
