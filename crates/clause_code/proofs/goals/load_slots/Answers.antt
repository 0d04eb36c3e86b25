use Rattle.std.proofs.Common.{◌∙◌, arith}
use Rattle.clause_code.proofs.LoadedArguments.{slot_next}
use Rattle.clause_code.proofs.WrittenSteps.{writes_long}
use Rattle.clause_code.proofs.goals.load_slots.Goals as goal

pub loop-slot-preserved : goal.loop-slot-preserved
loop-slot-preserved c =
    let k = c.loop-slot.invariant in
    let w = c.in_ok-put_variable.ensures in
    let e = k.register in record {
      owes = slot_next c.args.pool.now c.args.homes.now c.loop-slot.code.items c.put_variable.new.code.items c.loop-slot.made.items
          c.put_variable.new.made.items c.args.slots.now c.loop-slot.slot-index c.loop-slot.register c.args.free 0 _ _ c.loop-slot-test.true k.owes w;
      long = writes_long c.args.homes.now c.loop-slot.code.items c.put_variable.new.code.items c.loop-slot.made.items c.put_variable.new.made.items _ w ∙ k.long;
      register = omega (arith, e);
    }
