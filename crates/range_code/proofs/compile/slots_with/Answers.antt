use Rattle.std.proofs.Common.{nat_eq}
use Rattle.std.specs.List.{list_any}
use Rattle.range_code.proofs.CompiledRanges.{met_more}
use Rattle.range_code.proofs.compile.slots_with.Goals as goal

pub loop-slot-preserved : goal.loop-slot-preserved
loop-slot-preserved c = λ z. met_more c.args.features.now c.loop-slot.slot-index _ (z, c.args.wanted) (list_any (nat_eq z) c.loop-slot.met.keys)
    (list_any (nat_eq z) c.meet.new.met.keys) c.loop-slot-test.true (c.loop-slot.invariant z) (c.in_ok-meet.ensures z)
