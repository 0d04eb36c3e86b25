use Rattle.std.proofs.Common.{map, refl}
use Rattle.range_code.specs.declared.instr.RangeInstr.TheVariants as instr
use Rattle.range_code.specs.Instructions.{without_need}
use Rattle.range_code.proofs.CompiledRanges.{mapped_onto}
use Rattle.range_code.proofs.instr.tests_of.Goals as goal

pub loop-slot-preserved : goal.loop-slot-preserved
loop-slot-preserved c = mapped_onto (map instr.NeedSome (without_need 0 c.args.needs.now)) instr.NeedFixed c.args.vals.now c.loop-slot.slot-index _
    c.loop-slot.tests.items c.push.new.self.items _ c.loop-slot-test.true c.loop-slot.invariant
    c.in_ok-push.ensures.items refl
