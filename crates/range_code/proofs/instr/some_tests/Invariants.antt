use Rattle.std.proofs.Common.{◌≡◌, drop, map, ◌++◌}
use Rattle.range_code.specs.declared.instr.RangeInstr.TheVariants as instr
use Rattle.range_code.specs.Instructions.{without_need}
use Rattle.range_code.proofs.instr.some_tests.Given as goal

abbrev pub invariant-loop-slot : goal.invariant-loop-slot
invariant-loop-slot l = map instr.NeedSome (without_need 0 l.needs) ≡ l.tests.items ++ map instr.NeedSome (without_need l.slot (drop l.slot l.needs))
