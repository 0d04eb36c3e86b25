use Rattle.std.proofs.Common.{nat_eq, ◌∙◌}
use Rattle.indexmap.specs.IndexMap.{get}
use Rattle.range_code.proofs.CompiledRanges.{mapped_more}
use Rattle.range_code.proofs.compile.needs_found.Goals as goal

pub loop-variable-preserved : goal.loop-variable-preserved
loop-variable-preserved c = mapped_more (get nat_eq c.args.found.now) c.args.slots.now c.loop-variable.variable-index 0 c.loop-variable.by_slot.items
    c.push.new.self.items c.copied.result c.loop-variable-test.true c.loop-variable.invariant
    c.in_ok-push.ensures.items (c.copied.ensures ∙ c.get.ensures.value)
