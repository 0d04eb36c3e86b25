use Rattle.std.proofs.Common.{nat_eq}
use Rattle.indexmap.specs.IndexMap.{get}
use Rattle.range_code.proofs.CompiledRanges.{needs_more}
use Rattle.range_code.proofs.compile.needs_by_variable.Goals as goal

pub loop-variable-preserved : goal.loop-variable-preserved
loop-variable-preserved c = λ y. needs_more c.args.needs.now c.loop-variable.variable-index _ (get nat_eq c.loop-variable.found y)
    (get nat_eq c.insert.new.self y) y c.loop-variable-test.true (c.in_ok-insert.ensures.updates.0 y) (c.loop-variable.invariant y)
