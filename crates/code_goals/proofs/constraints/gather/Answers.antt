use Rattle.std.proofs.Common.{◌+◌, arith}
use Rattle.code_goals.proofs.ConstraintGoals.{gathered_none, gathered_more}
use Rattle.code_goals.proofs.constraints.gather.Goals as goal

pub loop-i-init : goal.loop-i-init
loop-i-init c = (omega arith, gathered_none c.args.areas.now c.clear.new.self.items c.clear.ensures.items)

pub register-requires : goal.register-requires
register-requires c = c.requires (c.loop-i.i + 1) (omega arith) (omega arith)

pub loop-i-preserved : goal.loop-i-preserved
loop-i-preserved c = (
  omega arith,
  gathered_more c.args.areas.now c.loop-i.i c.loop-i.cells.items c.register.result c.push.new.self.items c.loop-i.invariant.1
      c.register.ensures c.in_ok-push.ensures.items,
)
