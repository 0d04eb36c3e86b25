use Rattle.std.proofs.Common.{arith}
use Rattle.range_code.proofs.ChosenMembers.{only_above, only_below}
use Rattle.range_code.proofs.choice.is_key.Goals as goal

pub returns-then-only-key : goal.returns-then-only-key
returns-then-only-key c = only_above c.spans.result.now (0, 0) c.args.keys.now c.args.key (omega arith) c.spans.ensures.spans c.spans.ensures.members (omega arith)

pub returns-else-only-key : goal.returns-else-only-key
returns-else-only-key c = only_below c.spans.result.now (0, 0) c.args.keys.now c.args.key (omega arith) c.spans.ensures.spans c.spans.ensures.members (omega arith)
