use Rattle.fd_language.proofs.SpelledNodes.{after_expr, after_range}
use Rattle.fd_language.proofs.operand_counts.Waiting.after.Goals as goal

pub returns-then-not-taken-clause-reached : goal.returns-then-not-taken-clause-reached
returns-then-not-taken-clause-reached c = after_expr _ _ _ _ c.operands_of-taken.ensures c.if-not-taken.true c.if-self-taken-2.false.1

pub returns-then-self-taken-3-clause-reached : goal.returns-then-self-taken-3-clause-reached
returns-then-self-taken-3-clause-reached c = after_range _ _ _ _ c.operands_of-taken.ensures c.if-not-taken.false c.if-self-taken-2.false.0 c.if-self-taken-3.true
