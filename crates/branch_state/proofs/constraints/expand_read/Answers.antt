use Rattle.std.proofs.Common.{arith}
use Rattle.branch_state.proofs.PoolRows.{row_ends, answer_words}
use Rattle.branch_state.proofs.constraints.expand_read.Goals as goal

pub expand-requires-clause-ends : goal.expand-requires-clause-ends
expand-requires-clause-ends c =
    let a = c.if-fresh-ge-LIMIT.false in
    let b = c.if-goal-ge-LIMIT.false in
    row_ends c.args.terms.now c.arguments.ensures.valid c.args.kind c.arguments.result.now c.args.fresh c.args.goal.number
    (omega (arith, a)) (omega (arith, b)) c.arguments.ensures.own c.arguments.ensures.earlier

pub returns-clause-words : goal.returns-clause-words
returns-clause-words c =
    answer_words c.args.terms.now c.arguments.ensures.valid c.arguments.result.now c.arguments.ensures.own c.args.kind c.args.fresh
    c.expand.result c.expand.ensures
