use Rattle.std.proofs.Common.{◌<◌, arith, subst, sym, length, get_or, pos}
use Rattle.fd_language.specs.declared.range_node.RangeNode.TheVariants as node
use Rattle.fd_language.specs.PostfixRanges.{nodes_of}
use Rattle.answer_check.specs.AnswerLines.{assigned}
use Rattle.answer_check.specs.OperandStack.{CanTake, IsTaken}
use Rattle.answer_check.proofs.NodeWalk.{walk_start, walk_takes, walk_step}
use Rattle.answer_check.proofs.operand_stack.Work.run.Goals as goal

pub loop-at-init : goal.loop-at-init
loop-at-init c = walk_start (assigned c.args.values.now) c.args.number c.args.range.now c.clear.new.self c.clear.ensures.numbers c.clear.ensures.truths

pub take-requires : goal.take-requires
take-requires c =
    let l : c.loop-at.at < length (nodes_of c.args.range.now) = omega (arith, c.loop-at-test.true, c.requires.count) in
    subst (λ ns. CanTake (get_or ns c.loop-at.at (node.Int (pos 0))) c.loop-at.self) (sym c.nodes-nodes.ensures)
    (walk_takes (assigned c.args.values.now) c.args.number c.loop-at.at c.args.range.now (node.Int (pos 0)) l c.loop-at.self c.requires.fits c.loop-at.invariant)

pub loop-at-preserved : goal.loop-at-preserved
loop-at-preserved c =
    let l : c.loop-at.at < length (nodes_of c.args.range.now) = omega (arith, c.loop-at-test.true, c.requires.count) in
    walk_step (assigned c.args.values.now) c.args.number c.loop-at.at c.args.range.now (node.Int (pos 0)) l c.loop-at.self c.take.new.self c.requires.fits c.loop-at.invariant
    (subst (λ ns. IsTaken (assigned c.args.values.now) c.args.number (get_or ns c.loop-at.at (node.Int (pos 0))) c.loop-at.self c.take.new.self) c.nodes-nodes.ensures c.in_ok-take.ensures)
