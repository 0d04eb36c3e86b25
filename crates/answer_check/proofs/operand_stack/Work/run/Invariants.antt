use Rattle.answer_check.specs.AnswerLines.{assigned}
use Rattle.answer_check.specs.OperandStack.{IsAt}
use Rattle.answer_check.proofs.operand_stack.Work.run.Given as goal

abbrev pub invariant-loop-at : goal.invariant-loop-at
invariant-loop-at l = IsAt (assigned l.values) l.number l.range l.at l.self
