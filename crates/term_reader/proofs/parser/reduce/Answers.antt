use Rattle.term_reader.proofs.Stacks.{steps_then}
use Rattle.term_reader.proofs.parser.reduce.Goals as goal

pub loop-next-preserved : goal.loop-next-preserved
loop-next-preserved c =
    let e = rw c.in-Some.is at c.in_ok-next.ensures.steps in steps_then c.loop-next.invariant (e c.loop-next.of_term)
