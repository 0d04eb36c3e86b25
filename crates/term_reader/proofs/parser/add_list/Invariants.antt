use Rattle.term_reader.proofs.Lists.{ListSoFar}
use Rattle.term_reader.proofs.parser.add_list.Given as goal

abbrev pub invariant-loop-count : goal.invariant-loop-count
invariant-loop-count l = ListSoFar l.fn.pool l.pool l.elements l.place l.count l.fn.tail l.list

abbrev pub decreases-loop-count : goal.decreases-loop-count
decreases-loop-count l = l.count
