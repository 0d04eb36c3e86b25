use Rattle.std.proofs.Common.{map}
use Rattle.constraint_expand.specs.Lists.{member_of, Walking}
use Rattle.fd_model.specs.Members.{as_member}
use Rattle.term_pool.specs.Terms.{term_of, size}
use Rattle.constraint_expand.proofs.members.members.Given as goal

abbrev pub invariant-loop-found : goal.invariant-loop-found
invariant-loop-found l = Walking as_member l.pool l.fn.list l.rest (map member_of l.found.items)

abbrev pub decreases-loop-found : goal.decreases-loop-found
decreases-loop-found l = size (term_of l.pool l.rest)
