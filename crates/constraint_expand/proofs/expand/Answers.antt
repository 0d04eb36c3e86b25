use Rattle.fd_language.specs.declared.TheConstants.{INFINITY}
use Rattle.term_pool.specs.Terms.{term_of, terms_by}
use Rattle.product_bool.specs.Views.{parts_of}
use Rattle.constraint_expand.proofs.SplitSums.{split_inside, split_accepted}
use Rattle.constraint_expand.proofs.expand.Goals as goal

pub splitting-requires-clause-inside : goal.splitting-requires-clause-inside
splitting-requires-clause-inside c = split_inside INFINITY c.args.kind (terms_by (term_of c.args.pool.now) c.args.args.now) c.args.fresh
    (parts_of c.in-Some.parts) (rw c.in-Some.is at c.in_ok-parts.ensures)

pub splitting-requires-clause-accepted : goal.splitting-requires-clause-accepted
splitting-requires-clause-accepted c = split_accepted c.args.kind (terms_by (term_of c.args.pool.now) c.args.args.now) c.args.fresh (parts_of c.in-Some.parts)
    (rw c.in-Some.is at c.in_ok-parts.ensures)
