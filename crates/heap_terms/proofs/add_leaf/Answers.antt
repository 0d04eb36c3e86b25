use Rattle.heap_terms.proofs.Pools.{places_added, added_own}
use Rattle.heap_terms.proofs.add_leaf.Goals as goal

pub returns-clause-added : goal.returns-clause-added
returns-clause-added c = (c.in_ok-t.t, added_own c.args.pool.now c.add.new.self _ c.in_ok-t.t c.in_ok-t.ensures.added c.in_ok-t.ensures.id, c.in_ok-t.ensures.term, c.in_ok-push.ensures.items)

pub returns-clause-places : goal.returns-clause-places
returns-clause-places c = places_added c.args.pool.now c.add.new.self _ c.in_ok-t.ensures.added
