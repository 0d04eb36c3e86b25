use Rattle.std.proofs.Common.{length}
use Rattle.bound_search.proofs.PickedMembers.{cost_own}
use Rattle.bound_search.proofs.best.Goals as goal

pub search-requires-clause-wanted : goal.search-requires-clause-wanted
search-requires-clause-wanted g c = record {
  list = c.requires.list;
  cost = cost_own (length c.args.store.now.current.sets) c.args.list.now c.args.aim.cost c.requires.list c.requires.cost;
  member = c.requires.cost;
}
