use Rattle.std.proofs.Common.{◌≡◌, false, [], reverse, length}
use Rattle.bound_search.specs.Members.{members_of}
use Rattle.bound_search.specs.SearchStates.{IsSearching, all_levels, progress}
use Rattle.bound_search.specs.Objectives.{wanted}
use Rattle.bound_search.specs.Work.{work}
use Rattle.bound_search.proofs.search.search.Given as goal

abbrev pub invariant-trying : goal.invariant-trying
invariant-trying g l = record {
  searching : IsSearching (wanted l.list l.aim) (length l.fn.store.current.sets) l.fn.store.current.posted (all_levels l.fn.store) (progress (all_levels l.store) l.nodes.items l.best) [];
  unspent : l.store.spent ≡ false;
  fresh : l.fn.store.spent ≡ false;
}

abbrev pub decreases-trying : goal.decreases-trying
decreases-trying g l = work (members_of l.list) (reverse l.nodes.items) (all_levels l.store)
