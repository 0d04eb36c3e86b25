use Rattle.std.proofs.Common.{◌∙◌, refl, ap}
use Rattle.fd_model.specs.Levels.{Levels}
use Rattle.bound_search.proofs.SearchSteps.{search_begins, still_wanted, newest_open, goes_on, newest_bounded, newest_closed, bounded_wanted, bounded_newest, bounded_below, bounded_down, closed_down, levels_back, found_none, found_some}
use Rattle.bound_search.proofs.SearchSteps.{none_taken}
use Rattle.bound_search.proofs.search.search.Goals as goal

pub trying-init : goal.trying-init
trying-init g c = record {
  searching = search_begins c.args.list.now c.args.aim c.args.store.now c.push_mark.new.self c.new-nodes.result.items _ _ c.requires.wanted.member
      c.in_ok-push_mark.ensures.marked c.known.ensures.monotone c.new-nodes.ensures.items refl c.in_ok-look.ensures.continues;
  unspent = c.in_ok-look.ensures.spent ∙ ap (λ (s : Levels). s.spent) c.in_ok-push_mark.ensures.marked ∙ c.in_ok-push_mark.ensures.unspent;
  fresh = c.in_ok-push_mark.ensures.unspent;
}

pub bound_level-requires-clause-cost : goal.bound_level-requires-clause-cost
bound_level-requires-clause-cost g c = (still_wanted c.args.list.now c.args.aim c.args.store.now c.trying.store c.trying.nodes.items c.pop.new.self.items
    c.in-Some.node c.trying.best c.in-Some.ensures.items c.trying.invariant.searching c.requires.wanted).cost

pub bound_level-requires-clause-node : goal.bound_level-requires-clause-node
bound_level-requires-clause-node g c = (newest_open c.args.list.now c.args.aim c.args.store.now c.trying.store c.trying.nodes.items c.pop.new.self.items
    c.in-Some.node c.trying.best c.in-Some.ensures.items c.trying.invariant.searching).node

pub advance-requires-clause-wanted : goal.advance-requires-clause-wanted
advance-requires-clause-wanted g c = bounded_wanted c.args.list.now c.args.aim c.args.store.now c.trying.store c.trying.nodes.items c.pop.new.self.items c.in-Some.node c.trying.best
    c.in-Some.ensures.items c.trying.invariant.searching
    c.requires.wanted.member c.bound_level.new.store c.bound_level.ensures.below c.in_ok-bound_level.ensures.bounded
    (c.in_ok-bound_level.ensures.kept c.if-branch.true) c.requires.wanted

pub advance-requires-clause-node : goal.advance-requires-clause-node
advance-requires-clause-node g c = bounded_newest c.args.list.now c.args.aim c.args.store.now c.trying.store c.trying.nodes.items c.pop.new.self.items c.in-Some.node c.trying.best
    c.in-Some.ensures.items c.trying.invariant.searching
    c.requires.wanted.member c.bound_level.new.store c.bound_level.ensures.below c.in_ok-bound_level.ensures.bounded
    (c.in_ok-bound_level.ensures.kept c.if-branch.true)

pub advance-requires-clause-below : goal.advance-requires-clause-below
advance-requires-clause-below g c = bounded_below c.args.list.now c.args.aim c.args.store.now c.trying.store c.trying.nodes.items c.pop.new.self.items c.in-Some.node c.trying.best
    c.in-Some.ensures.items c.trying.invariant.searching
    c.requires.wanted.member c.bound_level.new.store c.bound_level.ensures.below c.in_ok-bound_level.ensures.bounded

pub trying-smaller-in_ok-advance : goal.trying-smaller-in_ok-advance
trying-smaller-in_ok-advance g c = bounded_down c.args.list.now c.args.aim c.args.store.now c.trying.store c.trying.nodes.items c.pop.new.self.items c.in-Some.node c.trying.best
    c.in-Some.ensures.items c.trying.invariant.searching
    c.requires.wanted.member c.bound_level.new.store c.bound_level.ensures.below c.in_ok-bound_level.ensures.bounded
    _ (c.in_ok-bound_level.ensures.kept c.if-branch.true) c.in_ok-advance.ensures.work

pub trying-preserved-in_ok-advance : goal.trying-preserved-in_ok-advance
trying-preserved-in_ok-advance g c = record {
  searching = goes_on c.args.list.now c.args.aim c.args.store.now c.bound_level.new.store c.trying.nodes.items c.pop.new.self.items c.in-Some.node c.trying.best
      c.in-Some.ensures.items (newest_bounded c.args.list.now c.args.aim c.args.store.now c.trying.store c.trying.nodes.items c.pop.new.self.items c.in-Some.node c.trying.best
      c.in-Some.ensures.items c.trying.invariant.searching
      c.requires.wanted.member c.bound_level.new.store c.bound_level.ensures.below c.in_ok-bound_level.ensures.bounded
      (c.in_ok-bound_level.ensures.kept c.if-branch.true)) _ c.in_ok-advance.ensures.continues;
  unspent = c.in_ok-advance.ensures.unspent (c.in_ok-bound_level.ensures.unspent c.trying.invariant.unspent);
  fresh = c.trying.invariant.fresh;
}

pub pop_mark-requires : goal.pop_mark-requires
pop_mark-requires g c = bounded_below c.args.list.now c.args.aim c.args.store.now c.trying.store c.trying.nodes.items c.pop.new.self.items c.in-Some.node c.trying.best
    c.in-Some.ensures.items c.trying.invariant.searching
    c.requires.wanted.member c.bound_level.new.store c.bound_level.ensures.below c.in_ok-bound_level.ensures.bounded

pub trying-smaller : goal.trying-smaller
trying-smaller g c = closed_down c.args.list.now c.args.aim c.args.store.now c.trying.store c.trying.nodes.items c.pop.new.self.items c.in-Some.node c.trying.best
    c.in-Some.ensures.items c.trying.invariant.searching
    c.requires.wanted.member c.bound_level.new.store c.bound_level.ensures.below c.in_ok-bound_level.ensures.bounded
    c.pop_mark.new.self c.pop_mark.ensures.levels

pub trying-preserved : goal.trying-preserved
trying-preserved g c = record {
  searching = newest_closed c.args.list.now c.args.aim c.args.store.now c.trying.store c.trying.nodes.items c.pop.new.self.items c.in-Some.node c.trying.best
      c.in-Some.ensures.items c.trying.invariant.searching
      c.requires.wanted.member c.bound_level.new.store c.bound_level.ensures.below c.in_ok-bound_level.ensures.bounded
      c.pop_mark.new.self c.pop_mark.ensures.levels (c.in_ok-bound_level.ensures.failed c.if-branch.false);
  unspent = c.pop_mark.ensures.spent ∙ c.in_ok-bound_level.ensures.unspent c.trying.invariant.unspent;
  fresh = c.trying.invariant.fresh;
}

pub returns-in-None-clause-found : goal.returns-in-None-clause-found
returns-in-None-clause-found g c = found_none c.args.list.now c.args.aim c.args.store.now c.trying.store c.trying.nodes.items c.trying.best
    c.requires.wanted.member (none_taken c.trying.nodes.items c.pop.new.self.items c.trying.nodes.len c.in_default.ensures.items c.in_default.ensures.rest
    c.in_default.ensures.cases.0) c.trying.invariant.searching c.in-None.is

pub returns-in-None-clause-levels : goal.returns-in-None-clause-levels
returns-in-None-clause-levels g c = levels_back c.args.list.now c.args.aim c.args.store.now c.trying.store c.trying.nodes.items c.trying.best
    c.requires.wanted.member (none_taken c.trying.nodes.items c.pop.new.self.items c.trying.nodes.len c.in_default.ensures.items c.in_default.ensures.rest
    c.in_default.ensures.cases.0) c.trying.invariant.searching c.trying.invariant.unspent c.trying.invariant.fresh

pub returns-clause-found : goal.returns-clause-found
returns-clause-found g c = found_some c.args.list.now c.args.aim c.args.store.now c.trying.store c.trying.nodes.items c.trying.best c.requires.wanted.member
    (none_taken c.trying.nodes.items c.pop.new.self.items c.trying.nodes.len c.in_default.ensures.items c.in_default.ensures.rest c.in_default.ensures.cases.0)
    c.trying.invariant.searching _ c.in-Some-cost.is

pub returns-clause-levels : goal.returns-clause-levels
returns-clause-levels g c = levels_back c.args.list.now c.args.aim c.args.store.now c.trying.store c.trying.nodes.items c.trying.best c.requires.wanted.member
    (none_taken c.trying.nodes.items c.pop.new.self.items c.trying.nodes.len c.in_default.ensures.items c.in_default.ensures.rest c.in_default.ensures.cases.0)
    c.trying.invariant.searching c.trying.invariant.unspent c.trying.invariant.fresh
