use Rattle.std.proofs.Common.{refl, ◌∙◌, ap}
use Rattle.fd_model.specs.Levels.{Levels}
use Rattle.branch_state.specs.StoreVariables.{with_level_sets}
use Rattle.branch_state.proofs.ConstraintLinks.{links_none, links_unbound, links_step}
use Rattle.branch_state.proofs.ConstraintSteps.{has_at}
use Rattle.branch_state.proofs.posting_lists.link_all.Goals as goal

pub loop-x-init : goal.loop-x-init
loop-x-init g c = record { store = refl; below = refl; linked = links_none c.args.heap.now.now c.args.store.now.current.sets }

pub link-requires : goal.link-requires
link-requires g c =
    links_unbound c.args.heap.now.now c.args.store.now.current.sets c.requires.links _ c.loop-x.heap.now c.loop-x.store.current.sets c.loop-x.invariant.linked _
    (c.requires.unbound _ (has_at c.args.variables.now c.loop-x.x-index 0 c.loop-x-test.true))

pub loop-x-preserved : goal.loop-x-preserved
loop-x-preserved g c = record {
  store = c.in_ok-link.ensures.store ∙ ap (λ (l : Levels). with_level_sets l c.link.new.store.current.sets) c.loop-x.invariant.store;
  below = c.link.ensures.below ∙ c.loop-x.invariant.below;
  linked = links_step c.args.heap.now.now c.args.store.now.current.sets c.args.variables.now c.loop-x.x-index 0 c.loop-x-test.true c.loop-x.heap.now
      c.loop-x.store.current.sets c.link.new.heap.now c.link.new.store.current.sets c.loop-x.invariant.linked c.in_ok-link.ensures.linked;
}
