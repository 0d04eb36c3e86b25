use Rattle.std.proofs.Common.{ap, w64, pos}
use Rattle.std.proofs.lemmas.Int.{to_z-of_z}
use Rattle.heap_cells.specs.Cells.{Heaps}
use Rattle.branch_state.proofs.ConstraintHeaps.{int_absent}
use Rattle.branch_state.proofs.ConstraintSteps.{next_there, next_unbound, bound_step}
use Rattle.branch_state.proofs.constraints.bind_all.Goals as goal

pub bind-requires-clause-there : goal.bind-requires-clause-there
bind-requires-clause-there c = next_there c.args.from c.args.equated.now c.args.heap.now.now c.requires.numbers c.requires.unbound c.loop-pair.pair-index (
  0,
  pos 0,
) c.loop-pair-test.true c.loop-pair.heap.now (ap (λ (x : Heaps). x.now) c.loop-pair.invariant.0)

pub bind-requires-clause-unbound : goal.bind-requires-clause-unbound
bind-requires-clause-unbound c = next_unbound c.args.from c.args.equated.now c.args.heap.now.now c.requires.numbers c.requires.unbound c.loop-pair.pair-index
    (0, pos 0) c.loop-pair-test.true c.loop-pair.heap.now (ap (λ (x : Heaps). x.now) c.loop-pair.invariant.0)

pub bind-requires-clause-absent : goal.bind-requires-clause-absent
bind-requires-clause-absent c = λ name. int_absent c.loop-pair.heap.now c.loop-pair.invariant.1 _ _ name

pub loop-pair-preserved : goal.loop-pair-preserved
loop-pair-preserved c = (
  bound_step c.args.equated.now c.loop-pair.pair-index (0, pos 0) c.loop-pair-test.true c.args.heap.now c.loop-pair.heap c.bind.new.self _
      c.loop-pair.invariant.0 (to_z-of_z w64 _ (c.requires.words c.loop-pair.pair-index (0, pos 0) c.loop-pair-test.true)) c.in_ok-bind.ensures.bound,
  c.bind.ensures.valid,
)
