use Rattle.std.proofs.Common.{◌∙◌, sym, subst}
use Rattle.unify_core.specs.OccursCheck.{LeavesAhead}
use Rattle.unify_core.proofs.OccursCheck.{found_among, leaves_next, var_there, var_absent, constant_absent, leaves_absent, leaves_pushed}
use Rattle.unify_core.proofs.look_into.Goals as goal
use Rattle.unify_core.proofs.look_into.Goals.{in-Ref+else-i-var, in-Struct+in_ok-push-in-Struct, in_default}

pub returns-then-i-var-clause-found : goal.returns-then-i-var-clause-found
returns-then-i-var-clause-found c = found_among c.args.heap.now.now c.args.var c.args.cells.now c.loop-c.c-index _ c.loop-c-test.true
    (var_there c.args.heap.now.now c.root.ensures.valid c.args.var c.in-Ref.i _ c.in-Ref.ensures.root c.in-Ref.ensures.same c.if-i-var.true)

pub loop-c-preserved : goal.loop-c-preserved
loop-c-preserved c =
    let h = c.args.heap.now.now in
    leaves_next h c.args.var c.args.cells.now c.loop-c.c-index _ c.loop-c-test.true c.args.ahead.now c.match-root.ahead (elim c.match-root.branch [
      | in-Ref+else-i-var w ↦ subst (LeavesAhead h c.args.var _ c.args.ahead.now) (sym w.ahead-is)
          (leaves_absent h c.args.var _ _ c.args.ahead.now c.loop-c.ahead c.loop-c.invariant
          (var_absent h c.root.ensures.valid c.args.var w.in-Ref.i _ w.in-Ref.ensures.root w.in-Ref.ensures.same w.if-i-var.false))
      | in-Struct+in_ok-push-in-Struct w ↦ leaves_pushed h c.args.var _ _ c.args.ahead.now c.loop-c.ahead c.loop-c.invariant w.in-Struct.j c.match-root.ahead
          (w.ahead-is ∙ w.in_ok-push-in-Struct.ensures) w.in-Struct.ensures.own w.in-Struct.ensures.same
      | in_default w ↦ subst (LeavesAhead h c.args.var _ c.args.ahead.now) (sym w.ahead-is)
          (leaves_absent h c.args.var _ _ c.args.ahead.now c.loop-c.ahead c.loop-c.invariant
          (constant_absent h c.root.ensures.valid c.args.var _ c.root.result c.root.ensures.same (λ i. w.in_default.not-Ref i)
          (λ j. w.in_default.not-Struct j)))
    ])
