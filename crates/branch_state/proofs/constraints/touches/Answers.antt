use Rattle.std.proofs.Common.{◌≡◌, ◌∙◌, ap, w64, pos, ℤ, get_or, to_z, of_z}
use Rattle.std.proofs.lemmas.Int.{to_z-of_z}
use Rattle.unify_core.specs.declared.Touch.TheVariants.{Value}
use Rattle.branch_state.specs.Constraints.{store_variable}
use Rattle.branch_state.proofs.ConstraintSteps.{equated_linked, touches_step}
use Rattle.branch_state.proofs.constraints.touches.Goals as goal

pub variable_of-requires : goal.variable_of-requires
variable_of-requires c = equated_linked c.args.heap.now.now c.args.equated.now c.loop-pair.pair-index (0, pos 0) c.loop-pair-test.true c.requires.linked

pub loop-pair-preserved : goal.loop-pair-preserved
loop-pair-preserved c =
    let d = get_or c.args.equated.now c.loop-pair.pair-index (0, pos 0) in
    let z : ℤ = to_z w64 (of_z w64 d.1) in
    let of = store_variable c.args.heap.now.now in
    let is : Value c.variable_of.result z ≡ Value (of d.0) d.1 = ap (λ k. Value k z) c.variable_of.ensures
    ∙ ap (λ (y : ℤ). Value (of d.0) y) (to_z-of_z w64 d.1 (c.requires.words c.loop-pair.pair-index (0, pos 0) c.loop-pair-test.true)) in
    touches_step of c.args.equated.now c.loop-pair.pair-index (0, pos 0) c.loop-pair-test.true c.loop-pair.fixed.items c.push.new.self.items
    (Value c.variable_of.result z) c.loop-pair.invariant is c.in_ok-push.ensures.items
