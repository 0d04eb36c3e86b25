use Rattle.std.proofs.Common.{◌≡◌, ◌∙◌, ◌-◌, ap, arith}
use Rattle.heap_cells.specs.Cells.{with_now}
use Rattle.branch_state.specs.Constraints.{with_variables}
use Rattle.branch_state.proofs.constraints.add_variables.Goals as goal

pub returns-clause-added : goal.returns-clause-added
returns-clause-added c =
    let a = c.loop.invariant.to in
    let b = c.loop-test.false in
    c.loop.invariant.added ∙ ap (λ n. with_now c.args.heap.now (with_variables n c.args.heap.now.now)) (let e : c.loop.counter - c.args.from ≡ c.args.to - c.args.from = omega (arith, a, b) in e)
