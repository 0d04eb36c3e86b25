use Rattle.std.proofs.Common.{◌≡◌, take, map}
use Rattle.range_code.specs.declared.frame.Arg.TheVariants as arg
use Rattle.branch_state.specs.Constraints.{store_variable}
use Rattle.branch_state.proofs.posting_lists.arguments.Given as goal

abbrev pub invariant-loop-x : goal.invariant-loop-x
invariant-loop-x l = l.args.items ≡ map (λ y. arg.Var (store_variable l.heap.now y)) (take l.x-index l.slots)
