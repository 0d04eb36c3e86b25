use Rattle.std.proofs.Common.{◌≡◌, ◌++◌, length, All}
use Rattle.clause_code.specs.Steps.{code_of, marked_by_all}
use Rattle.clause_code.specs.BuildStack.{stack_steps, total_weight, IsWork}
use Rattle.clause_code.proofs.WrittenSteps.{Owes}
use Rattle.clause_code.proofs.terms.work_all.Given as goal

abbrev pub invariant-loop-work : goal.invariant-loop-work
invariant-loop-work l =
    let all = stack_steps l.pool l.fn.works.items in
    record {
      owes : Owes l.homes l.code.items l.made.items (stack_steps l.pool l.works.items) (l.fn.code.items ++ code_of l.homes l.fn.made.items all) (marked_by_all l.fn.made.items all);
      works : All (IsWork l.pool (length l.homes)) l.works.items;
      long : length l.made.items ≡ length l.homes;
    }

abbrev pub decreases-loop-work : goal.decreases-loop-work
decreases-loop-work l = total_weight l.pool l.works.items
