use Rattle.std.proofs.Common.{◌≡◌, ◌+◌, ◌++◌, length, drop}
use Rattle.clause_code.specs.Steps.{puts, code_of, marked_by_all}
use Rattle.clause_code.specs.SimpleGoals.{variables}
use Rattle.clause_code.proofs.WrittenSteps.{Owes}
use Rattle.clause_code.proofs.goals.load_slots.Given as goal

abbrev pub invariant-loop-slot : goal.invariant-loop-slot
invariant-loop-slot l =
    let all = puts l.pool 2 l.free (variables l.slots) in
    record {
      owes : Owes l.homes l.code.items l.made.items (puts l.pool l.register l.free (variables (drop l.slot-index l.slots)))
          (l.fn.code.items ++ code_of l.homes l.fn.made.items all) (marked_by_all l.fn.made.items all);
      long : length l.made.items ≡ length l.homes;
      register : l.register ≡ l.slot-index + 2;
    }
