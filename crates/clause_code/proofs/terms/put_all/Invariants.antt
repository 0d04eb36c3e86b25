use Rattle.std.proofs.Common.{◌≡◌, ◌+◌, ◌++◌, [], length}
use Rattle.clause_code.specs.Steps.{puts, AllSuit, code_of, marked_by_all}
use Rattle.clause_code.proofs.Rests.{rest}
use Rattle.clause_code.proofs.WrittenSteps.{Owes}
use Rattle.clause_code.proofs.terms.put_all.Given as goal

abbrev pub invariant-loop-id : goal.invariant-loop-id
invariant-loop-id l =
    let all = puts l.pool 1 l.free (rest l.pool l.ids 0) in
    record {
      owes : Owes l.homes l.code.items l.made.items (puts l.pool l.register l.free (rest l.pool l.ids l.id-index))
          (l.fn.code.items ++ code_of l.homes l.fn.made.items all) (marked_by_all l.fn.made.items all);
      suits : AllSuit l.pool (length l.homes) (rest l.pool l.ids l.id-index);
      long : length l.made.items ≡ length l.homes;
      register : l.register ≡ l.id-index + 1;
      works : l.works.items ≡ [];
    }
