use Rattle.std.proofs.Common.{◌≡◌, ◌≤◌, ◌*◌, ◌-◌, length}
use Rattle.answer_check.specs.FlatForm.{FlatQuery as Flat}
use Rattle.answer_check.specs.Queries.{IsQuery}
use Rattle.answer_check.proofs.RowReading.{IsReadTo}
use Rattle.answer_check.proofs.answers.read_answers.Given as goal

abbrev pub invariant-loop-at : goal.invariant-loop-at
invariant-loop-at l = record {
  within : l.at ≤ length l.input;
  few : l.count ≤ l.at;
  whole : length l.values.items ≡ l.count * l.variables;
  read : (f : Flat) → IsQuery f l.query → IsReadTo f.query l.fn.from l.input l.at l.values.items l.count;
}

abbrev pub decreases-loop-at : goal.decreases-loop-at
decreases-loop-at l = length l.input - l.at
