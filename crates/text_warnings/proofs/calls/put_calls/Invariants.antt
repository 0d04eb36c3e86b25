use Rattle.std.proofs.Common.{◌≡◌, ◌<◌, ◌++◌, length}
use Rattle.std.specs.Prelude.{All}
use Rattle.term_pool.specs.Terms.{total_size}
use Rattle.text_warnings.proofs.BodyCalls.{own_calls, ahead_calls}
use Rattle.text_warnings.proofs.calls.put_calls.Given as goal

abbrev pub invariant-loop-next : goal.invariant-loop-next
invariant-loop-next l = record {
  within : All (λ t. t.number < length l.pool.entries) l.ahead.items;
  calls : l.calls.items ++ ahead_calls l.pool l.functors.keys l.ahead.items ≡ l.initial.calls.items ++ own_calls l.pool l.functors.keys l.fn.body;
}

abbrev pub decreases-loop-next : goal.decreases-loop-next
decreases-loop-next l = total_size l.pool l.ahead.items
