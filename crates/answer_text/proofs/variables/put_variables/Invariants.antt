use Rattle.std.proofs.Common.{◌≡◌, ◌<◌, length}
use Rattle.std.specs.Prelude.{All}
use Rattle.fd_language.specs.Variables.{variables_of}
use Rattle.term_pool.specs.Terms.{term_of, total_size}
use Rattle.answer_text.specs.Pieces.{inserted}
use Rattle.answer_text.proofs.PendingVariables.{variables_ahead}
use Rattle.answer_text.proofs.variables.put_variables.Given as goal

abbrev pub invariant-loop-next : goal.invariant-loop-next
invariant-loop-next l =
    record {
      within : All (λ t. t.number < length l.pool.entries) l.ahead.items;
      own : inserted l.own.keys (variables_ahead l.pool l.ahead.items) ≡ inserted l.fn.own.keys (variables_of (term_of l.pool l.fn.t));
    }

abbrev pub decreases-loop-next : goal.decreases-loop-next
decreases-loop-next l = total_size l.pool l.ahead.items
