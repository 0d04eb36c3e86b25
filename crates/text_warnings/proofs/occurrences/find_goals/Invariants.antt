use Rattle.std.proofs.Common.{◌<◌, length, map}
use Rattle.std.specs.Prelude.{All}
use Rattle.term_pool.specs.Terms.{total_size}
use Rattle.term_pool.specs.PlacedTerms.{placed_of}
use Rattle.text_warnings.specs.OpenVariables.{outer_goals}
use Rattle.text_warnings.proofs.Walks.{IsFinding}
use Rattle.text_warnings.proofs.occurrences.find_goals.Given as goal

abbrev pub invariant-loop-next : goal.invariant-loop-next
invariant-loop-next l = record {
  own : All (λ g. g.number < length l.pool.entries) l.goals.items;
  found : IsFinding l.pool outer_goals l.fn.body (map (placed_of l.pool) l.goals.items) l.ahead.items;
}

abbrev pub decreases-loop-next : goal.decreases-loop-next
decreases-loop-next l = total_size l.pool l.ahead.items
