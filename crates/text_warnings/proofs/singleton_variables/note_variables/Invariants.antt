use Rattle.std.proofs.Common.{◌≡◌, ◌<◌, ℕ, length, get_or}
use Rattle.std.specs.Prelude.{All}
use Rattle.term_pool.specs.Terms.{total_size}
use Rattle.term_pool.specs.PlacedTerms.{placed_of}
use Rattle.text_warnings.specs.Warnings.{places_of}
use Rattle.text_warnings.specs.OccurrenceCounts.{met_at, joined}
use Rattle.text_warnings.specs.declared.singleton_variables.Met.TheVariants.{Never}
use Rattle.text_warnings.proofs.OccurrenceCounts.{met_ahead}
use Rattle.text_warnings.proofs.singleton_variables.note_variables.Given as goal

abbrev pub invariant-loop-next : goal.invariant-loop-next
invariant-loop-next l = record {
  within : All (λ t. t.number < length l.pool.entries) l.ahead.items;
  met : (n : ℕ) → n < length l.initial.met → joined (get_or l.met n Never) (met_ahead l.pool n l.ahead.items) ≡ joined (get_or l.initial.met n Never) (met_at (places_of n (placed_of l.pool l.fn.t)));
}

abbrev pub decreases-loop-next : goal.decreases-loop-next
decreases-loop-next l = total_size l.pool l.ahead.items
