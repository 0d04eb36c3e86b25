use Rattle.std.proofs.Common.{◌≡◌, ◌<◌, length, map}
use Rattle.std.specs.Prelude.{All}
use Rattle.fd_language.specs.Spelling.{least_place}
use Rattle.term_pool.specs.Contents.{atom_name}
use Rattle.term_pool.specs.Terms.{total_size}
use Rattle.term_pool.specs.PlacedTerms.{placed_of}
use Rattle.answer_check.specs.FlatForm.{hidden_places}
use Rattle.answer_check.proofs.HiddenPlaces.{least_ahead}
use Rattle.fd_language.proofs.Lemmas.{lower}
use Rattle.answer_check.proofs.query.hidden_place.Given as goal

abbrev pub invariant-loop-next : goal.invariant-loop-next
invariant-loop-next l = record {
  within : All (λ t. t.number < length l.pool.entries) l.ahead.items;
  least : lower l.least (least_ahead (map (atom_name l.pool) l.names) l.pool l.ahead.items) ≡ least_place (hidden_places (map (atom_name l.pool) l.names) (placed_of l.pool l.fn.t));
}

abbrev pub decreases-loop-next : goal.decreases-loop-next
decreases-loop-next l = total_size l.pool l.ahead.items
