use Rattle.std.proofs.Common.{◌≡◌, ◌<◌, length}
use Rattle.std.specs.Prelude.{All}
use Rattle.fd_language.specs.Spelling.{least_place}
use Rattle.fd_model.specs.Refusals.{wide_places}
use Rattle.term_pool.specs.Terms.{total_size}
use Rattle.term_pool.specs.PlacedTerms.{placed_of}
use Rattle.clause_check.proofs.WidePlaces.{least_ahead}
use Rattle.fd_language.proofs.Lemmas.{lower}
use Rattle.clause_check.proofs.arities.wide_place.Given as goal

abbrev pub invariant-loop-next : goal.invariant-loop-next
invariant-loop-next l =
    record { within : All (λ t. t.number < length l.pool.entries) l.ahead.items; least : lower l.least (least_ahead l.pool l.ahead.items) ≡ least_place (wide_places (placed_of l.pool l.fn.t)) }

abbrev pub decreases-loop-next : goal.decreases-loop-next
decreases-loop-next l = total_size l.pool l.ahead.items
