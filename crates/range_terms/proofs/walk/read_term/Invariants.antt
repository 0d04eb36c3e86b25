use Rattle.term_pool.specs.PlacedTerms.{placed_of}
use Rattle.range_terms.specs.TermNodes.{wanted}
use Rattle.range_terms.specs.Walk.{load, IsLeft}
use Rattle.range_terms.specs.declared.forms.Position.TheVariants as place_in
use Rattle.range_terms.proofs.walk.read_term.Given as goal

abbrev pub invariant-loop-task : goal.invariant-loop-task
invariant-loop-task l = IsLeft l.infinity l.pool (wanted l.infinity place_in.Range (placed_of l.pool l.fn.t)) l.found l.ahead.items

abbrev pub decreases-loop-task : goal.decreases-loop-task
decreases-loop-task l = load l.pool l.ahead.items
