use Rattle.std.proofs.Common.{refl, sym}
use Rattle.term_pool.specs.PlacedTerms.{placed_of}
use Rattle.range_terms.proofs.Positions.{double_range, no_double_range}
use Rattle.range_terms.proofs.forms.double_range_form.Goals as goal

pub returns-in-Some : goal.returns-in-Some
returns-in-Some c = λ N p. (refl, double_range N c.args.name.now c.in-Some.operator (placed_of c.args.pool.now c.args.first) (placed_of c.args.pool.now c.args.second) p (sym c.in-Some.ensures))

pub returns-in-None : goal.returns-in-None
returns-in-None c = λ N p. no_double_range N c.args.name.now (placed_of c.args.pool.now c.args.first) (placed_of c.args.pool.now c.args.second) p (sym c.in-None.ensures)
