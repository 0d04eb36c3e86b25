use Rattle.std.proofs.Common.{refl, sym}
use Rattle.term_pool.specs.PlacedTerms.{placed_of}
use Rattle.range_terms.proofs.Positions.{operation_node, no_operation}
use Rattle.range_terms.proofs.forms.operation_form.Goals as goal

pub returns-in-Some : goal.returns-in-Some
returns-in-Some c = λ N p. (
  refl,
  operation_node N c.args.position c.requires c.args.name.now (placed_of c.args.pool.now c.args.first)
      (placed_of c.args.pool.now c.args.second) p c.in-Some.node (sym c.in-Some.ensures),
)

pub returns-in-None : goal.returns-in-None
returns-in-None c = λ N p. no_operation N c.args.position c.requires c.args.name.now (placed_of c.args.pool.now c.args.first) (placed_of c.args.pool.now c.args.second) p (sym c.in-None.ensures)
