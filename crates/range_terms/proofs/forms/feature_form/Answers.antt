use Rattle.std.proofs.Common.{sym}
use Rattle.term_pool.specs.PlacedTerms.{placed_of}
use Rattle.range_terms.proofs.Positions.{feature_node, no_feature, feature_of_other}
use Rattle.range_terms.proofs.forms.feature_form.Goals as goal

pub returns-in-Some-feature : goal.returns-in-Some-feature
returns-in-Some-feature c = λ N p. feature_node N c.args.name.now (placed_of c.args.pool.now c.args.only) c.in-Some.variable c.in-Some.ensures.0 p
    c.in-Some-feature.node c.in-Some.ensures.1 (sym c.in-Some-feature.ensures)

pub returns-in-None-feature : goal.returns-in-None-feature
returns-in-None-feature c = λ N p. no_feature N c.args.name.now (placed_of c.args.pool.now c.args.only) c.in-Some.variable c.in-Some.ensures.0 p c.in-Some.ensures.1 (sym c.in-None-feature.ensures)

pub returns-in-None : goal.returns-in-None
returns-in-None c = λ N p. feature_of_other N c.args.name.now (placed_of c.args.pool.now c.args.only) p c.in-None.ensures
