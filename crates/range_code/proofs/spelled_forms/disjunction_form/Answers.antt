use Rattle.std.proofs.Common.{◌∙◌}
use Rattle.range_code.specs.SpelledRanges.{disjunction_range}
use Rattle.range_code.proofs.Forms.{spelled_same}
use Rattle.range_code.proofs.spelled_forms.disjunction_form.Goals as goal

pub returns-clause-form : goal.returns-clause-form
returns-clause-form c = spelled_same c.args.nodes.now (disjunction_range c.in-Min.one c.in-Min-second.other)
    (c.are_same_nodes.ensures.0 c.if-not-are_same_nodes.false ∙ c.disjunction_nodes.ensures)
