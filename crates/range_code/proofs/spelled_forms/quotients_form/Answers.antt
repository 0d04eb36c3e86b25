use Rattle.std.proofs.Common.{◌∙◌}
use Rattle.range_code.specs.SpelledRanges.{quotients_range}
use Rattle.range_code.proofs.Forms.{spelled_same}
use Rattle.range_code.proofs.spelled_forms.quotients_form.Goals as goal

pub returns-clause-form : goal.returns-clause-form
returns-clause-form c = spelled_same c.args.nodes.now (quotients_range c.in-Min.one c.in-Max.other)
    (c.are_same_nodes.ensures.0 c.if-not-are_same_nodes.false ∙ c.quotients_nodes.ensures)
