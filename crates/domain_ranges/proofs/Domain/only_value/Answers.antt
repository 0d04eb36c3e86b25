use Rattle.std.proofs.Common.{sym, ◌∙◌}
use Rattle.domain_ranges.proofs.SingleValues.{only_least, only_none}
use Rattle.domain_ranges.proofs.Domain.only_value.Goals as goal

pub returns-then-eq : goal.returns-then-eq
returns-then-eq c = only_least _ c.args.self.now c.min-least.result c.max.result c.min-least.ensures.rising c.min-least.ensures.least c.min-least.ensures.some
    c.max.ensures.greatest (sym c.eq.ensures ∙ c.if-eq.true)

pub returns-else-eq : goal.returns-else-eq
returns-else-eq c = only_none c.args.self.now c.min-least.result c.max.result c.min-least.ensures.least c.max.ensures.greatest (sym c.eq.ensures ∙ c.if-eq.false)
