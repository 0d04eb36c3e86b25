use Rattle.std.proofs.Common.{◌∙◌, eqb-true, eq-eqb, sym}
use Rattle.domain_ranges.proofs.Parts.{one_interval, interval_alone}
use Rattle.domain_ranges.proofs.Domain.is_interval.Goals as goal

pub returns : goal.returns
returns c = (
  λ t. one_interval c.self.inside.list.items c.args.self.now c.self.inside.ends c.self.invariant c.self.view_is (sym c.len.ensures.value ∙ eqb-true c.len.result 1 t),
  λ i. eq-eqb c.len.result 1 (c.len.ensures.value ∙ interval_alone c.self.inside.list.items c.args.self.now c.self.invariant.spans c.self.view_is i),
)
