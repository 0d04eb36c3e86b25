use Rattle.std.proofs.Common.{◌∙◌, sym}
use Rattle.domain_ranges.proofs.Ends.{own_ends}
use Rattle.domain_ranges.proofs.Parts.{replaced}
use Rattle.domain_ranges.proofs.Domain.set_interval.Goals as goal

pub invariant_of-self : goal.invariant_of-self
invariant_of-self c =
    own_ends (c.args.low, c.args.high) _ c.requires.order c.requires.high
    (replaced c.self.inside.list.items c.as_mut_slice-spans.result.now (c.args.low, c.args.high) c.as_mut_slice-spans.ensures.value (sym c.len.ensures.value ∙ c.if-len-eq1.true))
