use Rattle.fd_language.specs.declared.TheConstants.{INFINITY}
use Rattle.domain_ranges.proofs.Inclusion.{subset_of, member_out}
use Rattle.domain_ranges.proofs.Domain.is_inside.Goals as goal

pub returns-clause-inside : goal.returns-clause-inside
returns-clause-inside c = λ t. subset_of INFINITY c.spans.result.now c.spans-2.result.now c.args.self.now c.args.other.now c.spans.ensures.spans
    c.spans-2.ensures.spans c.spans.ensures.members c.spans-2.ensures.members (c.is_inside.ensures.inside t)

pub returns-clause-outside : goal.returns-clause-outside
returns-clause-outside c = λ f. member_out INFINITY c.spans.result.now c.spans-2.result.now c.args.self.now c.args.other.now c.spans.ensures.spans
    c.spans-2.ensures.spans c.spans.ensures.members c.spans-2.ensures.members (c.is_inside.ensures.outside f)
