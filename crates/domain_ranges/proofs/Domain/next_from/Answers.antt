use Rattle.fd_language.specs.declared.TheConstants.{INFINITY}
use Rattle.domain_ranges.proofs.Images.{next_match, next_member}
use Rattle.domain_ranges.proofs.Domain.next_from.Goals as goal

pub returns-clause-least : goal.returns-clause-least
returns-clause-least c = next_match INFINITY c.spans.result.now c.args.self.now c.args.n c.next_from.result c.spans.ensures.spans c.spans.ensures.members
    c.spans.ensures.rising c.next_from.ensures.none c.next_from.ensures.from c.next_from.ensures.there c.next_from.ensures.least

pub returns-clause-member : goal.returns-clause-member
returns-clause-member c = next_member INFINITY c.spans.result.now c.args.self.now c.next_from.result c.spans.ensures.spans c.spans.ensures.members c.next_from.ensures.there
