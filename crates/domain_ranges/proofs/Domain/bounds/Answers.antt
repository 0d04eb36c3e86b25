use Rattle.fd_language.specs.declared.TheConstants.{INFINITY}
use Rattle.domain_ranges.proofs.Members.{none_is, least_is, greatest_is, least_has, greatest_has}
use Rattle.domain_ranges.proofs.Domain.bounds.Goals as goal

pub returns-in-empty-clause-least : goal.returns-in-empty-clause-least
returns-in-empty-clause-least c = none_is c.spans-spans.result.now c.args.self.now c.spans-spans.ensures.members c.in-empty.len_below

pub returns-in-len1-up-clause-least : goal.returns-in-len1-up-clause-least
returns-in-len1-up-clause-least c = (least_is INFINITY c.spans-spans.result.now c.args.self.now c.spans-spans.ensures.spans c.spans-spans.ensures.members c.in-len1-up.len_at_least).1

pub returns-in-len1-up-clause-greatest : goal.returns-in-len1-up-clause-greatest
returns-in-len1-up-clause-greatest c = (greatest_is INFINITY c.spans-spans.result.now c.args.self.now c.spans-spans.ensures.spans c.spans-spans.ensures.members c.in-len1-up.len_at_least).1

pub returns-in-len1-up-clause-some : goal.returns-in-len1-up-clause-some
returns-in-len1-up-clause-some c = (least_is INFINITY c.spans-spans.result.now c.args.self.now c.spans-spans.ensures.spans c.spans-spans.ensures.members c.in-len1-up.len_at_least).0

pub returns-in-len1-up-clause-members : goal.returns-in-len1-up-clause-members
returns-in-len1-up-clause-members c =
    let low = least_is INFINITY c.spans-spans.result.now c.args.self.now c.spans-spans.ensures.spans c.spans-spans.ensures.members c.in-len1-up.len_at_least in
    let high = greatest_is INFINITY c.spans-spans.result.now c.args.self.now c.spans-spans.ensures.spans c.spans-spans.ensures.members c.in-len1-up.len_at_least in
    (least_has c.args.self.now _ low.0 low.1, greatest_has c.args.self.now _ high.0 high.1)
