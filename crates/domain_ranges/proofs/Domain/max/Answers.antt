use Rattle.fd_language.specs.declared.TheConstants.{INFINITY}
use Rattle.domain_ranges.proofs.Members.{none_is, greatest_is, greatest_has}
use Rattle.domain_ranges.proofs.Domain.max.Goals as goal

pub returns-in-empty-clause-greatest : goal.returns-in-empty-clause-greatest
returns-in-empty-clause-greatest c = none_is c.spans.result.now c.args.self.now c.spans.ensures.members c.in-empty.len_below

pub returns-in-len1-up-clause-greatest : goal.returns-in-len1-up-clause-greatest
returns-in-len1-up-clause-greatest c = (greatest_is INFINITY c.spans.result.now c.args.self.now c.spans.ensures.spans c.spans.ensures.members c.in-len1-up.len_at_least).1

pub returns-in-len1-up-clause-some : goal.returns-in-len1-up-clause-some
returns-in-len1-up-clause-some c = (greatest_is INFINITY c.spans.result.now c.args.self.now c.spans.ensures.spans c.spans.ensures.members c.in-len1-up.len_at_least).0

pub returns-in-len1-up-clause-member : goal.returns-in-len1-up-clause-member
returns-in-len1-up-clause-member c = let both = greatest_is INFINITY c.spans.result.now c.args.self.now c.spans.ensures.spans c.spans.ensures.members
    c.in-len1-up.len_at_least in greatest_has c.args.self.now _ both.0 both.1
