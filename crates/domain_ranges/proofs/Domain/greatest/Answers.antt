use Rattle.std.proofs.Common.{subst}
use Rattle.fd_language.specs.Family.{IsRising}
use Rattle.fd_language.specs.declared.TheConstants.{INFINITY}
use Rattle.domain_ranges.proofs.Members.{members_rising}
use Rattle.domain_ranges.proofs.Domain.greatest.Goals as goal

pub returns-clause-rising : goal.returns-clause-rising
returns-clause-rising c = subst (IsRising 0 INFINITY) c.self.view_is (members_rising 0 INFINITY c.self.inside.list.items c.self.invariant.spans)
