use Rattle.std.proofs.Common.{◌∙◌}
use Rattle.fd_language.specs.declared.TheConstants.{INFINITY}
use Rattle.domain_ranges.proofs.Members.{members_full}
use Rattle.domain_ranges.proofs.Domain.full.Goals as goal

pub returns : goal.returns
returns c = c.of_span.ensures ∙ members_full INFINITY
