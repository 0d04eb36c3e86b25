use Rattle.std.proofs.Common.{◌∙◌, ap}
use Rattle.fd_language.specs.Range.{is_none_left}
use Rattle.domain_ranges.proofs.OtherMembers.{some_left}
use Rattle.domain_ranges.proofs.Domain.leave_out.Goals as goal

pub returns-clause-some : goal.returns-clause-some
returns-clause-some c =
    ap is_none_left c.interval_without.ensures ∙ some_left c.args.self.now c.args.n c.args.n c.rises.ensures c.requires.member c.requires.others
