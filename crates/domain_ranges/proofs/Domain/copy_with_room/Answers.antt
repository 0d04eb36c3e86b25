use Rattle.std.proofs.Common.{arith}
use Rattle.fd_language.specs.declared.TheConstants.{INFINITY}
use Rattle.domain_ranges.proofs.Members.{three_spans}
use Rattle.domain_ranges.proofs.Outcomes.{on_err}
use Rattle.domain_ranges.proofs.Domain.copy_with_room.Goals as goal

pub returns-in_err-list-clause-no_memory : goal.returns-in_err-list-clause-no_memory
returns-in_err-list-clause-no_memory c =
    on_err c.from_residual.result _ (three_spans INFINITY c.spans-spans.result.now c.args.self.now c.spans-spans.ensures.spans c.spans-spans.ensures.members
    (let more = c.if-spans-le2.false in omega (arith, more)))
