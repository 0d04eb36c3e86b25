use Rattle.std.proofs.Common.{sym}
use Rattle.std.proofs.lemmas.Bool.{true≢false}
use Rattle.fd_language.specs.declared.TheConstants.{INFINITY}
use Rattle.domain_ranges.proofs.Members.{three_spans}
use Rattle.domain_ranges.proofs.Outcomes.{on_err, more_than_two}
use Rattle.domain_ranges.proofs.Domain.copy_apart.Goals as goal

pub returns-in_err-list-clause-no_memory : goal.returns-in_err-list-clause-no_memory
returns-in_err-list-clause-no_memory c = on_err c.from_residual.result _
    (three_spans INFINITY c.spans.result.now c.args.self.now c.spans.ensures.spans c.spans.ensures.members
    (more_than_two _ (λ k. true≢false (sym (c.in_err-list.ensures.succeeds k)))))
