use Rattle.std.proofs.Common.{subst, ap, ◌∙◌, ◌<◌, to_z-of_z, filter}
use Rattle.fd_language.specs.Family.{universe}
use Rattle.fd_language.specs.declared.TheConstants.{INFINITY}
use Rattle.domain_ranges.specs.Spans.{interval_count, shifted}
use Rattle.domain_ranges.proofs.Images.{shift_set}
use Rattle.domain_ranges.proofs.Outcomes.{on_err}
use Rattle.domain_ranges.proofs.Domain.shift.Goals as goal

pub returns-in_err-list-clause-no_memory : goal.returns-in_err-list-clause-no_memory
returns-in_err-list-clause-no_memory c = on_err c.from_residual.result _
    (subst (λ ns. 2 < interval_count ns) (ap (λ z. filter (shifted c.spans.result.now z) (universe INFINITY)) (to_z-of_z c.ranges.c)
    ∙ shift_set INFINITY c.spans.result.now c.args.self.now c.args.c c.spans.ensures.spans c.spans.ensures.members) c.in_err-list.ensures.no_memory)

pub returns-clause-set : goal.returns-clause-set
returns-clause-set c = c.of_list.ensures ∙ c.in_ok-list.ensures.set ∙ ap (λ z. filter (shifted c.spans.result.now z) (universe INFINITY)) (to_z-of_z c.ranges.c)
    ∙ shift_set INFINITY c.spans.result.now c.args.self.now c.args.c c.spans.ensures.spans c.spans.ensures.members
