use Rattle.std.proofs.Common.{subst, ◌∙◌, ◌<◌}
use Rattle.fd_language.specs.Family.{has}
use Rattle.fd_language.specs.declared.TheConstants.{INFINITY}
use Rattle.fd_language.proofs.Lemmas.{rising-filter}
use Rattle.domain_ranges.specs.Spans.{interval_count}
use Rattle.domain_ranges.proofs.Members.{meet_is}
use Rattle.domain_ranges.proofs.Outcomes.{on_err}
use Rattle.domain_ranges.proofs.Domain.intersect.Goals as goal

pub returns-in_err-list-clause-rising : goal.returns-in_err-list-clause-rising
returns-in_err-list-clause-rising c = rising-filter (has c.args.other.now) 0 INFINITY c.args.self.now c.spans.ensures.rising

pub returns-in_err-list-clause-no_memory : goal.returns-in_err-list-clause-no_memory
returns-in_err-list-clause-no_memory c = on_err c.from_residual.result _
    (subst (λ ns. 2 < interval_count ns) (meet_is INFINITY c.spans.result.now c.spans-2.result.now c.args.self.now c.args.other.now c.spans.ensures.spans
    c.spans-2.ensures.spans c.spans.ensures.members c.spans-2.ensures.members) c.in_err-list.ensures.no_memory)

pub returns-clause-set : goal.returns-clause-set
returns-clause-set c = c.of_list.ensures ∙ c.in_ok-list.ensures.set ∙ meet_is INFINITY c.spans.result.now c.spans-2.result.now c.args.self.now c.args.other.now
    c.spans.ensures.spans c.spans-2.ensures.spans c.spans.ensures.members c.spans-2.ensures.members

pub returns-clause-rising : goal.returns-clause-rising
returns-clause-rising c = rising-filter (has c.args.other.now) 0 INFINITY c.args.self.now c.spans.ensures.rising
