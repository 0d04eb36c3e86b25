use Rattle.std.proofs.Common.{◌∙◌, ◌<◌, ap, subst, pos, refl}
use Rattle.fd_language.specs.declared.TheConstants.{INFINITY}
use Rattle.fd_language.specs.Range.{is_none_left}
use Rattle.domain_ranges.specs.Spans.{interval_count}
use Rattle.domain_ranges.proofs.Members.{has_within}
use Rattle.domain_ranges.proofs.Outcomes.{on_err}
use Rattle.domain_ranges.proofs.ExcludedNumbers.{excluded}
use Rattle.domain_ranges.proofs.OtherMembers.{some_left, rises}
use Rattle.domain_ranges.proofs.Domain.leave_out_apart.Goals as goal

pub leave_out-requires-clause-member : goal.leave_out-requires-clause-member
leave_out-requires-clause-member c = has_within INFINITY c.self.inside.list.items c.args.self.now c.args.n c.self.invariant.spans c.self.view_is ∙ c.requires.member

pub returns-clause-left : goal.returns-clause-left
returns-clause-left c = c.in_ok-leave_out.ensures.set ∙ excluded c.self.inside.list.items c.args.self.now (pos c.args.n) c.args.n c.self.invariant.spans c.self.view_is refl

pub returns-clause-some : goal.returns-clause-some
returns-clause-some c =
    ap is_none_left (c.in_ok-leave_out.ensures.set ∙ excluded c.self.inside.list.items c.args.self.now (pos c.args.n) c.args.n c.self.invariant.spans c.self.view_is refl)
    ∙ some_left c.args.self.now c.args.n c.args.n (rises c.self.inside.list.items c.args.self.now c.self.inside.ends c.self.invariant c.self.view_is) c.requires.member c.requires.others

pub returns-in_err-leave_out-clause-no_memory : goal.returns-in_err-leave_out-clause-no_memory
returns-in_err-leave_out-clause-no_memory c =
    on_err c.from_residual.result _ (subst (λ ns. 2 < interval_count ns)
    (excluded c.self.inside.list.items c.args.self.now (pos c.args.n) c.args.n c.self.invariant.spans c.self.view_is refl)
    c.in_err-leave_out.ensures.no_memory)
