use Rattle.std.proofs.Common.{ap, sym, ◌∙◌, cond, ◌∷◌, []}
use Rattle.domain_ranges.specs.Spans.{members}
use Rattle.domain_ranges.proofs.Members.{members_none}
use Rattle.domain_ranges.proofs.Domain.zero_if.Goals as goal

pub returns-else-there : goal.returns-else-there
returns-else-there c = c.empty.ensures ∙ sym members_none ∙ ap (λ b. members (cond b ((0, 0) ∷ []) [])) (sym c.if-there.false)
