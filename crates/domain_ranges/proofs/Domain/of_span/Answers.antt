use Rattle.std.proofs.Common.{ap, ◌∙◌, ◌∷◌, [], ◌++◌}
use Rattle.domain_ranges.specs.Spans.{members}
use Rattle.domain_ranges.proofs.Ends.{own_ends}
use Rattle.domain_ranges.proofs.Domain.of_span.Goals as goal

pub returns : goal.returns
returns c = ap members (c.push_reserved.ensures.items ∙ ap (λ l. l ++ c.args.span ∷ []) c.new-list.ensures.items)

pub invariant_of-result : goal.invariant_of-result
invariant_of-result c = own_ends c.args.span _ c.requires.order c.requires.high (c.push_reserved.ensures.items ∙ ap (λ l. l ++ c.args.span ∷ []) c.new-list.ensures.items)
