use Rattle.std.proofs.Common.{◌≡◌, ◌∙◌, map, take, ap, rules}
use Rattle.std.proofs.lemmas.List.{take_all}
use Rattle.branch_goals.proofs.DomainLists.{spans_are, whole_numbers}
use Rattle.branch_goals.proofs.domains.spans_in.Goals as goal

pub returns : goal.returns
returns c =
    let all : take c.loop-low.low-index c.spans-low-items.result.now ≡ c.spans-low-items.result.now = take_all c.loop-low.low-index c.spans-low-items.result.now (search rules) in
    c.loop-low.invariant ∙ ap (map whole_numbers) all ∙ spans_are c.args.domain.now c.spans-low-items.result.now c.spans-low-items.ensures.spans c.spans-low-items.ensures.members
