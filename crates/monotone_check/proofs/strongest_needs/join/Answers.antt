use Rattle.std.proofs.Common.{rules, ◌≤◌, ◌<◌, length, ◌∙◌}
use Rattle.monotone_check.proofs.NeedLoops.{join_at, join_new}
use Rattle.monotone_check.proofs.strongest_needs.join.Goals as goal

pub returns-then-number-len : goal.returns-then-number-len
returns-then-number-len c =
    let l : c.args.number < length c.args.needs.now.items = search rules in
    join_at c.args.needs.now.items c.index-found.result.now c.args.variable c.args.need c.stronger.result c.args.number l c.index-found.ensures c.stronger.ensures

pub returns-in_ok-push : goal.returns-in_ok-push
returns-in_ok-push c =
    let l : length c.args.needs.now.items ≤ c.args.number = search rules in
    λ e. c.in_ok-push.ensures.items ∙ join_new c.args.needs.now.items c.args.variable c.args.need c.args.number l e
