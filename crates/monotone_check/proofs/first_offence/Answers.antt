use Rattle.std.proofs.Common.{sym, ◌∙◌}
use Rattle.monotone_check.proofs.RangeVerdict.{whole_wide, whole_rest}
use Rattle.monotone_check.proofs.first_offence.Goals as goal

pub returns-then-is_some : goal.returns-then-is_some
returns-then-is_some c = whole_wide c.args.places.now c.nodes-nodes.result.now c.args.range.now c.in_ok-summary.summary c.nodes-nodes.ensures
    c.in_ok-summary.ensures (sym c.is_some.ensures ∙ c.if-is_some.true)

pub returns : goal.returns
returns c = whole_rest c.args.places.now c.nodes-nodes.result.now c.args.range.now c.in_ok-summary.summary c.in_ok-clash.clash c.earlier.result
    c.nodes-nodes.ensures c.in_ok-summary.ensures (sym c.is_some.ensures ∙ c.if-is_some.false) c.in_ok-clash.ensures c.earlier.ensures
