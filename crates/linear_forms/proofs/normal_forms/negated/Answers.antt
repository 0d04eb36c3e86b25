use Rattle.std.proofs.Common.{pos, get_or}
use Rattle.linear_forms.proofs.Words.{passed_negation}
use Rattle.linear_forms.proofs.NegatedSums.{integer_at, negated_turns}
use Rattle.linear_forms.proofs.normal_forms.negated.Goals as goal

pub loop-variable-preserved : goal.loop-variable-preserved
loop-variable-preserved c =
    let ts = c.args.terms.now in
    let i = c.loop-variable.variable-index in
    negated_turns ts c.loop-variable.turned.items c.push.new.self.items i _ c.loop-variable-test.true c.loop-variable.invariant
    (passed_negation (get_or ts i (0, pos 0)).1 (integer_at ts i (0, pos 0) c.requires c.loop-variable-test.true)) c.in_ok-push.ensures.items
