use Rattle.std.proofs.Common.{◌<◌, rules, arith}
use Rattle.code_text.proofs.ListPrefixes.{each_done, each_miss}
use Rattle.code_flow.proofs.Lemmas.{all_step}
use Rattle.code_text.proofs.places.are_ahead.Goals as goal

pub loop-index-preserved : goal.loop-index-preserved
loop-index-preserved c =
    all_step c.args.named.now c.loop-index.index 0 (search rules) (λ to. (c.args.at < to) × (to < c.args.end)) c.loop-index.invariant (omega arith, omega arith)

pub returns-then-to-at : goal.returns-then-to-at
returns-then-to-at c = each_miss (λ to. (c.args.at < to) × (to < c.args.end)) c.args.named.now c.loop-index.index 0 (search rules) (λ h. omega (arith, h.0))

pub returns-then-to-end : goal.returns-then-to-end
returns-then-to-end c = each_miss (λ to. (c.args.at < to) × (to < c.args.end)) c.args.named.now c.loop-index.index 0 (search rules) (λ h. omega (arith, h.1))

pub returns : goal.returns
returns c = each_done (λ to. (c.args.at < to) × (to < c.args.end)) c.args.named.now c.loop-index.index c.loop-index-test.false c.loop-index.invariant
