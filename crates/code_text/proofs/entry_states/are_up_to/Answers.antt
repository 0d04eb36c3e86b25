use Rattle.std.proofs.Common.{◌≤◌, rules, arith}
use Rattle.code_text.proofs.ListPrefixes.{each_done, each_miss}
use Rattle.code_flow.proofs.Lemmas.{all_step}
use Rattle.code_text.proofs.entry_states.are_up_to.Goals as goal

pub loop-index-preserved : goal.loop-index-preserved
loop-index-preserved c =
    all_step c.args.numbers.now c.loop-index.index 0 (search rules) (λ n. (1 ≤ n) × (n ≤ c.args.count)) c.loop-index.invariant (omega arith, omega arith)

pub returns-then-number-eq0 : goal.returns-then-number-eq0
returns-then-number-eq0 c = each_miss (λ n. (1 ≤ n) × (n ≤ c.args.count)) c.args.numbers.now c.loop-index.index 0 (search rules) (λ h. omega (arith, h.0))

pub returns-then-number-count : goal.returns-then-number-count
returns-then-number-count c = each_miss (λ n. (1 ≤ n) × (n ≤ c.args.count)) c.args.numbers.now c.loop-index.index 0 (search rules) (λ h. omega (arith, h.1))

pub returns : goal.returns
returns c = each_done (λ n. (1 ≤ n) × (n ≤ c.args.count)) c.args.numbers.now c.loop-index.index c.loop-index-test.false c.loop-index.invariant
