use Rattle.std.proofs.Common.{rules, ◌≡◌, ◌∙◌, true, false, get_or, sym}
use Rattle.fd_language.specs.Family.{has}
use Rattle.code_flow.proofs.StateEquivalence.{all_step, has_at}
use Rattle.code_flow.proofs.state_transfer.Handed.has_all.Goals as goal

pub loop-index-preserved : goal.loop-index-preserved
loop-index-preserved c =
    let here : has c.args.self.now.regs (get_or c.args.numbers.now c.loop-index.index 0) ≡ true = search rules in
    all_step c.args.numbers.now c.loop-index.index 0 (search rules) (λ n. has c.args.self.now.regs n ≡ true) c.loop-index.invariant here

pub returns-then-not-has : goal.returns-then-not-has
returns-then-not-has c =
    let x = get_or c.args.numbers.now c.loop-index.index 0 in
    let miss : has c.args.self.now.regs x ≡ false = search rules in
    let there : has c.args.numbers.now x ≡ true = has_at c.args.numbers.now c.loop-index.index 0 (search rules) in
    ((λ e. absurd (cc (e))), λ f. (let t : true ≡ false = sym (f x there) ∙ miss in absurd (cc (t))))
