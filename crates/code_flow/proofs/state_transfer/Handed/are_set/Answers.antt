use Rattle.std.proofs.Common.{rules, ◌≡◌, ◌∙◌, ℕ, zero, suc, ◌-◌, ◌<◌, true, List, sym, ap, arith}
use Rattle.fd_language.specs.Family.{has}
use Rattle.wam_code.specs.Effect.{are_set}
use Rattle.code_flow.proofs.Registers.{are_set_step}
use Rattle.code_flow.proofs.state_transfer.Handed.are_set.Goals as goal

step : (rs : List ℕ) (n : ℕ) → 0 < n → has rs n ≡ true → are_set rs (n - 1) ≡ are_set rs n
step rs zero h e = absurd (omega (arith, h))
step rs (suc n) h e = let same : suc n - 1 ≡ n = omega arith in ap (are_set rs) same ∙ sym (are_set_step rs n e)

pub loop-left-preserved : goal.loop-left-preserved
loop-left-preserved c =
    let some : 0 < c.loop-left.left = search rules in
    let set : has c.args.self.now.regs c.loop-left.left ≡ true = search rules in
    step c.args.self.now.regs c.loop-left.left some set ∙ c.loop-left.invariant
