use Rattle.std.proofs.Common.{◌≡◌, ◌-◌, suc, length, reverse, None, refl, subst, arith}
use Rattle.code_machine.specs.Steps.{TakesValues}
use Rattle.code_machine.proofs.Backtracking.{tried_again}
use Rattle.code_machine.proofs.silent_steps.come_back.Goals as goal

pub returns : goal.returns
returns g c =
    let n = c.points.ensures in
    let some = c.requires.some in
    let many : length c.args.areas.now.points ≡ suc (c.points.result - 1) = omega (arith, n, some) in
    tried_again c.args.code.now c.args.branch.now c.args.areas.now (reverse c.args.labels.now.items) c.requires.labels (c.points.result - 1) many
    (subst (λ ls. TakesValues (reverse ls) (c.points.result - 1) (reverse ls) None) c.deref.ensures.value (c.if-has_values.ensures refl)) c.try_again.new.branch
    c.try_again.new.areas c.try_again.result c.try_again.ensures
