use Rattle.std.proofs.Common.{◌≡◌, reverse, subst}
use Rattle.code_machine.specs.Labels.{labels_below}
use Rattle.code_machine.proofs.GoalSteps.{cut_spends}
use Rattle.code_machine.proofs.goals.take_cut.Goals as goal

pub returns : goal.returns
returns g c =
    let e = c.cut_to-to.ensures in
    let ls = reverse c.args.labels.now.items in
    let ls' = reverse c.drop_labels.new.labels.items in
    let a' = c.cut_to-to.new.areas in
    cut_spends c.args.code.now c.args.branch.now c.args.at c.args.areas.now ls c.requires.labels c.cut_to-to.new.branch a' c.cut_to-to.result e.safe e.runs e.query e.falls e.pairs e.points
    ls' (subst (λ n. ls' ≡ labels_below n ls) c.points.ensures c.drop_labels.ensures)
