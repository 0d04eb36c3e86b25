use Rattle.std.proofs.Common.{◌≡◌, length, reverse, subst}
use Rattle.code_machine.specs.Steps.{labelled, TakesValues}
use Rattle.code_machine.proofs.Backtracking.{resumed_back, tried_back}
use Rattle.code_machine.proofs.silent_steps.come_to_values.Goals as goal

pub returns-in-None : goal.returns-in-None
returns-in-None g c =
    let e = c.go_back-at.ensures in
    let ls = reverse c.args.labels.now.items in
    let ls' = reverse c.take_values.new.labels.items in
    resumed_back c.args.code.now c.args.branch.now c.args.areas.now ls c.requires.labels c.go_back-at.new.branch c.go_back-at.result c.go_back-at.new.areas e.branch e.points e.safe e.runs ls'
    (subst (λ o. TakesValues ls (length c.go_back-at.new.areas.points) ls' o) c.in-None.is (subst (λ n. TakesValues ls n ls' c.take_values.result) c.points-point.ensures c.take_values.ensures))

pub returns-in_ok-keep_values-in-Some : goal.returns-in_ok-keep_values-in-Some
returns-in_ok-keep_values-in-Some g c =
    let e = c.go_back-at.ensures in
    let ls = reverse c.args.labels.now.items in
    let ls1 = reverse c.take_values.new.labels.items in
    let ls' = reverse c.keep_values.new.labels.items in
    let t = c.in_ok-tried-in-Some.tried in
    tried_back c.args.code.now c.args.branch.now c.args.areas.now ls c.requires.labels c.go_back-at.new.branch c.go_back-at.result c.go_back-at.new.areas e.branch e.points c.in-Some.values ls1
    (subst (λ o. TakesValues ls (length c.go_back-at.new.areas.points) ls1 o) c.in-Some.is (subst (λ n. TakesValues ls n ls1 c.take_values.result) c.points-point.ensures c.take_values.ensures))
    c.try_value.new.branch c.try_value.new.areas t c.in_ok-tried-in-Some.ensures ls' (subst (λ n. ls' ≡ labelled n t.left ls1) c.points-point.ensures c.in_ok-keep_values-in-Some.ensures)
