use Rattle.std.proofs.Common.{◌≡◌, ◌+◌, ◌-◌, ap, sym, ◌∙◌, max, refl, arith}
use Rattle.std.proofs.Math.Nat.{le-max_left}
use Rattle.std.proofs.lemmas.Result.{MatchResult-from_err}
use Rattle.clause_check.specs.declared.program.FlatGoal.{FlatGoal}
use Rattle.clause_check.specs.Programs.{goal_in, goals_in}
use Rattle.clause_code.specs.LevelSlots.{need, each_need}
use Rattle.clause_code.proofs.LevelSlots.{other_need, need_either, need_if, need_not}
use Rattle.clause_code.proofs.needs.needed.Goals as goal
use Rattle.clause_code.proofs.needs.needed.Goals.{in-Some, in-None}

pub returns-in-Either : goal.returns-in-Either
returns-in-Either c =
    let p = c.args.program.now in
    c.greater.ensures ∙ ap (λ x. max x c.most_needed-in-Either.result) c.most_needed.ensures ∙ ap (λ x. max (each_need (goals_in p c.in-Either.left)) x) c.most_needed-in-Either.ensures
    ∙ need_either p c.in-Either.left c.in-Either.right ∙ ap (λ (g : FlatGoal). need (goal_in p g)) (sym c.in-Either.is)

pub returns-after-other : goal.returns-after-other
returns-after-other c =
    let p = c.args.program.now in
    let other : c.match-other.third ≡ other_need p c.in-If.other = elim c.match-other.branch [
      | in-Some w ↦ w.third-is ∙ w.most_needed-third.ensures ∙ ap (other_need p) (sym w.in-Some.is)
      | in-None w ↦ w.third-is ∙ ap (other_need p) (sym w.in-None.is)
    ] in
    c.greater-in-If-2.ensures
    ∙ ap (λ x. max x c.greater-in-If.result) (c.in_ok-first-in-If.ensures ∙ ap (λ x. 3 + (x - 1)) c.most_needed-in-If.ensures)
    ∙ ap (λ x. max (3 + (each_need (goals_in p c.in-If.test) - 1)) x) (c.greater-in-If.ensures ∙ ap (λ x. max x c.match-other.third) c.most_needed-second.ensures)
    ∙ need_if p c.in-If.test c.in-If.holds c.in-If.other c.match-other.third other
    ∙ ap (λ (g : FlatGoal). need (goal_in p g)) (sym c.in-If.is)

pub returns-in_ok-test_needs-in-Not : goal.returns-in_ok-test_needs-in-Not
returns-in_ok-test_needs-in-Not c =
    let p = c.args.program.now in
    c.in_ok-test_needs-in-Not.ensures ∙ ap (λ x. 3 + (x - 1)) c.most_needed-in-Not.ensures ∙ need_not p c.in-Not.test ∙ ap (λ (g : FlatGoal). need (goal_in p g)) (sym c.in-Not.is)

pub returns-in_err-first-in-If : goal.returns-in_err-first-in-If
returns-in_err-first-in-If c =
    let p = c.args.program.now in
    let rest = max (each_need (goals_in p c.in-If.holds)) (other_need p c.in-If.other) in
    let needed = need_if p c.in-If.test c.in-If.holds c.in-If.other (other_need p c.in-If.other) refl ∙ ap (λ (g : FlatGoal). need (goal_in p g)) (sym c.in-If.is) in
    let inner = c.in_err-first-in-If.ensures in
    let same = ap (λ x. 3 + (x - 1)) c.most_needed-in-If.ensures in
    let first = le-max_left (3 + (each_need (goals_in p c.in-If.test) - 1)) rest in
    MatchResult-from_err c.from_residual.result _ _ (c.from_residual.ensures.0) (λ _. omega (arith, inner, same, first, needed))

pub returns-in_err-test_needs-in-Not : goal.returns-in_err-test_needs-in-Not
returns-in_err-test_needs-in-Not c =
    let p = c.args.program.now in
    let needed = need_not p c.in-Not.test ∙ ap (λ (g : FlatGoal). need (goal_in p g)) (sym c.in-Not.is) in
    let inner = c.in_err-test_needs-in-Not.ensures in
    let same = ap (λ x. 3 + (x - 1)) c.most_needed-in-Not.ensures in
    MatchResult-from_err c.from_residual-in_err-test_needs-in-Not.result _ _ (c.from_residual-in_err-test_needs-in-Not.ensures.0) (λ _. omega (arith, inner, same, needed))
