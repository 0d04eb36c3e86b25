use Rattle.std.proofs.Common.{ℕ, List, rules, sym, ap, subst}
use Rattle.std.proofs.lemmas.Result.{IfOk-weaker}
use Rattle.fd_language.specs.Range.{Range}
use Rattle.fd_model.specs.Goal as model
use Rattle.fd_model.specs.Queries.{goal_by_form}
use Rattle.term_pool.specs.PlacedTerms.{placed_of}
use Rattle.term_reader.proofs.Lemmas.{plain_placed}
use Rattle.clause_check.specs.declared.forms.GoalKind.{GoalKind}
use Rattle.clause_check.specs.declared.forms.GoalKind.TheVariants.{Constraint, Optimum, Builtin}
use Rattle.clause_check.specs.declared.program.FlatGoal.TheVariants as flat
use Rattle.term_pool.specs.Terms.{term_of}
use Rattle.clause_check.specs.Forms.{form_seen, HasFormArity}
use Rattle.clause_check.specs.GoalRecords.{KeepsForm, KeepsGoal}
use Rattle.clause_check.proofs.KeptGoals.{keeps_same, keeps_unify, keeps_label, keeps_post}
use Rattle.clause_check.proofs.goals.formed_goal.Goals as goal

pub returns-in-Unification-clause-kept : goal.returns-in-Unification-clause-kept
returns-in-Unification-clause-kept c =
    let pool = c.args.pool.now in
    let ranges = c.args.ranges.now.items in
    let x = placed_of pool c.args.t in
    subst (λ (f : GoalKind). KeepsGoal pool ranges ranges (goal_by_form c.args.infinity (form_seen f) x) (flat.Unify c.first_part.result c.second_part.result)) (sym c.in-Unification.is)
    (keeps_unify c.args.infinity pool ranges x c.first_part.result c.second_part.result c.first_part.ensures c.second_part.ensures)

pub returns-in_ok-push-in-Posting-clause-kept : goal.returns-in_ok-push-in-Posting-clause-kept
returns-in_ok-push-in-Posting-clause-kept c =
    let pool = c.args.pool.now in
    let ranges = c.args.ranges.now.items in
    let x = placed_of pool c.args.t in
    subst (λ (f : GoalKind). KeepsGoal pool ranges c.push.new.self.items (goal_by_form c.args.infinity (form_seen f) x)
    (flat.Post c.first_part-in-Posting.result c.len-number.result)) (sym c.in-Posting.is)
    (keeps_post c.args.infinity pool ranges c.push.new.self.items x c.first_part-in-Posting.result c.second_part-in-Posting.result c.len-number.result
    c.in_ok-range-in-Posting.range c.first_part-in-Posting.ensures c.second_part-in-Posting.ensures
    c.in_ok-range-in-Posting.ensures (search rules) c.in_ok-push-in-Posting.ensures.items)

pub returns-in-Constraint-clause-kept : goal.returns-in-Constraint-clause-kept
returns-in-Constraint-clause-kept c =
    let pool = c.args.pool.now in
    let ranges = c.args.ranges.now.items in
    let t = c.args.t in
    let k = c.in-Constraint.kind in
    let shaped = subst (λ (f : GoalKind). HasFormArity f (term_of pool t)) c.in-Constraint.is c.requires.arity in
    subst (λ (f : GoalKind). KeepsGoal pool ranges ranges (goal_by_form c.args.infinity (form_seen f) (placed_of pool t)) (flat.Constrain k t)) (sym c.in-Constraint.is)
    (keeps_same c.args.infinity pool ranges (goal_by_form c.args.infinity (form_seen (Constraint k)) (placed_of pool t)) (flat.Constrain k t)
    (λ n. (c.requires.term, shaped)) (λ goals. ap (model.Constrain k) (sym (plain_placed pool t))))

pub returns-in-Labelling-clause-kept : goal.returns-in-Labelling-clause-kept
returns-in-Labelling-clause-kept c =
    let pool = c.args.pool.now in
    let ranges = c.args.ranges.now.items in
    let x = placed_of pool c.args.t in
    let o = c.in-Labelling.order in
    subst (λ (f : GoalKind). KeepsGoal pool ranges ranges (goal_by_form c.args.infinity (form_seen f) x) (flat.Label o c.first_part-in-Labelling.result)) (sym c.in-Labelling.is)
    (keeps_label c.args.infinity pool ranges x o c.first_part-in-Labelling.result c.first_part-in-Labelling.ensures)

pub returns-in-Builtin-clause-kept : goal.returns-in-Builtin-clause-kept
returns-in-Builtin-clause-kept c =
    let pool = c.args.pool.now in
    let ranges = c.args.ranges.now.items in
    let t = c.args.t in
    let k = c.in-Builtin.kind in
    let shaped = subst (λ (f : GoalKind). HasFormArity f (term_of pool t)) c.in-Builtin.is c.requires.arity in
    subst (λ (f : GoalKind). KeepsGoal pool ranges ranges (goal_by_form c.args.infinity (form_seen f) (placed_of pool t)) (flat.Builtin k t)) (sym c.in-Builtin.is)
    (keeps_same c.args.infinity pool ranges (goal_by_form c.args.infinity (form_seen (Builtin k)) (placed_of pool t)) (flat.Builtin k t)
    (λ n. (c.requires.term, shaped)) (λ goals. ap (model.Builtin k) (sym (plain_placed pool t))))

pub returns-in-Optimum-clause-kept : goal.returns-in-Optimum-clause-kept
returns-in-Optimum-clause-kept c =
    let pool = c.args.pool.now in
    let ranges = c.args.ranges.now.items in
    let t = c.args.t in
    IfOk-weaker c.best_goal.result (λ g. (N : ℕ) (rs : List Range) → KeepsForm N pool t (Optimum c.in-Optimum.least) rs rs g) (KeepsForm c.args.infinity pool t c.args.form ranges ranges)
    (λ g h. subst (λ (f : GoalKind). KeepsForm c.args.infinity pool t f ranges ranges g) (sym c.in-Optimum.is) (h c.args.infinity ranges)) c.best_goal.ensures.kept
