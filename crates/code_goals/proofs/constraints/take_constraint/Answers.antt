use Rattle.std.proofs.Common.{length, ap, sym, subst, ◌∙◌}
use Rattle.term_pool.specs.Contents.{Contents}
use Rattle.branch_state.specs.Constraints.{Constrains}
use Rattle.wam_code.specs.declared.instruction.Code.TheVariants as step
use Rattle.code_safety.proofs.Lemmas.{within_code, below_heap, below_both}
use Rattle.code_goals.specs.GoalOutcomes.{Takes, IsSafeNext}
use Rattle.code_goals.specs.declared.goal_outcomes.Next.TheVariants.{On, Back, Fault}
use Rattle.code_goals.proofs.BuiltinGoals.{grown_taken}
use Rattle.code_goals.proofs.ConstraintGoals.{constraint_fault, constraint_kept, constraint_failed, kept_safe, failed_safe}
use Rattle.code_goals.proofs.constraints.take_constraint.Goals as goal

pub constrain-requires-clause-sound : goal.constrain-requires-clause-sound
constrain-requires-clause-sound g c = c.in_ok-goal.ensures.safe.sound

pub constrain-requires-clause-atoms : goal.constrain-requires-clause-atoms
constrain-requires-clause-atoms g c = ap (λ (x : Contents). length x.names) c.pool.ensures ∙ sym c.in_ok-goal.ensures.safe.atoms

pub behind-requires : goal.behind-requires
behind-requires g c = within_code c.args.code.now c.args.at (step.Constrain c.args.kind) c.requires.holds

pub returns-in-Kept-clause-safe : goal.returns-in-Kept-clause-safe
returns-in-Kept-clause-safe g c =
    let s1 = c.goal_of.new.branch in
    let told : Constrains c.args.code.now.pool.names s1 c.args.kind c.in_ok-goal.goal c.constrain.new.self c.in_ok-constrain.field-0 =
    subst (λ (x : Contents). Constrains x.names s1 c.args.kind c.in_ok-goal.goal c.constrain.new.self c.in_ok-constrain.field-0) c.pool.ensures c.in_ok-constrain.ensures.step in
    subst (λ n. IsSafeNext c.args.code.now c.constrain.new.self c.args.areas.now (On n)) (sym c.behind.ensures)
    (kept_safe c.args.code.now s1 c.args.at c.args.areas.now c.in_ok-goal.ensures.safe c.args.kind c.requires.holds c.in_ok-goal.goal c.in_ok-goal.ensures.goal
    c.constrain.new.self c.in_ok-constrain.ensures.same
    (subst (Constrains c.args.code.now.pool.names s1 c.args.kind c.in_ok-goal.goal c.constrain.new.self) c.in-Kept.is told))

pub returns-in-Kept-clause-takes : goal.returns-in-Kept-clause-takes
returns-in-Kept-clause-takes g c =
    let s1 = c.goal_of.new.branch in
    let told : Constrains c.args.code.now.pool.names s1 c.args.kind c.in_ok-goal.goal c.constrain.new.self c.in_ok-constrain.field-0 =
    subst (λ (x : Contents). Constrains x.names s1 c.args.kind c.in_ok-goal.goal c.constrain.new.self c.in_ok-constrain.field-0) c.pool.ensures c.in_ok-constrain.ensures.step in
    grown_taken c.args.code.now c.args.branch.now s1 c.args.at c.args.areas.now (step.Constrain c.args.kind) tt c.requires.holds c.in_ok-goal.ensures.grown
    c.in_ok-goal.ensures.heap c.constrain.new.self (On c.behind.result)
    (subst (λ n. Takes c.args.code.now s1 c.args.at c.args.areas.now c.constrain.new.self (On n)) (sym c.behind.ensures)
    (constraint_kept c.args.code.now s1 c.args.at c.args.areas.now c.in_ok-goal.ensures.safe c.args.kind c.requires.holds c.in_ok-goal.goal
    c.in_ok-goal.ensures.goal c.constrain.new.self c.in_ok-constrain.ensures.same
    (subst (Constrains c.args.code.now.pool.names s1 c.args.kind c.in_ok-goal.goal c.constrain.new.self) c.in-Kept.is told)))

pub returns-in-Kept-clause-same : goal.returns-in-Kept-clause-same
returns-in-Kept-clause-same g c = below_both c.args.branch.now c.goal_of.new.branch c.constrain.new.self
    (below_heap c.args.branch.now c.goal_of.new.branch c.in_ok-goal.ensures.heap) c.in_ok-constrain.ensures.same

pub returns-in-Failed-clause-safe : goal.returns-in-Failed-clause-safe
returns-in-Failed-clause-safe g c =
    let s1 = c.goal_of.new.branch in
    let told : Constrains c.args.code.now.pool.names s1 c.args.kind c.in_ok-goal.goal c.constrain.new.self c.in_ok-constrain.field-0 =
    subst (λ (x : Contents). Constrains x.names s1 c.args.kind c.in_ok-goal.goal c.constrain.new.self c.in_ok-constrain.field-0) c.pool.ensures c.in_ok-constrain.ensures.step in
    failed_safe c.args.code.now s1 c.args.at c.args.areas.now c.in_ok-goal.ensures.safe c.args.kind c.requires.holds c.in_ok-goal.goal c.in_ok-goal.ensures.goal
    c.constrain.new.self c.in_ok-constrain.ensures.same
    (subst (Constrains c.args.code.now.pool.names s1 c.args.kind c.in_ok-goal.goal c.constrain.new.self) c.in-Failed.is told)

pub returns-in-Failed-clause-takes : goal.returns-in-Failed-clause-takes
returns-in-Failed-clause-takes g c =
    let s1 = c.goal_of.new.branch in
    let told : Constrains c.args.code.now.pool.names s1 c.args.kind c.in_ok-goal.goal c.constrain.new.self c.in_ok-constrain.field-0 =
    subst (λ (x : Contents). Constrains x.names s1 c.args.kind c.in_ok-goal.goal c.constrain.new.self c.in_ok-constrain.field-0) c.pool.ensures c.in_ok-constrain.ensures.step in
    grown_taken c.args.code.now c.args.branch.now s1 c.args.at c.args.areas.now (step.Constrain c.args.kind) tt c.requires.holds c.in_ok-goal.ensures.grown
    c.in_ok-goal.ensures.heap c.constrain.new.self Back
    (constraint_failed c.args.code.now s1 c.args.at c.args.areas.now c.in_ok-goal.ensures.safe c.args.kind c.requires.holds c.in_ok-goal.goal
    c.in_ok-goal.ensures.goal c.constrain.new.self c.in_ok-constrain.ensures.same
    (subst (Constrains c.args.code.now.pool.names s1 c.args.kind c.in_ok-goal.goal c.constrain.new.self) c.in-Failed.is told))

pub returns-in-Failed-clause-same : goal.returns-in-Failed-clause-same
returns-in-Failed-clause-same g c = below_both c.args.branch.now c.goal_of.new.branch c.constrain.new.self
    (below_heap c.args.branch.now c.goal_of.new.branch c.in_ok-goal.ensures.heap) c.in_ok-constrain.ensures.same

pub returns-in-Fault-clause-takes : goal.returns-in-Fault-clause-takes
returns-in-Fault-clause-takes g c =
    let s1 = c.goal_of.new.branch in
    let told : Constrains c.args.code.now.pool.names s1 c.args.kind c.in_ok-goal.goal c.constrain.new.self c.in_ok-constrain.field-0 =
    subst (λ (x : Contents). Constrains x.names s1 c.args.kind c.in_ok-goal.goal c.constrain.new.self c.in_ok-constrain.field-0) c.pool.ensures c.in_ok-constrain.ensures.step in
    grown_taken c.args.code.now c.args.branch.now s1 c.args.at c.args.areas.now (step.Constrain c.args.kind) tt c.requires.holds c.in_ok-goal.ensures.grown
    c.in_ok-goal.ensures.heap c.constrain.new.self (Fault c.in-Fault.fault)
    (constraint_fault c.args.code.now s1 c.args.at c.args.areas.now c.in_ok-goal.ensures.safe c.args.kind c.requires.holds c.in_ok-goal.goal
    c.in_ok-goal.ensures.goal c.in-Fault.fault c.constrain.new.self c.constrain.new.self
    (subst (Constrains c.args.code.now.pool.names s1 c.args.kind c.in_ok-goal.goal c.constrain.new.self) c.in-Fault.is told))

pub returns-in-Fault-clause-same : goal.returns-in-Fault-clause-same
returns-in-Fault-clause-same g c = below_both c.args.branch.now c.goal_of.new.branch c.constrain.new.self
    (below_heap c.args.branch.now c.goal_of.new.branch c.in_ok-goal.ensures.heap) c.in_ok-constrain.ensures.same
