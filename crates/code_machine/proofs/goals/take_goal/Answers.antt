use Rattle.std.proofs.Common.{reverse, subst}
use Rattle.wam_code.specs.declared.instruction.Code.TheVariants.{PostRange}
use Rattle.wam_code.specs.Area.{Holds}
use Rattle.code_safety.proofs.Lemmas.{next_inside}
use Rattle.code_machine.proofs.GoalSteps.{goal_goes, goals_spend}
use Rattle.code_machine.proofs.goals.take_goal.Goals as goal

pub returns-in-Builtin : goal.returns-in-Builtin
returns-in-Builtin g c =
    let e = c.take_builtin.ensures in
    goals_spend c.args.code.now c.args.branch.now c.args.at c.args.areas.now (reverse c.args.labels.now.items) c.requires.labels
    (next_inside c.args.code.now c.args.branch.now c.args.at 0 c.args.areas.now c.requires.safe c.args.instruction c.requires.holds (goal_goes c.args.instruction c.requires.goal))
    c.take_builtin.new.branch c.take_builtin.result e.safe e.takes e.leads e.same

pub returns-in-Constrain : goal.returns-in-Constrain
returns-in-Constrain g c =
    let e = c.take_constraint.ensures in
    goals_spend c.args.code.now c.args.branch.now c.args.at c.args.areas.now (reverse c.args.labels.now.items) c.requires.labels
    (next_inside c.args.code.now c.args.branch.now c.args.at 0 c.args.areas.now c.requires.safe c.args.instruction c.requires.holds (goal_goes c.args.instruction c.requires.goal))
    c.take_constraint.new.branch c.take_constraint.result e.safe e.takes e.leads e.same

pub returns-in-PostRange : goal.returns-in-PostRange
returns-in-PostRange g c =
    let e = c.post.ensures in
    goals_spend c.args.code.now c.args.branch.now c.args.at c.args.areas.now (reverse c.args.labels.now.items) c.requires.labels
    (next_inside c.args.code.now c.args.branch.now c.args.at 0 c.args.areas.now c.requires.safe c.args.instruction c.requires.holds (goal_goes c.args.instruction c.requires.goal))
    c.post.new.branch c.post.result e.safe e.takes e.leads e.same

pub returns-in-Best : goal.returns-in-Best
returns-in-Best g c =
    let e = c.take_best.ensures in
    goals_spend c.args.code.now c.args.branch.now c.args.at c.args.areas.now (reverse c.args.labels.now.items) c.requires.labels
    (next_inside c.args.code.now c.args.branch.now c.args.at 0 c.args.areas.now c.requires.safe c.args.instruction c.requires.holds (goal_goes c.args.instruction c.requires.goal))
    c.take_best.new.branch c.take_best.result e.safe e.takes e.leads e.same

pub post-requires : goal.post-requires
post-requires g c = record {
  safe = c.requires.safe;
  holds = subst (λ i. Holds c.args.code.now c.args.at i) c.in-PostRange.is c.requires.holds;
  there = (c.requires.safe.verified.there c.args.at (PostRange c.in-PostRange.range c.in-PostRange.count) (subst (λ i. Holds c.args.code.now c.args.at i) c.in-PostRange.is c.requires.holds)).0;
}
