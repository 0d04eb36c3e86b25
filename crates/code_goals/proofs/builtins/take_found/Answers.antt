use Rattle.branch_state.specs.States.{IsSameBelow}
use Rattle.wam_code.specs.declared.instruction.Code.TheVariants as step
use Rattle.code_goals.specs.GoalOutcomes.{Takes}
use Rattle.code_goals.proofs.BuiltinGoals.{grown_taken, ok_then, on_then}
use Rattle.code_safety.proofs.Lemmas.{below_heap, below_both}
use Rattle.code_goals.proofs.builtins.take_found.Goals as goal

pub returns-clause-takes : goal.returns-clause-takes
returns-clause-takes g c =
    let a = c.args.code.now in
    let s1 = c.find_goal.new.branch in
    ok_then (Takes a s1 c.args.at c.args.areas.now c.act_on.new.branch) (Takes a c.args.branch.now c.args.at c.args.areas.now c.act_on.new.branch) c.act_on.result
    (grown_taken a c.args.branch.now s1 c.args.at c.args.areas.now (step.Builtin c.args.kind) tt c.requires.holds c.in_ok-found.ensures.grown
    c.in_ok-found.ensures.heap c.act_on.new.branch) c.act_on.ensures.takes

pub returns-clause-same : goal.returns-clause-same
returns-clause-same g c =
    on_then (IsSameBelow c.find_goal.new.branch c.act_on.new.branch) (IsSameBelow c.args.branch.now c.act_on.new.branch) c.act_on.result
    (below_both c.args.branch.now c.find_goal.new.branch c.act_on.new.branch (below_heap c.args.branch.now c.find_goal.new.branch c.in_ok-found.ensures.heap)) c.act_on.ensures.same
