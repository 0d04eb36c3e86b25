use Rattle.std.proofs.Common.{All, subst, sym, refl, arith}
use Rattle.branch_state.specs.States.{IsCell}
use Rattle.wam_code.specs.declared.instruction.Code.TheVariants as step
use Rattle.wam_code.specs.Arities.{constraint_arity}
use Rattle.term_pool.specs.declared.TheConstants.{CONS}
use Rattle.code_goals.specs.Arguments.{HasArguments, IsGathered}
use Rattle.code_goals.proofs.BuiltinGoals.{found_safe}
use Rattle.code_goals.proofs.ConstraintGoals.{gathered_own, goal_ready, made_own, made_grown}
use Rattle.code_goals.proofs.GoalSafety.{arguments_there}
use Rattle.code_goals.proofs.constraints.goal_of.Goals as goal

pub gather-requires : goal.gather-requires
gather-requires g c =
    subst (λ n. HasArguments n c.args.areas.now) (sym c.arity.ensures)
    (arguments_there c.args.code.now c.args.branch.now c.args.at c.args.areas.now (step.Constrain c.args.kind) (constraint_arity c.args.kind) c.requires.safe c.requires.holds (λ t. refl))

pub compound-requires-clause-sound : goal.compound-requires-clause-sound
compound-requires-clause-sound g c = c.requires.safe.sound

pub compound-requires-clause-name : goal.compound-requires-clause-name
compound-requires-clause-name g c = (let e = c.requires.safe.atoms in let three = c.pool_of.ensures.valid.three in omega (arith, e, three))

pub compound-requires-clause-cells : goal.compound-requires-clause-cells
compound-requires-clause-cells g c =
    subst (All (IsCell c.args.branch.now)) (sym c.deref.ensures.value)
    (gathered_own c.args.branch.now c.args.areas.now c.requires.safe.here.registers_own 1 c.gather.new.cells.items c.in_ok-gather.ensures.1)

pub returns-clause-own : goal.returns-clause-own
returns-clause-own g c = made_own c.args.branch.now c.compound.new.self CONS c.deref.result.now c.compound.result c.compound.ensures.made

pub returns-clause-goal : goal.returns-clause-goal
returns-clause-goal g c =
    let gathered = subst (λ n. IsGathered c.args.areas.now n c.gather.new.cells.items) c.arity.ensures c.in_ok-gather.ensures in
    goal_ready c.args.code.now c.args.branch.now c.compound.new.self c.args.areas.now (constraint_arity c.args.kind) CONS c.deref.result.now
    (subst (IsGathered c.args.areas.now (constraint_arity c.args.kind)) (sym c.deref.ensures.value) gathered)
    (subst (All (IsCell c.args.branch.now)) (sym c.deref.ensures.value)
    (gathered_own c.args.branch.now c.args.areas.now c.requires.safe.here.registers_own 1 c.gather.new.cells.items c.in_ok-gather.ensures.1))
    c.compound.result c.compound.ensures.made

pub returns-clause-grown : goal.returns-clause-grown
returns-clause-grown g c = made_grown c.args.branch.now c.compound.new.self CONS c.deref.result.now c.compound.result c.compound.ensures.made

pub returns-clause-safe : goal.returns-clause-safe
returns-clause-safe g c =
    let grown = made_grown c.args.branch.now c.compound.new.self CONS c.deref.result.now c.compound.result c.compound.ensures.made in
    found_safe c.args.code.now c.args.branch.now c.compound.new.self c.args.at c.args.areas.now c.requires.safe c.compound.result grown c.compound.ensures.heap c.compound.ensures.sound
