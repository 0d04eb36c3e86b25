use Rattle.std.proofs.Common.{length, ap, sym, ◌∙◌, refl, arith}
use Rattle.term_pool.specs.Contents.{Contents}
use Rattle.wam_code.specs.declared.instruction.Code.TheVariants as step
use Rattle.wam_code.specs.Arities.{builtin_arity}
use Rattle.code_goals.proofs.BuiltinGoals.{first_there, second_own, comes_to, found_safe}
use Rattle.code_goals.proofs.GoalSafety.{arguments_there}
use Rattle.code_goals.proofs.builtins.find_goal.Goals as goal

pub register-first-requires : goal.register-first-requires
register-first-requires g c = arguments_there c.args.code.now c.args.branch.now c.args.at c.args.areas.now (step.Builtin c.args.kind)
    (builtin_arity c.args.kind) c.requires.safe c.requires.holds (λ t. refl) 1 (omega arith) (first_there c.args.kind c.requires.found)

pub second_of-second-requires-clause-there : goal.second_of-second-requires-clause-there
second_of-second-requires-clause-there g c = arguments_there c.args.code.now c.args.branch.now c.args.at c.args.areas.now (step.Builtin c.args.kind)
    (builtin_arity c.args.kind) c.requires.safe c.requires.holds (λ t. refl)

pub find-requires-clause-sound : goal.find-requires-clause-sound
find-requires-clause-sound g c = c.requires.safe.sound

pub find-requires-clause-atoms : goal.find-requires-clause-atoms
find-requires-clause-atoms g c = ap (λ (x : Contents). length x.names) c.pool_of-pool.ensures.pool ∙ sym c.requires.safe.atoms

pub find-requires-clause-first : goal.find-requires-clause-first
find-requires-clause-first g c = c.requires.safe.here.registers_own 1 c.register-first.result c.register-first.ensures

pub find-requires-clause-second : goal.find-requires-clause-second
find-requires-clause-second g c =
    let first = c.requires.safe.here.registers_own 1 c.register-first.result c.register-first.ensures in
    second_own c.args.branch.now c.args.areas.now c.requires.safe.here.registers_own c.args.kind c.register-first.result c.second_of-second.result first c.second_of-second.ensures

pub returns-clause-comes : goal.returns-clause-comes
returns-clause-comes g c =
    comes_to c.args.code.now c.pool_of-pool.ensures.valid c.pool_of-pool.result.now.names (ap (λ (x : Contents). x.names) c.pool_of-pool.ensures.pool)
    c.find.new.branch c.args.areas.now c.args.kind c.register-first.result c.second_of-second.result
    c.register-first.ensures c.second_of-second.ensures c.find.result c.find.ensures.found

pub returns-clause-safe : goal.returns-clause-safe
returns-clause-safe g c = found_safe c.args.code.now c.args.branch.now c.find.new.branch c.args.at c.args.areas.now c.requires.safe c.find.result
    c.find.ensures.grown c.find.ensures.heap c.find.ensures.sound
