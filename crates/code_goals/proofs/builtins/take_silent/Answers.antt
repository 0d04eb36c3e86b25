use Rattle.std.proofs.Common.{true, subst, sym, inl, inr}
use Rattle.fd_model.specs.declared.kinds.BuiltinKind.{BuiltinKind}
use Rattle.wam_code.specs.declared.instruction.Code.TheVariants as step
use Rattle.wam_code.specs.Area.{Holds}
use Rattle.code_safety.proofs.Lemmas.{within_code}
use Rattle.code_goals.specs.GoalOutcomes.{IsSafeNext, Takes}
use Rattle.code_goals.specs.declared.goal_outcomes.Next.TheVariants.{On}
use Rattle.code_goals.proofs.BuiltinGoals.{true_taken, fail_taken, false_taken, decided_safe}
use Rattle.code_goals.proofs.builtins.take_silent.Goals as goal

pub behind-requires : goal.behind-requires
behind-requires g c = within_code c.args.code.now c.args.at (step.Builtin c.args.kind) c.requires.holds

pub returns-in-True-clause-safe : goal.returns-in-True-clause-safe
returns-in-True-clause-safe g c =
    subst (λ n. IsSafeNext c.args.code.now c.args.branch.now c.args.areas.now (On n)) (sym c.behind.ensures)
    (decided_safe c.args.code.now c.args.branch.now c.args.at c.args.areas.now c.requires.safe c.args.kind c.requires.holds true)

pub returns-in-True-clause-takes : goal.returns-in-True-clause-takes
returns-in-True-clause-takes g c =
    subst (λ n. Takes c.args.code.now c.args.branch.now c.args.at c.args.areas.now c.args.branch.now (On n)) (sym c.behind.ensures)
    (true_taken c.args.code.now c.args.branch.now c.args.at c.args.areas.now c.requires.safe
    (subst (λ (k : BuiltinKind). Holds c.args.code.now c.args.at (step.Builtin k)) c.in-True.is c.requires.holds))

pub returns-in-Fail-clause-takes : goal.returns-in-Fail-clause-takes
returns-in-Fail-clause-takes g c = elim c.in-Fail.is [
  | inl e ↦
      fail_taken c.args.code.now c.args.branch.now c.args.at c.args.areas.now c.requires.safe (subst (λ (k : BuiltinKind). Holds c.args.code.now c.args.at (step.Builtin k)) e c.requires.holds)
  | inr e ↦
      false_taken c.args.code.now c.args.branch.now c.args.at c.args.areas.now c.requires.safe (subst (λ (k : BuiltinKind). Holds c.args.code.now c.args.at (step.Builtin k)) e c.requires.holds)
]
