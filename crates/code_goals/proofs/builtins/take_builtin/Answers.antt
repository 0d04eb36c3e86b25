use Rattle.std.proofs.Common.{true, subst, sym}
use Rattle.fd_model.specs.declared.kinds.BuiltinKind.{BuiltinKind}
use Rattle.wam_code.specs.declared.instruction.Code.TheVariants as step
use Rattle.wam_code.specs.Area.{Holds}
use Rattle.code_safety.proofs.Lemmas.{within_code}
use Rattle.code_goals.specs.GoalOutcomes.{IsSafeNext, Takes}
use Rattle.code_goals.specs.declared.goal_outcomes.Next.TheVariants.{On, Write, Newline}
use Rattle.code_goals.proofs.BuiltinGoals.{newline_taken, write_safe, write_taken, decided_safe}
use Rattle.code_goals.proofs.builtins.take_builtin.Goals as goal

pub behind-requires : goal.behind-requires
behind-requires g c = within_code c.args.code.now c.args.at (step.Builtin c.args.kind) c.requires.holds

pub returns-in-Nl-clause-safe : goal.returns-in-Nl-clause-safe
returns-in-Nl-clause-safe g c =
    subst (λ n. IsSafeNext c.args.code.now c.args.branch.now c.args.areas.now (On n)) (sym c.behind.ensures)
    (decided_safe c.args.code.now c.args.branch.now c.args.at c.args.areas.now c.requires.safe c.args.kind c.requires.holds true)

pub returns-in-Nl-clause-takes : goal.returns-in-Nl-clause-takes
returns-in-Nl-clause-takes g c =
    subst (λ n. Takes c.args.code.now c.args.branch.now c.args.at c.args.areas.now c.args.branch.now (Newline n)) (sym c.behind.ensures)
    (newline_taken c.args.code.now c.args.branch.now c.args.at c.args.areas.now c.requires.safe
    (subst (λ (k : BuiltinKind). Holds c.args.code.now c.args.at (step.Builtin k)) c.in-Nl.is c.requires.holds))

pub returns-in-Write-clause-safe : goal.returns-in-Write-clause-safe
returns-in-Write-clause-safe g c =
    subst (λ n. IsSafeNext c.args.code.now c.args.branch.now c.args.areas.now (Write n)) (sym c.behind-in-Write.ensures)
    (write_safe c.args.code.now c.args.branch.now c.args.at c.args.areas.now c.requires.safe
    (subst (λ (k : BuiltinKind). Holds c.args.code.now c.args.at (step.Builtin k)) c.in-Write.is c.requires.holds))

pub returns-in-Write-clause-takes : goal.returns-in-Write-clause-takes
returns-in-Write-clause-takes g c =
    subst (λ n. Takes c.args.code.now c.args.branch.now c.args.at c.args.areas.now c.args.branch.now (Write n)) (sym c.behind-in-Write.ensures)
    (write_taken c.args.code.now c.args.branch.now c.args.at c.args.areas.now c.requires.safe
    (subst (λ (k : BuiltinKind). Holds c.args.code.now c.args.at (step.Builtin k)) c.in-Write.is c.requires.holds))
