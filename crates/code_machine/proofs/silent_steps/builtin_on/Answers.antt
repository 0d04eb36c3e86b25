use Rattle.std.proofs.Common.{◌+◌, ◌-◌, refl, reverse, subst}
use Rattle.wam_code.specs.declared.instruction.Code.TheVariants as step
use Rattle.code_goals.specs.declared.goal_outcomes.Next.{Next}
use Rattle.code_goals.specs.declared.goal_outcomes.Next.TheVariants as next
use Rattle.code_machine.specs.declared.run.Ending.TheVariants as ending
use Rattle.code_machine.specs.declared.run.Stage.{Stage}
use Rattle.code_machine.specs.declared.run.Stage.TheVariants.{Going, Returning, Ended}
use Rattle.code_machine.specs.Instructions.{HasGoal}
use Rattle.code_machine.specs.Steps.{Spends}
use Rattle.code_machine.proofs.MachineRuns.{quiet_still, seen}
use Rattle.code_machine.proofs.StageSteps.{spends_machine, spends_quiet}
use Rattle.code_machine.proofs.silent_steps.builtin_on.Goals as goal

pub returns-in-On : goal.returns-in-On
returns-in-On g c =
    let r = c.args.run.now in
    let a = c.args.code.now in
    let s = c.args.branch.now in
    let s' = c.take_quietly.new.branch in
    let ls = reverse r.labels.items in
    let x : Next = next.On c.in-On.to in
    let spends : Spends a s c.args.at r.areas ls s' r.areas ls x = subst (Spends a s c.args.at r.areas ls s' r.areas ls) c.in-On.is c.in_ok-next.ensures.spends in
    let m = c.requires.machine in
    record {
      machine = spends_machine a r.query s r.areas ls (Going c.args.at) r.budget r.limit r.spent m c.args.at refl s' r.areas (Going c.in-On.to) c.if-run-eq0.false ls x spends tt refl;
      same = refl;
      quiet = spends_quiet a r.query s r.areas ls (Going c.args.at) r.budget r.limit r.spent m c.args.at refl s' r.areas (Going c.in-On.to) c.if-run-eq0.false ls x spends tt refl tt;
    }

pub returns-in-Back : goal.returns-in-Back
returns-in-Back g c =
    let r = c.args.run.now in
    let a = c.args.code.now in
    let s = c.args.branch.now in
    let s' = c.take_quietly.new.branch in
    let ls = reverse r.labels.items in
    let x : Next = next.Back in
    let spends : Spends a s c.args.at r.areas ls s' r.areas ls x = subst (Spends a s c.args.at r.areas ls s' r.areas ls) c.in-Back.is c.in_ok-next.ensures.spends in
    let m = c.requires.machine in
    record {
      machine = spends_machine a r.query s r.areas ls (Going c.args.at) r.budget r.limit r.spent m c.args.at refl s' r.areas (Returning) c.if-run-eq0.false ls x spends tt refl;
      same = refl;
      quiet = spends_quiet a r.query s r.areas ls (Going c.args.at) r.budget r.limit r.spent m c.args.at refl s' r.areas (Returning) c.if-run-eq0.false ls x spends tt refl tt;
    }

pub returns-in-Fault : goal.returns-in-Fault
returns-in-Fault g c =
    let r = c.args.run.now in
    let a = c.args.code.now in
    let s = c.args.branch.now in
    let s' = c.take_quietly.new.branch in
    let ls = reverse r.labels.items in
    let f = c.in-Fault.fault in
    let x : Next = next.Fault f in
    let spends : Spends a s c.args.at r.areas ls s' r.areas ls x = subst (Spends a s c.args.at r.areas ls s' r.areas ls) c.in-Fault.is c.in_ok-next.ensures.spends in
    let m = c.requires.machine in
    let needed : HasGoal a = (c.args.at, step.Builtin c.args.kind, c.requires.holds, tt) in
    let st : Stage = Ended (ending.Fault f) in (
      quiet_still (seen a r.query s r.areas ls (Going c.args.at) r.budget r.limit r.spent) (seen a r.query s' r.areas ls st (r.budget - 1) r.limit (r.spent + 1))
          (spends_machine a r.query s r.areas ls (Going c.args.at) r.budget r.limit r.spent m c.args.at refl s' r.areas st c.if-run-eq0.false ls x spends needed refl)
          (refl, refl, refl)
          (spends_quiet a r.query s r.areas ls (Going c.args.at) r.budget r.limit r.spent m c.args.at refl s' r.areas st c.if-run-eq0.false ls x spends needed refl tt),
      tt,
    )
