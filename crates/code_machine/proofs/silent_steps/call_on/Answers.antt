use Rattle.std.proofs.Common.{None, refl, reverse}
use Rattle.code_goals.specs.declared.goal_outcomes.Next.TheVariants.{On}
use Rattle.code_machine.specs.declared.run.Stage.TheVariants.{Going}
use Rattle.code_machine.proofs.StageSteps.{spends_machine, spends_step}
use Rattle.code_machine.proofs.silent_steps.call_on.Goals as goal

pub returns : goal.returns
returns g c =
    let r = c.args.run.now in
    let n = c.take_call.new in
    let ls = reverse r.labels.items in
    let ls' = reverse n.labels.items in
    let to = c.in_ok-to.to in
    let m = c.requires.machine in
    let spends = c.in_ok-to.ensures in
    record {
      machine = spends_machine c.args.code.now r.query c.args.branch.now r.areas ls (Going c.args.at) r.budget r.limit r.spent m c.args.at refl n.branch n.areas
          (Going to) c.if-run-eq0.false ls' (On to) spends tt refl;
      same = refl;
      quiet = spends_step c.args.code.now r.query c.args.branch.now r.areas ls (Going c.args.at) r.budget r.limit r.spent m c.args.at refl n.branch n.areas
          (Going to) c.if-run-eq0.false ls' (On to) spends tt refl None refl;
    }
