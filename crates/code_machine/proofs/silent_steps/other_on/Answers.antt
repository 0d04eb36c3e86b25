use Rattle.std.proofs.Common.{refl, reverse}
use Rattle.code_machine.proofs.MachineRuns.{moved_machine, moved_quiet}
use Rattle.code_machine.proofs.silent_steps.other_on.Goals as goal

pub returns-in_ok-went-in_default : goal.returns-in_ok-went-in_default
returns-in_ok-went-in_default g c =
    let r = c.args.run.now in
    let n = c.take_choice.new in
    let ls = reverse r.labels.items in
    record {
      machine = moved_machine c.args.code.now r.query c.args.branch.now n.branch r.areas n.areas ls r.budget r.limit r.spent c.args.at
          c.in_ok-went-in_default.went c.in_ok-went-in_default.ensures c.requires.machine;
      same = refl;
      quiet = moved_quiet c.args.code.now r.query c.args.branch.now n.branch r.areas n.areas ls r.budget r.limit r.spent c.args.at c.in_ok-went-in_default.went
          c.in_ok-went-in_default.ensures c.requires.machine;
    }
