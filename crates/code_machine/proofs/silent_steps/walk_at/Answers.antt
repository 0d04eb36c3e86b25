use Rattle.std.proofs.Common.{refl, reverse, subst}
use Rattle.code_machine.specs.Steps.{Moves, TakesTerm}
use Rattle.code_machine.proofs.MachineRuns.{moved_machine, moved_quiet}
use Rattle.code_machine.proofs.silent_steps.walk_at.Goals as goal

pub returns-in-Some : goal.returns-in-Some
returns-in-Some g c =
    let r = c.args.run.now in
    let n = c.take_term.new in
    let ls = reverse r.labels.items in
    let w = c.in-Some.went in
    let moves : Moves c.args.code.now c.args.branch.now c.args.at r.areas n.branch n.areas w = subst
    (TakesTerm c.args.code.now c.args.at c.code_at-instruction.result.now c.args.branch.now r.areas n.branch n.areas) c.in-Some.is c.in_ok-taken.ensures in
    record {
      machine = moved_machine c.args.code.now r.query c.args.branch.now n.branch r.areas n.areas ls r.budget r.limit r.spent c.args.at w moves c.requires.machine;
      same = refl;
      quiet = moved_quiet c.args.code.now r.query c.args.branch.now n.branch r.areas n.areas ls r.budget r.limit r.spent c.args.at w moves c.requires.machine;
    }
