use Rattle.code_machine.specs.declared.run.Stage.TheVariants.{Going}
use Rattle.code_machine.specs.States.{state_at}
use Rattle.code_machine.proofs.MachineRuns.{rests}
use Rattle.code_machine.proofs.silent_steps.stay.Goals as goal

pub returns : goal.returns
returns g c =
    (rests (state_at c.args.code.now c.args.branch.now c.args.run.now (Going c.args.at)) c.requires.machine, (c.args.instruction, c.requires.holds, c.requires.says))
