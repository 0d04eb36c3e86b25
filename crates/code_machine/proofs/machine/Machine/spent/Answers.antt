use Rattle.std.proofs.Common.{ap, sym, ◌∙◌}
use Rattle.code_machine.specs.States.{State}
use Rattle.code_machine.proofs.MachineRuns.{total_spent}
use Rattle.code_machine.proofs.machine.Machine.spent.Goals as goal

pub returns-clause-whole : goal.returns-clause-whole
returns-clause-whole g c = λ l es total h. total_spent c.args.self.now l es total h ∙ sym (ap (λ (s : State). s.spent) c.self.view_is)
