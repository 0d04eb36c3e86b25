use Rattle.std.proofs.Common.{◌∙◌, ap}
use Rattle.fd_language.specs.Family.{has}
use Rattle.wam_code.specs.Area.{State}
use Rattle.range_code.proofs.Lemmas.{any_has}
use Rattle.code_flow.proofs.state_transfer.Handed.has.Goals as goal

pub returns : goal.returns
returns c = c.contains.ensures ∙ any_has c.self.inside.regs.keys c.args.number ∙ ap (λ (s : State). has s.regs c.args.number) c.self.view_is
