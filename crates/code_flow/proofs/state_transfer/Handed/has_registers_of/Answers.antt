use Rattle.std.proofs.Common.{◌∙◌, sym}
use Rattle.code_flow.proofs.state_transfer.Handed.has_registers_of.Goals as goal

pub returns : goal.returns
returns c = (λ t n e. c.has_all.ensures.0 t n (c.requires n ∙ e), λ f. c.has_all.ensures.1 (λ n e. f n (sym (c.requires n) ∙ e)))
