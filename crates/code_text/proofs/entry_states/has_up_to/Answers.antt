use Rattle.std.proofs.Common.{◌∙◌, ap, sym}
use Rattle.fd_language.specs.Family.{has}
use Rattle.code_text.proofs.entry_states.has_up_to.Goals as goal

pub returns : goal.returns
returns c = (λ t n e. c.are_up_to.ensures.0 t n (ap (λ l. has l n) c.deref.ensures.value ∙ e), λ f. c.are_up_to.ensures.1 (λ n e. f n (ap (λ l. has l n) (sym c.deref.ensures.value) ∙ e)))
