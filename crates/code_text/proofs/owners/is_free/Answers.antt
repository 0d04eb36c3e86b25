use Rattle.std.proofs.Common.{◌∙◌, sym}
use Rattle.code_text.proofs.owners.is_free.Goals as goal

pub returns : goal.returns
returns c = (λ t. sym c.owner_at.ensures ∙ c.is_same.ensures.0 t, λ e. c.is_same.ensures.1 (c.owner_at.ensures ∙ e))
