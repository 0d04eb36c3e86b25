use Rattle.std.proofs.Common.{sym, ◌∙◌}
use Rattle.fd_language.specs.declared.TheConstants.{INFINITY}
use Rattle.fd_language.proofs.Lemmas.{verdict_agrees}
use Rattle.monotone_check.proofs.check.Goals as goal

pub invariant_of-result : goal.invariant_of-result
invariant_of-result c = (verdict_agrees INFINITY c.args.places.now c.args.range).0 (sym c.in-Ok-None.ensures ∙ c.in-Ok-None.field-0-is)
