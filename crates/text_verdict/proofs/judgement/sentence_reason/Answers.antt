use Rattle.std.proofs.Common.{sym, ap, ◌∙◌, subst}
use Rattle.clause_check.specs.Causes.{cause_text, IsCauseAt}
use Rattle.text_verdict.proofs.judgement.sentence_reason.Goals as goal

pub returns-in-Check : goal.returns-in-Check
returns-in-Check c = λ k p h.
    let told = c.range_reason.ensures k p (subst (IsCauseAt k p) c.in-Check.is h) in
    (told.0, told.1 ∙ ap (cause_text k) (sym c.in-Check.is))
