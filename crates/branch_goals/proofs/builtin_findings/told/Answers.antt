use Rattle.std.proofs.Common.{◌∙◌, FitsSigned, pos, ap, sym, rules, w64}
use Rattle.std.proofs.lemmas.Int.{to_z-of_z}
use Rattle.fd_language.proofs.Lemmas.{two}
use Rattle.branch_goals.specs.Findings.{the_numbers, told_by}
use Rattle.branch_goals.proofs.Findings.{greatest_is, greatest_or}
use Rattle.branch_goals.proofs.builtin_findings.told.Goals as goal

pub returns-in-FdMax-Those : goal.returns-in-FdMax-Those
returns-in-FdMax-Those c =
    let fits : FitsSigned w64 c.from-in-FdMax-Those.result = search rules in
    let xs = c.in-FdMax-Those.domain.now in
    to_z-of_z w64 c.from-in-FdMax-Those.result fits
    ∙ c.from-in-FdMax-Those.ensures
    ∙ ap pos (c.unwrap_or-in-FdMax-Those.ensures ∙ greatest_or xs c.max.result c.max.ensures.greatest)
    ∙ sym (greatest_is xs)
    ∙ two told_by (sym c.in-FdMax-Those.is-0) (ap the_numbers (sym c.in-FdMax-Those.is-1))
