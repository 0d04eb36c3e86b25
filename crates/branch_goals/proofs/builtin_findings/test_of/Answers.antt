use Rattle.std.proofs.Common.{◌∙◌, ap, sym}
use Rattle.branch_goals.specs.Findings.{passes_by}
use Rattle.branch_goals.proofs.Findings.{atomic_is}
use Rattle.branch_goals.proofs.builtin_findings.test_of.Goals as goal

pub returns-in-Atomic : goal.returns-in-Atomic
returns-in-Atomic c = λ t. atomic_is t ∙ ap (λ k. passes_by k t) (sym c.in-Atomic.is)
