-- A branch without a model.
use Rattle.std.proofs.Common.{ℕ}
use Rattle.fd_language.specs.Family.{Family}
use Rattle.fd_model.specs.Goal.{Branch}
use Rattle.fd_model.specs.BranchViews.{IsConsistent}
use Rattle.fd_model.specs.Models.{IsModel}
use Rattle.branch_meaning.specs.RemainingEvents.{IsFit}
use Rattle.branch_meaning.proofs.Models.{model_from}

-- a fit branch without a model is not consistent
pub gone_by : (M N : ℕ) (b : Branch) → ((S : Family) → IsModel M N b.equations b.posted S → ⊥) → IsFit M b → IsConsistent M N b.equations b.posted → ⊥
gone_by M N b none fit c = let m = model_from M N b.equations b.posted fit.1 c in none m.0 m.1
