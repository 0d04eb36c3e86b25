-- What a text was found to be.
use Rattle.std.specs.Prelude.{◌≡◌, ℕ, List}
use Rattle.fd_language.specs.declared.TheConstants.{INFINITY}
use Rattle.fd_model.specs.Verdict as model
use Rattle.fd_model.specs.Verdict.{IsVerdict}
use Rattle.answer_text.specs.Reasons.{reason_text, IsReasonIn}
use Rattle.clause_check.specs.Programs.{program_in}
use Rattle.text_verdict.specs.declared.judgement.Verdict.{Verdict}
use Rattle.text_verdict.specs.declared.judgement.Verdict.TheVariants.{Accepted, Refused}

-- the definition's verdict
abbrev pub verdict_of : Verdict → model.Verdict
verdict_of (Accepted p) = model.accepted (program_in p)
verdict_of (Refused place reason pool) = model.refused place (reason_text pool reason)

-- the name that a refusal tells is of its pool
abbrev pub HasNames : Verdict → Type 0
HasNames (Accepted p) = Unit {0}
HasNames (Refused place reason pool) = IsReasonIn pool reason

-- the verdict on a text, where N is the greatest number that a variable may have
pub record IsVerdictOn (N : ℕ) (text : List ℕ) (v : Verdict) : Type 0 where
  pub names : HasNames v
  pub verdict : IsVerdict INFINITY N text (verdict_of v)

-- the verdict is this one
pub record Is (w : model.Verdict) (v : Verdict) : Type 0 where
  pub names : HasNames v
  pub verdict : w ≡ verdict_of v
