-- The statements of the laws.
use Rattle.std.specs.Prelude.{◌≡◌, ℕ, List}
use Rattle.fd_language.specs.declared.TheConstants.{INFINITY}
use Rattle.answer_check.specs.Judgement.{Judgement, IsJudged}

-- There is at most one judgement of an input.
abbrev pub OneJudgement : Type 0
OneJudgement = (input : List ℕ) (i j : Judgement) → IsJudged INFINITY input i → IsJudged INFINITY input j → i ≡ j
