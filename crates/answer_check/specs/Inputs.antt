-- What is read of an input, and what is written of it.
use Rattle.std.specs.Prelude.{◌≡◌, ℕ, ◌≤◌, List, length, All, Option, Result, Ok, Err, MatchResult, ◌⊎◌}
use Rattle.fd_language.specs.declared.TheConstants.{INFINITY}
use Rattle.fd_language.specs.Reading.{Reading, IsReading}
use Rattle.fd_model.specs.Labelling.{open_ones}
use Rattle.fd_model.specs.Output.{refusal}
use Rattle.byte_ports.specs.Ends.{SinkState}
use Rattle.answer_check.specs.declared.listed_answers.Listed.{Listed}
use Rattle.answer_check.specs.declared.outcome.CheckStatus.{CheckStatus}
use Rattle.answer_check.specs.declared.outcome.CheckStatus.TheVariants as status
use Rattle.answer_check.specs.declared.outcome.Stop.{Stop}
use Rattle.answer_check.specs.declared.outcome.Stop.TheVariants.{Refused, NoMemory}
use Rattle.answer_check.specs.Checks.{CanCheck}
use Rattle.answer_check.specs.FlatForm.{FlatQuery}
use Rattle.answer_check.specs.Headline.{Ending}
use Rattle.answer_check.specs.Judgement.{Judgement, refused, judged, OrderVerdict, EachFirstBroken, IsOrderOf, JudgesReading, JudgesParts, IsJudged}
use Rattle.answer_check.specs.Judgement.{judgement_output, judgement_status}
use Rattle.answer_check.specs.Parts.{parts_of}
use Rattle.answer_check.specs.Queries.{IsQuery}
use Rattle.answer_check.specs.Refusals.{reason_text}
use Rattle.answer_check.specs.Rows.{Keeps}

-- answers to a flat query, which its judgement is of
pub record Lists (IsJudgement : Judgement → Type 0) (l : Listed) : Type 0 where
  pub flat : FlatQuery
  pub rows : List (List ℕ)
  pub query : IsQuery flat l.query
  pub kept : Keeps flat.query.variables rows l.answers
  pub judges : (vs : List (Option ℕ)) (v : OrderVerdict) → EachFirstBroken INFINITY flat.constraints rows vs → IsOrderOf flat.order (open_ones flat.members) rows v → IsJudgement (judged vs v)

-- the refusal that it is
abbrev pub Stops : (Judgement → Type 0) → Stop → Type 0
Stops IsJudgement (Refused p s) = IsJudgement (refused p (reason_text s))
Stops IsJudgement NoMemory = Unit {0}

-- of a text and the lines of its answers, of which the first begins at a place
abbrev pub JudgesText : List ℕ → ℕ → List (List ℕ) → Judgement → Type 0
JudgesText text at ls j = (r : Reading) × IsReading text r × JudgesReading INFINITY at ls r j

-- of an input by its parts
abbrev pub JudgesInput : List ℕ → Judgement → Type 0
JudgesInput input j = JudgesParts INFINITY (length input) (parts_of input) j

-- of an input
abbrev pub Reads : List ℕ → Result Listed Stop → Type 0
Reads input r = MatchResult r (Lists (IsJudged INFINITY input)) (Stops (IsJudged INFINITY input))

-- constraints that may be evaluated, and numbers of the universe
pub record IsSafe (l : Listed) : Type 0 where
  pub safe : All CanCheck l.query.goals.constraints.items
  pub values : All (λ n. n ≤ INFINITY) l.answers.values.items

abbrev pub CanTell : Result Listed Stop → Type 0
CanTell (Ok l) = IsSafe l
CanTell (Err s) = Unit {0}

-- a refusal was written
abbrev pub PutsRefusal : SinkState → SinkState → CheckStatus → ℕ → List ℕ → Type 0
PutsRefusal old new result place reason = Ending old new result status.Refused (refusal place reason)

-- the judgement of an input was written, or memory was wanting before
abbrev pub Checks : SinkState → SinkState → CheckStatus → List ℕ → Type 0
Checks old new result input =
    ((j : Judgement) × IsJudged INFINITY input j × Ending old new result (judgement_status j) (judgement_output j))
    ⊎ ((result ≡ status.NoMemory) × (new ≡ old))
