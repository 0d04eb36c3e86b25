-- What is told for words and a text, and the status.
use Rattle.std.specs.Prelude.{◌≡◌, ◌⊎◌, ℕ, Bool, true, false, List, [], ◌∷◌, ◌++◌, Option, Some, None, if◌then◌else◌, codes}
use Rattle.std.specs.List.{list_any}
use Rattle.fd_language.specs.Reading.{Sentence, sentences, IsReading}
use Rattle.fd_model.specs.Goal.{Program}
use Rattle.fd_model.specs.Lines.{line}
use Rattle.fd_model.specs.Output.{refusal}
use Rattle.fd_model.specs.Queries.{program_of}
use Rattle.fd_model.specs.Verdict.{accepted, refused, IsVerdict}
use Rattle.reason_meaning.specs.declared.status.Status.{Status}
use Rattle.reason_meaning.specs.declared.status.Status.TheVariants.{Answered, Explained, Usage, Refused, Unknown, ReadFault, WriteFault, NoMemory}
use Rattle.reason_meaning.specs.Outcomes.{Outcome, unanswered, stopped}
use Rattle.reason_meaning.specs.TextQueries.{TextQuery, text_queries, asked_queries}
use Rattle.reason_meaning.specs.Told.{QueryTold}
use Rattle.reason_meaning.specs.Words.{Asked}

-- ---- statuses

abbrev pub status_number : Status → ℕ
status_number Answered = 0
status_number Explained = 1
status_number Usage = 2
status_number Refused = 3
status_number Unknown = 4
status_number ReadFault = 5
status_number WriteFault = 6
status_number NoMemory = 7

abbrev pub is_stopped : Outcome → Bool
is_stopped (stopped e) = true
is_stopped o = false

abbrev pub is_unanswered : Outcome → Bool
is_unanswered unanswered = true
is_unanswered o = false

-- of the outcomes of the queries that were looked at: one that isn't known goes before one without an answer
abbrev pub outcomes_status : List Outcome → Status
outcomes_status os = if list_any is_stopped os then Unknown else if list_any is_unanswered os then Explained else Answered

-- the statuses of an output
abbrev pub IsDecided : Status → Type 0
IsDecided Answered = Unit {0}
IsDecided Explained = Unit {0}
IsDecided Usage = Unit {0}
IsDecided Refused = Unit {0}
IsDecided Unknown = Unit {0}
IsDecided ReadFault = ⊥
IsDecided WriteFault = ⊥
IsDecided NoMemory = ⊥

-- ---- outputs

abbrev pub usage : List ℕ
usage = line (codes "usage: clpwhy [--query K] [--steps N] [--infinity M] [--more R] [--keep P/A,..] [--only P/A,..]")

-- what is told of queries of a program, one after the other, and their outcomes
pub QueriesTold : ℕ → Asked → Program → List ℕ → List TextQuery → List Outcome → List ℕ → Type 0
QueriesTold M a prog text [] os out = (os ≡ []) × (out ≡ [])
QueriesTold M a prog text (t ∷ ts) os out =
    (o : Outcome) × (later : List Outcome) × (here : List ℕ) × (rest : List ℕ)
    × QueryTold M a.infinity a.steps a.reasons a.choice prog text t o here
    × QueriesTold M a prog text ts later rest × (os ≡ o ∷ later) × (out ≡ here ++ rest)

-- of a text that is a program: its sentences, and what is told of the queries that are asked for
pub record ProgramTold (M : ℕ) (a : Asked) (text out : List ℕ) (st : Status) : Type 0 where
  pub list : List Sentence
  pub read : IsReading text (sentences list)
  pub verdict : IsVerdict M a.infinity text (accepted (program_of a.infinity list))
  pub outcomes : List Outcome
  pub queries : QueriesTold M a (program_of a.infinity list) text (asked_queries a.query (text_queries a.infinity list)) outcomes out
  pub status : st ≡ outcomes_status outcomes

-- of one that isn't: the line of its refusal
pub record RefusalTold (M : ℕ) (a : Asked) (text out : List ℕ) (st : Status) : Type 0 where
  pub place : ℕ
  pub reason : List ℕ
  pub verdict : IsVerdict M a.infinity text (refused place reason)
  pub bytes : out ≡ refusal place reason
  pub status : st ≡ Refused

-- What is told for words that ask for this, or for none that do, and a text. A query has several reasons, so it has several outputs.
abbrev pub Tells : ℕ → Option Asked → List ℕ → List ℕ → Status → Type 0
Tells M None text out st = (out ≡ usage) × (st ≡ Usage)
Tells M (Some a) text out st = RefusalTold M a text out st ⊎ ProgramTold M a text out st
