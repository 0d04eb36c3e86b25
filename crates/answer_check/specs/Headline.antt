-- The headline: what a check writes, how it ends, and what stays as it was.
use Rattle.std.specs.Prelude.{◌≡◌, ◌<◌, ◌≤◌, ◌⊎◌, ℕ, List, [], ◌∷◌, Option, Some, IsSome, codes}
use Rattle.fd_language.specs.declared.TheConstants.{INFINITY}
use Rattle.fd_model.specs.Lines.{line}
use Rattle.byte_ports.specs.Ends.{Ends, SinkState, WroteAll, WroteFront, WrotePart}
use Rattle.byte_ports.specs.Ports.{Put, PutPart, Rose, Took, IsAtEnd}
use Rattle.answer_check.specs.declared.outcome.CheckStatus.{CheckStatus}
use Rattle.answer_check.specs.declared.outcome.CheckStatus.TheVariants.{Good, Bad, Usage, Refused, ReadFault, WriteFault, NoMemory}
use Rattle.answer_check.specs.Judgement.{Judgement, IsJudged, judgement_output, judgement_status}

abbrev pub status_number : CheckStatus → ℕ
status_number Good = 0
status_number Bad = 1
status_number Usage = 2
status_number Refused = 3
status_number ReadFault = 5
status_number WriteFault = 6
status_number NoMemory = 7

-- the statuses of an output
abbrev pub IsDecided : CheckStatus → Type 0
IsDecided Good = Unit {0}
IsDecided Bad = Unit {0}
IsDecided Usage = Unit {0}
IsDecided Refused = Unit {0}
IsDecided ReadFault = ⊥
IsDecided WriteFault = ⊥
IsDecided NoMemory = ⊥

abbrev pub usage : List ℕ
usage = line (codes "usage: clpcheck")

-- what is written for the words and an input, and the status: any word has the usage line
abbrev pub CheckOutput : ℕ → List (List ℕ) → List ℕ → List ℕ → CheckStatus → Type 0
CheckOutput M [] input out st = (j : Judgement) × IsJudged M input j × (out ≡ judgement_output j) × (st ≡ judgement_status j)
CheckOutput M (w ∷ ws) input out st = (out ≡ usage) × (st ≡ Usage)

-- An input of the check: what the source had left, where it is read and still tells its bytes afterwards, and else some bytes.
abbrev pub IsInput : List (List ℕ) → Option (List ℕ) → Option (List ℕ) → List ℕ → Type 0
IsInput words old new input = words ≡ [] → IsSome new → old ≡ Some input

-- of a call that writes an output with its status
abbrev pub Ending : SinkState → SinkState → CheckStatus → CheckStatus → List ℕ → Type 0
Ending old new result st out =
    ((result ≡ st) × WroteAll old new out)
    ⊎ (((result ≡ WriteFault) × WroteFront old new out)
    ⊎ ((result ≡ NoMemory) × WrotePart old new out))

-- Put, PutPart and Took say nothing where bytes aren't told; what is said of the status holds all the same.
pub record Headline (words : List (List ℕ)) (old new : Ends) (result : CheckStatus) : Type 0 where
  -- whole output: a decided status is that of an output of the input, and this was written whole
  pub whole : IsDecided result → (input out : List ℕ) × IsInput words old.left new.left input × CheckOutput INFINITY words input out result × Put old.written new.written out
  -- a front of an output was written before a write fault
  pub cut : result ≡ WriteFault → (input out : List ℕ) × (st : CheckStatus) × IsInput words old.left new.left input × CheckOutput INFINITY words input out st × PutPart old.written new.written out
  -- where memory was wanting, nothing was written, or a front of an output
  pub short : result ≡ NoMemory → Put old.written new.written []
      ⊎ ((input out : List ℕ) × (st : CheckStatus) × IsInput words old.left new.left input × CheckOutput INFINITY words input out st
      × PutPart old.written new.written out)
  -- a read fault was counted, and nothing was written
  pub read_fault : result ≡ ReadFault → Rose old.source_faults new.source_faults × Put old.written new.written []
  -- and where a read fault was counted it is told
  pub read_told : old.source_faults < new.source_faults → result ≡ ReadFault
  -- a write fault was counted
  pub write_fault : result ≡ WriteFault → Rose old.sink_faults new.sink_faults
  -- and where one was counted it is told
  pub write_told : old.sink_faults < new.sink_faults → result ≡ WriteFault
  -- without a counted fault the status is decided, or memory was wanting
  pub no_fault : (Rose old.source_faults new.source_faults → ⊥) → (Rose old.sink_faults new.sink_faults → ⊥) → IsDecided result ⊎ (result ≡ NoMemory)
  -- no count falls
  pub source_later : old.source_faults ≤ new.source_faults
  pub sink_later : old.sink_faults ≤ new.sink_faults
  -- what is left is an end of what was left
  pub rest : (front : List ℕ) × Took old.left new.left front
  -- the usage line is for words alone
  pub usage_only : result ≡ Usage → words ≡ [] → ⊥
  -- words leave the source as it was
  pub untouched : (words ≡ [] → ⊥) → (new.left ≡ old.left) × (new.source_faults ≡ old.source_faults)
  -- an input that was checked was read to its end
  pub read_whole : (result ≡ Good) ⊎ (result ≡ Bad) → IsAtEnd new.left
