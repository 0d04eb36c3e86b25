-- What was read and written when a call ends.
use Rattle.std.specs.Prelude.{◌≡◌, ◌≤◌, ◌⊎◌, ℕ, List, ◌++◌, Option, Some, IsSome, Bool, false, Result, MatchResult, ◌||◌}
use Rattle.std.specs.List.{list_any}
use Rattle.byte_ports.specs.Ends.{Ends, SinkState, sink_of, WroteAll, WroteFront, WrotePart}
use Rattle.byte_ports.specs.Ports.{PutPart, Rose, Took, IsAtEnd}
use Rattle.clpwhere.specs.declared.outcome.Fault.{Fault}
use Rattle.clpwhere.specs.declared.outcome.Fault.TheVariants as fault
use Rattle.clpwhere.specs.declared.outcome.Status.{Status}
use Rattle.clpwhere.specs.declared.outcome.Status.TheVariants as status
use Rattle.byte_ports.specs.Lines.{is_newline}
use Rattle.clpwhere.specs.MarkedLines.{marked, is_told}
use Rattle.clpwhere.specs.QueriedLines.{marked_from, tells_from}
use Rattle.clpwhere.specs.Parts.{QueriedParts}

-- what a fault leaves of a piece; writing has no fault of reading
abbrev pub CutBy : SinkState → SinkState → Fault → List ℕ → Type 0
CutBy old new fault.ReadFault piece = ⊥
CutBy old new fault.WriteFault piece = WroteFront old new piece
CutBy old new fault.NoMemory piece = WrotePart old new piece

-- of a call that writes a piece
abbrev pub Wrote : {A : Type 0} → SinkState → SinkState → Result A Fault → List ℕ → Type 0
Wrote old new result piece =
    MatchResult result (λ _. WroteAll old new piece) (λ e. CutBy old new e piece)

-- ---- lines that are read piece by piece

-- no newline stands in a line that isn't whole yet
abbrev pub IsOpen : List ℕ → Type 0
IsOpen line = list_any is_newline line ≡ false

-- of bytes that begin at a line of the query from, all but an open line of the query have given this output, and told something or nothing
pub record Gave (t : QueriedParts) (from : Option ℕ) (bytes : List ℕ) (query : Option ℕ) (line out : List ℕ) (told : Bool) : Type 0 where
  pub output : (rest : List ℕ) → marked_from t from (bytes ++ rest) ≡ out ++ marked_from t query (line ++ rest)
  pub tells : (rest : List ℕ) → tells_from t from (bytes ++ rest) ≡ (told || tells_from t query (line ++ rest))

-- of bytes behind an open line, that have left another one
pub record GaveAll (t : QueriedParts) (old new : SinkState) (from : Option ℕ) (bytes : List ℕ) (query : Option ℕ) (line : List ℕ) (told : Bool) : Type 0 where
  pub out : List ℕ
  pub gave : Gave t from bytes query line out told
  pub wrote : WroteAll old new out
  pub rest : IsOpen line

abbrev pub Fed : QueriedParts → SinkState → SinkState → Option ℕ → List ℕ → Option ℕ → List ℕ → Result Bool Fault → Type 0
Fed t old new from bytes query line result = MatchResult result
    (λ told. GaveAll t old new from bytes query line told)
    (λ e. (rest : List ℕ) → CutBy old new e (marked_from t from (bytes ++ rest)))

-- ---- the whole input

-- it was read to its end, and its output was written
pub record Copied (t : QueriedParts) (old new : Ends) (told : Bool) : Type 0 where
  pub input : List ℕ
  pub took : Took old.left new.left input
  pub end : IsAtEnd new.left
  pub source_faults : new.source_faults ≡ old.source_faults
  pub wrote : WroteAll (sink_of old) (sink_of new) (marked t input)
  pub tells : told ≡ is_told t input

-- which count a fault raised
abbrev pub Counted : Fault → Ends → Ends → Type 0
Counted fault.ReadFault old new =
    Rose old.source_faults new.source_faults × (old.source_faults ≤ new.source_faults)
    × (new.sink_faults ≡ old.sink_faults)
Counted fault.WriteFault old new =
    (new.source_faults ≡ old.source_faults) × Rose old.sink_faults new.sink_faults
    × (old.sink_faults ≤ new.sink_faults)
Counted fault.NoMemory old new =
    (new.source_faults ≡ old.source_faults) × (new.sink_faults ≡ old.sink_faults)

-- a front of its output was written
pub record CutShort (t : QueriedParts) (old new : Ends) (e : Fault) : Type 0 where
  pub input : List ℕ
  pub whole : IsSome new.left → old.left ≡ Some input
  pub wrote : PutPart old.written new.written (marked t input)
  pub front : List ℕ
  pub took : Took old.left new.left front
  pub counted : Counted e old new

abbrev pub CopyEnds : QueriedParts → Ends → Ends → Result Bool Fault → Type 0
CopyEnds t old new result = MatchResult result (Copied t old new) (CutShort t old new)

-- ---- how a run ends

abbrev pub status_number : Status → ℕ
status_number status.Done = 0
status_number status.Warned = 1
status_number status.Usage = 2
status_number status.Refused = 3
status_number status.Unreadable = 4
status_number status.ReadFault = 5
status_number status.WriteFault = 6
status_number status.NoMemory = 7

-- the status of a run that was cut short
abbrev pub fault_status : Fault → Status
fault_status fault.ReadFault = status.ReadFault
fault_status fault.WriteFault = status.WriteFault
fault_status fault.NoMemory = status.NoMemory

-- of a run that writes an output with its status
abbrev pub Ending : SinkState → SinkState → Status → Status → List ℕ → Type 0
Ending old new result st out =
    ((result ≡ st) × WroteAll old new out)
    ⊎ (((result ≡ status.WriteFault) × WroteFront old new out)
    ⊎ ((result ≡ status.NoMemory) × WrotePart old new out))
