-- The headline: what a run writes, how it ends, and what stays as it was.
use Rattle.std.specs.Prelude.{◌≡◌, ◌<◌, ◌≤◌, ◌⊎◌, ℕ, Bool, true, false, List, [], ◌++◌, Option, Some, IsSome, codes, string_bytes}
use Rattle.byte_ports.specs.Ports.{Put, PutPart, Rose, Took, IsAtEnd}
use Rattle.clpwhere.specs.declared.outcome.Status.{Status}
use Rattle.clpwhere.specs.declared.outcome.Status.TheVariants.{Done, Usage, Refused, Unreadable, ReadFault, WriteFault, NoMemory, Warned}
use Rattle.clpwhere.specs.declared.command.Asked.{Asked}
use Rattle.clpwhere.specs.declared.command.Asked.TheVariants as asked
use Rattle.clpwhere.specs.MarkedLines.{marked, is_told}
use Rattle.clpwhere.specs.Parts.{TextParts}
use Rattle.clpwhere.specs.WarnedLines.{IsWarned}
use Rattle.byte_ports.specs.Ends.{Ends, SinkState, WroteAll, WroteFront}

-- the statuses of an output
abbrev pub IsDecided : Status → Type 0
IsDecided Done = Unit {0}
IsDecided Usage = Unit {0}
IsDecided Refused = Unit {0}
IsDecided Unreadable = Unit {0}
IsDecided Warned = Unit {0}
IsDecided ReadFault = ⊥
IsDecided WriteFault = ⊥
IsDecided NoMemory = ⊥

abbrev pub usage : List ℕ
usage = codes "usage: clpwhere [--warn FILE ..|[--faults] FILE]\n"

abbrev pub help : List ℕ
help =
    usage ++ codes "clpwhere FILE reads from its input what clpfd wrote, and explains each refusal in it by the text in the file.\nclpwhere --faults FILE tells below each fault in it the place of the query too.\nclpwhere --warn FILE .. warns of what often is a mistake in the text that the files make together.\nclpwhere --version writes the version.\n"

abbrev pub version : List ℕ
version = codes "clpwhere 1.0\n"

abbrev pub unreadable : List ℕ → List ℕ
unreadable name = name ++ codes " can't be read\n"

-- the whole output for what the words ask for and an input
abbrev pub output : Asked → List ℕ → List ℕ
output asked.Usage input = usage
output asked.Help input = help
output asked.Version input = version
output (asked.Unreadable name) input = unreadable (string_bytes name)
output (asked.Text text) input = marked text input

abbrev pub told_status : Bool → Status
told_status true = Refused
told_status false = Done

-- and its status
abbrev pub output_status : Asked → List ℕ → Status
output_status asked.Usage input = Usage
output_status asked.Help input = Done
output_status asked.Version input = Done
output_status (asked.Unreadable name) input = Unreadable
output_status (asked.Text text) input = told_status (is_told text input)

-- An input of the run: what the source had left, where it still tells its bytes after the run, and
-- else some bytes. Without a text the source isn't looked at.
abbrev pub IsInput : Asked → Option (List ℕ) → Option (List ℕ) → List ℕ → Type 0
IsInput (asked.Text text) old new input = IsSome new → old ≡ Some input
IsInput _ old new input = Unit {0}

-- nothing is asked of the source without a text
abbrev pub NeedsNoInput : Asked → Type 0
NeedsNoInput (asked.Text text) = ⊥
NeedsNoInput _ = Unit {0}

-- Put, PutPart and Took say nothing where bytes aren't told; what is said of the status holds all the same.
pub record Headline (a : Asked) (old new : Ends) (result : Status) : Type 0 where
  -- whole output: a decided status is that of an input of the run, and its output was written whole
  pub whole : IsDecided result → (input : List ℕ) × IsInput a old.left new.left input
      × (output_status a input ≡ result) × Put old.written new.written (output a input)
  -- a front of an output was written before a fault or want of memory
  pub cut : (IsDecided result → ⊥) → (input : List ℕ) × IsInput a old.left new.left input
      × PutPart old.written new.written (output a input)
  -- a read fault was counted, and where one was counted it is told
  pub read_fault : result ≡ ReadFault → Rose old.source_faults new.source_faults
  pub read_told : old.source_faults < new.source_faults → result ≡ ReadFault
  -- a write fault was counted, and where one was counted it is told
  pub write_fault : result ≡ WriteFault → Rose old.sink_faults new.sink_faults
  pub write_told : old.sink_faults < new.sink_faults → result ≡ WriteFault
  -- without a counted fault the status is decided, or memory was wanting
  pub no_fault : (Rose old.source_faults new.source_faults → ⊥)
      → (Rose old.sink_faults new.sink_faults → ⊥) → IsDecided result ⊎ (result ≡ NoMemory)
  -- no count falls
  pub source_later : old.source_faults ≤ new.source_faults
  pub sink_later : old.sink_faults ≤ new.sink_faults
  -- what is left is an end of what was left
  pub rest : (front : List ℕ) × Took old.left new.left front
  -- an input that was needed and answered was read to its end
  pub read_whole : (NeedsNoInput a → ⊥) → (result ≡ Done) ⊎ (result ≡ Refused) → IsAtEnd new.left

-- no memory is taken for lines that are the same for every run
abbrev pub NeedsNoMemory : Asked → Type 0
NeedsNoMemory (asked.Text text) = ⊥
NeedsNoMemory (asked.Unreadable name) = ⊥
NeedsNoMemory _ = Unit {0}

-- the output was written whole, or a front of it with a write fault that was counted
abbrev pub WroteOutput : SinkState → SinkState → Status → Status → List ℕ → Type 0
WroteOutput old new result status out = ((result ≡ status) × WroteAll old new out) ⊎ ((result ≡ WriteFault) × WroteFront old new out)

-- How a run ends that looks the text of files through for warnings: the output of the text was written whole, or a front of it with a write fault that was counted. For
-- want of memory nothing was written.
abbrev pub WarnEnds : List TextParts → SinkState → SinkState → Status → Type 0
WarnEnds files old new result =
    ((out : List ℕ) × (status : Status) × IsWarned files out status
    × WroteOutput old new result status out)
    ⊎ ((result ≡ NoMemory) × WroteAll old new [])
