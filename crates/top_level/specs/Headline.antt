-- The headline: what a run writes and in which pieces, how it ends, and what stays as it was.
use Rattle.std.specs.Prelude.{◌≡◌, ◌<◌, ◌≤◌, ◌⊎◌, ℕ, Bool, true, false, List, [], Option, Some, None, IsSome, is_none}
use Rattle.std.specs.List.{concat}
use Rattle.fd_language.specs.declared.TheConstants.{INFINITY}
use Rattle.fd_model.specs.declared.Status.{Status}
use Rattle.fd_model.specs.declared.Status.TheVariants.{Done, Usage, Refused, Stopped, ReadFault, WriteFault, NoMemory}
use Rattle.fd_model.specs.Output.{Options, Output}
use Rattle.command_words.specs.Words.{options_of}
use Rattle.byte_ports.specs.Ends.{Ends}
use Rattle.byte_ports.specs.Ports.{Put, PutPart, Handed, HandedFront, Rose, Took, IsAtEnd}
use Rattle.top_level.specs.OutputPieces.{OutputPieces}

-- the statuses of Output
abbrev pub IsDecided : Status → Type 0
IsDecided Done = Unit {0}
IsDecided Usage = Unit {0}
IsDecided Refused = Unit {0}
IsDecided Stopped = Unit {0}
IsDecided ReadFault = ⊥
IsDecided WriteFault = ⊥
IsDecided NoMemory = ⊥

-- whether the text is read from the source: the words are accepted, and ask for no generated text
abbrev pub reads_source : Option Options → Bool
reads_source None = false
reads_source (Some o) = is_none o.generate

-- A text of the run: what the source had left, where it is read and still tells its bytes after the run, and else some text.
abbrev pub IsText : Option Options → Option (List ℕ) → Option (List ℕ) → List ℕ → Type 0
IsText asked old new text = reads_source asked ≡ true → IsSome new → old ≡ Some text

-- of a text of the run, with this output, its pieces and its status
abbrev pub HasOutput : List (List ℕ) → Ends → Ends → (List ℕ → List (List ℕ) → Status → Type 0) → Type 0
HasOutput words old new H =
    (text out : List ℕ) × (pieces : List (List ℕ)) × (st : Status)
    × IsText (options_of words) old.left new.left text
    × Output INFINITY (options_of words) text out st
    × OutputPieces INFINITY (options_of words) text pieces
    × (out ≡ concat pieces)
    × H out pieces st

-- before and after are the pieces that the sink was handed, where it tells them. Put, PutPart and Took say nothing where bytes aren't told, nor Handed and HandedFront
-- where pieces aren't; what is said of the status holds all the same.
pub record Headline (words : List (List ℕ)) (old new : Ends) (before after : Option (List (List ℕ))) (result : Status) : Type 0 where
  -- whole output: a decided status is that of an output, and the output was written whole, each of its pieces handed over as one
  pub whole : IsDecided result → HasOutput words old new (λ out pieces st. (st ≡ result) × Put old.written new.written out × Handed before after pieces)
  -- a front of an output was written before a write fault or want of memory
  pub cut : (result ≡ WriteFault) ⊎ (result ≡ NoMemory) → HasOutput words old new (λ out pieces st. PutPart old.written new.written out × HandedFront before after pieces)
  -- a read fault was counted, and nothing was written
  pub read_fault : result ≡ ReadFault → Rose old.source_faults new.source_faults × Put old.written new.written [] × Handed before after []
  -- and where a read fault was counted it is told
  pub read_told : old.source_faults < new.source_faults → result ≡ ReadFault
  -- a write fault was counted
  pub write_fault : result ≡ WriteFault → Rose old.sink_faults new.sink_faults
  -- and where one was counted it is told
  pub write_told : old.sink_faults < new.sink_faults → result ≡ WriteFault
  -- without a counted fault the status is decided, or memory was wanting
  pub no_fault : (Rose old.source_faults new.source_faults → ⊥) → (Rose old.sink_faults new.sink_faults → ⊥) → IsDecided result ⊎ (result ≡ NoMemory)
  -- no count falls
  pub source_later : old.source_faults ≤ new.source_faults
  pub sink_later : old.sink_faults ≤ new.sink_faults
  -- what is left is an end of what was left
  pub rest : (front : List ℕ) × Took old.left new.left front
  -- the usage line is for refused words alone, whatever the source tells
  pub usage_only : result ≡ Usage → options_of words ≡ None
  -- refused words, and those that ask for a generated text, leave the source as it was
  pub untouched : reads_source (options_of words) ≡ false → (new.left ≡ old.left) × (new.source_faults ≡ old.source_faults)
  -- a text from the source that was answered was read to its end
  pub read_whole : reads_source (options_of words) ≡ true → (result ≡ Done) ⊎ (result ≡ Stopped) → IsAtEnd new.left
