-- The headline of the program of listings: what a run writes, how it ends, and what stays as it was.
use Rattle.std.specs.Prelude.{◌≡◌, ◌<◌, ◌≤◌, ◌⊎◌, ℕ, Bool, List, length, Option, Some, None, IsSome, codes}
use Rattle.fd_language.specs.declared.TheConstants.{INFINITY}
use Rattle.fd_model.specs.Goal.{Program}
use Rattle.fd_model.specs.declared.Status.{Status}
use Rattle.fd_model.specs.declared.Status.TheVariants.{Done, Usage, Refused, Stopped, ReadFault, WriteFault, NoMemory}
use Rattle.fd_model.specs.Output.{Queries, refusal, stop_status}
use Rattle.fd_model.specs.Verdict.{Verdict, accepted, refused, max_text, IsVerdict}
use Rattle.machine_events.specs.declared.Limits.{Limits}
use Rattle.byte_ports.specs.Ends.{Ends, sink_of}
use Rattle.byte_ports.specs.Ports.{Rose, Took, IsAtEnd}
use Rattle.text_output.specs.Endings.{Ending, HasLast, RunsProgram}
use Rattle.code_listing.specs.Listing.{listing}
use Rattle.code_listing.specs.Sheets.{Listed}
use Rattle.listing_loader.specs.declared.fault.LoadFault.{LoadFault}
use Rattle.listing_loader.specs.declared.fault.LoadFault.TheVariants as why
use Rattle.listing_loader.specs.LoadedCode.{IsHeld, IsLoadFault}
use Rattle.clpcode.specs.declared.command.Task.{Task}
use Rattle.clpcode.specs.declared.command.Task.TheVariants.{List as ListIt, Load}
use Rattle.clpcode.specs.Words.{task_of}
use Rattle.clpcode.specs.Lines.{usage, refusal_line}

-- ---- texts and listings

-- The text of a call: what the source had left, where it still tells its bytes. One that isn't too large was read to its end.
pub record IsText (old new : Ends) (text : List ℕ) : Type 0 where
  pub told : IsSome new.left → old.left ≡ Some text
  pub whole : length text ≤ max_text → IsAtEnd new.left

-- The text is the listing of this code with the states of its places, by which it is verified.
pub record IsListing (text : List ℕ) (l : Listed) : Type 0 where
  pub held : IsHeld l
  pub bytes : listing l.area l.states ≡ text

-- ---- what is written for a text

-- In these definitions Gives says how a call ended whose output is given with its status: Ending.

-- For a program, the listing of some code that stands for it; otherwise its refusal.
abbrev pub ListsVerdict : (Status → List ℕ → Type 0) → Verdict → Type 0
ListsVerdict Gives (refused place reason) = Gives Refused (refusal place reason)
ListsVerdict Gives (accepted prog) = (text : List ℕ) × (l : Listed) × IsListing text l × RunsProgram l.area prog × Gives Done text

-- of `list`
abbrev pub Lists : (Status → List ℕ → Type 0) → List ℕ → Type 0
Lists Gives text = (v : Verdict) × IsVerdict INFINITY INFINITY text v × ListsVerdict Gives v

-- the limits of queries: 1,000,000 reductions, as many answers as there are, and all numbers of the universe
abbrev pub limits : Limits
limits = record { steps = 1000000; answers = None; infinity = INFINITY }

-- the output of a program's queries
abbrev pub AnswersProgram : (Status → List ℕ → Type 0) → Program → Type 0
AnswersProgram Gives prog =
    (out : List ℕ) (stop : Bool) → Queries INFINITY limits.infinity prog limits.steps limits.answers 1 prog.queries out stop → Gives (stop_status stop) out

-- A text that is a listing.
pub record Runs (Gives : Status → List ℕ → Type 0) (result : Status) (text : List ℕ) : Type 0 where
  -- it is the listing of this code
  pub code : Listed
  pub is : IsListing text code
  -- for each program that code with this listing stands for, the output is that of its queries
  pub programs : (l : Listed) (prog : Program) → IsListing text l → RunsProgram l.area prog → AnswersProgram Gives prog
  -- whether or not it stands for a program, some output was written
  pub output : (out : List ℕ) × (stop : Bool) × Gives (stop_status stop) out
  -- and the last event of each query says whether the status is `Done` or `Stopped`
  pub last : (stop : Bool) → result ≡ stop_status stop → HasLast code.area limits stop

-- the line of a fault
abbrev pub RefusesFault : (Status → List ℕ → Type 0) → LoadFault → Type 0
RefusesFault Gives (why.BadLine n) = Gives Refused (refusal_line n (codes "bad line"))
RefusesFault Gives (why.BadNumber n) = Gives Refused (refusal_line n (codes "bad number"))
RefusesFault Gives (why.BadRange n) = Gives Refused (refusal_line n (codes "bad range"))
RefusesFault Gives (why.NotVerified n) = Gives Refused (refusal_line n (codes "not verified"))
RefusesFault Gives why.NoMemory = ⊥

-- A text that is no listing, for its first fault.
pub record Refuses (Gives : Status → List ℕ → Type 0) (text : List ℕ) : Type 0 where
  pub none : (l : Listed) → ¬ IsListing text l
  pub fault : LoadFault
  pub is : IsLoadFault text fault
  pub line : RefusesFault Gives fault

-- of `load`
abbrev pub Loads : (Status → List ℕ → Type 0) → Status → List ℕ → Type 0
Loads Gives result text =
    ((max_text < length text) × Gives Refused (refusal max_text (codes "too large")))
    ⊎ ((length text ≤ max_text) × (Refuses Gives text ⊎ Runs Gives result text))

-- of what the words ask for
abbrev pub Answers : Task → (Status → List ℕ → Type 0) → Status → List ℕ → Type 0
Answers ListIt Gives result text = Lists Gives text
Answers Load Gives result text = Loads Gives result text

-- ---- the headline

-- Reading failed, or memory was wanting; nothing was written.
pub record IsUnanswered (old new : Ends) (result : Status) : Type 0 where
  pub status : ((result ≡ ReadFault) × Rose old.source_faults new.source_faults) ⊎ (result ≡ NoMemory)
  pub sink : sink_of new ≡ sink_of old

-- a status that says that the whole output was written
abbrev pub IsWhole : Status → Type 0
IsWhole Done = Unit {0}
IsWhole Usage = Unit {0}
IsWhole Refused = Unit {0}
IsWhole Stopped = Unit {0}
IsWhole ReadFault = ⊥
IsWhole WriteFault = ⊥
IsWhole NoMemory = ⊥

pub record Headline (words : List (List ℕ)) (old new : Ends) (result : Status) : Type 0 where
  -- words that ask for nothing have the usage line, and leave the source as it was
  pub usage : task_of words ≡ None → Ending (sink_of old) (sink_of new) result Usage usage
  pub untouched : task_of words ≡ None → (new.left ≡ old.left) × (new.source_faults ≡ old.source_faults)
  -- others never have it
  pub usage_only : result ≡ Usage → task_of words ≡ None
  -- `list` refuses a text as it is refused without this program, and else writes a listing; `load` refuses a text that is too large or no listing, and else
  -- runs its queries
  pub answers : (t : Task) → task_of words ≡ Some t → IsUnanswered old new result ⊎ ((text : List ℕ) × IsText old new text × Answers t (Ending (sink_of old) (sink_of new) result) result text)
  -- a read fault or a write fault is told exactly where it was counted; after a read fault nothing was written
  pub read_fault : result ≡ ReadFault → Rose old.source_faults new.source_faults × (sink_of new ≡ sink_of old)
  pub read_told : old.source_faults < new.source_faults → result ≡ ReadFault
  pub write_fault : result ≡ WriteFault → Rose old.sink_faults new.sink_faults
  pub write_told : old.sink_faults < new.sink_faults → result ≡ WriteFault
  -- without a counted fault the whole output was written, or memory was wanting
  pub no_fault : ¬ Rose old.source_faults new.source_faults → ¬ Rose old.sink_faults new.sink_faults → IsWhole result ⊎ (result ≡ NoMemory)
  -- no count falls
  pub source_later : old.source_faults ≤ new.source_faults
  pub sink_later : old.sink_faults ≤ new.sink_faults
  -- what is left is an end of what was left
  pub rest : (front : List ℕ) × Took old.left new.left front
