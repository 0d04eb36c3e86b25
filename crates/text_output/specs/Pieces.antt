-- The pieces in which an output is handed to a sink: each line is one, and so is the text of each `write`.
use Rattle.std.specs.Prelude.{◌≡◌, ℕ, ◌+◌, Bool, false, List, [], ◌∷◌, ◌++◌, Option, Result, MatchResult, codes, decimal, map}
use Rattle.std.specs.List.{concat}
use Rattle.fd_model.specs.declared.Status.{Status}
use Rattle.fd_model.specs.declared.Status.TheVariants.{WriteFault, NoMemory}
use Rattle.fd_model.specs.Goal.{Event, Program, Query, start_of}
use Rattle.fd_model.specs.Lines.{line, event_bytes}
use Rattle.fd_model.specs.Output.{refusal, is_stop, or_stop}
use Rattle.fd_model.specs.Run.{Run}
use Rattle.fd_model.specs.Verdict.{Verdict, accepted, refused}
use Rattle.byte_ports.specs.Ends.{SinkState, WroteAll, sink_at}
use Rattle.byte_ports.specs.Lines.{lines_of}
use Rattle.byte_ports.specs.Ports.{Handed, HandedFront}
use Rattle.text_output.specs.declared.fault.Fault.{Fault}
use Rattle.text_output.specs.Endings.{CutBy}

-- ---- the pieces of an output

-- Of the queries from the n-th on, and whether the run of one of them stopped: for each its first line, and then one piece for each event of its run, which is the
-- text that `write` gives, the newline of `nl` or a line.
abbrev pub QueryPieces : ℕ → ℕ → Program → ℕ → Option ℕ → ℕ → List Query → List (List ℕ) → Bool → Type 0
QueryPieces M N prog budget answers n [] pieces stop = (pieces ≡ []) × (stop ≡ false)
QueryPieces M N prog budget answers n (q ∷ qs) pieces stop =
    (es : List Event) × (spent : ℕ) × (rest : List (List ℕ)) × (later : Bool)
    × Run M N prog q budget answers (start_of q ∷ []) es spent
    × QueryPieces M N prog budget answers (n + 1) qs rest later
    × (pieces ≡ line (codes "query " ++ decimal n) ∷ (map event_bytes es ++ rest))
    × (stop ≡ or_stop (is_stop es) later)

-- of a verdict: the line of a refusal, or those of a program's queries
abbrev pub VerdictPieces : ℕ → ℕ → Verdict → ℕ → Option ℕ → List (List ℕ) → Type 0
VerdictPieces M N (refused place reason) budget answers pieces = pieces ≡ lines_of (refusal place reason)
VerdictPieces M N (accepted prog) budget answers pieces = (stop : Bool) × QueryPieces M N prog budget answers 1 prog.queries pieces stop

-- of a run with this status: before a fault some of the pieces were handed over, from the first on, and else all
abbrev pub HandedEnding : Option (List (List ℕ)) → Option (List (List ℕ)) → Status → List (List ℕ) → Type 0
HandedEnding old new WriteFault pieces = HandedFront old new pieces
HandedEnding old new NoMemory pieces = HandedFront old new pieces
HandedEnding old new _ pieces = Handed old new pieces

-- ---- pieces and their bytes

-- a sink: the bytes that it was given and how often it failed, and the pieces that its calls were handed
pub record PieceSink : Type 0 where
  pub bytes : SinkState
  pub handed : Option (List (List ℕ))

abbrev pub sink_seen : Option (List ℕ) → ℕ → Option (List (List ℕ)) → PieceSink
sink_seen written faults handed = record { bytes = sink_at written faults; handed = handed }

-- the pieces were written whole, each handed over as one
pub record GaveAll (old new : PieceSink) (pieces : List (List ℕ)) : Type 0 where
  pub wrote : WroteAll old.bytes new.bytes (concat pieces)
  pub handed : Handed old.handed new.handed pieces

-- pieces from the first on were handed over before a fault, which cut their bytes short
pub record GaveFront (old new : PieceSink) (e : Fault) (pieces : List (List ℕ)) : Type 0 where
  pub wrote : CutBy old.bytes new.bytes e (concat pieces)
  pub handed : HandedFront old.handed new.handed pieces

-- of a call that gives pieces
abbrev pub Gave : {A : Type 0} → PieceSink → PieceSink → Result A Fault → List (List ℕ) → Type 0
Gave old new result pieces = MatchResult result (λ _. GaveAll old new pieces) (λ e. GaveFront old new e pieces)
