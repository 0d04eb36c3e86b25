-- What the ends of a program tell before or after a call.
use Rattle.std.specs.Prelude.{◌≡◌, ℕ, ◌≤◌, List, Option}
use Rattle.byte_ports.specs.Ports.{Put, PutPart, Rose}

-- a sink: the bytes that it was given, where it tells them, and how often it failed
pub record SinkState : Type 0 where
  pub written : Option (List ℕ)
  pub faults : ℕ

abbrev pub sink_at : Option (List ℕ) → ℕ → SinkState
sink_at written faults = record { written = written; faults = faults }

-- both ends: what the source has left and the sink was given, where they tell it, and how often they failed
pub record Ends : Type 0 where
  pub left : Option (List ℕ)
  pub written : Option (List ℕ)
  pub source_faults : ℕ
  pub sink_faults : ℕ

abbrev pub ends : Option (List ℕ) → Option (List ℕ) → ℕ → ℕ → Ends
ends left written source_faults sink_faults =
    record { left = left; written = written; source_faults = source_faults; sink_faults = sink_faults }

abbrev pub sink_of : Ends → SinkState
sink_of e = sink_at e.written e.sink_faults

-- the piece was written whole, and no call failed
pub record WroteAll (old new : SinkState) (piece : List ℕ) : Type 0 where
  pub put : Put old.written new.written piece
  pub faults : new.faults ≡ old.faults

-- a front of the piece was written, and the last call failed
pub record WroteFront (old new : SinkState) (piece : List ℕ) : Type 0 where
  pub put : PutPart old.written new.written piece
  pub rose : Rose old.faults new.faults
  pub later : old.faults ≤ new.faults

-- a front of the piece was written, and no call failed
pub record WrotePart (old new : SinkState) (piece : List ℕ) : Type 0 where
  pub put : PutPart old.written new.written piece
  pub faults : new.faults ≡ old.faults
