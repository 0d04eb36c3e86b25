-- How the writing of an output ends, from what its last call says.
use Rattle.std.proofs.Common.{ℕ, inl, inr, List, [], Option, refl, sym, append-nil}
use Rattle.fd_model.specs.declared.Status.{Status}
use Rattle.fd_model.specs.declared.Status.TheVariants.{Done, Usage, Refused, Stopped, ReadFault, WriteFault, NoMemory}
use Rattle.byte_ports.proofs.Lemmas.{handed_none, wrote_no_part}
use Rattle.byte_ports.specs.Ends.{SinkState}
use Rattle.byte_ports.specs.Ports.{Handed, HandedFront}
use Rattle.text_output.specs.declared.fault.Fault.{Fault}
use Rattle.text_output.specs.declared.fault.Fault.TheVariants as fault
use Rattle.text_output.specs.Endings.{CutBy, Ending, WroteOutput, fault_status}
use Rattle.text_output.specs.Pieces.{HandedEnding}

-- memory was wanting before the first byte
pub no_memory : (s : SinkState) (st : Status) (out : List ℕ) → Ending s s NoMemory st out
no_memory s st out = inr (inr (refl, wrote_no_part s out))

-- and before the first piece
pub no_pieces : (a : Option (List (List ℕ))) (ps : List (List ℕ)) → HandedEnding a a NoMemory ps
no_pieces a ps = ([], ps, refl, handed_none a)

-- a run that takes no memory ends as others do
pub without_memory : (old new : SinkState) (result st : Status) (out : List ℕ) → WroteOutput old new result st out → Ending old new result st out
without_memory old new result st out (inl h) = inl h
without_memory old new result st out (inr h) = inr (inl h)

-- a fault cut the output short
pub cut_ending : (old new : SinkState) (f : Fault) (st : Status) (out : List ℕ) → CutBy old new f out → Ending old new (fault_status f) st out
cut_ending old new fault.WriteFault st out w = inr (inl (refl, w))
cut_ending old new fault.NoMemory st out w = inr (inr (refl, w))

-- and the pieces
pub front_ending : (a b : Option (List (List ℕ))) (f : Fault) (ps : List (List ℕ)) → HandedFront a b ps → HandedEnding a b (fault_status f) ps
front_ending a b fault.WriteFault ps h = h
front_ending a b fault.NoMemory ps h = h

-- all of them were handed over
pub all_ending : (a b : Option (List (List ℕ))) (st : Status) (ps : List (List ℕ)) → Handed a b ps → HandedEnding a b st ps
all_ending a b Done ps h = h
all_ending a b Usage ps h = h
all_ending a b Refused ps h = h
all_ending a b Stopped ps h = h
all_ending a b ReadFault ps h = h
all_ending a b WriteFault ps h = (ps, [], sym (append-nil ps), h)
all_ending a b NoMemory ps h = (ps, [], sym (append-nil ps), h)
