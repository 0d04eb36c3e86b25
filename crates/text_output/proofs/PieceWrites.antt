-- Pieces given one after another, until a fault.
use Rattle.std.proofs.Common.{◌≡◌, ℕ, List, [], ◌++◌, Result, Err, sym, subst}
use Rattle.std.specs.List.{concat}
use Rattle.std.proofs.lemmas.List.Folds.{concat-append}
use Rattle.byte_ports.specs.Ends.{SinkState, WroteAll, WrotePart}
use Rattle.byte_ports.proofs.Lemmas as bytes
use Rattle.byte_ports.proofs.Lemmas.{front_before, front_behind, handed_front, handed_none, handed_then, wrote_nothing}
use Rattle.text_output.specs.declared.fault.Fault.{Fault}
use Rattle.text_output.specs.declared.fault.Fault.TheVariants as fault
use Rattle.text_output.specs.Endings.{CutBy}
use Rattle.text_output.specs.Pieces.{PieceSink, GaveAll, GaveFront, Gave}

pub gave_nothing : (a : PieceSink) → GaveAll a a []
gave_nothing a = record { wrote = wrote_nothing a.bytes; handed = handed_none a.handed }

-- pieces behind others
pub all_then : (a b c : PieceSink) (ps qs : List (List ℕ)) → GaveAll a b ps → GaveAll b c qs → GaveAll a c (ps ++ qs)
all_then a b c ps qs h g = record {
  wrote = subst (WroteAll a.bytes c.bytes) (sym (concat-append ps qs)) (bytes.all_then a.bytes b.bytes c.bytes (concat ps) (concat qs) h.wrote g.wrote);
  handed = handed_then a.handed b.handed c.handed ps qs h.handed g.handed;
}

bytes_then : (a b c : SinkState) (p q : List ℕ) (e : Fault) → WroteAll a b p → CutBy b c e q → CutBy a c e (p ++ q)
bytes_then a b c p q fault.WriteFault h g = bytes.front_then a b c p q h g
bytes_then a b c p q fault.NoMemory h g = bytes.part_then a b c p q h g

bytes_longer : (a b : SinkState) (p q : List ℕ) (e : Fault) → CutBy a b e p → CutBy a b e (p ++ q)
bytes_longer a b p q fault.WriteFault h = bytes.longer_front a b p q h
bytes_longer a b p q fault.NoMemory h = bytes.longer_part a b p q h

-- some of them behind others
pub cut_then : (a b c : PieceSink) (ps qs : List (List ℕ)) (e : Fault) → GaveAll a b ps → GaveFront b c e qs → GaveFront a c e (ps ++ qs)
cut_then a b c ps qs e h g = record {
  wrote = subst (CutBy a.bytes c.bytes e) (sym (concat-append ps qs)) (bytes_then a.bytes b.bytes c.bytes (concat ps) (concat qs) e h.wrote g.wrote);
  handed = front_behind a.handed b.handed c.handed ps qs h.handed g.handed;
}

-- and some of those that begin with them
pub cut_longer : (a b : PieceSink) (ps qs : List (List ℕ)) (e : Fault) → GaveFront a b e ps → GaveFront a b e (ps ++ qs)
cut_longer a b ps qs e h = record {
  wrote = subst (CutBy a.bytes b.bytes e) (sym (concat-append ps qs)) (bytes_longer a.bytes b.bytes (concat ps) (concat qs) e h.wrote);
  handed = front_before a.handed b.handed ps qs h.handed;
}

-- of a result
pub gave_cut : {A : Type 0} (a b : PieceSink) (r : Result A Fault) (e : Fault) (ps : List (List ℕ)) → r ≡ Err e → GaveFront a b e ps → Gave a b r ps
gave_cut {A} a b r e ps is h = subst (λ (s : Result A Fault). Gave a b s ps) (sym is) h

pub gave_short : {A : Type 0} (a b : PieceSink) (r : Result A Fault) (ps qs : List (List ℕ)) → r ≡ Err fault.NoMemory → GaveAll a b ps → Gave a b r (ps ++ qs)
gave_short {A} a b r ps qs is h =
    gave_cut a b r fault.NoMemory (ps ++ qs) is
    (record {
      wrote = subst (WrotePart a.bytes b.bytes) (sym (concat-append ps qs)) (bytes.all_front a.bytes b.bytes (concat ps) (concat qs) h.wrote);
      handed = handed_front a.handed b.handed ps qs h.handed;
    })

-- ---- what was given, whatever it is

pub some_cut : {A : Type 0} (old now new : PieceSink) (r : Result A Fault) (e : Fault) (ps : List (List ℕ)) → r ≡ Err e → (done : List (List ℕ)) × GaveAll old now done
    → GaveFront now new e ps → (out : List (List ℕ)) × Gave old new r out
some_cut {A} old now new r e ps is some c = (some.0 ++ ps, gave_cut old new r e (some.0 ++ ps) is (cut_then old now new some.0 ps e some.1 c))

pub some_short : {A : Type 0} (old now : PieceSink) (r : Result A Fault) → r ≡ Err fault.NoMemory → (done : List (List ℕ)) × GaveAll old now done → (out : List (List ℕ)) × Gave old now r out
some_short {A} old now r is some = (some.0 ++ [], gave_short old now r some.0 [] is some.1)

pub some_more : (old now new : PieceSink) (ps : List (List ℕ)) → (done : List (List ℕ)) × GaveAll old now done → GaveAll now new ps → (done : List (List ℕ)) × GaveAll old new done
some_more old now new ps some w = (some.0 ++ ps, all_then old now new some.0 ps some.1 w)
