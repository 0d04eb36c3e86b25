-- Pieces written one after another, until a fault.
use Rattle.std.proofs.Common.{◌≡◌, ℕ, List, ◌++◌, Result, Err, refl, sym, subst}
use Rattle.byte_ports.specs.Ports.{PutPart}
use Rattle.byte_ports.proofs.Lemmas.{front_then, part_then, longer_front, longer_part, wrote_no_part}
use Rattle.clpwhere.specs.declared.outcome.Fault.{Fault}
use Rattle.clpwhere.specs.declared.outcome.Fault.TheVariants as fault
use Rattle.byte_ports.specs.Ends.{SinkState, WroteAll}
use Rattle.clpwhere.specs.Endings.{CutBy, Wrote}

-- a front of a piece behind another
pub cut_then : (a b c : SinkState) (p q : List ℕ) (e : Fault) → WroteAll a b p → CutBy b c e q → CutBy a c e (p ++ q)
cut_then a b c p q fault.ReadFault h g = absurd g
cut_then a b c p q fault.WriteFault h g = front_then a b c p q h g
cut_then a b c p q fault.NoMemory h g = part_then a b c p q h g

-- a piece that was cut short is a cut of what begins with it
pub cut_longer : (a b : SinkState) (p q : List ℕ) (e : Fault) → CutBy a b e p → CutBy a b e (p ++ q)
cut_longer a b p q fault.ReadFault h = absurd h
cut_longer a b p q fault.WriteFault h = longer_front a b p q h
cut_longer a b p q fault.NoMemory h = longer_part a b p q h

-- what was cut short is a front
pub cut_part : (a b : SinkState) (e : Fault) (p : List ℕ) → CutBy a b e p → PutPart a.written b.written p
cut_part a b fault.ReadFault p h = absurd h
cut_part a b fault.WriteFault p h = h.put
cut_part a b fault.NoMemory p h = h.put

-- of a result
pub wrote_cut : {A : Type 0} (a b : SinkState) (r : Result A Fault) (e : Fault) (p q : List ℕ) → r ≡ Err e → q ≡ p → CutBy a b e q → Wrote a b r p
wrote_cut {A} a b r e p q is same h = subst (λ (s : Result A Fault). Wrote a b s p) (sym is) (subst (CutBy a b e) same h)

pub wrote_short : {A : Type 0} (a : SinkState) (r : Result A Fault) (p : List ℕ) → r ≡ Err fault.NoMemory → Wrote a a r p
wrote_short {A} a r p is = wrote_cut a a r fault.NoMemory p p is refl (wrote_no_part a p)
