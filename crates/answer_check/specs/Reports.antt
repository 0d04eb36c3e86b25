-- What is written of answers.
use Rattle.std.specs.Prelude.{◌≡◌, ℕ, Bool, List, [], ◌∷◌, ◌++◌, Option, None, is_none, Result, Ok, Err, codes}
use Rattle.std.specs.List.{list_all}
use Rattle.fd_model.specs.Goal.{Goal}
use Rattle.fd_language.specs.declared.TheConstants.{INFINITY}
use Rattle.fd_model.specs.declared.kinds.Order.{Order}
use Rattle.fd_model.specs.Labelling.{open_ones}
use Rattle.fd_model.specs.Lines.{line}
use Rattle.byte_ports.specs.Ends.{SinkState, WroteAll, WroteFront, WrotePart}
use Rattle.byte_ports.specs.declared.ports.WriteFault.{WriteFault}
use Rattle.answer_check.specs.declared.outcome.CheckStatus.{CheckStatus}
use Rattle.answer_check.specs.declared.outcome.Fault.{Fault}
use Rattle.answer_check.specs.declared.outcome.Fault.TheVariants as fault
use Rattle.answer_check.specs.declared.report.Lines.{Lines}
use Rattle.answer_check.specs.FlatForm.{FlatQuery}
use Rattle.answer_check.specs.Judgement.{judged, OrderVerdict, IsFirstFalling, IsOrderOf, EachFirstBroken, answer_lines, order_text, is_in_order}
use Rattle.answer_check.specs.Judgement.{judgement_output, judgement_status}

-- the number of the first answer that isn't behind the one before
abbrev pub IsFalling : List ℕ → List (List ℕ) → Option ℕ → Type 0
IsFalling xs [] o = o ≡ None
IsFalling xs (ns ∷ nss) o = IsFirstFalling xs ns 2 nss o

-- the line of the order, and whether it is right
abbrev pub PutsOrder : Order → List ℕ → List (List ℕ) → List ℕ → List ℕ → Bool → Type 0
PutsOrder o xs nss old new b = (v : OrderVerdict) × IsOrderOf o xs nss v × (new ≡ old ++ line (codes "order: " ++ order_text v)) × (b ≡ is_in_order v)

-- ---- what is written piece by piece

-- so much of a text was written, and the rest waits
pub record Waits (old new : SinkState) (text rest : List ℕ) : Type 0 where
  pub front : List ℕ
  pub wrote : WroteAll old new front
  pub is : text ≡ front ++ rest

-- of a call that writes a text that waits, if there is enough of it
abbrev pub Flushes : {A : Type 0} → SinkState → SinkState → List ℕ → List ℕ → Result A WriteFault → Type 0
Flushes old new text rest (Ok u) = Waits old new text rest
Flushes old new text rest (Err e) = WroteFront old new text

-- what a fault leaves of a text
abbrev pub CutBy : SinkState → SinkState → Fault → List ℕ → Type 0
CutBy old new fault.WriteFault text = WroteFront old new text
CutBy old new fault.NoMemory text = WrotePart old new text

-- the lines of all answers, of which the last ones may wait; and whether each is right
abbrev pub PutsLines : List Goal → List (List ℕ) → SinkState → SinkState → Result Lines Fault → Type 0
PutsLines gs nss old new (Ok l) = (vs : List (Option ℕ)) × EachFirstBroken INFINITY gs nss vs × Waits old new (answer_lines 1 vs) l.text.items × (l.are_good ≡ list_all is_none vs)
PutsLines gs nss old new (Err e) = (vs : List (Option ℕ)) × EachFirstBroken INFINITY gs nss vs × CutBy old new e (answer_lines 1 vs)

-- of a judgement on answers to a query, as it is written
pub record Judges (f : FlatQuery) (nss : List (List ℕ)) (broken : List (Option ℕ)) (order : OrderVerdict) : Type 0 where
  pub each : EachFirstBroken INFINITY f.constraints nss broken
  pub rising : IsOrderOf f.order (open_ones f.members) nss order

abbrev pub PutsReport : FlatQuery → List (List ℕ) → SinkState → SinkState → Result CheckStatus Fault → Type 0
PutsReport f nss old new (Ok st) = (vs : List (Option ℕ)) × (v : OrderVerdict) × Judges f nss vs v × (st ≡ judgement_status (judged vs v)) × WroteAll old new (judgement_output (judged vs v))
PutsReport f nss old new (Err e) = (vs : List (Option ℕ)) × (v : OrderVerdict) × Judges f nss vs v × CutBy old new e (judgement_output (judged vs v))
