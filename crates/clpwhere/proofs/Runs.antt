-- The whole input, and how a run ends.
use Rattle.std.proofs.Common.{◌≡◌, ℕ, ◌<◌, ◌≤◌, inl, inr, Bool, true, false, List, [], ◌++◌, Option, Some, None, IsSome, Result, Err, refl, sym, ap, ◌∙◌}
use Rattle.std.proofs.Common.{subst, arith, append-nil}
use Rattle.std.specs.Prelude.{◌||◌}
use Rattle.byte_ports.specs.Ports.{PutPart, Rose, Took, IsAtEnd}
use Rattle.byte_ports.proofs.Lemmas.{took_none, took_more}
use Rattle.clpwhere.specs.declared.outcome.Fault.{Fault}
use Rattle.clpwhere.specs.declared.outcome.Fault.TheVariants as fault
use Rattle.clpwhere.specs.declared.outcome.Status.{Status}
use Rattle.clpwhere.specs.declared.command.Asked.{Asked}
use Rattle.clpwhere.specs.declared.command.Asked.TheVariants as asked
use Rattle.clpwhere.specs.Parts.{QueriedParts}
use Rattle.clpwhere.specs.MarkedLines.{is_told, marked}
use Rattle.clpwhere.specs.QueriedLines.{marked_from, tells_from}
use Rattle.byte_ports.specs.Ends.{Ends, sink_of, WroteAll}
use Rattle.clpwhere.specs.Endings.{CutBy, GaveAll, Copied, CutShort, CopyEnds, Counted, Ending}
use Rattle.clpwhere.specs.Headline.{Headline, IsDecided, IsInput, NeedsNoInput, output, output_status, told_status}
use Rattle.clpwhere.proofs.Pieces.{cut_part}
use Rattle.clpwhere.proofs.QueriedLines.{marked_whole, tells_whole}
use Rattle.clpwhere.proofs.LineSteps.{gave_none, gave_then, gave_cut, gave_front, gave_last, cut_last}

-- ---- the input so far

pub record HasCopied (t : QueriedParts) (old now : Ends) (query : Option ℕ) (line : List ℕ) (told : Bool) : Type 0 where
  pub front : List ℕ
  pub took : Took old.left now.left front
  pub faults : now.source_faults ≡ old.source_faults
  pub gave : GaveAll t (sink_of old) (sink_of now) None front query line told

pub none_read : (t : QueriedParts) (e : Ends) → HasCopied t e e None [] false
none_read t e = record { front = []; took = took_none e.left; faults = refl; gave = gave_none t (sink_of e) None [] refl }

-- an input that begins with what was read
pub record Whole (old new : Option (List ℕ)) (front : List ℕ) : Type 0 where
  pub after : List ℕ
  pub is : IsSome new → old ≡ Some (front ++ after)

pub whole_of : (old new : Option (List ℕ)) (front : List ℕ) → Took old new front → Whole old new front
whole_of old None front t = record { after = []; is = λ s. absurd (cc (s)) }
whole_of old (Some after) front t = record { after = after; is = λ s. t }

-- what was written is a part of the whole output
part_whole : (t : QueriedParts) (old new : Ends) (input : List ℕ) → PutPart old.written new.written (marked_from t None input) → PutPart old.written new.written (marked t input)
part_whole t old new input p = subst (λ out. PutPart old.written new.written out) (sym (marked_whole t input)) p

-- ---- a copy

pub copied : (t : QueriedParts) (old now new : Ends) (query : Option ℕ) (line piece : List ℕ) (f g : Bool) → HasCopied t old now query line f
    → Took now.left new.left piece → piece ≡ [] → IsAtEnd new.left → new.source_faults ≡ now.source_faults
    → WroteAll (sink_of now) (sink_of new) (marked_from t query line) → g ≡ tells_from t query line → Copied t old new (f || g)
copied t old now new query line piece f g r took none end same w e =
    let last = gave_last t (sink_of old) (sink_of now) (sink_of new) None r.front query line f g r.gave w e in
    record {
      input = r.front;
      took = subst (Took old.left new.left) (ap (λ p. r.front ++ p) none ∙ append-nil r.front) (took_more old.left now.left new.left r.front piece r.took took);
      end = end;
      source_faults = same ∙ r.faults;
      wrote = subst (WroteAll (sink_of old) (sink_of new)) (sym (marked_whole t r.front)) last.0;
      tells = last.1 ∙ sym (tells_whole t r.front);
    }

-- the counts of a sink that was written to
sink_counted : (a b : Ends) (e : Fault) (p : List ℕ) → b.source_faults ≡ a.source_faults → CutBy (sink_of a) (sink_of b) e p → Counted e a b
sink_counted a b fault.ReadFault p s c = absurd c
sink_counted a b fault.WriteFault p s c = (s, c.rose, c.later)
sink_counted a b fault.NoMemory p s c = (s, c.faults)

-- a write failed, or memory was wanting, in the last line
pub last_cut : (t : QueriedParts) (old now new : Ends) (query : Option ℕ) (line piece : List ℕ) (f : Bool) (e : Fault) → HasCopied t old now query line f
    → Took now.left new.left piece → piece ≡ [] → IsAtEnd new.left → new.source_faults ≡ now.source_faults
    → CutBy (sink_of now) (sink_of new) e (marked_from t query line) → CutShort t old new e
last_cut t old now new query line piece f e r more none end same c =
    let cut = cut_last t (sink_of old) (sink_of now) (sink_of new) None r.front query line f e r.gave c in
    let took = subst (Took old.left new.left) (ap (λ p. r.front ++ p) none ∙ append-nil r.front) (took_more old.left now.left new.left r.front piece r.took more) in
    record {
      input = r.front;
      whole = at_end old.left new.left r.front took end;
      wrote = part_whole t old new r.front (cut_part (sink_of old) (sink_of new) e (marked_from t None r.front) cut);
      front = r.front;
      took = took;
      counted = sink_counted old new e (marked_from t None r.front) (same ∙ r.faults) cut;
    }
  where
    at_end : (a b : Option (List ℕ)) (front : List ℕ) → Took a b front → IsAtEnd b → IsSome b → a ≡ Some front
    at_end a None front t end s = absurd (cc (s))
    at_end a (Some after) front t end s = t ∙ ap (λ l. Some (front ++ l)) end ∙ ap Some (append-nil front)

-- the lines of one more piece
pub more_read : (t : QueriedParts) (old now new : Ends) (query : Option ℕ) (line : List ℕ) (behind : Option ℕ) (next piece : List ℕ) (f g : Bool) → HasCopied t old now query line f
    → Took now.left new.left piece → new.source_faults ≡ now.source_faults → GaveAll t (sink_of now) (sink_of new) query (line ++ piece) behind next g
    → HasCopied t old new behind next (f || g)
more_read t old now new query line behind next piece f g r took same h = record {
  front = r.front ++ piece;
  took = took_more old.left now.left new.left r.front piece r.took took;
  faults = same ∙ r.faults;
  gave = gave_then t (sink_of old) (sink_of now) (sink_of new) None r.front query line piece behind next f g r.gave h;
}

-- or a fault in them
pub more_cut : (t : QueriedParts) (old now new : Ends) (query : Option ℕ) (line piece : List ℕ) (f : Bool) (e : Fault) → HasCopied t old now query line f
    → Took now.left new.left piece → new.source_faults ≡ now.source_faults
    → ((rest : List ℕ) → CutBy (sink_of now) (sink_of new) e (marked_from t query ((line ++ piece) ++ rest))) → CutShort t old new e
more_cut t old now new query line piece f e r more same c =
    let took = took_more old.left now.left new.left r.front piece r.took more in
    let whole = whole_of old.left new.left (r.front ++ piece) took in
    let input = (r.front ++ piece) ++ whole.after in
    let cut = gave_cut t (sink_of old) (sink_of now) (sink_of new) None r.front query line piece f e r.gave c whole.after in
    record {
      input = input;
      whole = whole.is;
      wrote = part_whole t old new input (cut_part (sink_of old) (sink_of new) e (marked_from t None input) cut);
      front = r.front ++ piece;
      took = took;
      counted = sink_counted old new e (marked_from t None input) (same ∙ r.faults) cut;
    }

-- a read failed
pub read_cut : (t : QueriedParts) (old now new : Ends) (query : Option ℕ) (line : List ℕ) (f : Bool) → HasCopied t old now query line f
    → Took now.left new.left [] → now.source_faults ≤ new.source_faults → Rose now.source_faults new.source_faults → new.written ≡ now.written
    → new.sink_faults ≡ now.sink_faults → CutShort t old new fault.ReadFault
read_cut t old now new query line f r none later rose written faults =
    let took = subst (Took old.left new.left) (append-nil r.front) (took_more old.left now.left new.left r.front [] r.took none) in
    let whole = whole_of old.left new.left r.front took in
    let input = r.front ++ whole.after in
    let part = gave_front t (sink_of old) (sink_of now) None r.front query line f r.gave whole.after in
    record {
      input = input;
      whole = whole.is;
      wrote = subst (λ w. PutPart old.written w (marked t input)) (sym written) (part_whole t old now input part.put);
      front = r.front;
      took = took;
      counted = (subst (λ n. Rose n new.source_faults) r.faults rose, subst (λ n. n ≤ new.source_faults) r.faults later, faults ∙ part.faults);
    }

-- memory was wanting between two pieces
pub memory_cut : (t : QueriedParts) (old now : Ends) (query : Option ℕ) (line : List ℕ) (f : Bool) → HasCopied t old now query line f → CutShort t old now fault.NoMemory
memory_cut t old now query line f r =
    let whole = whole_of old.left now.left r.front r.took in
    let input = r.front ++ whole.after in
    let part = gave_front t (sink_of old) (sink_of now) None r.front query line f r.gave whole.after in
    record {
      input = input;
      whole = whole.is;
      wrote = part_whole t old now input part.put;
      front = r.front;
      took = r.took;
      counted = (r.faults, part.faults);
    }

pub none_cut : (t : QueriedParts) (e : Ends) → CutShort t e e fault.NoMemory
none_cut t e = memory_cut t e e None [] false (none_read t e)

pub copy_cut : (t : QueriedParts) (old new : Ends) (e : Fault) (r : Result Bool Fault) → r ≡ Err e → CutShort t old new e → CopyEnds t old new r
copy_cut t old new e r is h = subst (CopyEnds t old new) (sym is) h

-- ---- the headline

rose_not : (a b : ℕ) → b ≡ a → a < b → ⊥
rose_not a b e l = omega (arith, e)

not_below : (a b : ℕ) → b ≡ a → a ≤ b
not_below a b e = omega (arith, e)

decided_told : (b : Bool) → IsDecided (told_status b)
decided_told true = tt
decided_told false = tt

-- a run that needs no input
some_input : (a : Asked) (old new : Option (List ℕ)) → NeedsNoInput a → IsInput a old new []
some_input asked.Usage old new n = tt
some_input asked.Help old new n = tt
some_input asked.Version old new n = tt
some_input (asked.Unreadable name) old new n = tt
some_input (asked.Text text) old new n = absurd n

decided_output : (a : Asked) (input : List ℕ) → IsDecided (output_status a input)
decided_output asked.Usage input = tt
decided_output asked.Help input = tt
decided_output asked.Version input = tt
decided_output (asked.Unreadable name) input = tt
decided_output (asked.Text text) input = decided_told (is_told text input)

pub run_line : (a : Asked) (old new : Ends) (result : Status) → NeedsNoInput a → new.left ≡ old.left → new.source_faults ≡ old.source_faults
    → Ending (sink_of old) (sink_of new) result (output_status a []) (output a []) → Headline a old new result
run_line a old new result n left same (inl h) =
    let decided : IsDecided result = subst IsDecided (sym h.0) (decided_output a []) in
    record {
      whole = λ d. ([], some_input a old.left new.left n, sym h.0, h.1.put);
      cut = λ f. absurd (f decided);
      read_fault = λ f. absurd (subst IsDecided f decided);
      read_told = λ l. absurd (rose_not old.source_faults new.source_faults same l);
      write_fault = λ f. absurd (subst IsDecided f decided);
      write_told = λ l. absurd (rose_not old.sink_faults new.sink_faults h.1.faults l);
      no_fault = λ f g. inl decided;
      source_later = not_below old.source_faults new.source_faults same;
      sink_later = not_below old.sink_faults new.sink_faults h.1.faults;
      rest = ([], subst (λ l. Took old.left l []) (sym left) (took_none old.left));
      read_whole = λ f c. absurd (f n);
    }
run_line a old new result n left same (inr (inl h)) = record {
  whole = λ d. absurd (subst IsDecided h.0 d);
  cut = λ f. ([], some_input a old.left new.left n, h.1.put);
  read_fault = λ f. absurd (let k = h.0 in cc (k, f));
  read_told = λ l. absurd (rose_not old.source_faults new.source_faults same l);
  write_fault = λ f. h.1.rose;
  write_told = λ l. h.0;
  no_fault = λ f g. absurd (g h.1.rose);
  source_later = not_below old.source_faults new.source_faults same;
  sink_later = h.1.later;
  rest = ([], subst (λ l. Took old.left l []) (sym left) (took_none old.left));
  read_whole = λ f c. absurd (f n);
}
run_line a old new result n left same (inr (inr h)) = record {
  whole = λ d. absurd (subst IsDecided h.0 d);
  cut = λ f. ([], some_input a old.left new.left n, h.1.put);
  read_fault = λ f. absurd (let k = h.0 in cc (k, f));
  read_told = λ l. absurd (rose_not old.source_faults new.source_faults same l);
  write_fault = λ f. absurd (let k = h.0 in cc (k, f));
  write_told = λ l. absurd (rose_not old.sink_faults new.sink_faults h.1.faults l);
  no_fault = λ f g. inr h.0;
  source_later = not_below old.source_faults new.source_faults same;
  sink_later = not_below old.sink_faults new.sink_faults h.1.faults;
  rest = ([], subst (λ l. Took old.left l []) (sym left) (took_none old.left));
  read_whole = λ f c. absurd (f n);
}
