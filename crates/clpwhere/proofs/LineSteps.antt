-- Lines that are read piece by piece.
use Rattle.std.proofs.Common.{◌≡◌, ℕ, ◌<◌, Bool, false, cond, List, [], ◌∷◌, ◌++◌, length, Option, refl, sym, ap, ◌∙◌, subst, arith, append_assoc, append-nil}
use Rattle.std.specs.Prelude.{◌||◌}
use Rattle.std.specs.List.{list_any, onto_first}
use Rattle.std.proofs.lemmas.List.Folds.{list_any-append}
use Rattle.std.proofs.lemmas.Bool.{or_parts}
use Rattle.std.proofs.Math.Bool.{or-false, or_assoc}
use Rattle.clpwhere.specs.declared.outcome.Fault.{Fault}
use Rattle.clpwhere.specs.Parts.{QueriedParts}
use Rattle.byte_ports.specs.Lines.{is_newline, lines_of}
use Rattle.clpwhere.specs.MarkedLines.{is_explained, marked_line}
use Rattle.clpwhere.specs.QueriedLines.{marked_from, marked_lines, query_after, tells_from, tells_lines}
use Rattle.byte_ports.specs.Ends.{SinkState, WroteAll, WrotePart}
use Rattle.clpwhere.specs.Endings.{CutBy, IsOpen, GaveAll}
use Rattle.byte_ports.proofs.Lemmas.{wrote_nothing, all_then, all_front}
use Rattle.clpwhere.proofs.Pieces.{cut_then, cut_longer}

-- ---- lines

other_byte : (b : ℕ) (bs : List ℕ) (ls : List (List ℕ)) → is_newline b ≡ false → lines_of bs ≡ ls → lines_of (b ∷ bs) ≡ onto_first b ls
other_byte b bs ls e h = ap (λ t. cond t ((b ∷ []) ∷ lines_of bs) (onto_first b (lines_of bs))) e ∙ ap (onto_first b) h

-- a newline ends an open line
pub lines-whole : (line rest : List ℕ) → IsOpen line → lines_of ((line ++ 10 ∷ []) ++ rest) ≡ (line ++ 10 ∷ []) ∷ lines_of rest
lines-whole [] rest o = refl
lines-whole (b ∷ bs) rest o =
    let parts = or_parts (is_newline b) (list_any is_newline bs) o in
    other_byte b ((bs ++ 10 ∷ []) ++ rest) ((bs ++ 10 ∷ []) ∷ lines_of rest) parts.0 (lines-whole bs rest parts.1)

-- an open line that isn't empty is one line
pub lines-open : (b : ℕ) (bs : List ℕ) → IsOpen (b ∷ bs) → lines_of (b ∷ bs) ≡ (b ∷ bs) ∷ []
lines-open b [] o = let parts = or_parts (is_newline b) false o in other_byte b [] [] parts.0 refl
lines-open b (d ∷ ds) o =
    let parts = or_parts (is_newline b) (list_any is_newline (d ∷ ds)) o in
    other_byte b (d ∷ ds) ((d ∷ ds) ∷ []) parts.0 (lines-open d ds parts.1)

pub marked-whole : (t : QueriedParts) (q : Option ℕ) (line rest : List ℕ) → IsOpen line
    → marked_from t q ((line ++ 10 ∷ []) ++ rest) ≡ marked_line t q (line ++ 10 ∷ []) ++ marked_from t (query_after q (line ++ 10 ∷ [])) rest
marked-whole t q line rest o = ap (marked_lines t q) (lines-whole line rest o)

pub tells-whole : (t : QueriedParts) (q : Option ℕ) (line rest : List ℕ) → IsOpen line
    → tells_from t q ((line ++ 10 ∷ []) ++ rest) ≡ (is_explained t q (line ++ 10 ∷ []) || tells_from t (query_after q (line ++ 10 ∷ [])) rest)
tells-whole t q line rest o = ap (tells_lines t q) (lines-whole line rest o)

pub marked-open : (t : QueriedParts) (q : Option ℕ) (line : List ℕ) → IsOpen line → 0 < length line → marked_from t q line ≡ marked_line t q line
marked-open t q [] o l = absurd (omega arith)
marked-open t q (b ∷ bs) o l = ap (marked_lines t q) (lines-open b bs o) ∙ append-nil (marked_line t q (b ∷ bs))

pub tells-open : (t : QueriedParts) (q : Option ℕ) (line : List ℕ) → IsOpen line → 0 < length line → tells_from t q line ≡ is_explained t q line
tells-open t q [] o l = absurd (omega arith)
tells-open t q (b ∷ bs) o l = ap (tells_lines t q) (lines-open b bs o) ∙ or-false (is_explained t q (b ∷ bs))

-- ---- one byte

-- another byte than a newline leaves the line open
pub byte_open : (line : List ℕ) (b : ℕ) → IsOpen line → (b ≡ 10 → ⊥) → IsOpen (line ++ b ∷ [])
byte_open line b o n = list_any-append is_newline line (b ∷ []) ∙ ap (λ t. t || (is_newline b || false)) o ∙ or-false (is_newline b) ∙ not_ten b n
  where
    not_ten : (b : ℕ) → (b ≡ 10 → ⊥) → is_newline b ≡ false
    not_ten b n = grind arith

pub gave_none : (t : QueriedParts) (a : SinkState) (q : Option ℕ) (line : List ℕ) → IsOpen line → GaveAll t a a q line q line false
gave_none t a q line o = record {
  out = [];
  gave = record { output = λ rest. refl; tells = λ rest. refl };
  wrote = wrote_nothing a;
  rest = o;
}

pub gave_line : (t : QueriedParts) (a b : SinkState) (q : Option ℕ) (line : List ℕ) (told : Bool) → IsOpen line → told ≡ is_explained t q (line ++ 10 ∷ [])
    → WroteAll a b (marked_line t q (line ++ 10 ∷ [])) → GaveAll t a b q (line ++ 10 ∷ []) (query_after q (line ++ 10 ∷ [])) [] told
gave_line t a b q line told o e w = record {
  out = marked_line t q (line ++ 10 ∷ []);
  gave = record {
    output = λ rest. marked-whole t q line rest o;
    tells = λ rest. tells-whole t q line rest o ∙ ap (λ d. d || tells_from t (query_after q (line ++ 10 ∷ [])) rest) (sym e);
  };
  wrote = w;
  rest = refl;
}

pub cut_line : (t : QueriedParts) (a b : SinkState) (q : Option ℕ) (line : List ℕ) (e : Fault) → IsOpen line → CutBy a b e (marked_line t q (line ++ 10 ∷ []))
    → (rest : List ℕ) → CutBy a b e (marked_from t q ((line ++ 10 ∷ []) ++ rest))
cut_line t a b q line e o h rest =
    let whole = line ++ 10 ∷ [] in
    subst (CutBy a b e) (sym (marked-whole t q line rest o)) (cut_longer a b (marked_line t q whole) (marked_from t (query_after q whole) rest) e h)

-- ---- more bytes

pub gave_then : (t : QueriedParts) (a b c : SinkState) (q : Option ℕ) (bytes : List ℕ) (r : Option ℕ) (line more : List ℕ) (s : Option ℕ) (next : List ℕ) (f g : Bool)
    → GaveAll t a b q bytes r line f → GaveAll t b c r (line ++ more) s next g → GaveAll t a c q (bytes ++ more) s next (f || g)
gave_then t a b c q bytes r line more s next f g h k = record {
  out = h.out ++ k.out;
  gave = record {
    output = λ rest. ap (marked_from t q) (append_assoc bytes more rest) ∙ h.gave.output (more ++ rest)
        ∙ ap (λ l. h.out ++ marked_from t r l) (sym (append_assoc line more rest)) ∙ ap (λ l. h.out ++ l) (k.gave.output rest)
        ∙ sym (append_assoc h.out k.out (marked_from t s (next ++ rest)));
    tells = λ rest. ap (tells_from t q) (append_assoc bytes more rest) ∙ h.gave.tells (more ++ rest) ∙ ap (λ l. f || tells_from t r l) (sym (append_assoc line more rest))
        ∙ ap (λ d. f || d) (k.gave.tells rest) ∙ sym (or_assoc f g (tells_from t s (next ++ rest)));
  };
  wrote = all_then a b c h.out k.out h.wrote k.wrote;
  rest = k.rest;
}

pub gave_cut : (t : QueriedParts) (a b c : SinkState) (q : Option ℕ) (bytes : List ℕ) (r : Option ℕ) (line more : List ℕ) (f : Bool) (e : Fault)
    → GaveAll t a b q bytes r line f → ((rest : List ℕ) → CutBy b c e (marked_from t r ((line ++ more) ++ rest)))
    → (rest : List ℕ) → CutBy a c e (marked_from t q ((bytes ++ more) ++ rest))
gave_cut t a b c q bytes r line more f e h k rest =
    let same : marked_from t q ((bytes ++ more) ++ rest) ≡ h.out ++ marked_from t r ((line ++ more) ++ rest) = ap (marked_from t q) (append_assoc bytes more rest)
    ∙ h.gave.output (more ++ rest) ∙ ap (λ l. h.out ++ marked_from t r l) (sym (append_assoc line more rest)) in
    subst (CutBy a c e) (sym same) (cut_then a b c h.out (marked_from t r ((line ++ more) ++ rest)) e h.wrote (k rest))

-- what was written of a front is a front of what is written of the whole
pub gave_front : (t : QueriedParts) (a b : SinkState) (q : Option ℕ) (bytes : List ℕ) (r : Option ℕ) (line : List ℕ) (f : Bool) → GaveAll t a b q bytes r line f
    → (rest : List ℕ) → WrotePart a b (marked_from t q (bytes ++ rest))
gave_front t a b q bytes r line f h rest = subst (WrotePart a b) (sym (h.gave.output rest)) (all_front a b h.out (marked_from t r (line ++ rest)) h.wrote)

-- a cut of some bytes is a cut of more
pub cut_more : (t : QueriedParts) (a b : SinkState) (q : Option ℕ) (bytes more : List ℕ) (e : Fault) → ((rest : List ℕ) → CutBy a b e (marked_from t q (bytes ++ rest)))
    → (rest : List ℕ) → CutBy a b e (marked_from t q ((bytes ++ more) ++ rest))
cut_more t a b q bytes more e h rest = subst (λ l. CutBy a b e (marked_from t q l)) (sym (append_assoc bytes more rest)) (h (more ++ rest))

-- ---- the end

-- the last line was written behind the others
pub gave_last : (t : QueriedParts) (a b c : SinkState) (q : Option ℕ) (bytes : List ℕ) (r : Option ℕ) (line : List ℕ) (f g : Bool) → GaveAll t a b q bytes r line f
    → WroteAll b c (marked_from t r line) → g ≡ tells_from t r line → WroteAll a c (marked_from t q bytes) × ((f || g) ≡ tells_from t q bytes)
gave_last t a b c q bytes r line f g h w e =
    let output : marked_from t q bytes ≡ h.out ++ marked_from t r line = ap (marked_from t q) (sym (append-nil bytes)) ∙ h.gave.output []
    ∙ ap (λ l. h.out ++ marked_from t r l) (append-nil line) in
    let tells : tells_from t q bytes ≡ (f || tells_from t r line) = ap (tells_from t q) (sym (append-nil bytes)) ∙ h.gave.tells []
    ∙ ap (λ l. f || tells_from t r l) (append-nil line) in
    (subst (WroteAll a c) (sym output) (all_then a b c h.out (marked_from t r line) h.wrote w), ap (λ d. f || d) e ∙ sym tells)

-- or a front of it
pub cut_last : (t : QueriedParts) (a b c : SinkState) (q : Option ℕ) (bytes : List ℕ) (r : Option ℕ) (line : List ℕ) (f : Bool) (e : Fault) → GaveAll t a b q bytes r line f
    → CutBy b c e (marked_from t r line) → CutBy a c e (marked_from t q bytes)
cut_last t a b c q bytes r line f e h k =
    let output : marked_from t q bytes ≡ h.out ++ marked_from t r line = ap (marked_from t q) (sym (append-nil bytes)) ∙ h.gave.output []
    ∙ ap (λ l. h.out ++ marked_from t r l) (append-nil line) in
    subst (CutBy a c e) (sym output) (cut_then a b c h.out (marked_from t r line) e h.wrote k)
