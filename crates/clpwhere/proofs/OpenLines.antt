-- Bytes that are taken behind an open line.
use Rattle.std.proofs.Common.{◌≡◌, ℕ, ◌+◌, ◌<◌, Bool, false, List, [], ◌∷◌, ◌++◌, length, take, drop, get_or, Option, Result, Ok, Err, sym, ap, ◌∙◌, subst}
use Rattle.std.proofs.Common.{append_assoc, take-append-drop}
use Rattle.std.specs.Prelude.{◌||◌, IfOk}
use Rattle.std.proofs.lemmas.List.{take_more}
use Rattle.clpwhere.specs.declared.outcome.Fault.{Fault}
use Rattle.clpwhere.specs.declared.outcome.Fault.TheVariants as fault
use Rattle.clpwhere.specs.Parts.{QueriedParts}
use Rattle.clpwhere.specs.MarkedLines.{is_explained, marked_line}
use Rattle.clpwhere.specs.QueriedLines.{marked_from, query_after, tells_from}
use Rattle.byte_ports.specs.Ends.{SinkState, WroteAll}
use Rattle.clpwhere.specs.Endings.{CutBy, Wrote, Fed, IsOpen, GaveAll}
use Rattle.byte_ports.proofs.Lemmas.{wrote_no_part}
use Rattle.clpwhere.proofs.LineSteps.{byte_open, cut_line, cut_more, gave_cut, gave_line, gave_none, gave_then, marked-open, tells-open}

-- ---- of a result

pub fed_cut : (t : QueriedParts) (a b : SinkState) (q : Option ℕ) (bytes : List ℕ) (s : Option ℕ) (next : List ℕ) (e : Fault) (r : Result Bool Fault) → r ≡ Err e
    → ((rest : List ℕ) → CutBy a b e (marked_from t q (bytes ++ rest))) → Fed t a b q bytes s next r
fed_cut t a b q bytes s next e r is h = subst (Fed t a b q bytes s next) (sym is) h

-- ---- one byte

-- memory was wanting for it
pub fed_short : (t : QueriedParts) (a : SinkState) (q : Option ℕ) (bytes : List ℕ) (s : Option ℕ) (next : List ℕ) (r : Result Bool Fault) → r ≡ Err fault.NoMemory
    → Fed t a a q bytes s next r
fed_short t a q bytes s next r is = fed_cut t a a q bytes s next fault.NoMemory r is (λ rest. wrote_no_part a (marked_from t q (bytes ++ rest)))

-- it leaves the line open
pub gave_open : (t : QueriedParts) (a : SinkState) (q : Option ℕ) (line next : List ℕ) (b : ℕ) → IsOpen line → (b ≡ 10 → ⊥) → next ≡ line ++ b ∷ []
    → GaveAll t a a q (line ++ b ∷ []) q next false
gave_open t a q line next b o n same = subst (λ l. GaveAll t a a q (line ++ b ∷ []) q l false) (sym same) (gave_none t a q (line ++ b ∷ []) (byte_open line b o n))

-- it ends the line
pub gave_ended : (t : QueriedParts) (a b : SinkState) (q : Option ℕ) (line piece : List ℕ) (s : Option ℕ) (next : List ℕ) (x : ℕ) (told : Bool) → x ≡ 10
    → piece ≡ line ++ x ∷ [] → next ≡ [] → s ≡ query_after q piece → IsOpen line → told ≡ is_explained t q piece → WroteAll a b (marked_line t q piece)
    → GaveAll t a b q (line ++ x ∷ []) s next told
gave_ended t a b q line piece s next x told ten same none after o e w =
    let whole : piece ≡ line ++ 10 ∷ [] = same ∙ ap (λ k. line ++ k ∷ []) ten in
    let given : GaveAll t a b q (line ++ 10 ∷ []) (query_after q (line ++ 10 ∷ [])) [] told = gave_line t a b q line told o (e ∙ ap (is_explained t q) whole)
    (subst (λ p. WroteAll a b (marked_line t q p)) whole w) in
    let behind : s ≡ query_after q (line ++ 10 ∷ []) = after ∙ ap (query_after q) whole in
    subst (λ k. GaveAll t a b q (line ++ k ∷ []) s next told) (sym ten)
    (subst (λ l. GaveAll t a b q (line ++ 10 ∷ []) s l told) (sym none) (subst (λ u. GaveAll t a b q (line ++ 10 ∷ []) u [] told) (sym behind) given))

-- or the line was cut short
pub fed_ended : (t : QueriedParts) (a b : SinkState) (q : Option ℕ) (line piece : List ℕ) (s : Option ℕ) (next : List ℕ) (x : ℕ) (e : Fault) (r : Result Bool Fault) → x ≡ 10
    → piece ≡ line ++ x ∷ [] → IsOpen line → r ≡ Err e → CutBy a b e (marked_line t q piece) → Fed t a b q (line ++ x ∷ []) s next r
fed_ended t a b q line piece s next x e r ten same o is h =
    let whole : piece ≡ line ++ 10 ∷ [] = same ∙ ap (λ k. line ++ k ∷ []) ten in
    let cut = cut_line t a b q line e o (subst (λ p. CutBy a b e (marked_line t q p)) whole h) in
    fed_cut t a b q (line ++ x ∷ []) s next e r is (subst (λ k. (rest : List ℕ) → CutBy a b e (marked_from t q ((line ++ k ∷ []) ++ rest))) (sym ten) cut)

-- ---- more bytes

pub gave_step : (t : QueriedParts) (a b c : SinkState) (q : Option ℕ) (first : List ℕ) (r : Option ℕ) (line : List ℕ) (s : Option ℕ) (next bytes : List ℕ) (i x : ℕ) (f g h : Bool)
    → i < length bytes → x ≡ get_or bytes i 0 → h ≡ (f || g) → GaveAll t a b q (first ++ take i bytes) r line f → GaveAll t b c r (line ++ x ∷ []) s next g
    → GaveAll t a c q (first ++ take (i + 1) bytes) s next h
gave_step t a b c q first r line s next bytes i x f g h l at told j k =
    let more : (first ++ take i bytes) ++ x ∷ [] ≡ first ++ take (i + 1) bytes = append_assoc first (take i bytes) (x ∷ [])
    ∙ ap (λ u. first ++ u) (sym (take_more bytes i 0 l ∙ ap (λ y. take i bytes ++ y ∷ []) (sym at))) in
    subst (GaveAll t a c q (first ++ take (i + 1) bytes) s next) (sym told)
    (subst (λ u. GaveAll t a c q u s next (f || g)) more (gave_then t a b c q (first ++ take i bytes) r line (x ∷ []) s next f g j k))

pub fed_stop : (t : QueriedParts) (a b c : SinkState) (q : Option ℕ) (first : List ℕ) (r : Option ℕ) (line : List ℕ) (s : Option ℕ) (next bytes : List ℕ) (i x : ℕ) (f : Bool) (e : Fault)
    (o : Result Bool Fault) → i < length bytes → x ≡ get_or bytes i 0 → o ≡ Err e → GaveAll t a b q (first ++ take i bytes) r line f
    → ((rest : List ℕ) → CutBy b c e (marked_from t r ((line ++ x ∷ []) ++ rest))) → Fed t a c q (first ++ bytes) s next o
fed_stop t a b c q first r line s next bytes i x f e o l at is j k =
    let more : (first ++ take i bytes) ++ x ∷ [] ≡ first ++ take (i + 1) bytes = append_assoc first (take i bytes) (x ∷ [])
    ∙ ap (λ u. first ++ u) (sym (take_more bytes i 0 l ∙ ap (λ y. take i bytes ++ y ∷ []) (sym at))) in
    let whole : ((first ++ take i bytes) ++ x ∷ []) ++ drop (i + 1) bytes ≡ first ++ bytes = ap (λ u. u ++ drop (i + 1) bytes) more
    ∙ append_assoc first (take (i + 1) bytes) (drop (i + 1) bytes) ∙ ap (λ u. first ++ u) (take-append-drop (i + 1) bytes) in
    let cut = cut_more t a c q ((first ++ take i bytes) ++ x ∷ []) (drop (i + 1) bytes) e (gave_cut t a b c q (first ++ take i bytes) r line (x ∷ []) f e j k) in
    fed_cut t a c q (first ++ bytes) s next e o is (subst (λ u. (rest : List ℕ) → CutBy a c e (marked_from t q (u ++ rest))) whole cut)

-- ---- the last line

pub wrote_last : (t : QueriedParts) (a b : SinkState) (q : Option ℕ) (line : List ℕ) (r : Result Bool Fault) → IsOpen line → 0 < length line → Wrote a b r (marked_line t q line)
    → Wrote a b r (marked_from t q line)
wrote_last t a b q line r o l w = subst (Wrote a b r) (sym (marked-open t q line o l)) w

pub told_last : (t : QueriedParts) (q : Option ℕ) (line : List ℕ) (r : Result Bool Fault) → IsOpen line → 0 < length line → IfOk r (λ told. told ≡ is_explained t q line)
    → IfOk r (λ told. told ≡ tells_from t q line)
told_last t q line (Ok b) o l e = e ∙ sym (tells-open t q line o l)
told_last t q line (Err e) o l h = tt
