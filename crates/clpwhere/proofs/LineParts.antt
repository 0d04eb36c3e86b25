-- A line that is gone through from place to place.
use Rattle.std.proofs.Common.{◌≡◌, ◌∙◌, ℕ, zero, suc, ◌+◌, ◌-◌, ◌<◌, ◌≤◌, Bool, true, false, cond, not, List, [], ◌∷◌, ◌++◌, refl, sym, ap, ap₂, subst, arith}
use Rattle.std.proofs.Common.{length, take, drop, get_or, length-take-le, length-drop, append-nil, append_assoc, take-append-drop}
use Rattle.std.specs.Prelude.{◌||◌, ◌&&◌, count_by, encode_utf8, encode_utf8_all, chars}
use Rattle.std.specs.List.{before_first, list_any, prefix_len, suffix_len}
use Rattle.std.specs.Str.{IsUtf8, is_utf8}
use Rattle.std.proofs.Math.Bool.{or-false}
use Rattle.std.proofs.Math.Seq.{drop-append_seam, take-append_seam, take-add}
use Rattle.std.proofs.lemmas.Bool.{or_parts}
use Rattle.std.proofs.lemmas.List.{take_more, drop-append-le, drop-drop, get_or-drop, length-append}
use Rattle.std.proofs.lemmas.List.Folds.{list_any-append}
use Rattle.std.proofs.lemmas.List.Sums.{sum_by-append, suffix_len-take_yes}
use Rattle.std.proofs.lemmas.Str.{IsUtf8-append, IsUtf8-from_is_utf8, chars-append, encode_same, length-encode, len_utf8_bounds, utf8_lossy-IsUtf8}
use Rattle.byte_ports.specs.Lines.{is_newline}
use lib.Utf8.{scalar, scalars}
use Rattle.clpwhere.specs.Places.{before_place, characters, from_place, line_number}
use Rattle.clpwhere.specs.PlacedLines.{IsLineOf, IsPart}
use Rattle.clpwhere.specs.declared.placed_line.PlacedLine.{PlacedLine}

-- ---- bytes without a newline

abbrev is_other : ℕ → Bool
is_other b = not (is_newline b)

-- up to the first newline behind them
first_append : (a b : List ℕ) → list_any is_newline a ≡ false → before_first is_newline (a ++ b) ≡ a ++ before_first is_newline b
first_append [] b h = refl
first_append (x ∷ a) b h =
    let parts = or_parts (is_newline x) (list_any is_newline a) h in
    let size = prefix_len is_other (a ++ b) in
    let next : 1 + size ≡ suc size = omega arith in
    let more : take (1 + size) (x ∷ (a ++ b)) ≡ x ∷ take size (a ++ b) = ap (λ n. take n (x ∷ (a ++ b))) next in
    ap (λ t. take (cond (not t) (1 + prefix_len is_other (a ++ b)) 0) (x ∷ (a ++ b))) parts.0 ∙ more ∙ ap (λ l. x ∷ l) (first_append a b parts.1)

abbrev between : List ℕ → ℕ → ℕ → List ℕ
between bytes from place = take (place - from) (drop from bytes)

from_more : (bytes : List ℕ) (from place : ℕ) → from ≤ place → list_any is_newline (between bytes from place) ≡ false
    → from_place bytes from ≡ between bytes from place ++ from_place bytes place
from_more bytes from place l h =
    let n = place - from in
    let sum : from + n ≡ place = omega (arith, l) in
    let rest : drop n (drop from bytes) ≡ drop place bytes = drop-drop n from bytes ∙ ap (λ k. drop k bytes) sum in
    ap (before_first is_newline) (sym (take-append-drop n (drop from bytes))) ∙ first_append (take n (drop from bytes)) (drop n (drop from bytes)) h
    ∙ ap (λ r. between bytes from place ++ before_first is_newline r) rest

-- behind the last newline before one of them
before_step : (bytes : List ℕ) (n : ℕ) → n < length bytes → is_newline (get_or bytes n 0) ≡ false → before_place bytes (n + 1) ≡ before_place bytes n ++ get_or bytes n 0 ∷ []
before_step bytes n l h =
    let x = get_or bytes n 0 in
    let front = take n bytes in
    let s = suffix_len is_other front in
    let last : (n + 1) - 1 ≡ n = omega arith in
    let low : 0 < n + 1 = omega arith in
    let high : n + 1 ≤ length bytes = omega (arith, l) in
    let size : length front ≡ n = length-take-le n bytes (omega (arith, l)) in
    let run : suffix_len is_other (take (n + 1) bytes) ≡ 1 + s =
    suffix_len-take_yes is_other bytes (n + 1) 0 low high (ap (λ k. is_other (get_or bytes k 0)) last ∙ ap not h) ∙ ap (λ k. 1 + suffix_len is_other (take k bytes)) last in
    let start : length (take (n + 1) bytes) - suffix_len is_other (take (n + 1) bytes) ≡ length front - s = omega (arith, length-take-le (n + 1) bytes high, run, size) in
    let inside : length front - s ≤ length front = omega arith in
    ap (λ k. drop k (take (n + 1) bytes)) start ∙ ap (drop (length front - s)) (take_more bytes n 0 l) ∙ drop-append-le (length front - s) front (x ∷ []) inside

before_run : (bytes : List ℕ) (from k : ℕ) → from + k ≤ length bytes → list_any is_newline (take k (drop from bytes)) ≡ false
    → before_place bytes (from + k) ≡ before_place bytes from ++ take k (drop from bytes)
before_run bytes from zero l h =
    let same : from + 0 ≡ from = omega arith in
    ap (before_place bytes) same ∙ sym (append-nil (before_place bytes from))
before_run bytes from (suc k) l h =
    let rest = drop from bytes in
    let next : suc k ≡ k + 1 = omega arith in
    let sum : from + suc k ≡ (from + k) + 1 = omega arith in
    let inside : from + k < length bytes = omega (arith, l) in
    let within : k < length rest = omega (arith, l, length-drop from bytes) in
    let x = get_or rest k 0 in
    let more : take (suc k) rest ≡ take k rest ++ x ∷ [] = ap (λ n. take n rest) next ∙ take_more rest k 0 within in
    let parts = or_parts (list_any is_newline (take k rest)) (list_any is_newline (x ∷ []))
    (sym (list_any-append is_newline (take k rest) (x ∷ [])) ∙ ap (list_any is_newline) (sym more) ∙ h) in
    let at : x ≡ get_or bytes (from + k) 0 = get_or-drop from bytes k 0 in
    let other : is_newline (get_or bytes (from + k) 0) ≡ false = ap is_newline (sym at) ∙ sym (or-false (is_newline x)) ∙ parts.1 in
    let fewer : from + k ≤ length bytes = omega (arith, l) in
    ap (before_place bytes) sum ∙ before_step bytes (from + k) inside other ∙ ap (λ l. l ++ get_or bytes (from + k) 0 ∷ []) (before_run bytes from k fewer parts.0)
    ∙ ap (λ y. (before_place bytes from ++ take k rest) ++ y ∷ []) (sym at) ∙ append_assoc (before_place bytes from) (take k rest) (x ∷ [])
    ∙ ap (λ l. before_place bytes from ++ l) (sym more)

before_more : (bytes : List ℕ) (from place : ℕ) → from ≤ place → place ≤ length bytes → list_any is_newline (between bytes from place) ≡ false
    → before_place bytes place ≡ before_place bytes from ++ between bytes from place
before_more bytes from place l w h =
    let sum : from + (place - from) ≡ place = omega (arith, l) in
    let within : from + (place - from) ≤ length bytes = omega (arith, l, w) in
    ap (before_place bytes) (sym sum) ∙ before_run bytes from (place - from) within h

-- they end no line
nothing_more : (n : ℕ) → 0 + n ≡ n
nothing_more n = omega arith

count_cons : (x : ℕ) (xs : List ℕ) → count_by is_newline (x ∷ xs) ≡ cond (is_newline x) 1 0 + count_by is_newline xs
count_cons x xs =
    sum_by-append (λ b. cond (is_newline b) 1 0) (x ∷ []) xs ∙ ap (λ n. n + count_by is_newline xs) (nothing_more (cond (is_newline x) 1 0))

none_counted : (l : List ℕ) → list_any is_newline l ≡ false → count_by is_newline l ≡ 0
none_counted [] h = refl
none_counted (x ∷ xs) h =
    let parts = or_parts (is_newline x) (list_any is_newline xs) h in
    count_cons x xs ∙ ap (λ t. cond t 1 0 + count_by is_newline xs) parts.0 ∙ nothing_more (count_by is_newline xs) ∙ none_counted xs parts.1

same_line : (bytes : List ℕ) (from place : ℕ) → from ≤ place → list_any is_newline (between bytes from place) ≡ false → line_number bytes from ≡ line_number bytes place
same_line bytes from place l h =
    let sum : from + (place - from) ≡ place = omega (arith, l) in
    let split : take place bytes ≡ take from bytes ++ between bytes from place = ap (λ n. take n bytes) (sym sum) ∙ take-add from (place - from) bytes in
    let count : count_by is_newline (take place bytes) ≡ count_by is_newline (take from bytes) + count_by is_newline (between bytes from place) =
    ap (count_by is_newline) split ∙ sum_by-append (λ b. cond (is_newline b) 1 0) (take from bytes) (between bytes from place) in
    let none = none_counted (between bytes from place) h in
    omega (arith, count, none)

-- ---- characters

characters_of : (a : List ℕ) → IsUtf8 a → characters a ≡ chars a
characters_of a u = ap chars (utf8_lossy-IsUtf8 a u)

characters_append : (a b : List ℕ) → IsUtf8 a → IsUtf8 b → characters (a ++ b) ≡ characters a ++ characters b
characters_append a b u v =
    characters_of (a ++ b) (IsUtf8-append a b u v) ∙ chars-append a b u ∙ ap₂ (λ (c d : List ℕ). c ++ d) (sym (characters_of a u)) (sym (characters_of b v))

and_parts : (a b : Bool) → (a && b) ≡ true → (a ≡ true) × (b ≡ true)
and_parts true b h = (refl, h)
and_parts false b h = absurd (cc (h))

rest_utf8 : (cs ds b : List ℕ) → encode_utf8_all cs ++ b ≡ encode_utf8_all ds → scalars ds ≡ true → IsUtf8 b
rest_utf8 [] ds b e s = (ds, (s, sym e))
rest_utf8 (c ∷ cs) [] b e s =
    let long : length ((encode_utf8 c ++ encode_utf8_all cs) ++ b) ≡ 0 = ap length e in
    absurd (omega (arith, long, length-append (encode_utf8 c ++ encode_utf8_all cs) b, length-append (encode_utf8 c) (encode_utf8_all cs), length-encode c, (len_utf8_bounds c).0))
rest_utf8 (c ∷ cs) (d ∷ ds) b e s =
    let same = encode_same c d (encode_utf8_all cs ++ b) (encode_utf8_all ds) (sym (append_assoc (encode_utf8 c) (encode_utf8_all cs) b) ∙ e) in
    rest_utf8 cs ds b same.1 (and_parts (scalar d) (scalars ds) s).1

-- what stands behind a text in a text is a text
behind_utf8 : (a b : List ℕ) → IsUtf8 (a ++ b) → IsUtf8 a → IsUtf8 b
behind_utf8 a b u v = rest_utf8 v.0 u.0 b (ap (λ l. l ++ b) v.1.1 ∙ sym u.1.1) u.1.0

pub not_text : (bytes : List ℕ) → (IsUtf8 bytes → ⊥) → false ≡ is_utf8 bytes
not_text bytes f = by_test (is_utf8 bytes) refl
  where
    by_test : (t : Bool) → is_utf8 bytes ≡ t → false ≡ t
    by_test true e = absurd (f (IsUtf8-from_is_utf8 bytes e))
    by_test false e = refl

pub two_texts : (a b : List ℕ) (r : Bool) → r ≡ (is_utf8 a && is_utf8 b) → r ≡ true → IsUtf8 a × IsUtf8 b
two_texts a b r e t =
    let both = and_parts (is_utf8 a) (is_utf8 b) (sym e ∙ t) in
    (IsUtf8-from_is_utf8 a both.0, IsUtf8-from_is_utf8 b both.1)

-- ---- a line

pub goes_on : (bytes : List ℕ) (from place : ℕ) (old new : PlacedLine) (part : List ℕ) → from ≤ place → IsLineOf bytes from old → IsPart bytes from place old part
    → new.number ≡ old.number → new.characters.items ≡ old.characters.items → new.at ≡ old.at + length (characters part) → IsLineOf bytes place new
goes_on bytes from place old new p l h q number same at =
    let part = between bytes from place in
    let w = q.within in
    let none : list_any is_newline part ≡ false = ap (list_any is_newline) (sym q.is) ∙ q.whole in
    let utf8 : IsUtf8 part = subst IsUtf8 q.is q.utf8 in
    let own = h.text q.text in
    let before = before_more bytes from place l w none in
    let rest = from_more bytes from place l none in
    let after : IsUtf8 (from_place bytes place) = behind_utf8 part (from_place bytes place) (subst IsUtf8 rest own.1) utf8 in
    let cs = characters (before_place bytes from) in
    let ds = characters part in
    let es = characters (from_place bytes place) in
    let items = old.characters.items in
    let first : length cs ≡ old.at = ap length (sym h.before) ∙ length-take-le old.at items h.within in
    let whole : items ≡ cs ++ (ds ++ es) =
    sym (take-append-drop old.at items) ∙ ap₂ (λ (c d : List ℕ). c ++ d) h.before (h.rest ∙ ap characters rest ∙ characters_append part (from_place bytes place) utf8 after) in
    let all : new.characters.items ≡ (cs ++ ds) ++ es = same ∙ whole ∙ sym (append_assoc cs ds es) in
    let far : new.at ≡ old.at + length ds = at ∙ ap (λ d. old.at + length (characters d)) q.is in
    let here : new.at ≡ length (cs ++ ds) = omega (arith, far, first, length-append cs ds) in
    let shown : characters (before_place bytes place) ≡ cs ++ ds = ap characters before ∙ characters_append (before_place bytes from) part own.0 utf8 in
    record {
      number = number ∙ h.number ∙ same_line bytes from place l none;
      within = omega (arith, here, ap length all, length-append (cs ++ ds) es);
      before = ap₂ (λ (n : ℕ) (c : List ℕ). take n c) here all ∙ take-append_seam (cs ++ ds) es ∙ sym shown;
      rest = ap₂ (λ (n : ℕ) (c : List ℕ). drop n c) here all ∙ drop-append_seam (cs ++ ds) es;
      text = λ t. (subst IsUtf8 (sym before) (IsUtf8-append (before_place bytes from) part own.0 utf8), after);
    }

-- bytes with no newline among them
among_test : (t : Bool) (n : ℕ) (r : Bool) → (n ≡ 0 → r ≡ false) → cond t 1 0 + n ≡ 0 → (t || r) ≡ false
among_test true n r f h = absurd (omega (arith, h))
among_test false n r f h = f (sym (nothing_more n) ∙ h)

pub none_among : (l : List ℕ) → count_by is_newline l ≡ 0 → list_any is_newline l ≡ false
none_among [] h = refl
none_among (x ∷ xs) h = among_test (is_newline x) (count_by is_newline xs) (list_any is_newline xs) (none_among xs) (sym (count_cons x xs) ∙ h)
