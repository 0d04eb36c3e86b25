-- Each text has one list of tokens or one first fault.
use Rattle.std.proofs.Common.{◌≡◌, ◌∙◌, ℕ, zero, suc, ◌+◌, ◌<◌, ◌≤◌, ◌⊎◌, inl, inr, List, [], ◌∷◌, Bool, true, false, cond, refl, sym, ap, subst, arith, length}
use Rattle.std.proofs.Common.{drop, take, length-drop}
use Rattle.std.specs.Prelude.{nat_le, nat_lt, ◌==◌, ◌&&◌, ◌*◌}
use Rattle.std.specs.Str.{chars}
use Rattle.std.specs.Char.{len_utf8, digit_value}
use Rattle.std.proofs.lemmas.Str.{chars-nil, len_utf8_bounds}
use Rattle.unicode_ident.specs.Ident.{is_xid_start, is_xid_continue}
use Rattle.fd_language.specs.Characters.{is_layout, is_symbol, is_solo, is_punct, begins_variable, not_newline, is_digit_of, starts_with, tail, run_size}
use Rattle.fd_language.specs.Characters.{past_run, digits_value}
use Rattle.fd_language.specs.Tokens.{Kind, Word, Variable, Punct, Stop, Cause, BadCharacter, FloatOut, StringOut, base_at, has_base, has_fraction, ends_stop}
use Rattle.fd_language.specs.Tokens.{Lexeme, Front, Ends, Gap, Token, Offends, greatest_integer, number_front, based_front, decimal_front, integer_front}
use Rattle.fd_language.specs.Tokens.{comment_front, Inside, Between, AfterQuote, AfterBackslash, AfterDigits, Past, Broken, OpenQuote, BadEscape, is_escape}
use Rattle.fd_language.specs.Tokens.{names_character, inside, quoted_end, quoted_front, front_at, front_by, front_of, HasTokens, ended, after_gap, after_token}
use Rattle.fd_language.specs.Tokens.{HasFault, here, past_gap, past_token, OneVerdict}

-- ---- what is at the front has at least one byte

abbrev pub GrowsBy : Front → Type 0
GrowsBy Ends = Unit {0}
GrowsBy (Gap n) = 0 < n
GrowsBy (Token k n) = 0 < n
GrowsBy (Offends cause n) = Unit {0}

pub record Grows (f : Front) : Type 0 where
  pub by : GrowsBy f

a_gap : (n : ℕ) → 0 < n → Grows (Gap n)
a_gap n h = record { by = h }

a_token : (k : Kind) (n : ℕ) → 0 < n → Grows (Token k n)
a_token k n h = record { by = h }

a_fault : (cause : Cause) (n : ℕ) → Grows (Offends cause n)
a_fault cause n = record { by = tt }

either : (b : Bool) (x y : Front) → Grows x → Grows y → Grows (cond b x y)
either true x y h k = h
either false x y h k = k

number_grows : (v n : ℕ) → 0 < n → Grows (number_front v n)
number_grows v n h = either (nat_le v greatest_integer) _ _ (a_token _ n h) (a_fault _ _)

comment_grows : (n : ℕ) (cs : List ℕ) → 0 < n → Grows (comment_front n cs)
comment_grows n [] h = a_fault _ _
comment_grows n (c ∷ cs) h = either (c == 42 && starts_with 47 cs) _ _ (a_gap (n + 2) (omega arith)) (comment_grows (n + len_utf8 c) cs (omega arith))

-- behind an atom, its size is above 0
abbrev PastBy : Inside → Type 0
PastBy Between = Unit {0}
PastBy AfterQuote = Unit {0}
PastBy (AfterBackslash from) = Unit {0}
PastBy (AfterDigits from k v) = Unit {0}
PastBy (Past m) = 0 < m
PastBy (Broken cause m) = Unit {0}

record IsPast (place : Inside) : Type 0 where
  by : PastBy place

either_past : (b : Bool) (x y : Inside) → IsPast x → IsPast y → IsPast (cond b x y)
either_past true x y h k = h
either_past false x y h k = k

between : IsPast Between
between = record { by = tt }

broken : (cause : Cause) (n : ℕ) → IsPast (Broken cause n)
broken cause n = record { by = tt }

inside_grows : (place : Inside) (n c : ℕ) → 0 < n → IsPast place → IsPast (inside place n c)
inside_grows Between n c h w = either_past (c == 39) AfterQuote _ (record { by = tt })
    (either_past (c == 92) (AfterBackslash n) _ (record { by = tt }) (either_past (c == 10) (Broken OpenQuote 0) Between (broken OpenQuote 0) between))
inside_grows AfterQuote n c h w = either_past (c == 39) Between (Past n) between (record { by = h })
inside_grows (AfterBackslash from) n c h w = either_past (is_escape c) Between _ between
    (either_past (c == 120) (AfterDigits from 0 0) (Broken BadEscape from) (record { by = tt }) (broken BadEscape from))
inside_grows (AfterDigits from k v) n c h w =
    either_past (is_digit_of 16 c && nat_lt k 6) (AfterDigits from (k + 1) (v * 16 + digit_value c)) _ (record { by = tt })
    (either_past (names_character k v c) Between (Broken BadEscape from) between (broken BadEscape from))
inside_grows (Past m) n c h w = w
inside_grows (Broken cause m) n c h w = w

quoted_end_grows : (place : Inside) (n : ℕ) → 0 < n → IsPast place → Grows (quoted_end place n)
quoted_end_grows AfterQuote n h w = a_token _ n h
quoted_end_grows (Past m) n h w = a_token _ m w.by
quoted_end_grows _ n h w = a_fault _ _

quoted_grows : (place : Inside) (n : ℕ) (cs : List ℕ) → 0 < n → IsPast place → Grows (quoted_front place n cs)
quoted_grows place n [] h w = quoted_end_grows place n h w
quoted_grows place n (c ∷ cs) h w = quoted_grows (inside place n c) (n + len_utf8 c) cs (omega arith) (inside_grows place n c h w)

two_more : (n : ℕ) → 0 < 2 + n
two_more n = omega arith

one : 0 < 1
one = omega arith

bytes_of : (c : ℕ) → 0 < len_utf8 c
bytes_of c = omega (arith, (len_utf8_bounds c).0)

a_character : (c n : ℕ) → 0 < len_utf8 c + n
a_character c n = omega (arith, (len_utf8_bounds c).0)

based_grows : (cs : List ℕ) → Grows (based_front cs)
based_grows cs = number_grows (digits_value (base_at cs) 0 (tail cs)) (2 + run_size (is_digit_of (base_at cs)) (tail cs)) (two_more (run_size (is_digit_of (base_at cs)) (tail cs)))

decimal_grows : (c : ℕ) (cs : List ℕ) → Grows (decimal_front c cs)
decimal_grows c cs =
    either (has_fraction (past_run (is_digit_of 10) cs)) (Offends FloatOut 0) _ (a_fault FloatOut 0)
    (either (c == 48 && starts_with 39 cs) (Offends BadCharacter 1) _ (a_fault BadCharacter 1)
    (number_grows (digits_value 10 0 (c ∷ cs)) (len_utf8 c + run_size (is_digit_of 10) cs) (a_character c (run_size (is_digit_of 10) cs))))

integer_grows : (c : ℕ) (cs : List ℕ) → Grows (integer_front c cs)
integer_grows c cs = either (c == 48 && has_base cs) (based_front cs) (decimal_front c cs) (based_grows cs) (decimal_grows c cs)

at_grows : (c : ℕ) (cs : List ℕ) → Grows (front_at c cs)
at_grows c cs =
    either (is_layout c) (Gap (len_utf8 c)) _ (a_gap _ (bytes_of c))
    (either (c == 37) (Gap (len_utf8 c + run_size not_newline cs)) _ (a_gap _ (a_character c (run_size not_newline cs)))
    (either (is_digit_of 10 c) (integer_front c cs) _ (integer_grows c cs)
    (either (begins_variable c) (Token Variable (len_utf8 c + run_size is_xid_continue cs)) _ (a_token Variable _ (a_character c (run_size is_xid_continue cs)))
    (either (is_xid_start c) (Token Word (len_utf8 c + run_size is_xid_continue cs)) _ (a_token Word _ (a_character c (run_size is_xid_continue cs)))
    (either (c == 47 && starts_with 42 cs) (comment_front 2 (tail cs)) _ (comment_grows 2 (tail cs) (two_more 0))
    (either (c == 46 && ends_stop cs) (Token Stop (len_utf8 c)) _ (a_token Stop _ (bytes_of c))
    (either (is_symbol c) (Token Word (len_utf8 c + run_size is_symbol cs)) _ (a_token Word _ (a_character c (run_size is_symbol cs)))
    (either (is_solo c) (Token Word (len_utf8 c)) _ (a_token Word _ (bytes_of c))
    (either (is_punct c) (Token Punct (len_utf8 c)) _ (a_token Punct _ (bytes_of c))
    (either (c == 39) (quoted_front Between 1 cs) _ (quoted_grows Between 1 cs one between)
    (either (c == 34) (Offends StringOut 0) (Offends BadCharacter 0) (a_fault StringOut 0) (a_fault BadCharacter 0))))))))))))

by_grows : (cs : List ℕ) → Grows (front_by cs)
by_grows [] = record { by = tt }
by_grows (c ∷ cs) = at_grows c cs

pub front_grows : (bytes : List ℕ) → Grows (front_of bytes)
unfolding front_of
front_grows bytes = by_grows (chars bytes)

pub gap_grows : (bytes : List ℕ) (n : ℕ) → front_of bytes ≡ Gap n → 0 < n
gap_grows bytes n e = let g : Grows (Gap n) = subst Grows e (front_grows bytes) in g.by

pub token_grows : (bytes : List ℕ) (k : Kind) (n : ℕ) → front_of bytes ≡ Token k n → 0 < n
token_grows bytes k n e = let g : Grows (Token k n) = subst Grows e (front_grows bytes) in g.by

pub front_empty : front_of [] ≡ Ends
unfolding front_of
front_empty = ap front_by chars-nil

-- ---- a text has a list of tokens or a fault

abbrev pub Verdict : ℕ → Bool → List ℕ → Type 0
Verdict at tight bytes = ((ts : List Lexeme) × HasTokens at tight bytes ts) ⊎ ((cause : Cause) × (place : ℕ) × HasFault at bytes cause place)

empty : (bytes : List ℕ) → length bytes ≤ 0 → front_of bytes ≡ Ends
empty [] h = front_empty
empty (b ∷ bytes) h = absurd (omega arith)

behind_gap : (at n : ℕ) (tight : Bool) (bytes : List ℕ) → front_of bytes ≡ Gap n → Verdict (at + n) false (drop n bytes) → Verdict at tight bytes
behind_gap at n tight bytes e (inl f) = inl (f.0, after_gap n e f.1)
behind_gap at n tight bytes e (inr f) = inr (f.0, f.1, past_gap n e f.2)

behind_token : (at n : ℕ) (k : Kind) (tight : Bool) (bytes : List ℕ) → front_of bytes ≡ Token k n → Verdict (at + n) true (drop n bytes) → Verdict at tight bytes
behind_token at n k tight bytes e (inl f) = inl (_, after_token k n e f.1)
behind_token at n k tight bytes e (inr f) = inr (f.0, f.1, past_token k n e f.2)

at_front : (f : Front) (at : ℕ) (tight : Bool) (bytes : List ℕ) → front_of bytes ≡ f
    → ((n at2 : ℕ) (tight2 : Bool) → 0 < n → Verdict at2 tight2 (drop n bytes)) → Verdict at tight bytes
at_front Ends at tight bytes e later = inl ([], ended e)
at_front (Gap n) at tight bytes e later = behind_gap at n tight bytes e (later n (at + n) false (gap_grows bytes n e))
at_front (Token k n) at tight bytes e later = behind_token at n k tight bytes e (later n (at + n) true (token_grows bytes k n e))
at_front (Offends cause n) at tight bytes e later = inr (cause, at + n, here cause n e)

verdict : (bound at : ℕ) (tight : Bool) (bytes : List ℕ) → length bytes ≤ bound → Verdict at tight bytes
verdict zero at tight bytes h = inl ([], ended (empty bytes h))
verdict (suc bound) at tight bytes h = at_front (front_of bytes) at tight bytes refl (λ n at2 tight2 g. verdict bound at2 tight2 (drop n bytes) (omega (arith, length-drop n bytes)))

-- ---- and only one

-- no text has two lists of tokens
pub one_list : {at : ℕ} {tight : Bool} {bytes : List ℕ} {ts us : List Lexeme} → HasTokens at tight bytes ts → HasTokens at tight bytes us → ts ≡ us
one_list (ended e) (ended e2) = refl
one_list (ended e) (after_gap n e2 h2) = absurd (cc)
one_list (ended e) (after_token k n e2 h2) = absurd (cc)
one_list (after_gap n e h) (ended e2) = absurd (cc)
one_list {at = at} {bytes = bytes} {us = us} (after_gap n e h) (after_gap m e2 h2) = let same : m ≡ n = cc in one_list h (subst (λ (i : ℕ). HasTokens (at + i) false (drop i bytes) us) same h2)
one_list (after_gap n e h) (after_token k m e2 h2) = absurd (cc)
one_list (after_token k n e h) (ended e2) = absurd (cc)
one_list (after_token k n e h) (after_gap m e2 h2) = absurd (cc)
one_list {at = at} {tight = tight} {bytes = bytes} (after_token {ts = ts} k n e h) (after_token {ts = us} k2 m e2 h2) =
    let same : m ≡ n = cc in
    let kind : k2 ≡ k = cc in
    let rest = one_list h (subst (λ (i : ℕ). HasTokens (at + i) true (drop i bytes) us) same h2) in
    ap (λ (l : List Lexeme). record { kind = k; text = take n bytes; place = at; tight = tight } ∷ l) rest
    ∙ ap (λ (x : Kind). record { kind = x; text = take n bytes; place = at; tight = tight } ∷ us) (sym kind)
    ∙ ap (λ (i : ℕ). record { kind = k2; text = take i bytes; place = at; tight = tight } ∷ us) (sym same)

-- nor tokens and a fault
pub not_both : {at place : ℕ} {tight : Bool} {bytes : List ℕ} {ts : List Lexeme} {cause : Cause} → HasTokens at tight bytes ts → HasFault at bytes cause place → ⊥
not_both (ended e) (here c n e2) = cc
not_both (ended e) (past_gap n e2 h2) = cc
not_both (ended e) (past_token k n e2 h2) = cc
not_both (after_gap n e h) (here c m e2) = cc
not_both {at = at} {place = place} {bytes = bytes} {cause = cause} (after_gap n e h) (past_gap m e2 h2) = let same : m ≡ n = cc in
    not_both h (subst (λ (i : ℕ). HasFault (at + i) (drop i bytes) cause place) same h2)
not_both (after_gap n e h) (past_token k m e2 h2) = cc
not_both (after_token k n e h) (here c m e2) = cc
not_both (after_token k n e h) (past_gap m e2 h2) = cc
not_both {at = at} {place = place} {bytes = bytes} {cause = cause} (after_token k n e h) (past_token k2 m e2 h2) = let same : m ≡ n = cc in
    not_both h (subst (λ (i : ℕ). HasFault (at + i) (drop i bytes) cause place) same h2)

-- nor two first faults
pub one_fault : {at p q : ℕ} {bytes : List ℕ} {c d : Cause} → HasFault at bytes c p → HasFault at bytes d q → (c ≡ d) × (p ≡ q)
one_fault {at = at} (here c n e) (here d m e2) = let same : n ≡ m = cc in ((cc), ap (λ (i : ℕ). at + i) same)
one_fault (here c n e) (past_gap m e2 h2) = absurd (cc)
one_fault (here c n e) (past_token k m e2 h2) = absurd (cc)
one_fault (past_gap n e h) (here d m e2) = absurd (cc)
one_fault {at = at} {q = q} {bytes = bytes} {d = d} (past_gap n e h) (past_gap m e2 h2) = let same : m ≡ n = cc in one_fault h (subst (λ (i : ℕ). HasFault (at + i) (drop i bytes) d q) same h2)
one_fault (past_gap n e h) (past_token k m e2 h2) = absurd (cc)
one_fault (past_token k n e h) (here d m e2) = absurd (cc)
one_fault (past_token k n e h) (past_gap m e2 h2) = absurd (cc)
one_fault {at = at} {q = q} {bytes = bytes} {d = d} (past_token k n e h) (past_token k2 m e2 h2) = let same : m ≡ n = cc in
    one_fault h (subst (λ (i : ℕ). HasFault (at + i) (drop i bytes) d q) same h2)

pub one_verdict : OneVerdict
one_verdict = record {
  found = λ text. verdict (length text) 0 true text (omega arith);
  one_list = λ text ts us h k. one_list h k;
  one_fault = λ text c d p q h k. one_fault h k;
  not_both = λ text ts c p h k. not_both h k;
}
