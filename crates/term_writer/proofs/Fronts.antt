-- What a text begins with, where a token stands in front and the text behind it doesn't go on with that token.
use Rattle.std.proofs.Common.{◌≡◌, ◌∙◌, ℕ, pos, ◌+◌, ◌≤◌, List, [], ◌∷◌, ◌++◌, Bool, true, false, cond, refl, ap, ap₂, arith}
use Rattle.std.specs.Prelude.{◌==◌, ◌&&◌, ◌*◌}
use Rattle.std.specs.Char.{len_utf8, digit_value, is_ascii_uppercase}
use Rattle.std.specs.List.{list_all}
use Rattle.std.specs.Str.Parse.{AllDigits, digits_value_after}
use Rattle.std.proofs.lemmas.Bool.{le-leb, lt-ltb, le-ltb, and_parts, and_right}
use Rattle.unicode_ident.specs.Ident.{is_xid_start, is_xid_continue}
use Rattle.fd_language.specs.Characters.{is_symbol, begins_variable, is_digit_of, starts_with, starts_with_digit_of, run_size, past_run, digits_value}
use Rattle.fd_language.specs.Tokens.{Token, Offends, Word, Variable, Integer, IntegerTooWide, greatest_integer, base_of, has_base, has_fraction, number_front}
use Rattle.fd_language.specs.Tokens.{integer_front, ends_stop, front_at}
use Rattle.term_writer.proofs.Classes.{variable_plain, letter_is, symbol_is, Digit, digit_is, no_base, no_digit}
use Rattle.fd_language.proofs.Lemmas.{size}

-- the characters don't begin with one that passes
abbrev pub stops : (ℕ → Bool) → List ℕ → Type 0
stops p [] = Unit {0}
stops p (c ∷ cs) = p c ≡ false

run_none : (p : ℕ → Bool) (ds : List ℕ) → stops p ds → run_size p ds ≡ 0
run_none p [] h = refl
run_none p (d ∷ ds) h = rw h refl

past_none : (p : ℕ → Bool) (ds : List ℕ) → stops p ds → past_run p ds ≡ ds
past_none p [] h = refl
past_none p (d ∷ ds) h = rw h refl

run_whole : (p : ℕ → Bool) (cs ds : List ℕ) → list_all p cs ≡ true → stops p ds → run_size p (cs ++ ds) ≡ size cs
run_whole p [] ds h k = run_none p ds k
run_whole p (c ∷ cs) ds h k =
    let parts = and_parts (p c) (list_all p cs) h in
    rw (parts.0, run_whole p cs ds parts.1 k) refl

past_whole : (p : ℕ → Bool) (cs ds : List ℕ) → list_all p cs ≡ true → stops p ds → past_run p (cs ++ ds) ≡ ds
past_whole p [] ds h k = past_none p ds k
past_whole p (c ∷ cs) ds h k =
    let parts = and_parts (p c) (list_all p cs) h in
    rw parts.0 (past_whole p cs ds parts.1 k)

-- ---- words of letters, and variables

pub letters_front : (c : ℕ) (cs ds : List ℕ) → is_xid_start c ≡ true → is_ascii_uppercase c ≡ false → list_all is_xid_continue cs ≡ true → stops is_xid_continue ds
    → front_at c (cs ++ ds) ≡ Token Word (size (c ∷ cs))
letters_front c cs ds s u h k =
    let l = letter_is c s u in
    rw (l.plain.layout, l.plain.percent, l.plain.digit, l.variable, s) (ap (λ (n : ℕ). Token Word (len_utf8 c + n)) (run_whole is_xid_continue cs ds h k))

pub variable_front : (c : ℕ) (cs ds : List ℕ) → begins_variable c ≡ true → list_all is_xid_continue cs ≡ true → stops is_xid_continue ds → front_at c (cs ++ ds) ≡ Token Variable (size (c ∷ cs))
variable_front c cs ds s h k =
    let l = variable_plain c s in
    rw (l.layout, l.percent, l.digit, s) (ap (λ (n : ℕ). Token Variable (len_utf8 c + n)) (run_whole is_xid_continue cs ds h k))

-- ---- words of symbols

pub symbols_front : (c : ℕ) (cs ds : List ℕ) → is_symbol c ≡ true → list_all is_symbol cs ≡ true → stops is_symbol ds
    → (c == 47 && starts_with 42 (cs ++ ds)) ≡ false → (c == 46 && ends_stop (cs ++ ds)) ≡ false → front_at c (cs ++ ds) ≡ Token Word (size (c ∷ cs))
symbols_front c cs ds s h k a b =
    let l = symbol_is c s in
    rw (l.plain.layout, l.plain.percent, l.plain.digit, l.variable, l.start, a, b, s) (ap (λ (n : ℕ). Token Word (len_utf8 c + n)) (run_whole is_symbol cs ds h k))

-- ---- integers

no_base_digit : (cs : List ℕ) → starts_with_digit_of 0 cs ≡ false
no_base_digit [] = refl
no_base_digit (c ∷ cs) = le-ltb (digit_value c) 0 (omega arith)

base_ends : (e : ℕ) (es : List ℕ) → base_of e ≡ 0 → has_base (e ∷ es) ≡ false
base_ends e es h = ap (λ (b : ℕ). starts_with_digit_of b es) h ∙ no_base_digit es

pub digits_here : (ds : List ℕ) → AllDigits 10 ds → list_all (is_digit_of 10) ds ≡ true
digits_here [] h = refl
digits_here (d ∷ ds) h = rw (lt-ltb (digit_value d) 10 h.0, digits_here ds h.1) refl

value_stops : (n : ℕ) (ds : List ℕ) → stops (is_digit_of 10) ds → digits_value 10 n ds ≡ n
value_stops n [] h = refl
value_stops n (d ∷ ds) h = rw h refl

value_whole : (n : ℕ) (cs ds : List ℕ) → AllDigits 10 cs → stops (is_digit_of 10) ds → digits_value 10 n (cs ++ ds) ≡ digits_value_after 10 n cs
value_whole n [] ds h k = value_stops n ds k
value_whole n (c ∷ cs) ds h k = rw (lt-ltb (digit_value c) 10 h.0) (value_whole (n * 10 + digit_value c) cs ds h.1 k)

-- What follows doesn't go on with a word, a number or a quoted atom.
pub record Ends (ds : List ℕ) : Type 0 where
  pub word : stops is_xid_continue ds
  pub quote : starts_with 39 ds ≡ false
  pub fraction : has_fraction ds ≡ false

stops_digit : (ds : List ℕ) → stops is_xid_continue ds → stops (is_digit_of 10) ds
stops_digit [] h = tt
stops_digit (d ∷ ds) h = no_digit d h

no_base_behind : (cs ds : List ℕ) → list_all (is_digit_of 10) cs ≡ true → stops is_xid_continue ds → has_base (cs ++ ds) ≡ false
no_base_behind [] [] h k = refl
no_base_behind [] (d ∷ ds) h k = base_ends d ds (no_base d k)
no_base_behind (c ∷ cs) ds h k = base_ends c (cs ++ ds) (digit_is c (and_parts (is_digit_of 10 c) (list_all (is_digit_of 10) cs) h).0).base

no_quote_behind : (cs ds : List ℕ) → list_all (is_digit_of 10) cs ≡ true → starts_with 39 ds ≡ false → starts_with 39 (cs ++ ds) ≡ false
no_quote_behind [] ds h k = k
no_quote_behind (c ∷ cs) ds h k = (digit_is c (and_parts (is_digit_of 10 c) (list_all (is_digit_of 10) cs) h).0).quote

number_fits : (v n : ℕ) → v ≤ greatest_integer → number_front v n ≡ Token (Integer (pos v)) n
number_fits v n h = ap (λ (b : Bool). cond b (Token (Integer (pos v)) n) (Offends IntegerTooWide 0)) (le-leb v greatest_integer h)

digit_first : (c : ℕ) (es : List ℕ) → Digit c → is_digit_of 10 c ≡ true → front_at c es ≡ integer_front c es
digit_first c es l h = rw (l.layout, l.percent, h) refl

number_first : (c : ℕ) (es : List ℕ) → (c == 48 && has_base es) ≡ false → has_fraction (past_run (is_digit_of 10) es) ≡ false → (c == 48 && starts_with 39 es) ≡ false
    → integer_front c es ≡ number_front (digits_value 10 0 (c ∷ es)) (len_utf8 c + run_size (is_digit_of 10) es)
number_first c es a b d = rw (a, b, d) refl

pub integer_front_is : (c : ℕ) (cs ds : List ℕ) → AllDigits 10 (c ∷ cs) → digits_value_after 10 0 (c ∷ cs) ≤ greatest_integer → Ends ds
    → front_at c (cs ++ ds) ≡ Token (Integer (pos (digits_value_after 10 0 (c ∷ cs)))) (size (c ∷ cs))
integer_front_is c cs ds h le e =
    let all : list_all (is_digit_of 10) cs ≡ true = digits_here cs h.1 in
    let here : is_digit_of 10 c ≡ true = lt-ltb (digit_value c) 10 h.0 in
    let l = digit_is c here in
    let stop : stops (is_digit_of 10) ds = stops_digit ds e.word in
    let base : (c == 48 && has_base (cs ++ ds)) ≡ false = and_right (c == 48) (has_base (cs ++ ds)) (no_base_behind cs ds all e.word) in
    let quote : (c == 48 && starts_with 39 (cs ++ ds)) ≡ false = and_right (c == 48) (starts_with 39 (cs ++ ds)) (no_quote_behind cs ds all e.quote) in
    let fraction : has_fraction (past_run (is_digit_of 10) (cs ++ ds)) ≡ false = ap has_fraction (past_whole (is_digit_of 10) cs ds all stop) ∙ e.fraction in
    digit_first c (cs ++ ds) l here ∙ number_first c (cs ++ ds) base fraction quote
    ∙ ap₂ number_front (value_whole 0 (c ∷ cs) ds h stop) (ap (λ (n : ℕ). len_utf8 c + n) (run_whole (is_digit_of 10) cs ds all stop))
    ∙ number_fits (digits_value_after 10 0 (c ∷ cs)) (size (c ∷ cs)) le
