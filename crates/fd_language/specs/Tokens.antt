-- Tokens. The tokens of a text, or its first fault. A text is a list of bytes in UTF-8; sizes and places are in bytes.
use Rattle.std.specs.Prelude.{◌≡◌, ℕ, ◌+◌, ◌*◌, ℤ, pos, List, [], ◌∷◌, ◌++◌, Bool, true, false, ◌==◌, ◌||◌, ◌&&◌, ◌⊎◌, nat_le, nat_lt, if◌then◌else◌, take}
use Rattle.std.specs.Prelude.{drop}
use Rattle.std.specs.Char.{len_utf8, digit_value}
use Rattle.std.specs.Str.{chars, encode_utf8_all}
use lib.Utf8.{scalar}
use Rattle.unicode_ident.specs.Ident.{is_xid_start, is_xid_continue}
use Rattle.fd_language.specs.Characters.{is_layout, is_among, is_symbol, is_solo, is_punct, begins_variable, not_newline, is_digit_of, starts_with}
use Rattle.fd_language.specs.Characters.{starts_with_digit_of, tail, run_size, past_run, digits_value}

pub data Kind : Type 0 where
  Word : Kind
  Quoted : Kind
  Variable : Kind
  Integer : ℤ → Kind
  Punct : Kind
  Stop : Kind

pub data Cause : Type 0 where
  BadCharacter : Cause
  OpenQuote : Cause
  OpenComment : Cause
  BadEscape : Cause
  IntegerTooWide : Cause
  FloatOut : Cause
  StringOut : Cause

-- A token. It is tight where no layout and no comment stands before it.
pub record Lexeme : Type 0 where
  pub kind : Kind
  pub text : List ℕ
  pub place : ℕ
  pub tight : Bool

-- What a text begins with: nothing; layout or a comment of n bytes; a token of n bytes; a fault that is placed n bytes behind the beginning.
pub data Front : Type 0 where
  Ends : Front
  Gap : ℕ → Front
  Token : Kind → ℕ → Front
  Offends : Cause → ℕ → Front

-- ---- integers

-- the greatest integer
abbrev pub greatest_integer : ℕ
greatest_integer = 9223372036854775807

-- digits of n bytes that spell the number v
abbrev pub number_front : ℕ → ℕ → Front
number_front v n = if nat_le v greatest_integer then Token (Integer (pos v)) n else Offends IntegerTooWide 0

-- the base that a letter behind 0 names: x, o and b
abbrev pub base_of : ℕ → ℕ
base_of c = if c == 120 then 16 else if c == 111 then 8 else if c == 98 then 2 else 0

-- a letter that names a base, and a digit of that base
abbrev pub has_base : List ℕ → Bool
has_base [] = false
has_base (c ∷ cs) = starts_with_digit_of (base_of c) cs

abbrev pub base_at : List ℕ → ℕ
base_at [] = 10
base_at (c ∷ cs) = base_of c

-- a dot and a decimal digit
abbrev pub has_fraction : List ℕ → Bool
has_fraction [] = false
has_fraction (c ∷ cs) = c == 46 && starts_with_digit_of 10 cs

-- behind 0, which is followed by a base's letter and digits
abbrev pub based_front : List ℕ → Front
based_front cs = number_front (digits_value (base_at cs) 0 (tail cs)) (2 + run_size (is_digit_of (base_at cs)) (tail cs))

-- c is a decimal digit, and cs what follows it
abbrev pub decimal_front : ℕ → List ℕ → Front
decimal_front c cs =
    if has_fraction (past_run (is_digit_of 10) cs) then Offends FloatOut 0
    else if c == 48 && starts_with 39 cs then Offends BadCharacter 1
    else number_front (digits_value 10 0 (c ∷ cs)) (len_utf8 c + run_size (is_digit_of 10) cs)

abbrev pub integer_front : ℕ → List ℕ → Front
integer_front c cs = if c == 48 && has_base cs then based_front cs else decimal_front c cs

-- ---- comments

-- n bytes from the beginning of a comment, behind its opening: it goes up to the first */
abbrev pub comment_front : ℕ → List ℕ → Front
comment_front n [] = Offends OpenComment 0
comment_front n (c ∷ cs) = if c == 42 && starts_with 47 cs then Gap (n + 2) else comment_front (n + len_utf8 c) cs

-- ---- quoted atoms

-- Where a reader stands inside a quoted atom.
pub data Inside : Type 0 where
  -- between two characters
  Between : Inside
  -- behind a quote, which ends the atom unless another quote follows
  AfterQuote : Inside
  -- behind a backslash, which stands n bytes from the beginning
  AfterBackslash : ℕ → Inside
  -- behind \x and k hexadecimal digits that spell v, where the backslash stands n bytes from the beginning
  AfterDigits : ℕ → ℕ → ℕ → Inside
  -- behind the atom, which has n bytes
  Past : ℕ → Inside
  -- behind the first character that offends
  Broken : Cause → ℕ → Inside

-- \ ' " n t r, which stand for one character behind a backslash
abbrev pub is_escape : ℕ → Bool
is_escape c = is_among (92 ∷ 39 ∷ 34 ∷ 110 ∷ 116 ∷ 114 ∷ []) c

abbrev pub escaped : ℕ → ℕ
escaped c = if c == 110 then 10 else if c == 116 then 9 else if c == 114 then 13 else c

-- \ ends the digits of \x: one to six of them, and they name a character
abbrev pub names_character : ℕ → ℕ → ℕ → Bool
names_character k v c = c == 92 && (nat_lt 0 k && scalar v)

-- past the character c, which stands n bytes from the beginning
abbrev pub inside : Inside → ℕ → ℕ → Inside
inside Between n c = if c == 39 then AfterQuote else if c == 92 then AfterBackslash n else if c == 10 then Broken OpenQuote 0 else Between
inside AfterQuote n c = if c == 39 then Between else Past n
inside (AfterBackslash from) n c = if is_escape c then Between else if c == 120 then AfterDigits from 0 0 else Broken BadEscape from
inside (AfterDigits from k v) n c =
    if is_digit_of 16 c && nat_lt k 6 then AfterDigits from (k + 1) (v * 16 + digit_value c)
    else if names_character k v c then Between else Broken BadEscape from
inside (Past m) n c = Past m
inside (Broken cause m) n c = Broken cause m

-- the characters that are spelled once c is read
abbrev pub spells : Inside → ℕ → List ℕ
spells Between c = if c == 39 || (c == 92 || c == 10) then [] else c ∷ []
spells AfterQuote c = if c == 39 then c ∷ [] else []
spells (AfterBackslash from) c = if is_escape c then escaped c ∷ [] else []
spells (AfterDigits from k v) c = if names_character k v c then v ∷ [] else []
spells (Past m) c = []
spells (Broken cause m) c = []

-- the text ends
abbrev pub quoted_end : Inside → ℕ → Front
quoted_end Between n = Offends OpenQuote 0
quoted_end AfterQuote n = Token Quoted n
quoted_end (AfterBackslash from) n = Offends BadEscape from
quoted_end (AfterDigits from k v) n = Offends BadEscape from
quoted_end (Past m) n = Token Quoted m
quoted_end (Broken cause m) n = Offends cause m

abbrev pub quoted_front : Inside → ℕ → List ℕ → Front
quoted_front place n [] = quoted_end place n
quoted_front place n (c ∷ cs) = quoted_front (inside place n c) (n + len_utf8 c) cs

abbrev pub quoted_spells : Inside → List ℕ → List ℕ
quoted_spells place [] = []
quoted_spells place (c ∷ cs) = spells place c ++ quoted_spells (inside place 0 c) cs

-- the bytes of the characters that a quoted atom spells; the text is that of the token, with its quotes
unfoldable pub unquoted : List ℕ → List ℕ
unquoted text = encode_utf8_all (quoted_spells Between (tail (chars text)))

-- ---- the front of a text

-- a dot that stands before these characters is a stop
abbrev pub ends_stop : List ℕ → Bool
ends_stop [] = true
ends_stop (c ∷ cs) = is_layout c || c == 37

-- the first character, and those behind it
abbrev pub front_at : ℕ → List ℕ → Front
front_at c cs =
    if is_layout c then Gap (len_utf8 c)
    else if c == 37 then Gap (len_utf8 c + run_size not_newline cs)
    else if is_digit_of 10 c then integer_front c cs
    else if begins_variable c then Token Variable (len_utf8 c + run_size is_xid_continue cs)
    else if is_xid_start c then Token Word (len_utf8 c + run_size is_xid_continue cs)
    else if c == 47 && starts_with 42 cs then comment_front 2 (tail cs)
    else if c == 46 && ends_stop cs then Token Stop (len_utf8 c)
    else if is_symbol c then Token Word (len_utf8 c + run_size is_symbol cs)
    else if is_solo c then Token Word (len_utf8 c)
    else if is_punct c then Token Punct (len_utf8 c)
    else if c == 39 then quoted_front Between 1 cs
    else if c == 34 then Offends StringOut 0
    else Offends BadCharacter 0

abbrev pub front_by : List ℕ → Front
front_by [] = Ends
front_by (c ∷ cs) = front_at c cs

unfoldable pub front_of : List ℕ → Front
front_of bytes = front_by (chars bytes)

-- ---- the whole text

-- HasTokens at tight bytes ts: the bytes, which begin at the place at, hold the tokens ts and no fault; tight is that of a token at their beginning
pub data HasTokens : ℕ → Bool → List ℕ → List Lexeme → Type 0 where
  ended : {at : ℕ} {tight : Bool} {bytes : List ℕ} → front_of bytes ≡ Ends → HasTokens at tight bytes []
  after_gap : {at : ℕ} {tight : Bool} {bytes : List ℕ} {ts : List Lexeme} (n : ℕ) → front_of bytes ≡ Gap n → HasTokens (at + n) false (drop n bytes) ts → HasTokens at tight bytes ts
  after_token : {at : ℕ} {tight : Bool} {bytes : List ℕ} {ts : List Lexeme} (k : Kind) (n : ℕ) → front_of bytes ≡ Token k n → HasTokens (at + n) true (drop n bytes) ts
      → HasTokens at tight bytes (record { kind = k; text = take n bytes; place = at; tight = tight } ∷ ts)

-- HasFault at bytes cause place: the first fault in the bytes, which begin at the place at
pub data HasFault : ℕ → List ℕ → Cause → ℕ → Type 0 where
  here : {at : ℕ} {bytes : List ℕ} (cause : Cause) (n : ℕ) → front_of bytes ≡ Offends cause n → HasFault at bytes cause (at + n)
  past_gap : {at : ℕ} {bytes : List ℕ} {cause : Cause} {place : ℕ} (n : ℕ) → front_of bytes ≡ Gap n → HasFault (at + n) (drop n bytes) cause place → HasFault at bytes cause place
  past_token : {at : ℕ} {bytes : List ℕ} {cause : Cause} {place : ℕ} (k : Kind) (n : ℕ) → front_of bytes ≡ Token k n → HasFault (at + n) (drop n bytes) cause place → HasFault at bytes cause place

-- the tokens of a whole text, and its first fault
abbrev pub TokensOf : List ℕ → List Lexeme → Type 0
TokensOf text ts = HasTokens 0 true text ts

abbrev pub FaultOf : List ℕ → Cause → ℕ → Type 0
FaultOf text cause place = HasFault 0 text cause place

-- Each text has either exactly one list of tokens or exactly one first fault.
pub record OneVerdict : Type 0 where
  pub found : (text : List ℕ) → ((ts : List Lexeme) × TokensOf text ts) ⊎ ((cause : Cause) × (place : ℕ) × FaultOf text cause place)
  pub one_list : (text : List ℕ) (ts us : List Lexeme) → TokensOf text ts → TokensOf text us → ts ≡ us
  pub one_fault : (text : List ℕ) (c d : Cause) (p q : ℕ) → FaultOf text c p → FaultOf text d q → (c ≡ d) × (p ≡ q)
  pub not_both : (text : List ℕ) (ts : List Lexeme) (c : Cause) (p : ℕ) → TokensOf text ts → FaultOf text c p → ⊥
