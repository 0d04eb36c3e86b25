-- The lines of atoms.
use Rattle.std.proofs.Common.{◌≡◌, ◌⊎◌, ℕ, zero, suc, ◌<◌, ◌≤◌, Bool, true, false, ◌||◌, ◌&&◌, not, cond, nat_eq, nat_lt, List, [], ◌∷◌, ◌++◌, length}
use Rattle.std.proofs.Common.{get_or, refl, sym, ap, ◌∙◌, subst, inl, inr, arith, codes}
use Rattle.std.specs.Str.{IsAscii, IsUtf8, bytes_eq, chars}
use Rattle.std.specs.List.{list_all}
use Rattle.std.specs.Fmt.{digits}
use Rattle.std.specs.Char.{is_ascii_uppercase}
use Rattle.std.proofs.lemmas.Bool.{agree_below, agree_below_at, lt-ltb, ltb-true, ne_eqb}
use Rattle.std.proofs.lemmas.List.{append-nil}
use Rattle.std.proofs.lemmas.Slice.Eq.{bytes_eq-Decides}
use Rattle.std.proofs.lemmas.Str.{IsUtf8-append, IsUtf8-encode, IsUtf8-from_ascii, IsUtf8-nil, encode_ascii, encodes-chars, inside_one, scalars-chars}
use Rattle.std.proofs.Math.Utf8.{scalar, scalars}
use lib.Utf8.{encode, encodes}
use Rattle.unicode_ident.specs.Ident.{is_xid_start, is_xid_continue}
use Rattle.ucd_table.specs.Rows.{in_ranges}
use Rattle.ucd_derived.specs.XidStartRanges.{xid_start_ranges}
use Rattle.ucd_derived.specs.XidContinueRanges.{xid_continue_ranges}
use Rattle.fd_language.specs.Characters.{is_symbol, starts_with}
use Rattle.fd_language.specs.Operators.{is_operator}
use Rattle.fd_language.specs.Term.{Name}
use Rattle.fd_language.specs.Tokens.{unquoted}
use Rattle.fd_language.specs.TermTexts.{Quoted, atom_text, is_bare, is_comment_start, is_empty_name, is_letter_word, is_letter_word_of, is_symbol_word}
use Rattle.fd_language.specs.TermTexts.{quoted_byte, quoted_bytes, quoted_name}
use Rattle.term_writer.specs.QuoteRoundTrip.{QuotedIsRead}
use Rattle.listing_reader.specs.Atoms.{written_name}
use Rattle.listing_reader.specs.Reading.{has_byte}
use Rattle.listing_reader.proofs.Digits.{and_true, and_left, and_right, join_all, without}
use Rattle.listing_reader.proofs.LineWords.{is_inline}
use Rattle.term_writer.proofs.Lemmas.{high_bytes, high_encode, low_or_high, quoted-append}

-- ---- bytes of characters

without_join : (c : ℕ) (v w : List ℕ) → has_byte c v ≡ false → has_byte c w ≡ false → has_byte c (v ++ w) ≡ false
without_join c [] w e f = f
without_join c (b ∷ v) w e f = go (nat_eq b c) e (λ g. without_join c v w g f)
  where
    go : (t : Bool) → (t || has_byte c v) ≡ false → (has_byte c v ≡ false → has_byte c (v ++ w) ≡ false) → (t || has_byte c (v ++ w)) ≡ false
    go true g ih = g
    go false g ih = ih g

no_byte : (c : ℕ) (w : List ℕ) → ((k : ℕ) → k < length w → ¬ (get_or w k 0 ≡ c)) → has_byte c w ≡ false
no_byte c [] h = refl
no_byte c (b ∷ w) h = without_join c (b ∷ []) w (ap (λ (t : Bool). t || false) (ne_eqb b c (h 0 (omega arith)))) (no_byte c w (λ k l. h (suc k) (omega (arith, l))))

encode_without : (c : ℕ) → c < 128 → (x : ℕ) → nat_eq x c ≡ false → has_byte c (encode x) ≡ false
encode_without c l x e = go (low_or_high x)
  where
    go : (x < 128) ⊎ (128 ≤ x) → has_byte c (encode x) ≡ false
    go (inl s) = ap (has_byte c) (encode_ascii x s) ∙ ap (λ (t : Bool). t || false) e
    go (inr s) = no_byte c (encode x) (λ k h f. (let low : get_or (encode x) k 0 < 128 = omega (arith, f, l) in
        let same : x ≡ get_or (encode x) k 0 = inside_one x [] (encode x) k (sym (append-nil (encode x))) h low in omega (arith, same, s, low)))

encodes_without : (c : ℕ) → c < 128 → (cs : List ℕ) → has_byte c cs ≡ false → has_byte c (encodes cs) ≡ false
encodes_without c l [] h = refl
encodes_without c l (x ∷ cs) h = without_join c (encode x) (encodes cs) (encode_without c l x (head (nat_eq x c) h)) (encodes_without c l cs (tail (nat_eq x c) h))
  where
    head : (t : Bool) → (t || has_byte c cs) ≡ false → t ≡ false
    head false e = refl
    head true e = e

    tail : (t : Bool) → (t || has_byte c cs) ≡ false → has_byte c cs ≡ false
    tail false e = e
    tail true e = absurd (cc (e))

-- ---- bytes in quotes

is_low : ℕ → Bool
is_low b = nat_lt b 128

low_text : ℕ → Bool
low_text c = list_all is_low (quoted_byte c)

always : ℕ → Bool
always c = true

low_table : agree_below low_text always 128 ≡ true
unfolding low_text is_low always digits
low_table = refl

low_ascii : (w : List ℕ) → list_all is_low w ≡ true → IsAscii w
unfolding is_low
low_ascii [] h i = omega arith
low_ascii (b ∷ w) h zero = ltb-true b 128 (and_left (nat_lt b 128) (list_all is_low w) h)
low_ascii (b ∷ w) h (suc i) = low_ascii w (and_right (nat_lt b 128) (list_all is_low w) h) i

quoted_ascii : (c : ℕ) → c < 128 → IsUtf8 (quoted_byte c)
unfolding low_text always
quoted_ascii c h = IsUtf8-from_ascii (quoted_byte c) (low_ascii (quoted_byte c) (agree_below_at low_text always 128 c low_table h))

quoted_char : (c : ℕ) → scalar c ≡ true → IsUtf8 (quoted_bytes (encode c))
quoted_char c s = go (low_or_high c)
  where
    go : (c < 128) ⊎ (128 ≤ c) → IsUtf8 (quoted_bytes (encode c))
    go (inl h) = subst IsUtf8 (sym (ap quoted_bytes (encode_ascii c h) ∙ append-nil (quoted_byte c))) (quoted_ascii c h)
    go (inr h) = subst IsUtf8 (sym (high_bytes (encode c) (high_encode c h))) (IsUtf8-encode c s)

quoted_chars : (cs : List ℕ) → scalars cs ≡ true → IsUtf8 (quoted_bytes (encodes cs))
quoted_chars [] h = IsUtf8-nil
quoted_chars (c ∷ cs) h = subst IsUtf8 (sym (quoted-append (encode c) (encodes cs)))
    (IsUtf8-append (quoted_bytes (encode c)) (quoted_bytes (encodes cs)) (quoted_char c (and_left (scalar c) (scalars cs) h))
    (quoted_chars cs (and_right (scalar c) (scalars cs) h)))

quote_low : list_all is_low (codes "'") ≡ true
unfolding is_low
quote_low = refl

quoted_utf8 : (a : Name) → IsUtf8 a → IsUtf8 (quoted_name a)
quoted_utf8 a u =
    IsUtf8-append (codes "'") (quoted_bytes a ++ codes "'") quote
    (IsUtf8-append (quoted_bytes a) (codes "'") (subst (λ (w : List ℕ). IsUtf8 (quoted_bytes w)) (encodes-chars a u) (quoted_chars (chars a) (scalars-chars a u))) quote)
  where
    quote : IsUtf8 (codes "'")
    quote = IsUtf8-from_ascii (codes "'") (low_ascii (codes "'") quote_low)

-- ---- bare names

-- a byte that stands in no bare name
record IsForeign (c : ℕ) : Type 0 where
  low : c < 128
  start : is_xid_start c ≡ false
  later : is_xid_continue c ≡ false
  symbol : is_symbol c ≡ false
  brackets : has_byte c (codes "[]") ≡ false
  braces : has_byte c (codes "{}") ≡ false
  cut : has_byte c (codes "!") ≡ false

foreign_newline : IsForeign 10
unfolding is_xid_start is_xid_continue in_ranges xid_start_ranges xid_continue_ranges is_symbol
foreign_newline = record { low = omega arith; start = refl; later = refl; symbol = refl; brackets = refl; braces = refl; cut = refl }

foreign_quote : IsForeign 39
unfolding is_xid_start is_xid_continue in_ranges xid_start_ranges xid_continue_ranges is_symbol
foreign_quote = record { low = omega arith; start = refl; later = refl; symbol = refl; brackets = refl; braces = refl; cut = refl }

or_cases : (a b : Bool) → (a || b) ≡ true → (a ≡ true) ⊎ (b ≡ true)
or_cases true b h = inl refl
or_cases false b h = inr h

module _ (c : ℕ) (f : IsForeign c) where
  letters_without : (cs : List ℕ) → is_letter_word_of cs ≡ true → has_byte c cs ≡ false
  letters_without [] h = refl
  letters_without (x ∷ cs) h =
      let front : (is_xid_start x && not (is_ascii_uppercase x)) ≡ true = and_left (is_xid_start x && not (is_ascii_uppercase x)) (list_all is_xid_continue cs) h in
      let start : is_xid_start x ≡ true = and_left (is_xid_start x) (not (is_ascii_uppercase x)) front in
      without_join c (x ∷ []) cs (without is_xid_start c f.start (x ∷ []) (and_true (is_xid_start x) true start refl))
      (without is_xid_continue c f.later cs (and_right (is_xid_start x && not (is_ascii_uppercase x)) (list_all is_xid_continue cs) h))

  same_without : (a b : List ℕ) → has_byte c b ≡ false → bytes_eq a b ≡ true → has_byte c a ≡ false
  same_without a b h e = ap (has_byte c) ((bytes_eq-Decides a b).0 e) ∙ h

  bare_without : (a : Name) → IsUtf8 a → is_bare a ≡ true → has_byte c a ≡ false
  bare_without a u h = go (or_cases ((is_letter_word a || is_symbol_word a) && not (is_operator a)) (bytes_eq a (codes "[]") || (bytes_eq a (codes "{}") || bytes_eq a (codes "!"))) h)
    where
      word : (is_letter_word a ≡ true) ⊎ (is_symbol_word a ≡ true) → has_byte c a ≡ false
      word (inl e) = sym (ap (has_byte c) (encodes-chars a u)) ∙ encodes_without c f.low (chars a) (letters_without (chars a) e)
      word (inr e) =
          let rest = and_right (not (is_empty_name a)) (list_all is_symbol a && not (bytes_eq a (codes ".") || is_comment_start a)) e in
          without is_symbol c f.symbol a (and_left (list_all is_symbol a) (not (bytes_eq a (codes ".") || is_comment_start a)) rest)

      solo : (bytes_eq a (codes "{}") ≡ true) ⊎ (bytes_eq a (codes "!") ≡ true) → has_byte c a ≡ false
      solo (inl e) = same_without a (codes "{}") f.braces e
      solo (inr e) = same_without a (codes "!") f.cut e

      sign : (bytes_eq a (codes "[]") ≡ true) ⊎ ((bytes_eq a (codes "{}") || bytes_eq a (codes "!")) ≡ true) → has_byte c a ≡ false
      sign (inl e) = same_without a (codes "[]") f.brackets e
      sign (inr e) = solo (or_cases (bytes_eq a (codes "{}")) (bytes_eq a (codes "!")) e)

      go : (((is_letter_word a || is_symbol_word a) && not (is_operator a)) ≡ true) ⊎ ((bytes_eq a (codes "[]") || (bytes_eq a (codes "{}") || bytes_eq a (codes "!"))) ≡ true) → has_byte c a ≡ false
      go (inl e) = word (or_cases (is_letter_word a) (is_symbol_word a) (and_left (is_letter_word a || is_symbol_word a) (not (is_operator a)) e))
      go (inr e) = sign (or_cases (bytes_eq a (codes "[]")) (bytes_eq a (codes "{}") || bytes_eq a (codes "!")) e)

-- a name is bare, or stands in quotes
pub bare_or_quoted : (a : Name) → ((is_bare a ≡ true) × (atom_text Quoted a ≡ a)) ⊎ (atom_text Quoted a ≡ quoted_name a)
bare_or_quoted a = go (is_bare a) refl
  where
    go : (b : Bool) → is_bare a ≡ b → ((is_bare a ≡ true) × (atom_text Quoted a ≡ a)) ⊎ (atom_text Quoted a ≡ quoted_name a)
    go true e = inl (e, ap (λ (t : Bool). cond t a (quoted_name a)) e)
    go false e = inr (ap (λ (t : Bool). cond t a (quoted_name a)) e)

pub text_utf8 : (a : Name) → IsUtf8 a → IsUtf8 (atom_text Quoted a)
text_utf8 a u = go (bare_or_quoted a)
  where
    go : ((is_bare a ≡ true) × (atom_text Quoted a ≡ a)) ⊎ (atom_text Quoted a ≡ quoted_name a) → IsUtf8 (atom_text Quoted a)
    go (inl p) = subst IsUtf8 (sym p.1) u
    go (inr e) = subst IsUtf8 (sym e) (quoted_utf8 a u)

-- ---- reading

no_quote : (a : List ℕ) → has_byte 39 a ≡ false → starts_with 39 a ≡ false
no_quote [] h = refl
no_quote (b ∷ a) h = go (nat_eq b 39) h
  where
    go : (t : Bool) → (t || has_byte 39 a) ≡ false → t ≡ false
    go false e = refl
    go true e = e

-- the name that an atom's text writes
pub written : QuotedIsRead → (a : Name) → IsUtf8 a → written_name (atom_text Quoted a) ≡ a
written law a u = go (bare_or_quoted a)
  where
    go : ((is_bare a ≡ true) × (atom_text Quoted a ≡ a)) ⊎ (atom_text Quoted a ≡ quoted_name a) → written_name (atom_text Quoted a) ≡ a
    go (inl p) = ap written_name p.1 ∙ ap (λ (t : Bool). cond t (unquoted a) a) (no_quote a (bare_without 39 foreign_quote a u p.0))
    go (inr e) = ap written_name e ∙ law.name a u

pub one_name : QuotedIsRead → (a b : Name) → IsUtf8 a → IsUtf8 b → atom_text Quoted a ≡ atom_text Quoted b → a ≡ b
one_name law a b u v e = sym (written law a u) ∙ ap written_name e ∙ written law b v

-- ---- no newline

inline_byte : ℕ → Bool
inline_byte c = list_all is_inline (quoted_byte c)

inline_table : agree_below inline_byte always 128 ≡ true
unfolding inline_byte always digits
inline_table = refl

inline_low : (c : ℕ) → c < 128 → inline_byte c ≡ true
unfolding always
inline_low c h = agree_below_at inline_byte always 128 c inline_table h

-- a byte over 127 stands as it is
stands : (c : ℕ) → 128 ≤ c → quoted_byte c ≡ c ∷ []
stands c h = sym (append-nil (quoted_byte c)) ∙ high_bytes (c ∷ []) each
  where
    each : (k : ℕ) → k < 1 → 128 ≤ get_or (c ∷ []) k 0
    each zero l = h
    each (suc k) l = absurd (omega (arith, l))

inline_each : (c : ℕ) → list_all is_inline (quoted_byte c) ≡ true
unfolding inline_byte
inline_each c = go (low_or_high c)
  where
    go : (c < 128) ⊎ (128 ≤ c) → list_all is_inline (quoted_byte c) ≡ true
    go (inl h) = inline_low c h
    go (inr h) =
        ap (list_all is_inline) (stands c h) ∙ and_true (is_inline c) true (lt-ltb 31 c (omega (arith, h))) refl

inline_bytes : (a : List ℕ) → list_all is_inline (quoted_bytes a) ≡ true
inline_bytes [] = refl
inline_bytes (c ∷ a) = join_all is_inline (quoted_byte c) (quoted_bytes a) (inline_each c) (inline_bytes a)

-- no newline stands in the line of an atom
pub atom_inline : (a : Name) → IsUtf8 a → has_byte 10 (atom_text Quoted a) ≡ false
atom_inline a u = go (bare_or_quoted a)
  where
    go : ((is_bare a ≡ true) × (atom_text Quoted a ≡ a)) ⊎ (atom_text Quoted a ≡ quoted_name a) → has_byte 10 (atom_text Quoted a) ≡ false
    go (inl p) = ap (has_byte 10) p.1 ∙ bare_without 10 foreign_newline a u p.0
    go (inr e) = ap (has_byte 10) e ∙ without is_inline 10 refl (quoted_name a)
        (join_all is_inline (codes "'") (quoted_bytes a ++ codes "'") refl (join_all is_inline (quoted_bytes a) (codes "'") (inline_bytes a) refl))

-- what is spelled in another way than the line
pub atom_none : QuotedIsRead → (line spelled : List ℕ) (name : Name) → name ≡ written_name line → spelled ≡ atom_text Quoted name
    → bytes_eq spelled line ≡ false → (a : Name) → IsUtf8 a → ¬ (atom_text Quoted a ≡ line)
atom_none law line spelled name n s d a u e =
    let same : name ≡ a = n ∙ sym (ap written_name e) ∙ written law a u in
    let t : bytes_eq spelled line ≡ true = (bytes_eq-Decides spelled line).1 (s ∙ ap (atom_text Quoted) same ∙ e) in
    let k : true ≡ false = sym t ∙ d in cc
