-- Texts by their tokens, one token after the other, from what follows a token to the text with it in front.
use Rattle.std.proofs.Common.{◌≡◌, ◌∙◌, ℕ, ℤ, ◌+◌, ◌<◌, List, [], ◌∷◌, ◌++◌, Bool, true, false, cond, refl, sym, ap, subst, arith, length, drop}
use Rattle.std.specs.Prelude.{◌==◌, IsUtf8, if◌then◌else◌}
use Rattle.std.specs.Str.{chars}
use Rattle.std.proofs.lemmas.List.{take_at, drop_at}
use Rattle.std.proofs.lemmas.Str.{chars-append, chars-encodes, encodes-chars, encode_ascii}
use Rattle.std.proofs.Math.Utf8.{low_scalar}
use Rattle.std.proofs.lemmas.Bool.{and_from}
use lib.Utf8.{scalar}
use Rattle.unicode_ident.specs.Ident.{is_xid_continue}
use Rattle.unicode_ident.proofs.IdentLemmas.{is_xid_start-ascii, is_xid_continue-ascii}
use Rattle.fd_language.specs.Term.{Name}
use Rattle.fd_language.specs.Characters.{is_symbol, is_punct, begins_variable}
use Rattle.fd_language.specs.Operators.{is_operator}
use Rattle.fd_language.specs.Tokens.{Kind, Word, Quoted, Variable, Integer, Punct, Stop, Lexeme, Gap, Token, has_fraction, front_of, front_by, front_at}
use Rattle.fd_language.specs.Tokens.{HasTokens, after_gap, after_token, unquoted}
use Rattle.fd_language.specs.Terminals.{Terminal, name, operator_word, variable, integer, opens, closes, open_list, close_list, open_curly, close_curly, comma}
use Rattle.fd_language.specs.Terminals.{bar, stop}
use Rattle.fd_language.specs.Reading.{terminal_of, names_behind, ended_by, is_anonymous}
use Rattle.fd_language.specs.TermTexts.{starts_with_symbol}
use Rattle.term_writer.proofs.QuotedNames.{sizes}
use Rattle.term_writer.proofs.Fronts as fronts
use Rattle.term_writer.proofs.OtherPlaces.{Alike, like_name, like_word, like_integer, like_open, like_close, like_open_list, like_close_list, like_open_curly}
use Rattle.term_writer.proofs.OtherPlaces.{like_close_curly, like_comma, like_bar}
use Rattle.fd_language.proofs.Lemmas.{size}

-- a token that is no variable and no stop is y to the grammar, up to its place
pub record Other (l : Lexeme) (y : Terminal) : Type 0 where
  pub fits : (vars : ℕ → List ℕ) (all names : List Name) → Alike vars all y (terminal_of names l)
  pub keeps : (names : List Name) → names_behind names l ≡ names
  pub still : (names : List Name) (later : List (List Name)) → ended_by l.kind names later ≡ later

-- The tokens, of which the last is a stop or none is, are ts to the grammar, up to their places, where variables have their texts' numbers.
pub data Spelt (vars : ℕ → List ℕ) : Bool → List Lexeme → List Terminal → Type 0 where
  at_end : Spelt vars false [] []
  at_stop : {l : Lexeme} → l.kind ≡ Stop → Spelt vars true (l ∷ []) (stop ∷ [])
  at_variable : {stopped : Bool} {l : Lexeme} {ls : List Lexeme} {ts : List Terminal} (x : ℕ) → l.kind ≡ Variable → l.text ≡ vars x
      → is_anonymous (vars x) ≡ false → Spelt vars stopped ls ts → Spelt vars stopped (l ∷ ls) (variable 0 x ∷ ts)
  at_other : {stopped : Bool} {l : Lexeme} {y : Terminal} {ls : List Lexeme} {ts : List Terminal} → Other l y → Spelt vars stopped ls ts → Spelt vars stopped (l ∷ ls) (y ∷ ts)

pub record LexesAt (vars : ℕ → List ℕ) (stopped : Bool) (at : ℕ) (tight : Bool) (bytes : List ℕ) (ts : List Terminal) : Type 0 where
  pub lexemes : List Lexeme
  pub tokens : HasTokens at tight bytes lexemes
  pub spelt : Spelt vars stopped lexemes ts

-- the bytes have tokens that are ts to the grammar, and stopped says whether a stop ends them
pub record Lexes (vars : ℕ → List ℕ) (stopped : Bool) (tight : Bool) (bytes : List ℕ) (ts : List Terminal) : Type 0 where
  pub by : (at : ℕ) → LexesAt vars stopped at tight bytes ts

-- ---- one token in front

abbrev lexeme : Kind → List ℕ → ℕ → Bool → Lexeme
lexeme k w at tight = record { kind = k; text = w; place = at; tight = tight }

first_token : (at : ℕ) (tight : Bool) (k : Kind) (w r : List ℕ) (ls : List Lexeme) → front_of (w ++ r) ≡ Token k (length w)
    → HasTokens (at + length w) true r ls → HasTokens at tight (w ++ r) (lexeme k w at tight ∷ ls)
first_token at tight k w r ls e h =
    let rest : HasTokens (at + length w) true (drop (length w) (w ++ r)) ls = subst (λ (l : List ℕ). HasTokens (at + length w) true l ls) (sym (drop_at w r (length w) refl)) h in
    subst (λ (l : List ℕ). HasTokens at tight (w ++ r) (lexeme k l at tight ∷ ls)) (take_at w r (length w) refl) (after_token k (length w) e rest)

module _ (vars : ℕ → List ℕ) (stopped : Bool) where
  pub other_first : (tight : Bool) (k : Kind) (w r : List ℕ) (y : Terminal) (ts : List Terminal) → front_of (w ++ r) ≡ Token k (length w)
      → ((p : ℕ) → Other (lexeme k w p tight) y) → Lexes vars stopped true r ts → Lexes vars stopped tight (w ++ r) (y ∷ ts)
  other_first tight k w r y ts e o h = record {
    by = λ at. (let l = h.by (at + length w) in record {
      lexemes = lexeme k w at tight ∷ l.lexemes;
      tokens = first_token at tight k w r l.lexemes e l.tokens;
      spelt = at_other (o at) l.spelt;
    });
  }

  pub variable_first : (tight : Bool) (r : List ℕ) (x : ℕ) (ts : List Terminal) → front_of (vars x ++ r) ≡ Token Variable (length (vars x))
      → is_anonymous (vars x) ≡ false → Lexes vars stopped true r ts → Lexes vars stopped tight (vars x ++ r) (variable 0 x ∷ ts)
  variable_first tight r x ts e a h = record {
    by = λ at. (let l = h.by (at + length (vars x)) in record {
      lexemes = lexeme Variable (vars x) at tight ∷ l.lexemes;
      tokens = first_token at tight Variable (vars x) r l.lexemes e l.tokens;
      spelt = at_variable x refl refl a l.spelt;
    });
  }

  gap_at : (tight : Bool) (bytes r : List ℕ) (n : ℕ) (ts : List Terminal) → front_of bytes ≡ Gap n → drop n bytes ≡ r → Lexes vars stopped false r ts → Lexes vars stopped tight bytes ts
  gap_at tight bytes r n ts e d h = record {
    by = λ at. (let l = h.by (at + n) in record {
      lexemes = l.lexemes;
      tokens = after_gap n e (subst (λ (w : List ℕ). HasTokens (at + n) false w l.lexemes) (sym d) l.tokens);
      spelt = l.spelt;
    });
  }

-- ---- characters of a text that begins with an ASCII one

pub ascii_utf8 : (c : ℕ) → c < 128 → IsUtf8 (c ∷ [])
ascii_utf8 c h = (c ∷ [], (and_from (scalar c) true (low_scalar c (omega arith)) refl, ap (λ (w : List ℕ). w ++ []) (encode_ascii c h)))

pub ascii_chars : (c : ℕ) → c < 128 → chars (c ∷ []) ≡ c ∷ []
ascii_chars c h = ap chars (sym (ap (λ (w : List ℕ). w ++ []) (encode_ascii c h))) ∙ chars-encodes (c ∷ []) (and_from (scalar c) true (low_scalar c (omega arith)) refl)

pub chars_ascii : (c : ℕ) (r : List ℕ) → c < 128 → chars (c ∷ r) ≡ c ∷ chars r
chars_ascii c r h = chars-append (c ∷ []) r (ascii_utf8 c h) ∙ ap (λ (w : List ℕ). w ++ chars r) (ascii_chars c h)

-- a token by the characters of its text
pub token_front : (k : Kind) (w r : List ℕ) (c : ℕ) (cs : List ℕ) → IsUtf8 w → chars w ≡ c ∷ cs → front_at c (cs ++ chars r) ≡ Token k (size (c ∷ cs)) → front_of (w ++ r) ≡ Token k (length w)
unfolding front_of
token_front k w r c cs u e h =
    let whole : chars (w ++ r) ≡ c ∷ (cs ++ chars r) = chars-append w r u ∙ ap (λ (l : List ℕ). l ++ chars r) e in
    let sized : size (c ∷ cs) ≡ length w = ap size (sym e) ∙ sizes (chars w) ∙ ap length (encodes-chars w u) in
    ap front_by whole ∙ h ∙ ap (λ (n : ℕ). Token k n) sized

pub ascii_front : (k : Kind) (c : ℕ) (r : List ℕ) → c < 128 → front_at c (chars r) ≡ Token k 1 → front_of (c ∷ r) ≡ Token k 1
unfolding front_of
ascii_front k c r l h = ap front_by (chars_ascii c r l) ∙ h

-- ---- spaces and marks

space_front : (r : List ℕ) → front_of (32 ∷ r) ≡ Gap 1
unfolding front_of
space_front r = ap front_by (chars_ascii 32 r (omega arith))

mark_front : (c : ℕ) (r : List ℕ) → c < 128 → ((cs : List ℕ) → front_at c cs ≡ Token Punct 1) → front_of (c ∷ r) ≡ Token Punct 1
mark_front c r l h = ascii_front Punct c r l (h (chars r))

at_open : (cs : List ℕ) → front_at 40 cs ≡ Token Punct 1
unfolding is_symbol is_punct begins_variable
at_open cs = rw (is_xid_start-ascii 40 (omega arith)) refl

at_close : (cs : List ℕ) → front_at 41 cs ≡ Token Punct 1
unfolding is_symbol is_punct begins_variable
at_close cs = rw (is_xid_start-ascii 41 (omega arith)) refl

at_list_open : (cs : List ℕ) → front_at 91 cs ≡ Token Punct 1
unfolding is_symbol is_punct begins_variable
at_list_open cs = rw (is_xid_start-ascii 91 (omega arith)) refl

at_list_close : (cs : List ℕ) → front_at 93 cs ≡ Token Punct 1
unfolding is_symbol is_punct begins_variable
at_list_close cs = rw (is_xid_start-ascii 93 (omega arith)) refl

at_curly_open : (cs : List ℕ) → front_at 123 cs ≡ Token Punct 1
unfolding is_symbol is_punct begins_variable
at_curly_open cs = rw (is_xid_start-ascii 123 (omega arith)) refl

at_curly_close : (cs : List ℕ) → front_at 125 cs ≡ Token Punct 1
unfolding is_symbol is_punct begins_variable
at_curly_close cs = rw (is_xid_start-ascii 125 (omega arith)) refl

at_comma : (cs : List ℕ) → front_at 44 cs ≡ Token Punct 1
unfolding is_symbol is_punct begins_variable
at_comma cs = rw (is_xid_start-ascii 44 (omega arith)) refl

at_bar : (cs : List ℕ) → front_at 124 cs ≡ Token Punct 1
unfolding is_symbol is_punct begins_variable
at_bar cs = rw (is_xid_start-ascii 124 (omega arith)) refl

pub at_exclamation : (cs : List ℕ) → front_at 33 cs ≡ Token Word 1
unfolding is_symbol is_punct begins_variable
at_exclamation cs = rw (is_xid_start-ascii 33 (omega arith)) refl

pub at_semicolon : (cs : List ℕ) → front_at 59 cs ≡ Token Word 1
unfolding is_symbol is_punct begins_variable
at_semicolon cs = rw (is_xid_start-ascii 59 (omega arith)) refl

module _ (vars : ℕ → List ℕ) (stopped : Bool) (tight : Bool) (r : List ℕ) (ts : List Terminal) where
  pub space : Lexes vars stopped false r ts → Lexes vars stopped tight (32 ∷ r) ts
  space h = gap_at vars stopped tight (32 ∷ r) r 1 ts (space_front r) refl h

  pub open_bracket : Lexes vars stopped true r ts → Lexes vars stopped tight (40 ∷ r) (opens 0 tight ∷ ts)
  open_bracket h = other_first vars stopped tight Punct (40 ∷ []) r (opens 0 tight) ts (mark_front 40 r (omega arith) at_open)
      (λ p. record { fits = λ v a n. like_open; keeps = λ n. refl; still = λ n l. refl }) h

  pub close_bracket : Lexes vars stopped true r ts → Lexes vars stopped tight (41 ∷ r) (closes ∷ ts)
  close_bracket h = other_first vars stopped tight Punct (41 ∷ []) r closes ts (mark_front 41 r (omega arith) at_close)
      (λ p. record { fits = λ v a n. like_close; keeps = λ n. refl; still = λ n l. refl }) h

  pub list_opens : Lexes vars stopped true r ts → Lexes vars stopped tight (91 ∷ r) (open_list 0 ∷ ts)
  list_opens h = other_first vars stopped tight Punct (91 ∷ []) r (open_list 0) ts (mark_front 91 r (omega arith) at_list_open)
      (λ p. record { fits = λ v a n. like_open_list; keeps = λ n. refl; still = λ n l. refl }) h

  pub list_closes : Lexes vars stopped true r ts → Lexes vars stopped tight (93 ∷ r) (close_list ∷ ts)
  list_closes h = other_first vars stopped tight Punct (93 ∷ []) r close_list ts (mark_front 93 r (omega arith) at_list_close)
      (λ p. record { fits = λ v a n. like_close_list; keeps = λ n. refl; still = λ n l. refl }) h

  pub curly_opens : Lexes vars stopped true r ts → Lexes vars stopped tight (123 ∷ r) (open_curly 0 ∷ ts)
  curly_opens h = other_first vars stopped tight Punct (123 ∷ []) r (open_curly 0) ts (mark_front 123 r (omega arith) at_curly_open)
      (λ p. record { fits = λ v a n. like_open_curly; keeps = λ n. refl; still = λ n l. refl }) h

  pub curly_closes : Lexes vars stopped true r ts → Lexes vars stopped tight (125 ∷ r) (close_curly ∷ ts)
  curly_closes h = other_first vars stopped tight Punct (125 ∷ []) r close_curly ts (mark_front 125 r (omega arith) at_curly_close)
      (λ p. record { fits = λ v a n. like_close_curly; keeps = λ n. refl; still = λ n l. refl }) h

  pub comma_first : Lexes vars stopped true r ts → Lexes vars stopped tight (44 ∷ r) (comma 0 ∷ ts)
  comma_first h = other_first vars stopped tight Punct (44 ∷ []) r (comma 0) ts (mark_front 44 r (omega arith) at_comma)
      (λ p. record { fits = λ v a n. like_comma; keeps = λ n. refl; still = λ n l. refl }) h

  pub bar_first : Lexes vars stopped true r ts → Lexes vars stopped tight (124 ∷ r) (bar ∷ ts)
  bar_first h = other_first vars stopped tight Punct (124 ∷ []) r bar ts (mark_front 124 r (omega arith) at_bar) (λ p. record { fits = λ v a n. like_bar; keeps = λ n. refl; still = λ n l. refl }) h

-- ---- words, names in quotes, integers

-- a word to the grammar
unfoldable pub word_token : Name → Terminal
word_token w = if is_operator w then operator_word 0 w else name 0 w

pub word_other : (w : Name) (p : ℕ) (tight : Bool) → Other (lexeme Word w p tight) (word_token w)
unfolding word_token
word_other w p tight = record { fits = λ v a n. go v a (is_operator w); keeps = λ n. refl; still = λ n l. refl }
  where
    go : (v : ℕ → List ℕ) (a : List Name) (b : Bool) → Alike v a (cond b (operator_word 0 w) (name 0 w)) (cond b (operator_word p w) (name p w))
    go v a true = like_word
    go v a false = like_name

pub quoted_other : (w a : Name) (p : ℕ) (tight : Bool) → unquoted w ≡ a → Other (lexeme Quoted w p tight) (name 0 a)
quoted_other w a p tight e = record { fits = λ v all n. subst (λ (x : Name). Alike v all (name 0 a) (name p x)) (sym e) like_name; keeps = λ n. refl; still = λ n l. refl }

pub integer_other : (w : List ℕ) (z : ℤ) (p : ℕ) (tight : Bool) → Other (lexeme (Integer z) w p tight) (integer 0 tight z)
integer_other w z p tight = record { fits = λ v a n. like_integer; keeps = λ n. refl; still = λ n l. refl }

-- What may follow a term.
pub record Follows (r : List ℕ) : Type 0 where
  pub ends : fronts.Ends (chars r)
  pub symbols : starts_with_symbol (chars r) ≡ starts_with_symbol r

pub follows_ascii : (c : ℕ) (r : List ℕ) → c < 128 → is_xid_continue c ≡ false → (c == 39) ≡ false → has_fraction (c ∷ chars r) ≡ false → Follows (c ∷ r)
follows_ascii c r l a b d = record {
  ends = subst fronts.Ends (sym (chars_ascii c r l)) (record { word = a; quote = b; fraction = d });
  symbols = ap starts_with_symbol (chars_ascii c r l);
}

module _ (r : List ℕ) where
  pub before_space : Follows (32 ∷ r)
  before_space = follows_ascii 32 r (omega arith) (is_xid_continue-ascii 32 (omega arith)) refl refl

  pub before_close : Follows (41 ∷ r)
  before_close = follows_ascii 41 r (omega arith) (is_xid_continue-ascii 41 (omega arith)) refl refl

  pub before_list_end : Follows (93 ∷ r)
  before_list_end = follows_ascii 93 r (omega arith) (is_xid_continue-ascii 93 (omega arith)) refl refl

  pub before_curly_end : Follows (125 ∷ r)
  before_curly_end = follows_ascii 125 r (omega arith) (is_xid_continue-ascii 125 (omega arith)) refl refl

  pub before_comma : Follows (44 ∷ r)
  before_comma = follows_ascii 44 r (omega arith) (is_xid_continue-ascii 44 (omega arith)) refl refl

  pub before_bar : Follows (124 ∷ r)
  before_bar = follows_ascii 124 r (omega arith) (is_xid_continue-ascii 124 (omega arith)) refl refl

  pub before_semicolon : Follows (59 ∷ r)
  before_semicolon = follows_ascii 59 r (omega arith) (is_xid_continue-ascii 59 (omega arith)) refl refl

  pub before_open : Follows (40 ∷ r)
  before_open = follows_ascii 40 r (omega arith) (is_xid_continue-ascii 40 (omega arith)) refl refl
