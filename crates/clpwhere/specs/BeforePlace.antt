-- What is read of a text before a place, and at it, by its tokens.
use Rattle.std.specs.Prelude.{◌≡◌, ◌≤◌, ◌==◌, ◌||◌, ℕ, zero, suc, ◌+◌, Bool, List, [], ◌∷◌, length, take, drop, nat_lt, codes, if◌then◌else◌}
use Rattle.std.specs.Option.{option_map_or}
use Rattle.std.specs.Str.{bytes_eq, is_utf8, IsUtf8}
use Rattle.fd_language.specs.Tokens.{Kind, Word, Quoted, Variable, Integer, Punct, Stop, Cause, Lexeme, Front, Ends, Gap, Token, Offends, front_of, TokensOf, FaultOf}
use Rattle.clpwhere.specs.declared.before_place.Before.{Before}
use Rattle.clpwhere.specs.declared.before_place.Before.TheVariants.{WholeTerm, NoTerm, Unclear, Foreign, End}
use Rattle.clpwhere.specs.declared.before_place.Passed.{Passed}
use Rattle.clpwhere.specs.ForeignWords.{foreign_word}

-- ) ] }
abbrev pub is_closing : List ℕ → Bool
is_closing text = bytes_eq text (codes ")") || (bytes_eq text (codes "]") || bytes_eq text (codes "}"))

-- the word of another system, where the token's text is one, and else what was read before
abbrev pub or_foreign : List ℕ → Before → Before
or_foreign text before = option_map_or Foreign (foreign_word text) before

-- What is read where this token is the last one: a variable, a number, a quoted name and a closing bracket end a whole term. Behind an opening bracket, a comma,
-- a bar and a full stop no term has begun. A name without quotes is an operator or a whole term, which the token alone doesn't tell; or it is a word of another system.
abbrev pub behind_token : Kind → List ℕ → Before
behind_token Word text = or_foreign text Unclear
behind_token Quoted text = WholeTerm
behind_token Variable text = WholeTerm
behind_token (Integer n) text = WholeTerm
behind_token Punct text = if is_closing text then WholeTerm else NoTerm
behind_token Stop text = NoTerm

-- what is read of the tokens before a place, where this one is the last of them, and where it ends; before the first token no term has begun
abbrev pub read_token : Kind → List ℕ → ℕ → Passed
read_token k text at = record { before = behind_token k text; end = at + length text }

abbrev pub none_passed : Passed
none_passed = record { before = NoTerm; end = 0 }

-- what is read at the place where the next token stands there, and where the text ends there; for any other place it is unclear
abbrev pub at_token : ℕ → ℕ → List ℕ → Passed → Before
at_token place at text last = if at == place then or_foreign text last.before else Unclear

abbrev pub at_end : ℕ → ℕ → Passed → Before
at_end place size last = if size == place then End last.end else Unclear

-- ---- by the tokens of a text

-- At the place, in a text of so many bytes: the place is that of one of these tokens, or of the text's end, and last is what is read of the tokens before them.
abbrev pub before_among : ℕ → ℕ → Passed → List Lexeme → Before
before_among place size last [] = at_end place size last
before_among place size last (t ∷ ts) =
    if nat_lt t.place place then before_among place size (read_token t.kind t.text t.place) ts else at_token place t.place t.text last

-- ---- by its bytes, read from left to right up to the place

-- by what stands at the front of the bytes, which begin at the place at; onward reads the bytes behind it
abbrev pub by_front : ℕ → ℕ → Front → Passed → ℕ → List ℕ → (Passed → ℕ → List ℕ → Before) → Before
by_front place size Ends last at bytes onward = at_end place size last
by_front place size (Gap n) last at bytes onward = onward last (at + n) (drop n bytes)
by_front place size (Token k n) last at bytes onward =
    if nat_lt at place then onward (read_token k (take n bytes) at) (at + n) (drop n bytes) else at_token place at (take n bytes) last
by_front place size (Offends cause n) last at bytes onward = Unclear

-- in so many steps, of which each passes layout, a comment or a token
abbrev pub read_on : ℕ → ℕ → ℕ → Passed → ℕ → List ℕ → Before
read_on place size zero last at bytes = Unclear
read_on place size (suc steps) last at bytes = by_front place size (front_of bytes) last at bytes (read_on place size steps)

-- each step passes a byte at least
unfoldable pub read_in : List ℕ → ℕ → Before
read_in text place = read_on place (length text) (suc (length text)) none_passed 0 text

-- What is read at the place. It is unclear at a place where no token begins and the text doesn't end, behind a fault of the tokens, and in bytes that
-- aren't UTF-8.
unfoldable pub read_before : List ℕ → ℕ → Before
read_before text place = if is_utf8 text then read_in text place else Unclear

-- ---- the law of the two

-- In a text that has tokens it is what they tell, and from the first fault of a text on it is unclear.
pub record IsReadByTokens : Type 0 where
  pub tokens : (text : List ℕ) (ts : List Lexeme) (place : ℕ) → IsUtf8 text → TokensOf text ts → read_before text place ≡ before_among place (length text) none_passed ts
  pub fault : (text : List ℕ) (cause : Cause) (at place : ℕ) → FaultOf text cause at → at ≤ place → read_before text place ≡ Unclear
