-- Quoted atoms. What stands between the quotes, piece by piece, and what it spells.
use Rattle.std.specs.Prelude.{◌≡◌, ℕ, ◌+◌, ◌*◌, ◌≤◌, List, [], ◌∷◌, ◌++◌, Bool, true, false, ◌==◌, ◌||◌, ◌&&◌, not, ◌↔◌, take, length}
use Rattle.std.specs.Char.{digit_value}
use Rattle.std.specs.Str.{chars, IsUtf8, encode_utf8_all}
use lib.Utf8.{scalar}
use Rattle.fd_language.specs.Characters.{is_digit_of, starts_with}
use Rattle.fd_language.specs.Tokens.{Quoted, Token, is_escape, escaped, front_of, unquoted}

-- a character that stands for itself: no quote, no backslash, no newline
abbrev pub is_itself : ℕ → Bool
is_itself c = not (c == 39 || (c == 92 || c == 10))

abbrev pub are_hexadecimal : List ℕ → Bool
are_hexadecimal [] = true
are_hexadecimal (d ∷ ds) = is_digit_of 16 d && are_hexadecimal ds

-- the number that hexadecimal digits spell, behind others that spell v
abbrev pub hexadecimal : ℕ → List ℕ → ℕ
hexadecimal v [] = v
hexadecimal v (d ∷ ds) = hexadecimal (v * 16 + digit_value d) ds

-- SpelledBy cs vs: between two quotes, the characters cs spell the characters vs
pub data SpelledBy : List ℕ → List ℕ → Type 0 where
  nothing : SpelledBy [] []
  itself : {cs vs : List ℕ} (c : ℕ) → is_itself c ≡ true → SpelledBy cs vs → SpelledBy (c ∷ cs) (c ∷ vs)
  -- ''
  doubled : {cs vs : List ℕ} → SpelledBy cs vs → SpelledBy (39 ∷ 39 ∷ cs) (39 ∷ vs)
  -- \ and one of \ ' " n t r
  escape : {cs vs : List ℕ} (c : ℕ) → is_escape c ≡ true → SpelledBy cs vs → SpelledBy (92 ∷ c ∷ cs) (escaped c ∷ vs)
  -- \x, one to six hexadecimal digits that name a character, and \
  numbered : {cs vs : List ℕ} (ds : List ℕ) → are_hexadecimal ds ≡ true → 1 ≤ length ds → length ds ≤ 6 → scalar (hexadecimal 0 ds) ≡ true → SpelledBy cs vs
      → SpelledBy (92 ∷ 120 ∷ (ds ++ 92 ∷ cs)) (hexadecimal 0 ds ∷ vs)

-- The text begins with a quoted atom of n bytes: a quote, what spells vs, and a quote that no other one follows.
pub record BeginsQuoted (text : List ℕ) (n : ℕ) : Type 0 where
  pub inner : List ℕ
  pub spelled : List ℕ
  pub rest : List ℕ
  pub split : chars text ≡ 39 ∷ (inner ++ 39 ∷ rest)
  pub by : SpelledBy inner spelled
  pub alone : starts_with 39 rest ≡ false
  pub size : n ≡ length (encode_utf8_all (39 ∷ (inner ++ 39 ∷ [])))
  pub value : unquoted (take n text) ≡ encode_utf8_all spelled

-- A quoted atom stands at the front exactly where a text begins with one, and it spells what its pieces spell.
abbrev pub QuotedAtoms : Type 0
QuotedAtoms = (text : List ℕ) (n : ℕ) → IsUtf8 text → (front_of text ≡ Token Quoted n) ↔ BeginsQuoted text n
