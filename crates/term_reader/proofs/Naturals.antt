-- The integers among the tokens of a text have no sign.
use Rattle.std.proofs.Common.{◌≡◌, ℕ, List, [], ◌∷◌, Bool, true, false, cond, refl, subst, ◌+◌}
use Rattle.std.specs.Prelude.{pos, nat_le, ◌==◌, ◌&&◌}
use Rattle.std.specs.Str.{chars}
use Rattle.std.specs.Char.{len_utf8}
use Rattle.std.proofs.lemmas.Bool.{leb-true}
use Rattle.fd_language.specs.Characters.{is_layout, is_symbol, is_solo, is_punct, begins_variable, not_newline, is_digit_of, starts_with, tail, run_size}
use Rattle.fd_language.specs.Characters.{past_run, digits_value}
use Rattle.fd_language.specs.Tokens.{Word, Variable, Integer, Punct, Stop, BadCharacter, FloatOut, StringOut, IntegerTooWide, base_at, has_base, has_fraction}
use Rattle.fd_language.specs.Tokens.{ends_stop, Lexeme, Front, Gap, Token, Offends, greatest_integer, number_front, based_front, decimal_front, integer_front}
use Rattle.fd_language.specs.Tokens.{comment_front, Inside, Between, AfterQuote, AfterBackslash, AfterDigits, Past, Broken, inside, quoted_end, quoted_front}
use Rattle.fd_language.specs.Tokens.{front_at, front_by, front_of}
use Rattle.char_tokens.specs.UnreadText.{Left}
use Rattle.char_tokens.specs.NextTokens.{IsNext}
use Rattle.term_reader.specs.GrammarTokens.{KindIsNatural, HasNatural}

abbrev FrontBy : Front → Type 0
FrontBy (Token k n) = KindIsNatural k
FrontBy _ = Unit {0}

record IsPlain (f : Front) : Type 0 where
  by : FrontBy f

either : (b : Bool) (x y : Front) → IsPlain x → IsPlain y → IsPlain (cond b x y)
either true x y h k = h
either false x y h k = k

number_plain : (v n : ℕ) → IsPlain (number_front v n)
number_plain v n = go (nat_le v greatest_integer) refl
  where
    go : (b : Bool) → nat_le v greatest_integer ≡ b → IsPlain (cond b (Token (Integer (pos v)) n) (Offends IntegerTooWide 0))
    go true e = record { by = record { value = v; is = refl; within = leb-true v greatest_integer e } }
    go false e = record { by = tt }

comment_plain : (n : ℕ) (cs : List ℕ) → IsPlain (comment_front n cs)
comment_plain n [] = record { by = tt }
comment_plain n (c ∷ cs) = either (c == 42 && starts_with 47 cs) (Gap (n + 2)) (comment_front (n + len_utf8 c) cs) (record { by = tt }) (comment_plain (n + len_utf8 c) cs)

quoted_end_plain : (place : Inside) (n : ℕ) → IsPlain (quoted_end place n)
quoted_end_plain Between n = record { by = tt }
quoted_end_plain AfterQuote n = record { by = tt }
quoted_end_plain (AfterBackslash from) n = record { by = tt }
quoted_end_plain (AfterDigits from k v) n = record { by = tt }
quoted_end_plain (Past m) n = record { by = tt }
quoted_end_plain (Broken cause m) n = record { by = tt }

quoted_plain : (place : Inside) (n : ℕ) (cs : List ℕ) → IsPlain (quoted_front place n cs)
quoted_plain place n [] = quoted_end_plain place n
quoted_plain place n (c ∷ cs) = quoted_plain (inside place n c) (n + len_utf8 c) cs

integer_plain : (c : ℕ) (cs : List ℕ) → IsPlain (integer_front c cs)
integer_plain c cs =
    either (c == 48 && has_base cs) (based_front cs) (decimal_front c cs) (number_plain (digits_value (base_at cs) 0 (tail cs)) (2 + run_size (is_digit_of (base_at cs)) (tail cs)))
    (either (has_fraction (past_run (is_digit_of 10) cs)) (Offends FloatOut 0) _ (record { by = tt })
    (either (c == 48 && starts_with 39 cs) (Offends BadCharacter 1) _ (record { by = tt })
    (number_plain (digits_value 10 0 (c ∷ cs)) (len_utf8 c + run_size (is_digit_of 10) cs))))

at_plain : (c : ℕ) (cs : List ℕ) → IsPlain (front_at c cs)
at_plain c cs =
    either (is_layout c) (Gap (len_utf8 c)) _ (record { by = tt })
    (either (c == 37) (Gap (len_utf8 c + run_size not_newline cs)) _ (record { by = tt })
    (either (is_digit_of 10 c) (integer_front c cs) _ (integer_plain c cs)
    (either (begins_variable c) (Token Variable _) _ (record { by = tt })
    (either _ (Token Word _) _ (record { by = tt })
    (either (c == 47 && starts_with 42 cs) (comment_front 2 (tail cs)) _ (comment_plain 2 (tail cs))
    (either (c == 46 && ends_stop cs) (Token Stop (len_utf8 c)) _ (record { by = tt })
    (either (is_symbol c) (Token Word (len_utf8 c + run_size is_symbol cs)) _ (record { by = tt })
    (either (is_solo c) (Token Word (len_utf8 c)) _ (record { by = tt })
    (either (is_punct c) (Token Punct (len_utf8 c)) _ (record { by = tt })
    (either (c == 39) (quoted_front Between 1 cs) _ (quoted_plain Between 1 cs)
    (either (c == 34) (Offends StringOut 0) (Offends BadCharacter 0) (record { by = tt }) (record { by = tt }))))))))))))

by_plain : (cs : List ℕ) → IsPlain (front_by cs)
by_plain [] = record { by = tt }
by_plain (c ∷ cs) = at_plain c cs

front_plain : (bytes : List ℕ) → IsPlain (front_of bytes)
unfolding front_of
front_plain bytes = by_plain (chars bytes)

-- the token that stands next
pub next_natural : (old new : Left) (l : Lexeme) → IsNext old new l → HasNatural l
next_natural old new l i = let p : IsPlain (Token l.kind i.size) = subst IsPlain i.front (front_plain i.rest) in p.by
