-- The text of a variable by its characters.
use Rattle.std.proofs.Common.{◌≡◌, ◌∙◌, ℕ, pos, ◌+◌, List, [], ◌∷◌, Bool, true, false, cond, refl, sym, ap, arith, length}
use Rattle.std.specs.Prelude.{◌==◌, ◌&&◌, nat_le}
use Rattle.std.specs.Char.{len_utf8}
use Rattle.std.specs.List.{list_all}
use Rattle.std.specs.Str.{chars}
use Rattle.std.proofs.lemmas.Str.{encodes-chars, len_utf8_bounds}
use Rattle.unicode_ident.specs.Ident.{is_xid_start, is_xid_continue}
use Rattle.fd_language.specs.Characters.{is_layout, is_symbol, is_solo, is_punct, begins_variable, not_newline, is_digit_of, starts_with, tail, run_size}
use Rattle.fd_language.specs.Characters.{past_run, digits_value}
use Rattle.fd_language.specs.Tokens.{BadCharacter, StringOut, FloatOut, IntegerTooWide, Front, Gap, Token, Offends, Word, Variable, Integer, Punct, Stop}
use Rattle.fd_language.specs.Tokens.{greatest_integer, number_front, has_base, base_at, has_fraction, based_front, decimal_front, integer_front, comment_front}
use Rattle.fd_language.specs.Tokens.{Inside, Between, AfterQuote, AfterBackslash, AfterDigits, Past, Broken, inside, quoted_end, quoted_front, ends_stop}
use Rattle.fd_language.specs.Tokens.{front_of, front_by, front_at}
use Rattle.term_writer.specs.TextReadings.{IsVariable}
use Rattle.term_writer.proofs.QuotedNames.{sizes}
use Rattle.fd_language.proofs.Lemmas.{size}

number_no : (v m n : ℕ) → number_front v m ≡ Token Variable n → ⊥
number_no v m n = go (nat_le v greatest_integer)
  where
    go : (b : Bool) → cond b (Token (Integer (pos v)) m) (Offends IntegerTooWide 0) ≡ Token Variable n → ⊥
    go true e = cc
    go false e = cc

decimal_no : (c n : ℕ) (cs : List ℕ) → decimal_front c cs ≡ Token Variable n → ⊥
decimal_no c n cs = go (has_fraction (past_run (is_digit_of 10) cs)) (c == 48 && starts_with 39 cs)
  where
    go : (a b : Bool) → cond a (Offends FloatOut 0) (cond b (Offends BadCharacter 1) (number_front (digits_value 10 0 (c ∷ cs)) (len_utf8 c + run_size (is_digit_of 10) cs))) ≡ Token Variable n → ⊥
    go true b e = cc
    go false true e = cc
    go false false e = number_no (digits_value 10 0 (c ∷ cs)) (len_utf8 c + run_size (is_digit_of 10) cs) n e

integer_no : (c n : ℕ) (cs : List ℕ) → integer_front c cs ≡ Token Variable n → ⊥
integer_no c n cs = go (c == 48 && has_base cs)
  where
    go : (b : Bool) → cond b (based_front cs) (decimal_front c cs) ≡ Token Variable n → ⊥
    go true e = number_no (digits_value (base_at cs) 0 (tail cs)) (2 + run_size (is_digit_of (base_at cs)) (tail cs)) n e
    go false e = decimal_no c n cs e

comment_no : (m n : ℕ) (cs : List ℕ) → comment_front m cs ≡ Token Variable n → ⊥
comment_no m n [] e = cc
comment_no m n (c ∷ cs) e = go (c == 42 && starts_with 47 cs) e (λ k. comment_no (m + len_utf8 c) n cs k)
  where
    go : (b : Bool) → cond b (Gap (m + 2)) (comment_front (m + len_utf8 c) cs) ≡ Token Variable n → (comment_front (m + len_utf8 c) cs ≡ Token Variable n → ⊥) → ⊥
    go true e later = cc
    go false e later = later e

end_no : (place : Inside) (m n : ℕ) → quoted_end place m ≡ Token Variable n → ⊥
end_no Between m n e = cc
end_no AfterQuote m n e = cc
end_no (AfterBackslash from) m n e = cc
end_no (AfterDigits from k v) m n e = cc
end_no (Past p) m n e = cc
end_no (Broken cause p) m n e = cc

quoted_no : (place : Inside) (m n : ℕ) (cs : List ℕ) → quoted_front place m cs ≡ Token Variable n → ⊥
quoted_no place m n [] e = end_no place m n e
quoted_no place m n (c ∷ cs) e = quoted_no (inside place m c) (m + len_utf8 c) n cs e

-- the fronts behind that of a variable
others_no : (c n : ℕ) (cs : List ℕ) (a b d e f g h i : Bool)
    → cond a (Token Word (len_utf8 c + run_size is_xid_continue cs))
    (cond b (comment_front 2 (tail cs))
    (cond d (Token Stop (len_utf8 c))
    (cond e (Token Word (len_utf8 c + run_size is_symbol cs))
    (cond f (Token Word (len_utf8 c)) (cond g (Token Punct (len_utf8 c)) (cond h (quoted_front Between 1 cs) (cond i (Offends StringOut 0) (Offends BadCharacter 0))))))))
    ≡ Token Variable n → ⊥
others_no c n cs true b d e f g h i k = cc
others_no c n cs false true d e f g h i k = comment_no 2 n (tail cs) k
others_no c n cs false false true e f g h i k = cc
others_no c n cs false false false true f g h i k = cc
others_no c n cs false false false false true g h i k = cc
others_no c n cs false false false false false true h i k = cc
others_no c n cs false false false false false false true i k = quoted_no Between 1 n cs k
others_no c n cs false false false false false false false true k = cc
others_no c n cs false false false false false false false false k = cc

picked : (v n g h : ℕ) (number others : Front) → (number ≡ Token Variable n → ⊥) → (others ≡ Token Variable n → ⊥) → (a b d e : Bool)
    → cond a (Gap g) (cond b (Gap h) (cond d number (cond e (Token Variable v) others))) ≡ Token Variable n → (e ≡ true) × (v ≡ n)
picked v n g h number others x y true b d e k = absurd cc
picked v n g h number others x y false true d e k = absurd cc
picked v n g h number others x y false false true e k = absurd (x k)
picked v n g h number others x y false false false true k = (refl, cc)
picked v n g h number others x y false false false false k = absurd (y k)

variable_front : (c n : ℕ) (cs : List ℕ) → front_at c cs ≡ Token Variable n → (begins_variable c ≡ true) × (len_utf8 c + run_size is_xid_continue cs ≡ n)
variable_front c n cs =
    picked (len_utf8 c + run_size is_xid_continue cs) n (len_utf8 c) (len_utf8 c + run_size not_newline cs) (integer_front c cs) _ (integer_no c n cs)
    (others_no c n cs (is_xid_start c) (c == 47 && starts_with 42 cs) (c == 46 && ends_stop cs) (is_symbol c) (is_solo c) (is_punct c) (c == 39) (c == 34))
    (is_layout c) (c == 37) (is_digit_of 10 c) (begins_variable c)

whole_run : (p : ℕ → Bool) (cs : List ℕ) → run_size p cs ≡ size cs → list_all p cs ≡ true
whole_run p [] e = refl
whole_run p (c ∷ cs) e = go (p c) refl e (λ k. whole_run p cs k)
  where
    go : (b : Bool) → p c ≡ b → cond b (len_utf8 c + run_size p cs) 0 ≡ len_utf8 c + size cs → (run_size p cs ≡ size cs → list_all p cs ≡ true) → (b && list_all p cs) ≡ true
    go true h k later = later (omega arith)
    go false h k later = absurd (omega (arith, (len_utf8_bounds c).0))

-- what a variable's text begins with and goes on with
pub record Parts (v : List ℕ) : Type 0 where
  pub first : ℕ
  pub others : List ℕ
  pub split : chars v ≡ first ∷ others
  pub begins : begins_variable first ≡ true
  pub continues : list_all is_xid_continue others ≡ true

pub variable_parts : (v : List ℕ) → IsVariable v → Parts v
unfolding front_of
variable_parts v h = go (chars v) refl h.token
  where
    go : (cs : List ℕ) → chars v ≡ cs → front_by cs ≡ Token Variable (length v) → Parts v
    go [] e t = absurd cc
    go (c ∷ cs) e t =
        let p = variable_front c (length v) cs t in
        let whole : size (c ∷ cs) ≡ length v = ap size (sym e) ∙ sizes (chars v) ∙ ap length (encodes-chars v h.utf8) in
        record { first = c; others = cs; split = e; begins = p.0; continues = whole_run is_xid_continue cs (omega arith) }
