-- Atoms, the names of calls, integers and variables in a text are read as their tokens.
use Rattle.std.proofs.Common.{◌≡◌, ◌∙◌, ℕ, pos, ◌^◌, ◌<◌, ◌≤◌, inl, inr, List, [], ◌∷◌, ◌++◌, Bool, true, false, cond, refl, sym, ap, subst, arith, length}
use Rattle.std.specs.Prelude.{◌||◌, ◌&&◌, not, IsUtf8, codes, decimal}
use Rattle.std.specs.Char.{digit_value}
use Rattle.std.specs.Str.{bytes_eq, chars}
use Rattle.std.specs.Str.Parse.{AllDigits, digits_value_after, digits_value}
use Rattle.std.proofs.lemmas.Bool.{true≢false, and_parts, and_right, or_cases, or_left, or_right, not-true, lt-ltb}
use Rattle.std.proofs.lemmas.Fmt.{decimal_is_IsNumeral, IsAscii-decimal}
use Rattle.std.proofs.lemmas.Str.{chars-IsAscii, IsUtf8-from_ascii}
use Rattle.fd_language.specs.Term.{Name}
use Rattle.fd_language.specs.Characters.{is_symbol}
use Rattle.fd_language.specs.Operators.{infix_of, prefix_of, is_operator}
use Rattle.fd_language.specs.Tokens.{Word, Quoted, Variable, Integer, Token, greatest_integer, front_of}
use Rattle.fd_language.specs.Terminals.{Terminal, name, operator_word, variable, integer, open_list, close_list, open_curly, close_curly}
use Rattle.fd_language.specs.TermTexts as writing
use Rattle.fd_language.specs.TermTexts.{is_letter_word, is_symbol_word, is_bare, quoted_name, starts_with_symbol, ends_with_symbol, atom_text, functor_text}
use Rattle.term_writer.specs.SpelledTerms.{call_terminal, atom_tokens}
use Rattle.term_writer.specs.TextReadings.{IsVariable}
use Rattle.term_writer.proofs.QuotedNames.{name_of, token_of}
use Rattle.term_writer.proofs.Classes.{digit_is}
use Rattle.term_writer.proofs.Variables.{variable_parts}
use Rattle.term_writer.proofs.Fronts.{stops, variable_front, integer_front_is}
use Rattle.term_writer.proofs.TextTokens.{Lexes, other_first, variable_first, token_front, list_opens, list_closes, curly_opens, curly_closes, word_token}
use Rattle.term_writer.proofs.TextTokens.{word_other, quoted_other, integer_other, Follows, before_open, chars_ascii}
use Rattle.term_writer.proofs.BareWords.{IsWord, letters, symbols, exclamation, word_read, operator_word_is, symbols_read}
use Rattle.term_writer.proofs.Derivations.{text_is}

-- ---- names that stand bare

bare_word : (a : Name) → IsUtf8 a → is_bare a ≡ true → bytes_eq a (codes "[]") ≡ false → bytes_eq a (codes "{}") ≡ false → IsWord a × (is_operator a ≡ false)
unfolding is_operator infix_of prefix_of
bare_word a u h e k = elim (or_cases ((is_letter_word a || is_symbol_word a) && not (is_operator a)) (bytes_eq a (codes "[]") || (bytes_eq a (codes "{}") || bytes_eq a (codes "!"))) h) [
  | inl w ↦ (
      let p = and_parts (is_letter_word a || is_symbol_word a) (not (is_operator a)) w in
      (elim (or_cases (is_letter_word a) (is_symbol_word a) p.0) [ inl l ↦ letters u l | inr s ↦ symbols s ], not-true (is_operator a) p.1))
  | inr w ↦ elim (or_cases (bytes_eq a (codes "[]")) (bytes_eq a (codes "{}") || bytes_eq a (codes "!")) w) [
    | inl l ↦ absurd (true≢false (sym l ∙ e))
    | inr w2 ↦ elim (or_cases (bytes_eq a (codes "{}")) (bytes_eq a (codes "!")) w2) [
      | inl l ↦ absurd (true≢false (sym l ∙ k))
      | inr l ↦ subst (λ (x : Name). IsWord x × (is_operator x ≡ false)) (sym (text_is a (codes "!") l)) (exclamation, refl)
    ]
  ]
]

named_token : (w : Name) → is_operator w ≡ false → word_token w ≡ name 0 w
unfolding word_token
named_token w h = ap (λ (b : Bool). cond b (operator_word 0 w) (name 0 w)) h

pub operator_token : (w : Name) → is_operator w ≡ true → word_token w ≡ operator_word 0 w
unfolding word_token
operator_token w h = ap (λ (b : Bool). cond b (operator_word 0 w) (name 0 w)) h

minus_operator : is_operator (45 ∷ []) ≡ true
unfolding is_operator infix_of prefix_of
minus_operator = refl

minus_word : is_symbol_word (45 ∷ []) ≡ true
unfolding is_symbol
minus_word = refl

module _ (vars : ℕ → List ℕ) (stopped : Bool) (tight : Bool) where
  pub word_lexes : (w r : List ℕ) (ts : List Terminal) → IsWord w → Follows r → (ends_with_symbol w && starts_with_symbol r) ≡ false
      → Lexes vars stopped true r ts → Lexes vars stopped tight (w ++ r) (word_token w ∷ ts)
  word_lexes w r ts k f t h = other_first vars stopped tight Word w r (word_token w) ts (word_read r k f t) (λ p. word_other w p tight) h

  named_lexes : (w r : List ℕ) (ts : List Terminal) → IsWord w → is_operator w ≡ false → Follows r → (ends_with_symbol w && starts_with_symbol r) ≡ false
      → Lexes vars stopped true r ts → Lexes vars stopped tight (w ++ r) (name 0 w ∷ ts)
  named_lexes w r ts k o f t h = subst (λ (y : Terminal). Lexes vars stopped tight (w ++ r) (y ∷ ts)) (named_token w o) (word_lexes w r ts k f t h)

  quoted_lexes : (a : Name) (r : List ℕ) (ts : List Terminal) → IsUtf8 a → Follows r → Lexes vars stopped true r ts → Lexes vars stopped tight (quoted_name a ++ r) (name 0 a ∷ ts)
  quoted_lexes a r ts u f h = other_first vars stopped tight Quoted (quoted_name a) r (name 0 a) ts (token_of a r u f.ends.quote) (λ p. quoted_other (quoted_name a) a p tight (name_of a u)) h

  -- ---- atoms

  plain_atom : (a : Name) (r : List ℕ) (ts : List Terminal) → IsUtf8 a → bytes_eq a (codes "[]") ≡ false → bytes_eq a (codes "{}") ≡ false → Follows r
      → (ends_with_symbol (atom_text writing.Quoted a) && starts_with_symbol r) ≡ false → Lexes vars stopped true r ts → Lexes vars stopped tight (atom_text writing.Quoted a ++ r) (name 0 a ∷ ts)
  plain_atom a r ts u e k f t h = go (is_bare a) refl t
    where
      go : (b : Bool) → is_bare a ≡ b → (ends_with_symbol (cond b a (quoted_name a)) && starts_with_symbol r) ≡ false → Lexes vars stopped tight (cond b a (quoted_name a) ++ r) (name 0 a ∷ ts)
      go true l t = let w = bare_word a u l e k in named_lexes a r ts w.0 w.1 f t h
      go false l t = quoted_lexes a r ts u f h

  nil_atom : (a : Name) (r : List ℕ) (ts : List Terminal) → bytes_eq a (codes "[]") ≡ true → Lexes vars stopped true r ts
      → Lexes vars stopped tight (atom_text writing.Quoted a ++ r) (open_list 0 ∷ close_list ∷ ts)
  nil_atom a r ts e h =
      let bare : is_bare a ≡ true = or_right ((is_letter_word a || is_symbol_word a) && not (is_operator a))
      (bytes_eq a (codes "[]") || (bytes_eq a (codes "{}") || bytes_eq a (codes "!")))
      (or_left (bytes_eq a (codes "[]")) (bytes_eq a (codes "{}") || bytes_eq a (codes "!")) e) in
      let text : atom_text writing.Quoted a ≡ 91 ∷ 93 ∷ [] = ap (λ (b : Bool). cond b a (quoted_name a)) bare ∙ text_is a (codes "[]") e in
      subst (λ (w : List ℕ). Lexes vars stopped tight (w ++ r) (open_list 0 ∷ close_list ∷ ts)) (sym text)
      (list_opens vars stopped tight (93 ∷ r) (close_list ∷ ts) (list_closes vars stopped true r ts h))

  curly_atom : (a : Name) (r : List ℕ) (ts : List Terminal) → bytes_eq a (codes "{}") ≡ true → Lexes vars stopped true r ts
      → Lexes vars stopped tight (atom_text writing.Quoted a ++ r) (open_curly 0 ∷ close_curly ∷ ts)
  curly_atom a r ts e h =
      let bare : is_bare a ≡ true = or_right ((is_letter_word a || is_symbol_word a) && not (is_operator a)) (bytes_eq a (codes "[]") || (bytes_eq a (codes "{}") || bytes_eq a (codes "!")))
      (or_right (bytes_eq a (codes "[]")) (bytes_eq a (codes "{}") || bytes_eq a (codes "!")) (or_left (bytes_eq a (codes "{}")) (bytes_eq a (codes "!")) e)) in
      let text : atom_text writing.Quoted a ≡ 123 ∷ 125 ∷ [] = ap (λ (b : Bool). cond b a (quoted_name a)) bare ∙ text_is a (codes "{}") e in
      subst (λ (w : List ℕ). Lexes vars stopped tight (w ++ r) (open_curly 0 ∷ close_curly ∷ ts)) (sym text)
      (curly_opens vars stopped tight (125 ∷ r) (close_curly ∷ ts) (curly_closes vars stopped true r ts h))

  pub atom_lexes : (a : Name) (r : List ℕ) (ts : List Terminal) → IsUtf8 a → Follows r → (ends_with_symbol (atom_text writing.Quoted a) && starts_with_symbol r) ≡ false → Lexes vars stopped true r ts
      → Lexes vars stopped tight (atom_text writing.Quoted a ++ r) (atom_tokens a ts)
  atom_lexes a r ts u f t h = go (bytes_eq a (codes "[]")) refl (bytes_eq a (codes "{}")) refl
    where
      go : (b : Bool) → bytes_eq a (codes "[]") ≡ b → (d : Bool) → bytes_eq a (codes "{}") ≡ d
          → Lexes vars stopped tight (atom_text writing.Quoted a ++ r) (cond b (open_list 0 ∷ close_list ∷ ts) (cond d (open_curly 0 ∷ close_curly ∷ ts) (name 0 a ∷ ts)))
      go true e d k = nil_atom a r ts e h
      go false e true k = curly_atom a r ts k h
      go false e false k = plain_atom a r ts u e k f t h

  -- ---- the name of a call

  no_touch : (w r : List ℕ) → (ends_with_symbol w && starts_with_symbol (40 ∷ r)) ≡ false
  unfolding is_symbol
  no_touch w r = and_right (ends_with_symbol w) (starts_with_symbol (40 ∷ r)) refl

  pub functor_lexes : (f : Name) (r : List ℕ) (ts : List Terminal) → IsUtf8 f → bytes_eq f (codes "[]") ≡ false → bytes_eq f (codes "{}") ≡ false → Lexes vars stopped true (40 ∷ r) ts
      → Lexes vars stopped tight (functor_text writing.Quoted f ++ 40 ∷ r) (call_terminal f ∷ ts)
  unfolding call_terminal
  functor_lexes f r ts u e k h = go (is_operator f && not (bytes_eq f (codes ","))) refl (is_bare f) refl
    where
      go : (b : Bool) → (is_operator f && not (bytes_eq f (codes ","))) ≡ b → (d : Bool) → is_bare f ≡ d
          → Lexes vars stopped tight (cond (d || b) f (quoted_name f) ++ 40 ∷ r) (cond b (operator_word 0 f) (name 0 f) ∷ ts)
      go true g d l =
          let p = and_parts (is_operator f) (not (bytes_eq f (codes ","))) g in
          let w = word_lexes f (40 ∷ r) ts (operator_word_is f p.0 (not-true (bytes_eq f (codes ",")) p.1)) (before_open r) (no_touch f r) h in
          let bare : (d || true) ≡ true = or_right d true refl in
          subst (λ (b : Bool). Lexes vars stopped tight (cond b f (quoted_name f) ++ 40 ∷ r) (operator_word 0 f ∷ ts)) (sym bare)
          (subst (λ (y : Terminal). Lexes vars stopped tight (f ++ 40 ∷ r) (y ∷ ts)) (operator_token f p.0) w)
      go false g true l = let w = bare_word f u l e k in named_lexes f (40 ∷ r) ts w.0 w.1 (before_open r) (no_touch f r) h
      go false g false l = quoted_lexes f (40 ∷ r) ts u (before_open r) h

  -- ---- integers and variables

  decimal_from : (n : ℕ) (ds r : List ℕ) (ts : List Terminal) → decimal n ≡ ds → IsUtf8 ds → chars ds ≡ ds → 0 < length ds → AllDigits 10 ds
      → digits_value 10 ds ≡ n → n ≤ greatest_integer → Follows r → Lexes vars stopped true r ts
      → Lexes vars stopped tight (ds ++ r) (integer 0 tight (pos n) ∷ ts)
  decimal_from n [] r ts e u same some all value le f h = absurd (omega arith)
  decimal_from n (d ∷ ds) r ts e u same some all value le f h =
      let within : digits_value_after 10 0 (d ∷ ds) ≤ greatest_integer = subst (λ (v : ℕ). v ≤ greatest_integer) (sym value) le in
      let front = token_front (Integer (pos (digits_value_after 10 0 (d ∷ ds)))) (d ∷ ds) r d ds u same (integer_front_is d ds (chars r) all within f.ends) in
      let here : front_of ((d ∷ ds) ++ r) ≡ Token (Integer (pos n)) (length (d ∷ ds)) = subst (λ (v : ℕ). front_of ((d ∷ ds) ++ r) ≡ Token (Integer (pos v)) (length (d ∷ ds))) value front in
      other_first vars stopped tight (Integer (pos n)) (d ∷ ds) r (integer 0 tight (pos n)) ts here (λ p. integer_other (d ∷ ds) (pos n) p tight) h

  pub decimal_lexes : (n : ℕ) (r : List ℕ) (ts : List Terminal) → n ≤ greatest_integer → Follows r → Lexes vars stopped true r ts
      → Lexes vars stopped tight (decimal n ++ r) (integer 0 tight (pos n) ∷ ts)
  decimal_lexes n r ts le f h =
      let small : n < 2 ^ 64 = omega arith in
      let num = decimal_is_IsNumeral n small in
      let ascii = IsAscii-decimal n small in
      decimal_from n (decimal n) r ts refl (IsUtf8-from_ascii (decimal n) ascii) (chars-IsAscii (decimal n) ascii) num.0.0 num.0.1 num.1 le f h

digits_first : (ds : List ℕ) → AllDigits 10 ds → starts_with_symbol ds ≡ false
digits_first [] h = refl
digits_first (d ∷ ds) h = (digit_is d (lt-ltb (digit_value d) 10 h.0)).symbol

pub decimal_first : (n : ℕ) → n ≤ greatest_integer → starts_with_symbol (decimal n) ≡ false
decimal_first n le = digits_first (decimal n) (decimal_is_IsNumeral n (omega arith)).0.1

digit_stops : (ds r : List ℕ) → AllDigits 10 ds → 0 < length ds → chars ds ≡ ds → IsUtf8 ds → stops is_symbol (chars (ds ++ r))
digit_stops [] r h some e u = absurd (omega arith)
digit_stops (d ∷ ds) r h some e u =
    subst (stops is_symbol) (sym (chars_ascii d (ds ++ r) (digit_is d (lt-ltb (digit_value d) 10 h.0)).low)) (digit_is d (lt-ltb (digit_value d) 10 h.0)).symbol

module _ (vars : ℕ → List ℕ) (stopped : Bool) (tight : Bool) where
  pub negative_lexes : (n : ℕ) (r : List ℕ) (ts : List Terminal) → n ≤ greatest_integer → Follows r → Lexes vars stopped true r ts
      → Lexes vars stopped tight (45 ∷ (decimal n ++ r)) (operator_word 0 (codes "-") ∷ integer 0 true (pos n) ∷ ts)
  negative_lexes n r ts le f h =
      let small : n < 2 ^ 64 = omega arith in
      let num = decimal_is_IsNumeral n small in
      let ascii = IsAscii-decimal n small in
      let stop = digit_stops (decimal n) r num.0.1 num.0.0 (chars-IsAscii (decimal n) ascii) (IsUtf8-from_ascii (decimal n) ascii) in
      subst (λ (y : Terminal). Lexes vars stopped tight (45 ∷ (decimal n ++ r)) (y ∷ integer 0 true (pos n) ∷ ts)) (operator_token (45 ∷ []) minus_operator)
      (other_first vars stopped tight Word (45 ∷ []) (decimal n ++ r) (word_token (45 ∷ [])) (integer 0 true (pos n) ∷ ts)
      (symbols_read (45 ∷ []) (decimal n ++ r) minus_word stop) (λ p. word_other (45 ∷ []) p tight)
      (decimal_lexes vars stopped true n r ts le f h))

  pub variable_lexes : (x : ℕ) (r : List ℕ) (ts : List Terminal) → IsVariable (vars x) → Follows r → Lexes vars stopped true r ts → Lexes vars stopped tight (vars x ++ r) (variable 0 x ∷ ts)
  variable_lexes x r ts v f h =
      let p = variable_parts (vars x) v in
      variable_first vars stopped tight r x ts (token_front Variable (vars x) r p.first p.others v.utf8 p.split (variable_front p.first p.others (chars r) p.begins p.continues f.ends.word)) v.named h
