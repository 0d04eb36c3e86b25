-- Words of letters, of symbols and of one character, and the operators among them: each is read as its token.
use Rattle.std.proofs.Common.{◌≡◌, ◌∙◌, ℕ, ◌<◌, ◌⊎◌, inl, inr, List, [], ◌∷◌, ◌++◌, Bool, true, false, cond, Option, Some, None, refl, sym, ap, subst, arith}
use Rattle.std.proofs.Common.{length}
use Rattle.std.specs.Prelude.{◌==◌, ◌||◌, ◌&&◌, not, find, is_some, IsUtf8, codes}
use Rattle.std.specs.Char.{is_ascii_uppercase}
use Rattle.std.specs.List.{list_all}
use Rattle.std.specs.Str.{bytes_eq, chars}
use Rattle.std.proofs.lemmas.Bool.{true≢false, and_parts, and_left, and_right, or_cases, or_parts, or_from, not-true, eqb-true, false_from_ne_true}
use Rattle.std.proofs.lemmas.Str.{chars-nil, IsUtf8-nil, IsUtf8-append}
use Rattle.std.proofs.lemmas.Slice.Eq.{bytes_eq-Decides}
use Rattle.unicode_ident.specs.Ident.{is_xid_start, is_xid_continue}
use Rattle.unicode_ident.proofs.IdentLemmas.{is_xid_start-ascii, is_xid_continue-ascii}
use Rattle.fd_language.specs.Term.{Name}
use Rattle.fd_language.specs.Characters.{is_symbol, is_layout, starts_with, starts_with_digit_of}
use Rattle.fd_language.specs.Operators.{Operator, infix_operators, prefix_operators, infix_of, prefix_of, is_operator}
use Rattle.fd_language.specs.Tokens.{Word, Token, ends_stop, front_of}
use Rattle.fd_language.specs.TermTexts as writing
use Rattle.fd_language.specs.TermTexts.{is_letter_word_of, is_letter_word, is_comment_start, is_symbol_word, starts_with_symbol, ends_with_symbol}
use Rattle.term_writer.proofs.Derivations.{infix_stands, row_named, text_is}
use Rattle.term_writer.proofs.Classes.{symbol_is, symbol_low}
use Rattle.term_writer.proofs.Fronts.{stops, letters_front, symbols_front}
use Rattle.term_writer.proofs.TextTokens.{chars_ascii, ascii_utf8, token_front, ascii_front, at_exclamation, at_semicolon, Follows, follows_ascii}
use Rattle.term_writer.proofs.TextTokens.{before_semicolon}

-- ---- words of letters

letters_read : (w r : List ℕ) → IsUtf8 w → is_letter_word w ≡ true → stops is_xid_continue (chars r) → front_of (w ++ r) ≡ Token Word (length w)
letters_read w r u h k = go (chars w) refl h
  where
    go : (cs : List ℕ) → chars w ≡ cs → is_letter_word_of cs ≡ true → front_of (w ++ r) ≡ Token Word (length w)
    go [] e t = absurd (true≢false (sym t))
    go (c ∷ cs) e t =
        let a = and_parts (is_xid_start c && not (is_ascii_uppercase c)) (list_all is_xid_continue cs) t in
        let b = and_parts (is_xid_start c) (not (is_ascii_uppercase c)) a.0 in
        token_front Word w r c cs u e (letters_front c cs (chars r) b.0 (not-true (is_ascii_uppercase c) b.1) a.1 k)

-- ---- words of symbols

symbols_low : (w : List ℕ) → list_all is_symbol w ≡ true → (chars w ≡ w) × IsUtf8 w
symbols_low [] h = (chars-nil, IsUtf8-nil)
symbols_low (c ∷ cs) h =
    let parts = and_parts (is_symbol c) (list_all is_symbol cs) h in
    let low = symbol_low c parts.0 in
    let rest = symbols_low cs parts.1 in
    (chars_ascii c cs low ∙ ap (λ (w : List ℕ). c ∷ w) rest.0, IsUtf8-append (c ∷ []) cs (ascii_utf8 c low) rest.1)

pub record Symbols (w : List ℕ) : Type 0 where
  pub all : list_all is_symbol w ≡ true
  pub dot : bytes_eq w (codes ".") ≡ false
  pub comment : is_comment_start w ≡ false

symbols_parts : (w : List ℕ) → is_symbol_word w ≡ true → Symbols w
symbols_parts w h =
    let a = and_parts (not (writing.is_empty_name w)) (list_all is_symbol w && not (bytes_eq w (codes ".") || is_comment_start w)) h in
    let b = and_parts (list_all is_symbol w) (not (bytes_eq w (codes ".") || is_comment_start w)) a.1 in
    let d = or_parts (bytes_eq w (codes ".")) (is_comment_start w) (not-true (bytes_eq w (codes ".") || is_comment_start w) b.1) in
    record { all = b.0; dot = d.0; comment = d.1 }

no_dot : (c : ℕ) → bytes_eq (c ∷ []) (codes ".") ≡ false → (c == 46) ≡ false
no_dot c h = false_from_ne_true (c == 46) (λ e. true≢false (sym (ap (λ (d : ℕ). bytes_eq (d ∷ []) (codes ".")) (eqb-true c 46 e)) ∙ h))

star : is_symbol 42 ≡ true
unfolding is_symbol
star = refl

no_star : (ds : List ℕ) → stops is_symbol ds → starts_with 42 ds ≡ false
no_star [] h = refl
no_star (d ∷ ds) h = false_from_ne_true (d == 42) (λ e. true≢false (sym star ∙ ap is_symbol (sym (eqb-true d 42 e)) ∙ h))

pub symbols_read : (w r : List ℕ) → is_symbol_word w ≡ true → stops is_symbol (chars r) → front_of (w ++ r) ≡ Token Word (length w)
symbols_read [] r h k = absurd (true≢false (sym h))
symbols_read (c ∷ []) r h k =
    let s = symbols_parts (c ∷ []) h in
    let low = symbols_low (c ∷ []) s.all in
    token_front Word (c ∷ []) r c [] low.1 low.0
    (symbols_front c [] (chars r) (and_parts (is_symbol c) true s.all).0 refl k (and_right (c == 47) (starts_with 42 (chars r)) (no_star (chars r) k))
    (and_left (c == 46) (ends_stop (chars r)) (no_dot c s.dot)))
symbols_read (c ∷ d ∷ cs) r h k =
    let s = symbols_parts (c ∷ d ∷ cs) h in
    let low = symbols_low (c ∷ d ∷ cs) s.all in
    let a = and_parts (is_symbol c) (list_all is_symbol (d ∷ cs)) s.all in
    let second = symbol_is d (and_parts (is_symbol d) (list_all is_symbol cs) a.1).0 in
    token_front Word (c ∷ d ∷ cs) r c (d ∷ cs) low.1 low.0
    (symbols_front c (d ∷ cs) (chars r) a.0 a.1 k s.comment (and_right (c == 46) (is_layout d || (d == 37)) (or_from (is_layout d) (d == 37) second.plain.layout second.plain.percent)))

symbols_end : (w : List ℕ) → writing.is_empty_name w ≡ false → list_all is_symbol w ≡ true → ends_with_symbol w ≡ true
symbols_end [] e h = absurd (true≢false e)
symbols_end (c ∷ []) e h = (and_parts (is_symbol c) true h).0
symbols_end (c ∷ d ∷ cs) e h = symbols_end (d ∷ cs) refl (and_parts (is_symbol c) (list_all is_symbol (d ∷ cs)) h).1

pub symbol_stops : (ds : List ℕ) → starts_with_symbol ds ≡ false → stops is_symbol ds
symbol_stops [] h = tt
symbol_stops (d ∷ ds) h = h

-- what begins with a word of symbols may follow a term
pub symbols_follow : (w r : List ℕ) → is_symbol_word w ≡ true → Follows (w ++ r)
symbols_follow [] r h = absurd (true≢false (sym h))
symbols_follow (c ∷ []) r h =
    let s = symbols_parts (c ∷ []) h in
    let l = symbol_is c (and_parts (is_symbol c) true s.all).0 in
    follows_ascii c r l.low l.word l.quote (and_left (c == 46) (starts_with_digit_of 10 (chars r)) (no_dot c s.dot))
symbols_follow (c ∷ d ∷ cs) r h =
    let s = symbols_parts (c ∷ d ∷ cs) h in
    let a = and_parts (is_symbol c) (list_all is_symbol (d ∷ cs)) s.all in
    let l = symbol_is c a.0 in
    let second = symbol_is d (and_parts (is_symbol d) (list_all is_symbol cs) a.1).0 in
    follows_ascii c (d ∷ (cs ++ r)) l.low l.word l.quote
    (and_right (c == 46) (starts_with_digit_of 10 (chars (d ∷ (cs ++ r)))) (ap (starts_with_digit_of 10) (chars_ascii d (cs ++ r) second.low) ∙ second.plain.digit))

-- ---- words

pub data IsWord : Name → Type 0 where
  letters : {w : Name} → IsUtf8 w → is_letter_word w ≡ true → IsWord w
  symbols : {w : Name} → is_symbol_word w ≡ true → IsWord w
  exclamation : IsWord (33 ∷ [])
  semicolon : IsWord (59 ∷ [])

signs_read : (w r : List ℕ) → is_symbol_word w ≡ true → starts_with_symbol (chars r) ≡ starts_with_symbol r
    → (ends_with_symbol w && starts_with_symbol r) ≡ false → front_of (w ++ r) ≡ Token Word (length w)
signs_read w r h f k =
    let some = and_parts (not (writing.is_empty_name w)) (list_all is_symbol w && not (bytes_eq w (codes ".") || is_comment_start w)) h in
    let ends : ends_with_symbol w ≡ true = symbols_end w (not-true (writing.is_empty_name w) some.0) (symbols_parts w h).all in
    let none : starts_with_symbol r ≡ false = ap (λ (b : Bool). b && starts_with_symbol r) (sym ends) ∙ k in
    symbols_read w r h (symbol_stops (chars r) (f ∙ none))

-- a word of no letters
pub sign_read : {w : Name} (r : List ℕ) → IsWord w → is_letter_word w ≡ false → starts_with_symbol (chars r) ≡ starts_with_symbol r → (ends_with_symbol w && starts_with_symbol r) ≡ false
    → front_of (w ++ r) ≡ Token Word (length w)
sign_read r (letters u h) n f k = absurd (true≢false (sym h ∙ n))
sign_read {w = w} r (symbols h) n f k = signs_read w r h f k
sign_read r exclamation n f k = ascii_front Word 33 r (omega arith) (at_exclamation (chars r))
sign_read r semicolon n f k = ascii_front Word 59 r (omega arith) (at_semicolon (chars r))

pub sign_follows : {w : Name} (r : List ℕ) → IsWord w → is_letter_word w ≡ false → Follows (w ++ r)
sign_follows r (letters u h) n = absurd (true≢false (sym h ∙ n))
sign_follows {w = w} r (symbols h) n = symbols_follow w r h
sign_follows r exclamation n = follows_ascii 33 r (omega arith) (is_xid_continue-ascii 33 (omega arith)) refl refl
sign_follows r semicolon n = before_semicolon r

pub word_read : {w : Name} (r : List ℕ) → IsWord w → Follows r → (ends_with_symbol w && starts_with_symbol r) ≡ false → front_of (w ++ r) ≡ Token Word (length w)
word_read {w = w} r (letters u h) f k = letters_read w r u h f.ends.word
word_read {w = w} r (symbols h) f k = signs_read w r h f.symbols k
word_read r exclamation f k = ascii_front Word 33 r (omega arith) (at_exclamation (chars r))
word_read r semicolon f k = ascii_front Word 59 r (omega arith) (at_semicolon (chars r))

-- ---- operators

pub found_in : (p : Operator → Bool) (rows : List Operator) (q : Operator → Bool) (f : Operator) → list_all p rows ≡ true → find q rows ≡ Some f → p f ≡ true
found_in p [] q f all e = absurd cc
found_in p (g ∷ gs) q f all e = go (q g) e (and_parts (p g) (list_all p gs) all).0 (λ e2. found_in p gs q f (and_parts (p g) (list_all p gs) all).1 e2)
  where
    go : (b : Bool) → cond b (Some g) (find q gs) ≡ Some f → p g ≡ true → (find q gs ≡ Some f → p f ≡ true) → p f ≡ true
    go true e2 here later = let same : g ≡ f = cc in subst (λ (x : Operator). p x ≡ true) same here
    go false e2 here later = later e2

abbrev row_kind : Operator → Bool
row_kind o = is_symbol_word o.name || (bytes_eq o.name (codes "is") ||
    (bytes_eq o.name (codes "in") || (bytes_eq o.name (codes "mod") || (bytes_eq o.name (codes ";") || bytes_eq o.name (codes ",")))))

abbrev row_symbols : Operator → Bool
row_symbols o = is_symbol_word o.name

infix_table : list_all row_kind infix_operators ≡ true
unfolding is_symbol
infix_table = refl

prefix_table : list_all row_symbols prefix_operators ≡ true
unfolding is_symbol
prefix_table = refl

is_is_word : is_letter_word (105 ∷ 115 ∷ []) ≡ true
unfolding chars
is_is_word = rw (is_xid_start-ascii 105 (omega arith), is_xid_continue-ascii 115 (omega arith)) refl

in_is_word : is_letter_word (105 ∷ 110 ∷ []) ≡ true
unfolding chars
in_is_word = rw (is_xid_start-ascii 105 (omega arith), is_xid_continue-ascii 110 (omega arith)) refl

mod_is_word : is_letter_word (109 ∷ 111 ∷ 100 ∷ []) ≡ true
unfolding chars
mod_is_word = rw (is_xid_start-ascii 109 (omega arith), is_xid_continue-ascii 111 (omega arith), is_xid_continue-ascii 100 (omega arith)) refl

two_utf8 : (c d : ℕ) → c < 128 → d < 128 → IsUtf8 (c ∷ d ∷ [])
two_utf8 c d h k = IsUtf8-append (c ∷ []) (d ∷ []) (ascii_utf8 c h) (ascii_utf8 d k)

is_word : (o : Name) → bytes_eq o (codes "is") ≡ true → IsWord o
is_word o e = subst IsWord (sym (text_is o (codes "is") e)) (letters (two_utf8 105 115 (omega arith) (omega arith)) is_is_word)

in_word : (o : Name) → bytes_eq o (codes "in") ≡ true → IsWord o
in_word o e = subst IsWord (sym (text_is o (codes "in") e)) (letters (two_utf8 105 110 (omega arith) (omega arith)) in_is_word)

mod_word : (o : Name) → bytes_eq o (codes "mod") ≡ true → IsWord o
mod_word o e = subst IsWord (sym (text_is o (codes "mod") e))
    (letters (IsUtf8-append (109 ∷ []) (111 ∷ 100 ∷ []) (ascii_utf8 109 (omega arith)) (two_utf8 111 100 (omega arith) (omega arith))) mod_is_word)

kind_of : (o : Operator) → row_kind o ≡ true → IsWord o.name ⊎ (o.name ≡ codes ",")
kind_of o h = elim (or_cases (is_symbol_word o.name) (bytes_eq o.name (codes "is") ||
    (bytes_eq o.name (codes "in") || (bytes_eq o.name (codes "mod") || (bytes_eq o.name (codes ";") || bytes_eq o.name (codes ","))))) h) [
      | inl e ↦ inl (symbols e)
      | inr h1 ↦ elim (or_cases (bytes_eq o.name (codes "is")) (bytes_eq o.name (codes "in") || (bytes_eq o.name (codes "mod") || (bytes_eq o.name (codes ";") || bytes_eq o.name (codes ",")))) h1) [
        | inl e ↦ inl (is_word o.name e)
        | inr h2 ↦ elim (or_cases (bytes_eq o.name (codes "in")) (bytes_eq o.name (codes "mod") || (bytes_eq o.name (codes ";") || bytes_eq o.name (codes ","))) h2) [
          | inl e ↦ inl (in_word o.name e)
          | inr h3 ↦ elim (or_cases (bytes_eq o.name (codes "mod")) (bytes_eq o.name (codes ";") || bytes_eq o.name (codes ",")) h3) [
            | inl e ↦ inl (mod_word o.name e)
            | inr h4 ↦ elim (or_cases (bytes_eq o.name (codes ";")) (bytes_eq o.name (codes ",")) h4) [
              | inl e ↦ inl (subst IsWord (sym (text_is o.name (codes ";") e)) semicolon)
              | inr e ↦ inr (text_is o.name (codes ",") e)
            ]
          ]
        ]
      ]
    ]

pub infix_kind : (f : Name) (o : Operator) → infix_of f ≡ Some o → IsWord o.name ⊎ (o.name ≡ codes ",")
unfolding infix_of
infix_kind f o e = kind_of o (found_in row_kind infix_operators (λ g. bytes_eq g.name f) o infix_table e)

prefix_word : (f : Name) (o : Operator) → prefix_of f ≡ Some o → IsWord o.name
unfolding prefix_of
prefix_word f o e = symbols (found_in row_symbols prefix_operators (λ g. bytes_eq g.name f) o prefix_table e)

-- an operator's name, but for the comma
pub operator_word_is : (f : Name) → is_operator f ≡ true → bytes_eq f (codes ",") ≡ false → IsWord f
unfolding is_operator prefix_of
operator_word_is f h k = go (infix_of f) refl (prefix_of f) refl h
  where
    by_infix : (o : Operator) → o.name ≡ f → IsWord o.name ⊎ (o.name ≡ codes ",") → IsWord f
    by_infix o n (inl w) = subst IsWord n w
    by_infix o n (inr e) = absurd (true≢false (sym ((bytes_eq-Decides f (codes ",")).1 (sym n ∙ e)) ∙ k))

    go : (u : Option Operator) → infix_of f ≡ u → (v : Option Operator) → prefix_of f ≡ v → (is_some u || is_some v) ≡ true → IsWord f
    go (Some o) e v d t = by_infix o (infix_stands f o e).named (infix_kind f o e)
    go None e (Some o) d t = subst IsWord (row_named prefix_operators f o d) (prefix_word f o d)
    go None e None d t = absurd (true≢false (sym t))
