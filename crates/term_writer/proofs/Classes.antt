-- Which characters are of which class, by a test of the ASCII ones.
use Rattle.std.proofs.Common.{◌≡◌, ◌∙◌, ℕ, ◌<◌, ◌≤◌, ◌⊎◌, inl, inr, List, [], ◌∷◌, Bool, true, false, refl, sym, ap, arith}
use Rattle.std.specs.Prelude.{◌==◌, ◌||◌, ◌&&◌, not, nat_lt, nat_le}
use Rattle.std.specs.Char.{is_ascii_uppercase, is_ascii_alphabetic, is_ascii_alphanumeric}
use Rattle.std.specs.List.{list_all}
use Rattle.std.proofs.lemmas.Bool.{true≢false, ne_eqb, eqb-true, lt-leb, le-ltb, ltb-true, and_parts, and_right, or_cases, or_from, cases_lt, not-true}
use Rattle.std.proofs.lemmas.Bool.{false_from_ne_true, agree_below, agree_below_at}
use Rattle.unicode_ident.specs.Ident.{is_xid_start, is_xid_continue}
use Rattle.unicode_ident.proofs.IdentLemmas.{is_xid_start-ascii, is_xid_continue-ascii}
use Rattle.fd_language.specs.Characters.{is_among, is_layout, is_symbol, begins_variable, is_digit_of}
use Rattle.fd_language.specs.Tokens.{base_of}

always : ℕ → Bool
always c = true

-- what holds of the ASCII characters of a class
ascii_only : (p q : ℕ → Bool) → agree_below (λ c. not (p c) || q c) always 128 ≡ true → (c : ℕ) → c < 128 → p c ≡ true → q c ≡ true
unfolding always
ascii_only p q e c l h = go (or_cases (not (p c)) (q c) (agree_below_at (λ d. not (p d) || q d) always 128 c e l))
  where
    go : (not (p c) ≡ true) ⊎ (q c ≡ true) → q c ≡ true
    go (inl n) = absurd (true≢false (sym h ∙ not-true (p c) n))
    go (inr k) = k

-- of no layout, no %, no decimal digit
abbrev pub is_plain : ℕ → Bool
is_plain c = not (is_layout c) && (not (c == 37) && not (is_digit_of 10 c))

pub record Plain (c : ℕ) : Type 0 where
  pub layout : is_layout c ≡ false
  pub percent : (c == 37) ≡ false
  pub digit : is_digit_of 10 c ≡ false

plain_of : (c : ℕ) → is_plain c ≡ true → Plain c
plain_of c h =
    let one = and_parts (not (is_layout c)) (not (c == 37) && not (is_digit_of 10 c)) h in
    let two = and_parts (not (c == 37)) (not (is_digit_of 10 c)) one.1 in
    record { layout = not-true (is_layout c) one.0; percent = not-true (c == 37) two.0; digit = not-true (is_digit_of 10 c) two.1 }

high_digit : (c : ℕ) → 128 ≤ c → is_digit_of 10 c ≡ false
high_digit c h = rw (le-ltb c 48 (omega arith), le-ltb c 58 (omega arith), le-ltb c 65 (omega arith), le-ltb c 91 (omega arith), le-ltb c 97 (omega arith), le-ltb c 123 (omega arith)) refl

high_plain : (c : ℕ) → 128 ≤ c → Plain c
high_plain c h = record {
  layout = or_from (c == 32) (nat_le 9 c && nat_le c 13) (ne_eqb c 32 (λ e. omega arith)) (and_right (nat_le 9 c) (nat_le c 13) (lt-leb c 13 (omega arith)));
  percent = ne_eqb c 37 (λ e. omega arith);
  digit = high_digit c h;
}

high_upper : (c : ℕ) → 128 ≤ c → is_ascii_uppercase c ≡ false
high_upper c h = and_right (nat_le 65 c) (nat_le c 90) (lt-leb c 90 (omega arith))

high_variable : (c : ℕ) → 128 ≤ c → begins_variable c ≡ false
unfolding begins_variable
high_variable c h = or_from (c == 95) (is_ascii_uppercase c) (ne_eqb c 95 (λ e. omega arith)) (high_upper c h)

-- ---- what begins a variable

variable_table : agree_below (λ c. not (begins_variable c) || is_plain c) always 128 ≡ true
unfolding always begins_variable
variable_table = refl

pub variable_plain : (c : ℕ) → begins_variable c ≡ true → Plain c
variable_plain c h = elim (cases_lt c 128) [
  | inl l ↦ plain_of c (ascii_only begins_variable is_plain variable_table c l h)
  | inr l ↦ high_plain c l
]

-- ---- letters that begin a word

abbrev pub is_lower : ℕ → Bool
is_lower c = is_ascii_alphabetic c && not (is_ascii_uppercase c)

abbrev is_word_start : ℕ → Bool
is_word_start c = not (begins_variable c) && is_plain c

letter_table : agree_below (λ c. not (is_lower c) || is_word_start c) always 128 ≡ true
unfolding always begins_variable
letter_table = refl

pub record Letter (c : ℕ) : Type 0 where
  pub plain : Plain c
  pub variable : begins_variable c ≡ false

low_letter : (c : ℕ) → c < 128 → is_xid_start c ≡ true → is_ascii_uppercase c ≡ false → Letter c
low_letter c l h k =
    let low : is_lower c ≡ true = rw (sym (is_xid_start-ascii c l), h, k) refl in
    let parts = and_parts (not (begins_variable c)) (is_plain c) (ascii_only is_lower is_word_start letter_table c l low) in
    record { plain = plain_of c parts.1; variable = not-true (begins_variable c) parts.0 }

pub letter_is : (c : ℕ) → is_xid_start c ≡ true → is_ascii_uppercase c ≡ false → Letter c
letter_is c h k = elim (cases_lt c 128) [
  | inl l ↦ low_letter c l h k
  | inr l ↦ record { plain = high_plain c l; variable = high_variable c l }
]

-- ---- symbol characters

among_below : (ds : List ℕ) (n c : ℕ) → list_all (λ d. nat_lt d n) ds ≡ true → is_among ds c ≡ true → c < n
among_below [] n c h k = absurd (true≢false (sym k))
among_below (d ∷ ds) n c h k =
    let parts = and_parts (nat_lt d n) (list_all (λ x. nat_lt x n) ds) h in
    elim (or_cases (c == d) (is_among ds c) k) [
      | inl e ↦ omega (arith, eqb-true c d e, ltb-true d n parts.0)
      | inr e ↦ among_below ds n c parts.1 e
    ]

pub symbol_low : (c : ℕ) → is_symbol c ≡ true → c < 128
unfolding is_symbol
symbol_low c h = among_below (35 ∷ 36 ∷ 38 ∷ 42 ∷ 43 ∷ 45 ∷ 46 ∷ 47 ∷ 58 ∷ 60 ∷ 61 ∷ 62 ∷ 63 ∷ 64 ∷ 94 ∷ 126 ∷ 92 ∷ []) 128 c refl h

abbrev is_apart : ℕ → Bool
is_apart c = not (is_ascii_alphanumeric c || (c == 95)) && (not (c == 39) && (not (is_ascii_alphabetic c) && is_word_start c))

symbol_table : agree_below (λ c. not (is_symbol c) || is_apart c) always 128 ≡ true
unfolding always begins_variable is_symbol
symbol_table = refl

pub record Symbol (c : ℕ) : Type 0 where
  pub low : c < 128
  pub plain : Plain c
  pub variable : begins_variable c ≡ false
  pub start : is_xid_start c ≡ false
  pub word : is_xid_continue c ≡ false
  pub quote : (c == 39) ≡ false

pub symbol_is : (c : ℕ) → is_symbol c ≡ true → Symbol c
symbol_is c h =
    let low = symbol_low c h in
    let a = and_parts (not (is_ascii_alphanumeric c || (c == 95))) (not (c == 39) && (not (is_ascii_alphabetic c) && is_word_start c)) (ascii_only is_symbol is_apart symbol_table c low h) in
    let b = and_parts (not (c == 39)) (not (is_ascii_alphabetic c) && is_word_start c) a.1 in
    let d = and_parts (not (is_ascii_alphabetic c)) (is_word_start c) b.1 in
    let e = and_parts (not (begins_variable c)) (is_plain c) d.1 in
    record {
      low = low;
      plain = plain_of c e.1;
      variable = not-true (begins_variable c) e.0;
      start = is_xid_start-ascii c low ∙ not-true (is_ascii_alphabetic c) d.0;
      word = is_xid_continue-ascii c low ∙ not-true (is_ascii_alphanumeric c || (c == 95)) a.0;
      quote = not-true (c == 39) b.0;
    }

-- ---- digits

abbrev is_number_digit : ℕ → Bool
is_number_digit c = not (is_layout c) && (not (c == 37) && ((base_of c == 0) && (not (c == 39) && ((is_ascii_alphanumeric c || (c == 95)) && not (is_symbol c)))))

digit_table : agree_below (λ c. not (is_digit_of 10 c) || is_number_digit c) always 128 ≡ true
unfolding always is_symbol
digit_table = refl

pub record Digit (c : ℕ) : Type 0 where
  pub low : c < 128
  pub layout : is_layout c ≡ false
  pub percent : (c == 37) ≡ false
  pub base : base_of c ≡ 0
  pub quote : (c == 39) ≡ false
  pub word : is_xid_continue c ≡ true
  pub symbol : is_symbol c ≡ false

digit_low : (c : ℕ) → is_digit_of 10 c ≡ true → c < 128
digit_low c h = elim (cases_lt c 128) [
  | inl l ↦ l
  | inr l ↦ absurd (true≢false (sym h ∙ high_digit c l))
]

pub digit_is : (c : ℕ) → is_digit_of 10 c ≡ true → Digit c
digit_is c h =
    let low = digit_low c h in
    let t = ascii_only (is_digit_of 10) is_number_digit digit_table c low h in
    let a = and_parts (not (is_layout c)) (not (c == 37) && ((base_of c == 0) && (not (c == 39) && ((is_ascii_alphanumeric c || (c == 95)) && not (is_symbol c))))) t in
    let b = and_parts (not (c == 37)) ((base_of c == 0) && (not (c == 39) && ((is_ascii_alphanumeric c || (c == 95)) && not (is_symbol c)))) a.1 in
    let d = and_parts (base_of c == 0) (not (c == 39) && ((is_ascii_alphanumeric c || (c == 95)) && not (is_symbol c))) b.1 in
    let e = and_parts (not (c == 39)) ((is_ascii_alphanumeric c || (c == 95)) && not (is_symbol c)) d.1 in
    let f = and_parts (is_ascii_alphanumeric c || (c == 95)) (not (is_symbol c)) e.1 in
    record {
      low = low;
      layout = not-true (is_layout c) a.0;
      percent = not-true (c == 37) b.0;
      base = eqb-true (base_of c) 0 d.0;
      quote = not-true (c == 39) e.0;
      word = is_xid_continue-ascii c low ∙ f.0;
      symbol = not-true (is_symbol c) f.1;
    }

-- a letter that names a base continues a word
pub no_base : (c : ℕ) → is_xid_continue c ≡ false → base_of c ≡ 0
no_base c h = rw (not_is 120 (omega arith) refl, not_is 111 (omega arith) refl, not_is 98 (omega arith) refl) refl
  where
    not_is : (d : ℕ) → d < 128 → (is_ascii_alphanumeric d || (d == 95)) ≡ true → (c == d) ≡ false
    not_is d l k = ne_eqb c d (λ e. true≢false (sym (is_xid_continue-ascii d l ∙ k) ∙ ap is_xid_continue (sym e) ∙ h))

pub no_digit : (c : ℕ) → is_xid_continue c ≡ false → is_digit_of 10 c ≡ false
no_digit c h = false_from_ne_true (is_digit_of 10 c) (λ e. true≢false (sym (digit_is c e).word ∙ h))
