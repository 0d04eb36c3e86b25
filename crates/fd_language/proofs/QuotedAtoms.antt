-- Quoted atoms, character by character, against their pieces.
use Rattle.std.proofs.Common.{◌≡◌, ◌∙◌, ℕ, ◌+◌, ◌*◌, ◌<◌, ◌≤◌, ◌⊎◌, inl, inr, List, [], ◌∷◌, ◌++◌, Bool, true, false, cond, not, refl, sym, ap, arith, length}
use Rattle.std.proofs.Common.{length-append, take, append_assoc, eqb-true}
use Rattle.std.specs.Prelude.{nat_lt, nat_le, ◌==◌, ◌&&◌, ◌||◌, ℤ, pos, encode_utf8}
use Rattle.std.specs.Char.{len_utf8, digit_value}
use Rattle.std.specs.Str.{chars, IsUtf8, encode_utf8_all, all_scalars}
use Rattle.std.proofs.lemmas.List.{take_at}
use Rattle.std.proofs.lemmas.Str.{chars-encodes, encodes-append, encodes-chars, scalars-chars, length-encode}
use Rattle.std.proofs.lemmas.Bool.{and_parts, lt-ltb, ltb-true, ne_eqb, and_from}
use lib.Utf8.{scalar}
use Rattle.fd_language.specs.Characters.{is_layout, is_symbol, is_solo, is_punct, begins_variable, not_newline, is_digit_of, starts_with, tail, run_size}
use Rattle.fd_language.specs.Characters.{past_run, digits_value}
use Rattle.unicode_ident.specs.Ident.{is_xid_start, is_xid_continue}
use Rattle.unicode_ident.proofs.IdentLemmas.{is_xid_start-ascii}
use Rattle.fd_language.specs.Tokens.{Front, Gap, Token, Quoted, Variable, Word, Punct, Stop, Integer, BadCharacter, FloatOut, StringOut, OpenComment}
use Rattle.fd_language.specs.Tokens.{IntegerTooWide, greatest_integer, number_front, decimal_front, based_front, integer_front, comment_front, has_base}
use Rattle.fd_language.specs.Tokens.{base_at, has_fraction, ends_stop, front_at, front_by, front_of, unquoted, Offends, Cause, OpenQuote, BadEscape, Inside}
use Rattle.fd_language.specs.Tokens.{Between, AfterQuote, AfterBackslash, AfterDigits, Past, Broken, is_escape, escaped, names_character, inside, spells}
use Rattle.fd_language.specs.Tokens.{quoted_front, quoted_spells}
use Rattle.fd_language.specs.QuotedAtoms.{BeginsQuoted, QuotedAtoms, is_itself, are_hexadecimal, hexadecimal, SpelledBy, nothing, itself, doubled, escape}
use Rattle.fd_language.specs.QuotedAtoms.{numbered}

-- the bytes of characters
abbrev pub size : List ℕ → ℕ
size [] = 0
size (c ∷ cs) = len_utf8 c + size cs

pub front_past : (m n : ℕ) (cs : List ℕ) → quoted_front (Past m) n cs ≡ Token Quoted m
front_past m n [] = refl
front_past m n (c ∷ cs) = front_past m (n + len_utf8 c) cs

pub front_broken : (cause : Cause) (m n : ℕ) (cs : List ℕ) → quoted_front (Broken cause m) n cs ≡ Offends cause m
front_broken cause m n [] = refl
front_broken cause m n (c ∷ cs) = front_broken cause m (n + len_utf8 c) cs

pub spells_past : (m : ℕ) (cs : List ℕ) → quoted_spells (Past m) cs ≡ []
spells_past m [] = refl
spells_past m (c ∷ cs) = spells_past m cs

pub spells_broken : (cause : Cause) (m : ℕ) (cs : List ℕ) → quoted_spells (Broken cause m) cs ≡ []
spells_broken cause m [] = refl
spells_broken cause m (c ∷ cs) = spells_broken cause m cs

-- ---- what is spelled is read

-- the quote that ends an atom
pub ends_here : (n : ℕ) (rest : List ℕ) → starts_with 39 rest ≡ false → quoted_front AfterQuote n rest ≡ Token Quoted n
ends_here n [] h = refl
ends_here n (r ∷ rs) h = rw h (front_past n (n + len_utf8 r) rs)

spells_end : (rest : List ℕ) → starts_with 39 rest ≡ false → quoted_spells AfterQuote rest ≡ []
spells_end [] h = refl
spells_end (r ∷ rs) h = rw h (spells_past 0 rs)

-- a character that stands for itself
parts_itself : (c : ℕ) → is_itself c ≡ true → ((c == 39) ≡ false) × ((c == 92) ≡ false) × ((c == 10) ≡ false)
parts_itself c h = by (c == 39) (c == 92) (c == 10) h
  where
    by : (x y z : Bool) → not (x || (y || z)) ≡ true → (x ≡ false) × (y ≡ false) × (z ≡ false)
    by false false false e = (refl, refl, refl)
    by false false true e = absurd (cc)
    by false true z e = absurd (cc)
    by true y z e = absurd (cc)

front_itself : (n c : ℕ) (cs : List ℕ) → is_itself c ≡ true → quoted_front Between n (c ∷ cs) ≡ quoted_front Between (n + len_utf8 c) cs
front_itself n c cs h = let p = parts_itself c h in rw (p.0, p.1, p.2) refl

spells_itself : (c : ℕ) (cs : List ℕ) → is_itself c ≡ true → quoted_spells Between (c ∷ cs) ≡ c ∷ quoted_spells Between cs
spells_itself c cs h = let p = parts_itself c h in rw (p.0, p.1, p.2) refl

front_escape : (n c : ℕ) (cs : List ℕ) → is_escape c ≡ true → quoted_front Between n (92 ∷ c ∷ cs) ≡ quoted_front Between (n + 1 + len_utf8 c) cs
front_escape n c cs h = rw h refl

spells_escape : (c : ℕ) (cs : List ℕ) → is_escape c ≡ true → quoted_spells Between (92 ∷ c ∷ cs) ≡ escaped c ∷ quoted_spells Between cs
spells_escape c cs h = rw h refl

-- the digits of \x
no_backslash : (d : ℕ) → is_digit_of 16 d ≡ true → (d == 92) ≡ false
no_backslash d h = ne_eqb d 92 (λ e. cc (ap (λ (x : ℕ). is_digit_of 16 x) (sym e) ∙ h))

digit_next : (from k v n d : ℕ) → is_digit_of 16 d ≡ true → k < 6 → inside (AfterDigits from k v) n d ≡ AfterDigits from (k + 1) (v * 16 + digit_value d)
digit_next from k v n d h l =
    ap (λ (b : Bool). cond b (AfterDigits from (k + 1) (v * 16 + digit_value d)) (cond (names_character k v d) Between (Broken BadEscape from)))
    (and_from (is_digit_of 16 d) (nat_lt k 6) h (lt-ltb k 6 l))

digit_silent : (from k v d : ℕ) → is_digit_of 16 d ≡ true → spells (AfterDigits from k v) d ≡ []
digit_silent from k v d h = ap (λ (b : Bool). cond (b && (nat_lt 0 k && scalar v)) (v ∷ []) []) (no_backslash d h)

digits_front : (ds cs : List ℕ) (from k v n K N : ℕ) → are_hexadecimal ds ≡ true → K ≡ k + length ds → K ≤ 6 → N ≡ n + size ds
    → quoted_front (AfterDigits from k v) n (ds ++ cs) ≡ quoted_front (AfterDigits from K (hexadecimal v ds)) N cs
digits_front [] cs from k v n K N h e l m =
    let a : k ≡ K = omega arith in
    let b : n ≡ N = omega arith in
    ap (λ (x : ℕ). quoted_front (AfterDigits from x v) n cs) a ∙ ap (λ (x : ℕ). quoted_front (AfterDigits from K v) x cs) b
digits_front (d ∷ ds) cs from k v n K N h e l m =
    let p = and_parts (is_digit_of 16 d) (are_hexadecimal ds) h in
    ap (λ (s : Inside). quoted_front s (n + len_utf8 d) (ds ++ cs)) (digit_next from k v n d p.0 (omega arith))
    ∙ digits_front ds cs from (k + 1) (v * 16 + digit_value d) (n + len_utf8 d) K N p.1 (omega arith) l (omega arith)

digits_spell : (ds cs : List ℕ) (from k v K : ℕ) → are_hexadecimal ds ≡ true → K ≡ k + length ds → K ≤ 6
    → quoted_spells (AfterDigits from k v) (ds ++ cs) ≡ quoted_spells (AfterDigits from K (hexadecimal v ds)) cs
digits_spell [] cs from k v K h e l = let a : k ≡ K = omega arith in ap (λ (x : ℕ). quoted_spells (AfterDigits from x v) cs) a
digits_spell (d ∷ ds) cs from k v K h e l =
    let p = and_parts (is_digit_of 16 d) (are_hexadecimal ds) h in
    ap (λ (xs : List ℕ). xs ++ quoted_spells (inside (AfterDigits from k v) 0 d) (ds ++ cs)) (digit_silent from k v d p.0)
    ∙ ap (λ (s : Inside). quoted_spells s (ds ++ cs)) (digit_next from k v 0 d p.0 (omega arith))
    ∙ digits_spell ds cs from (k + 1) (v * 16 + digit_value d) K p.1 (omega arith) l

named : (k v : ℕ) → 1 ≤ k → scalar v ≡ true → names_character k v 92 ≡ true
named k v l h = and_from (nat_lt 0 k) (scalar v) (lt-ltb 0 k l) h

number_front_end : (from k v n : ℕ) (cs : List ℕ) → 1 ≤ k → scalar v ≡ true → quoted_front (AfterDigits from k v) n (92 ∷ cs) ≡ quoted_front Between (n + 1) cs
number_front_end from k v n cs l h = ap (λ (b : Bool). quoted_front (cond b Between (Broken BadEscape from)) (n + 1) cs) (named k v l h)

number_spells_end : (from k v : ℕ) (cs : List ℕ) → 1 ≤ k → scalar v ≡ true → quoted_spells (AfterDigits from k v) (92 ∷ cs) ≡ v ∷ quoted_spells Between cs
number_spells_end from k v cs l h =
    ap (λ (b : Bool). cond b (v ∷ []) [] ++ quoted_spells (cond b Between (Broken BadEscape from)) cs) (named k v l h)

pub size-append : (xs ys : List ℕ) → size (xs ++ ys) ≡ size xs + size ys
size-append [] ys = omega arith
size-append (x ∷ xs) ys = omega (arith, size-append xs ys)

-- where what follows the pieces doesn't go on with a quote
pub front_spelled : {cs vs : List ℕ} → SpelledBy cs vs → (n m : ℕ) (rest : List ℕ) → starts_with 39 rest ≡ false → m ≡ n + size cs + 1 → quoted_front Between n (cs ++ 39 ∷ rest) ≡ Token Quoted m
front_spelled nothing n m rest a e =
    let same : n + 1 ≡ m = omega arith in
    ends_here (n + 1) rest a ∙ ap (λ (x : ℕ). Token Quoted x) same
front_spelled (itself {cs = cs} c h s) n m rest a e = front_itself n c (cs ++ 39 ∷ rest) h ∙ front_spelled s (n + len_utf8 c) m rest a (omega arith)
front_spelled (doubled s) n m rest a e = front_spelled s (n + 1 + 1) m rest a (omega arith)
front_spelled (escape {cs = cs} c h s) n m rest a e = front_escape n c (cs ++ 39 ∷ rest) h ∙ front_spelled s (n + 1 + len_utf8 c) m rest a (omega arith)
front_spelled (numbered {cs = cs} ds h low high named s) n m rest a e =
    ap (λ (xs : List ℕ). quoted_front (AfterDigits n 0 0) (n + 1 + 1) xs) (append_assoc ds (92 ∷ cs) (39 ∷ rest))
    ∙ digits_front ds (92 ∷ (cs ++ 39 ∷ rest)) n 0 0 (n + 1 + 1) (length ds) (n + 1 + 1 + size ds) h (omega arith) high refl
    ∙ number_front_end n (length ds) (hexadecimal 0 ds) (n + 1 + 1 + size ds) (cs ++ 39 ∷ rest) low named
    ∙ front_spelled s (n + 1 + 1 + size ds + 1) m rest a (omega (arith, size-append ds (92 ∷ cs)))

pub spells_spelled : {cs vs : List ℕ} → SpelledBy cs vs → (rest : List ℕ) → starts_with 39 rest ≡ false → quoted_spells Between (cs ++ 39 ∷ rest) ≡ vs
spells_spelled nothing rest a = spells_end rest a
spells_spelled (itself {cs = cs} c h s) rest a = spells_itself c (cs ++ 39 ∷ rest) h ∙ ap (λ (xs : List ℕ). c ∷ xs) (spells_spelled s rest a)
spells_spelled (doubled s) rest a = ap (λ (xs : List ℕ). 39 ∷ xs) (spells_spelled s rest a)
spells_spelled (escape {cs = cs} c h s) rest a = spells_escape c (cs ++ 39 ∷ rest) h ∙ ap (λ (xs : List ℕ). escaped c ∷ xs) (spells_spelled s rest a)
spells_spelled (numbered {cs = cs} ds h low high named s) rest a =
    ap (λ (xs : List ℕ). quoted_spells (AfterDigits 0 0 0) xs) (append_assoc ds (92 ∷ cs) (39 ∷ rest))
    ∙ digits_spell ds (92 ∷ (cs ++ 39 ∷ rest)) 0 0 0 (length ds) h (omega arith) high
    ∙ number_spells_end 0 (length ds) (hexadecimal 0 ds) (cs ++ 39 ∷ rest) low named
    ∙ ap (λ (xs : List ℕ). hexadecimal 0 ds ∷ xs) (spells_spelled s rest a)

-- ---- what is read is spelled

-- The pieces of an atom, its closing quote, and what follows.
pub record Inner (ds : List ℕ) : Type 0 where
  pub inner : List ℕ
  pub spelled : List ℕ
  pub rest : List ℕ
  pub split : ds ≡ inner ++ 39 ∷ rest
  pub by : SpelledBy inner spelled
  pub alone : starts_with 39 rest ≡ false

-- behind k digits of \x that spell v: more digits, a backslash, and pieces
record Digits (k v : ℕ) (ds : List ℕ) : Type 0 where
  digits : List ℕ
  after : List ℕ
  split : ds ≡ digits ++ 92 ∷ after
  hexadecimal_digits : are_hexadecimal digits ≡ true
  least : 0 < k + length digits
  most : k ≤ 6 → k + length digits ≤ 6
  named : scalar (hexadecimal v digits) ≡ true
  pieces : Inner after

record Follows (c : ℕ) (P : List ℕ → Type 0) (ds : List ℕ) : Type 0 where
  later : List ℕ
  split : ds ≡ c ∷ later
  holds : P later

-- what must follow where the atom ends without a fault
abbrev Wanted : Inside → List ℕ → Type 0
Wanted Between ds = Inner ds
Wanted AfterQuote ds = (starts_with 39 ds ≡ false) ⊎ Follows 39 Inner ds
Wanted (AfterBackslash from) ds = ((c : ℕ) × (is_escape c ≡ true) × Follows c Inner ds) ⊎ Follows 120 (Digits 0 0) ds
Wanted (AfterDigits from k v) ds = Digits k v ds
Wanted (Past m) ds = Unit {0}
Wanted (Broken cause m) ds = ⊥

past_backslash : (c : ℕ) (ds : List ℕ) → c ≡ 92 → ((d : ℕ) × (is_escape d ≡ true) × Follows d Inner ds) ⊎ Follows 120 (Digits 0 0) ds → Inner (c ∷ ds)
past_backslash c ds e (inl (d, h, f)) =
    let i = f.holds in
    record {
      inner = 92 ∷ d ∷ i.inner;
      spelled = escaped d ∷ i.spelled;
      rest = i.rest;
      split = ap (λ (x : ℕ). x ∷ ds) e ∙ ap (λ (xs : List ℕ). 92 ∷ xs) (f.split ∙ ap (λ (xs : List ℕ). d ∷ xs) i.split);
      by = escape d h i.by;
      alone = i.alone;
    }
past_backslash c ds e (inr f) =
    let g = f.holds in
    let i = g.pieces in
    let whole : f.later ≡ (g.digits ++ 92 ∷ i.inner) ++ 39 ∷ i.rest =
    g.split ∙ ap (λ (xs : List ℕ). g.digits ++ 92 ∷ xs) i.split ∙ sym (append_assoc g.digits (92 ∷ i.inner) (39 ∷ i.rest)) in
    record {
      inner = 92 ∷ 120 ∷ (g.digits ++ 92 ∷ i.inner);
      spelled = hexadecimal 0 g.digits ∷ i.spelled;
      rest = i.rest;
      split = ap (λ (x : ℕ). x ∷ ds) e ∙ ap (λ (xs : List ℕ). 92 ∷ xs) (f.split ∙ ap (λ (xs : List ℕ). 120 ∷ xs) whole);
      by = numbered g.digits g.hexadecimal_digits (omega (arith, g.least)) (omega (arith, g.most (omega arith))) g.named i.by;
      alone = i.alone;
    }

past_quote : (c : ℕ) (ds : List ℕ) → c ≡ 39 → (starts_with 39 ds ≡ false) ⊎ Follows 39 Inner ds → Inner (c ∷ ds)
past_quote c ds e (inl a) = record { inner = []; spelled = []; rest = ds; split = ap (λ (x : ℕ). x ∷ ds) e; by = nothing; alone = a }
past_quote c ds e (inr f) =
    let i = f.holds in
    record {
      inner = 39 ∷ 39 ∷ i.inner;
      spelled = 39 ∷ i.spelled;
      rest = i.rest;
      split = ap (λ (x : ℕ). x ∷ ds) e ∙ ap (λ (xs : List ℕ). 39 ∷ xs) (f.split ∙ ap (λ (xs : List ℕ). 39 ∷ xs) i.split);
      by = doubled i.by;
      alone = i.alone;
    }

past_itself : (c : ℕ) (ds : List ℕ) → is_itself c ≡ true → Inner ds → Inner (c ∷ ds)
past_itself c ds h i = record {
  inner = c ∷ i.inner;
  spelled = c ∷ i.spelled;
  rest = i.rest;
  split = ap (λ (xs : List ℕ). c ∷ xs) i.split;
  by = itself c h i.by;
  alone = i.alone;
}

none_is : (x y z : Bool) → x ≡ false → y ≡ false → z ≡ false → not (x || (y || z)) ≡ true
none_is x y z a b d = rw (a, b, d) refl

step_between : (c n : ℕ) (ds : List ℕ) (x y z : Bool) → (c == 39) ≡ x → (c == 92) ≡ y → (c == 10) ≡ z
    → Wanted (cond x AfterQuote (cond y (AfterBackslash n) (cond z (Broken OpenQuote 0) Between))) ds → Inner (c ∷ ds)
step_between c n ds true y z a b d w = past_quote c ds (eqb-true c 39 a) w
step_between c n ds false true z a b d w = past_backslash c ds (eqb-true c 92 b) w
step_between c n ds false false true a b d w = absurd w
step_between c n ds false false false a b d w = past_itself c ds (none_is (c == 39) (c == 92) (c == 10) a b d) w

step_quote : (c n : ℕ) (ds : List ℕ) (x : Bool) → (c == 39) ≡ x → Wanted (cond x Between (Past n)) ds → Wanted AfterQuote (c ∷ ds)
step_quote c n ds true a w = inr (record { later = ds; split = ap (λ (x : ℕ). x ∷ ds) (eqb-true c 39 a); holds = w })
step_quote c n ds false a w = inl a

step_backslash : (c from : ℕ) (ds : List ℕ) (x y : Bool) → is_escape c ≡ x → (c == 120) ≡ y
    → Wanted (cond x Between (cond y (AfterDigits from 0 0) (Broken BadEscape from))) ds → Wanted (AfterBackslash from) (c ∷ ds)
step_backslash c from ds true y a b w = inl (c, a, record { later = ds; split = refl; holds = w })
step_backslash c from ds false true a b w = inr (record { later = ds; split = ap (λ (x : ℕ). x ∷ ds) (eqb-true c 120 b); holds = w })
step_backslash c from ds false false a b w = absurd w

step_digits : (c from k v : ℕ) (ds : List ℕ) (x y : Bool) → (is_digit_of 16 c && nat_lt k 6) ≡ x → names_character k v c ≡ y
    → Wanted (cond x (AfterDigits from (k + 1) (v * 16 + digit_value c)) (cond y Between (Broken BadEscape from))) ds → Digits k v (c ∷ ds)
step_digits c from k v ds true y a b g =
    let p = and_parts (is_digit_of 16 c) (nat_lt k 6) a in
    record {
      digits = c ∷ g.digits;
      after = g.after;
      split = ap (λ (xs : List ℕ). c ∷ xs) g.split;
      hexadecimal_digits = and_from (is_digit_of 16 c) (are_hexadecimal g.digits) p.0 g.hexadecimal_digits;
      least = omega (arith, g.least);
      most = λ l. omega (arith, g.most (omega (arith, ltb-true k 6 p.1)));
      named = g.named;
      pieces = g.pieces;
    }
step_digits c from k v ds false true a b i =
    let p = and_parts (c == 92) (nat_lt 0 k && scalar v) b in
    let q = and_parts (nat_lt 0 k) (scalar v) p.1 in
    record {
      digits = [];
      after = ds;
      split = ap (λ (x : ℕ). x ∷ ds) (eqb-true c 92 p.0);
      hexadecimal_digits = refl;
      least = omega (arith, ltb-true 0 k q.0);
      most = λ l. omega arith;
      named = q.1;
      pieces = i;
    }
step_digits c from k v ds false false a b w = absurd w

wanted : (ds : List ℕ) (place : Inside) (n m : ℕ) → quoted_front place n ds ≡ Token Quoted m → Wanted place ds
wanted [] AfterQuote n m e = inl refl
wanted [] (Past p) n m e = tt
wanted [] (Broken cause p) n m e = cc
wanted (c ∷ ds) Between n m e = step_between c n ds (c == 39) (c == 92) (c == 10) refl refl refl (wanted ds (inside Between n c) (n + len_utf8 c) m e)
wanted (c ∷ ds) AfterQuote n m e = step_quote c n ds (c == 39) refl (wanted ds (inside AfterQuote n c) (n + len_utf8 c) m e)
wanted (c ∷ ds) (AfterBackslash from) n m e = step_backslash c from ds (is_escape c) (c == 120) refl refl (wanted ds (inside (AfterBackslash from) n c) (n + len_utf8 c) m e)
wanted (c ∷ ds) (AfterDigits from k v) n m e =
    step_digits c from k v ds (is_digit_of 16 c && nat_lt k 6) (names_character k v c) refl refl (wanted ds (inside (AfterDigits from k v) n c) (n + len_utf8 c) m e)
wanted (c ∷ ds) (Past p) n m e = tt
wanted (c ∷ ds) (Broken cause p) n m e = let f = front_broken cause p n (c ∷ ds) in cc
wanted _ _ n m e = absurd (cc)

-- ---- a text

record NotQuoted (f : Front) : Type 0 where
  no : (n : ℕ) → f ≡ Token Quoted n → ⊥

a_gap : (m : ℕ) → NotQuoted (Gap m)
a_gap m = record { no = λ n e. cc }

a_variable : (m : ℕ) → NotQuoted (Token Variable m)
a_variable m = record { no = λ n e. cc }

a_word : (m : ℕ) → NotQuoted (Token Word m)
a_word m = record { no = λ n e. cc }

a_punct : (m : ℕ) → NotQuoted (Token Punct m)
a_punct m = record { no = λ n e. cc }

a_stop : (m : ℕ) → NotQuoted (Token Stop m)
a_stop m = record { no = λ n e. cc }

an_integer : (z : ℤ) (m : ℕ) → NotQuoted (Token (Integer z) m)
an_integer z m = record { no = λ n e. cc }

a_fault : (cause : Cause) (m : ℕ) → NotQuoted (Offends cause m)
a_fault cause m = record { no = λ n e. cc }

either : (b : Bool) (x y : Front) → NotQuoted x → NotQuoted y → NotQuoted (cond b x y)
either true x y h k = h
either false x y h k = k

a_number : (v m : ℕ) → NotQuoted (number_front v m)
a_number v m = either (nat_le v greatest_integer) (Token (Integer (pos v)) m) (Offends IntegerTooWide 0) (an_integer (pos v) m) (a_fault IntegerTooWide 0)

a_decimal : (c : ℕ) (cs : List ℕ) → NotQuoted (decimal_front c cs)
a_decimal c cs =
    either (has_fraction (past_run (is_digit_of 10) cs)) (Offends FloatOut 0) _ (a_fault FloatOut 0)
    (either (c == 48 && starts_with 39 cs) (Offends BadCharacter 1) _ (a_fault BadCharacter 1)
    (a_number (digits_value 10 0 (c ∷ cs)) (len_utf8 c + run_size (is_digit_of 10) cs)))

digits_here : (c : ℕ) (cs : List ℕ) → NotQuoted (integer_front c cs)
digits_here c cs =
    either (c == 48 && has_base cs) (based_front cs) (decimal_front c cs)
    (a_number (digits_value (base_at cs) 0 (tail cs)) (2 + run_size (is_digit_of (base_at cs)) (tail cs))) (a_decimal c cs)

a_comment : (n : ℕ) (cs : List ℕ) → NotQuoted (comment_front n cs)
a_comment n [] = a_fault OpenComment 0
a_comment n (c ∷ cs) = either (c == 42 && starts_with 47 cs) (Gap (n + 2)) (comment_front (n + len_utf8 c) cs) (a_gap (n + 2)) (a_comment (n + len_utf8 c) cs)

-- only a quote begins a quoted atom
record IsQuote (n c : ℕ) (cs : List ℕ) : Type 0 where
  quote : c ≡ 39
  front : quoted_front Between 1 cs ≡ Token Quoted n

other : (n c : ℕ) (cs : List ℕ) (b : Bool) (x y : Front) → NotQuoted x → (y ≡ Token Quoted n → IsQuote n c cs) → cond b x y ≡ Token Quoted n → IsQuote n c cs
other n c cs true x y h k e = absurd (h.no n e)
other n c cs false x y h k e = k e

at_quote : (n c : ℕ) (cs : List ℕ) (b : Bool) (y : Front) → (c == 39) ≡ b → NotQuoted y → cond b (quoted_front Between 1 cs) y ≡ Token Quoted n → IsQuote n c cs
at_quote n c cs true y h k e = record { quote = eqb-true c 39 h; front = e }
at_quote n c cs false y h k e = absurd (k.no n e)

only_quote : (n c : ℕ) (cs : List ℕ) → front_at c cs ≡ Token Quoted n → IsQuote n c cs
only_quote n c cs =
    other n c cs (is_layout c) (Gap (len_utf8 c)) _ (a_gap (len_utf8 c))
    (other n c cs (c == 37) (Gap (len_utf8 c + run_size not_newline cs)) _ (a_gap (len_utf8 c + run_size not_newline cs))
    (other n c cs (is_digit_of 10 c) (integer_front c cs) _ (digits_here c cs)
    (other n c cs (begins_variable c) (Token Variable (len_utf8 c + run_size is_xid_continue cs)) _ (a_variable (len_utf8 c + run_size is_xid_continue cs))
    (other n c cs (is_xid_start c) (Token Word (len_utf8 c + run_size is_xid_continue cs)) _ (a_word (len_utf8 c + run_size is_xid_continue cs))
    (other n c cs (c == 47 && starts_with 42 cs) (comment_front 2 (tail cs)) _ (a_comment 2 (tail cs))
    (other n c cs (c == 46 && ends_stop cs) (Token Stop (len_utf8 c)) _ (a_stop (len_utf8 c))
    (other n c cs (is_symbol c) (Token Word (len_utf8 c + run_size is_symbol cs)) _ (a_word (len_utf8 c + run_size is_symbol cs))
    (other n c cs (is_solo c) (Token Word (len_utf8 c)) _ (a_word (len_utf8 c))
    (other n c cs (is_punct c) (Token Punct (len_utf8 c)) _ (a_punct (len_utf8 c))
    (at_quote n c cs (c == 39) (cond (c == 34) (Offends StringOut 0) (Offends BadCharacter 0)) refl
    (either (c == 34) (Offends StringOut 0) (Offends BadCharacter 0) (a_fault StringOut 0) (a_fault BadCharacter 0))))))))))))

no_letter : is_xid_start 39 ≡ false
no_letter = is_xid_start-ascii 39 (omega arith)

pub quote_front : (cs : List ℕ) → front_at 39 cs ≡ quoted_front Between 1 cs
unfolding begins_variable is_symbol is_punct
quote_front cs = rw no_letter refl

record Quotation (cs : List ℕ) (n : ℕ) : Type 0 where
  behind : List ℕ
  split : cs ≡ 39 ∷ behind
  front : quoted_front Between 1 behind ≡ Token Quoted n

quotation : (cs : List ℕ) (n : ℕ) → front_by cs ≡ Token Quoted n → Quotation cs n
quotation [] n e = absurd (cc)
quotation (c ∷ cs) n e = let q = only_quote n c cs e in record { behind = cs; split = ap (λ (x : ℕ). x ∷ cs) q.quote; front = q.front }

pub size-length : (cs : List ℕ) → size cs ≡ length (encode_utf8_all cs)
size-length [] = refl
size-length (c ∷ cs) = omega (arith, size-length cs, length-append (encode_utf8 c) (encode_utf8_all cs), length-encode c)

scalars_before : (xs ys : List ℕ) → all_scalars (xs ++ ys) ≡ true → all_scalars xs ≡ true
scalars_before [] ys h = refl
scalars_before (x ∷ xs) ys h = let p = and_parts (scalar x) (all_scalars (xs ++ ys)) h in and_from (scalar x) (all_scalars xs) p.0 (scalars_before xs ys p.1)

-- the atom alone
alone_is : (inner rest : List ℕ) → 39 ∷ (inner ++ 39 ∷ rest) ≡ (39 ∷ (inner ++ 39 ∷ [])) ++ rest
alone_is inner rest = ap (λ (l : List ℕ). 39 ∷ l) (sym (append_assoc inner (39 ∷ []) rest))

value_is : (text inner spelled rest : List ℕ) (n : ℕ) → IsUtf8 text → chars text ≡ 39 ∷ (inner ++ 39 ∷ rest) → SpelledBy inner spelled → n ≡ length (encode_utf8_all (39 ∷ (inner ++ 39 ∷ [])))
    → unquoted (take n text) ≡ encode_utf8_all spelled
unfolding unquoted
value_is text inner spelled rest n u split by size =
    let atom : List ℕ = 39 ∷ (inner ++ 39 ∷ []) in
    let whole : chars text ≡ atom ++ rest = split ∙ alone_is inner rest in
    let bytes : text ≡ encode_utf8_all atom ++ encode_utf8_all rest = sym (encodes-chars text u) ∙ ap encode_utf8_all whole ∙ encodes-append atom rest in
    let first : take n text ≡ encode_utf8_all atom = ap (λ (l : List ℕ). take n l) bytes ∙ take_at (encode_utf8_all atom) (encode_utf8_all rest) n (sym size) in
    let scalars : all_scalars atom ≡ true = scalars_before atom rest (ap all_scalars (sym whole) ∙ scalars-chars text u) in
    let characters : chars (take n text) ≡ atom = ap (λ (l : List ℕ). chars l) first ∙ chars-encodes atom scalars in
    ap (λ (l : List ℕ). encode_utf8_all (quoted_spells Between (tail l))) characters ∙ ap encode_utf8_all (spells_spelled by [] refl)

reads : (text : List ℕ) (n : ℕ) → IsUtf8 text → front_of text ≡ Token Quoted n → BeginsQuoted text n
unfolding front_of
reads text n u e =
    let q = quotation (chars text) n e in
    let i = wanted q.behind Between 1 n q.front in
    let m = 1 + size i.inner + 1 in
    let split : chars text ≡ 39 ∷ (i.inner ++ 39 ∷ i.rest) = q.split ∙ ap (λ (l : List ℕ). 39 ∷ l) i.split in
    let read : quoted_front Between 1 q.behind ≡ Token Quoted m = ap (λ (l : List ℕ). quoted_front Between 1 l) i.split ∙ front_spelled i.by 1 m i.rest i.alone refl in
    let both : Token Quoted n ≡ Token Quoted m = sym q.front ∙ read in
    let same : n ≡ m = cc in
    let sized : n ≡ length (encode_utf8_all (39 ∷ (i.inner ++ 39 ∷ []))) = omega (arith, same, size-length (39 ∷ (i.inner ++ 39 ∷ [])), size-append i.inner (39 ∷ [])) in
    record {
      inner = i.inner;
      spelled = i.spelled;
      rest = i.rest;
      split = split;
      by = i.by;
      alone = i.alone;
      size = sized;
      value = value_is text i.inner i.spelled i.rest n u split i.by sized;
    }

stands : (text : List ℕ) (n : ℕ) → BeginsQuoted text n → front_of text ≡ Token Quoted n
unfolding front_of
stands text n b =
    let sized : n ≡ 1 + size b.inner + 1 = omega (arith, b.size, size-length (39 ∷ (b.inner ++ 39 ∷ [])), size-append b.inner (39 ∷ [])) in
    ap front_by b.split ∙ quote_front (b.inner ++ 39 ∷ b.rest) ∙ front_spelled b.by 1 n b.rest b.alone sized

pub quoted_atoms : QuotedAtoms
quoted_atoms = λ text n u. (λ e. reads text n u e, λ b. stands text n b)
