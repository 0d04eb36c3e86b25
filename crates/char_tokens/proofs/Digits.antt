-- The number that digits spell, from left to right.
use Rattle.std.proofs.Common.{◌≡◌, ℕ, ◌+◌, ◌*◌, ◌<◌, ◌≤◌, List, [], ◌∷◌, ◌++◌, Option, Some, None, Bool, true, false, cond, refl, sym, ap, subst, ◌∙◌, arith}
use Rattle.std.proofs.Common.{length, drop, length-drop}
use Rattle.std.specs.Prelude.{encode_utf8, nat_le, ◌==◌, ◌&&◌, ℤ, pos}
use Rattle.std.specs.Char.{digit_value, len_utf8}
use Rattle.std.specs.Str.{chars, IsUtf8}
use Rattle.std.proofs.lemmas.List.{drop-drop}
use Rattle.std.proofs.lemmas.Bool.{leb-true, leb-false, le-leb, lt-leb, le-ltb}
use Rattle.std.proofs.lemmas.Str.{chars_past_char, chars-nil}
use Rattle.std.proofs.Math.Nat.{mul-le-mul_left}
use Rattle.fd_language.specs.Characters.{is_digit_of, starts_with, run_size, past_run, digits_value}
use Rattle.fd_language.specs.Tokens as model
use Rattle.fd_language.specs.Tokens.{Gap, Token, Offends, Integer, FloatOut, BadCharacter, IntegerTooWide, greatest_integer, has_fraction, number_front}
use Rattle.fd_language.specs.Tokens.{decimal_front}
use Rattle.char_tokens.specs.declared.front.Front.{Front}
use Rattle.char_tokens.specs.declared.front.Front.TheVariants as fronts
use Rattle.char_tokens.specs.Views.{next_integer, integer_of, front_is, kind_of, cause_of, IsBehind}
use Rattle.char_tokens.proofs.Runs.{IsAt}

-- more digits make no smaller number
bigger : (base n d : ℕ) → 1 ≤ base → n ≤ n * base + d
bigger base n d h = omega (arith, mul-le-mul_left {m = 1} {n = base} n h)

either : (b : Bool) (n x y : ℕ) → n ≤ x → n ≤ y → n ≤ cond b x y
either true n x y h k = h
either false n x y h k = k

pub value_grows : (base n : ℕ) (cs : List ℕ) → 1 ≤ base → n ≤ digits_value base n cs
value_grows base n [] h = omega arith
value_grows base n (c ∷ cs) h =
    let here = bigger base n (digit_value c) h in
    let later = value_grows base (n * base + digit_value c) cs h in
    either (is_digit_of base c) n (digits_value base (n * base + digit_value c) cs) n (omega arith) (omega arith)

pub value_here : (base n c : ℕ) (cs : List ℕ) → is_digit_of base c ≡ true → digits_value base n (c ∷ cs) ≡ digits_value base (n * base + digit_value c) cs
value_here base n c cs h = rw h refl

-- what a reader knows of the number: it is too great already, or the digits cs that follow complete it
abbrev pub SoFarBy : ℕ → Option ℕ → List ℕ → List ℕ → Type 0
SoFarBy base None cs ds = greatest_integer < digits_value base 0 ds
SoFarBy base (Some v) cs ds = (v ≤ greatest_integer) × (digits_value base v cs ≡ digits_value base 0 ds)

pub record SoFar (base : ℕ) (o : Option ℕ) (cs ds : List ℕ) : Type 0 where
  pub by : SoFarBy base o cs ds

picked : (base v : ℕ) (cs ds : List ℕ) → 1 ≤ base → digits_value base v cs ≡ digits_value base 0 ds → (b : Bool) → nat_le v greatest_integer ≡ b → SoFar base (cond b (Some v) None) cs ds
picked base v cs ds h e true l = record { by = (leb-true v greatest_integer l, e) }
picked base v cs ds h e false l = record { by = omega (arith, leb-false v greatest_integer l, value_grows base v cs h, e) }

pub so_far_step : (base : ℕ) (o : Option ℕ) (c : ℕ) (cs ds : List ℕ) → 1 ≤ base → is_digit_of base c ≡ true → SoFar base o (c ∷ cs) ds → SoFar base (next_integer base o (digit_value c)) cs ds
so_far_step base None c cs ds h d s = record { by = s.by }
so_far_step base (Some v) c cs ds h d s =
    picked base (v * base + digit_value c) cs ds h (sym (value_here base v c cs d) ∙ s.by.1) (nat_le (v * base + digit_value c) greatest_integer) refl

-- no digit stands at the front
pub record NoDigit (base : ℕ) (cs : List ℕ) : Type 0 where
  pub size : run_size (is_digit_of base) cs ≡ 0
  pub past : past_run (is_digit_of base) cs ≡ cs
  pub value : (n : ℕ) → digits_value base n cs ≡ n

pub no_digit_none : (base : ℕ) (bs : List ℕ) → bs ≡ [] → NoDigit base (chars bs)
no_digit_none base bs e = subst (λ (cs : List ℕ). NoDigit base cs) (sym (ap chars e ∙ chars-nil)) (record { size = refl; past = refl; value = λ n. refl })

pub no_digit_other : (base : ℕ) (bs rest : List ℕ) (c : ℕ) → IsUtf8 bs → bs ≡ encode_utf8 c ++ rest → base ≤ digit_value c → NoDigit base (chars bs)
no_digit_other base bs rest c u e h =
    let no : is_digit_of base c ≡ false = le-ltb (digit_value c) base h in
    subst (λ (cs : List ℕ). NoDigit base cs) (sym (chars_past_char bs rest c u e)) (record { size = rw no refl; past = rw no refl; value = λ n. rw no refl })

pub value_read : (base : ℕ) (o : Option ℕ) (cs ds : List ℕ) → NoDigit base cs → SoFar base o cs ds → o ≡ integer_of (digits_value base 0 ds)
value_read base None cs ds n s = rw (lt-leb (digits_value base 0 ds) greatest_integer s.by) refl
value_read base (Some v) cs ds n s = subst (λ (m : ℕ). Some v ≡ integer_of m) (sym (n.value v) ∙ s.by.1) (rw (le-leb v greatest_integer s.by.0) refl)

pub decimal_float : (c : ℕ) (cs : List ℕ) → has_fraction (past_run (is_digit_of 10) cs) ≡ true → decimal_front c cs ≡ Offends FloatOut 0
decimal_float c cs h = rw h refl

pub decimal_number : (c : ℕ) (cs : List ℕ) → has_fraction (past_run (is_digit_of 10) cs) ≡ false → (c == 48 && starts_with 39 cs) ≡ false
    → decimal_front c cs ≡ number_front (digits_value 10 0 (c ∷ cs)) (len_utf8 c + run_size (is_digit_of 10) cs)
decimal_number c cs h k = rw (h, k) refl

pub decimal_code : (c : ℕ) (cs : List ℕ) → has_fraction (past_run (is_digit_of 10) cs) ≡ false → (c == 48 && starts_with 39 cs) ≡ true → decimal_front c cs ≡ Offends BadCharacter 1
decimal_code c cs h k = rw (h, k) refl

-- a number's front has its size, where it is an integer
size_is : (k : model.Kind) (z : ℤ) (n size : ℕ) (b : Bool) → Token k n ≡ cond b (Token (Integer z) size) (Offends IntegerTooWide 0) → n ≡ size
size_is k z n size true e = cc
size_is k z n size false e = absurd (cc)

place_is : (k : model.Cause) (z : ℤ) (n size : ℕ) (b : Bool) → Offends k n ≡ cond b (Token (Integer z) size) (Offends IntegerTooWide 0) → n ≡ 0
place_is k z n size true e = absurd (cc)
place_is k z n size false e = cc

pub behind_number : (text rest : List ℕ) (f : Front) (v size : ℕ) → front_is f ≡ number_front v size → size ≤ length text → rest ≡ drop size text → IsBehind text f rest
behind_number text rest fronts.Ends v size e l r = tt
behind_number text rest (fronts.Gap n) v size e l r = not_gap n (nat_le v greatest_integer) e
  where
    not_gap : (n : ℕ) (b : Bool) → Gap n ≡ cond b (Token (Integer (pos v)) size) (Offends IntegerTooWide 0) → IsBehind text (fronts.Gap n) rest
    not_gap n true h = absurd (cc)
    not_gap n false h = absurd (cc)
behind_number text rest (fronts.Token k n) v size e l r =
    let same : n ≡ size = size_is (kind_of k) (pos v) n size (nat_le v greatest_integer) e in
    (omega arith, r ∙ ap (λ (m : ℕ). drop m text) (sym same))
behind_number text rest (fronts.Offends cause n) v size e l r = omega (arith, place_is (cause_of cause) (pos v) n size (nat_le v greatest_integer) e)

-- past two characters and a number
pub past_two : (text behind rest last : List ℕ) (size : ℕ) → IsAt text 1 behind → rest ≡ drop 1 behind → 1 ≤ length behind → last ≡ drop size rest
    → size ≤ length rest → (2 + size ≤ length text) × (last ≡ drop (2 + size) text)
past_two text behind rest last size i r l e w = (
  omega (arith, i.within, l, w, ap (λ (x : List ℕ). length x) r, ap (λ (x : List ℕ). length x) i.rest_is, length-drop 1 text, length-drop 1 behind),
  e ∙ ap (λ (x : List ℕ). drop size x) (r ∙ ap (λ (x : List ℕ). drop 1 x) i.rest_is ∙ drop-drop 1 1 text) ∙ drop-drop size 2 text,
)
