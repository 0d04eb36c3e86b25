-- Names in quotes, from their bytes to the names.
use Rattle.std.proofs.Common.{◌≡◌, ◌∙◌, ℕ, suc, ◌+◌, ◌<◌, ◌≤◌, ◌⊎◌, inl, inr, List, [], ◌∷◌, ◌++◌, Bool, true, false, refl, sym, ap, arith, append_assoc}
use Rattle.std.proofs.Common.{length, get_or, length-append}
use Rattle.std.specs.Prelude.{◌==◌, nat_lt, IsUtf8}
use Rattle.std.specs.Fmt.{digits}
use Rattle.std.specs.List.{list_all}
use Rattle.std.specs.Str.{chars}
use Rattle.std.proofs.lemmas.Bool.{ne_eqb, le-ltb, ltb-true, ltb-false, or_from, and_parts, and_from, agree_below, agree_below_at}
use Rattle.std.proofs.lemmas.List.{append-nil}
use Rattle.std.proofs.lemmas.Str.{chars-append, chars-encodes, encodes-chars, scalars-chars, encodes-append, encode_ascii, inside_one, length-encode}
use Rattle.std.proofs.Math.Utf8.{scalar, scalars, low_scalar}
use lib.Utf8.{encode, encodes}
use Rattle.fd_language.specs.Term.{Name}
use Rattle.fd_language.specs.Characters.{starts_with, tail}
use Rattle.fd_language.specs.Tokens.{Token, Quoted, Between, quoted_spells, front_of, front_by, unquoted}
use Rattle.fd_language.specs.TermTexts.{quoted_byte, quoted_bytes, quoted_name}
use Rattle.term_writer.proofs.QuotedCharacters.{stands, all_front, all_spells}
use Rattle.fd_language.proofs.Lemmas.{size, size-append, ends_here, quote_front}

is_low : ℕ → Bool
is_low b = nat_lt b 128

low_text : ℕ → Bool
low_text c = list_all is_low (quoted_byte c)

always : ℕ → Bool
always c = true

low_table : agree_below low_text always 128 ≡ true
unfolding low_text is_low always digits
low_table = refl

low_quoted : (c : ℕ) → c < 128 → low_text c ≡ true
unfolding always
low_quoted c h = agree_below_at low_text always 128 c low_table h

low_encodes : (xs : List ℕ) → list_all is_low xs ≡ true → (encodes xs ≡ xs) × (scalars xs ≡ true)
unfolding is_low
low_encodes [] h = (refl, refl)
low_encodes (x ∷ xs) h =
    let parts = and_parts (nat_lt x 128) (list_all is_low xs) h in
    let small : x < 128 = ltb-true x 128 parts.0 in
    let rest = low_encodes xs parts.1 in
    (ap (λ (w : List ℕ). w ++ encodes xs) (encode_ascii x small) ∙ ap (λ (w : List ℕ). x ∷ w) rest.0, and_from (scalar x) (scalars xs) (low_scalar x (omega arith)) rest.1)

high_stands : (c : ℕ) → 128 ≤ c → quoted_byte c ≡ c ∷ []
high_stands c h =
    stands c (ne_eqb c 92 (λ e. omega arith)) (ne_eqb c 39 (λ e. omega arith)) (ne_eqb c 10 (λ e. omega arith)) (ne_eqb c 9 (λ e. omega arith)) (ne_eqb c 13 (λ e. omega arith))
    (or_from (nat_lt c 32) (c == 127) (le-ltb c 32 (omega arith)) (ne_eqb c 127 (λ e. omega arith)))

pub high_bytes : (bs : List ℕ) → ((k : ℕ) → k < length bs → 128 ≤ get_or bs k 0) → quoted_bytes bs ≡ bs
high_bytes [] h = refl
high_bytes (b ∷ bs) h =
    ap (λ (w : List ℕ). w ++ quoted_bytes bs) (high_stands b (h 0 (omega arith)))
    ∙ ap (λ (w : List ℕ). b ∷ w) (high_bytes bs (λ k l. h (suc k) (omega arith)))

pub low_or_high : (c : ℕ) → (c < 128) ⊎ (128 ≤ c)
low_or_high c = go (nat_lt c 128) refl
  where
    go : (b : Bool) → nat_lt c 128 ≡ b → (c < 128) ⊎ (128 ≤ c)
    go true e = inl (ltb-true c 128 e)
    go false e = inr (ltb-false c 128 e)

pub high_encode : (c : ℕ) → 128 ≤ c → (k : ℕ) → k < length (encode c) → 128 ≤ get_or (encode c) k 0
high_encode c h k l = go (low_or_high (get_or (encode c) k 0))
  where
    go : (get_or (encode c) k 0 < 128) ⊎ (128 ≤ get_or (encode c) k 0) → 128 ≤ get_or (encode c) k 0
    go (inl small) = let same : c ≡ get_or (encode c) k 0 = inside_one c [] (encode c) k (sym (append-nil (encode c))) l small in absurd (omega arith)
    go (inr big) = big

-- a character's text inside quotes, in bytes
character_encodes : (c : ℕ) → encodes (quoted_byte c) ≡ quoted_bytes (encode c)
unfolding low_text
character_encodes c = go (low_or_high c)
  where
    go : (c < 128) ⊎ (128 ≤ c) → encodes (quoted_byte c) ≡ quoted_bytes (encode c)
    go (inl h) = (low_encodes (quoted_byte c) (low_quoted c h)).0 ∙ sym (append-nil (quoted_byte c)) ∙ ap quoted_bytes (sym (encode_ascii c h))
    go (inr h) = ap encodes (high_stands c h) ∙ append-nil (encode c) ∙ sym (high_bytes (encode c) (high_encode c h))

character_scalars : (c : ℕ) → scalar c ≡ true → scalars (quoted_byte c) ≡ true
unfolding low_text
character_scalars c s = go (low_or_high c)
  where
    go : (c < 128) ⊎ (128 ≤ c) → scalars (quoted_byte c) ≡ true
    go (inl h) = (low_encodes (quoted_byte c) (low_quoted c h)).1
    go (inr h) = ap scalars (high_stands c h) ∙ and_from (scalar c) true s refl

pub quoted-append : (xs ys : List ℕ) → quoted_bytes (xs ++ ys) ≡ quoted_bytes xs ++ quoted_bytes ys
quoted-append [] ys = refl
quoted-append (x ∷ xs) ys = ap (λ (w : List ℕ). quoted_byte x ++ w) (quoted-append xs ys) ∙ sym (append_assoc (quoted_byte x) (quoted_bytes xs) (quoted_bytes ys))

scalars-append : (xs ys : List ℕ) → scalars xs ≡ true → scalars ys ≡ true → scalars (xs ++ ys) ≡ true
scalars-append [] ys h k = k
scalars-append (x ∷ xs) ys h k = let parts = and_parts (scalar x) (scalars xs) h in and_from (scalar x) (scalars (xs ++ ys)) parts.0 (scalars-append xs ys parts.1 k)

all_encodes : (cs : List ℕ) → encodes (quoted_bytes cs) ≡ quoted_bytes (encodes cs)
all_encodes [] = refl
all_encodes (c ∷ cs) =
    encodes-append (quoted_byte c) (quoted_bytes cs) ∙ ap (λ (w : List ℕ). w ++ encodes (quoted_bytes cs)) (character_encodes c)
    ∙ ap (λ (w : List ℕ). quoted_bytes (encode c) ++ w) (all_encodes cs) ∙ sym (quoted-append (encode c) (encodes cs))

all_scalars : (cs : List ℕ) → scalars cs ≡ true → scalars (quoted_bytes cs) ≡ true
all_scalars [] h = refl
all_scalars (c ∷ cs) h =
    let parts = and_parts (scalar c) (scalars cs) h in
    scalars-append (quoted_byte c) (quoted_bytes cs) (character_scalars c parts.0) (all_scalars cs parts.1)

-- the characters of a name in quotes
module _ (a : Name) (u : IsUtf8 a) where
  spelled : List ℕ
  spelled = 39 ∷ (quoted_bytes (chars a) ++ 39 ∷ [])

  spelled_bytes : encodes spelled ≡ quoted_name a
  unfolding spelled
  spelled_bytes =
      ap (λ (w : List ℕ). w ++ encodes (quoted_bytes (chars a) ++ 39 ∷ [])) (encode_ascii 39 (omega arith))
      ∙ ap (λ (w : List ℕ). 39 ∷ w)
      (encodes-append (quoted_bytes (chars a)) (39 ∷ []) ∙ ap (λ (w : List ℕ). w ++ encodes (39 ∷ [])) (all_encodes (chars a) ∙ ap quoted_bytes (encodes-chars a u))
      ∙ ap (λ (w : List ℕ). quoted_bytes a ++ (w ++ [])) (encode_ascii 39 (omega arith)))

  spelled_scalars : scalars spelled ≡ true
  unfolding spelled
  spelled_scalars = scalars-append (quoted_bytes (chars a)) (39 ∷ []) (all_scalars (chars a) (scalars-chars a u)) refl

  quoted_chars : chars (quoted_name a) ≡ 39 ∷ (quoted_bytes (chars a) ++ 39 ∷ [])
  unfolding spelled
  quoted_chars = ap chars (sym spelled_bytes) ∙ chars-encodes spelled spelled_scalars

  pub quoted_utf8 : IsUtf8 (quoted_name a)
  quoted_utf8 = (spelled, (spelled_scalars, spelled_bytes))

pub name_of : (a : Name) → IsUtf8 a → unquoted (quoted_name a) ≡ a
unfolding unquoted
name_of a u =
    ap (λ (cs : List ℕ). encodes (quoted_spells Between (tail cs))) (quoted_chars a u)
    ∙ ap encodes (all_spells (chars a) (39 ∷ []) ∙ append-nil (chars a)) ∙ encodes-chars a u

pub sizes : (cs : List ℕ) → size cs ≡ length (encodes cs)
sizes [] = refl
sizes (c ∷ cs) = omega (arith, sizes cs, length-append (encode c) (encodes cs), length-encode c)

pub token_of : (a : Name) (r : List ℕ) → IsUtf8 a → starts_with 39 (chars r) ≡ false → front_of (quoted_name a ++ r) ≡ Token Quoted (length (quoted_name a))
unfolding front_of spelled
token_of a r u h =
    let inner : List ℕ = quoted_bytes (chars a) in
    let whole : chars (quoted_name a ++ r) ≡ 39 ∷ (inner ++ 39 ∷ chars r) =
    chars-append (quoted_name a) r (quoted_utf8 a u) ∙ ap (λ (w : List ℕ). w ++ chars r) (quoted_chars a u) ∙ ap (λ (w : List ℕ). 39 ∷ w) (append_assoc inner (39 ∷ []) (chars r)) in
    let count : 1 + size inner + 1 ≡ length (quoted_name a) =
    omega (arith, size-append inner (39 ∷ []), sizes (39 ∷ (inner ++ 39 ∷ [])), ap length (spelled_bytes a u)) in
    ap front_by whole ∙ quote_front (inner ++ 39 ∷ chars r) ∙ all_front (chars a) 1 (39 ∷ chars r) ∙ ends_here (1 + size inner + 1) (chars r) h
    ∙ ap (λ (n : ℕ). Token Quoted n) count
