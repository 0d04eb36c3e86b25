-- Runs of characters, from left to right.
use Rattle.std.proofs.Common.{◌≡◌, ℕ, ◌+◌, ◌<◌, ◌≤◌, List, [], ◌∷◌, ◌++◌, length, drop, Bool, true, false, refl, sym, ap, subst, eqb-true, ◌∙◌, arith}
use Rattle.std.proofs.Common.{length-append, length-drop}
use Rattle.std.specs.Prelude.{encode_utf8, ◌==◌, ◌&&◌}
use Rattle.std.specs.Char.{len_utf8}
use Rattle.std.specs.Str.{chars, IsUtf8, encode_utf8_all, all_scalars}
use Rattle.std.proofs.lemmas.Str.{chars_past_char, length-encode, drop_past_char, chars-nil, IsUtf8-past_char, encode_ascii, len_utf8_ascii}
use Rattle.fd_language.specs.Characters.{run_size, past_run, starts_with}
use Rattle.fd_language.specs.Tokens.{comment_front}

-- rest is the text behind so many bytes
pub record IsAt (text : List ℕ) (size : ℕ) (rest : List ℕ) : Type 0 where
  pub rest_is : rest ≡ drop size text
  pub within : size ≤ length text
  pub utf8 : IsUtf8 rest

-- past one more character
pub at_next : (text rest behind : List ℕ) (size c : ℕ) → IsAt text size rest → rest ≡ encode_utf8 c ++ behind → IsAt text (size + len_utf8 c) behind
at_next text rest behind size c i split =
    let sizes : length rest ≡ len_utf8 c + length behind = ap (λ (l : List ℕ). length l) split ∙ length-append (encode_utf8 c) behind ∙ ap (λ (n : ℕ). n + length behind) (length-encode c) in
    record {
      rest_is = sym (drop_past_char text behind size c (sym i.rest_is ∙ split));
      within = omega (arith, i.within, sizes, ap (λ (l : List ℕ). length l) i.rest_is, length-drop size text);
      utf8 = IsUtf8-past_char rest behind c i.utf8 split;
    }

pub shorter : (rest behind : List ℕ) (c : ℕ) → rest ≡ encode_utf8 c ++ behind → length rest ≡ len_utf8 c + length behind
shorter rest behind c split = ap (λ (l : List ℕ). length l) split ∙ length-append (encode_utf8 c) behind ∙ ap (λ (n : ℕ). n + length behind) (length-encode c)

pub run_here : (p : ℕ → Bool) (bs rest : List ℕ) (c : ℕ) → IsUtf8 bs → bs ≡ encode_utf8 c ++ rest → p c ≡ true → run_size p (chars bs) ≡ len_utf8 c + run_size p (chars rest)
run_here p bs rest c u e h = ap (λ (cs : List ℕ). run_size p cs) (chars_past_char bs rest c u e) ∙ rw h refl

pub run_ends : (p : ℕ → Bool) (bs rest : List ℕ) (c : ℕ) → IsUtf8 bs → bs ≡ encode_utf8 c ++ rest → p c ≡ false → run_size p (chars bs) ≡ 0
run_ends p bs rest c u e h = ap (λ (cs : List ℕ). run_size p cs) (chars_past_char bs rest c u e) ∙ rw h refl

pub run_none : (p : ℕ → Bool) (bs : List ℕ) → bs ≡ [] → run_size p (chars bs) ≡ 0
run_none p bs e = ap (λ (l : List ℕ). run_size p (chars l)) e ∙ ap (λ (cs : List ℕ). run_size p cs) chars-nil

pub past_here : (p : ℕ → Bool) (bs rest : List ℕ) (c : ℕ) → IsUtf8 bs → bs ≡ encode_utf8 c ++ rest → p c ≡ true → past_run p (chars bs) ≡ past_run p (chars rest)
past_here p bs rest c u e h = ap (λ (cs : List ℕ). past_run p cs) (chars_past_char bs rest c u e) ∙ rw h refl

-- The text begins with the ASCII character c.
pub record AsciiFirst (c : ℕ) (text : List ℕ) : Type 0 where
  pub within : 1 ≤ length text
  pub split : text ≡ encode_utf8 c ++ drop 1 text
  pub utf8 : IsUtf8 (drop 1 text)
  pub characters : chars text ≡ c ∷ chars (drop 1 text)

pub first_is : (c : ℕ) (text rest : List ℕ) → c < 128 → IsUtf8 text → text ≡ encode_utf8 c ++ rest → AsciiFirst c text
first_is c text rest low u e =
    let behind : text ≡ c ∷ rest = e ∙ ap (λ (l : List ℕ). l ++ rest) (encode_ascii c low) in
    let same : rest ≡ drop 1 text = sym (ap (λ (l : List ℕ). drop 1 l) behind) in
    let split : text ≡ encode_utf8 c ++ drop 1 text = e ∙ ap (λ (l : List ℕ). encode_utf8 c ++ l) same in
    record {
      within = omega (arith, ap (λ (l : List ℕ). length l) behind);
      split = split;
      utf8 = IsUtf8-past_char text (drop 1 text) c u split;
      characters = chars_past_char text (drop 1 text) c u split;
    }

pub starts_ascii : (c : ℕ) (text : List ℕ) → c < 128 → IsUtf8 text → starts_with c (chars text) ≡ true → AsciiFirst c text
starts_ascii c text low u h = by u.0 u.1.0 u.1.1
  where
    by : (cs : List ℕ) → all_scalars cs ≡ true → encode_utf8_all cs ≡ text → AsciiFirst c text
    by [] s e = absurd (cc (ap (λ (l : List ℕ). starts_with c (chars l)) (sym e) ∙ ap (λ (l : List ℕ). starts_with c l) chars-nil))
    by (d ∷ ds) s e =
        let characters : chars text ≡ d ∷ chars (encode_utf8_all ds) = chars_past_char text (encode_utf8_all ds) d u (sym e) in
        let same : d ≡ c = eqb-true d c (ap (λ (l : List ℕ). starts_with c l) (sym characters) ∙ h) in
        first_is c text (encode_utf8_all ds) low u (sym e ∙ ap (λ (k : ℕ). encode_utf8 k ++ encode_utf8_all ds) same)

-- past an ASCII character
pub at_ascii : (text rest : List ℕ) (size c : ℕ) → c < 128 → IsAt text size rest → AsciiFirst c rest → IsAt text (size + 1) (drop 1 rest)
at_ascii text rest size c low i f = subst (λ (n : ℕ). IsAt text (size + n) (drop 1 rest)) (len_utf8_ascii c low) (at_next text rest (drop 1 rest) size c i f.split)

pub at_first : (text rest : List ℕ) (c : ℕ) → text ≡ c ∷ rest → IsUtf8 rest → IsAt text 1 rest
at_first text rest c e u = record {
  rest_is = sym (ap (λ (l : List ℕ). drop 1 l) e);
  within = omega (arith, ap (λ (l : List ℕ). length l) e);
  utf8 = u;
}

-- a comment goes on
pub comment_on : (n c : ℕ) (cs ds : List ℕ) → ds ≡ c ∷ cs → (c == 42 && starts_with 47 cs) ≡ false → comment_front n ds ≡ comment_front (n + len_utf8 c) cs
comment_on n c cs ds e h = ap (λ (l : List ℕ). comment_front n l) e ∙ rw h refl
