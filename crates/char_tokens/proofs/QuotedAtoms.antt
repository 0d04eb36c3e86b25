-- Quoted atoms, from left to right.
use Rattle.std.proofs.Common.{◌≡◌, ℕ, ◌+◌, ◌*◌, ◌^◌, ◌<◌, ◌≤◌, List, [], ◌∷◌, ◌++◌, sym, ap, ◌∙◌, arith, append_assoc, append-nil}
use Rattle.std.specs.Char.{len_utf8}
use Rattle.std.proofs.Math.Nat.{pow-suc, pow-le-pow_right}
use Rattle.std.proofs.Math.Numerals.{add-one}
use Rattle.std.specs.Str.{encode_utf8_all}
use Rattle.std.proofs.lemmas.Str.{encodes-append}
use Rattle.char_tokens.specs.declared.quotation.Inside.{Inside as Held}
use Rattle.char_tokens.specs.declared.quotation.Inside.TheVariants as places
use Rattle.char_tokens.specs.Views.{IsHeld}
use Rattle.fd_language.specs.Tokens.{Inside, inside, spells, quoted_front, quoted_spells}

-- one more hexadecimal digit
pub digit_fits : (k v d : ℕ) → k < 6 → v < 16 ^ k → d < 16 → (v * 16 + d < 16 ^ (k + 1)) × (v * 16 + d < 16777216)
digit_fits k v d h l e =
    let next : 16 ^ (k + 1) ≡ 16 ^ k * 16 = rw add-one (pow-suc 16 k) in
    let small : 16 ^ k ≤ 16 ^ 5 = pow-le-pow_right {n = 16} (omega arith) {i = k} {j = 5} (omega arith) in
    (omega (arith, next), omega (arith, small))

-- past one more character
pub quoted_step : (p q : Inside) (n c : ℕ) (cs ds : List ℕ) → q ≡ inside p n c → ds ≡ c ∷ cs → quoted_front p n ds ≡ quoted_front q (n + len_utf8 c) cs
quoted_step p q n c cs ds h e = ap (λ (l : List ℕ). quoted_front p n l) e ∙ ap (λ (r : Inside). quoted_front r (n + len_utf8 c) cs) (sym h)

pub spells_step : (out new whole : List ℕ) (p q : Inside) (c : ℕ) (cs ds : List ℕ) → new ≡ out ++ encode_utf8_all (spells p c) → q ≡ inside p 0 c → ds ≡ c ∷ cs
    → out ++ encode_utf8_all (quoted_spells p ds) ≡ whole → new ++ encode_utf8_all (quoted_spells q cs) ≡ whole
spells_step out new whole p q c cs ds a h e so_far =
    ap (λ (l : List ℕ). l ++ encode_utf8_all (quoted_spells q cs)) a
    ∙ append_assoc out (encode_utf8_all (spells p c)) (encode_utf8_all (quoted_spells q cs))
    ∙ ap (λ (l : List ℕ). out ++ l) (sym (encodes-append (spells p c) (quoted_spells q cs)))
    ∙ ap (λ (r : Inside). out ++ encode_utf8_all (spells p c ++ quoted_spells r cs)) h
    ∙ ap (λ (l : List ℕ). out ++ encode_utf8_all (quoted_spells p l)) (sym e)
    ∙ so_far

-- behind the atom, or a fault, nothing more is spelled
pub spells_end : (out new whole : List ℕ) (p q : Inside) (c : ℕ) (cs ds : List ℕ) → new ≡ out ++ encode_utf8_all (spells p c) → q ≡ inside p 0 c → ds ≡ c ∷ cs
    → quoted_spells q cs ≡ [] → out ++ encode_utf8_all (quoted_spells p ds) ≡ whole → new ≡ whole
spells_end out new whole p q c cs ds a h e none so_far =
    sym (append-nil new) ∙ ap (λ (l : List ℕ). new ++ encode_utf8_all l) (sym none) ∙ spells_step out new whole p q c cs ds a h e so_far

pub still_held : (n m : ℕ) (p : Held) → IsHeld n p → IsHeld (n + m) p
still_held n m places.Between h = tt
still_held n m places.AfterQuote h = tt
still_held n m (places.AfterBackslash from) h = omega arith
still_held n m (places.AfterDigits from count value) h = (omega (arith, h.0), h.1, h.2)
