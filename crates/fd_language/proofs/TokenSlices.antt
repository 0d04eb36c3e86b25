-- Tokens are slices of their text.
use Rattle.std.proofs.Common.{◌≡◌, ◌∙◌, ℕ, zero, suc, ◌+◌, ◌<◌, ◌≤◌, List, [], ◌∷◌, Bool, refl, sym, ap, arith, length, drop, take, length-drop}
use Rattle.std.proofs.lemmas.List.{drop-drop}
use Rattle.fd_language.specs.Tokens.{Kind, Lexeme, Ends, Token, front_of, HasTokens, ended, after_gap, after_token, TokensOf}
use Rattle.fd_language.specs.TokenSlices.{AreSlices}
use Rattle.fd_language.proofs.TokenLaws.{front_empty, token_grows}

not_empty : (bytes : List ℕ) (k : Kind) (n : ℕ) → front_of bytes ≡ Token k n → 0 < length bytes
not_empty [] k n e = let ends : Ends ≡ Token k n = sym front_empty ∙ e in absurd (cc)
not_empty (b ∷ bytes) k n e = omega arith

take_whole : (n : ℕ) (xs : List ℕ) → take n xs ≡ take (length (take n xs)) xs
take_whole zero xs = refl
take_whole (suc n) [] = refl
take_whole (suc n) (x ∷ xs) = ap (λ (l : List ℕ). x ∷ l) (take_whole n xs)

-- of no more than n elements, and of some where there are some
taken : (n : ℕ) (xs : List ℕ) → (length (take n xs) ≤ n) × (length (take n xs) ≤ length xs)
taken zero xs = (omega arith, omega arith)
taken (suc n) [] = (omega arith, omega arith)
taken (suc n) (x ∷ xs) = let t = taken n xs in (omega (arith, t.0), omega (arith, t.1))

takes_some : (n : ℕ) (xs : List ℕ) → 0 < n → 0 < length xs → 0 < length (take n xs)
takes_some zero xs h k = absurd (omega arith)
takes_some (suc n) [] h k = absurd (omega arith)
takes_some (suc n) (x ∷ xs) h k = omega arith

slices : {at : ℕ} {tight : Bool} {bytes : List ℕ} {ts : List Lexeme} → HasTokens at tight bytes ts → (text : List ℕ) (from : ℕ) → bytes ≡ drop at text → from ≤ at → AreSlices text from ts
slices (ended e) text from b l = tt
slices {at = at} {bytes = bytes} (after_gap n e h) text from b l = slices h text from (ap (λ (xs : List ℕ). drop n xs) b ∙ drop-drop n at text) (omega arith)
slices {at = at} {bytes = bytes} (after_token k n e h) text from b l =
    let size = length (take n bytes) in
    let sizes = taken n bytes in (
      l,
      takes_some n bytes (token_grows bytes k n e) (not_empty bytes k n e),
      omega (arith, sizes.1, not_empty bytes k n e, ap (λ (xs : List ℕ). length xs) b, length-drop at text),
      take_whole n bytes ∙ ap (λ (xs : List ℕ). take size xs) b,
      slices h text (at + size) (ap (λ (xs : List ℕ). drop n xs) b ∙ drop-drop n at text) (omega (arith, sizes.0)),
    )

pub tokens_are_slices : (text : List ℕ) (ts : List Lexeme) → TokensOf text ts → AreSlices text 0 ts
tokens_are_slices text ts h = slices h text 0 refl (omega arith)
