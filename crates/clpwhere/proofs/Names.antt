-- Bytes that are one name.
use Rattle.std.proofs.Common.{◌≡◌, ◌∙◌, ℕ, ◌<◌, ◌≤◌, Bool, true, false, List, [], refl, sym, ap, subst, arith, length, length-drop, length-take-le}
use Rattle.std.specs.Prelude.{◌==◌, ◌&&◌}
use Rattle.std.specs.Str.{is_utf8, IsUtf8}
use Rattle.std.proofs.lemmas.Str.{is_utf8-from_IsUtf8, IsUtf8-from_is_utf8}
use Rattle.std.proofs.lemmas.Bool.Decides.{nat_tests}
use Rattle.fd_language.specs.Tokens.{Kind, Cause, Lexeme, Token, Offends, front_of, HasTokens, ended, after_gap}
use Rattle.fd_language.proofs.Lemmas.{gap_grows}
use Rattle.char_tokens.specs.declared.token.TokenFault.{TokenFault}
use Rattle.char_tokens.specs.declared.token.TokenFault.TheVariants as faults
use Rattle.char_tokens.specs.UnreadText.{Left}
use Rattle.char_tokens.specs.NextTokens.{AreGaps, no_gap, a_gap, IsNext, Refuses}
use Rattle.clpwhere.specs.Functors.{is_name, is_name_front, is_name_kind}
use Rattle.clpwhere.proofs.BeforePlace.{some_gap}

differ : (a b : ℕ) → a < b → (a == b) ≡ false
differ a b l = grind (arith, nat_tests)

gaps_shrink : {at : ℕ} {tight : Bool} {bytes : List ℕ} {from : ℕ} {late : Bool} {rest : List ℕ} → AreGaps at tight bytes from late rest → length rest ≤ length bytes
gaps_shrink no_gap = omega arith
gaps_shrink {bytes = bytes} (a_gap n e g) = omega (arith, gaps_shrink g, length-drop n bytes)

-- the first token is the whole where it is as long as the bytes
gaps_name : {at : ℕ} {tight : Bool} {bytes : List ℕ} {from : ℕ} {late : Bool} {rest : List ℕ} (size long : ℕ) (k : Kind) → AreGaps at tight bytes from late rest
    → front_of rest ≡ Token k size → size ≤ length rest → long ≡ size → is_name_front (length bytes) (front_of bytes) ≡ (long == length bytes && is_name_kind k)
gaps_name {bytes = bytes} size long k no_gap f w l = ap (is_name_front (length bytes)) f ∙ ap (λ n. n == length bytes && is_name_kind k) (sym l)
gaps_name {bytes = bytes} size long k (a_gap n e g) f w l =
    let short : long < length bytes = omega (arith, l, w, gaps_shrink g, length-drop n bytes, gap_grows bytes n e, some_gap bytes n e) in
    ap (is_name_front (length bytes)) e ∙ sym (ap (λ t. t && is_name_kind k) (differ long (length bytes) short))

gaps_fault : {at : ℕ} {tight : Bool} {bytes : List ℕ} {from : ℕ} {late : Bool} {rest : List ℕ} (cause : Cause) (n : ℕ) → AreGaps at tight bytes from late rest
    → front_of rest ≡ Offends cause n → is_name_front (length bytes) (front_of bytes) ≡ false
gaps_fault {bytes = bytes} cause n no_gap f = ap (is_name_front (length bytes)) f
gaps_fault {bytes = bytes} cause n (a_gap m e g) f = ap (is_name_front (length bytes)) e

in_utf8 : (bytes : List ℕ) → IsUtf8 bytes → is_name bytes ≡ is_name_front (length bytes) (front_of bytes)
in_utf8 bytes u = ap (λ t. t && is_name_front (length bytes) (front_of bytes)) (is_utf8-from_IsUtf8 bytes u)

pub no_text : (bytes : List ℕ) → (IsUtf8 bytes → ⊥) → false ≡ is_name bytes
no_text bytes f = by_test (is_utf8 bytes) refl
  where
    by_test : (t : Bool) → is_utf8 bytes ≡ t → false ≡ (t && is_name_front (length bytes) (front_of bytes))
    by_test true e = absurd (f (IsUtf8-from_is_utf8 bytes e))
    by_test false e = refl

-- by the first token of a text, or where it has none
pub next_name : (bytes : List ℕ) (new : Left) (l : Lexeme) → IsUtf8 bytes → IsNext (record { bytes = bytes; place = 0 }) new l
    → (length l.text == length bytes && is_name_kind l.kind) ≡ is_name bytes
next_name bytes new l u i =
    let long : length l.text ≡ i.size = ap length i.text ∙ length-take-le i.size i.rest i.within in
    sym (in_utf8 bytes u ∙ gaps_name i.size (length l.text) l.kind i.gaps i.front i.within long)

same : (a b : ℕ) → a ≡ b → (a == b) ≡ true
same a b e = grind (arith, nat_tests)

-- where the first token is as long as the text
pub whole_name : (bytes text : List ℕ) (new : Left) (l : Lexeme) → text ≡ bytes → IsUtf8 bytes → IsNext (record { bytes = text; place = 0 }) new l
    → length l.text ≡ length text → is_name_kind l.kind ≡ is_name bytes
whole_name bytes text new l e u i h =
    sym (ap (λ t. t && is_name_kind l.kind) (same (length l.text) (length text) h)) ∙ next_name text new l (subst IsUtf8 (sym e) u) i ∙ ap is_name e

no_tokens : {at : ℕ} {tight : Bool} {bytes : List ℕ} → HasTokens at tight bytes [] → is_name_front (length bytes) (front_of bytes) ≡ false
no_tokens {bytes = bytes} (ended e) = ap (is_name_front (length bytes)) e
no_tokens {bytes = bytes} (after_gap n e h) = ap (is_name_front (length bytes)) e

pub none_name : (bytes : List ℕ) → IsUtf8 bytes → HasTokens 0 true bytes [] → false ≡ is_name bytes
none_name bytes u h = sym (in_utf8 bytes u ∙ no_tokens h)

pub fault_name : (bytes : List ℕ) (f : TokenFault) → IsUtf8 bytes → Refuses (record { bytes = bytes; place = 0 }) f → false ≡ is_name bytes
fault_name bytes (faults.At at cause) u i = sym (in_utf8 bytes u ∙ gaps_fault _ i.offset i.gaps i.front)
fault_name bytes faults.NoMemory u i = absurd i
