-- What is read before a place, by the tokens from left to right.
use Rattle.std.proofs.Common.{◌≡◌, ◌∙◌, ℕ, zero, suc, ◌+◌, ◌<◌, ◌≤◌, Bool, true, false, cond, List, [], ◌∷◌, refl, sym, ap, subst, arith, length, drop, take}
use Rattle.std.proofs.Common.{length-drop, nat_lt}
use Rattle.std.specs.Str.{is_utf8, IsUtf8}
use Rattle.std.proofs.lemmas.Str.{is_utf8-from_IsUtf8, IsUtf8-from_is_utf8}
use Rattle.std.proofs.lemmas.Bool.{lt-ltb, le-ltb, ltb-true, ltb-false}
use Rattle.fd_language.specs.Tokens.{Kind, Cause, Lexeme, Front, Ends, Gap, Token, Offends, front_of, HasTokens, HasFault, TokensOf, FaultOf, ended, after_gap, after_token, here, past_gap, past_token}
use Rattle.fd_language.proofs.Lemmas.{front_empty, gap_grows, token_grows}
use Rattle.char_tokens.specs.declared.token.TokenFault.{TokenFault}
use Rattle.char_tokens.specs.declared.token.TokenFault.TheVariants as faults
use Rattle.char_tokens.specs.UnreadText.{Left}
use Rattle.char_tokens.specs.NextTokens.{AreGaps, no_gap, a_gap, IsNext, Refuses}
use Rattle.clpwhere.specs.declared.before_place.Before.{Before}
use Rattle.clpwhere.specs.declared.before_place.Before.TheVariants.{Unclear}
use Rattle.clpwhere.specs.declared.before_place.Passed.{Passed}
use Rattle.clpwhere.specs.BeforePlace.{at_end, at_token, before_among, by_front, none_passed, read_token, read_before, read_in, read_on, IsReadByTokens}

-- the bytes, which begin at the place at, tell b of what is read at the place, where last is what is read before the bytes
pub record Tells (place size : ℕ) (last : Passed) (at : ℕ) (bytes : List ℕ) (b : Before) : Type 0 where
  pub is : (steps : ℕ) → length bytes < steps → read_on place size steps last at bytes ≡ b

pub some_gap : (bytes : List ℕ) (n : ℕ) → front_of bytes ≡ Gap n → 0 < length bytes
some_gap [] n e = let no : Ends ≡ Gap n = sym front_empty ∙ e in absurd (cc)
some_gap (b ∷ bytes) n e = omega arith

some_token : (bytes : List ℕ) (k : Kind) (n : ℕ) → front_of bytes ≡ Token k n → 0 < length bytes
some_token [] k n e = let no : Ends ≡ Token k n = sym front_empty ∙ e in absurd (cc)
some_token (b ∷ bytes) k n e = omega arith

module _ (place size : ℕ) where
  -- by what stands at the front
  at_front : (last : Passed) (at : ℕ) (bytes : List ℕ) (f : Front) (b : Before) → front_of bytes ≡ f
      → ((n : ℕ) → length bytes < suc n → by_front place size f last at bytes (read_on place size n) ≡ b) → Tells place size last at bytes b
  at_front last at bytes f b e h = record { is = steps }
    where
      steps : (n : ℕ) → length bytes < n → read_on place size n last at bytes ≡ b
      steps zero l = absurd (omega (arith, l))
      steps (suc n) l = ap (λ (g : Front). by_front place size g last at bytes (read_on place size n)) e ∙ h n l

  tells_end : (last : Passed) (at : ℕ) (bytes : List ℕ) → front_of bytes ≡ Ends → Tells place size last at bytes (at_end place size last)
  tells_end last at bytes e = at_front last at bytes Ends (at_end place size last) e (λ n l. refl)

  tells_fault : (last : Passed) (at : ℕ) (bytes : List ℕ) (cause : Cause) (n : ℕ) → front_of bytes ≡ Offends cause n → Tells place size last at bytes Unclear
  tells_fault last at bytes cause n e = at_front last at bytes (Offends cause n) Unclear e (λ m l. refl)

  tells_gap : (last : Passed) (at : ℕ) (bytes : List ℕ) (k : ℕ) (b : Before) → front_of bytes ≡ Gap k → Tells place size last (at + k) (drop k bytes) b
      → Tells place size last at bytes b
  tells_gap last at bytes k b e h = at_front last at bytes (Gap k) b e (λ n l. h.is n (omega (arith, l, gap_grows bytes k e, some_gap bytes k e, length-drop k bytes)))

  -- a token that begins before the place
  tells_token : (last : Passed) (at : ℕ) (bytes : List ℕ) (k : Kind) (m : ℕ) (b : Before) → front_of bytes ≡ Token k m → at < place
      → Tells place size (read_token k (take m bytes) at) (at + m) (drop m bytes) b → Tells place size last at bytes b
  tells_token last at bytes k m b e l h = at_front last at bytes (Token k m) b e (λ n s.
      ap (λ (t : Bool). cond t (read_on place size n (read_token k (take m bytes) at) (at + m) (drop m bytes)) (at_token place at (take m bytes) last)) (lt-ltb at place l)
      ∙ h.is n (omega (arith, s, token_grows bytes k m e, some_token bytes k m e, length-drop m bytes)))

  -- one that doesn't
  tells_here : (last : Passed) (at : ℕ) (bytes : List ℕ) (k : Kind) (m : ℕ) → front_of bytes ≡ Token k m → place ≤ at
      → Tells place size last at bytes (at_token place at (take m bytes) last)
  tells_here last at bytes k m e l = at_front last at bytes (Token k m) (at_token place at (take m bytes) last) e (λ n s.
      ap (λ (t : Bool). cond t (read_on place size n (read_token k (take m bytes) at) (at + m) (drop m bytes)) (at_token place at (take m bytes) last)) (le-ltb at place l))

  -- ---- by what a scanner reads

  tells_gaps : {at : ℕ} {tight : Bool} {bytes : List ℕ} {from : ℕ} {late : Bool} {rest : List ℕ} (last : Passed) (b : Before) → AreGaps at tight bytes from late rest
      → Tells place size last from rest b → Tells place size last at bytes b
  tells_gaps last b no_gap h = h
  tells_gaps {at = at} {bytes = bytes} last b (a_gap n e g) h = tells_gap last at bytes n b e (tells_gaps last b g h)

  pub tells_next : (last : Passed) (b : Before) (old new : Left) (l : Lexeme) → IsNext old new l → l.place < place
      → Tells place size (read_token l.kind l.text l.place) new.place new.bytes b → Tells place size last old.place old.bytes b
  tells_next last b old new l i s h =
      let behind : Tells place size (read_token l.kind (take i.size i.rest) l.place) (l.place + i.size) (drop i.size i.rest) b =
      subst (λ (t : List ℕ). Tells place size (read_token l.kind t l.place) (l.place + i.size) (drop i.size i.rest) b) i.text
      (subst (λ (p : ℕ). Tells place size (read_token l.kind l.text l.place) p (drop i.size i.rest) b) i.place
      (subst (λ (r : List ℕ). Tells place size (read_token l.kind l.text l.place) new.place r b) i.bytes h)) in
      tells_gaps last b i.gaps (tells_token last l.place i.rest l.kind i.size b i.front s behind)

  pub tells_before : (last : Passed) (old new : Left) (l : Lexeme) → IsNext old new l → place ≤ l.place
      → Tells place size last old.place old.bytes (at_token place l.place l.text last)
  tells_before last old new l i s =
      let here : Tells place size last l.place i.rest (at_token place l.place l.text last) =
      subst (λ (t : List ℕ). Tells place size last l.place i.rest (at_token place l.place t last)) (sym i.text)
      (tells_here last l.place i.rest l.kind i.size i.front s) in
      tells_gaps last (at_token place l.place l.text last) i.gaps here

  pub tells_refused : (last : Passed) (left : Left) (f : TokenFault) → Refuses left f → Tells place size last left.place left.bytes Unclear
  tells_refused last left (faults.At at cause) i = tells_gaps last Unclear i.gaps (tells_fault last i.at i.rest _ i.offset i.front)
  tells_refused last left faults.NoMemory i = absurd i

  -- ---- by the tokens of a text, or its first fault

  pub tells_tokens : {at : ℕ} {tight : Bool} {bytes : List ℕ} {ts : List Lexeme} (last : Passed) → HasTokens at tight bytes ts
      → Tells place size last at bytes (before_among place size last ts)
  tells_tokens {at = at} {bytes = bytes} last (ended e) = tells_end last at bytes e
  tells_tokens {at = at} {bytes = bytes} last (after_gap {ts = ts} n e h) = tells_gap last at bytes n (before_among place size last ts) e (tells_tokens last h)
  tells_tokens {at = at} {bytes = bytes} last (after_token {ts = ts} k n e h) = by_place (nat_lt at place) refl (tells_tokens (read_token k (take n bytes) at) h)
    where
      by_place : (t : Bool) → nat_lt at place ≡ t → Tells place size (read_token k (take n bytes) at) (at + n) (drop n bytes) (before_among place size (read_token k (take n bytes) at) ts)
          → Tells place size last at bytes (cond (nat_lt at place) (before_among place size (read_token k (take n bytes) at) ts) (at_token place at (take n bytes) last))
      by_place true s g = subst (λ (u : Bool). Tells place size last at bytes (cond u (before_among place size (read_token k (take n bytes) at) ts) (at_token place at (take n bytes) last))) (sym s)
          (tells_token last at bytes k n (before_among place size (read_token k (take n bytes) at) ts) e (ltb-true at place s) g)
      by_place false s g = subst (λ (u : Bool). Tells place size last at bytes (cond u (before_among place size (read_token k (take n bytes) at) ts) (at_token place at (take n bytes) last))) (sym s)
          (tells_here last at bytes k n e (ltb-false at place s))

  -- a fault stands at the front or behind it
  fault_behind : {at : ℕ} {bytes : List ℕ} {cause : Cause} {fault : ℕ} → HasFault at bytes cause fault → at ≤ fault
  fault_behind (here cause n e) = omega arith
  fault_behind (past_gap n e h) = omega (arith, fault_behind h)
  fault_behind (past_token k n e h) = omega (arith, fault_behind h)

  pub tells_first_fault : {at : ℕ} {bytes : List ℕ} {cause : Cause} {fault : ℕ} (last : Passed) → HasFault at bytes cause fault → fault ≤ place
      → Tells place size last at bytes Unclear
  tells_first_fault {at = at} {bytes = bytes} last (here cause n e) s = tells_fault last at bytes cause n e
  tells_first_fault {at = at} {bytes = bytes} last (past_gap n e h) s = tells_gap last at bytes n Unclear e (tells_first_fault last h s)
  tells_first_fault {at = at} {bytes = bytes} last (past_token k n e h) s =
      tells_token last at bytes k n Unclear e (omega (arith, s, token_grows bytes k n e, fault_behind h)) (tells_first_fault (read_token k (take n bytes) at) h s)

-- ---- of a whole text

pub whole : (text : List ℕ) (place : ℕ) (b : Before) → Tells place (length text) none_passed 0 text b → read_in text place ≡ b
unfolding read_in
whole text place b h = h.is (suc (length text)) (omega arith)

pub in_utf8 : (text : List ℕ) (place : ℕ) → IsUtf8 text → read_before text place ≡ read_in text place
unfolding read_before
in_utf8 text place u = ap (λ (t : Bool). cond t (read_in text place) Unclear) (is_utf8-from_IsUtf8 text u)

pub not_utf8 : (text : List ℕ) (place : ℕ) → (IsUtf8 text → ⊥) → read_before text place ≡ Unclear
unfolding read_before
not_utf8 text place f = by_test (is_utf8 text) refl
  where
    by_test : (t : Bool) → is_utf8 text ≡ t → cond t (read_in text place) Unclear ≡ Unclear
    by_test true e = absurd (f (IsUtf8-from_is_utf8 text e))
    by_test false e = refl

by_tokens : (text : List ℕ) (ts : List Lexeme) (place : ℕ) → IsUtf8 text → TokensOf text ts → read_before text place ≡ before_among place (length text) none_passed ts
by_tokens text ts place u h = in_utf8 text place u ∙ whole text place (before_among place (length text) none_passed ts) (tells_tokens place (length text) none_passed h)

by_fault : (text : List ℕ) (cause : Cause) (at place : ℕ) → FaultOf text cause at → at ≤ place → read_before text place ≡ Unclear
unfolding read_before
by_fault text cause at place h s = by_test (is_utf8 text)
  where
    by_test : (t : Bool) → cond t (read_in text place) Unclear ≡ Unclear
    by_test true = whole text place Unclear (tells_first_fault place (length text) none_passed h s)
    by_test false = refl

pub read_by_tokens : IsReadByTokens
read_by_tokens = record { tokens = by_tokens; fault = by_fault }
