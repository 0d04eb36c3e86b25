-- The tokens of a text, from left to right.
use Rattle.std.proofs.Common.{◌≡◌, ◌∙◌, ◌+◌, ◌<◌, ◌≤◌, ◌++◌, ◌∷◌, [], ℕ, List, Bool, true, false, sym, ap, subst, refl, arith, length, drop, length-drop}
use Rattle.std.proofs.Common.{append_assoc}
use Rattle.std.specs.Prelude.{Option, Some, None, is_some}
use Rattle.fd_language.specs.Tokens.{Cause, Lexeme, Gap, Token, HasTokens, HasFault, TokensOf, FaultOf, after_gap, after_token, past_gap, past_token, here}
use Rattle.fd_language.specs.Tokens.{front_of}
use Rattle.fd_language.proofs.Lemmas.{token_grows, front_empty, not_both, one_fault}
use Rattle.char_tokens.specs.declared.token.Token as declared
use Rattle.char_tokens.specs.declared.token.TokenFault.{TokenFault}
use Rattle.char_tokens.specs.declared.token.TokenFault.TheVariants as faults
use Rattle.char_tokens.specs.Views.{cause_of, lexemes, lexeme_of, IsFaultIn, IsFaultAt}
use Rattle.char_tokens.specs.UnreadText.{Left}
use Rattle.char_tokens.specs.NextTokens.{AreGaps, no_gap, a_gap, IsNext, IsFaultNext, HasRead, Refuses, IsFirstFault, AreTokens}

-- ---- layout and comments

pub gaps_tokens : {at : ℕ} {tight : Bool} {bytes : List ℕ} {from : ℕ} {late : Bool} {rest : List ℕ} {ts : List Lexeme} → AreGaps at tight bytes from late rest
    → HasTokens from late rest ts → HasTokens at tight bytes ts
gaps_tokens no_gap h = h
gaps_tokens (a_gap n e g) h = after_gap n e (gaps_tokens g h)

pub gaps_fault : {at : ℕ} {tight : Bool} {bytes : List ℕ} {from : ℕ} {late : Bool} {rest : List ℕ} {cause : Cause} {place : ℕ}
    → AreGaps at tight bytes from late rest → HasFault from rest cause place → HasFault at bytes cause place
gaps_fault no_gap h = h
gaps_fault (a_gap n e g) h = past_gap n e (gaps_fault g h)

pub gaps_shorter : {at : ℕ} {tight : Bool} {bytes : List ℕ} {from : ℕ} {late : Bool} {rest : List ℕ} → AreGaps at tight bytes from late rest → length rest ≤ length bytes
gaps_shorter no_gap = omega arith
gaps_shorter {bytes = bytes} (a_gap n e g) = omega (arith, gaps_shorter g, length-drop n bytes)

-- one more of them
pub gaps_more : {at : ℕ} {tight : Bool} {bytes : List ℕ} {from : ℕ} {late : Bool} {rest : List ℕ} (n : ℕ) → AreGaps at tight bytes from late rest
    → front_of rest ≡ Gap n → AreGaps at tight bytes (from + n) false (drop n rest)
gaps_more n no_gap e = a_gap n e no_gap
gaps_more n (a_gap m d g) e = a_gap m d (gaps_more n g e)

-- ---- the next token

pub next_tokens : (old new : Left) (l : Lexeme) (ts : List Lexeme) → IsNext old new l → HasTokens new.place true new.bytes ts → HasTokens old.place true old.bytes (l ∷ ts)
next_tokens old new l ts i h =
    let behind : HasTokens (l.place + i.size) true (drop i.size i.rest) ts = subst (λ (p : ℕ). HasTokens p true (drop i.size i.rest) ts) i.place
    (subst (λ (b : List ℕ). HasTokens new.place true b ts) i.bytes h) in
    gaps_tokens i.gaps (subst (λ (t : List ℕ). HasTokens l.place l.tight i.rest (record { kind = l.kind; text = t; place = l.place; tight = l.tight } ∷ ts))
    (sym i.text) (after_token l.kind i.size i.front behind))

pub next_fault : (old new : Left) (l : Lexeme) (cause : Cause) (place : ℕ) → IsNext old new l → HasFault new.place new.bytes cause place → HasFault old.place old.bytes cause place
next_fault old new l cause place i h =
    let behind : HasFault (l.place + i.size) (drop i.size i.rest) cause place = subst (λ (p : ℕ). HasFault p (drop i.size i.rest) cause place) i.place
    (subst (λ (b : List ℕ). HasFault new.place b cause place) i.bytes h) in
    gaps_fault i.gaps (past_token l.kind i.size i.front behind)

some_bytes : (bytes : List ℕ) (l : Lexeme) (n : ℕ) → front_of bytes ≡ Token l.kind n → 0 < length bytes
some_bytes [] l n e = let no = sym front_empty ∙ e in absurd cc
some_bytes (b ∷ bytes) l n e = omega arith

pub next_shorter : (old new : Left) (l : Lexeme) → IsNext old new l → length new.bytes < length old.bytes
next_shorter old new l i = omega (
  arith,
  gaps_shorter i.gaps,
  some_bytes i.rest l i.size i.front,
  token_grows i.rest l.kind i.size i.front,
  ap (λ (b : List ℕ). length b) i.bytes,
  length-drop i.size i.rest,
)

pub fault_is : (left : Left) (cause : Cause) (place : ℕ) → IsFaultNext left cause place → HasFault left.place left.bytes cause place
fault_is left cause place i = subst (HasFault left.place left.bytes cause) (sym i.is) (gaps_fault i.gaps (here cause i.offset i.front))

pub fault_first : (left : Left) (f : TokenFault) → Refuses left f → IsFirstFault left f
fault_first left (faults.At place cause) h = fault_is left (cause_of cause) place h
fault_first left faults.NoMemory h = h

-- ---- what a reader keeps

-- what is left completes what is read
pub record Completes (text : List ℕ) (left : Left) (found : List Lexeme) : Type 0 where
  pub tokens : (ts : List Lexeme) → HasTokens left.place true left.bytes ts → HasTokens 0 true text (found ++ ts)
  pub faults : (cause : Cause) (at : ℕ) → HasFault left.place left.bytes cause at → HasFault 0 text cause at

pub completes_more : (text : List ℕ) (old new : Left) (found : List Lexeme) (l : Lexeme) → IsNext old new l → Completes text old found → Completes text new (found ++ l ∷ [])
completes_more text old new found l i c = record {
  tokens = λ ts h. subst (λ (k : List Lexeme). HasTokens 0 true text k) (sym (append_assoc found (l ∷ []) ts)) (c.tokens (l ∷ ts) (next_tokens old new l ts i h));
  faults = λ cause at h. c.faults cause at (next_fault old new l cause at i h);
}

-- the fault before the next token is the text's
pub completed_fault : (text : List ℕ) (left : Left) (found : List Lexeme) (f : TokenFault) → Completes text left found → Refuses left f → IsFaultIn text f
completed_fault text left found (faults.At place cause) c h = c.faults (cause_of cause) place (fault_is left (cause_of cause) place h)
completed_fault text left found faults.NoMemory c h = absurd h

pub no_list : (text : List ℕ) (left : Left) (found : List Lexeme) (f : TokenFault) → Completes text left found → Refuses left f → (ts : List Lexeme) → TokensOf text ts → f ≡ faults.NoMemory
no_list text left found (faults.At place cause) c h ts k = absurd (not_both k (c.faults (cause_of cause) place (fault_is left (cause_of cause) place h)))
no_list text left found faults.NoMemory c h ts k = absurd h

pub only_fault : (text : List ℕ) (left : Left) (found : List Lexeme) (f : TokenFault) → Completes text left found → Refuses left f → (cause : Cause) (place : ℕ)
    → FaultOf text cause place → IsFaultAt cause place f
only_fault text left found (faults.At at why) c h cause place k = one_fault (c.faults (cause_of why) at (fault_is left (cause_of why) at h)) k
only_fault text left found faults.NoMemory c h cause place k = absurd h

pub lexemes-push : (ts : List declared.Token) (t : declared.Token) → lexemes (ts ++ t ∷ []) ≡ lexemes ts ++ lexeme_of t ∷ []
lexemes-push [] t = refl
lexemes-push (u ∷ ts) t = ap (λ (l : List Lexeme). lexeme_of u ∷ l) (lexemes-push ts t)

-- what is behind decides all of it
pub record Decides (old new : Left) : Type 0 where
  pub tokens : AreTokens new → AreTokens old
  pub faults : (cause : Cause) (at : ℕ) → HasFault new.place new.bytes cause at → HasFault old.place old.bytes cause at

pub decides_more : (all old new : Left) (l : Lexeme) → IsNext old new l → Decides all old → Decides all new
decides_more all old new l i d = record {
  tokens = λ h. d.tokens (l ∷ h.0, next_tokens old new l h.0 i h.1);
  faults = λ cause at h. d.faults cause at (next_fault old new l cause at i h);
}

pub read_some : (old new : Left) (o : Option declared.Token) → is_some o ≡ true → HasRead old new o → (l : Lexeme) × IsNext old new l
read_some old new None e h = absurd cc
read_some old new (Some t) e h = (lexeme_of t, h)

pub decided_fault : (all left : Left) (f : TokenFault) → Decides all left → Refuses left f → IsFirstFault all f
decided_fault all left (faults.At place cause) d h = d.faults (cause_of cause) place (fault_is left (cause_of cause) place h)
decided_fault all left faults.NoMemory d h = h
