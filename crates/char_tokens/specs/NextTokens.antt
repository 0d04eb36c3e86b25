-- What stands next in what is left of a text.
use Rattle.std.specs.Prelude.{◌≡◌, ℕ, ◌+◌, ◌≤◌, List, [], Bool, true, false, Option, Some, None, length, take, drop}
use Rattle.fd_language.specs.Tokens as model
use Rattle.fd_language.specs.Tokens.{Lexeme, Gap, Offends, front_of, HasTokens, HasFault}
use Rattle.char_tokens.specs.declared.token.Token.{Token}
use Rattle.char_tokens.specs.declared.token.TokenFault.{TokenFault}
use Rattle.char_tokens.specs.declared.token.TokenFault.TheVariants as faults
use Rattle.char_tokens.specs.Views.{cause_of, lexeme_of}
use Rattle.char_tokens.specs.UnreadText.{Left}

-- AreGaps at tight bytes from late rest: the bytes, which begin at the place at, are layout and comments and then the rest, which begins at the place from;
-- late is whether a token there would be tight, where tight is that of one at the beginning
pub data AreGaps : ℕ → Bool → List ℕ → ℕ → Bool → List ℕ → Type 0 where
  no_gap : {at : ℕ} {tight : Bool} {bytes : List ℕ} → AreGaps at tight bytes at tight bytes
  a_gap : {at : ℕ} {tight : Bool} {bytes : List ℕ} {from : ℕ} {late : Bool} {rest : List ℕ} (n : ℕ) → front_of bytes ≡ Gap n
      → AreGaps (at + n) false (drop n bytes) from late rest → AreGaps at tight bytes from late rest

-- the token stands next, and then what is left is new
pub record IsNext (old new : Left) (l : Lexeme) : Type 0 where
  pub rest : List ℕ
  pub size : ℕ
  pub gaps : AreGaps old.place true old.bytes l.place l.tight rest
  pub front : front_of rest ≡ model.Token l.kind size
  pub within : size ≤ length rest
  pub text : l.text ≡ take size rest
  pub place : new.place ≡ l.place + size
  pub bytes : new.bytes ≡ drop size rest

-- before the next token stands a fault
pub record IsFaultNext (left : Left) (cause : model.Cause) (place : ℕ) : Type 0 where
  pub at : ℕ
  pub tight : Bool
  pub rest : List ℕ
  pub offset : ℕ
  pub gaps : AreGaps left.place true left.bytes at tight rest
  pub front : front_of rest ≡ Offends cause offset
  pub is : place ≡ at + offset

-- the next token was read, or there is none and all is left as it was
abbrev pub HasRead : Left → Left → Option Token → Type 0
HasRead old new None = HasTokens old.place true old.bytes [] × (new ≡ old)
HasRead old new (Some t) = IsNext old new (lexeme_of t)

-- the fault stands before the next token
abbrev pub Refuses : Left → TokenFault → Type 0
Refuses left (faults.At place cause) = IsFaultNext left (cause_of cause) place
Refuses left faults.NoMemory = ⊥

-- the fault is the first of all that is left
abbrev pub IsFirstFault : Left → TokenFault → Type 0
IsFirstFault left (faults.At place cause) = HasFault left.place left.bytes (cause_of cause) place
IsFirstFault left faults.NoMemory = ⊥

-- what is left has tokens
abbrev pub AreTokens : Left → Type 0
AreTokens left = (ts : List Lexeme) × HasTokens left.place true left.bytes ts
