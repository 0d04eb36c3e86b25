-- GrammarFaults. Where a list of tokens stops being a text, and where it is too deep, by the tokens' numbers.
use Rattle.std.specs.Prelude.{◌≡◌, ℕ, ◌+◌, ◌-◌, ◌<◌, ◌≤◌, List, [], ◌∷◌, length, take}
use Rattle.fd_language.specs.PlacedTerm.{PlacedTerm}
use Rattle.fd_language.specs.Terminals.{Terminal, opens, closes, open_list, close_list, open_curly, close_curly}
use Rattle.fd_language.specs.Grammar.{IsText, Begins}

-- the greatest number of brackets that may be open at one place
abbrev pub deepest : ℕ
deepest = 1000

-- the brackets that are open behind a token, where n were open before it
abbrev pub open_behind : ℕ → Terminal → ℕ
open_behind n (opens p b) = n + 1
open_behind n (open_list p) = n + 1
open_behind n (open_curly p) = n + 1
open_behind n closes = n - 1
open_behind n close_list = n - 1
open_behind n close_curly = n - 1
open_behind n _ = n

-- the brackets that are open behind the tokens, where n were open before them
abbrev pub brackets : ℕ → List Terminal → ℕ
brackets n [] = n
brackets n (x ∷ ts) = brackets (open_behind n x) ts

-- nowhere in the first k tokens are more brackets open than may be
abbrev pub IsShallow : List Terminal → ℕ → Type 0
IsShallow ts k = (j : ℕ) → j ≤ k → brackets 0 (take j ts) ≤ deepest

-- the tokens are these sentences, the last one first
pub record IsRead (ts : List Terminal) (terms : List PlacedTerm) : Type 0 where
  pub text : IsText ts terms
  pub shallow : IsShallow ts (length ts)

-- The k tokens in front begin an accepted list. With the next one they begin none; or there is no next one, and they are no accepted list.
pub record IsSyntaxFault (ts : List Terminal) (k : ℕ) : Type 0 where
  pub within : k ≤ length ts
  pub fits : Begins (take k ts)
  pub ends : Begins (take (k + 1) ts) → k ≡ length ts
  pub whole : (terms : List PlacedTerm) → IsText ts terms → ⊥
  pub shallow : IsShallow ts k

-- The k tokens in front and the next one begin an accepted list, and this one is the first at which a bracket too many is open.
pub record IsTooDeep (ts : List Terminal) (k : ℕ) : Type 0 where
  pub within : k < length ts
  pub fits : Begins (take (k + 1) ts)
  pub deep : deepest < brackets 0 (take (k + 1) ts)
  pub shallow : IsShallow ts k
