-- How a term is spelled in tokens, in mode Quoted. Each place is 0.
use Rattle.std.specs.Prelude.{ℕ, ◌≤◌, ℤ, pos, negsuc, suc, List, ◌∷◌, true, Bool, Option, Some, None, ◌&&◌, not, nat_le, if◌then◌else◌, codes}
use Rattle.std.specs.Str.{bytes_eq}
use Rattle.fd_language.specs.Term.{Name, Term, Terms, Var, Int, Atom, Comp, no_terms, term}
use Rattle.fd_language.specs.PlacedTerm.{PlacedTerm, PlacedTerms, var, int, atom, comp, no_parts, part}
use Rattle.fd_language.specs.Operators.{Operator, infix_of, is_operator, left_limit, right_limit}
use Rattle.fd_language.specs.Terminals.{Terminal, name, operator_word, variable, integer, opens, closes, open_list, close_list, open_curly, close_curly, comma}
use Rattle.fd_language.specs.Terminals.{bar}
use Rattle.fd_language.specs.Grammar.{Reads}
use Rattle.fd_language.specs.TermTexts.{is_letter_word}

abbrev mutual
  pub placed : Term → PlacedTerm
  placed (Var x) = var x 0
  placed (Int z) = int z 0
  placed (Atom a) = atom a 0
  placed (Comp f ts) = comp f 0 (all_placed ts)

  pub all_placed : Terms → PlacedTerms
  all_placed no_terms = no_parts
  all_placed (term t ts) = part (placed t) (all_placed ts)

-- an operator between its operands
unfoldable pub operator_terminal : Name → Terminal
operator_terminal f = if bytes_eq f (codes ",") then comma 0 else operator_word 0 f

-- the name before `(`
unfoldable pub call_terminal : Name → Terminal
call_terminal f = if is_operator f && not (bytes_eq f (codes ",")) then operator_word 0 f else name 0 f

-- A term's tokens before what follows them, at a limit, where the flag is that of a first token which shows whether it is tight; and the same term's behind an
-- element of a list, with the list's end.
pub record InTokens : Type 0 where
  pub at : Bool → ℕ → List Terminal → List Terminal
  pub rest : List Terminal → List Terminal

abbrev pub called : Name → List Terminal → List Terminal
called f inner = call_terminal f ∷ opens 0 true ∷ inner

abbrev pub after_bar : (Bool → ℕ → List Terminal → List Terminal) → List Terminal → List Terminal
after_bar at r = bar ∷ at true 999 (close_list ∷ r)

abbrev pub atom_tokens : Name → List Terminal → List Terminal
atom_tokens a r = if bytes_eq a (codes "[]") then open_list 0 ∷ close_list ∷ r else if bytes_eq a (codes "{}") then open_curly 0 ∷ close_curly ∷ r else name 0 a ∷ r

abbrev pub one_tokens : Name → InTokens → List Terminal → List Terminal
one_tokens f a r = if bytes_eq f (codes "{}") then open_curly 0 ∷ a.at true 1200 (close_curly ∷ r) else called f (a.at true 999 (closes ∷ r))

-- a word of letters has a space behind it
abbrev pub operands : Name → Operator → InTokens → InTokens → Bool → List Terminal → List Terminal
operands f o a b tight r = a.at tight (left_limit o) (operator_terminal f ∷ b.at (not (is_letter_word o.name)) (right_limit o) r)

abbrev pub infix_tokens : Name → Option Operator → InTokens → InTokens → Bool → ℕ → List Terminal → List Terminal
infix_tokens f None a b tight limit r = called f (a.at true 999 (comma 0 ∷ b.at true 999 (closes ∷ r)))
infix_tokens f (Some o) a b tight limit r = if nat_le o.priority limit then operands f o a b tight r else opens 0 tight ∷ operands f o a b true (closes ∷ r)

abbrev pub two_tokens : Name → InTokens → InTokens → Bool → ℕ → List Terminal → List Terminal
two_tokens f a b tight limit r = if bytes_eq f (codes ".") then open_list 0 ∷ a.at true 999 (b.rest r) else infix_tokens f (infix_of f) a b tight limit r

abbrev pub two_rest : Name → InTokens → InTokens → List Terminal → List Terminal
two_rest f a b r = if bytes_eq f (codes ".") then comma 0 ∷ a.at true 999 (b.rest r) else after_bar (two_tokens f a b) r

abbrev pub atom_rest : Name → List Terminal → List Terminal
atom_rest a r = if bytes_eq a (codes "[]") then close_list ∷ r else after_bar (λ tight limit. atom_tokens a) r

abbrev pub integer_tokens : ℤ → Bool → List Terminal → List Terminal
integer_tokens (pos n) tight r = integer 0 tight (pos n) ∷ r
integer_tokens (negsuc n) tight r = operator_word 0 (codes "-") ∷ integer 0 true (pos (suc n)) ∷ r

abbrev mutual
  pub tokens_of : Term → InTokens
  tokens_of (Var x) = record { at = λ tight limit r. variable 0 x ∷ r; rest = after_bar (λ tight limit r. variable 0 x ∷ r) }
  tokens_of (Int z) = record { at = λ tight limit. integer_tokens z tight; rest = after_bar (λ tight limit. integer_tokens z tight) }
  tokens_of (Atom a) = record { at = λ tight limit. atom_tokens a; rest = atom_rest a }
  tokens_of (Comp f no_terms) = record { at = λ tight limit r. called f (closes ∷ r); rest = after_bar (λ tight limit r. called f (closes ∷ r)) }
  tokens_of (Comp f (term a no_terms)) = record { at = λ tight limit. one_tokens f (tokens_of a); rest = after_bar (λ tight limit. one_tokens f (tokens_of a)) }
  tokens_of (Comp f (term a (term b no_terms))) = record { at = two_tokens f (tokens_of a) (tokens_of b); rest = two_rest f (tokens_of a) (tokens_of b) }
  tokens_of (Comp f (term a (term b (term c ts)))) =
      record {
        at = λ tight limit r. called f ((tokens_of a).at true 999 (comma 0 ∷ (tokens_of b).at true 999 (comma 0 ∷ (tokens_of c).at true 999 (further ts (closes ∷ r)))));
        rest = after_bar (λ tight limit r. called f ((tokens_of a).at true 999 (comma 0 ∷ (tokens_of b).at true 999 (comma 0 ∷ (tokens_of c).at true 999 (further ts (closes ∷ r))))));
      }

  pub further : Terms → List Terminal → List Terminal
  further no_terms r = r
  further (term t ts) r = comma 0 ∷ (tokens_of t).at true 999 (further ts r)

-- each compound has arguments
abbrev mutual
  pub HasArguments : Term → Type 0
  HasArguments (Var x) = Unit {0}
  HasArguments (Int z) = Unit {0}
  HasArguments (Atom a) = Unit {0}
  HasArguments (Comp f no_terms) = ⊥
  HasArguments (Comp f (term t ts)) = HasArguments t × AllHaveArguments ts

  pub AllHaveArguments : Terms → Type 0
  AllHaveArguments no_terms = Unit {0}
  AllHaveArguments (term t ts) = HasArguments t × AllHaveArguments ts

-- a reading within a limit
pub record Within (ts rest : List Terminal) (limit : ℕ) (t : PlacedTerm) : Type 0 where
  pub priority : ℕ
  pub fits : priority ≤ limit
  pub reads : Reads ts rest priority t

-- The tokens that spell a term derive it, whatever follows them.
abbrev pub SpelledIsRead : Type 0
SpelledIsRead = (t : Term) → HasArguments t → (tight : Bool) (limit : ℕ) (r : List Terminal) → Within ((tokens_of t).at tight limit r) r limit (placed t)
