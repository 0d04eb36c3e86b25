-- Terminals. The tokens of the grammar, by what they are to it.
use Rattle.std.specs.Prelude.{ℕ, ℤ, List, [], ◌∷◌, Bool, false, Option, Some, None, ◌&&◌, not, codes}
use Rattle.std.specs.Str.{bytes_eq}
use Rattle.fd_language.specs.Term.{Name}
use Rattle.fd_language.specs.Operators.{Operator, operator_row, right_associative, infix_of}

-- A token with its place in the text, where a reading shows it: a Word that is no operator, or a Quoted, with the bytes of its characters; a Word that is an
-- operator; a Variable with its number; an Integer, and an opening parenthesis, each with whether it is tight; the other brackets, the comma, the bar, and
-- Stop.
pub data Terminal : Type 0 where
  name : ℕ → Name → Terminal
  operator_word : ℕ → Name → Terminal
  variable : ℕ → ℕ → Terminal
  integer : ℕ → Bool → ℤ → Terminal
  opens : ℕ → Bool → Terminal
  closes : Terminal
  open_list : ℕ → Terminal
  close_list : Terminal
  open_curly : ℕ → Terminal
  close_curly : Terminal
  comma : ℕ → Terminal
  bar : Terminal
  stop : Terminal

abbrev pub comma_operator : Operator
comma_operator = operator_row 1000 right_associative (codes ",")

-- the operator that a token is between two operands
abbrev pub infix_operator : Terminal → Option Operator
infix_operator (name p a) = None
infix_operator (operator_word p o) = infix_of o
infix_operator (variable p n) = None
infix_operator (integer p b n) = None
infix_operator (opens p b) = None
infix_operator closes = None
infix_operator (open_list p) = None
infix_operator close_list = None
infix_operator (open_curly p) = None
infix_operator close_curly = None
infix_operator (comma p) = Some comma_operator
infix_operator bar = None
infix_operator stop = None

-- 0 of the tokens that no reading shows
abbrev pub token_place : Terminal → ℕ
token_place (name p a) = p
token_place (operator_word p o) = p
token_place (variable p n) = p
token_place (integer p b n) = p
token_place (opens p b) = p
token_place closes = 0
token_place (open_list p) = p
token_place close_list = 0
token_place (open_curly p) = p
token_place close_curly = 0
token_place (comma p) = p
token_place bar = 0
token_place stop = 0

unfoldable pub is_minus : Name → Bool
is_minus o = bytes_eq o (codes "-")

abbrev pub is_tight_open : Terminal → Bool
is_tight_open (opens p b) = b
is_tight_open _ = false

-- the word o and a tight Integer behind it are a negative number
abbrev pub is_negated : Name → Terminal → Bool
is_negated o (integer p b n) = b && is_minus o
is_negated o _ = false

-- The word o, where an operand is wanted, may be a prefix operator before these tokens: it is no name of a call, and no sign of a number.
abbrev pub may_follow : Name → List Terminal → Bool
may_follow o [] = false
may_follow o (x ∷ ts) = not (is_tight_open x) && not (is_negated o x)
