-- A text read from left to right: a stack of what is begun, what may come next, and the step that each token makes. Grammar says what a text is; these steps
-- decide it.
use Rattle.std.specs.Prelude.{ℕ, ℤ, pos, neg_ℤ, List, [], ◌∷◌, Bool, true, false, Option, Some, None, ◌||◌, nat_le, nat_lt, if◌then◌else◌, option_and_then}
use Rattle.fd_language.specs.Grammar.{nil_name, curly_name, list_of}
use Rattle.fd_language.specs.Term.{Name}
use Rattle.fd_language.specs.PlacedTerm.{PlacedTerm, PlacedTerms, var, int, atom, comp, no_parts, one, two, with_last}
use Rattle.fd_language.specs.Operators.{Operator, left_limit, right_limit, prefix_of}
use Rattle.fd_language.specs.Terminals.{Terminal, name, operator_word, variable, integer, opens, closes, open_list, close_list, open_curly, close_curly, comma}
use Rattle.fd_language.specs.Terminals.{bar, stop, infix_operator, token_place, is_tight_open, is_negated}

pub data Stack : Type 0 where
  top : List PlacedTerm → Stack
  paren : Stack → Stack
  args : ℕ → Name → PlacedTerms → Stack → Stack
  items : ℕ → PlacedTerms → Stack → Stack
  tail : ℕ → PlacedTerms → Stack → Stack
  curly : ℕ → Stack → Stack
  before : ℕ → Name → Operator → Stack → Stack
  between : ℕ → Operator → PlacedTerm → Stack → Stack

pub data State : Type 0 where
  -- an operand is wanted
  want : Stack → State
  -- directly behind [ and {
  at_list : ℕ → Stack → State
  at_curly_bracket : ℕ → Stack → State
  -- behind an operator word where an operand was wanted
  at_operator : ℕ → Name → Stack → State
  -- behind an operand; behind a name a tight ( may follow
  after : Option (ℕ × Name) → Stack → PlacedTerm → State

abbrev pub limit : Stack → ℕ
limit (top ts) = 1200
limit (paren s) = 1200
limit (args p a xs s) = 999
limit (items p xs s) = 999
limit (tail p xs s) = 999
limit (curly p s) = 1200
limit (before p o f s) = (right_limit f)
limit (between p f a s) = (right_limit f)

pub record Reduced : Type 0 where
  pub stack : Stack
  pub priority : ℕ
  pub term : PlacedTerm

abbrev pub gives_way : Option ℕ → ℕ → Bool
gives_way None right = true
gives_way (Some priority) right = nat_lt right priority

abbrev pub reduce : Option ℕ → Stack → ℕ → PlacedTerm → Reduced
reduce n (before p o f s) q t = if gives_way n (right_limit f) then reduce n s f.priority (comp o p (one t)) else record { stack = before p o f s; priority = q; term = t }
reduce n (between p f a s) q t = if gives_way n (right_limit f) then reduce n s f.priority (comp f.name p (two a t)) else record { stack = between p f a s; priority = q; term = t }
reduce n (top ts) q t = record { stack = top ts; priority = q; term = t }
reduce n (paren s) q t = record { stack = paren s; priority = q; term = t }
reduce n (args p a xs s) q t = record { stack = args p a xs s; priority = q; term = t }
reduce n (items p xs s) q t = record { stack = items p xs s; priority = q; term = t }
reduce n (tail p xs s) q t = record { stack = tail p xs s; priority = q; term = t }
reduce n (curly p s) q t = record { stack = curly p s; priority = q; term = t }

abbrev pub is_close : Terminal → Bool
is_close closes = true
is_close _ = false

abbrev pub is_close_list : Terminal → Bool
is_close_list close_list = true
is_close_list _ = false

abbrev pub is_close_curly : Terminal → Bool
is_close_curly close_curly = true
is_close_curly _ = false

abbrev pub is_comma : Terminal → Bool
is_comma (comma p) = true
is_comma _ = false

abbrev pub is_bar : Terminal → Bool
is_bar bar = true
is_bar _ = false

abbrev pub is_stop : Terminal → Bool
is_stop stop = true
is_stop _ = false

-- what a token that ends an operand makes of the bracket and the operand
abbrev pub closed : Stack → PlacedTerm → Terminal → Option State
closed (top ts) t x = if is_stop x then Some (want (top (t ∷ ts))) else None
closed (paren s) t x = if is_close x then Some (after None s t) else None
closed (args p a xs s) t x = if is_close x then Some (after None s (comp a p (with_last xs t))) else if is_comma x then Some (want (args p a (with_last xs t) s)) else None
closed (items p xs s) t x =
    if is_close_list x then Some (after None s (list_of p (with_last xs t) (atom nil_name p)))
    else if is_comma x then Some (want (items p (with_last xs t) s))
    else if is_bar x then Some (want (tail p (with_last xs t) s)) else None
closed (tail p xs s) t x = if is_close_list x then Some (after None s (list_of p xs t)) else None
closed (curly p s) t x = if is_close_curly x then Some (after None s (comp curly_name p (one t))) else None
closed (before p o f s) t x = None
closed (between p f a s) t x = None

-- an operator word alone may end here
abbrev pub lone : Stack → Terminal → Bool
lone (top ts) x = false
lone (paren s) x = is_close x
lone (args p a xs s) x = is_close x || is_comma x
lone (items p xs s) x = is_close_list x || (is_comma x || is_bar x)
lone (tail p xs s) x = is_close_list x
lone (curly p s) x = false
lone (before p o f s) x = false
lone (between p f a s) x = false

abbrev pub placed : ℕ → Operator → Reduced → Option State
placed p f r = if nat_le f.priority (limit r.stack) then (if nat_le r.priority (left_limit f) then Some (want (between p f r.term r.stack)) else None) else None

abbrev pub attach : ℕ → Option Operator → Stack → PlacedTerm → Option State
attach p None s t = None
attach p (Some f) s t = placed p f (reduce (Some f.priority) s 0 t)

abbrev pub or_else : Option State → Option State → Option State
or_else None y = y
or_else (Some x) y = Some x

abbrev pub ended : Reduced → Terminal → Option State
ended r x = closed r.stack r.term x

abbrev pub behind_operand : Stack → PlacedTerm → Terminal → Option State
behind_operand s t x = or_else (attach (token_place x) (infix_operator x) s t) (ended (reduce None s 0 t) x)

abbrev pub called : Option (ℕ × Name) → Stack → Option State
called None s = None
called (Some c) s = Some (want (args c.0 c.1 no_parts s))

abbrev pub wanted : Stack → Terminal → Option State
wanted s (name p a) = Some (after (Some (p, a)) s (atom a p))
wanted s (operator_word p o) = Some (at_operator p o s)
wanted s (variable p n) = Some (after None s (var n p))
wanted s (integer p b n) = Some (after None s (int n p))
wanted s (opens p b) = Some (want (paren s))
wanted s closes = None
wanted s (open_list p) = Some (at_list p s)
wanted s close_list = None
wanted s (open_curly p) = Some (at_curly_bracket p s)
wanted s close_curly = None
wanted s (comma p) = None
wanted s bar = None
wanted s stop = None

abbrev pub begun : ℕ → Name → Option Operator → Stack → Terminal → Option State
begun p o None s x = None
begun p o (Some f) s x = if nat_le f.priority (limit s) then wanted (before p o f s) x else None

abbrev pub number_of : Terminal → ℤ
number_of (integer p b n) = n
number_of _ = pos 0

abbrev pub step : State → Terminal → Option State
step (want s) x = wanted s x
step (at_list p s) x = if is_close_list x then Some (after None s (atom nil_name p)) else wanted (items p no_parts s) x
step (at_curly_bracket p s) x = if is_close_curly x then Some (after None s (atom curly_name p)) else wanted (curly p s) x
step (at_operator p o s) x =
    if is_tight_open x then Some (want (args p o no_parts s))
    else if is_negated o x then Some (after None s (int (neg_ℤ (number_of x)) p))
    else if lone s x then closed s (atom o p) x
    else begun p o (prefix_of o) s x
step (after c s t) x = if is_tight_open x then called c s else behind_operand s t x

abbrev pub run : List Terminal → State → Option State
run [] st = Some st
run (x ∷ ts) st = option_and_then (λ s. run ts s) (step st x)

-- tokens that end what is begun
abbrev pub closing : Stack → List Terminal
closing (top ts) = stop ∷ []
closing (paren s) = closes ∷ closing s
closing (args p a xs s) = closes ∷ closing s
closing (items p xs s) = close_list ∷ closing s
closing (tail p xs s) = close_list ∷ closing s
closing (curly p s) = close_curly ∷ closing s
closing (before p o f s) = closing s
closing (between p f a s) = closing s

abbrev pub filler : Terminal
filler = name 0 []

abbrev pub completion : State → List Terminal
completion (want (top ts)) = []
completion (want s) = filler ∷ closing s
completion (at_list p s) = close_list ∷ closing s
completion (at_curly_bracket p s) = close_curly ∷ closing s
completion (at_operator p o s) = opens 0 true ∷ filler ∷ closes ∷ closing s
completion (after c s t) = closing s
