-- What the parser's vectors stand for in the deciding machine.
use Rattle.std.specs.Prelude.{◌≡◌, ℕ, ℤ, pos, neg_ℤ, ◌<◌, ◌≤◌, ◌-◌, List, [], ◌∷◌, length, reverse, take, drop, slice_get, Option, Some, None, Bool, true}
use Rattle.std.specs.Prelude.{false, IsTrue, All, option_map, codes}
use Rattle.fd_language.specs.PlacedTerm.{PlacedTerm, atom}
use Rattle.fd_language.specs.Term.{Name}
use Rattle.fd_language.specs.Operators.{right_limit, infix_of, prefix_of}
use Rattle.fd_language.specs.Terminals as model
use Rattle.fd_language.specs.ReadingSteps.{Stack, top, paren, args, items, tail, curly, before, between, State, want, at_list, at_curly_bracket, at_operator}
use Rattle.fd_language.specs.ReadingSteps.{after, reduce, ended, step}
use Rattle.term_pool.specs.declared.AtomId.{AtomId}
use Rattle.term_pool.specs.declared.TermId.{TermId}
use Rattle.term_pool.specs.Contents.{Contents, atom_name}
use Rattle.term_pool.specs.Terms.{Extends}
use Rattle.term_pool.specs.PoolInvariant.{IsPool}
use Rattle.name_syntax.specs.declared.operators.Roles.{Roles}
use Rattle.name_syntax.specs.Operators.{operator_of, nameless}
use Rattle.term_pool.specs.PlacedTerms.{placed_of}
use Rattle.term_reader.specs.PlacedTerms.{parts_of}
use Rattle.term_reader.specs.declared.parser.Terminal.{Terminal}
use Rattle.term_reader.specs.declared.parser.Terminal.TheVariants as terminals
use Rattle.term_reader.specs.declared.parser.Item.{Item}
use Rattle.term_reader.specs.declared.parser.Item.TheVariants as its
use Rattle.term_reader.specs.declared.parser.Operation.{Operation}
use Rattle.term_reader.specs.declared.parser.Expecting.{Expecting}
use Rattle.term_reader.specs.declared.parser.Expecting.TheVariants as states
use Rattle.term_reader.specs.declared.parser.Closing.{Closing}
use Rattle.term_reader.specs.declared.parser.Closing.TheVariants as closings
use Rattle.term_reader.specs.declared.parser.Parser.{Parser}

-- the grammar's token at a place
abbrev pub terminal_at : Contents → ℕ → Terminal → model.Terminal
terminal_at c p (terminals.Name a) = model.name p (atom_name c a)
terminal_at c p (terminals.OperatorWord a r) = model.operator_word p (atom_name c a)
terminal_at c p (terminals.Variable n) = model.variable p n
terminal_at c p (terminals.Integer tight z) = model.integer p tight z
terminal_at c p (terminals.Open tight) = model.opens p tight
terminal_at c p terminals.Close = model.closes
terminal_at c p terminals.OpenList = model.open_list p
terminal_at c p terminals.CloseList = model.close_list
terminal_at c p terminals.OpenCurly = model.open_curly p
terminal_at c p terminals.CloseCurly = model.close_curly
terminal_at c p terminals.Comma = model.comma p
terminal_at c p terminals.Bar = model.bar

-- an integer without sign
pub record IsNatural (z : ℤ) : Type 0 where
  pub value : ℕ
  pub is : z ≡ pos value
  pub within : value ≤ 9223372036854775807

-- the atom is of the pool, and the roles are those of its name
pub record IsOperatorWord (c : Contents) (a : AtomId) (r : Roles) : Type 0 where
  pub own : a.number < length c.names
  pub between : option_map (operator_of (atom_name c a)) r.infix ≡ infix_of (atom_name c a)
  pub before : option_map (operator_of (atom_name c a)) r.prefix ≡ prefix_of (atom_name c a)

-- the name of the operator that a token is between two operands
abbrev pub infix_name : Contents → Terminal → Name
infix_name c (terminals.OperatorWord a r) = atom_name c a
infix_name c _ = codes ","

-- from the pool old, a is the atom of this name
pub record IsNamed (old new : Contents) (name : Name) (a : AtomId) : Type 0 where
  pub grows : Extends old new
  pub valid : IsPool new
  pub own : a.number < length new.names
  pub is : atom_name new a ≡ name

-- its atom is of the pool, and its integer has no sign
abbrev pub IsTerminal : Contents → Terminal → Type 0
IsTerminal c (terminals.Name a) = a.number < length c.names
IsTerminal c (terminals.OperatorWord a r) = IsOperatorWord c a r
IsTerminal c (terminals.Integer tight z) = IsNatural z
IsTerminal c _ = Unit {0}

-- the items on the stack s, the last one first, with the arguments of all brackets
abbrev pub stack_of : Contents → Stack → List TermId → List Item → Stack
stack_of c s ts [] = s
stack_of c s ts (its.Parenthesis ∷ xs) = paren (stack_of c s ts xs)
stack_of c s ts (its.Curly p ∷ xs) = curly p (stack_of c s ts xs)
stack_of c s ts (its.Call p a from ∷ xs) = args p (atom_name c a) (parts_of c (drop from ts)) (stack_of c s (take from ts) xs)
stack_of c s ts (its.List p from ∷ xs) = items p (parts_of c (drop from ts)) (stack_of c s (take from ts) xs)
stack_of c s ts (its.Tail p from ∷ xs) = tail p (parts_of c (drop from ts)) (stack_of c s (take from ts) xs)
stack_of c s ts (its.Prefix p a f ∷ xs) = before p (atom_name c a) (operator_of (atom_name c a) f) (stack_of c s ts xs)
stack_of c s ts (its.Infix p a f l ∷ xs) = between p (operator_of (atom_name c a) f) (placed_of c l) (stack_of c s ts xs)

-- the atoms and terms of the items are of the pool
abbrev pub HaveIds : Contents → List Item → Type 0
HaveIds c [] = Unit {0}
HaveIds c (its.Parenthesis ∷ xs) = HaveIds c xs
HaveIds c (its.Curly p ∷ xs) = HaveIds c xs
HaveIds c (its.Call p a from ∷ xs) = (a.number < length c.names) × HaveIds c xs
HaveIds c (its.List p from ∷ xs) = HaveIds c xs
HaveIds c (its.Tail p from ∷ xs) = HaveIds c xs
HaveIds c (its.Prefix p a f ∷ xs) = (a.number < length c.names) × HaveIds c xs
HaveIds c (its.Infix p a f l ∷ xs) = (a.number < length c.names) × (l.number < length c.entries) × HaveIds c xs

-- each bracket has its arguments behind those of the brackets around it
abbrev pub HaveRoom : List TermId → List Item → Type 0
HaveRoom ts [] = Unit {0}
HaveRoom ts (its.Parenthesis ∷ xs) = HaveRoom ts xs
HaveRoom ts (its.Curly p ∷ xs) = HaveRoom ts xs
HaveRoom ts (its.Call p a from ∷ xs) = (from ≤ length ts) × HaveRoom (take from ts) xs
HaveRoom ts (its.List p from ∷ xs) = (from ≤ length ts) × HaveRoom (take from ts) xs
HaveRoom ts (its.Tail p from ∷ xs) = (from ≤ length ts) × HaveRoom (take from ts) xs
HaveRoom ts (its.Prefix p a f ∷ xs) = HaveRoom ts xs
HaveRoom ts (its.Infix p a f l ∷ xs) = HaveRoom ts xs

-- the terms are of the pool
abbrev pub AreTerms : Contents → List TermId → Type 0
AreTerms c ts = All (λ t. t.number < length c.entries) ts

-- the items over the sentences read, the last of these first
abbrev pub stack_over : Contents → List Item → List TermId → List PlacedTerm → Stack
stack_over c xs ts done = stack_of c (top done) ts (reverse xs)

abbrev pub state_by : Contents → Stack → Expecting → State
state_by c s states.Operand = want s
state_by c s (states.BehindOpenList p) = at_list p s
state_by c s (states.BehindOpenCurly p) = at_curly_bracket p s
state_by c s (states.BehindOperator p a r) = at_operator p (atom_name c a) s
state_by c s (states.BehindName p a) = after (Some (p, atom_name c a)) s (atom (atom_name c a) p)
state_by c s (states.BehindOperand t) = after None s (placed_of c t)

abbrev pub IsExpecting : Contents → Expecting → Type 0
IsExpecting c states.Operand = Unit {0}
IsExpecting c (states.BehindOpenList p) = Unit {0}
IsExpecting c (states.BehindOpenCurly p) = Unit {0}
IsExpecting c (states.BehindOperator p a r) = IsOperatorWord c a r
IsExpecting c (states.BehindName p a) = a.number < length c.names
IsExpecting c (states.BehindOperand t) = t.number < length c.entries

abbrev pub stack : Parser → List PlacedTerm → Stack
stack r done = stack_over r.pool r.items.items r.arguments.items done

-- the machine's state, over the sentences read
abbrev pub state : Parser → List PlacedTerm → State
state r done = state_by r.pool (stack r done) r.expecting

-- what holds between two calls
pub record IsWhole (r : Parser) : Type 0 where
  pub pool : IsPool r.pool
  pub arguments : AreTerms r.pool r.arguments.items
  pub ids : HaveIds r.pool (reverse r.items.items)
  pub room : HaveRoom r.arguments.items (reverse r.items.items)
  pub expecting : IsExpecting r.pool r.expecting

-- what a step makes, by whether it is taken
abbrev pub moved : Bool → Parser → List PlacedTerm → Option State
moved true r done = Some (state r done)
moved false r done = None

-- From a pool, a step with the outcome that is given, over any sentences read.
pub record Moves (old : Contents) (outcome : List PlacedTerm → Option State) (r : Parser) (taken : Bool) : Type 0 where
  pub is : (done : List PlacedTerm) → outcome done ≡ moved taken r done
  pub whole : IsTrue taken → IsWhole r
  pub grows : IsTrue taken → Extends old r.pool

-- From the operand s of priority q, the items x and the pool c, reducing gives what it gives from t of priority p, y and d, whatever the arguments.
pub record Steps (below : Option ℕ) (c d : Contents) (x y : List Item) (q p : ℕ) (s t : TermId) : Type 0 where
  pub same : (ts : List TermId) → AreTerms c ts → (done : List PlacedTerm) → reduce below (stack_over c x ts done) q (placed_of c s) ≡ reduce below (stack_over d y ts done) p (placed_of d t)
  pub grows : Extends c d
  pub valid : IsPool d
  pub ids : HaveIds d (reverse y)
  pub room : (ts : List TermId) → HaveRoom ts (reverse x) → HaveRoom ts (reverse y)
  pub operand : t.number < length d.entries

-- nothing gives way
abbrev pub Stays : Option ℕ → Contents → List Item → Type 0
Stays below c x = (ts : List TermId) (done : List PlacedTerm) (q : ℕ) (t : PlacedTerm) → reduce below (stack_over c x ts done) q t ≡ record { stack = stack_over c x ts done; priority = q; term = t }

abbrev pub item_limit : Option Item → ℕ
item_limit None = 1200
item_limit (Some its.Parenthesis) = 1200
item_limit (Some (its.Curly p)) = 1200
item_limit (Some (its.Call p a from)) = 999
item_limit (Some (its.List p from)) = 999
item_limit (Some (its.Tail p from)) = 999
item_limit (Some (its.Prefix p a f)) = right_limit (nameless f)
item_limit (Some (its.Infix p a f l)) = right_limit (nameless f)

-- nothing, or a bracket
abbrev pub IsNoOperation : Option Item → Type 0
IsNoOperation (Some (its.Prefix p a f)) = ⊥
IsNoOperation (Some (its.Infix p a f l)) = ⊥
IsNoOperation _ = Unit {0}

-- the item that an operator is, by its left operand
abbrev pub item_of : Operation → Option TermId → Item
item_of o None = its.Prefix o.place o.name o.operator
item_of o (Some l) = its.Infix o.place o.name o.operator l

-- the operands from left to right
abbrev pub operands : Option TermId → TermId → List TermId
operands None t = t ∷ []
operands (Some l) t = l ∷ t ∷ []

-- the token ends what is begun there
abbrev pub closing_of : Option Item → Terminal → Closing
closing_of (Some its.Parenthesis) terminals.Close = closings.Parenthesis
closing_of (Some (its.Curly p)) terminals.CloseCurly = closings.Curly p
closing_of (Some (its.Call p a from)) terminals.Close = closings.Call p a from
closing_of (Some (its.Call p a from)) terminals.Comma = closings.Argument
closing_of (Some (its.List p from)) terminals.Comma = closings.Argument
closing_of (Some (its.List p from)) terminals.CloseList = closings.List p from
closing_of (Some (its.List p from)) terminals.Bar = closings.Bar p from
closing_of (Some (its.Tail p from)) terminals.CloseList = closings.Tail p from
closing_of _ _ = closings.Nothing

-- an operator word alone may stand before it
abbrev pub allows_lone : Closing → Bool
allows_lone closings.Nothing = false
allows_lone (closings.Curly p) = false
allows_lone _ = true

pub record HasEnded (old new : Parser) (t : TermId) : Type 0 where
  pub is : (done : List PlacedTerm) → step (state old done) model.stop ≡ Some (want (top (placed_of new.pool t ∷ done)))
  pub begins : (done : List PlacedTerm) → state new done ≡ want (top done)
  pub whole : IsWhole new
  pub grows : Extends old.pool new.pool
  pub within : t.number < length new.pool.entries

-- the stop ends a sentence with this term, or can't stand there
abbrev pub EndsWith : Parser → Parser → Option TermId → Type 0
EndsWith old new None = (done : List PlacedTerm) → step (state old done) model.stop ≡ None
EndsWith old new (Some t) = HasEnded old new t

-- The term stands over the items, and a stop would end it.
pub record HasOperand (old new : Parser) (t : TermId) : Type 0 where
  pub is : (done : List PlacedTerm) → step (state old done) model.stop ≡ ended (reduce None (stack new done) 0 (placed_of new.pool t)) model.stop
  pub whole : IsWhole new
  pub grows : Extends old.pool new.pool
  pub within : t.number < length new.pool.entries

-- A stop finds this term standing over the same items, or none.
abbrev pub StandsAtStop : Parser → Parser → Option TermId → Type 0
StandsAtStop old new None = (done : List PlacedTerm) → step (state old done) model.stop ≡ None
StandsAtStop old new (Some t) = HasOperand old new t

-- the item is a bracket of arguments, which another one may follow
abbrev pub TakesArguments : Option Item → Type 0
TakesArguments (Some (its.Call p a from)) = Unit {0}
TakesArguments (Some (its.List p from)) = Unit {0}
TakesArguments _ = ⊥

-- there is a negative number, of this magnitude
abbrev pub IsNegative : Bool → ℤ → Option ℤ → Type 0
IsNegative there n None = there ≡ false
IsNegative there n (Some z) = (there ≡ true) × (z ≡ neg_ℤ n)

abbrev pub last_item : List Item → Option Item
last_item xs = slice_get xs (length xs - 1)
