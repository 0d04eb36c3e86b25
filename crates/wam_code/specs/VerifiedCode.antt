-- Verified code: code in which each place finds what it needs, wherever it is reached from.
use Rattle.std.specs.Prelude.{◌≡◌, ◌⊎◌, ◌↔◌, ℕ, suc, ◌<◌, ◌≤◌, Bool, true, false, IsTrue, List, [], ◌∷◌, map, Some, None, length, All}
use Rattle.fd_language.specs.Family.{has}
use Rattle.range_code.specs.Slots.{slots_of}
use Rattle.term_pool.specs.declared.AtomId.{AtomId}
use Rattle.wam_code.specs.declared.instruction.Key.{Key}
use Rattle.wam_code.specs.declared.instruction.Key.TheVariants as key
use Rattle.wam_code.specs.declared.instruction.Code.{Code}
use Rattle.wam_code.specs.declared.instruction.Code.TheVariants.{GetConstant, GetStructure, UnifyConstant, PutConstant, PutStructure, Call, Execute, Proceed}
use Rattle.wam_code.specs.declared.instruction.Code.TheVariants.{Jump, FailNow, AnswerNow, TryMeElse, RetryMeElse, TrustMe, Try, Retry, Trust, SwitchOnTerm}
use Rattle.wam_code.specs.declared.instruction.Code.TheVariants.{SwitchOnConstant, SwitchOnInteger, SwitchOnStructure, Either, PostRange, EnterTest}
use Rattle.wam_code.specs.declared.parts.Entry.{Entry}
use Rattle.wam_code.specs.Area.{State, Span, Table, Area, Holds, HasState, HasEntry, HasQuery, table_at, range_at}
use Rattle.wam_code.specs.Effect.{slot_at, is_cell, effect}

-- ---- where an instruction leads

abbrev pub arms : Table → List ℕ
arms table = map (λ row. row.1) table

-- the places that an instruction names
abbrev pub named : Area → Code → List ℕ
named a (Jump to) = to ∷ []
named a (TryMeElse to) = to ∷ []
named a (RetryMeElse to) = to ∷ []
named a (Try to) = to ∷ []
named a (Retry to) = to ∷ []
named a (Trust to) = to ∷ []
named a (Either to) = to ∷ []
named a (EnterTest n m to) = to ∷ []
named a (SwitchOnTerm v c i s) = v ∷ c ∷ i ∷ s ∷ []
named a (SwitchOnConstant t) = arms (table_at a t)
named a (SwitchOnInteger t) = arms (table_at a t)
named a (SwitchOnStructure t) = arms (table_at a t)
named a _ = []

-- whether it hands its state to the next place
abbrev pub goes_on : Code → Bool
goes_on (Execute e) = false
goes_on Proceed = false
goes_on FailNow = false
goes_on AnswerNow = false
goes_on (Jump to) = false
goes_on (Trust to) = false
goes_on (SwitchOnTerm v c i s) = false
goes_on (SwitchOnConstant t) = false
goes_on (SwitchOnInteger t) = false
goes_on (SwitchOnStructure t) = false
goes_on _ = true

-- the instruction at a place names another one
abbrev pub Names : Area → ℕ → ℕ → Type 0
Names a at to = (i : Code) × Holds a at i × IsTrue (has (named a i) to)

-- the instruction at a place falls into the next one
abbrev pub Falls : Area → ℕ → ℕ → Type 0
Falls a at to = (i : Code) × Holds a at i × IsTrue (goes_on i) × (to ≡ suc at)

-- ---- 1. states

-- a state covers another one: the same frame and number owed, at least its registers
pub record Covers (more less : State) : Type 0 where
  pub frame : more.frame ≡ less.frame
  pub owed : more.owed ≡ less.owed
  pub regs : (n : ℕ) → has less.regs n ≡ true → has more.regs n ≡ true

-- a state is handed to a place whose own one it covers
abbrev pub HandedTo : List State → State → ℕ → Type 0
HandedTo ss s to = (t : State) × HasState ss to t × Covers s t

-- the instruction finds what it needs, and what it hands on covers the states of the places that it leads to
abbrev pub Leads : Area → List State → ℕ → Code → State → Type 0
Leads a ss at i s = (t : State) × (effect a.entries i s ≡ Some t) × ((to : ℕ) → IsTrue (has (named a i) to) → HandedTo ss t to) × (IsTrue (goes_on i) → HandedTo ss t (suc at))

-- ---- 3. where it begins

-- the arguments from 1 to k are cells, without a frame, and nothing is owed
pub record IsFirst (k : ℕ) (s : State) : Type 0 where
  pub regs : (n : ℕ) → IsTrue (has s.regs n) ↔ (1 ≤ n) × (n ≤ k)
  pub frame : s.frame ≡ None
  pub owed : s.owed ≡ 0

abbrev pub BeginsWith : List State → ℕ → ℕ → Type 0
BeginsWith ss at k = (s : State) × HasState ss at s × IsFirst k s

-- ---- 4. queries

-- the place is one of the query's
abbrev pub IsIn : Span → ℕ → Type 0
IsIn q at = (q.at ≤ at) × (at < q.end)

-- What is true of a query's code.
pub record IsQuery (a : Area) (ss : List State) (q : Span) : Type 0 where
  pub some : q.at < q.end
  pub within : q.end ≤ length a.code
  pub last : (at : ℕ) → suc at ≡ q.end → Holds a at AnswerNow
  pub shown : (at : ℕ) (s : State) → suc at ≡ q.end → HasState ss at s → (n : ℕ) → 1 ≤ n → n ≤ length q.names → IsTrue (is_cell (slot_at s.frame n))
  pub no_proceed : (at : ℕ) → IsIn q at → ¬ Holds a at Proceed
  pub no_execute : (at e : ℕ) → IsIn q at → ¬ Holds a at (Execute e)
  pub no_entry : (n : ℕ) (e : Entry) → HasEntry a n e → ¬ IsIn q e.at
  pub stays : (at to : ℕ) → IsIn q at → Names a at to → IsIn q to
  pub not_named : (at to : ℕ) → ¬ IsIn q at → Names a at to → ¬ IsIn q to
  pub not_fallen : (at to : ℕ) → ¬ IsIn q at → Falls a at to → ¬ IsIn q to

-- ---- 5. choices

-- RetryMeElse and TrustMe
abbrev pub is_other : Code → Bool
is_other (RetryMeElse to) = true
is_other TrustMe = true
is_other _ = false

-- TryMeElse and RetryMeElse at a place name another one
abbrev pub NamesOther : Area → ℕ → ℕ → Type 0
NamesOther a at to = Holds a at (TryMeElse to) ⊎ Holds a at (RetryMeElse to)

-- Try and Retry
abbrev pub is_before : Code → Bool
is_before (Try to) = true
is_before (Retry to) = true
is_before _ = false

-- Retry and Trust
abbrev pub is_behind : Code → Bool
is_behind (Retry to) = true
is_behind (Trust to) = true
is_behind _ = false

abbrev pub HoldsOne : Area → (Code → Bool) → ℕ → Type 0
HoldsOne a test at = (i : Code) × Holds a at i × IsTrue (test i)

-- no predicate and no query begins there
pub record IsNoStart (a : Area) (at : ℕ) : Type 0 where
  pub entries : (n : ℕ) (e : Entry) → HasEntry a n e → ¬ e.at ≡ at
  pub queries : (n : ℕ) (q : Span) → HasQuery a n q → ¬ q.at ≡ at

-- what is true of all choices
pub record AreChoices (a : Area) : Type 0 where
  pub others : (at to : ℕ) → NamesOther a at to → HoldsOne a is_other to
  pub named_once : (to : ℕ) → HoldsOne a is_other to → (at : ℕ) × NamesOther a at to × ((n : ℕ) → NamesOther a n to → n ≡ at)
  pub named_alone : (at to : ℕ) → HoldsOne a is_other to → Names a at to → NamesOther a at to
  pub not_fallen : (at to : ℕ) → HoldsOne a is_other to → ¬ Falls a at to
  pub no_start : (to : ℕ) → HoldsOne a is_other to → IsNoStart a to
  pub behind : (at : ℕ) → HoldsOne a is_before at → HoldsOne a is_behind (suc at)
  pub before : (to : ℕ) → HoldsOne a is_behind to → (at : ℕ) × (to ≡ suc at) × HoldsOne a is_before at
  pub not_named : (at to : ℕ) → HoldsOne a is_behind to → ¬ Names a at to
  pub no_start_behind : (to : ℕ) → HoldsOne a is_behind to → IsNoStart a to

-- ---- 6. numbers

abbrev pub IsAtom : Area → AtomId → Type 0
IsAtom a c = c.number < length a.pool.names

abbrev pub is_atom : Key → Bool
is_atom (key.Atom c) = true
is_atom _ = false

abbrev pub is_int : Key → Bool
is_int (key.Int z) = true
is_int _ = false

abbrev pub is_struct : Key → Bool
is_struct (key.Struct f n) = true
is_struct _ = false

abbrev pub IsKey : Area → Key → Type 0
IsKey a (key.Atom c) = IsAtom a c
IsKey a (key.Int z) = Unit {0}
IsKey a (key.Struct f n) = IsAtom a f

-- the table is there, and each key of it passes the test
abbrev pub IsTable : Area → (Key → Bool) → ℕ → Type 0
IsTable a test t = (t < length a.tables) × All (λ row. IsTrue (test row.0)) (table_at a t)

-- the range is there, and the count is one more than that of its slots
abbrev pub IsRange : Area → ℕ → ℕ → Type 0
IsRange a r n = (r < length a.ranges) × (n ≡ suc (length (slots_of (range_at a r))))

-- what the instruction names is there
abbrev pub IsThere : Area → Code → Type 0
IsThere a (GetConstant c r) = IsAtom a c
IsThere a (GetStructure f n r) = IsAtom a f
IsThere a (UnifyConstant c) = IsAtom a c
IsThere a (PutConstant c r) = IsAtom a c
IsThere a (PutStructure f n r) = IsAtom a f
IsThere a (Call e) = e < length a.entries
IsThere a (Execute e) = e < length a.entries
IsThere a (SwitchOnConstant t) = IsTable a is_atom t
IsThere a (SwitchOnInteger t) = IsTable a is_int t
IsThere a (SwitchOnStructure t) = IsTable a is_struct t
IsThere a (PostRange r n) = IsRange a r n
IsThere a _ = Unit {0}

-- ---- all of it

-- by these states of its places
pub record IsVerifiedBy (a : Area) (ss : List State) : Type 0 where
  -- 1. Each place has a state, in which its instruction finds what it needs; what it hands on covers the states of the places that it leads to.
  pub states : length ss ≡ length a.code
  pub leads : (at : ℕ) (i : Code) (s : State) → Holds a at i → HasState ss at s → Leads a ss at i s
  -- 2. Places that are named are in the code and lie ahead, and places that are fallen into are in the code.
  pub ahead : (at to : ℕ) → Names a at to → (at < to) × (to < length a.code)
  pub next : (at to : ℕ) → Falls a at to → to < length a.code
  -- 3. A predicate begins with its arguments, and a query with none, both without a frame and with nothing owed.
  pub entries : (n : ℕ) (e : Entry) → HasEntry a n e → BeginsWith ss e.at e.arity
  pub firsts : (n : ℕ) (q : Span) → HasQuery a n q → BeginsWith ss q.at 0
  -- 4. A query's code stays within itself and ends with the answer, and no other code reaches it or answers.
  pub queries : (n : ℕ) (q : Span) → HasQuery a n q → IsQuery a ss q
  pub apart : (n m at : ℕ) (p q : Span) → HasQuery a n p → HasQuery a m q → IsIn p at → IsIn q at → n ≡ m
  pub answers : (at : ℕ) → Holds a at AnswerNow → (n : ℕ) × (q : Span) × HasQuery a n q × (suc at ≡ q.end)
  -- 5. Each other choice is reached from the one before it alone.
  pub choices : AreChoices a
  -- 6. All atoms, tables, ranges and predicates that are named are there, and the keys of a switch are of its kind.
  pub there : (at : ℕ) (i : Code) → Holds a at i → IsThere a i
  pub keys : All (λ table. All (λ row. IsKey a row.0) table) a.tables
  pub predicate_names : All (λ e. IsAtom a e.name) a.entries
  pub query_names : All (λ q. All (λ c. IsAtom a c) q.names) a.queries

-- There are states of its places by which it is.
abbrev pub IsVerified : Area → Type 0
IsVerified a = (ss : List State) × IsVerifiedBy a ss
