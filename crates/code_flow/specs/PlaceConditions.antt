-- Where code isn't verified: each condition on verified code belongs to a place.
use Rattle.std.specs.Prelude.{◌≡◌, ℕ, suc, ◌<◌, ◌≤◌, min, IsTrue, List, length, All}
use Rattle.wam_code.specs.declared.instruction.Code.{Code}
use Rattle.wam_code.specs.declared.instruction.Code.TheVariants.{Execute, Proceed, AnswerNow}
use Rattle.wam_code.specs.declared.parts.Entry.{Entry}
use Rattle.wam_code.specs.Area.{State, Span, Area, Holds, HasState, HasEntry, HasQuery}
use Rattle.wam_code.specs.Effect.{slot_at, is_cell}
use Rattle.wam_code.specs.VerifiedCode.{Names, Falls, BeginsWith, IsIn, is_other, NamesOther, is_before, is_behind, HoldsOne, IsNoStart, IsAtom, IsKey, IsThere}
use Rattle.code_listing.specs.Listing.{table_of}
use Rattle.code_flow.specs.Successors.{LeadsOn}

-- ---- a place's own instruction

-- The instruction finds what it needs, leads ahead into the code, and names only what is there. That a place has a state belongs to all places together.
pub record FitsInstruction (a : Area) (ss : List State) (at : ℕ) (i : Code) : Type 0 where
  pub leads : (s : State) → HasState ss at s → LeadsOn a ss at i s
  pub ahead : (to : ℕ) → Names a at to → (at < to) × (to < length a.code)
  pub next : (to : ℕ) → Falls a at to → to < length a.code
  pub there : IsThere a i
  pub keys : All (λ row. IsKey a row.0) (table_of a.tables i)
  pub others : (to : ℕ) → NamesOther a at to → HoldsOne a is_other to
  pub behind : IsTrue (is_before i) → HoldsOne a is_behind (suc at)

-- It is named, fallen into and preceded as it may be. What names a choice's later part and what stands before it belongs to that part's place.
pub record FitsBefore (a : Area) (at : ℕ) : Type 0 where
  pub named_once : HoldsOne a is_other at → (from : ℕ) × NamesOther a from at × ((n : ℕ) → NamesOther a n at → n ≡ from)
  pub named_alone : (from : ℕ) → HoldsOne a is_other at → Names a from at → NamesOther a from at
  pub not_fallen : (from : ℕ) → HoldsOne a is_other at → ¬ Falls a from at
  pub no_start : HoldsOne a is_other at → IsNoStart a at
  pub before : HoldsOne a is_behind at → (from : ℕ) × (at ≡ suc from) × HoldsOne a is_before from
  pub not_named : (from : ℕ) → HoldsOne a is_behind at → ¬ Names a from at
  pub no_start_behind : HoldsOne a is_behind at → IsNoStart a at

-- ---- predicates and queries

pub record FitsEntry (a : Area) (ss : List State) (e : Entry) : Type 0 where
  pub begins : BeginsWith ss e.at e.arity
  pub name : IsAtom a e.name

-- What is true of a query's code, beside what its answer shows.
pub record IsSpan (a : Area) (q : Span) : Type 0 where
  pub some : q.at < q.end
  pub within : q.end ≤ length a.code
  pub last : (at : ℕ) → suc at ≡ q.end → Holds a at AnswerNow
  pub no_proceed : (at : ℕ) → IsIn q at → ¬ Holds a at Proceed
  pub no_execute : (at e : ℕ) → IsIn q at → ¬ Holds a at (Execute e)
  pub no_entry : (n : ℕ) (e : Entry) → HasEntry a n e → ¬ IsIn q e.at
  pub stays : (at to : ℕ) → IsIn q at → Names a at to → IsIn q to
  pub not_named : (at to : ℕ) → ¬ IsIn q at → Names a at to → ¬ IsIn q to
  pub not_fallen : (at to : ℕ) → ¬ IsIn q at → Falls a at to → ¬ IsIn q to

-- of the query with a number
pub record FitsQuery (a : Area) (ss : List State) (n : ℕ) (q : Span) : Type 0 where
  pub begins : BeginsWith ss q.at 0
  pub span : IsSpan a q
  pub apart : (m at : ℕ) (p : Span) → HasQuery a m p → IsIn q at → IsIn p at → n ≡ m
  pub names : All (λ c. IsAtom a c) q.names

-- ---- answers

-- the last place of the query
abbrev pub IsLastOf : Span → ℕ → Type 0
IsLastOf q at = IsIn q at × (suc at ≡ q.end)

-- the last place of a query
abbrev pub IsLast : Area → ℕ → Type 0
IsLast a at = (n : ℕ) × (q : Span) × HasQuery a n q × IsLastOf q at

-- what the slots of a state must be where an answer shows so many
abbrev pub AreShown : ℕ → State → Type 0
AreShown count s = (n : ℕ) → 1 ≤ n → n ≤ count → IsTrue (is_cell (slot_at s.frame n))

-- the place may show so many slots
abbrev pub ShowsAt : List State → ℕ → ℕ → Type 0
ShowsAt ss at count = (s : State) → HasState ss at s → AreShown count s

-- ---- all conditions, each at its place

-- Those of a place. Where there are fewer or more states than places, the shorter length is the place; tables are looked at behind the code too.
pub record FitsAt (a : Area) (ss : List State) (at : ℕ) : Type 0 where
  pub states : at ≡ min (length ss) (length a.code) → length ss ≡ length a.code
  pub instruction : (i : Code) → Holds a at i → FitsInstruction a ss at i
  pub before : FitsBefore a at
  pub entries : (n : ℕ) (e : Entry) → HasEntry a n e → e.at ≡ at → FitsEntry a ss e
  pub queries : (n : ℕ) (q : Span) → HasQuery a n q → q.at ≡ at → FitsQuery a ss n q
  pub answers : Holds a at AnswerNow → IsLast a at
  pub shown : (n : ℕ) (q : Span) → Holds a at AnswerNow → HasQuery a n q → IsLastOf q at → ShowsAt ss at (length q.names)
  pub tables : at ≡ length a.code → All (λ table. All (λ row. IsKey a row.0) table) a.tables

-- the smallest place at which a condition fails
pub record IsFirstFailing (a : Area) (ss : List State) (at : ℕ) : Type 0 where
  pub fails : ¬ FitsAt a ss at
  pub before : (k : ℕ) → k < at → FitsAt a ss k
