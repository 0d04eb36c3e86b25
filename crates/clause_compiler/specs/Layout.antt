-- What the code of a program is made of: choices, the code of clauses, and the code of queries.
use Rattle.std.specs.Prelude.{◌≡◌, ◌⊎◌, ℕ, zero, suc, ◌+◌, ◌<◌, ◌≤◌, Bool, true, false, IsTrue, List, [], ◌∷◌, ◌++◌, map, length, slice_get, All, Some}
use Rattle.fd_language.specs.Family.{has}
use Rattle.fd_model.specs.Goal.{Clause, Query, Program}
use Rattle.fd_model.specs.ConstraintExpansion.{arguments}
use Rattle.wam_code.specs.declared.instruction.Code.{Code}
use Rattle.wam_code.specs.declared.instruction.Code.TheVariants.{Jump, FailNow, Try, Retry, Trust, SwitchOnTerm, SwitchOnConstant, SwitchOnInteger}
use Rattle.wam_code.specs.declared.instruction.Code.TheVariants.{SwitchOnStructure}
use Rattle.wam_code.specs.declared.parts.Entry.{Entry}
use Rattle.wam_code.specs.Area.{Area, Span, HasEntry, HasQuery, name_of}
use Rattle.wam_code.specs.VerifiedCode.{named, is_before, is_behind, IsAtom, IsKey, IsThere}
use Rattle.fd_language.specs.Term.{term_count}
use Rattle.wam_code.specs.Tries.{IsPredicate}
use Rattle.wam_code.specs.Keys.{HasRisingTables}
use Rattle.clause_code.specs.Pieces.{base_of}
use Rattle.clause_code.specs.SafeCode.{IsClauseCode, IsQueryPiece}
use Rattle.clause_compiler.specs.PredicateSwitches.{HasSwitches}

-- ---- lists, one behind the other

module _ {X : Type 0} where
  abbrev pub joined : List (List X) → List X
  joined [] = []
  joined (x ∷ xs) = x ++ joined xs

  -- where the list with a number begins
  abbrev pub offset : List (List X) → ℕ → ℕ
  offset [] k = 0
  offset (x ∷ xs) zero = 0
  offset (x ∷ xs) (suc k) = length x + offset xs k

-- ---- choices

abbrev pub is_switch : Code → Bool
is_switch (SwitchOnTerm v c i s) = true
is_switch (SwitchOnConstant t) = true
is_switch (SwitchOnInteger t) = true
is_switch (SwitchOnStructure t) = true
is_switch _ = false

-- an instruction of a list of clauses
abbrev pub is_listing : Code → Bool
is_listing (Jump to) = true
is_listing FailNow = true
is_listing (Try to) = true
is_listing (Retry to) = true
is_listing (Trust to) = true
is_listing _ = false

-- of the instructions, that with a number passes the test
abbrev pub Passes : List Code → (Code → Bool) → ℕ → Type 0
Passes is test n = (i : Code) × (slice_get is n ≡ Some i) × IsTrue (test i)

abbrev pub is_first : Code → Bool
is_first (Retry to) = false
is_first (Trust to) = false
is_first _ = true

-- The choices of a predicate with so many arguments stand at the place: lists and switches that lead to each other, ahead, and to places where the predicate's
-- clauses may begin.
pub record AreChoicesOf (a : Area) (begins : ℕ → Type 0) (at arity : ℕ) (is : List Code) : Type 0 where
  pub first : Passes is is_first 0
  pub lists : (n : ℕ) (i : Code) → slice_get is n ≡ Some i → IsTrue (is_switch i) ⊎ IsTrue (is_listing i)
  pub argument : (n : ℕ) (i : Code) → slice_get is n ≡ Some i → IsTrue (is_switch i) → 1 ≤ arity
  pub leads : (n : ℕ) (i : Code) (to : ℕ) → slice_get is n ≡ Some i → IsTrue (has (named a i) to) → begins to ⊎ ((m : ℕ) × (to ≡ at + m) × (n < m) × Passes is is_first m)
  pub behind : (n : ℕ) → Passes is is_before n → Passes is is_behind (suc n)
  pub before : (n : ℕ) → Passes is is_behind n → (m : ℕ) × (n ≡ suc m) × Passes is is_before m
  pub there : (n : ℕ) (i : Code) → slice_get is n ≡ Some i → IsThere a i

-- ---- clauses and queries

-- a clause of so many arguments begins at the place, where the code of the clauses follows from `from` on
abbrev pub BeginsClause : List Clause → ℕ → List (List Code) → ℕ → ℕ → Type 0
BeginsClause cs from pieces arity at = (k : ℕ) × (c : Clause) × (slice_get cs k ≡ Some c) × (term_count (arguments c.head) ≡ arity) × (at ≡ from + offset pieces k)

-- the query's code is all of its span, which begins at the place and has its names
pub record IsSpanOf (a : Area) (at : ℕ) (q : Query) (s : Span) (is : List Code) : Type 0 where
  pub begins : s.at ≡ at
  pub ends : s.end ≡ at + length is
  pub names : map (name_of a) s.names ≡ q.names
  pub shown : length q.names ≡ length q.shown
  pub code : IsQueryPiece (base_of a) at is q

-- ---- all of it

-- Choices for each predicate, then the code of each clause, then that of each query, one behind the other.
pub record IsLaidOut (a : Area) (prog : Program) : Type 0 where
  pub choices : List (List Code)
  pub clauses : List (List Code)
  pub queries : List (List Code)
  pub code : a.code ≡ joined choices ++ (joined clauses ++ joined queries)
  pub each_choice : length choices ≡ length a.entries
  pub each_clause : length clauses ≡ length prog.clauses
  pub each_query : length queries ≡ length prog.queries
  pub each_span : length a.queries ≡ length prog.queries
  pub entry : (k : ℕ) (e : Entry) → HasEntry a k e → e.at ≡ offset choices k
  pub choice : (k : ℕ) (e : Entry) (is : List Code) → HasEntry a k e → slice_get choices k ≡ Some is
      → AreChoicesOf a (BeginsClause prog.clauses (length (joined choices)) clauses e.arity) e.at e.arity is
  pub clause : (k : ℕ) (c : Clause) (is : List Code) → slice_get prog.clauses k ≡ Some c → slice_get clauses k ≡ Some is → IsClauseCode (base_of a) (length (joined choices) + offset clauses k) is c
  pub query : (k : ℕ) (q : Query) (s : Span) (is : List Code) → slice_get prog.queries k ≡ Some q → HasQuery a k s → slice_get queries k ≡ Some is
      → IsSpanOf a (length (joined choices) + (length (joined clauses) + offset queries k)) q s is
  -- The choices try the clauses.
  pub predicates : (k : ℕ) (e : Entry) → HasEntry a k e → IsPredicate a prog e
  pub switched : HasSwitches a prog
  pub keys : All (λ table. All (λ row. IsKey a row.0) table) a.tables
  pub rising : HasRisingTables a
  pub predicate_names : All (λ e. IsAtom a e.name) a.entries
  pub query_names : All (λ s. All (λ c. IsAtom a c) s.names) a.queries
