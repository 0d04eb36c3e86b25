-- A piece of code that is safe to run wherever it stands, and what the code of a clause and of a query is.
use Rattle.std.specs.Prelude.{◌≡◌, ℕ, suc, ◌+◌, ◌<◌, ◌≤◌, Bool, true, false, IsTrue, List, [], ◌∷◌, map, Some, length, slice_get, slice_index_or}
use Rattle.fd_language.specs.Family.{has}
use Rattle.fd_model.specs.Goal.{Clause, Query, marked_all}
use Rattle.fd_model.specs.ConstraintExpansion.{arguments}
use Rattle.fd_language.specs.Spelling.{empty_range}
use Rattle.range_code.specs.Slots.{slots_of}
use Rattle.wam_code.specs.declared.instruction.Code.{Code}
use Rattle.wam_code.specs.declared.instruction.Code.TheVariants.{GetConstant, GetStructure, UnifyConstant, PutConstant, PutStructure, Call, Execute, Proceed}
use Rattle.wam_code.specs.declared.instruction.Code.TheVariants.{Jump, FailNow, AnswerNow, TryMeElse, RetryMeElse, TrustMe, Try, Retry, Trust, SwitchOnTerm}
use Rattle.wam_code.specs.declared.instruction.Code.TheVariants.{SwitchOnConstant, SwitchOnInteger, SwitchOnStructure, Either, PostRange, EnterTest}
use Rattle.wam_code.specs.declared.parts.Entry.{Entry}
use Rattle.wam_code.specs.Area.{Area, State}
use Rattle.wam_code.specs.Effect.{slot_at, is_cell, effect}
use Rattle.wam_code.specs.VerifiedCode.{goes_on, Covers, IsFirst}
use Rattle.fd_language.specs.Term.{term_count}
use Rattle.wam_code.specs.Places.{no_depth, Places}
use Rattle.wam_code.specs.CodeMeaning.{Means}
use Rattle.wam_code.specs.Tries.{IsBefore, IsClause}
use Rattle.clause_code.specs.Pieces.{Base, base_of, Stand}

-- ---- where a piece leads

-- the predicates before their code has its place
abbrev pub unplaced : Base → List Entry
unplaced b = map (λ s. record { name = s.name; arity = s.arity; at = 0 }) b.predicates

-- an instruction of a clause's or a query's own code: neither a choice nor a switch
abbrev pub is_plain : Code → Bool
is_plain (TryMeElse to) = false
is_plain (RetryMeElse to) = false
is_plain TrustMe = false
is_plain (Try to) = false
is_plain (Retry to) = false
is_plain (Trust to) = false
is_plain (SwitchOnTerm v c i s) = false
is_plain (SwitchOnConstant t) = false
is_plain (SwitchOnInteger t) = false
is_plain (SwitchOnStructure t) = false
is_plain _ = true

-- the places that a plain instruction names
abbrev pub aims : Code → List ℕ
aims (Jump to) = to ∷ []
aims (Either to) = to ∷ []
aims (EnterTest n m to) = to ∷ []
aims _ = []

-- the state is handed to the place `to` of a piece that begins at the place `at` and has these states
abbrev pub HandedIn : ℕ → List State → State → ℕ → Type 0
HandedIn at ss s to = (n : ℕ) × (to ≡ at + n) × (t : State) × (slice_get ss n ≡ Some t) × Covers s t

-- the n-th instruction finds what it needs, and what it hands on covers the states of the places that it leads to, which lie ahead
abbrev pub LeadsIn : Base → ℕ → List State → ℕ → Code → State → Type 0
LeadsIn b at ss n i s = (t : State) × (effect (unplaced b) i s ≡ Some t) × ((to : ℕ) → IsTrue (has (aims i) to) → (at + n < to) × HandedIn at ss t to)
    × (IsTrue (goes_on i) → HandedIn at ss t (suc (at + n)))

-- what the instruction names is there
abbrev pub IsThereIn : Base → Code → Type 0
IsThereIn b (GetConstant c r) = c.number < length b.pool.names
IsThereIn b (GetStructure f n r) = f.number < length b.pool.names
IsThereIn b (UnifyConstant c) = c.number < length b.pool.names
IsThereIn b (PutConstant c r) = c.number < length b.pool.names
IsThereIn b (PutStructure f n r) = f.number < length b.pool.names
IsThereIn b (Call e) = e < length b.predicates
IsThereIn b (Execute e) = e < length b.predicates
IsThereIn b (PostRange r n) = (r < length b.ranges) × (n ≡ suc (length (slots_of (slice_index_or b.ranges r empty_range))))
IsThereIn b _ = Unit {0}

-- The piece begins with the state first, runs ahead, stays within itself, and finds what it needs.
pub record IsSafePiece (b : Base) (at : ℕ) (is : List Code) (ss : List State) (first : State) : Type 0 where
  pub states : length ss ≡ length is
  pub begins : slice_get ss 0 ≡ Some first
  pub leads : (n : ℕ) (i : Code) (s : State) → slice_get is n ≡ Some i → slice_get ss n ≡ Some s → LeadsIn b at ss n i s
  pub plain : (n : ℕ) (i : Code) → slice_get is n ≡ Some i → IsTrue (is_plain i)
  pub there : (n : ℕ) (i : Code) → slice_get is n ≡ Some i → IsThereIn b i

-- ---- clauses and queries

-- the first instruction is one of a clause's own
abbrev pub may_enter : Code → Bool
may_enter (Jump to) = false
may_enter FailNow = false
may_enter i = is_plain i

-- The code of a clause: wherever it stands it is the clause's, and it is safe where its arguments are given.
pub record IsClauseCode (b : Base) (at : ℕ) (is : List Code) (c : Clause) : Type 0 where
  pub first : State
  pub states : List State
  pub begins : IsFirst (term_count (arguments c.head)) first
  pub safe : IsSafePiece b at is states first
  pub enters : (i : Code) → slice_get is 0 ≡ Some i → IsTrue (may_enter i)
  pub no_answer : (n : ℕ) → slice_get is n ≡ Some AnswerNow → ⊥
  pub means : (area : Area) → base_of area ≡ b → Stand area at is → IsClause area at c

-- The code of a query: the same, with the answer as its last instruction and nowhere else, where the slots that are shown are cells.
pub record IsQueryPiece (b : Base) (at : ℕ) (is : List Code) (q : Query) : Type 0 where
  pub first : State
  pub states : List State
  pub begins : IsFirst 0 first
  pub safe : IsSafePiece b at is states first
  pub answer : (n : ℕ) → slice_get is n ≡ Some AnswerNow → suc n ≡ length is
  pub last : (n : ℕ) → suc n ≡ length is → slice_get is n ≡ Some AnswerNow
  pub shown : (n : ℕ) (s : State) → suc n ≡ length is → slice_get states n ≡ Some s → (k : ℕ) → 1 ≤ k → k ≤ length q.shown → IsTrue (is_cell (slot_at s.frame k))
  pub no_proceed : (n : ℕ) → slice_get is n ≡ Some Proceed → ⊥
  pub no_execute : (n e : ℕ) → slice_get is n ≡ Some (Execute e) → ⊥
  pub means : (area : Area) → base_of area ≡ b → Stand area at is → (p : Places) → p.noted ≡ Some no_depth → IsBefore p 0 q.variables
      → Means area (record { goals = []; shown = q.shown }) at p [] (marked_all 0 q.goals)
