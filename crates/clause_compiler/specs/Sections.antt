-- Pieces of code that are put behind other code, one behind the other.
use Rattle.std.specs.Prelude.{◌≡◌, ℕ, pos, ◌+◌, ◌<◌, List, [], ◌++◌, length, slice_get, slice_index_or, Some}
use Rattle.clause_check.specs.Programs.{FlatProgram, clause_at, clause_in, query_at, query_in}
use Rattle.wam_code.specs.declared.instruction.Code.{Code}
use Rattle.wam_code.specs.declared.instruction.Code.TheVariants.{Jump, Try, Retry, Trust}
use Rattle.wam_code.specs.declared.parts.Entry.{Entry}
use Rattle.wam_code.specs.declared.instruction.Key.{Key}
use Rattle.wam_code.specs.declared.instruction.Key.TheVariants as key
use Rattle.wam_code.specs.Area.{Span, Table}
use Rattle.clause_code.specs.Pieces.{Predicate}
use Rattle.clause_code.specs.Predicates.{base_in, predicate_at}
use Rattle.clause_code.specs.SafeCode.{IsClauseCode, IsQueryPiece}
use Rattle.clause_code.specs.ClauseChoices.{list_of}
use Rattle.clause_compiler.specs.Groups.{numbers_of}
use Rattle.clause_compiler.specs.Layout.{joined, offset}
use Rattle.clause_compiler.specs.Switches.{AreChoicesBy}

-- Behind the old code stand n pieces, of each of which P is true, by its number, its place and its instructions; and there is an item of each.
pub record ArePut {X : Type 0} (item : ℕ → ℕ → List Code → X) (P : ℕ → ℕ → List Code → Type 0) (n : ℕ) (old new : List Code) (items : List X) : Type 0 where
  pub pieces : List (List Code)
  pub code : new ≡ old ++ joined pieces
  pub many : length pieces ≡ n
  pub size : length items ≡ n
  pub each : (k : ℕ) (is : List Code) → slice_get pieces k ≡ Some is → slice_get items k ≡ Some (item k (length old + offset pieces k) is)
  pub piece : (k : ℕ) (is : List Code) → slice_get pieces k ≡ Some is → P k (length old + offset pieces k) is

-- ---- clauses, each with its place

abbrev pub its_place : ℕ → ℕ → List Code → ℕ
its_place k at is = at

abbrev pub IsClausePiece : FlatProgram → List Predicate → ℕ → ℕ → List Code → Type 0
IsClausePiece p ps k at is = IsClauseCode (base_in p ps) at is (clause_in p (clause_at p k))

-- ---- queries, each with its span

abbrev pub its_span : FlatProgram → ℕ → ℕ → List Code → Span
its_span p k at is = record { at = at; end = at + length is; names = (query_at p k).names }

abbrev pub IsQueryOf : FlatProgram → List Predicate → ℕ → ℕ → List Code → Type 0
IsQueryOf p ps k at is = IsQueryPiece (base_in p ps) at is (query_in p (query_at p k))

-- ---- choices, each with its entry; they name clauses by their numbers

abbrev pub its_entry : List Predicate → ℕ → ℕ → List Code → Entry
its_entry ps k at is = record { name = (predicate_at ps k).name; arity = (predicate_at ps k).arity; at = at }

abbrev pub IsChoiceOf : FlatProgram → List Table → List Predicate → ℕ → ℕ → List Code → Type 0
IsChoiceOf p tables ps k at is = AreChoicesBy p tables (numbers_of p (length p.clauses) (predicate_at ps k)) (predicate_at ps k).arity at is

-- the place of a clause by its number
abbrev pub place_in : List ℕ → ℕ → ℕ
place_in places c = slice_index_or places c 0

-- the instruction of a list with the place of its clause
abbrev pub placed_code : List ℕ → Code → Code
placed_code places (Jump c) = Jump (place_in places c)
placed_code places (Try c) = Try (place_in places c)
placed_code places (Retry c) = Retry (place_in places c)
placed_code places (Trust c) = Trust (place_in places c)
placed_code places i = i

-- it names one of the first n clauses
abbrev pub IsNumbered : ℕ → Code → Type 0
IsNumbered n (Jump c) = c < n
IsNumbered n (Try c) = c < n
IsNumbered n (Retry c) = c < n
IsNumbered n (Trust c) = c < n
IsNumbered n i = Unit {0}

-- ---- rows of a table, each with its key

abbrev pub its_row : List Key → ℕ → ℕ → List Code → Key × ℕ
its_row keys k at is = (slice_index_or keys k (key.Int (pos 0)), at)

abbrev pub IsListIn : List (List ℕ) → ℕ → ℕ → List Code → Type 0
IsListIn groups k at is = is ≡ list_of (slice_index_or groups k [])
