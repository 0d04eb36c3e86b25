-- Conditions on queries and predicates that look at no other code.
use Rattle.std.specs.Prelude.{◌≡◌, ◌⊎◌, ℕ, suc, ◌<◌, ◌≤◌, ◌^◌, IsTrue, List, length, slice_get, slice_index_or, Option, None, MatchOption, All}
use Rattle.wam_code.specs.declared.instruction.Code.TheVariants.{AnswerNow}
use Rattle.wam_code.specs.Area.{Slot, State, Span, Area, Holds, HasState, HasQuery}
use Rattle.wam_code.specs.Effect.{is_cell}
use Rattle.wam_code.specs.VerifiedCode.{IsFirst, BeginsWith, IsAtom}
use Rattle.code_flow.specs.PlaceConditions.{IsLastOf, ShowsAt}
use Rattle.code_text.specs.FaultPlaces.{IsTold}

-- so many slots are cells, from the first on
abbrev pub AreCells : ℕ → List Slot → Type 0
AreCells count ss = (n : ℕ) → n < count → IsTrue (is_cell (slice_get ss n))

-- The query begins with no register, ends with an answer, and its names are there.
pub record FitsAlone (a : Area) (ss : List State) (q : Span) : Type 0 where
  pub some : q.at < q.end
  pub within : q.end ≤ length a.code
  pub last : (at : ℕ) → suc at ≡ q.end → Holds a at AnswerNow
  pub begins : BeginsWith ss q.at 0
  pub names : All (λ c. IsAtom a c) q.names

-- of each query that isn't told
abbrev pub AreAloneTold : Area → List State → Option ℕ → Type 0
AreAloneTold a ss told = (n : ℕ) (q : Span) → HasQuery a n q → FitsAlone a ss q ⊎ IsTold told q.at

-- the answer of the query may show its names, or it is told
abbrev pub IsAnswerTold : Area → List State → Option ℕ → Span → Type 0
IsAnswerTold a ss told q = (at : ℕ) → Holds a at AnswerNow → IsLastOf q at → ShowsAt ss at (length q.names) ⊎ IsTold told at

-- of each query
abbrev pub AreAnswersTold : Area → List State → Option ℕ → Type 0
AreAnswersTold a ss told = (n : ℕ) (q : Span) → HasQuery a n q → IsAnswerTold a ss told q

-- the number of argument registers that a predicate has whose code may begin with the state
abbrev pub IsFirstCount : State → Option ℕ → Type 0
IsFirstCount s o = MatchOption o ((k : ℕ) → k < 2 ^ 8 → ¬ IsFirst k s) (λ k. IsFirst k s)

-- of each state
abbrev pub AreFirstCounts : List State → List (Option ℕ) → Type 0
AreFirstCounts ss counts = (at : ℕ) (s : State) → HasState ss at s → IsFirstCount s (slice_index_or counts at None)
