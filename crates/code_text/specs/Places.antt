-- The conditions of a place, one by one.
use Rattle.std.specs.Prelude.{◌≡◌, ◌⊎◌, ℕ, suc, ◌<◌, List, length, Option, All}
use Rattle.wam_code.specs.declared.instruction.Code.{Code}
use Rattle.wam_code.specs.declared.instruction.Code.TheVariants.{AnswerNow}
use Rattle.wam_code.specs.declared.parts.Entry.{Entry}
use Rattle.wam_code.specs.Area.{State, Span, Area, Holds, HasEntry, HasQuery}
use Rattle.wam_code.specs.VerifiedCode.{Names, Falls, is_other, NamesOther, is_before, is_behind, HoldsOne, IsNoStart, IsKey}
use Rattle.code_flow.specs.PlaceConditions.{FitsInstruction, FitsBefore, FitsEntry, FitsQuery, IsLast}
use Rattle.code_text.specs.FaultPlaces.{IsTold}
use Rattle.code_text.specs.LocalConditions.{AreAnswersTold}
use Rattle.code_text.specs.Owners.{owner_at, IsOwnerTold}

-- all that belongs to a place of the code
pub record FitsPlace (a : Area) (ss : List State) (at : ℕ) : Type 0 where
  pub instruction : (i : Code) → Holds a at i → FitsInstruction a ss at i
  pub before : FitsBefore a at
  pub answers : Holds a at AnswerNow → IsLast a at

-- what the instruction leads to is there, and lies ahead where it is named
pub record LiesAhead (a : Area) (at : ℕ) : Type 0 where
  pub ahead : (to : ℕ) → Names a at to → (at < to) × (to < length a.code)
  pub next : (to : ℕ) → Falls a at to → to < length a.code

-- the choices that it names or stands before are there
pub record HasChoices (a : Area) (at : ℕ) : Type 0 where
  pub others : (to : ℕ) → NamesOther a at to → HoldsOne a is_other to
  pub behind : HoldsOne a is_before at → HoldsOne a is_behind (suc at)

-- The conditions of the predicate hold, or it is told; and a query that it begins in is told.
abbrev pub IsEntryTold : Area → List State → List (Option ℕ) → Option ℕ → ℕ → Type 0
IsEntryTold a ss own told n = (e : Entry) → HasEntry a n e → (FitsEntry a ss e ⊎ IsTold told e.at) × IsOwnerTold a (owner_at own e.at) told

-- Each predicate, each query and each query's answer meets its conditions, or is told.
pub record AreSpansTold (a : Area) (ss : List State) (told : Option ℕ) : Type 0 where
  pub entries : (n : ℕ) (e : Entry) → HasEntry a n e → FitsEntry a ss e ⊎ IsTold told e.at
  pub queries : (n : ℕ) (q : Span) → HasQuery a n q → FitsQuery a ss n q ⊎ IsTold told q.at
  pub answers : AreAnswersTold a ss told

-- the keys of all tables are there
abbrev pub HasAllKeys : Area → Type 0
HasAllKeys a = All (λ table. All (λ row. IsKey a row.0) table) a.tables

-- of a place where another part of a choice begins
pub record FitsOther (a : Area) (at : ℕ) : Type 0 where
  pub named_once : (from : ℕ) × NamesOther a from at × ((n : ℕ) → NamesOther a n at → n ≡ from)
  pub named_alone : (from : ℕ) → Names a from at → NamesOther a from at
  pub not_fallen : (from : ℕ) → ¬ Falls a from at
  pub no_start : IsNoStart a at

-- of Retry and Trust
pub record FitsBehind (a : Area) (at : ℕ) : Type 0 where
  pub before : (from : ℕ) × (at ≡ suc from) × HoldsOne a is_before from
  pub not_named : (from : ℕ) → ¬ Names a from at
  pub no_start : IsNoStart a at
