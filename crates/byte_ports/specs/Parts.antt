-- The sources and sinks, as contracts see them.
use Rattle.std.specs.Prelude.{ℕ, List, Option, Contains}
use Rattle.byte_ports.specs.Ports.{raised}

-- the calls that were made, the numbers of the calls that are to fail, and how many failed
pub record PlanParts : Type 0 where
  pub failing : List ℕ
  pub calls : ℕ
  pub faults : ℕ

-- a plan before the first call
abbrev pub unused : List ℕ → PlanParts
unused failing = record { failing = failing; calls = 0; faults = 0 }

-- the call after those that were made is to fail. The first call has the number 1
abbrev pub FailsNext : PlanParts → Type 0
FailsNext plan = Contains plan.failing (raised plan.calls)

-- the plan after one more call, which does not fail
abbrev pub called : PlanParts → PlanParts
called plan = record plan { calls = raised plan.calls }

-- the plan after one more call, which fails
abbrev pub failed : PlanParts → PlanParts
failed plan = record plan { calls = raised plan.calls; faults = raised plan.faults }

-- a source in memory: the bytes not yet read, and its plan
pub record MemorySourceParts : Type 0 where
  pub left : List ℕ
  pub plan : PlanParts

-- a sink in memory: the bytes taken, the bytes for which there is room yet, and its plan
pub record MemorySinkParts : Type 0 where
  pub written : List ℕ
  pub room : ℕ
  pub plan : PlanParts

-- bytes with the number of bytes for which there is room behind them
pub record ShelfParts : Type 0 where
  pub bytes : List ℕ
  pub room : ℕ

-- a sink that never fails: the bytes taken, where they are told, and the bytes for which there is room yet
pub record SureSinkParts : Type 0 where
  pub written : Option (List ℕ)
  pub room : ℕ

-- an adapter: the reader or the writer inside, and how many of its calls failed
pub record AdapterParts (T : Type 0) : Type 0 where
  pub inner : T
  pub faults : ℕ
