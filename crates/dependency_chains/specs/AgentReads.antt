-- What agents read of variables.
use Rattle.std.specs.Prelude.{ℕ, List, map}
use Rattle.fd_language.specs.declared.range_node.Feature.{Feature}

-- an agent reads a feature of a variable
pub record AgentRead : Type 0 where
  pub agent : ℕ
  pub var : ℕ
  pub feature : Feature

pub record AgentReads : Type 0 where
  pub vars : ℕ
  pub reads : List AgentRead

-- what one agent reads
abbrev pub read_by : ℕ → List (ℕ × Feature) → List AgentRead
read_by agent fs = map (λ d. record { agent = agent; var = d.0; feature = d.1 }) fs
