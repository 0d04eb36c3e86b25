-- Agents whose arguments stand in one list, one agent's behind another's.
use Rattle.std.specs.Prelude.{ℕ, ◌+◌, ◌<◌, ◌≤◌, List, map, length, take, drop, slice_index_or, All}
use Rattle.range_code.specs.declared.frame.Arg.{Arg}
use Rattle.range_code.specs.Heights.{height}
use Rattle.range_code.specs.QuickForms.{IsQuick}
use Rattle.propagate_queue.specs.declared.agents.Agent.{Agent}
use Rattle.propagate_queue.specs.Postings.{Posting}

abbrev pub laid : List Arg → Agent → Posting
laid args a = record { range = a.code.value; target = a.target; args = take a.count (drop a.first args) }

abbrev pub laid_out : List Agent → List Arg → List Posting
laid_out as' args = map (laid args) as'

-- stacks of this room serve each agent's code
abbrev pub HaveRoom : ℕ → List Agent → Type 0
HaveRoom room as' = All (λ a. height a.code.value ≤ room) as'

-- each agent's quick form is that of its code with its arguments
abbrev pub AreQuick : List Agent → List Arg → Type 0
AreQuick as' args = All (λ a. IsQuick (laid args a).range (laid args a).args a.quick) as'

pub record AreLaid (as' : List Agent) (args : List Arg) : Type 0 where
  pub within : All (λ a. a.first + a.count ≤ length args) as'
  pub rising : (i j : ℕ) (d : Agent) → i < j → j < length as' → (slice_index_or as' i d).first + (slice_index_or as' i d).count ≤ (slice_index_or as' j d).first
