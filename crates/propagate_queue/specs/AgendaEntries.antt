-- Agents that wait, each with its cost and its turn.
use Rattle.std.specs.Prelude.{◌≡◌, ◌⊎◌, ℕ, ◌<◌, ◌≤◌, List, ◌∷◌, map, All}
use Rattle.std.specs.List.Sorted.{IsPermutation}

pub record AgendaEntry : Type 0 where
  pub agent : ℕ
  pub cost : ℕ
  pub turn : ℕ

-- how many were put so far, and for how many more there is room
pub record AgendaEntries : Type 0 where
  pub waiting : List AgendaEntry
  pub puts : ℕ
  pub spare : ℕ

abbrev pub agents_of : List AgendaEntry → List ℕ
agents_of ws = map (λ w. w.agent) ws

-- costs less, or as much and was put no later
abbrev pub IsBefore : AgendaEntry → AgendaEntry → Type 0
IsBefore w v = (w.cost < v.cost) ⊎ ((w.cost ≡ v.cost) × (w.turn ≤ v.turn))

-- the agent waited, and none before it; it waits no more
abbrev pub IsCheapest : List AgendaEntry → List AgendaEntry → ℕ → Type 0
IsCheapest old new a = (w : AgendaEntry) × (w.agent ≡ a) × IsPermutation old (w ∷ new) × All (IsBefore w) old
