-- Agents that wait in the order in which they were put, and how a list holds them.
use Rattle.std.specs.Prelude.{ℕ, ◌+◌, ◌≤◌, List}

-- for how many more there is room
pub record Line : Type 0 where
  pub waiting : List ℕ
  pub spare : ℕ

-- Those that wait stand from the first place on. Wherever that place is, up to the farthest one, the list has room for all that may wait.
pub record IsLine (len capacity first room farthest : ℕ) : Type 0 where
  pub begun : first ≤ len
  pub few : len ≤ first + room
  pub near : first ≤ farthest
  pub twice : room ≤ farthest
  pub within : farthest + room ≤ capacity
