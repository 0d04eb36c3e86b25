-- How many values and sets wait at most while a range is evaluated.
use Rattle.std.specs.Prelude.{◌≡◌, ℕ, ◌+◌, ◌-◌, ◌≤◌, if◌then◌else◌, max, List, [], ◌∷◌, length, vec_len, vec_capacity}
use Rattle.fd_language.specs.declared.range_node.RangeNode.{RangeNode}
use Rattle.fd_language.specs.Counts.{takes}
use Rattle.fd_language.specs.Range.{Range}
use Rattle.range_code.specs.declared.work.Work.{Work}
use Rattle.range_code.specs.FoldedRanges.{folded_nodes}

-- how many values wait behind a node, where so many wait before it
abbrev pub values_after : RangeNode → ℕ → ℕ
values_after m n = n + (if (takes m).gives_range then 0 else 1) - (takes m).terms

-- and how many sets
abbrev pub sets_after : RangeNode → ℕ → ℕ
sets_after m n = n + (if (takes m).gives_range then 1 else 0) - (takes m).ranges

-- the greatest number that waits before a node or at the end
abbrev pub peak : (RangeNode → ℕ → ℕ) → List RangeNode → ℕ → ℕ
peak f [] n = n
peak f (m ∷ ms) n = max n (peak f ms (f m n))

-- the greatest number of values, or of sets, that wait while the nodes are taken
abbrev pub tallest : List RangeNode → ℕ
tallest ms = max (peak values_after ms 0) (peak sets_after ms 0)

-- the same while the range is evaluated
abbrev pub height : Range → ℕ
height r = tallest (folded_nodes r)

-- there is room for all that will wait
pub record HasRoom (ms : List RangeNode) (w : Work) : Type 0 where
  pub values : peak values_after ms (vec_len w.values) ≤ vec_capacity w.values
  pub sets : peak sets_after ms (length w.sets.sets) ≤ w.sets.room

-- how many values and sets wait afterwards: at most f and g of how many waited before
pub record Counts (f g : ℕ → ℕ) (old new : Work) : Type 0 where
  pub values : vec_len new.values ≤ f (vec_len old.values)
  pub sets : length new.sets.sets ≤ g (length old.sets.sets)

abbrev pub IsCounted : RangeNode → Work → Work → Type 0
IsCounted m old new = Counts (values_after m) (sets_after m) old new

-- the room is as it was
pub record KeepsRoom (old new : Work) : Type 0 where
  pub values : vec_capacity new.values ≡ vec_capacity old.values
  pub sets : new.sets.room ≡ old.sets.room
