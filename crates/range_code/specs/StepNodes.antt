-- Instructions that are taken one after the other.
use Rattle.std.specs.Prelude.{◌≡◌, ℕ, ℤ, List, map, length, drop, Some}
use Rattle.std.specs.List.{All}
use Rattle.fd_language.specs.declared.range_node.RangeNode.{RangeNode}
use Rattle.fd_language.specs.Family.{Family}
use Rattle.fd_language.specs.Range.{Range, Expr}
use Rattle.fd_language.specs.PostfixRanges.{built, spelled_range}
use Rattle.range_code.specs.declared.work.Work.{Work}
use Rattle.range_code.specs.declared.evaluate.Steps.{Steps}
use Rattle.range_code.specs.Instructions.{node_of, IsPlaced}
use Rattle.range_code.specs.Work.{IsPending}

-- the nodes of the instructions from a place on, and of all behind the tests
abbrev pub steps_from : Steps → ℕ → List RangeNode
steps_from s i = map (node_of s.constants.items) (drop i s.instrs.items)

abbrev pub all_steps : Steps → List RangeNode
all_steps s = steps_from s s.tests

-- no test stands behind the tests, and each constant is in the table
abbrev pub ArePlaced : Steps → Type 0
ArePlaced s = All (IsPlaced (length s.constants.items)) (drop s.tests s.instrs.items)

-- what waits are the operands of the instructions from a place on
abbrev pub IsAt : Family → (ℕ → ℤ) → Steps → ℕ → Work → Type 0
IsAt S p s i w = (rs : List Range) × (ts : List Expr) × (Some (spelled_range (all_steps s)) ≡ built (steps_from s i) rs ts) × IsPending S p rs ts w
