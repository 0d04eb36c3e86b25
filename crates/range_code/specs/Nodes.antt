-- The variables of nodes, and what nodes read of them.
use Rattle.std.specs.Prelude.{◌≡◌, ℕ, ◌<◌, List, [], ◌∷◌, length, flat_map, Option, option_map}
use Rattle.fd_language.specs.declared.range_node.RangeNode.{RangeNode}
use Rattle.fd_language.specs.declared.range_node.RangeNode.TheVariants as node
use Rattle.fd_language.specs.Range.{leaf_of, from_node}
use Rattle.range_code.specs.declared.frame.Arg.{Arg}
use Rattle.range_code.specs.declared.frame.Arg.TheVariants.{Var}
use Rattle.range_code.specs.Frames.{arg_at, slot_variable}

-- the variable of a node
abbrev pub node_variable : RangeNode → Option ℕ
node_variable n = option_map (λ l. l.variable) (leaf_of n)

abbrev pub node_variables : List RangeNode → List ℕ
node_variables ns = flat_map (from_node (λ l. l.variable ∷ [])) ns

-- the node with another variable
abbrev pub rename_node : (ℕ → ℕ) → RangeNode → RangeNode
rename_node f (node.Param x) = node.Param (f x)
rename_node f (node.Min y) = node.Min (f y)
rename_node f (node.Max y) = node.Max (f y)
rename_node f (node.Val y) = node.Val (f y)
rename_node f (node.Dom y) = node.Dom (f y)
rename_node f n = n

-- a slot that has an argument: a variable, which is one of so many
abbrev pub IsSeen : ℕ → List Arg → ℕ → Type 0
IsSeen count args slot = (slot < length args) × (slot_variable args slot < count) × (arg_at args slot ≡ Var (slot_variable args slot))

-- what a node names is there
abbrev pub IsReadable : ℕ → List Arg → RangeNode → Type 0
IsReadable count args (node.Param x) = x < length args
IsReadable count args (node.Min y) = IsSeen count args y
IsReadable count args (node.Max y) = IsSeen count args y
IsReadable count args (node.Val y) = IsSeen count args y
IsReadable count args (node.Dom y) = IsSeen count args y
IsReadable count args _ = Unit {0}
