-- The instructions of a range, and what they say.
use Rattle.std.specs.Prelude.{ℕ, suc, ◌<◌, ℤ, pos, List, [], ◌∷◌, ◌++◌, map, slice_index_or, Option, Some, None}
use Rattle.std.specs.List.{position_or_len}
use Rattle.std.specs.Ordering.{int_eq}
use Rattle.indexmap.specs.IndexSet.{insert_all}
use Rattle.fd_language.specs.declared.range_node.Need.{Need}
use Rattle.fd_language.specs.declared.range_node.RangeNode.{RangeNode}
use Rattle.fd_language.specs.declared.range_node.RangeNode.TheVariants as node
use Rattle.fd_language.specs.declared.TheConstants.{INFINITY}
use Rattle.fd_language.specs.Range.{Range}
use Rattle.range_code.specs.declared.instr.RangeInstr.{RangeInstr}
use Rattle.range_code.specs.declared.instr.RangeInstr.TheVariants as instr
use Rattle.range_code.specs.Slots.{slot_needs}
use Rattle.range_code.specs.ValSlots.{val_slots}
use Rattle.range_code.specs.FoldedRanges.{folded_nodes}

-- the slots from n on that need nothing: those of no parameter
abbrev pub without_need : ℕ → List (Option Need) → List ℕ
without_need n [] = []
without_need n (None ∷ ns) = n ∷ without_need (suc n) ns
without_need n (Some need ∷ ns) = without_need (suc n) ns

-- The tests: that each domain has a member, and then that each which is read by val has only one.
abbrev pub tests_for : List (Option Need) → List ℕ → List RangeInstr
tests_for needs vals = map instr.NeedSome (without_need 0 needs) ++ map instr.NeedFixed vals

abbrev pub tests_of : Range → List RangeInstr
tests_of r = tests_for (slot_needs r) (val_slots r)

-- the integers of nodes
abbrev pub integers : List RangeNode → List ℤ
integers [] = []
integers (node.Int z ∷ ns) = z ∷ integers ns
integers (n ∷ ns) = integers ns

-- each integer once, in the order of first occurrence
abbrev pub once_each : List ℤ → List ℤ
once_each zs = insert_all int_eq [] zs

-- the table of constants: the values of literals, by first use
abbrev pub table_of : List RangeNode → List ℤ
table_of ns = once_each (integers ns)

abbrev pub constants_of : Range → List ℤ
constants_of r = table_of (folded_nodes r)

-- the instruction of a node, with its integer's place in the table
abbrev pub instr_of : List ℤ → RangeNode → RangeInstr
instr_of table (node.Int z) = instr.PushConst (position_or_len (int_eq z) table)
instr_of table node.Infinity = instr.PushConst (position_or_len (int_eq (pos INFINITY)) table)
instr_of table (node.Param x) = instr.PushArg x
instr_of table (node.Min y) = instr.PushMin y
instr_of table (node.Max y) = instr.PushMax y
instr_of table (node.Val y) = instr.PushVal y
instr_of table node.Add = instr.Add
instr_of table node.Sub = instr.Sub
instr_of table node.Mul = instr.Mul
instr_of table node.DivDown = instr.DivDown
instr_of table node.DivUp = instr.DivUp
instr_of table node.Span = instr.Span
instr_of table node.One = instr.One
instr_of table (node.Dom y) = instr.PushDom y
instr_of table node.Union = instr.Union
instr_of table node.Inter = instr.Inter
instr_of table node.Outside = instr.Outside
instr_of table node.Plus = instr.Plus
instr_of table node.Minus = instr.Minus
instr_of table node.Times = instr.Times
instr_of table node.Over = instr.Over

-- The instructions of a range: the tests, and behind them one for each node of the range whose literals are folded.
abbrev pub instructions_of : Range → List RangeInstr
instructions_of r = tests_of r ++ map (instr_of (constants_of r)) (folded_nodes r)

-- the node of an operator
abbrev pub operator_of : RangeInstr → RangeNode
operator_of instr.Add = node.Add
operator_of instr.Sub = node.Sub
operator_of instr.Mul = node.Mul
operator_of instr.DivDown = node.DivDown
operator_of instr.DivUp = node.DivUp
operator_of instr.Span = node.Span
operator_of instr.One = node.One
operator_of instr.Union = node.Union
operator_of instr.Inter = node.Inter
operator_of instr.Outside = node.Outside
operator_of instr.Plus = node.Plus
operator_of instr.Minus = node.Minus
operator_of instr.Times = node.Times
operator_of instr.Over = node.Over
operator_of i = node.Infinity

-- the node of an instruction behind the tests
abbrev pub node_of : List ℤ → RangeInstr → RangeNode
node_of table (instr.PushConst i) = node.Int (slice_index_or table i (pos 0))
node_of table (instr.PushArg x) = node.Param x
node_of table (instr.PushMin y) = node.Min y
node_of table (instr.PushMax y) = node.Max y
node_of table (instr.PushVal y) = node.Val y
node_of table (instr.PushDom y) = node.Dom y
node_of table i = operator_of i

-- an instruction behind the tests, whose constant is one of so many
abbrev pub IsPlaced : ℕ → RangeInstr → Type 0
IsPlaced count (instr.PushConst i) = i < count
IsPlaced count (instr.NeedSome y) = ⊥
IsPlaced count (instr.NeedFixed y) = ⊥
IsPlaced count i = Unit {0}
