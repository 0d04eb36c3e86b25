-- The forms of nodes: their names, and the words of nodes.
use Rattle.std.specs.Prelude.{◌≡◌, ℕ, List, [], ◌∷◌, ◌++◌, codes, decimal}
use Rattle.std.specs.Fmt.{signed_decimal}
use Rattle.fd_language.specs.declared.range_node.RangeNode.{RangeNode}
use Rattle.fd_language.specs.declared.range_node.RangeNode.TheVariants as node
use Rattle.listing_reader.specs.NumberBounds.{HasSize}
use Rattle.listing_reader.specs.declared.read_nodes.LoneNode.{LoneNode}
use Rattle.listing_reader.specs.declared.read_nodes.LoneNode.TheVariants as lone
use Rattle.listing_reader.specs.declared.read_nodes.SlotNode.{SlotNode}
use Rattle.listing_reader.specs.declared.read_nodes.SlotNode.TheVariants as slot
use Rattle.listing_reader.specs.declared.read_nodes.NodeForm.{NodeForm}
use Rattle.listing_reader.specs.declared.read_nodes.NodeForm.TheVariants as form

abbrev pub node_name : NodeForm → List ℕ
node_name form.Integer = codes "i"
node_name (form.Lone lone.Infinity) = codes "inf"
node_name (form.Lone lone.Add) = codes "add"
node_name (form.Lone lone.Sub) = codes "sub"
node_name (form.Lone lone.Mul) = codes "mul"
node_name (form.Lone lone.DivDown) = codes "down"
node_name (form.Lone lone.DivUp) = codes "up"
node_name (form.Lone lone.Span) = codes "span"
node_name (form.Lone lone.One) = codes "one"
node_name (form.Lone lone.Union) = codes "union"
node_name (form.Lone lone.Inter) = codes "inter"
node_name (form.Lone lone.Outside) = codes "outside"
node_name (form.Lone lone.Plus) = codes "plus"
node_name (form.Lone lone.Minus) = codes "minus"
node_name (form.Lone lone.Times) = codes "times"
node_name (form.Lone lone.Over) = codes "over"
node_name (form.Slot slot.Param) = codes "p"
node_name (form.Slot slot.Min) = codes "min"
node_name (form.Slot slot.Max) = codes "max"
node_name (form.Slot slot.Val) = codes "val"
node_name (form.Slot slot.Dom) = codes "dom"

abbrev pub IsAnyForm : NodeForm → Type 0
IsAnyForm f = Unit {0}

abbrev pub lone_node : LoneNode → RangeNode
lone_node lone.Infinity = node.Infinity
lone_node lone.Add = node.Add
lone_node lone.Sub = node.Sub
lone_node lone.Mul = node.Mul
lone_node lone.DivDown = node.DivDown
lone_node lone.DivUp = node.DivUp
lone_node lone.Span = node.Span
lone_node lone.One = node.One
lone_node lone.Union = node.Union
lone_node lone.Inter = node.Inter
lone_node lone.Outside = node.Outside
lone_node lone.Plus = node.Plus
lone_node lone.Minus = node.Minus
lone_node lone.Times = node.Times
lone_node lone.Over = node.Over

abbrev pub slot_node : SlotNode → ℕ → RangeNode
slot_node slot.Param y = node.Param y
slot_node slot.Min y = node.Min y
slot_node slot.Max y = node.Max y
slot_node slot.Val y = node.Val y
slot_node slot.Dom y = node.Dom y

-- the words of a node: its name, and its operand
abbrev pub node_words : RangeNode → List (List ℕ)
node_words (node.Int z) = codes "i" ∷ signed_decimal z ∷ []
node_words node.Infinity = codes "inf" ∷ []
node_words node.Add = codes "add" ∷ []
node_words node.Sub = codes "sub" ∷ []
node_words node.Mul = codes "mul" ∷ []
node_words node.DivDown = codes "down" ∷ []
node_words node.DivUp = codes "up" ∷ []
node_words node.Span = codes "span" ∷ []
node_words node.One = codes "one" ∷ []
node_words node.Union = codes "union" ∷ []
node_words node.Inter = codes "inter" ∷ []
node_words node.Outside = codes "outside" ∷ []
node_words node.Plus = codes "plus" ∷ []
node_words node.Minus = codes "minus" ∷ []
node_words node.Times = codes "times" ∷ []
node_words node.Over = codes "over" ∷ []
node_words (node.Param y) = codes "p" ∷ decimal y ∷ []
node_words (node.Min y) = codes "min" ∷ decimal y ∷ []
node_words (node.Max y) = codes "max" ∷ decimal y ∷ []
node_words (node.Val y) = codes "val" ∷ decimal y ∷ []
node_words (node.Dom y) = codes "dom" ∷ decimal y ∷ []

abbrev pub nodes_words : List RangeNode → List (List ℕ)
nodes_words [] = []
nodes_words (n ∷ ns) = node_words n ++ nodes_words ns

-- the words begin with this node, and these stand behind it
abbrev pub HasNode : List (List ℕ) → RangeNode → List (List ℕ) → Type 0
HasNode ws n behind = HasSize n × (ws ≡ node_words n ++ behind)

-- they begin with none
abbrev pub HasNoNode : List (List ℕ) → Type 0
HasNoNode ws = (n : RangeNode) (behind : List (List ℕ)) → HasSize n → ¬ (node_words n ++ behind ≡ ws)
