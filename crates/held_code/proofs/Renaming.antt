-- The nodes of a range with slots in place of its variables.
use Rattle.std.proofs.Common.{◌≡◌, ℕ, [], ◌∷◌, length, All, nat_eq, ◌∙◌, subst, arith}
use Rattle.std.specs.Prelude.{not}
use Rattle.std.proofs.Common.{get_or}
use Rattle.std.proofs.lemmas.List.Elements.{All-map}
use Rattle.std.proofs.lemmas.List.Sums.{prefix_len-le-length}
use Rattle.fd_language.specs.declared.range_node.RangeNode.{RangeNode}
use Rattle.fd_language.specs.declared.range_node.RangeNode.TheVariants as node
use Rattle.fd_language.specs.Range.{Range, Span, One, Dom, Union, Inter, Outside, Plus, Minus, Times, Over, Infinity, Param, Min, Max, Val, Add}
use Rattle.fd_language.specs.Range.{Sub, Mul, DivDown, DivUp}
use Rattle.fd_language.specs.PostfixRanges.{nodes_of}
use Rattle.range_code.specs.Nodes.{rename_node}
use Rattle.range_code.specs.Slots.{slots_of, slot_of, in_slots}
use Rattle.listing_reader.specs.NumberBounds.{HasSize, IsNumber}
use Rattle.range_code.proofs.Lemmas.{renamed_nodes}

size_renamed : (f : ℕ → ℕ) → ((y : ℕ) → IsNumber (f y)) → (n : RangeNode) → HasSize n → HasSize (rename_node f n)
size_renamed f small (node.Int z) h = h
size_renamed f small node.Infinity h = h
size_renamed f small (node.Param y) h = small y
size_renamed f small (node.Min y) h = small y
size_renamed f small (node.Max y) h = small y
size_renamed f small (node.Val y) h = small y
size_renamed f small node.Add h = h
size_renamed f small node.Sub h = h
size_renamed f small node.Mul h = h
size_renamed f small node.DivDown h = h
size_renamed f small node.DivUp h = h
size_renamed f small node.Span h = h
size_renamed f small node.One h = h
size_renamed f small (node.Dom y) h = small y
size_renamed f small node.Union h = h
size_renamed f small node.Inter h = h
size_renamed f small node.Outside h = h
size_renamed f small node.Plus h = h
size_renamed f small node.Minus h = h
size_renamed f small node.Times h = h
size_renamed f small node.Over h = h

-- So many slots have numbers that fit.
pub slots_fit : (r : Range) → IsNumber (length (slots_of r)) → All HasSize (nodes_of r) → All HasSize (nodes_of (in_slots r))
slots_fit r count h = subst (All HasSize) (renamed_nodes (slot_of r) r)
    (All-map HasSize (rename_node (slot_of r)) (nodes_of r) (λ k d l. size_renamed (slot_of r) small (get_or (nodes_of r) k d) (h k d l)))
  where
    small : (y : ℕ) → IsNumber (slot_of r y)
    small y = let most = prefix_len-le-length (λ x. not (nat_eq y x)) (slots_of r) in omega (arith, most, count)
