-- Ranges that are the same in slots are posted as the same range.
use Rattle.std.proofs.Common.{◌≡◌, List, length, sym, ◌∙◌, ap}
use Rattle.std.proofs.lemmas.List.{length-map}
use Rattle.fd_language.specs.declared.range_node.RangeNode.{RangeNode}
use Rattle.fd_language.specs.Range.{Range}
use Rattle.fd_language.specs.Check.{fill_range}
use Rattle.fd_language.specs.PostfixRanges.{nodes_of, spelled_range, spelled_range-nodes}
use Rattle.fd_language.specs.RangeRenaming.{rename_range}
use Rattle.fd_language.proofs.Lemmas.{filled_renamed, renamed_twice}
use Rattle.range_code.specs.declared.frame.Arg.{Arg}
use Rattle.range_code.specs.Slots.{slot_of, in_slots}
use Rattle.range_code.specs.Frames.{slot_variable, slot_integer, posted}
use Rattle.range_code.specs.Nodes.{rename_node}
use Rattle.range_code.proofs.Variables.{renamed_nodes}

-- Filling in integers and naming anew commute, so what is posted depends on the slots alone.
by_slots : (r : Range) (args : List Arg) → rename_range (slot_variable args) (fill_range (slot_integer args) (in_slots r)) ≡ posted r args
by_slots r args =
    ap (rename_range (slot_variable args)) (filled_renamed (slot_of r) (slot_integer args) r)
    ∙ renamed_twice (slot_variable args) (slot_of r) (fill_range (λ y. slot_integer args (slot_of r y)) r)

pub alike : (r q : Range) → in_slots r ≡ in_slots q → (args : List Arg) → posted r args ≡ posted q args
alike r q e args = sym (by_slots r args) ∙ (ap (λ x. rename_range (slot_variable args) (fill_range (slot_integer args) x)) e ∙ by_slots q args)

pub same_slots : (ns ms : List RangeNode) (r q : Range) → ns ≡ nodes_of (in_slots r) → ms ≡ nodes_of (in_slots q) → ns ≡ ms → in_slots r ≡ in_slots q
same_slots ns ms r q e f h = sym (spelled_range-nodes (in_slots r)) ∙ (ap spelled_range (sym e ∙ (h ∙ f)) ∙ spelled_range-nodes (in_slots q))

pub slots_keep : (r : Range) → length (nodes_of (in_slots r)) ≡ length (nodes_of r)
slots_keep r = ap length (sym (renamed_nodes (slot_of r) r)) ∙ length-map (nodes_of r) (rename_node (slot_of r))

-- as many nodes
pub same_length : (r q : Range) → in_slots r ≡ in_slots q → length (nodes_of r) ≡ length (nodes_of q)
same_length r q e = sym (slots_keep r) ∙ (ap (λ x. length (nodes_of x)) e ∙ slots_keep q)
