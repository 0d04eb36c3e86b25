use Rattle.std.proofs.Common.{◌≡◌, Bool, false, List, take}
use Rattle.std.specs.List.{list_any}
use Rattle.std.specs.Str.{bytes_eq}
use Rattle.listing_reader.specs.Nodes.{node_name}
use Rattle.listing_reader.proofs.NodeWords.{all_node_forms}
use Rattle.listing_reader.proofs.read_nodes.read_node_form.Given as goal

abbrev pub invariant-loop-form : goal.invariant-loop-form
invariant-loop-form l = list_any (λ f. bytes_eq (node_name f) l.word) (take l.form-index all_node_forms) ≡ false
