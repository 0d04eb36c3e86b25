use Rattle.std.proofs.Common.{Bor, List, ℕ}
use Rattle.listing_reader.proofs.NodeWords.{no_front_form}
use Rattle.listing_reader.proofs.read_nodes.next_node.Goals as goal

pub returns-in_default-read_node_form : goal.returns-in_default-read_node_form
returns-in_default-read_node_form c = no_front_form (λ (w : Bor (List ℕ)). w.now) c.args.words.now _ c.in-len1-up.len_at_least c.in_default-read_node_form.ensures
