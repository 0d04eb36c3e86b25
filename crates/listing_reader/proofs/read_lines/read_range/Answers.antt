use Rattle.std.proofs.Common.{rules, ◌≡◌, ◌∙◌, All, Bor, List, [], ℕ, ap, map, refl, subst}
use Rattle.listing_reader.specs.NumberBounds.{HasSize}
use Rattle.listing_reader.specs.Nodes.{nodes_words}
use Rattle.listing_reader.specs.Reading.{ReadsAs}
use Rattle.listing_reader.proofs.NodeWords.{range_reads}
use Rattle.listing_reader.proofs.read_lines.read_range.Goals as goal

pub returns : goal.returns
returns c =
    let some : ¬ (c.args.line.now ≡ []) = search rules in
    range_reads c.args.line.now some (λ v. v.items) c.in_ok-nodes.nodes
    (subst (λ (ws : List (List ℕ)). ReadsAs (λ v. v.items) (All HasSize) nodes_words ws c.in_ok-nodes.nodes)
    (ap (λ (l : List (Bor (List ℕ))). map (λ (w : Bor (List ℕ)). w.now) l) c.deref.ensures.value ∙ c.in_ok-words.ensures) c.in_ok-nodes.ensures)
