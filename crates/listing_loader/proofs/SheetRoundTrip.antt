-- A good sheet is what is told of its code.
use Rattle.std.proofs.Common.{◌≡◌, true, List, [], ◌∷◌, map, refl, sym, ap, ◌∙◌, All}
use Rattle.std.proofs.lemmas.List.Elements.{All-head, All-tail}
use Rattle.std.proofs.lemmas.Bool.{and_parts}
use Rattle.std.specs.List.{list_all}
use Rattle.fd_language.specs.declared.range_node.RangeNode.{RangeNode}
use Rattle.fd_language.specs.PostfixRanges.{nodes_of, spelled_range, spelled_range-nodes}
use Rattle.range_code.specs.Slots.{in_slots}
use Rattle.code_listing.specs.Listing.{Sheet, sheet_of}
use Rattle.code_listing.specs.Sheets.{area_in}
use Rattle.wam_code.specs.Area.{State}
use Rattle.listing_loader.specs.Marks.{has_slots_in_order, atom_marks, counts_of, entry_mark, query_mark, place_mark, number_marks, AreRight, IsGoodRange}
use Rattle.term_pool.specs.Contents.{first_names}
use Rattle.listing_loader.specs.LoadedCode.{IsGood}
use Rattle.listing_loader.proofs.RangeSlots.{in_order_same}
use Rattle.listing_loader.proofs.WrongLines.{right_parts}

-- the lines that are right, section by section
pub record RightParts (s : Sheet) : Type 0 where
  pub atoms : AreRight (atom_marks first_names s.atoms)
  pub ranges : AreRight (map has_slots_in_order s.ranges)
  pub entries : AreRight (map (entry_mark (counts_of s)) s.entries)
  pub queries : AreRight (map (query_mark (counts_of s)) s.queries)
  pub places : AreRight (map (place_mark s) s.code)

pub parts_of : (s : Sheet) → AreRight (number_marks s) → RightParts s
parts_of s h =
    let w = right_parts (atom_marks first_names s.atoms) (map has_slots_in_order s.ranges) (map (entry_mark (counts_of s)) s.entries)
    (map (query_mark (counts_of s)) s.queries) (map (place_mark s) s.code) h in
    record { atoms = w.0; ranges = w.1; entries = w.2; queries = w.3; places = w.4 }

-- nodes that spell a range in slots
range_back : (ns : List RangeNode) → IsGoodRange ns → has_slots_in_order ns ≡ true → nodes_of (in_slots (spelled_range ns)) ≡ ns
range_back ns g h =
    let is : spelled_range ns ≡ g.0 = ap spelled_range (sym g.1) ∙ spelled_range-nodes g.0 in
    ap (λ r. nodes_of (in_slots r)) is ∙ ap nodes_of (in_order_same g.0 (ap has_slots_in_order g.1 ∙ h)) ∙ g.1

ranges_back : (nss : List (List RangeNode)) → All IsGoodRange nss → AreRight (map has_slots_in_order nss) → map (λ r. nodes_of (in_slots r)) (map spelled_range nss) ≡ nss
ranges_back [] g h = refl
ranges_back (ns ∷ nss) g h =
    let parts = and_parts (has_slots_in_order ns) (list_all (λ m. m) (map has_slots_in_order nss)) h in
    ap (λ ms. ms ∷ map (λ r. nodes_of (in_slots r)) (map spelled_range nss)) (range_back ns (All-head IsGoodRange ns nss g) parts.0)
    ∙ ap (λ mss. ns ∷ mss) (ranges_back nss (All-tail IsGoodRange ns nss g) parts.1)

pub told_back : (s : Sheet) → IsGood s → sheet_of (area_in s) s.states ≡ s
told_back s g = ap (λ (nss : List (List RangeNode)). record s { ranges = nss }) (ranges_back s.ranges g.ranges (parts_of s g.numbers).ranges)

-- whatever the states
pub told_code : (s : Sheet) (ss : List State) → IsGood s → sheet_of (area_in s) ss ≡ record s { states = ss }
told_code s ss g = ap (λ (t : Sheet). record t { states = ss }) (told_back s g)
