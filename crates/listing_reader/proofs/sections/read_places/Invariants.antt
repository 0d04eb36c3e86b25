use Rattle.std.proofs.Common.{◌≡◌, ◌∷◌, ◌++◌, All, codes, length, map, string_bytes}
use Rattle.std.specs.Str.{IsUtf8}
use Rattle.fd_language.specs.TermTexts.{Quoted, atom_text}
use Rattle.fd_language.specs.declared.range_node.RangeNode.{RangeNode}
use Rattle.wam_code.specs.declared.parts.Entry.{Entry}
use Rattle.wam_code.specs.Area.{span_of}
use Rattle.code_listing.specs.Texts.{entry_text, nodes_text, span_text}
use Rattle.listing_reader.specs.NumberBounds.{HasSize, IsSmallEntry, IsSmallSpan}
use Rattle.listing_reader.specs.Lines.{header}
use Rattle.listing_reader.specs.Lists.{FitsPlace, placed_text}
use Rattle.listing_reader.specs.Places.{place_in}
use Rattle.listing_reader.proofs.sections.read_places.Given as goal

abbrev pub invariant-loop-index : goal.invariant-loop-index
invariant-loop-index l = record {
  fit : All FitsPlace (map place_in l.places.items);
  told : map (λ w. w.now) l.lines ≡ header (codes "code") l.count ∷ (map placed_text (map place_in l.places.items) ++ map (λ w. w.now) l.rest);
  size : length l.places.items ≡ l.index;
}
