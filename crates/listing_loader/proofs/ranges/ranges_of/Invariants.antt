use Rattle.std.proofs.Common.{◌≡◌, ℕ, ◌<◌, List, map, take, Some, slice_get}
use Rattle.fd_language.specs.declared.range_node.RangeNode.{RangeNode}
use Rattle.fd_language.specs.PostfixRanges.{spelled_range}
use Rattle.listing_reader.specs.Sheets.{sheet_in}
use Rattle.listing_loader.specs.Marks.{IsGoodRange}
use Rattle.listing_loader.proofs.ranges.ranges_of.Given as goal

abbrev pub invariant-loop-index : goal.invariant-loop-index
invariant-loop-index l = record {
  made : map (λ r. r.value) l.ranges.items ≡ map spelled_range (take l.index (sheet_in l.sheet).ranges);
  good : (k : ℕ) (ns : List RangeNode) → k < l.index → slice_get (sheet_in l.sheet).ranges k ≡ Some ns → IsGoodRange ns;
}
