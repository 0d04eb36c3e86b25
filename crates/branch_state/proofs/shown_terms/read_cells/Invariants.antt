use Rattle.std.proofs.Common.{◌≡◌, ◌<◌, take, map, length}
use Rattle.std.specs.Prelude.{All}
use Rattle.heap_cells.specs.SeenTerms.{seen_term}
use Rattle.range_code.specs.Frames.{family_of}
use Rattle.term_pool.specs.Contents.{name_in}
use Rattle.term_pool.specs.Terms.{term_of}
use Rattle.branch_state.proofs.shown_terms.read_cells.Given as goal

abbrev pub invariant-loop-cell : goal.invariant-loop-cell
invariant-loop-cell g l = record {
  own : All (λ t. t.number < length l.pool.entries) l.terms.items;
  terms : map (term_of l.pool) l.terms.items ≡ map (seen_term (name_in l.from.names) l.heap.now (family_of l.store.current.sets)) (take l.cell-index l.cells);
}
