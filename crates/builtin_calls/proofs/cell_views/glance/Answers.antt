use Rattle.std.proofs.Common.{◌≡◌, ℤ, IfSome, Option, Some, None}
use Rattle.fd_language.specs.Family.{Family}
use Rattle.fd_language.specs.Term.{Int}
use Rattle.heap_cells.specs.declared.Cell.TheVariants as cell
use Rattle.heap_cells.specs.declared.Seen.TheVariants as seen
use Rattle.heap_cells.specs.Terms.{Naming, Same}
use Rattle.heap_cells.specs.SeenTerms.{seen_term}
use Rattle.builtin_calls.proofs.CellTops.{shown_else}
use Rattle.builtin_calls.proofs.cell_views.glance.Goals as goal

pub returns : goal.returns
returns c = go c.near_int.result c.near_int.ensures.same
  where
    go : (o : Option ℤ) → IfSome o (λ z. Same c.args.heap.now.now c.args.c (cell.Int z)) → IfSome o (λ z. (name : Naming) (G : Family) → seen_term name c.args.heap.now.now G c.args.c ≡ Int z)
    go (Some z) s = λ name G. shown_else name c.args.heap.now.now G c.near_int.ensures.valid c.args.c (seen.Int z) s (λ i k e. cc)
    go None s = tt
