use Rattle.std.proofs.Common.{◌++◌, [], ◌∷◌}
use Rattle.domain_ranges.specs.Views.{family_of}
use Rattle.builtin_calls.specs.Identity.{weight}
use Rattle.heap_cells.specs.SeenTerms.{seen_term}
use Rattle.builtin_calls.specs.Evaluations.{unnamed}
use Rattle.builtin_calls.proofs.TermPairs.{IsComparing}
use Rattle.builtin_calls.proofs.identity.same.Given as goal

abbrev pub invariant-pairs : goal.invariant-pairs
invariant-pairs g l = IsComparing l.heap.now (family_of (g.V.View.sets l.view)) l.fn.a l.fn.b (l.work.items ++ l.pair ∷ [])

abbrev pub decreases-pairs : goal.decreases-pairs
decreases-pairs g l = weight (seen_term unnamed l.heap.now (family_of (g.V.View.sets l.view))) (l.work.items ++ l.pair ∷ [])
