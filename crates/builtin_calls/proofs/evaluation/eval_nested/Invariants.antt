use Rattle.domain_ranges.specs.Views.{family_of}
use Rattle.builtin_calls.specs.declared.evaluation.Step.TheVariants.{Enter}
use Rattle.heap_cells.specs.SeenTerms.{seen_term}
use Rattle.builtin_calls.specs.Evaluations.{load, unnamed}
use Rattle.builtin_calls.proofs.Evaluations.{IsUnderWay}
use Rattle.builtin_calls.proofs.evaluation.eval_nested.Given as goal

abbrev pub invariant-steps : goal.invariant-steps
invariant-steps g l = IsUnderWay l.pool.names l.heap.now (family_of (g.V.View.sets l.view)) l.fn.c l.waiting (Enter l.at)

abbrev pub decreases-steps : goal.decreases-steps
decreases-steps g l = load (seen_term unnamed l.heap.now (family_of (g.V.View.sets l.view))) l.waiting (Enter l.at)
