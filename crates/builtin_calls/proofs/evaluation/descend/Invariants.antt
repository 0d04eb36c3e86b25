use Rattle.std.proofs.Common.{IfSome}
use Rattle.domain_ranges.specs.Views.{family_of}
use Rattle.builtin_calls.specs.Outcomes.{IsMeant}
use Rattle.builtin_calls.specs.declared.evaluation.Step.TheVariants.{Enter}
use Rattle.heap_cells.specs.SeenTerms.{seen_term}
use Rattle.builtin_calls.specs.Evaluations.{Leads, load, unnamed}
use Rattle.builtin_calls.proofs.evaluation.descend.Given as goal

abbrev pub invariant-down : goal.invariant-down
invariant-down g l = record {
  leads : Leads l.pool.names l.heap.now (family_of (g.V.View.sets l.view)) l.fn.waiting (Enter l.fn.c) l.waiting (Enter l.at);
  latest : IfSome l.latest (IsMeant l.pool.names);
}

abbrev pub decreases-down : goal.decreases-down
decreases-down g l = load (seen_term unnamed l.heap.now (family_of (g.V.View.sets l.view))) l.waiting (Enter l.at)
