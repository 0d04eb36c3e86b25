use Rattle.std.proofs.Common.{List, []}
use Rattle.std.specs.Prelude.{All}
use Rattle.fd_language.specs.Family.{Family}
use Rattle.fd_language.specs.Term.{Name}
use Rattle.builtin_calls.specs.declared.evaluation.Step.TheVariants.{Leave}
use Rattle.heap_cells.specs.SeenTerms.{seen_term}
use Rattle.builtin_calls.specs.Evaluations.{IsOfHeap, Leads, load, unnamed}
use Rattle.builtin_calls.proofs.evaluation.ascend.Given as goal

abbrev pub invariant-loop-waits : goal.invariant-loop-waits
invariant-loop-waits l = record {
  leads : ((names : List Name) (G : Family)
      → Leads names l.heap.now G l.fn.waiting (Leave l.fn.value) l.waiting (Leave l.current));
  held : All (IsOfHeap l.heap.now) l.waiting;
}

abbrev pub decreases-loop-waits : goal.decreases-loop-waits
decreases-loop-waits l = load (seen_term unnamed l.heap.now (λ k. [])) l.waiting (Leave l.current)
