use Rattle.std.proofs.Common.{take}
use Rattle.branch_state.specs.ShownTerms.{open_set, AreGathered}
use Rattle.branch_state.proofs.shown_terms.sets_of.Given as goal

abbrev pub invariant-loop-variable : goal.invariant-loop-variable
invariant-loop-variable g l = AreGathered (open_set l.heap.now l.store.current.sets) (take l.variable-index l.variables) l.seen.keys l.sets.items
