use Rattle.std.proofs.Common.{drop}
use Rattle.fd_model.specs.ListRows.{against}
use Rattle.constraint_expand.proofs.DifferentVariables.{Posting}
use Rattle.constraint_expand.proofs.differences.post_against.Given as goal

abbrev pub invariant-loop-other : goal.invariant-loop-other
invariant-loop-other l = Posting (against l.variable l.others) l.initial.list.items l.list.items (against l.variable (drop l.other-index l.others))
