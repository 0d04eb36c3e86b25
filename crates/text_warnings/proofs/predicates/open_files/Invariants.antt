use Rattle.std.proofs.Common.{take}
use Rattle.text_warnings.proofs.ClausePredicates.{HasOpened}
use Rattle.text_warnings.proofs.predicates.open_files.Given as goal

abbrev pub invariant-loop-clause : goal.invariant-loop-clause
invariant-loop-clause l = HasOpened l.starts (take l.clause-index l.clauses) l.known.keys l.opening.items l.before l.initial.warnings.items l.warnings.items
