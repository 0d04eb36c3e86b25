use Rattle.std.proofs.Common.{◌≡◌, ◌++◌, take}
use Rattle.clause_check.specs.FewerGoals.{flat_kept}
use Rattle.clause_check.proofs.kept_goals.put_kept.Given as goal

abbrev pub invariant-loop-i : goal.invariant-loop-i
invariant-loop-i l = l.goals.items ≡ l.fn.goals.items ++ flat_kept (take l.i l.kept) l.fn.goals.items l.part
