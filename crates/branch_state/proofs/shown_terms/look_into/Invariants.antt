use Rattle.std.proofs.Common.{◌≡◌, ◌++◌, drop}
use Rattle.std.specs.Prelude.{reverse}
use Rattle.branch_state.proofs.shown_terms.look_into.Given as goal

abbrev pub invariant-loop-i : goal.invariant-loop-i
invariant-loop-i l = l.ahead.items ≡ l.fn.ahead.items ++ reverse (drop l.i l.terms)
