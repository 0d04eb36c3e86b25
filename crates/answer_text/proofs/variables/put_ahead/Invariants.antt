use Rattle.std.proofs.Common.{◌≡◌, ◌++◌, drop}
use Rattle.std.specs.Prelude.{reverse}
use Rattle.answer_text.proofs.variables.put_ahead.Given as goal

abbrev pub invariant-loop-i : goal.invariant-loop-i
invariant-loop-i l = l.ahead.items ≡ l.fn.ahead.items ++ reverse (drop l.i l.terms)
