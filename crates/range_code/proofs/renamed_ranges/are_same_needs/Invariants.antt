use Rattle.std.proofs.Common.{◌≡◌, drop}
use Rattle.range_code.proofs.renamed_ranges.are_same_needs.Given as goal

abbrev pub invariant-loop-i : goal.invariant-loop-i
invariant-loop-i l = drop l.i l.a ≡ drop l.i l.b → l.a ≡ l.b
