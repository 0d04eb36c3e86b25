use Rattle.std.proofs.Common.{◌≡◌, take, map}
use Rattle.clause_compiler.proofs.ranges.ranges_of.Given as goal

abbrev pub invariant-loop-range : goal.invariant-loop-range
invariant-loop-range l = map (λ r. r.value) l.ranges.items ≡ take l.range l.program.ranges
