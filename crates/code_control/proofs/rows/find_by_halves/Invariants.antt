use Rattle.std.proofs.Common.{◌-◌, ◌≤◌, length}
use Rattle.code_control.specs.Rows.{LiesBetween}
use Rattle.code_control.proofs.rows.find_by_halves.Given as goal

abbrev pub invariant-halving : goal.invariant-halving
invariant-halving l = LiesBetween l.seen l.table l.low l.high × (l.high ≤ length l.table)

abbrev pub decreases-halving : goal.decreases-halving
decreases-halving l = l.high - l.low
