use Rattle.std.proofs.Common.{ℕ, ◌<◌}
use Rattle.wam_code.specs.Area.{table_at, area_of}
use Rattle.wam_code.specs.Keys.{Rises}
use Rattle.wam_code.proofs.sorted_tables.have_rising_tables.Given as goal

abbrev pub invariant-loop-t : goal.invariant-loop-t
invariant-loop-t l = (t : ℕ) → t < l.t → Rises (table_at (area_of l.parts) t)
