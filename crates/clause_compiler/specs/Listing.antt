-- The choices of a list of clauses, one by one.
use Rattle.std.specs.Prelude.{ℕ, ◌-◌, ◌==◌, if◌then◌else◌}
use Rattle.wam_code.specs.declared.instruction.Code.{Code}
use Rattle.wam_code.specs.declared.instruction.Code.TheVariants.{Jump, Try, Retry, Trust}

-- the choice of the i-th of so many clauses
abbrev pub listed_at : ℕ → ℕ → ℕ → Code
listed_at count i c = if count == 1 then Jump c else (if i == 0 then Try c else (if count - i == 1 then Trust c else Retry c))
