-- The state in which a predicate begins.
use Rattle.std.specs.Prelude.{ℕ, zero, suc, List, [], ◌∷◌, None}
use Rattle.wam_code.specs.Area.{State}

-- the registers from 1 to k
abbrev pub up_to : ℕ → List ℕ
up_to zero = []
up_to (suc k) = suc k ∷ up_to k

-- k arguments are given, there is no frame, and nothing is owed
abbrev pub given : ℕ → State
given k = record { regs = up_to k; frame = None; owed = 0 }
