-- The slots of a range, node by node.
use Rattle.std.specs.Prelude.{ℕ, suc, nat_lt, ◌==◌, if◌then◌else◌, Option, Some, None}

-- How many slots are met behind one more, or behind none: it is one of those before, or the next one, or it is out of order.
abbrev pub met_behind : ℕ → Option ℕ → Option ℕ
met_behind met None = Some met
met_behind met (Some y) = if nat_lt y met then Some met else (if y == met then Some (suc met) else None)
