-- Numbers in decimal, and what stands behind a front.
use Rattle.std.specs.Prelude.{◌&&◌, ℕ, nat_le, List, length, drop, Option, Some, None, nat_eq, decimal, if◌then◌else◌}
use Rattle.std.specs.List.{starts_with}
use Rattle.std.specs.Str.{bytes_eq}
use Rattle.std.specs.Str.Parse.{digits_value}

-- the greatest place of a refusal
abbrev pub last_place : ℕ
last_place = 16777216

-- the place that bytes write in decimal
abbrev pub place_in : List ℕ → Option ℕ
place_in bytes =
    let n = digits_value 10 bytes in
    if bytes_eq (decimal n) bytes && nat_le n last_place then Some n else None

-- what stands behind a front
abbrev pub behind : List ℕ → List ℕ → Option (List ℕ)
behind front bytes = if starts_with nat_eq bytes front then Some (drop (length front) bytes) else None
