-- Numbers in a list.
use Rattle.std.specs.Prelude.{ℕ, nat_eq, Bool, List}
use Rattle.std.specs.List.{list_any}

abbrev pub is_in : List ℕ → ℕ → Bool
is_in ns n = list_any (nat_eq n) ns
