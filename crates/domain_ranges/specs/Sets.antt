-- Sets of numbers that are made from a set and an integer.
use Rattle.std.specs.Prelude.{ℕ, Bool, ◌&&◌, ℤ, pos, ◌+ℤ◌, ◌*ℤ◌, List}
use Rattle.std.specs.Ordering.{int_eq}
use Rattle.fd_language.specs.Family.{has}
use Rattle.fd_language.specs.Range.{some_number}

-- whether the number is e + c for a member e
abbrev pub is_shifted : ℕ → List ℕ → ℤ → ℕ → Bool
is_shifted M ns c n = some_number M (λ e. has ns e && int_eq (pos e +ℤ c) (pos n))

-- whether it is e * c for a member e
abbrev pub is_scaled : ℕ → List ℕ → ℤ → ℕ → Bool
is_scaled M ns c n = some_number M (λ e. has ns e && int_eq (pos e *ℤ c) (pos n))

-- whether its product with c is a member
abbrev pub is_quotient : ℕ → List ℕ → ℤ → ℕ → Bool
is_quotient M ns c n = some_number M (λ e. has ns e && int_eq (pos n *ℤ c) (pos e))
