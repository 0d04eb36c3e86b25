-- Outcomes of calls.
use Rattle.std.proofs.Common.{ℕ, ◌+◌, ◌<◌, ◌≤◌, Result, Ok, Err, OnErr, rules, arith}

-- a fact that holds, where a call failed
pub on_err : {A E : Type 0} (r : Result A E) (P : Type 0) → P → OnErr r P
on_err (Ok x) P p = search rules
on_err (Err e) P p = p

-- what can't fail with four intervals failed
pub more_than_two : (n : ℕ) → (n ≤ 4 → ⊥) → 2 < n
more_than_two n h = grind (arith, h)

-- a list without room for one more, which has room for two
pub full_of_two : (n room : ℕ) → (n + 1 ≤ room → ⊥) → 2 ≤ room → 2 ≤ n
full_of_two n room h g = grind (arith, h, g)

-- a fact that follows from two others, where a call failed
pub on_err_both : {A E : Type 0} (P Q R : Type 0) (r : Result A E) → OnErr r P → OnErr r Q → (P → Q → R) → OnErr r R
on_err_both P Q R (Ok x) h g f = search rules
on_err_both P Q R (Err e) h g f = f h g
