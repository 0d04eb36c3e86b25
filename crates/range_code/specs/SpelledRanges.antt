-- Ranges that have a form of their own, which all their nodes tell.
use Rattle.std.specs.Prelude.{◌≡◌, ℕ, ℤ, pos, List}
use Rattle.std.specs.List.{All}
use Rattle.fd_language.specs.Family.{Family}
use Rattle.fd_language.specs.Range.{Range, Span, One, Dom, Union, Inter, Outside, Plus, Times, Expr, Number, Infinity, Min, Max, Add, Sub, Mul, DivDown, DivUp}
use Rattle.fd_language.specs.PostfixRanges.{nodes_of}
use Rattle.range_code.specs.declared.frame.Arg.{Arg}
use Rattle.range_code.specs.Nodes.{IsReadable}
use Rattle.range_code.specs.Work.{filled_set}

-- 1 where the slot's set has the number, and 0 where it has another
abbrev pub counter_range : ℤ → ℕ → Range
counter_range v slot = Union
    (Plus (Times (Inter (One (Number v)) (Dom slot)) (Number (pos 0))) (Number (pos 1)))
    (Times (Inter (Outside (One (Number v))) (Dom slot)) (Number (pos 0)))

-- more than each number of the universe
abbrev pub beyond : Expr
beyond = Add Infinity (Number (pos 1))

-- the number where the counter in the slot may be 1, and all others where it may be 0
abbrev pub counted_range : ℤ → ℕ → Range
counted_range v slot = Union
    (Union (Span (Number v) (Add (Number v) (Mul (Sub (Max slot) (Number (pos 1))) beyond))) (Span (Add (Add (Number v) (Number (pos 1))) (Mul (Min slot) beyond)) Infinity))
    (Span (Number (pos 0)) (Sub (Sub (Number v) (Number (pos 1))) (Mul (Min slot) beyond)))

-- from the product of the least members of two slots to that of the greatest
abbrev pub products_range : ℕ → ℕ → Range
products_range x y = Span (Mul (Min x) (Min y)) (Mul (Max x) (Max y))

-- all numbers whose product with a member of the second slot may be one of the first
abbrev pub quotients_range : ℕ → ℕ → Range
quotients_range x y = Span (DivUp (Min x) (Max y)) (DivDown (Max x) (Min y))

-- In 0 to 1, from half the sum of the least members of two slots, rounded up, to the sum of the greatest.
abbrev pub disjunction_range : ℕ → ℕ → Range
disjunction_range x y = Inter (Span (DivUp (Add (Min x) (Min y)) (Number (pos 2))) (Add (Max x) (Max y))) (Span (Number (pos 0)) (Number (pos 1)))

-- The range has the numbers of the other one, and the other one may be read wherever it may be.
pub record MeansSame (r q : Range) : Type 0 where
  pub set : (S : Family) (p : ℕ → ℤ) → filled_set S p r ≡ filled_set S p q
  pub readable : (count : ℕ) (args : List Arg) → All (IsReadable count args) (nodes_of r) → All (IsReadable count args) (nodes_of q)
