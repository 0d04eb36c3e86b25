-- The values and sets that wait for their operators while a range is evaluated.
use Rattle.std.specs.Prelude.{◌≡◌, ℕ, ◌≤◌, ◌^◌, ◌-◌, ℤ, pos, ◌+ℤ◌, ◌-ℤ◌, ◌*ℤ◌, ◌≤ℤ◌, nat_abs, List, [], ◌∷◌, ◌++◌, filter, Option, Some, None}
use Rattle.fd_language.specs.declared.range_node.RangeNode.{RangeNode}
use Rattle.fd_language.specs.declared.range_node.RangeNode.TheVariants as node
use Rattle.fd_language.specs.declared.TheConstants.{INFINITY}
use Rattle.fd_language.specs.Family.{Family, universe}
use Rattle.fd_language.specs.Range.{Range, Span, One, Dom, Union, Inter, Outside, Plus, Minus, Times, Over, Expr, Number, Infinity, Param, Min, Max, Val, Add}
use Rattle.fd_language.specs.Range.{Sub, Mul, DivDown, DivUp, value, in_range, least, greatest, div_down, div_up}
use Rattle.fd_language.specs.Check.{fill, fill_range}
use Rattle.fd_language.specs.PostfixRanges.{built}
use Rattle.range_code.specs.declared.work.Work.{Work}

-- the limit of values
abbrev pub IsLimited : ℤ → Type 0
IsLimited z = nat_abs z ≤ 2 ^ 126 - 1

-- the value of a term with its parameters' integers, and the numbers of a range by the table
abbrev pub filled_value : Family → (ℕ → ℤ) → Expr → ℤ
filled_value S p e = value INFINITY S (fill p e)

abbrev pub filled_set : Family → (ℕ → ℤ) → Range → List ℕ
filled_set S p r = filter (in_range INFINITY S (fill_range p r)) (universe INFINITY)

-- No value that is met is over the limit, no divisor is negative, and no divisor of a range is 0.
abbrev pub Fits : Family → (ℕ → ℤ) → Expr → Type 0
Fits S p (Number z) = Unit {0}
Fits S p Infinity = Unit {0}
Fits S p (Param x) = Unit {0}
Fits S p (Min y) = Unit {0}
Fits S p (Max y) = Unit {0}
Fits S p (Val y) = Unit {0}
Fits S p (Add a b) = Fits S p a × Fits S p b × IsLimited (filled_value S p a +ℤ filled_value S p b)
Fits S p (Sub a b) = Fits S p a × Fits S p b × IsLimited (filled_value S p a -ℤ filled_value S p b)
Fits S p (Mul a b) = Fits S p a × Fits S p b × IsLimited (filled_value S p a *ℤ filled_value S p b)
Fits S p (DivDown a b) = Fits S p a × Fits S p b × (IsLimited (filled_value S p a) × (pos 0 ≤ℤ filled_value S p b))
Fits S p (DivUp a b) = Fits S p a × Fits S p b × (IsLimited (filled_value S p a) × (pos 0 ≤ℤ filled_value S p b))

abbrev pub RangeFits : Family → (ℕ → ℤ) → Range → Type 0
RangeFits S p (Span a b) = Fits S p a × Fits S p b
RangeFits S p (One t) = Fits S p t
RangeFits S p (Dom y) = Unit {0}
RangeFits S p (Union r q) = RangeFits S p r × RangeFits S p q
RangeFits S p (Inter r q) = RangeFits S p r × RangeFits S p q
RangeFits S p (Outside r) = RangeFits S p r
RangeFits S p (Plus r c) = RangeFits S p r × Fits S p c × IsLimited (filled_value S p c)
RangeFits S p (Minus r c) = RangeFits S p r × Fits S p c × IsLimited (filled_value S p c)
RangeFits S p (Times r c) = RangeFits S p r × Fits S p c
RangeFits S p (Over r c) = RangeFits S p r × Fits S p c × (pos 1 ≤ℤ filled_value S p c)

-- an operator of terms
abbrev pub operated : RangeNode → ℤ → ℤ → ℤ
operated node.Add a b = a +ℤ b
operated node.Sub a b = a -ℤ b
operated node.Mul a b = a *ℤ b
operated node.DivDown a b = div_down INFINITY a b
operated node.DivUp a b = div_up INFINITY a b
operated n a b = pos 0

-- and when it may be called
abbrev pub CanOperate : RangeNode → ℤ → ℤ → Type 0
CanOperate node.Add a b = IsLimited (a +ℤ b)
CanOperate node.Sub a b = IsLimited (a -ℤ b)
CanOperate node.Mul a b = IsLimited (a *ℤ b)
CanOperate node.DivDown a b = IsLimited a × (pos 0 ≤ℤ b)
CanOperate node.DivUp a b = IsLimited a × (pos 0 ≤ℤ b)
CanOperate n a b = Unit {0}

-- the value of a leaf
abbrev pub leaf_value : Family → (ℕ → ℤ) → RangeNode → ℤ
leaf_value S p (node.Int z) = z
leaf_value S p node.Infinity = pos INFINITY
leaf_value S p (node.Param x) = p x
leaf_value S p (node.Min y) = pos (least (S y))
leaf_value S p (node.Max y) = pos (greatest (S y))
leaf_value S p (node.Val y) = pos (least (S y))
leaf_value S p n = pos 0

-- Those of the terms and ranges that wait. The last value stands last, the last set first.
abbrev pub stacked_values : Family → (ℕ → ℤ) → List Expr → List ℤ
stacked_values S p [] = []
stacked_values S p (t ∷ ts) = stacked_values S p ts ++ filled_value S p t ∷ []

abbrev pub stacked_sets : Family → (ℕ → ℤ) → List Range → List (List ℕ)
stacked_sets S p [] = []
stacked_sets S p (r ∷ rs) = filled_set S p r ∷ stacked_sets S p rs

pub record IsPending (S : Family) (p : ℕ → ℤ) (rs : List Range) (ts : List Expr) (w : Work) : Type 0 where
  pub values : w.values.items ≡ stacked_values S p ts
  pub sets : w.sets.sets ≡ stacked_sets S p rs

-- what waits once a node is read, where its operands were there
abbrev pub Follows : Family → (ℕ → ℤ) → List RangeNode → Option Range → Work → Type 0
Follows S p ns None w = Unit {0}
Follows S p ns (Some r) w = (rs : List Range) × (ts : List Expr) × (Some r ≡ built ns rs ts) × IsPending S p rs ts w

-- the node's operands were taken, and what it makes of them waits in their place
abbrev pub IsTaken : Family → (ℕ → ℤ) → RangeNode → Work → Work → Type 0
IsTaken S p n old new = (ns : List RangeNode) (rs : List Range) (ts : List Expr) → IsPending S p rs ts old → Follows S p ns (built (n ∷ ns) rs ts) new

-- the operands on top may be taken by an operator of terms, and by a pointwise one
abbrev pub CanTakeTerms : RangeNode → Work → Type 0
CanTakeTerms n w = (front : List ℤ) (a b : ℤ) → w.values.items ≡ (front ++ a ∷ []) ++ b ∷ [] → CanOperate n a b

abbrev pub CanMove : RangeNode → ℤ → Type 0
CanMove node.Plus c = IsLimited c
CanMove node.Minus c = IsLimited c
CanMove node.Over c = pos 1 ≤ℤ c
CanMove n c = Unit {0}

abbrev pub CanTakeRange : RangeNode → Work → Type 0
CanTakeRange n w = (front : List ℤ) (c : ℤ) → w.values.items ≡ front ++ c ∷ [] → CanMove n c

abbrev pub CanTake : RangeNode → Work → Type 0
CanTake n w = CanTakeTerms n w × CanTakeRange n w
