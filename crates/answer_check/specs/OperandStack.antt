-- The numbers and truths that wait for their operators while a range is evaluated under an assignment.
use Rattle.std.specs.Prelude.{◌≡◌, ℕ, ◌≤◌, ◌^◌, ◌-◌, ℤ, pos, ◌+ℤ◌, ◌-ℤ◌, ◌*ℤ◌, ◌≤ℤ◌, nat_abs, Bool, ◌||◌, ◌&&◌, List, [], ◌∷◌, ◌++◌, drop, Option, Some, None}
use Rattle.fd_language.specs.declared.range_node.RangeNode.{RangeNode}
use Rattle.fd_language.specs.declared.range_node.RangeNode.TheVariants as node
use Rattle.fd_language.specs.declared.TheConstants.{INFINITY}
use Rattle.fd_language.specs.Range.{Range, Span, One, Dom, Union, Inter, Outside, Plus, Minus, Times, Over, Expr, Number, Infinity, Param, Min, Max, Val, Add}
use Rattle.fd_language.specs.Range.{Sub, Mul, DivDown, DivUp, value, in_range, div_down, div_up}
use Rattle.fd_language.specs.PostfixRanges.{nodes_of, built}
use Rattle.fd_model.specs.Satisfaction.{Assignment, singles}
use Rattle.answer_check.specs.declared.operand_stack.Work.{Work}

-- the limit of values
abbrev pub IsLimited : ℤ → Type 0
IsLimited z = nat_abs z ≤ 2 ^ 126 - 1

-- the value of a term, and whether a number is in a range
abbrev pub value_by : Assignment → Expr → ℤ
value_by a e = value INFINITY (singles a) e

abbrev pub is_in : Assignment → ℕ → Range → Bool
is_in a n r = in_range INFINITY (singles a) r n

-- No parameter and no pointwise form stands there, no value that is met is over the limit, and no divisor is negative.
abbrev pub Fits : Assignment → Expr → Type 0
Fits a (Number z) = Unit {0}
Fits a Infinity = Unit {0}
Fits a (Param x) = ⊥
Fits a (Min y) = Unit {0}
Fits a (Max y) = Unit {0}
Fits a (Val y) = Unit {0}
Fits a (Add d e) = Fits a d × Fits a e × IsLimited (value_by a d +ℤ value_by a e)
Fits a (Sub d e) = Fits a d × Fits a e × IsLimited (value_by a d -ℤ value_by a e)
Fits a (Mul d e) = Fits a d × Fits a e × IsLimited (value_by a d *ℤ value_by a e)
Fits a (DivDown d e) = Fits a d × Fits a e × (IsLimited (value_by a d) × (pos 0 ≤ℤ value_by a e))
Fits a (DivUp d e) = Fits a d × Fits a e × (IsLimited (value_by a d) × (pos 0 ≤ℤ value_by a e))

abbrev pub RangeFits : Assignment → Range → Type 0
RangeFits a (Span d e) = Fits a d × Fits a e
RangeFits a (One t) = Fits a t
RangeFits a (Dom y) = Unit {0}
RangeFits a (Union r q) = RangeFits a r × RangeFits a q
RangeFits a (Inter r q) = RangeFits a r × RangeFits a q
RangeFits a (Outside r) = RangeFits a r
RangeFits a (Plus r c) = ⊥
RangeFits a (Minus r c) = ⊥
RangeFits a (Times r c) = ⊥
RangeFits a (Over r c) = ⊥

-- an operator of terms
abbrev pub operated : RangeNode → ℤ → ℤ → ℤ
operated node.Add x y = x +ℤ y
operated node.Sub x y = x -ℤ y
operated node.Mul x y = x *ℤ y
operated node.DivDown x y = div_down INFINITY x y
operated node.DivUp x y = div_up INFINITY x y
operated n x y = pos 0

-- and when it may be called
abbrev pub CanOperate : RangeNode → ℤ → ℤ → Type 0
CanOperate node.Add x y = IsLimited (x +ℤ y)
CanOperate node.Sub x y = IsLimited (x -ℤ y)
CanOperate node.Mul x y = IsLimited (x *ℤ y)
CanOperate node.DivDown x y = IsLimited x × (pos 0 ≤ℤ y)
CanOperate node.DivUp x y = IsLimited x × (pos 0 ≤ℤ y)
CanOperate n x y = Unit {0}

-- an operator of ranges
abbrev pub both_by : RangeNode → Bool → Bool → Bool
both_by node.Union x y = x || y
both_by n x y = x && y

-- ---- what waits: the last one stands last

abbrev pub stacked_numbers : Assignment → List Expr → List ℤ
stacked_numbers a [] = []
stacked_numbers a (t ∷ ts) = stacked_numbers a ts ++ value_by a t ∷ []

abbrev pub stacked_truths : Assignment → ℕ → List Range → List Bool
stacked_truths a n [] = []
stacked_truths a n (r ∷ rs) = stacked_truths a n rs ++ is_in a n r ∷ []

pub record IsPending (a : Assignment) (n : ℕ) (rs : List Range) (ts : List Expr) (w : Work) : Type 0 where
  pub numbers : w.numbers.items ≡ stacked_numbers a ts
  pub truths : w.truths.items ≡ stacked_truths a n rs

-- what waits once a node is read, where its operands were there
abbrev pub Follows : Assignment → ℕ → List RangeNode → Option Range → Work → Type 0
Follows a n ns None w = Unit {0}
Follows a n ns (Some r) w = (rs : List Range) × (ts : List Expr) × (Some r ≡ built ns rs ts) × IsPending a n rs ts w

-- a node that a flat range may have
abbrev pub IsTakeable : RangeNode → Type 0
IsTakeable (node.Param x) = ⊥
IsTakeable node.Plus = ⊥
IsTakeable node.Minus = ⊥
IsTakeable node.Times = ⊥
IsTakeable node.Over = ⊥
IsTakeable m = Unit {0}

-- the node's operands were taken, and what it makes of them waits in their place
abbrev pub IsTaken : Assignment → ℕ → RangeNode → Work → Work → Type 0
IsTaken a n m old new = IsTakeable m → (ns : List RangeNode) (rs : List Range) (ts : List Expr) → IsPending a n rs ts old → Follows a n ns (built (m ∷ ns) rs ts) new

-- the operands on top may be taken
abbrev pub CanTake : RangeNode → Work → Type 0
CanTake m w = (front : List ℤ) (x y : ℤ) → w.numbers.items ≡ (front ++ x ∷ []) ++ y ∷ [] → CanOperate m x y

-- the first so many nodes of a range are taken
pub record IsAt (a : Assignment) (n : ℕ) (r : Range) (count : ℕ) (w : Work) : Type 0 where
  pub ranges : List Range
  pub terms : List Expr
  pub left : Some r ≡ built (drop count (nodes_of r)) ranges terms
  pub pending : IsPending a n ranges terms w

-- ---- what each kind of node takes from what waits, and what it puts there

abbrev pub PushesNumber : ℤ → Work → Work → Type 0
PushesNumber z old new = (new.numbers.items ≡ old.numbers.items ++ z ∷ []) × (new.truths.items ≡ old.truths.items)

abbrev pub PushesTruth : Bool → Work → Work → Type 0
PushesTruth b old new = (new.numbers.items ≡ old.numbers.items) × (new.truths.items ≡ old.truths.items ++ b ∷ [])

abbrev pub TakesTerms : RangeNode → Work → Work → Type 0
TakesTerms m old new = (front : List ℤ) (x y : ℤ) → old.numbers.items ≡ (front ++ x ∷ []) ++ y ∷ [] →
    (new.numbers.items ≡ front ++ operated m x y ∷ []) × (new.truths.items ≡ old.truths.items)

abbrev pub TakesEnds : (ℤ → ℤ → Bool) → Work → Work → Type 0
TakesEnds test old new = (front : List ℤ) (x y : ℤ) → old.numbers.items ≡ (front ++ x ∷ []) ++ y ∷ [] →
    (new.numbers.items ≡ front) × (new.truths.items ≡ old.truths.items ++ test x y ∷ [])

abbrev pub TakesOne : (ℤ → Bool) → Work → Work → Type 0
TakesOne test old new = (front : List ℤ) (x : ℤ) → old.numbers.items ≡ front ++ x ∷ [] →
    (new.numbers.items ≡ front) × (new.truths.items ≡ old.truths.items ++ test x ∷ [])

abbrev pub TakesRanges : (Bool → Bool → Bool) → Work → Work → Type 0
TakesRanges op old new = (front : List Bool) (x y : Bool) → old.truths.items ≡ (front ++ x ∷ []) ++ y ∷ [] →
    (new.numbers.items ≡ old.numbers.items) × (new.truths.items ≡ front ++ op x y ∷ [])

abbrev pub TakesRange : (Bool → Bool) → Work → Work → Type 0
TakesRange op old new = (front : List Bool) (x : Bool) → old.truths.items ≡ front ++ x ∷ [] →
    (new.numbers.items ≡ old.numbers.items) × (new.truths.items ≡ front ++ op x ∷ [])
