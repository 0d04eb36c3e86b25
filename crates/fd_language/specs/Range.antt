-- Value and Set. Ranges, the values of their terms and their sets.
use Rattle.std.specs.Prelude.{ℕ, zero, suc, ◌/◌, Bool, true, false, ◌||◌, ◌&&◌, not, if◌then◌else◌, ℤ, pos, negsuc, ◌+ℤ◌, ◌-ℤ◌, ◌*ℤ◌, neg_ℤ, int_le, List, []}
use Rattle.std.specs.Prelude.{◌∷◌, ◌++◌, filter, max, Option, Some, None}
use Rattle.std.specs.List.{list_any}
use Rattle.std.specs.Ordering.{int_eq}
use Rattle.fd_language.specs.Family.{Family, has, universe}
use Rattle.fd_language.specs.declared.range_node.RangeNode.{RangeNode}
use Rattle.fd_language.specs.declared.range_node.RangeNode.TheVariants as node

pub data Expr : Type 0 where
  Number : ℤ → Expr
  Infinity : Expr
  Param : ℕ → Expr
  Min : ℕ → Expr
  Max : ℕ → Expr
  Val : ℕ → Expr
  Add : Expr → Expr → Expr
  Sub : Expr → Expr → Expr
  Mul : Expr → Expr → Expr
  DivDown : Expr → Expr → Expr
  DivUp : Expr → Expr → Expr

pub data Range : Type 0 where
  Span : Expr → Expr → Range
  One : Expr → Range
  Dom : ℕ → Range
  Union : Range → Range → Range
  Inter : Range → Range → Range
  Outside : Range → Range
  Plus : Range → Expr → Range
  Minus : Range → Expr → Range
  Times : Range → Expr → Range
  Over : Range → Expr → Range

pub record Indexical : Type 0 where
  pub target : ℕ
  pub range : Range

-- the least and the greatest member of a rising list, and 0 where there is none
abbrev pub least : List ℕ → ℕ
least [] = 0
least (x ∷ xs) = x

abbrev pub greatest : List ℕ → ℕ
greatest [] = 0
greatest (x ∷ []) = x
greatest (x ∷ y ∷ ys) = greatest (y ∷ ys)

-- a divided by n + 1, rounded down: the quotient of a negative number is that of the number's distance below 0, less one
abbrev pub down_by : ℤ → ℕ → ℤ
down_by (pos a) n = pos (a / suc n)
down_by (negsuc a) n = negsuc (a / suc n)

-- a /< b, for a natural b. At 0 the greater of a and M
abbrev pub div_down : ℕ → ℤ → ℤ → ℤ
div_down M a (pos (suc n)) = down_by a n
div_down M (pos a) (pos zero) = pos (max a M)
div_down M (negsuc a) (pos zero) = pos M
div_down M a (negsuc n) = pos 0

-- a /> b, for a natural b. At 0 it is 0 for 0, and else the greater of a and M
abbrev pub div_up : ℕ → ℤ → ℤ → ℤ
div_up M a (pos (suc n)) = neg_ℤ (down_by (neg_ℤ a) n)
div_up M (pos zero) (pos zero) = pos 0
div_up M (pos (suc a)) (pos zero) = pos (max (suc a) M)
div_up M (negsuc a) (pos zero) = pos M
div_up M a (negsuc n) = pos 0

-- Value
abbrev pub value : ℕ → Family → Expr → ℤ
value M S (Number n) = n
value M S Infinity = pos M
value M S (Param x) = pos 0
value M S (Min y) = pos (least (S y))
value M S (Max y) = pos (greatest (S y))
value M S (Val y) = pos (least (S y))
value M S (Add a b) = value M S a +ℤ value M S b
value M S (Sub a b) = value M S a -ℤ value M S b
value M S (Mul a b) = value M S a *ℤ value M S b
value M S (DivDown a b) = div_down M (value M S a) (value M S b)
value M S (DivUp a b) = div_up M (value M S a) (value M S b)

-- some number of U passes
abbrev pub some_number : ℕ → (ℕ → Bool) → Bool
some_number M test = list_any test (universe M)

-- whether the number n of U is in the range
abbrev pub in_range : ℕ → Family → Range → ℕ → Bool
in_range M S (Span a b) n = int_le (value M S a) (pos n) && int_le (pos n) (value M S b)
in_range M S (One t) n = int_eq (value M S t) (pos n)
in_range M S (Dom y) n = has (S y) n
in_range M S (Union r q) n = in_range M S r n || in_range M S q n
in_range M S (Inter r q) n = in_range M S r n && in_range M S q n
in_range M S (Outside r) n = not (in_range M S r n)
in_range M S (Plus r c) n = some_number M (λ e. in_range M S r e && int_eq (pos e +ℤ value M S c) (pos n))
in_range M S (Minus r c) n = some_number M (λ e. in_range M S r e && int_eq (pos e -ℤ value M S c) (pos n))
in_range M S (Times r c) n = some_number M (λ e. in_range M S r e && int_eq (pos e *ℤ value M S c) (pos n))
in_range M S (Over r c) n = some_number M (λ e. in_range M S r e && int_eq (pos n *ℤ value M S c) (pos e))

-- What stands at a leaf that names a variable.
pub data Role : Type 0 where
  a_parameter a_min a_max a_val a_dom : Role

pub record Leaf : Type 0 where
  pub variable : ℕ
  pub role : Role

abbrev pub leaf : Role → ℕ → Leaf
leaf role y = record { variable = y; role = role }

-- A walk over a term or a range from its leaves up: what is made of a leaf, and what of the operands' at a node of one and of two. A node is as it stands in
-- postfix order.
pub record Walk (X : Type 0) : Type 0 where
  pub at_leaf : RangeNode → X
  pub at_one : RangeNode → X → X
  pub at_two : RangeNode → X → X → X

abbrev pub walk_expr : {X : Type 0} → Walk X → Expr → X
walk_expr w (Number z) = w.at_leaf (node.Int z)
walk_expr w Infinity = w.at_leaf node.Infinity
walk_expr w (Param x) = w.at_leaf (node.Param x)
walk_expr w (Min y) = w.at_leaf (node.Min y)
walk_expr w (Max y) = w.at_leaf (node.Max y)
walk_expr w (Val y) = w.at_leaf (node.Val y)
walk_expr w (Add a b) = w.at_two node.Add (walk_expr w a) (walk_expr w b)
walk_expr w (Sub a b) = w.at_two node.Sub (walk_expr w a) (walk_expr w b)
walk_expr w (Mul a b) = w.at_two node.Mul (walk_expr w a) (walk_expr w b)
walk_expr w (DivDown a b) = w.at_two node.DivDown (walk_expr w a) (walk_expr w b)
walk_expr w (DivUp a b) = w.at_two node.DivUp (walk_expr w a) (walk_expr w b)

abbrev pub walk_range : {X : Type 0} → Walk X → Range → X
walk_range w (Span a b) = w.at_two node.Span (walk_expr w a) (walk_expr w b)
walk_range w (One t) = w.at_one node.One (walk_expr w t)
walk_range w (Dom y) = w.at_leaf (node.Dom y)
walk_range w (Union r q) = w.at_two node.Union (walk_range w r) (walk_range w q)
walk_range w (Inter r q) = w.at_two node.Inter (walk_range w r) (walk_range w q)
walk_range w (Outside r) = w.at_one node.Outside (walk_range w r)
walk_range w (Plus r c) = w.at_two node.Plus (walk_range w r) (walk_expr w c)
walk_range w (Minus r c) = w.at_two node.Minus (walk_range w r) (walk_expr w c)
walk_range w (Times r c) = w.at_two node.Times (walk_range w r) (walk_expr w c)
walk_range w (Over r c) = w.at_two node.Over (walk_range w r) (walk_expr w c)

-- the leaf that a node is, where it names a variable
abbrev pub leaf_of : RangeNode → Option Leaf
leaf_of (node.Param x) = Some (leaf a_parameter x)
leaf_of (node.Min y) = Some (leaf a_min y)
leaf_of (node.Max y) = Some (leaf a_max y)
leaf_of (node.Val y) = Some (leaf a_val y)
leaf_of (node.Dom y) = Some (leaf a_dom y)
leaf_of n = None

-- what f gives for it
abbrev pub from_leaf : {X : Type 0} → (Leaf → List X) → Option Leaf → List X
from_leaf f None = []
from_leaf f (Some l) = f l

abbrev pub from_node : {X : Type 0} → (Leaf → List X) → RangeNode → List X
from_node f n = from_leaf f (leaf_of n)

-- What f gives for each leaf of a term or a range that names a variable, in text order.
abbrev pub collecting : {X : Type 0} → (Leaf → List X) → Walk (List X)
collecting f = record { at_leaf = λ n. from_node f n; at_one = λ n xs. xs; at_two = λ n xs ys. xs ++ ys }

abbrev pub from_expr : {X : Type 0} → (Leaf → List X) → Expr → List X
from_expr f e = walk_expr (collecting f) e

abbrev pub from_range : {X : Type 0} → (Leaf → List X) → Range → List X
from_range f r = walk_range (collecting f) r

-- the leaves themselves
abbrev pub expr_leaves : Expr → List Leaf
expr_leaves e = from_expr (λ l. l ∷ []) e

abbrev pub leaves : Range → List Leaf
leaves r = from_range (λ l. l ∷ []) r

abbrev pub is_parameter_role : Role → Bool
is_parameter_role a_parameter = true
is_parameter_role k = false

-- the variable of a leaf by min, max, val or dom, of one by val, and of a parameter
abbrev pub read_by : Role → ℕ → List ℕ
read_by k y = if is_parameter_role k then [] else y ∷ []

abbrev pub val_by : Role → ℕ → List ℕ
val_by a_val y = y ∷ []
val_by k y = []

abbrev pub param_by : Role → ℕ → List ℕ
param_by k y = if is_parameter_role k then y ∷ [] else []

abbrev pub read_at : Leaf → List ℕ
read_at l = read_by l.role l.variable

abbrev pub val_at : Leaf → List ℕ
val_at l = val_by l.role l.variable

abbrev pub param_at : Leaf → List ℕ
param_at l = param_by l.role l.variable

-- the variables that a term or a range names by min, max, val or dom
abbrev pub expr_reads : Expr → List ℕ
expr_reads t = from_expr read_at t

abbrev pub reads : Range → List ℕ
reads r = from_range read_at r

-- those that it names by val
abbrev pub vals : Range → List ℕ
vals r = from_range val_at r

-- its parameters
abbrev pub expr_params : Expr → List ℕ
expr_params t = from_expr param_at t

abbrev pub params : Range → List ℕ
params r = from_range param_at r

abbrev pub is_none_left : List ℕ → Bool
is_none_left [] = true
is_none_left (x ∷ xs) = false

abbrev pub is_several : List ℕ → Bool
is_several [] = false
is_several (x ∷ []) = false
is_several (x ∷ y ∷ ys) = true

-- whether n is in the set of the range: none is where a mentioned set is empty, each is where a val is open, and else those in the range
abbrev pub in_set : ℕ → Family → Range → ℕ → Bool
in_set M S r n =
    if list_any (λ y. is_none_left (S y)) (reads r) then false else
    if list_any (λ y. is_several (S y)) (vals r) then true else in_range M S r n

-- Set: Set(r, S)
abbrev pub set_of : ℕ → Family → Range → List ℕ
set_of M S r = filter (in_set M S r) (universe M)
