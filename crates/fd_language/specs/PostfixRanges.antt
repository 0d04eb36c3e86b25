-- Ranges as lists of nodes in postfix order.
use Rattle.std.specs.Prelude.{◌≡◌, List, [], ◌∷◌, Option, Some, None, refl}
use Rattle.std.proofs.Common.{◌∙◌, ap}
use Rattle.fd_language.specs.declared.range_node.RangeNode.{RangeNode}
use Rattle.fd_language.specs.declared.range_node.RangeNode.TheVariants as node
use Rattle.fd_language.specs.Range.{Range, Span, One, Dom, Union, Inter, Outside, Plus, Minus, Times, Over, Expr, Number, Infinity, Param, Min, Max, Val, Add}
use Rattle.fd_language.specs.Range.{Sub, Mul, DivDown, DivUp, Walk, walk_expr, walk_range}

-- what stands in front of the nodes that follow
abbrev pub InFront : Type 0
InFront = List RangeNode → List RangeNode

-- in postfix order a node stands behind those of its operands
abbrev pub postfix : Walk InFront
postfix = record { at_leaf = λ n rest. n ∷ rest; at_one = λ n a rest. a (n ∷ rest); at_two = λ n a b rest. a (b (n ∷ rest)) }

-- the nodes of a term or a range, and then the nodes that follow
abbrev pub expr_nodes : Expr → InFront
expr_nodes e = walk_expr postfix e

abbrev pub range_nodes : Range → InFront
range_nodes r = walk_range postfix r

-- the list that spells the range
abbrev pub nodes_of : Range → List RangeNode
nodes_of r = range_nodes r []

-- What a node makes, and of what: a term of nothing or of two terms; a range of nothing, of one or two terms, of one or two ranges, or of a range and a term.
pub data Shape : Type 0 where
  term_alone : Expr → Shape
  term_of_terms : (Expr → Expr → Expr) → Shape
  range_alone : Range → Shape
  range_of_term : (Expr → Range) → Shape
  range_of_terms : (Expr → Expr → Range) → Shape
  range_of_range : (Range → Range) → Shape
  range_of_ranges : (Range → Range → Range) → Shape
  range_of_both : (Range → Expr → Range) → Shape

abbrev pub shape_of : RangeNode → Shape
shape_of (node.Int z) = term_alone (Number z)
shape_of node.Infinity = term_alone Infinity
shape_of (node.Param x) = term_alone (Param x)
shape_of (node.Min y) = term_alone (Min y)
shape_of (node.Max y) = term_alone (Max y)
shape_of (node.Val y) = term_alone (Val y)
shape_of node.Add = term_of_terms Add
shape_of node.Sub = term_of_terms Sub
shape_of node.Mul = term_of_terms Mul
shape_of node.DivDown = term_of_terms DivDown
shape_of node.DivUp = term_of_terms DivUp
shape_of node.Span = range_of_terms Span
shape_of node.One = range_of_term One
shape_of (node.Dom y) = range_alone (Dom y)
shape_of node.Union = range_of_ranges Union
shape_of node.Inter = range_of_ranges Inter
shape_of node.Outside = range_of_range Outside
shape_of node.Plus = range_of_both Plus
shape_of node.Minus = range_of_both Minus
shape_of node.Times = range_of_both Times
shape_of node.Over = range_of_both Over

-- The ranges and the terms that wait for their operators, the last one first. Behind a range no term waits.
pub record RangeStack : Type 0 where
  pub ranges : List Range
  pub terms : List Expr

abbrev pub range_stack : List Range → List Expr → Option RangeStack
range_stack rs ts = Some (record { ranges = rs; terms = ts })

-- what waits when a node of the shape has taken its operands, where they are there
abbrev pub put : Shape → List Range → List Expr → Option RangeStack
put (term_alone e) rs ts = range_stack rs (e ∷ ts)
put (term_of_terms make) rs (b ∷ a ∷ ts) = range_stack rs (make a b ∷ ts)
put (range_alone r) rs [] = range_stack (r ∷ rs) []
put (range_of_term make) rs (t ∷ []) = range_stack (make t ∷ rs) []
put (range_of_terms make) rs (b ∷ a ∷ []) = range_stack (make a b ∷ rs) []
put (range_of_range make) (r ∷ rs) [] = range_stack (make r ∷ rs) []
put (range_of_ranges make) (q ∷ r ∷ rs) [] = range_stack (make r q ∷ rs) []
put (range_of_both make) (r ∷ rs) (c ∷ []) = range_stack (make r c ∷ rs) []
put s rs ts = None

abbrev pub going_on : (List Range → List Expr → Option Range) → Option RangeStack → Option Range
going_on build None = None
going_on build (Some w) = build w.ranges w.terms

-- the one range that the nodes build on top of what waits
abbrev pub built : List RangeNode → List Range → List Expr → Option Range
built [] (r ∷ []) [] = Some r
built [] rs ts = None
built (n ∷ ns) rs ts = going_on (λ us vs. built ns us vs) (put (shape_of n) rs ts)

-- behind a node
abbrev pub built_behind : List RangeNode → Option RangeStack → Option Range
built_behind ns w = going_on (λ us vs. built ns us vs) w

abbrev pub or_infinity : Option Range → Range
or_infinity (Some r) = r
or_infinity None = One Infinity

-- the range that the list spells, where it spells one
abbrev pub spelled_range : List RangeNode → Range
spelled_range ns = or_infinity (built ns [] [])

-- What spells a range builds that range.
pub builds_expr : (e : Expr) (rest : List RangeNode) (rs : List Range) (ts : List Expr) → built (expr_nodes e rest) rs ts ≡ built rest rs (e ∷ ts)
builds_expr (Number z) rest rs ts = refl
builds_expr Infinity rest rs ts = refl
builds_expr (Param x) rest rs ts = refl
builds_expr (Min y) rest rs ts = refl
builds_expr (Max y) rest rs ts = refl
builds_expr (Val y) rest rs ts = refl
builds_expr (Add a b) rest rs ts = builds_expr a (expr_nodes b (node.Add ∷ rest)) rs ts ∙ builds_expr b (node.Add ∷ rest) rs (a ∷ ts)
builds_expr (Sub a b) rest rs ts = builds_expr a (expr_nodes b (node.Sub ∷ rest)) rs ts ∙ builds_expr b (node.Sub ∷ rest) rs (a ∷ ts)
builds_expr (Mul a b) rest rs ts = builds_expr a (expr_nodes b (node.Mul ∷ rest)) rs ts ∙ builds_expr b (node.Mul ∷ rest) rs (a ∷ ts)
builds_expr (DivDown a b) rest rs ts = builds_expr a (expr_nodes b (node.DivDown ∷ rest)) rs ts ∙ builds_expr b (node.DivDown ∷ rest) rs (a ∷ ts)
builds_expr (DivUp a b) rest rs ts = builds_expr a (expr_nodes b (node.DivUp ∷ rest)) rs ts ∙ builds_expr b (node.DivUp ∷ rest) rs (a ∷ ts)

pub builds_range : (r : Range) (rest : List RangeNode) (rs : List Range) → built (range_nodes r rest) rs [] ≡ built rest (r ∷ rs) []
builds_range (Span a b) rest rs = builds_expr a (expr_nodes b (node.Span ∷ rest)) rs [] ∙ builds_expr b (node.Span ∷ rest) rs (a ∷ [])
builds_range (One t) rest rs = builds_expr t (node.One ∷ rest) rs []
builds_range (Dom y) rest rs = refl
builds_range (Union r q) rest rs = builds_range r (range_nodes q (node.Union ∷ rest)) rs ∙ builds_range q (node.Union ∷ rest) (r ∷ rs)
builds_range (Inter r q) rest rs = builds_range r (range_nodes q (node.Inter ∷ rest)) rs ∙ builds_range q (node.Inter ∷ rest) (r ∷ rs)
builds_range (Outside r) rest rs = builds_range r (node.Outside ∷ rest) rs
builds_range (Plus r c) rest rs = builds_range r (expr_nodes c (node.Plus ∷ rest)) rs ∙ builds_expr c (node.Plus ∷ rest) (r ∷ rs) []
builds_range (Minus r c) rest rs = builds_range r (expr_nodes c (node.Minus ∷ rest)) rs ∙ builds_expr c (node.Minus ∷ rest) (r ∷ rs) []
builds_range (Times r c) rest rs = builds_range r (expr_nodes c (node.Times ∷ rest)) rs ∙ builds_expr c (node.Times ∷ rest) (r ∷ rs) []
builds_range (Over r c) rest rs = builds_range r (expr_nodes c (node.Over ∷ rest)) rs ∙ builds_expr c (node.Over ∷ rest) (r ∷ rs) []

pub spelled_range-nodes : (r : Range) → spelled_range (nodes_of r) ≡ r
spelled_range-nodes r = ap or_infinity (builds_range r [] [])

-- some range is spelled by the list
abbrev pub IsSpelled : List RangeNode → Type 0
IsSpelled ns = (r : Range) × (nodes_of r ≡ ns)
