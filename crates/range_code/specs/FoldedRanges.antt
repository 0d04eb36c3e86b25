-- Ranges whose literals are taken by their values.
use Rattle.std.specs.Prelude.{if◌then◌else◌, List, pos}
use Rattle.fd_language.specs.declared.range_node.RangeNode.{RangeNode}
use Rattle.fd_language.specs.declared.TheConstants.{INFINITY}
use Rattle.fd_language.specs.Range.{Range, Span, One, Dom, Union, Inter, Outside, Plus, Minus, Times, Over, Expr, Number, Infinity, Param, Min, Max, Val, Add}
use Rattle.fd_language.specs.Range.{Sub, Mul, DivDown, DivUp}
use Rattle.fd_language.specs.Needs.{is_literal}
use Rattle.fd_language.specs.Check.{literal_value}
use Rattle.fd_language.specs.PostfixRanges.{nodes_of}
use Rattle.range_code.specs.Slots.{in_slots}

-- a literal as its value, and another term as it is
abbrev pub or_value : Expr → Expr → Expr
or_value e other = if is_literal e then Number (literal_value INFINITY e) else other

-- The term with the value of each literal in its place. The largest term that is one is taken.
abbrev pub folded : Expr → Expr
folded (Number z) = Number z
folded Infinity = Number (pos INFINITY)
folded (Param x) = Param x
folded (Min y) = Min y
folded (Max y) = Max y
folded (Val y) = Val y
folded (Add a b) = or_value (Add a b) (Add (folded a) (folded b))
folded (Sub a b) = or_value (Sub a b) (Sub (folded a) (folded b))
folded (Mul a b) = or_value (Mul a b) (Mul (folded a) (folded b))
folded (DivDown a b) = DivDown (folded a) (folded b)
folded (DivUp a b) = DivUp (folded a) (folded b)

abbrev pub folded_range : Range → Range
folded_range (Span a b) = Span (folded a) (folded b)
folded_range (One t) = One (folded t)
folded_range (Dom y) = Dom y
folded_range (Union r q) = Union (folded_range r) (folded_range q)
folded_range (Inter r q) = Inter (folded_range r) (folded_range q)
folded_range (Outside r) = Outside (folded_range r)
folded_range (Plus r c) = Plus (folded_range r) (folded c)
folded_range (Minus r c) = Minus (folded_range r) (folded c)
folded_range (Times r c) = Times (folded_range r) (folded c)
folded_range (Over r c) = Over (folded_range r) (folded c)

-- the nodes of the range with slots as its variables and the values of literals, in postfix order
abbrev pub folded_nodes : Range → List RangeNode
folded_nodes r = nodes_of (folded_range (in_slots r))
