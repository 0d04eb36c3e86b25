-- Ranges with something else in place of the leaves that name variables.
use Rattle.std.specs.Prelude.{ℕ}
use Rattle.fd_language.specs.Range.{Range, Span, One, Dom, Union, Inter, Outside, Plus, Minus, Times, Over, Expr, Number, Infinity, Param, Min, Max, Val, Add}
use Rattle.fd_language.specs.Range.{Sub, Mul, DivDown, DivUp}

-- what becomes of a parameter, of min, max and val, and of the variable of dom
pub record NewLeaves : Type 0 where
  pub param : ℕ → Expr
  pub for_min : ℕ → Expr
  pub for_max : ℕ → Expr
  pub one_value : ℕ → Expr
  pub domain : ℕ → ℕ

abbrev pub new_expr : NewLeaves → Expr → Expr
new_expr h (Number z) = Number z
new_expr h Infinity = Infinity
new_expr h (Param x) = h.param x
new_expr h (Min y) = h.for_min y
new_expr h (Max y) = h.for_max y
new_expr h (Val y) = h.one_value y
new_expr h (Add a b) = Add (new_expr h a) (new_expr h b)
new_expr h (Sub a b) = Sub (new_expr h a) (new_expr h b)
new_expr h (Mul a b) = Mul (new_expr h a) (new_expr h b)
new_expr h (DivDown a b) = DivDown (new_expr h a) (new_expr h b)
new_expr h (DivUp a b) = DivUp (new_expr h a) (new_expr h b)

abbrev pub new_range : NewLeaves → Range → Range
new_range h (Span a b) = Span (new_expr h a) (new_expr h b)
new_range h (One t) = One (new_expr h t)
new_range h (Dom y) = Dom (h.domain y)
new_range h (Union r q) = Union (new_range h r) (new_range h q)
new_range h (Inter r q) = Inter (new_range h r) (new_range h q)
new_range h (Outside r) = Outside (new_range h r)
new_range h (Plus r c) = Plus (new_range h r) (new_expr h c)
new_range h (Minus r c) = Minus (new_range h r) (new_expr h c)
new_range h (Times r c) = Times (new_range h r) (new_expr h c)
new_range h (Over r c) = Over (new_range h r) (new_expr h c)
