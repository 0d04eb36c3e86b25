-- What the check keeps of a term and of a range.
use Rattle.std.specs.Prelude.{◌≡◌, ℕ, ◌+◌, ◌*◌, ◌^◌, min, max, Bool, true, false, if◌then◌else◌, ℤ, pos, ◌+ℤ◌, ◌-ℤ◌, ◌*ℤ◌, int_le, Option, Some, None, IfSome}
use Rattle.std.specs.Prelude.{FitsSigned}
use Rattle.std.specs.Int.{w128}
use Rattle.fd_language.specs.declared.range_node.RangeNode.{RangeNode}
use Rattle.fd_language.specs.declared.range_node.RangeNode.TheVariants as node
use Rattle.fd_language.specs.declared.range_node.Offence.{Offence}
use Rattle.fd_language.specs.declared.range_node.Offence.TheVariants.{NotMonotone}
use Rattle.fd_language.specs.Range.{Range, Expr, Number, Infinity, Param, Min, Max, Val}
use Rattle.fd_language.specs.Needs.{is_literal}
use Rattle.fd_language.specs.Check.{Wish, turn, literal_value, is_parameter}
use Rattle.fd_language.specs.RangeVerdict.{bound, wide_in_expr, wide_in_range, where_too_wide, over_limit, factor_over_limit, where_below_zero, where_natural}
use Rattle.fd_language.specs.RangeVerdict.{unless_divides, scaled, expr_offences, range_offences, expr_within, range_within, earlier, first}
use Rattle.monotone_check.specs.declared.offences.Wishes.{Wishes}
use Rattle.monotone_check.specs.declared.summary.TermCheck.{TermCheck}
use Rattle.monotone_check.specs.declared.summary.RangeCheck.{RangeCheck}
use Rattle.monotone_check.specs.Wishes.{by_wish}

-- a bound as it is kept: all those over the limit are one
abbrev pub capped : ℕ → ℕ
capped n = min n (2 ^ 126)

-- the value of a literal, and none of another term
abbrev pub literal_of : ℕ → Expr → Option ℤ
literal_of M e = if is_literal e then Some (literal_value M e) else None

abbrev pub pick : Bool → TermCheck → Wishes
pick true s = s.natural
pick false s = s.plain

-- s is kept of the term e, whose node has the number n
pub record IsTerm (M : ℕ) (at : ℕ → ℕ) (n : ℕ) (e : Expr) (s : TermCheck) : Type 0 where
  pub place : s.place ≡ at n
  pub size : s.bound ≡ capped (bound M e)
  pub wide : s.wide ≡ first (wide_in_expr M at n e)
  pub parameter : s.parameter ≡ is_parameter e
  pub literal : expr_within M e ≡ true → s.literal ≡ literal_of M e
  pub offences : expr_within M e ≡ true → (w : Wish) (natural : Bool) → by_wish (pick natural s) w ≡ first (expr_offences M at n e w natural)

abbrev pub by_growth : RangeCheck → Bool → Option Offence
by_growth s true = s.shrinking
by_growth s false = s.growing

pub record IsRange (M : ℕ) (at : ℕ → ℕ) (n : ℕ) (r : Range) (s : RangeCheck) : Type 0 where
  pub wide : s.wide ≡ first (wide_in_range M at n r)
  pub offences : range_within M r ≡ true → (w : Bool) → by_growth s w ≡ first (range_offences M at n r w)

-- the term of a node without operands
abbrev pub leaf_expr : RangeNode → Option Expr
leaf_expr (node.Int z) = Some (Number z)
leaf_expr node.Infinity = Some Infinity
leaf_expr (node.Param x) = Some (Param x)
leaf_expr (node.Min y) = Some (Min y)
leaf_expr (node.Max y) = Some (Max y)
leaf_expr (node.Val y) = Some (Val y)
leaf_expr _ = None

-- the bound, the value and the first offences of an operator's term, from those of its operands
abbrev pub operator_bound : ℕ → RangeNode → ℕ → ℕ → ℕ
operator_bound M node.Add x y = x + y
operator_bound M node.Sub x y = x + y
operator_bound M node.Mul x y = x * y
operator_bound M _ x y = max x M

abbrev pub both_literal : (ℤ → ℤ → ℤ) → Option ℤ → Option ℤ → Option ℤ
both_literal f (Some x) (Some y) = Some (f x y)
both_literal f (Some x) None = None
both_literal f None y = None

abbrev pub operator_literal : RangeNode → Option ℤ → Option ℤ → Option ℤ
operator_literal node.Add x y = both_literal (λ a b. a +ℤ b) x y
operator_literal node.Sub x y = both_literal (λ a b. a -ℤ b) x y
operator_literal node.Mul x y = both_literal (λ a b. a *ℤ b) x y
operator_literal _ x y = None

abbrev pub kept : Bool → TermCheck → Wish → Option Offence
kept natural s w = by_wish (pick natural s) w

abbrev pub product_first : Option ℤ → Option ℤ → TermCheck → TermCheck → Wish → Bool → Option Offence
product_first (Some x) y a b w natural = earlier (kept natural a w) (kept natural b (scaled x w))
product_first None (Some y) a b w natural = earlier (kept natural a (scaled y w)) (kept natural b w)
product_first None None a b w natural = earlier (kept true a w) (kept true b w)

abbrev pub quotient_first : Option ℤ → TermCheck → TermCheck → Wish → Bool → Option Offence
quotient_first (Some y) a b w natural = earlier (kept natural a w) (first (unless_divides (int_le (pos 1) y) b.place))
quotient_first None a b w natural = if b.parameter then kept natural a w else earlier (kept true a w) (kept true b (turn w))

abbrev pub operands_first : RangeNode → TermCheck → TermCheck → ℕ → Wish → Bool → Option Offence
operands_first node.Add a b p w natural = earlier (kept natural a w) (kept natural b w)
operands_first node.Sub a b p w natural = earlier (earlier (kept natural a w) (kept natural b (turn w))) (first (where_natural natural p))
operands_first node.Mul a b p w natural = product_first a.literal b.literal a b w natural
operands_first _ a b p w natural = quotient_first b.literal a b w natural

abbrev pub operator_first : Option ℤ → RangeNode → TermCheck → TermCheck → ℕ → Wish → Bool → Option Offence
operator_first (Some v) n a b p w natural = first (where_below_zero natural v p)
operator_first None n a b p w natural = operands_first n a b p w natural

-- whether a pointwise operator is over the limit, and its own offence, from what is kept of c
abbrev pub pointwise_over : ℕ → RangeNode → ℕ → Bool
pointwise_over M node.Plus x = over_limit (M + x)
pointwise_over M node.Minus x = over_limit (M + x)
pointwise_over M _ x = factor_over_limit M x

abbrev pub divisor_first : Option ℤ → TermCheck → Option Offence
divisor_first (Some y) c = first (unless_divides (int_le (pos 1) y) c.place)
divisor_first None c = first (unless_divides c.parameter c.place)

abbrev pub pointwise_first : RangeNode → TermCheck → Option Offence
pointwise_first node.Over c = divisor_first c.literal c
pointwise_first _ c = c.plain.constant

-- what is told of an operator's term and of a range, once what is kept of the operands is known
pub record IsOperated (M : ℕ) (n : RangeNode) (a b : TermCheck) (p : ℕ) (r : TermCheck) : Type 0 where
  pub place : r.place ≡ p
  pub size : (x y : ℕ) → a.bound ≡ capped x → b.bound ≡ capped y → r.bound ≡ capped (operator_bound M n x y)
  pub wide : (x y : ℕ) → a.bound ≡ capped x → b.bound ≡ capped y → r.wide ≡ earlier (earlier a.wide b.wide) (first (where_too_wide (over_limit (operator_bound M n x y)) p))
  pub some : IfSome (operator_literal n a.literal b.literal) (λ z. FitsSigned w128 z → r.literal ≡ Some z)
  pub none : operator_literal n a.literal b.literal ≡ None → r.literal ≡ None
  pub parameter : r.parameter ≡ false
  pub plain : (w : Wish) → by_wish r.plain w ≡ operator_first r.literal n a b p w false
  pub natural : (w : Wish) → by_wish r.natural w ≡ operator_first r.literal n a b p w true

pub record IsLeaf (M : ℕ) (n : RangeNode) (p : ℕ) (s : TermCheck) : Type 0 where
  pub leaf : (at : ℕ → ℕ) (k : ℕ) → at k ≡ p → IfSome (leaf_expr n) (λ e. IsTerm M at k e s)

pub record IsSpan (a b : TermCheck) (s : RangeCheck) : Type 0 where
  pub wide : s.wide ≡ earlier a.wide b.wide
  pub shrinking : s.shrinking ≡ earlier a.plain.rising b.plain.falling
  pub growing : s.growing ≡ earlier a.plain.falling b.plain.rising

pub record IsSingle (a : TermCheck) (s : RangeCheck) : Type 0 where
  pub wide : s.wide ≡ a.wide
  pub shrinking : s.shrinking ≡ a.plain.constant
  pub growing : s.growing ≡ a.plain.constant

pub record IsDomain (p : ℕ) (s : RangeCheck) : Type 0 where
  pub wide : s.wide ≡ None
  pub shrinking : s.shrinking ≡ None
  pub growing : s.growing ≡ Some (NotMonotone p)

pub record IsCombined (r q s : RangeCheck) : Type 0 where
  pub wide : s.wide ≡ earlier r.wide q.wide
  pub shrinking : s.shrinking ≡ earlier r.shrinking q.shrinking
  pub growing : s.growing ≡ earlier r.growing q.growing

pub record IsComplement (r s : RangeCheck) : Type 0 where
  pub wide : s.wide ≡ r.wide
  pub shrinking : s.shrinking ≡ r.growing
  pub growing : s.growing ≡ r.shrinking

pub record IsPointwise (M : ℕ) (n : RangeNode) (r : RangeCheck) (c : TermCheck) (p : ℕ) (s : RangeCheck) : Type 0 where
  pub wide : (x : ℕ) → c.bound ≡ capped x → s.wide ≡ earlier (earlier r.wide c.wide) (first (where_too_wide (pointwise_over M n x) p))
  pub shrinking : s.shrinking ≡ earlier r.shrinking (pointwise_first n c)
  pub growing : s.growing ≡ earlier r.growing (pointwise_first n c)
