-- The verdict on a range: which node is refused first, and why.
use Rattle.std.specs.Prelude.{ℕ, suc, ◌+◌, ◌-◌, ◌*◌, ◌^◌, max, Bool, true, false, ◌||◌, ◌&&◌, not, ◌==◌, if◌then◌else◌, ℤ, pos, negsuc, int_le, nat_lt, nat_abs}
use Rattle.std.specs.Prelude.{List, [], ◌∷◌, ◌++◌, Option, Some, None, slice_index}
use Rattle.std.specs.List.{list_all}
use Rattle.fd_language.specs.declared.range_node.RangeNode.{RangeNode}
use Rattle.fd_language.specs.declared.range_node.Offence.{Offence}
use Rattle.fd_language.specs.declared.range_node.Offence.TheVariants.{NotMonotone, NotNatural, BadDivisor, TooWide}
use Rattle.fd_language.specs.Family.{has}
use Rattle.fd_language.specs.Range.{Range, Span, One, Dom, Union, Inter, Outside, Plus, Minus, Times, Over, Expr, Number, Infinity, Param, Min, Max, Val, Add}
use Rattle.fd_language.specs.Range.{Sub, Mul, DivDown, DivUp, Leaf, Walk, walk_expr, walk_range, is_parameter_role, leaf_of, reads, params}
use Rattle.fd_language.specs.Needs.{is_literal}
use Rattle.fd_language.specs.Check.{Wish, Rising, Falling, Constant, turn, is_rising, is_falling, literal_value, is_parameter, range_fits}
use Rattle.fd_language.specs.PostfixRanges.{nodes_of}

-- How many nodes there are. The node of an operator stands behind those of its operands, so where it has the number n, its last operand has n - 1, and an
-- operand before that of k nodes has n - 1 - k.
abbrev pub counting : Walk ℕ
counting = record { at_leaf = λ n. 1; at_one = λ n a. suc a; at_two = λ n a b. suc (a + b) }

abbrev pub expr_size : Expr → ℕ
expr_size e = walk_expr counting e

abbrev pub range_size : Range → ℕ
range_size r = walk_range counting r

-- Width. The greatest magnitude that the values of a term may have.
abbrev pub bound : ℕ → Expr → ℕ
bound M (Number z) = nat_abs z
bound M Infinity = M
bound M (Param x) = 2 ^ 63 - 1
bound M (Min y) = M
bound M (Max y) = M
bound M (Val y) = M
bound M (Add a b) = bound M a + bound M b
bound M (Sub a b) = bound M a + bound M b
bound M (Mul a b) = bound M a * bound M b
bound M (DivDown a b) = max (bound M a) M
bound M (DivUp a b) = max (bound M a) M

abbrev pub over_limit : ℕ → Bool
over_limit n = nat_lt (2 ^ 126 - 1) n

-- in a pointwise product or quotient c has a limit of its own
abbrev pub factor_over_limit : ℕ → ℕ → Bool
factor_over_limit M c = over_limit (M * c) || nat_lt (2 ^ 98) c

abbrev pub where_too_wide : Bool → ℕ → List Offence
where_too_wide true place = TooWide place ∷ []
where_too_wide false place = []

-- The nodes over the limit, in the term whose node has the number n. The place of a node is at its number.
abbrev pub wide_in_expr : ℕ → (ℕ → ℕ) → ℕ → Expr → List Offence
wide_in_expr M at n (Add a b) = wide_in_expr M at (n - 1 - expr_size b) a ++ wide_in_expr M at (n - 1) b ++ where_too_wide (over_limit (bound M (Add a b))) (at n)
wide_in_expr M at n (Sub a b) = wide_in_expr M at (n - 1 - expr_size b) a ++ wide_in_expr M at (n - 1) b ++ where_too_wide (over_limit (bound M (Sub a b))) (at n)
wide_in_expr M at n (Mul a b) = wide_in_expr M at (n - 1 - expr_size b) a ++ wide_in_expr M at (n - 1) b ++ where_too_wide (over_limit (bound M (Mul a b))) (at n)
wide_in_expr M at n (DivDown a b) = wide_in_expr M at (n - 1 - expr_size b) a ++ wide_in_expr M at (n - 1) b ++ where_too_wide (over_limit (bound M (DivDown a b))) (at n)
wide_in_expr M at n (DivUp a b) = wide_in_expr M at (n - 1 - expr_size b) a ++ wide_in_expr M at (n - 1) b ++ where_too_wide (over_limit (bound M (DivUp a b))) (at n)
wide_in_expr M at n e = where_too_wide (over_limit (bound M e)) (at n)

abbrev pub wide_in_range : ℕ → (ℕ → ℕ) → ℕ → Range → List Offence
wide_in_range M at n (Span a b) = wide_in_expr M at (n - 1 - expr_size b) a ++ wide_in_expr M at (n - 1) b
wide_in_range M at n (One t) = wide_in_expr M at (n - 1) t
wide_in_range M at n (Dom y) = []
wide_in_range M at n (Union r q) = wide_in_range M at (n - 1 - range_size q) r ++ wide_in_range M at (n - 1) q
wide_in_range M at n (Inter r q) = wide_in_range M at (n - 1 - range_size q) r ++ wide_in_range M at (n - 1) q
wide_in_range M at n (Outside r) = wide_in_range M at (n - 1) r
wide_in_range M at n (Plus r c) = wide_in_range M at (n - 1 - expr_size c) r ++ wide_in_expr M at (n - 1) c ++ where_too_wide (over_limit (M + bound M c)) (at n)
wide_in_range M at n (Minus r c) = wide_in_range M at (n - 1 - expr_size c) r ++ wide_in_expr M at (n - 1) c ++ where_too_wide (over_limit (M + bound M c)) (at n)
wide_in_range M at n (Times r c) = wide_in_range M at (n - 1 - expr_size c) r ++ wide_in_expr M at (n - 1) c ++ where_too_wide (factor_over_limit M (bound M c)) (at n)
wide_in_range M at n (Over r c) = wide_in_range M at (n - 1 - expr_size c) r ++ wide_in_expr M at (n - 1) c ++ where_too_wide (factor_over_limit M (bound M c)) (at n)

-- Directions, natural terms and divisors. In a natural term a literal below 0 offends.
abbrev pub where_below_zero : Bool → ℤ → ℕ → List Offence
where_below_zero true (negsuc z) place = NotNatural place ∷ []
where_below_zero true (pos z) place = []
where_below_zero false z place = []

abbrev pub unless_fits : Bool → ℕ → List Offence
unless_fits true place = []
unless_fits false place = NotMonotone place ∷ []

abbrev pub where_natural : Bool → ℕ → List Offence
where_natural true place = NotNatural place ∷ []
where_natural false place = []

abbrev pub unless_divides : Bool → ℕ → List Offence
unless_divides true place = []
unless_divides false place = BadDivisor place ∷ []

-- the wish for a term that is multiplied by a literal
abbrev pub scaled : ℤ → Wish → Wish
scaled (pos n) w = w
scaled (negsuc n) w = turn w

-- a quotient by a literal, by a parameter alone, or of two natural terms
abbrev pub quotient_offences : ℕ → ℕ → Expr → List Offence → List Offence → List Offence → List Offence
quotient_offences M place b plain left right =
    if is_literal b then plain ++ unless_divides (int_le (pos 1) (literal_value M b)) place else
    if is_parameter b then plain else left ++ right

-- the offences in the term whose node has the number n, where it is wanted with the wish w, and natural or not
abbrev pub expr_offences : ℕ → (ℕ → ℕ) → ℕ → Expr → Wish → Bool → List Offence
expr_offences M at n (Number z) w natural = where_below_zero natural z (at n)
expr_offences M at n (Min y) w natural = unless_fits (is_rising w) (at n)
expr_offences M at n (Max y) w natural = unless_fits (is_falling w) (at n)
expr_offences M at n (Add a b) w natural =
    if is_literal a && is_literal b then where_below_zero natural (literal_value M (Add a b)) (at n) else
    expr_offences M at (n - 1 - expr_size b) a w natural ++ expr_offences M at (n - 1) b w natural
expr_offences M at n (Sub a b) w natural =
    if is_literal a && is_literal b then where_below_zero natural (literal_value M (Sub a b)) (at n) else
    expr_offences M at (n - 1 - expr_size b) a w natural ++ expr_offences M at (n - 1) b (turn w) natural ++ where_natural natural (at n)
expr_offences M at n (Mul a b) w natural =
    if is_literal a && is_literal b then where_below_zero natural (literal_value M (Mul a b)) (at n) else
    if is_literal a then expr_offences M at (n - 1 - expr_size b) a w natural ++ expr_offences M at (n - 1) b (scaled (literal_value M a) w) natural else
    if is_literal b then expr_offences M at (n - 1 - expr_size b) a (scaled (literal_value M b) w) natural ++ expr_offences M at (n - 1) b w natural else
    expr_offences M at (n - 1 - expr_size b) a w true ++ expr_offences M at (n - 1) b w true
expr_offences M at n (DivDown a b) w natural =
    quotient_offences M (at (n - 1)) b (expr_offences M at (n - 1 - expr_size b) a w natural) (expr_offences M at (n - 1 - expr_size b) a w true) (expr_offences M at (n - 1) b (turn w) true)
expr_offences M at n (DivUp a b) w natural =
    quotient_offences M (at (n - 1)) b (expr_offences M at (n - 1 - expr_size b) a w natural) (expr_offences M at (n - 1 - expr_size b) a w true) (expr_offences M at (n - 1) b (turn w) true)
expr_offences M at n e w natural = []

-- those in the range whose node has the number n, wanted shrinking at true, growing at false
abbrev pub range_offences : ℕ → (ℕ → ℕ) → ℕ → Range → Bool → List Offence
range_offences M at n (Span a b) true = expr_offences M at (n - 1 - expr_size b) a Rising false ++ expr_offences M at (n - 1) b Falling false
range_offences M at n (Span a b) false = expr_offences M at (n - 1 - expr_size b) a Falling false ++ expr_offences M at (n - 1) b Rising false
range_offences M at n (One t) w = expr_offences M at (n - 1) t Constant false
range_offences M at n (Dom y) w = unless_fits w (at n)
range_offences M at n (Union r q) w = range_offences M at (n - 1 - range_size q) r w ++ range_offences M at (n - 1) q w
range_offences M at n (Inter r q) w = range_offences M at (n - 1 - range_size q) r w ++ range_offences M at (n - 1) q w
range_offences M at n (Outside r) w = range_offences M at (n - 1) r (not w)
range_offences M at n (Plus r c) w = range_offences M at (n - 1 - expr_size c) r w ++ expr_offences M at (n - 1) c Constant false
range_offences M at n (Minus r c) w = range_offences M at (n - 1 - expr_size c) r w ++ expr_offences M at (n - 1) c Constant false
range_offences M at n (Times r c) w = range_offences M at (n - 1 - expr_size c) r w ++ expr_offences M at (n - 1) c Constant false
range_offences M at n (Over r c) w = range_offences M at (n - 1 - expr_size c) r w ++ unless_divides (is_parameter c || (is_literal c && int_le (pos 1) (literal_value M c))) (at (n - 1))

-- Two uses. Of the variable of a node, the other use stands before and its own does not.
abbrev pub where_first_clash : Bool → Bool → ℕ → List Offence
where_first_clash true false place = NotMonotone place ∷ []
where_first_clash true true place = []
where_first_clash false own place = []

-- The leaf at the place p, behind which k are the clashes of the others. Before it ps stand as parameters, and ys in min, max, val or dom.
abbrev pub leaf_clashes : ℕ → List ℕ → List ℕ → Option Leaf → (List ℕ → List ℕ → List Offence) → List Offence
leaf_clashes p ps ys None k = k ps ys
leaf_clashes p ps ys (Some l) k =
    if is_parameter_role l.role then where_first_clash (has ys l.variable) (has ps l.variable) p ++ k (l.variable ∷ ps) ys
    else where_first_clash (has ps l.variable) (has ys l.variable) p ++ k ps (l.variable ∷ ys)

-- the nodes from the number n on
abbrev pub clashes : (ℕ → ℕ) → ℕ → List ℕ → List ℕ → List RangeNode → List Offence
clashes at n ps ys [] = []
clashes at n ps ys (m ∷ ms) = leaf_clashes (at n) ps ys (leaf_of m) (λ qs zs. clashes at (suc n) qs zs ms)

-- The first of several offences: the smallest place decides, and at equal places the order of the kinds.
abbrev pub offence_place : Offence → ℕ
offence_place (NotMonotone p) = p
offence_place (NotNatural p) = p
offence_place (BadDivisor p) = p
offence_place (TooWide p) = p

abbrev pub offence_kind : Offence → ℕ
offence_kind (NotMonotone p) = 0
offence_kind (NotNatural p) = 1
offence_kind (BadDivisor p) = 2
offence_kind (TooWide p) = 3

abbrev pub is_before : Offence → Offence → Bool
is_before a b = nat_lt (offence_place a) (offence_place b) || ((offence_place a == offence_place b) && nat_lt (offence_kind a) (offence_kind b))

abbrev pub earlier : Option Offence → Option Offence → Option Offence
earlier None b = b
earlier (Some a) None = Some a
earlier (Some a) (Some b) = if is_before b a then Some b else Some a

abbrev pub first : List Offence → Option Offence
first [] = None
first (o ∷ os) = earlier (Some o) (first os)

-- Width decides before all else.
abbrev pub width_first : Option Offence → Option Offence → Option Offence
width_first (Some o) others = Some o
width_first None others = others

-- The verdict on a range with a place for each node in postfix order: none where it is accepted, and else the first offence.
abbrev pub verdict : ℕ → List ℕ → Range → Option Offence
verdict M places r =
    let at : ℕ → ℕ = λ n. slice_index places n in
    let root : ℕ = range_size r - 1 in
    width_first (first (wide_in_range M at root r)) (first (range_offences M at root r true ++ clashes at 0 [] [] (nodes_of r)))

-- The same without places: the range is accepted. Each node keeps the limit,
abbrev pub expr_within : ℕ → Expr → Bool
expr_within M (Add a b) = (expr_within M a && expr_within M b) && not (over_limit (bound M (Add a b)))
expr_within M (Sub a b) = (expr_within M a && expr_within M b) && not (over_limit (bound M (Sub a b)))
expr_within M (Mul a b) = (expr_within M a && expr_within M b) && not (over_limit (bound M (Mul a b)))
expr_within M (DivDown a b) = (expr_within M a && expr_within M b) && not (over_limit (bound M (DivDown a b)))
expr_within M (DivUp a b) = (expr_within M a && expr_within M b) && not (over_limit (bound M (DivUp a b)))
expr_within M e = not (over_limit (bound M e))

abbrev pub range_within : ℕ → Range → Bool
range_within M (Span a b) = expr_within M a && expr_within M b
range_within M (One t) = expr_within M t
range_within M (Dom y) = true
range_within M (Union r q) = range_within M r && range_within M q
range_within M (Inter r q) = range_within M r && range_within M q
range_within M (Outside r) = range_within M r
range_within M (Plus r c) = (range_within M r && expr_within M c) && not (over_limit (M + bound M c))
range_within M (Minus r c) = (range_within M r && expr_within M c) && not (over_limit (M + bound M c))
range_within M (Times r c) = (range_within M r && expr_within M c) && not (factor_over_limit M (bound M c))
range_within M (Over r c) = (range_within M r && expr_within M c) && not (factor_over_limit M (bound M c))

-- no variable stands both as a parameter and in min, max, val or dom,
abbrev pub has_one_use : Range → Bool
has_one_use r = list_all (λ x. not (has (reads r) x)) (params r)

-- and the direction table fits.
abbrev pub is_accepted : ℕ → Range → Bool
is_accepted M r = range_within M r && (range_fits M r true && has_one_use r)
