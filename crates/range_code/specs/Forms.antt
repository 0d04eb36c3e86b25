-- Sums of products, intervals between them, and which ranges they are.
use Rattle.std.specs.Prelude.{◌≡◌, ℕ, ◌+◌, ◌*◌, ◌-◌, ◌^◌, ◌≤◌, ℤ, pos, ◌+ℤ◌, ◌*ℤ◌, ◌≤ℤ◌, ◌<◌, nat_abs, List, [], ◌∷◌, length, slice_index_or}
use Rattle.std.specs.List.{All}
use Rattle.fd_language.specs.declared.range_node.RangeNode.{RangeNode}
use Rattle.fd_language.specs.declared.TheConstants.{INFINITY}
use Rattle.fd_language.specs.Family.{Family}
use Rattle.fd_language.specs.Range.{Range, Outside, One, Expr, Val, least, greatest, div_down, div_up}
use Rattle.fd_language.specs.PostfixRanges.{nodes_of, built, shape_of, term_alone, term_of_terms}
use Rattle.domain_ranges.specs.Narrowing.{between}
use Rattle.range_code.specs.declared.frame.Arg.{Arg}
use Rattle.range_code.specs.declared.form.End.{End}
use Rattle.range_code.specs.declared.form.End.TheVariants.{Least, Greatest}
use Rattle.range_code.specs.declared.form.Product.{Product}
use Rattle.range_code.specs.declared.form.Shift.{Shift}
use Rattle.range_code.specs.declared.form.Division.{Division}
use Rattle.range_code.specs.declared.form.Division.TheVariants.{Whole, Down, Up}
use Rattle.range_code.specs.declared.form.Bound.{Bound}
use Rattle.range_code.specs.declared.form.Evaluation.{Evaluation}
use Rattle.range_code.specs.declared.form.Evaluation.TheVariants.{Nodes, Differs, Above, Below, Between, Row, Without, Except, Chosen, Counter, Counted, Products, Quotients, Disjunction}
use Rattle.range_code.specs.declared.form.Leaf.{Leaf}
use Rattle.range_code.specs.declared.form.Leaf.TheVariants.{Number, Read}
use Rattle.range_code.specs.declared.form.Addend.{Addend}
use Rattle.range_code.specs.Nodes.{IsSeen, IsReadable}
use Rattle.range_code.specs.Choices.{IsChoice}
use Rattle.range_code.specs.Work.{filled_value, filled_set}
use Rattle.range_code.specs.Steps.{outside}
use Rattle.range_code.specs.SpelledRanges.{counter_range, counted_range, products_range, quotients_range, disjunction_range, MeansSame}

-- one end of a set
abbrev pub end_of : List ℕ → End → ℕ
end_of s Least = least s
end_of s Greatest = greatest s

abbrev pub other_end : End → End
other_end Least = Greatest
other_end Greatest = Least

-- products that differ in their ends alone
pub record IsOpposite (m k : Product) : Type 0 where
  pub weight : k.weight ≡ m.weight
  pub slot : k.slot ≡ m.slot
  pub end : k.end ≡ other_end m.end

-- of each two products at one place, the one is opposite to the other
pub record AreOpposite (ms ks : List Product) : Type 0 where
  pub count : length ks ≡ length ms
  pub each : (i : ℕ) (d : Product) → i < length ms → IsOpposite (slice_index_or ms i d) (slice_index_or ks i d)

abbrev pub product_value : Family → Product → ℤ
product_value S m = m.weight *ℤ pos (end_of (S m.slot) m.end)

abbrev pub sum_of : Family → List Product → ℤ
sum_of S [] = pos 0
sum_of S (m ∷ ms) = product_value S m +ℤ sum_of S ms

abbrev pub divided : Division → ℤ → ℤ
divided Whole z = z
divided (Down d) z = div_down INFINITY z d
divided (Up d) z = div_up INFINITY z d

abbrev pub total_of : Family → Bound → ℤ
total_of S b = b.constant +ℤ sum_of S b.products.items

abbrev pub bound_value : Family → Bound → ℤ
bound_value S b = divided b.division (total_of S b)

-- the sum of a constant and that end of the set of a slot
abbrev pub shift_value : Family → End → Shift → ℤ
shift_value S end s = s.constant +ℤ pos (end_of (S s.slot) end)

-- how far from 0 the sum of the products may be
abbrev pub width_of : List Product → ℕ
width_of [] = 0
width_of (m ∷ ms) = nat_abs m.weight * INFINITY + width_of ms

-- No sum of the first products leaves 64 bits.
abbrev pub AreNarrow : ℕ → List Product → Type 0
AreNarrow n ms = n + width_of ms ≤ 2 ^ 63 - 1

abbrev pub IsPositive : Division → Type 0
IsPositive Whole = Unit {0}
IsPositive (Down d) = pos 1 ≤ℤ d
IsPositive (Up d) = pos 1 ≤ℤ d

-- each slot has an argument, and its variable is one of so many
abbrev pub AreSeen : ℕ → List Arg → List Product → Type 0
AreSeen count args ms = All (λ m. IsSeen count args m.slot) ms

-- a bound that may be evaluated wherever the range may be
pub record IsUsable (r : Range) (b : Bound) : Type 0 where
  pub width : AreNarrow (nat_abs b.constant) b.products.items
  pub division : IsPositive b.division
  pub seen : (count : ℕ) (args : List Arg) → All (IsReadable count args) (nodes_of r) → AreSeen count args b.products.items

-- a moved end that may be evaluated wherever the range may be
pub record IsShiftUsable (r : Range) (s : Shift) : Type 0 where
  pub width : nat_abs s.constant + INFINITY ≤ 2 ^ 63 - 1
  pub seen : (count : ℕ) (args : List Arg) → All (IsReadable count args) (nodes_of r) → IsSeen count args s.slot

-- the range is the interval from a moved least member to a number, and from a number to a moved greatest one
pub record IsAbove (r : Range) (s : Shift) (z : ℤ) : Type 0 where
  pub set : (S : Family) (p : ℕ → ℤ) → filled_set S p r ≡ between (shift_value S Least s) z
  pub usable : IsShiftUsable r s

pub record IsBelow (r : Range) (z : ℤ) (s : Shift) : Type 0 where
  pub set : (S : Family) (p : ℕ → ℤ) → filled_set S p r ≡ between z (shift_value S Greatest s)
  pub usable : IsShiftUsable r s

-- the moved end has the bound's value
pub record IsShiftOf (b : Bound) (end : End) (s : Shift) : Type 0 where
  pub value : (S : Family) → bound_value S b ≡ shift_value S end s
  pub width : AreNarrow (nat_abs b.constant) b.products.items → nat_abs s.constant + INFINITY ≤ 2 ^ 63 - 1
  pub seen : (count : ℕ) (args : List Arg) → AreSeen count args b.products.items → IsSeen count args s.slot

-- all numbers but the value of a variable
abbrev pub all_but_val : ℕ → Range
all_but_val slot = Outside (One (Val slot))

-- the range is the interval from a bound to a bound, and the complement of one
pub record IsInterval (r : Range) (a b : Bound) : Type 0 where
  pub set : (S : Family) (p : ℕ → ℤ) → filled_set S p r ≡ between (bound_value S a) (bound_value S b)
  pub low : IsUsable r a
  pub high : IsUsable r b

pub record IsComplement (r : Range) (a b : Bound) : Type 0 where
  pub set : (S : Family) (p : ℕ → ℤ) → filled_set S p r ≡ outside (between (bound_value S a) (bound_value S b))
  pub low : IsUsable r a
  pub high : IsUsable r b

-- the range is the complement of one number
pub record IsException (r : Range) (a : Bound) : Type 0 where
  pub set : (S : Family) (p : ℕ → ℤ) → filled_set S p r ≡ outside (between (bound_value S a) (bound_value S a))
  pub value : IsUsable r a

-- a number of the universe
abbrev pub IsNumber : ℤ → Type 0
IsNumber z = (pos 0 ≤ℤ z) × (z ≤ℤ pos INFINITY)

-- the form is one of the range
abbrev pub IsEvaluation : Range → Evaluation → Type 0
IsEvaluation r Nodes = Unit {0}
IsEvaluation r (Differs slot) = r ≡ all_but_val slot
IsEvaluation r (Above s z) = IsAbove r s z
IsEvaluation r (Below z s) = IsBelow r z s
IsEvaluation r (Between a b) = IsInterval r a b
IsEvaluation r (Row a b) = IsInterval r a b × AreOpposite a.products.items b.products.items
IsEvaluation r (Without a b) = IsComplement r a b
IsEvaluation r (Except a) = IsException r a
IsEvaluation r (Chosen c) = IsChoice r c
IsEvaluation r (Counter v slot) = MeansSame r (counter_range v slot)
IsEvaluation r (Counted v slot) = MeansSame r (counted_range v slot) × IsNumber v
IsEvaluation r (Products x y) = MeansSame r (products_range x y)
IsEvaluation r (Quotients x y) = MeansSame r (quotients_range x y)
IsEvaluation r (Disjunction x y) = MeansSame r (disjunction_range x y)

-- the form reads one end of one domain
abbrev pub IsShifted : Evaluation → Type 0
IsShifted (Above s z) = Unit {0}
IsShifted (Below z s) = Unit {0}
IsShifted form = ⊥

-- what a leaf adds
abbrev pub leaf_amount : Family → Leaf → ℤ
leaf_amount S (Number z) = z
leaf_amount S (Read slot end) = pos (end_of (S slot) end)

abbrev pub amount : Family → Addend → ℤ
amount S a = a.weight *ℤ leaf_amount S a.leaf

abbrev pub IsLeafSeen : ℕ → List Arg → Leaf → Type 0
IsLeafSeen count args (Number z) = Unit {0}
IsLeafSeen count args (Read slot end) = IsSeen count args slot

-- a node that is a term by itself, and its value
pub record IsLeaf (n : RangeNode) (l : Leaf) : Type 0 where
  pub term : Expr
  pub shape : shape_of n ≡ term_alone term
  pub value : (S : Family) (p : ℕ → ℤ) → filled_value S p term ≡ leaf_amount S l
  pub seen : (count : ℕ) (args : List Arg) → IsReadable count args n → IsLeafSeen count args l

-- a node that adds a term to a term or takes it away, so that the one is added
pub record IsSigned (n : RangeNode) (old new : Addend) : Type 0 where
  pub make : Expr → Expr → Expr
  pub shape : shape_of n ≡ term_of_terms make
  pub value : (S : Family) (p : ℕ → ℤ) (e f : Expr) → filled_value S p f ≡ amount S old → filled_value S p (make e f) ≡ filled_value S p e +ℤ amount S new
  pub seen : (count : ℕ) (args : List Arg) → IsLeafSeen count args old.leaf → IsLeafSeen count args new.leaf

-- two nodes that divide the term that waits
pub record IsDivision (n m : RangeNode) (d : Division) : Type 0 where
  pub term : Expr
  pub make : Expr → Expr → Expr
  pub divisor : shape_of n ≡ term_alone term
  pub shape : shape_of m ≡ term_of_terms make
  pub value : (S : Family) (p : ℕ → ℤ) (e : Expr) → filled_value S p (make e term) ≡ divided d (filled_value S p e)
  pub positive : IsPositive d

-- the first nodes add to the term that waits
pub record IsPart (ns : List RangeNode) (a : Addend) (rest : List RangeNode) : Type 0 where
  pub make : Expr → Expr
  pub nodes : (rs : List Range) (ts : List Expr) (e : Expr) → built ns rs (e ∷ ts) ≡ built rest rs (make e ∷ ts)
  pub value : (S : Family) (p : ℕ → ℤ) (e : Expr) → filled_value S p (make e) ≡ filled_value S p e +ℤ amount S a
  pub seen : (count : ℕ) (args : List Arg) → All (IsReadable count args) ns → IsLeafSeen count args a.leaf × All (IsReadable count args) rest

-- something is added to a bound
pub record IsAdded (old : Bound) (a : Addend) (new : Bound) : Type 0 where
  pub value : (S : Family) → total_of S new ≡ total_of S old +ℤ amount S a
  pub seen : (count : ℕ) (args : List Arg) → AreSeen count args old.products.items → IsLeafSeen count args a.leaf → AreSeen count args new.products.items
  pub division : new.division ≡ old.division

-- the first nodes are a term with the bound's value, and with the sum's
pub record IsBound (ns : List RangeNode) (b : Bound) (rest : List RangeNode) : Type 0 where
  pub term : Expr
  pub nodes : (rs : List Range) (ts : List Expr) → built ns rs ts ≡ built rest rs (term ∷ ts)
  pub value : (S : Family) (p : ℕ → ℤ) → filled_value S p term ≡ bound_value S b
  pub seen : (count : ℕ) (args : List Arg) → All (IsReadable count args) ns → AreSeen count args b.products.items × All (IsReadable count args) rest
  pub division : IsPositive b.division
