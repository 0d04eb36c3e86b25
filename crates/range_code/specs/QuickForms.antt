-- What one look at a variable or two tells of the set of a range with its arguments.
use Rattle.std.specs.Prelude.{◌≡◌, ℕ, ◌+◌, ◌-◌, ◌^◌, ◌≤◌, ◌<◌, ◌==◌, ◌/◌, min, Bool, ◌||◌, ◌&&◌, not, if◌then◌else◌, ℤ, pos, ◌+ℤ◌, ◌-ℤ◌, ◌*ℤ◌, nat_abs, false, cond, List, length}
use Rattle.fd_language.specs.declared.TheConstants.{INFINITY}
use Rattle.std.specs.Ordering.{int_eq}
use Rattle.fd_language.specs.Family.{Family, has}
use Rattle.fd_language.specs.Range.{Range, Span, Param, set_of, least, greatest, is_none_left, is_several, some_number, div_down, div_up}
use Rattle.range_code.specs.declared.frame.Arg.{Arg}
use Rattle.range_code.specs.declared.form.End.{End}
use Rattle.range_code.specs.declared.form.End.TheVariants.{Least, Greatest}
use Rattle.range_code.specs.declared.form.Shift.{Shift}
use Rattle.range_code.specs.declared.form.Bound.{Bound}
use Rattle.range_code.specs.declared.quick_forms.Quick.{Quick}
use Rattle.range_code.specs.declared.quick_forms.Quick.TheVariants.{Other, Within, Differs, Above, Below, Moved, Plus, Minus, Counter, Counted, Products, Quotients, UpTo, From, MayBe, MustBe, Turned, Conjunct, Disjunct, Disjunction}
use Rattle.range_code.specs.declared.quick_forms.Pair.{Pair}
use Rattle.range_code.specs.declared.Reach.{Reach}
use Rattle.range_code.specs.declared.Reach.TheVariants as reach
use Rattle.range_code.specs.Frames.{IsArgumentFrame, posted, family_of}
use Rattle.range_code.specs.Nodes.{IsSeen}
use Rattle.range_code.specs.Forms.{end_of, bound_value, AreNarrow, AreSeen, IsNumber}
use Rattle.range_code.specs.SetReaches.{IsReach}
use Rattle.range_code.specs.PairedSums.{extreme_sum, far_of, IsPairingWithin}

-- whether the set has the number, and whether it has another
abbrev pub has_value : List ℕ → ℤ → Bool
has_value s v = some_number INFINITY (λ n. int_eq v (pos n) && has s n)

abbrev pub has_other : List ℕ → ℤ → Bool
has_other s v = some_number INFINITY (λ n. not (int_eq v (pos n)) && has s n)

-- what the counter of a number in a set is at least, and at most
abbrev pub counter_least : List ℕ → ℤ → ℤ
counter_least s v = if has_other s v || is_none_left s then pos 0 else pos 1

abbrev pub counter_greatest : List ℕ → ℤ → ℤ
counter_greatest s v = if has_value s v then pos 1 else pos 0

-- What is reached where the set is that of a number's counter: where it may be 0, all but the number or all, and else the number alone if it is at most 1.
abbrev pub counted_reach : List ℕ → ℤ → Reach
counted_reach s v =
    if least s == 0 then (if greatest s == 0 then reach.Except v else reach.All) else
    reach.Between v (v +ℤ (pos (greatest s) -ℤ pos 1) *ℤ (pos INFINITY +ℤ pos 1))

-- what is reached over these sets
abbrev pub reached : List (List ℕ) → Quick → Reach
reached sets Other = reach.Other
reached sets (Within low high) = reach.Between low high
reached sets (Differs x z) = cond (is_several (family_of sets x)) reach.All (reach.Except (z +ℤ pos (least (family_of sets x))))
reached sets (Above x z high) = reach.Between (z +ℤ pos (least (family_of sets x))) high
reached sets (Below x z low) = reach.Between low (z +ℤ pos (greatest (family_of sets x)))
reached sets (Moved x z) = reach.Between (z +ℤ pos (least (family_of sets x))) (z +ℤ pos (greatest (family_of sets x)))
reached sets (Plus x y z) = reach.Between ((z +ℤ pos (least (family_of sets x))) +ℤ pos (least (family_of sets y))) ((z +ℤ pos (greatest (family_of sets x))) +ℤ pos (greatest (family_of sets y)))
reached sets (Minus x y z) = reach.Between ((z +ℤ pos (least (family_of sets x))) -ℤ pos (greatest (family_of sets y))) ((z +ℤ pos (greatest (family_of sets x))) -ℤ pos (least (family_of sets y)))
reached sets (Counter x v) = reach.Between (counter_least (family_of sets x) v) (counter_greatest (family_of sets x) v)
reached sets (Counted x v) = counted_reach (family_of sets x) v
reached sets (Products x y) = reach.Between (pos (least (family_of sets x)) *ℤ pos (least (family_of sets y))) (pos (greatest (family_of sets x)) *ℤ pos (greatest (family_of sets y)))
reached sets (Quotients x y) = reach.Between
    (div_up INFINITY (pos (least (family_of sets x))) (pos (greatest (family_of sets y))))
    (div_down INFINITY (pos (greatest (family_of sets x))) (pos (least (family_of sets y))))
reached sets (UpTo p) = reach.Between (pos 0) (extreme_sum (family_of sets) Greatest p)
reached sets (From p) = reach.Between (extreme_sum (family_of sets) Least p) (pos INFINITY)
reached sets (MayBe p) = reach.Between (pos 0) (div_down INFINITY (extreme_sum (family_of sets) Greatest p +ℤ far_of p) (far_of p))
reached sets (MustBe p) = reach.Between (div_up INFINITY (extreme_sum (family_of sets) Least p +ℤ pos 1) (far_of p)) (pos INFINITY)
reached sets (Turned x z) = reach.Between (z -ℤ pos (greatest (family_of sets x))) (z -ℤ pos (least (family_of sets x)))
reached sets (Conjunct x y) = reach.Between (pos (least (family_of sets x))) ((pos 1 +ℤ pos (greatest (family_of sets x))) -ℤ pos (least (family_of sets y)))
reached sets (Disjunct x y) = reach.Between (pos (least (family_of sets x)) -ℤ pos (greatest (family_of sets y))) (pos (greatest (family_of sets x)))
reached sets (Disjunction x y) = reach.Between
    (pos ((least (family_of sets x) + least (family_of sets y) + 1) / 2))
    (pos (min 1 (greatest (family_of sets x) + greatest (family_of sets y))))

-- a moved end, and the sum of two ends, are integers of 64 bits
abbrev pub IsSmall : ℤ → Type 0
IsSmall z = nat_abs z + INFINITY ≤ 2 ^ 63 - 1

abbrev pub IsSmallForTwo : ℤ → Type 0
IsSmallForTwo z = nat_abs z + (INFINITY + INFINITY) ≤ 2 ^ 63 - 1

-- its variables are among the first so many, and its constant is small
abbrev pub IsWithin : ℕ → Quick → Type 0
IsWithin count Other = Unit {0}
IsWithin count (Within low high) = Unit {0}
IsWithin count (Differs x z) = (x < count) × IsSmall z
IsWithin count (Above x z high) = (x < count) × IsSmall z
IsWithin count (Below x z low) = (x < count) × IsSmall z
IsWithin count (Moved x z) = (x < count) × IsSmall z
IsWithin count (Plus x y z) = (x < count) × (y < count) × IsSmallForTwo z
IsWithin count (Minus x y z) = (x < count) × (y < count) × IsSmallForTwo z
IsWithin count (Counter x v) = x < count
IsWithin count (Counted x v) = (x < count) × IsNumber v
IsWithin count (Products x y) = (x < count) × (y < count)
IsWithin count (Quotients x y) = (x < count) × (y < count)
IsWithin count (UpTo p) = IsPairingWithin count p
IsWithin count (From p) = IsPairingWithin count p
IsWithin count (MayBe p) = IsPairingWithin count p
IsWithin count (MustBe p) = IsPairingWithin count p
IsWithin count (Turned x z) = (x < count) × IsSmall z
IsWithin count (Conjunct x y) = (x < count) × (y < count)
IsWithin count (Disjunct x y) = (x < count) × (y < count)
IsWithin count (Disjunction x y) = (x < count) × (y < count)

-- wherever the range may be evaluated, the quick form may be, and reaches its set
pub record IsQuick (r : Range) (args : List Arg) (quick : Quick) : Type 0 where
  pub within : (count : ℕ) → IsArgumentFrame count r args → IsWithin count quick
  pub reach : (sets : List (List ℕ)) → IsArgumentFrame (length sets) r args → ((k : ℕ) → is_none_left (family_of sets k) ≡ false)
      → IsReach (set_of INFINITY (family_of sets) (posted r args)) (reached sets quick)

-- the interval between two parameters
abbrev pub between_parameters : ℕ → ℕ → Range
between_parameters x y = Span (Param x) (Param y)

-- the bound is a constant, an end of the set of one slot, and a number times an end of that of another
pub record IsPairOf (b : Bound) (end : End) (weight : ℤ) (other : End) (p : Pair) : Type 0 where
  pub value : (S : Family) → bound_value S b ≡ (p.constant +ℤ pos (end_of (S p.first) end)) +ℤ weight *ℤ pos (end_of (S p.second) other)
  pub width : AreNarrow (nat_abs b.constant) b.products.items → nat_abs weight ≡ 1 → IsSmallForTwo p.constant
  pub seen : (count : ℕ) (args : List Arg) → AreSeen count args b.products.items → IsSeen count args p.first × IsSeen count args p.second

-- the bound is a number less an end of the set of one slot
pub record IsLessOf (b : Bound) (end : End) (s : Shift) : Type 0 where
  pub value : (S : Family) → bound_value S b ≡ s.constant -ℤ pos (end_of (S s.slot) end)
  pub width : AreNarrow (nat_abs b.constant) b.products.items → IsSmall s.constant
  pub seen : (count : ℕ) (args : List Arg) → AreSeen count args b.products.items → IsSeen count args s.slot
