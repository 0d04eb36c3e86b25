-- Sums of a constant and one product or two, with the variables in hand.
use Rattle.std.specs.Prelude.{◌≡◌, ℕ, suc, ◌+◌, ◌*◌, ◌-◌, ◌^◌, ◌<◌, ◌≤◌, ℤ, pos, negsuc, ◌+ℤ◌, ◌*ℤ◌, nat_abs, List}
use Rattle.fd_language.specs.declared.TheConstants.{INFINITY}
use Rattle.fd_language.specs.Family.{Family}
use Rattle.range_code.specs.declared.frame.Arg.{Arg}
use Rattle.range_code.specs.declared.form.End.{End}
use Rattle.range_code.specs.declared.form.Product.{Product}
use Rattle.range_code.specs.declared.told_forms.Weighted.{Weighted}
use Rattle.range_code.specs.declared.told_forms.Pairing.{Pairing}
use Rattle.range_code.specs.Frames.{slot_variable, slot_set, family_of}
use Rattle.range_code.specs.Forms.{end_of, other_end, sum_of, AreSeen}

-- the end at which a product with the integer is greatest, or least
abbrev pub end_toward : End → ℤ → End
end_toward e (pos n) = e
end_toward e (negsuc n) = other_end e

-- the greatest that the product may be over the sets, or the least
abbrev pub extreme : Family → End → Weighted → ℤ
extreme S e w = w.weight *ℤ pos (end_of (S w.variable) (end_toward e w.weight))

-- the same of the sum
abbrev pub extreme_sum : Family → End → Pairing → ℤ
extreme_sum S e p = (p.constant +ℤ extreme S e p.one) +ℤ extreme S e p.other

-- how far from 0 the sum may be
abbrev pub width_of_pairing : Pairing → ℕ
width_of_pairing p = nat_abs p.constant + nat_abs p.one.weight * INFINITY + nat_abs p.other.weight * INFINITY

-- the first integer that the sum can't reach
abbrev pub far_of : Pairing → ℤ
far_of p = pos (suc (width_of_pairing p))

-- its variables are among the first so many, and the sum is an integer of 64 bits
pub record IsPairingWithin (count : ℕ) (p : Pairing) : Type 0 where
  pub one : p.one.variable < count
  pub other : p.other.variable < count
  pub width : width_of_pairing p ≤ 2 ^ 63 - 1

-- the product, with the variable of its slot, reads the end at which it is greatest, or least
pub record IsWeighted (m : Product) (toward : End) (args : List Arg) (w : Weighted) : Type 0 where
  pub weight : m.weight ≡ w.weight
  pub variable : slot_variable args m.slot ≡ w.variable
  pub end : m.end ≡ end_toward toward m.weight

-- the sum of the constant and the products, with the variables of their slots, is the greatest of the pairing's, or the least
pub record IsPairingOf (ms : List Product) (constant : ℤ) (toward : End) (args : List Arg) (p : Pairing) : Type 0 where
  pub constant_is : p.constant ≡ constant
  pub value : (sets : List (List ℕ)) (z : ℤ) → z +ℤ sum_of (slot_set sets args) ms
      ≡ (z +ℤ extreme (family_of sets) toward p.one) +ℤ extreme (family_of sets) toward p.other
  pub within : (count : ℕ) → AreSeen count args ms → (p.one.variable < count) × (p.other.variable < count)
