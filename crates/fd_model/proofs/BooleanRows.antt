-- The ranges of products and of Boolean constraints where each variable has its one value.
use Rattle.std.proofs.Common.{◌≡◌, ℕ, zero, suc, ◌+◌, ◌*◌, ◌≤◌, max, Bool, true, ◌&&◌, ℤ, pos, ◌+ℤ◌, ◌-ℤ◌, int_le, sym, ◌∙◌, arith}
use Rattle.std.specs.Ordering.{int_eq}
use Rattle.std.proofs.lemmas.Int.{ints}
use Rattle.fd_language.specs.Range.{Range, set_of, in_range, div_down, div_up}
use Rattle.fd_language.specs.Family.{has}
use Rattle.fd_model.specs.Satisfaction.{Assignment, singles}
use Rattle.fd_model.specs.ProductRows.{product, quotient, product_ranges}
use Rattle.fd_model.specs.BooleanRows.{bit, and_ranges, or_ranges, not_ranges, conjunct, disjunction, disjunct, negation}
use Rattle.fd_model.proofs.Rows.{span_test, up_test}
use Rattle.fd_model.proofs.Singles.{set_singles, Inside}

-- a product of numbers, and its quotients
between : (a n : ℕ) → n ≡ a → (int_le (pos a) (pos n) && int_le (pos n) (pos a)) ≡ true
between a n h = grind (arith, ints)

pub from_between : (a n : ℕ) → (int_le (pos a) (pos n) && int_le (pos n) (pos a)) ≡ true → n ≡ a
from_between a n h = grind (arith, ints)

up_to_some : (m x : ℕ) → x ≤ m → (int_le (pos 0) (pos x) && int_le (pos x) (pos m)) ≡ true
up_to_some m x h = grind (arith, ints)

equal_test : (a b : ℕ) → a ≡ b → int_eq (pos a) (pos b) ≡ true
equal_test a b h = grind (arith, ints)

quotient_test : (M x y z : ℕ) → x ≤ M → z ≡ x * y → (int_le (div_up M (pos z) (pos y)) (pos x) && int_le (pos x) (div_down M (pos z) (pos y))) ≡ true
quotient_test M x zero zero l h = up_to_some (max 0 M) x (omega arith)
quotient_test M x zero (suc z) l h = absurd (omega arith)
quotient_test M x (suc k) z l h = span_test (pos z) x k ∙ equal_test (suc k * x) z (turned x k z h) where
  turned : (x k z : ℕ) → z ≡ x * suc k → suc k * x ≡ z
  turned x k z h = grind arith

-- x and y are 0 or 1, and z is 1 where both are 1
pub record IsAnd (x y z : ℕ) : Type 0 where
  pub left : x ≤ 1
  pub right : y ≤ 1
  pub at_left : z ≤ x
  pub at_right : z ≤ y
  pub both : x + y ≤ suc z

-- and where one is 1
pub record IsOr (x y z : ℕ) : Type 0 where
  pub left : x ≤ 1
  pub right : y ≤ 1
  pub told : z ≤ 1
  pub from_left : x ≤ z
  pub from_right : y ≤ z
  pub either : z ≤ x + y

and_product : (x y z : ℕ) → IsAnd x y z → z ≡ x * y
and_product zero y z h = let e = h.at_left in omega arith
and_product (suc zero) y z h = let e = h.at_right in let f = h.both in omega arith
and_product (suc (suc x)) y z h = absurd (let e = h.left in omega arith)

product_and : (x y z : ℕ) → x ≤ 1 → y ≤ 1 → z ≡ x * y → IsAnd x y z
product_and zero y z l r h = record { left = l; right = r; at_left = omega arith; at_right = omega arith; both = omega arith }
product_and (suc zero) y z l r h = record { left = l; right = r; at_left = omega arith; at_right = omega arith; both = omega arith }
product_and (suc (suc x)) y z l r h = absurd (omega arith)

bit_test : (x : ℕ) → x ≤ 1 → (int_le (pos 0) (pos x) && int_le (pos x) (pos 1)) ≡ true
bit_test x h = grind (arith, ints)

from_bit : (x : ℕ) → (int_le (pos 0) (pos x) && int_le (pos x) (pos 1)) ≡ true → x ≤ 1
from_bit x h = grind (arith, ints)

-- x by the others, in each of the rows
and_test : (x y z : ℕ) → z ≤ x → x + y ≤ suc z → (int_le (pos z) (pos x) && int_le (pos x) ((pos z +ℤ pos 1) -ℤ pos y)) ≡ true
and_test x y z h g = grind (arith, ints)

or_test : (x y z : ℕ) → x ≤ z → z ≤ x + y → (int_le (pos z -ℤ pos y) (pos x) && int_le (pos x) (pos z)) ≡ true
or_test x y z h g = grind (arith, ints)

from_or : (x y z : ℕ) → (int_le (pos z -ℤ pos y) (pos x) && int_le (pos x) (pos z)) ≡ true → x ≤ z
from_or x y z h = grind (arith, ints)

not_test : (x y : ℕ) → x + y ≡ 1 → (int_le (pos 1 -ℤ pos y) (pos x) && int_le (pos x) (pos 1 -ℤ pos y)) ≡ true
not_test x y h = grind (arith, ints)

from_not : (x y : ℕ) → (int_le (pos 1 -ℤ pos y) (pos x) && int_le (pos x) (pos 1 -ℤ pos y)) ≡ true → x + y ≡ 1
from_not x y h = grind (arith, ints)

disjunction_test : (M x y z : ℕ) → IsOr x y z
    → ((int_le (div_up M (pos x +ℤ pos y) (pos 2)) (pos z) && int_le (pos z) (pos x +ℤ pos y)) && (int_le (pos 0) (pos z) && int_le (pos z) (pos 1))) ≡ true
disjunction_test M x y z h = all (int_le (div_up M (pos x +ℤ pos y) (pos 2)) (pos z)) z (pos x +ℤ pos y)
    (up_test (pos x +ℤ pos y) z 1 ∙ half x y z h.from_left h.from_right) (sum x y z h.either) h.told where
      half : (x y z : ℕ) → x ≤ z → y ≤ z → int_le (pos x +ℤ pos y) (pos (2 * z)) ≡ true
      half x y z h g = grind (arith, ints)

      sum : (x y z : ℕ) → z ≤ x + y → int_le (pos z) (pos x +ℤ pos y) ≡ true
      sum x y z h = grind (arith, ints)

      all : (p : Bool) (z : ℕ) (s : ℤ) → p ≡ true → int_le (pos z) s ≡ true → z ≤ 1 → ((p && int_le (pos z) s) && (int_le (pos 0) (pos z) && int_le (pos z) (pos 1))) ≡ true
      all p z s h g l = rw (h, g) (bit_test z l)

from_disjunction : (p : Bool) (x y z : ℕ) → ((p && int_le (pos z) (pos x +ℤ pos y)) && (int_le (pos 0) (pos z) && int_le (pos z) (pos 1))) ≡ true → (z ≤ x + y) × (z ≤ 1)
from_disjunction p x y z h = (first p x y z h, second p x y z h) where
  first : (p : Bool) (x y z : ℕ) → ((p && int_le (pos z) (pos x +ℤ pos y)) && (int_le (pos 0) (pos z) && int_le (pos z) (pos 1))) ≡ true → z ≤ x + y
  first p x y z h = grind (arith, ints)

  second : (p : Bool) (x y z : ℕ) → ((p && int_le (pos z) (pos x +ℤ pos y)) && (int_le (pos 0) (pos z) && int_le (pos z) (pos 1))) ≡ true → z ≤ 1
  second p x y z h = grind (arith, ints)

module _ (M : ℕ) (b : Assignment) (small : (v : ℕ) → b v ≤ M) where
  pub at : (r : Range) (x : ℕ) → has (set_of M (singles b) r) (b x) ≡ in_range M (singles b) r (b x)
  at r x = set_singles M b r (b x) (small x)

  pub product_inside : (x y z : ℕ) → b z ≡ b x * b y → Inside M b (product_ranges x y z)
  product_inside x y z h = (
    at (product x y) z ∙ between (b x * b y) (b z) h,
    (
      at (quotient z y) x ∙ quotient_test M (b x) (b y) (b z) (small x) h,
      (at (quotient z x) y ∙ quotient_test M (b y) (b x) (b z) (small y) (exchanged (b x) (b y) (b z) h), tt),
    ),
  ) where
    exchanged : (x y z : ℕ) → z ≡ x * y → z ≡ y * x
    exchanged x y z h = grind arith

  pub inside_product : (x y z : ℕ) → Inside M b (product_ranges x y z) → b z ≡ b x * b y
  inside_product x y z h = from_between (b x * b y) (b z) (sym (at (product x y) z) ∙ h.0)

  pub bit_inside : (x : ℕ) → b x ≤ 1 → has (set_of M (singles b) (bit x).range) (b x) ≡ true
  bit_inside x h = at (bit x).range x ∙ bit_test (b x) h

  pub inside_bit : (x : ℕ) → has (set_of M (singles b) (bit x).range) (b x) ≡ true → b x ≤ 1
  inside_bit x h = from_bit (b x) (sym (at (bit x).range x) ∙ h)

  pub and_inside : (x y z : ℕ) → IsAnd (b x) (b y) (b z) → Inside M b (and_ranges x y z)
  and_inside x y z h = (
    bit_inside x h.left,
    (
      bit_inside y h.right,
      (
        at (product x y) z ∙ between (b x * b y) (b z) (and_product (b x) (b y) (b z) h),
        (at (conjunct z y) x ∙ and_test (b x) (b y) (b z) h.at_left h.both, (at (conjunct z x) y ∙ and_test (b y) (b x) (b z) h.at_right (let e = h.both in omega arith), tt)),
      ),
    ),
  )

  pub inside_and : (x y z : ℕ) → Inside M b (and_ranges x y z) → IsAnd (b x) (b y) (b z)
  inside_and x y z h = product_and (b x) (b y) (b z) (inside_bit x h.0) (inside_bit y h.1.0) (from_between (b x * b y) (b z) (sym (at (product x y) z) ∙ h.1.1.0))

  pub or_inside : (x y z : ℕ) → IsOr (b x) (b y) (b z) → Inside M b (or_ranges x y z)
  or_inside x y z h = (
    bit_inside x h.left,
    (
      bit_inside y h.right,
      (
        at (disjunction x y) z ∙ disjunction_test M (b x) (b y) (b z) h,
        (at (disjunct z y) x ∙ or_test (b x) (b y) (b z) h.from_left h.either, (at (disjunct z x) y ∙ or_test (b y) (b x) (b z) h.from_right (let e = h.either in omega arith), tt)),
      ),
    ),
  )

  pub inside_or : (x y z : ℕ) → Inside M b (or_ranges x y z) → IsOr (b x) (b y) (b z)
  inside_or x y z h =
      let d = from_disjunction _ (b x) (b y) (b z) (sym (at (disjunction x y) z) ∙ h.1.1.0) in
      record {
        left = inside_bit x h.0;
        right = inside_bit y h.1.0;
        told = d.1;
        from_left = from_or (b x) (b y) (b z) (sym (at (disjunct z y) x) ∙ h.1.1.1.0);
        from_right = from_or (b y) (b x) (b z) (sym (at (disjunct z x) y) ∙ h.1.1.1.1.0);
        either = d.0;
      }

  pub not_inside : (x y : ℕ) → b x + b y ≡ 1 → Inside M b (not_ranges x y)
  not_inside x y h = (at (negation y) x ∙ not_test (b x) (b y) h, (at (negation x) y ∙ not_test (b y) (b x) (omega arith), tt))

  pub inside_not : (x y : ℕ) → Inside M b (not_ranges x y) → b x + b y ≡ 1
  inside_not x y h = from_not (b x) (b y) (sym (at (negation y) x) ∙ h.0)
