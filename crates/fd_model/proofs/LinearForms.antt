-- The rows of a linear form hold exactly where the form does.
use Rattle.std.proofs.Common.{◌≡◌, ℕ, ◌≤◌, Bool, true, false, cond, ℤ, pos, negsuc, List, [], ◌∷◌, ◌++◌, refl, ap, sym, ◌∙◌, arith}
use Rattle.std.specs.Ordering.{int_eq}
use Rattle.std.proofs.lemmas.Int.{ints}
use Rattle.fd_language.specs.Family.{has}
use Rattle.fd_language.specs.Range.{set_of, in_range}
use Rattle.fd_model.specs.Linear.{scaled, nonzero, Comparison}
use Rattle.fd_model.specs.LinearRows.{row_by_sign, rows_behind, compares, no_number}
use Rattle.fd_model.specs.Satisfaction.{Assignment, singles}
use Rattle.fd_model.specs.ConstraintLaws.{total}
use Rattle.fd_model.proofs.Integers.{turned_once}
use Rattle.fd_model.proofs.Sums.{total-append}
use Rattle.fd_model.proofs.Rows.{row_is}
use Rattle.fd_model.proofs.Singles.{set_singles, Inside}

abbrev pub NoneZero : List (ℕ × ℤ) → Type 0
NoneZero [] = Unit {0}
NoneZero (t ∷ ts) = (t.1 ≡ pos 0 → ⊥) × NoneZero ts

pub nonzero_left : (ts : List (ℕ × ℤ)) → NoneZero (nonzero ts)
nonzero_left [] = tt
nonzero_left (t ∷ ts) = by_test (int_eq t.1 (pos 0)) t (nonzero ts) (not_zero t.1) (nonzero_left ts) where
  not_zero : (z : ℤ) → int_eq z (pos 0) ≡ false → z ≡ pos 0 → ⊥
  not_zero z h e = grind (arith, ints)

  by_test : (c : Bool) (t : ℕ × ℤ) (us : List (ℕ × ℤ)) → (c ≡ false → t.1 ≡ pos 0 → ⊥) → NoneZero us → NoneZero (cond c us (t ∷ us))
  by_test true t us f h = h
  by_test false t us f h = (f refl, h)

pub nonzero_scaled : (ts : List (ℕ × ℤ)) → NoneZero ts → NoneZero (scaled (negsuc 0) ts)
nonzero_scaled [] h = tt
nonzero_scaled (t ∷ ts) h = ((λ e. h.0 (let f = turned_once t.1 in omega (arith, ints))), nonzero_scaled ts h.1)

module _ (M : ℕ) (b : Assignment) (small : (v : ℕ) → b v ≤ M) where
  pub one_row : (k : Comparison) (c : ℤ) (before ts : List (ℕ × ℤ)) (t : ℕ × ℤ) → (t.1 ≡ pos 0 → ⊥)
      → has (set_of M (singles b) (row_by_sign k c (before ++ ts) t.1)) (b t.0) ≡ compares k (total b (before ++ t ∷ ts)) c
  one_row k c before ts t f =
      set_singles M b (row_by_sign k c (before ++ ts) t.1) (b t.0) (small t.0)
      ∙ (row_is M b k c (before ++ ts) t.1 (b t.0) f (small t.0)
      ∙ ap (λ s. compares k s c) (let e = total-append b before ts in let g = total-append b before (t ∷ ts) in omega (arith, ints)))

  pub rows_inside : (k : Comparison) (c : ℤ) (before ts : List (ℕ × ℤ)) → NoneZero ts → compares k (total b (before ++ ts)) c ≡ true → Inside M b (rows_behind k c before ts)
  rows_inside k c before [] n h = tt
  rows_inside k c before (t ∷ ts) n h = (
    one_row k c before ts t n.0 ∙ h,
    rows_inside k c (before ++ t ∷ []) ts n.1 (ap (λ s. compares k s c) (moved before ts t) ∙ h),
  ) where
    moved : (before ts : List (ℕ × ℤ)) (t : ℕ × ℤ) → total b ((before ++ t ∷ []) ++ ts) ≡ total b (before ++ t ∷ ts)
    moved before ts t = let e = total-append b (before ++ t ∷ []) ts in let f = total-append b before (t ∷ []) in let g = total-append b before (t ∷ ts) in omega (arith, ints)

  pub rows_back : (k : Comparison) (c : ℤ) (t : ℕ × ℤ) (ts : List (ℕ × ℤ)) → NoneZero (t ∷ ts) → Inside M b (rows_behind k c [] (t ∷ ts)) → compares k (total b (t ∷ ts)) c ≡ true
  rows_back k c t ts n h = sym (one_row k c [] ts t n.0) ∙ h.0

  pub nothing_inside : (n : ℕ) → has (set_of M (singles b) no_number) (b n) ≡ true → ⊥
  nothing_inside n h = none (b n) (sym (set_singles M b no_number (b n) (small n)) ∙ h) where
    none : (k : ℕ) → in_range M (singles b) no_number k ≡ true → ⊥
    none k h = grind (arith, ints)
