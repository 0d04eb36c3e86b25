-- The rows of a comparison keep the limit of width.
use Rattle.std.proofs.Common.{◌≡◌, ℕ, suc, ◌+◌, ◌*◌, ◌^◌, ◌≤◌, ◌<◌, Bool, true, false, cond, not, ◌&&◌, ℤ, pos, negsuc, neg_ℤ, nat_abs, nat_lt, List, [], ◌∷◌}
use Rattle.std.proofs.Common.{length, refl, ap, sym, subst, arith, Ok, mul-le-mul, mul-le-mul_left}
use Rattle.std.specs.List.{list_all}
use Rattle.std.specs.Ordering.{int_eq}
use Rattle.std.specs.Cmp.{second_so, first_so}
use Rattle.fd_model.specs.declared.kinds.Relation.{Relation}
use Rattle.fd_model.specs.declared.kinds.Relation.TheVariants.{Greater, AtLeast}
use Rattle.fd_language.specs.Term.{Term}
use Rattle.fd_model.specs.ClosedFamilies.{AllPosted}
use Rattle.fd_language.specs.Range.{Indexical}
use Rattle.fd_language.specs.RangeVerdict.{range_within}
use Rattle.fd_model.specs.Linear.{scaled, nonzero, plus, times, is_within, in_integers, are_few, Linear, linear_of, Comparison, comparison, of_both}
use Rattle.fd_model.specs.Linear.{difference_of, collect_term, collect, normal}
use Rattle.fd_model.specs.LinearRows.{Expansion, linear_rows, compares, no_number}
use Rattle.fd_model.specs.ConstraintExpansion.{compare}
use Rattle.fd_model.proofs.CollectedSums.{one_ok, both_ok, checked_ok}
use Rattle.fd_model.proofs.NormalForms.{normal_ok}
use Rattle.fd_model.proofs.LinearForms.{NoneZero}
use Rattle.fd_model.proofs.ComparisonRows.{collect_nonzero, normal_nonzero, form_of}
use Rattle.fd_model.proofs.RowWidths.{weight, AreNarrow, rows_within, turned_size}

-- integers of the language
abbrev pub AreIntegers : List (ℕ × ℤ) → Type 0
AreIntegers [] = Unit {0}
AreIntegers (t ∷ ts) = (nat_abs t.1 < 2 ^ 63) × AreIntegers ts

pub integer_size : (z : ℤ) → in_integers z ≡ true → nat_abs z < 2 ^ 63
integer_size z h = grind arith

pub nonzero_integers : (ts : List (ℕ × ℤ)) → list_all (λ t. in_integers t.1) ts ≡ true → AreIntegers (nonzero ts)
nonzero_integers [] h = tt
nonzero_integers (t ∷ ts) h = by_test (int_eq t.1 (pos 0)) t (nonzero ts) (integer_size t.1 (first_so (in_integers t.1) _ h)) (nonzero_integers ts (second_so (in_integers t.1) _ h)) where
  by_test : (c : Bool) (t : ℕ × ℤ) (us : List (ℕ × ℤ)) → nat_abs t.1 < 2 ^ 63 → AreIntegers us → AreIntegers (cond c us (t ∷ us))
  by_test true t us s h = h
  by_test false t us s h = (s, h)

integers_scaled : (ts : List (ℕ × ℤ)) → AreIntegers ts → AreIntegers (scaled (negsuc 0) ts)
integers_scaled [] h = tt
integers_scaled (t ∷ ts) h = (let e = turned_size t.1 in omega arith, integers_scaled ts h.1)

length-scaled : (k : ℤ) (ts : List (ℕ × ℤ)) → length (scaled k ts) ≡ length ts
length-scaled k [] = refl
length-scaled k (t ∷ ts) = ap suc (length-scaled k ts)

pub integers_narrow : (ts : List (ℕ × ℤ)) → AreIntegers ts → AreNarrow ts
integers_narrow [] h = tt
integers_narrow (t ∷ ts) h = (omega arith, integers_narrow ts h.1)

pub weight_most : (M : ℕ) (ts : List (ℕ × ℤ)) → AreIntegers ts → weight M ts ≤ length ts * (2 ^ 63 * M)
weight_most M [] h = omega arith
weight_most M (t ∷ ts) h = more (nat_abs t.1 * M) (2 ^ 63 * M) (weight M ts) (length ts) (mul-le-mul (below (nat_abs t.1) h.0) (same M)) (weight_most M ts h.1) where
  below : (n : ℕ) → n < 2 ^ 63 → n ≤ 2 ^ 63
  below n h = omega arith

  same : (n : ℕ) → n ≤ n
  same n = omega arith

  more : (a b c n : ℕ) → a ≤ b → c ≤ n * b → a + c ≤ suc n * b
  more a b c n h g = omega arith

-- at most 2^31 products of coefficients below 2^63
pub most : (M n : ℕ) → M < 2 ^ 28 → n ≤ 2 ^ 31 → n * (2 ^ 63 * M) ≤ 2 ^ 122
most M n h g = mul-le-mul g (mul-le-mul_left (2 ^ 63) (smaller M h)) where
  smaller : (M : ℕ) → M < 2 ^ 28 → M ≤ 2 ^ 28
  smaller M h = omega arith

few : (ts : List (ℕ × ℤ)) → are_few ts ≡ true → length (nonzero ts) ≤ 2 ^ 31
few ts h = at_most (length (nonzero ts)) h where
  at_most : (n : ℕ) → not (nat_lt (2 ^ 31) n) ≡ true → n ≤ 2 ^ 31
  at_most n h = grind arith

pub record AreRows (ts : List (ℕ × ℤ)) : Type 0 where
  pub integers : AreIntegers ts
  pub few : length ts ≤ 2 ^ 31

pub collect_sizes : (s t : Term) (l : Linear) → collect s t ≡ Ok l → AreRows l.products
collect_sizes s t l h =
    let j = one_ok linear_of (of_both difference_of (collect_term s) (collect_term t)) l h in
    let g : record { products = nonzero j.0.products; constant = neg_ℤ j.0.constant } ≡ l = cc (j.2) in
    let k = both_ok difference_of (collect_term s) (collect_term t) j.0 j.1 in
    let e = checked_ok (plus k.left (times (negsuc 0) k.right)) j.0 k.both in
    let w : is_within j.0 ≡ true = subst (λ v. is_within v ≡ true) e.0 e.1 in
    subst (λ v. AreRows v.products) g (record {
      integers = nonzero_integers j.0.products (second (in_integers j.0.constant) (list_all (λ t. in_integers t.1) j.0.products) (are_few j.0.products) w);
      few = few j.0.products (third (in_integers j.0.constant) (list_all (λ t. in_integers t.1) j.0.products) (are_few j.0.products) w);
    }) where
      second : (a b c : Bool) → (a && (b && c)) ≡ true → b ≡ true
      second a b c h = grind arith

      third : (a b c : Bool) → (a && (b && c)) ≡ true → c ≡ true
      third a b c h = grind arith

turned_rows : (ts : List (ℕ × ℤ)) → AreRows ts → AreRows (scaled (negsuc 0) ts)
turned_rows ts h = record { integers = integers_scaled ts h.integers; few = let e = length-scaled (negsuc 0) ts in let f = h.few in omega arith }

pub normal_sizes : (r : Relation) (l : Linear) → AreRows l.products → AreRows (normal r l).products
normal_sizes Greater l h = turned_rows l.products h
normal_sizes AtLeast l h = turned_rows l.products h
normal_sizes _ l h = h

module _ (M : ℕ) (small : M < 2 ^ 28) where
  pub within : M < 2 ^ 126
  within = omega arith

  abbrev pub Within : List Indexical → Type 0
  Within ps = AllPosted (λ p. range_within M p.range ≡ true) ps

  none_within : (c : Bool) (n : ℕ) → let x : Expansion = cond c (record { equated = []; ranges = []; fresh = n })
      (record { equated = []; ranges = record { target = n; range = no_number } ∷ []; fresh = suc n }) in Within x.ranges
  none_within true n = tt
  none_within false n = (refl, tt)

  pub form_within : (k : Comparison) (ts : List (ℕ × ℤ)) (c : ℤ) (n : ℕ) → NoneZero ts → AreNarrow ts → nat_abs c + weight M ts < 2 ^ 126 → Within (linear_rows k ts c n).ranges
  form_within k [] c n z a s = none_within (compares k (pos 0) c) n
  form_within k (t ∷ ts) c n z a s = rows_within M within k c [] (t ∷ ts) z tt a s

  pub compare_within : (r : Relation) (s t : Term) (n : ℕ) (x : Expansion) → compare r s t n ≡ Ok x → Within x.ranges
  compare_within r s t n x h =
      let f = form_of r s t n x h in
      let m = normal r f.linear in
      let a = normal_sizes r f.linear (collect_sizes s t f.linear f.collected) in
      let e = normal_ok r f.linear f.normal_is.0 f.normal_is.1 in
      let c : nat_abs m.constant < 2 ^ 63 = integer_size m.constant (subst (λ w. in_integers w.constant ≡ true) (sym e.0) e.1) in
      let w = weight_most M m.products a.integers in
      let v = most M (length m.products) small a.few in
      subst (λ y. Within y.ranges) f.rows (form_within (comparison r) m.products m.constant n
      (normal_nonzero r f.linear (collect_nonzero s t f.linear f.collected)) (integers_narrow m.products a.integers)
      (together (nat_abs m.constant) (weight M m.products) (length m.products * (2 ^ 63 * M)) c w v)) where
        together : (a b c : ℕ) → a < 2 ^ 63 → b ≤ c → c ≤ 2 ^ 122 → a + b < 2 ^ 126
        together a b c h g k = omega arith
