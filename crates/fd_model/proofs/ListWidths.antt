-- The rows of the constraints on lists keep the limit of width, and all rows are accepted.
use Rattle.std.proofs.Common.{◌≡◌, ℕ, suc, ◌+◌, ◌*◌, ◌^◌, ◌≤◌, ◌<◌, true, not, ◌||◌, ℤ, pos, nat_abs, nat_lt, List, [], ◌∷◌, ◌++◌, length, refl, ap, sym, ◌∙◌}
use Rattle.std.proofs.Common.{subst, arith, Ok, Err, mul-le-mul}
use Rattle.std.proofs.lemmas.Bool.{and_from}
use Rattle.std.specs.Str.{bytes_eq}
use Rattle.std.specs.Prelude.{codes}
use Rattle.fd_model.specs.declared.kinds.ConstraintKind.{ConstraintKind}
use Rattle.fd_model.specs.declared.kinds.ConstraintKind.TheVariants.{Compare, AllDifferent, Element, Atmost}
use Rattle.fd_language.specs.Term.{Term, Terms, Int, Atom, Comp, no_terms, term}
use Rattle.fd_language.specs.Range.{Range, Union, Indexical}
use Rattle.fd_model.specs.ClosedFamilies.{AllPosted}
use Rattle.fd_language.specs.RangeVerdict.{over_limit, factor_over_limit, range_within, is_accepted}
use Rattle.fd_model.specs.Linear.{IsAtMost}
use Rattle.fd_model.specs.LinearRows.{Expansion, linear_rows}
use Rattle.fd_model.specs.Members.{Member, as_member, as_integer, prepend, walk, after, placed}
use Rattle.fd_model.specs.ListRows.{against, pairwise, different_ranges, different_rows, where_is, union_onto, union_of, elements_at, index_ranges}
use Rattle.fd_model.specs.ListRows.{element_ranges, counted, counts, units}
use Rattle.fd_model.specs.ConstraintExpansion.{basic, all_different}
use Rattle.fd_model.specs.ConstraintLaws.{HasIntegers, HaveIntegers, HasShortLists, cells}
use Rattle.fd_model.proofs.CollectedSums.{one_ok, both_ok, test_ok}
use Rattle.fd_model.proofs.ElementRows.{element_ok}
use Rattle.fd_model.proofs.Counters.{atmost_ok, units_nonzero}
use Rattle.fd_model.proofs.RowWidths.{under, weight, AreNarrow}
use Rattle.fd_model.proofs.CompareWidths.{Within, form_within, compare_within}
use Rattle.fd_model.proofs.RowDirections.{Fitting}

-- integers far below the limit
abbrev pub AllSmall : List ℤ → Type 0
AllSmall [] = Unit {0}
AllSmall (z ∷ zs) = (nat_abs z < 2 ^ 66) × AllSmall zs

module _ (M : ℕ) (small : M < 2 ^ 28) where
  pub limit : not (over_limit M) ≡ true
  limit = under M (omega arith)

  pub append_within : (ps qs : List Indexical) → Within M small ps → Within M small qs → Within M small (ps ++ qs)
  append_within [] qs h g = g
  append_within (p ∷ ps) qs h g = (h.0, append_within ps qs h.1 g)

  against_within : (x : ℕ) (ys : List ℕ) → Within M small (against x ys)
  against_within x [] = tt
  against_within x (y ∷ ys) = (limit, (limit, against_within x ys))

  pairs_within : (xs : List ℕ) → Within M small (pairwise xs)
  pairs_within [] = tt
  pairs_within (x ∷ xs) = append_within (against x xs) (pairwise xs) (against_within x xs) (pairs_within xs)

  different_within : (xs : List ℕ) → Within M small (different_ranges xs)
  different_within [] = tt
  different_within (x ∷ []) = (and_from _ _ refl limit, tt)
  different_within (x ∷ y ∷ ys) = pairs_within (x ∷ y ∷ ys)

  zero_factor : not (factor_over_limit M 0) ≡ true
  zero_factor = none (M * 0) (omega arith) where
    none : (n : ℕ) → n ≡ 0 → not (over_limit n || nat_lt (2 ^ 98) 0) ≡ true
    none n h = grind arith

  where_within : (a : ℤ) (y : ℕ) (b : ℤ) → nat_abs a < 2 ^ 66 → nat_abs b < 2 ^ 66 → range_within M (where_is a y b) ≡ true
  where_within a y b h g =
      and_from _ _ (and_from _ _ (and_from _ _ (and_from _ _ (and_from _ _ (under (nat_abs a) (omega arith)) refl) refl) zero_factor)
      (under (nat_abs b) (omega arith))) (under (M + nat_abs b) (omega arith))

  abbrev EachWithin : List Range → Type 0
  EachWithin [] = Unit {0}
  EachWithin (r ∷ rs) = (range_within M r ≡ true) × EachWithin rs

  joined_within : (r : Range) (qs : List Range) → range_within M r ≡ true → EachWithin qs → range_within M (union_onto r qs) ≡ true
  joined_within r [] h g = h
  joined_within r (q ∷ qs) h g = joined_within (Union r q) qs (and_from _ _ h g.0) g.1

  union_within : (rs : List Range) → EachWithin rs → range_within M (union_of rs) ≡ true
  union_within [] h = refl
  union_within (r ∷ rs) h = joined_within r rs h.0 h.1

  elements_within : (i k : ℕ) (zs : List ℤ) → AllSmall zs → k + length zs < 2 ^ 66 → EachWithin (elements_at i k zs)
  elements_within i k [] s l = tt
  elements_within i k (z ∷ zs) s l = (where_within (pos k) i z (omega arith) s.0, elements_within i (suc k) zs s.1 (omega arith))

  numbers_within : (x k : ℕ) (zs : List ℤ) → AllSmall zs → k + length zs < 2 ^ 66 → EachWithin (index_ranges x k zs)
  numbers_within x k [] s l = tt
  numbers_within x k (z ∷ zs) s l = (where_within z x (pos k) s.0 (omega arith), numbers_within x (suc k) zs s.1 (omega arith))

  -- the rows of an element of small integers
  pub element_within : (i x : ℕ) (zs : List ℤ) → AllSmall zs → length zs ≤ 2 ^ 64 → Within M small (element_ranges i zs x)
  element_within i x zs s l =
      (union_within (elements_at i 1 zs) (elements_within i 1 zs s (omega arith)), (union_within (index_ranges x 1 zs) (numbers_within x 1 zs s (omega arith)), tt))

  square : (M + 1) * (M + 1) ≤ 2 ^ 28 * 2 ^ 28
  square = mul-le-mul at_most at_most where
    at_most : M + 1 ≤ 2 ^ 28
    at_most = omega arith

  times_beyond : M * (M + 1) ≤ 2 ^ 28 * 2 ^ 28
  times_beyond = mul-le-mul less at_most where
    less : M ≤ 2 ^ 28
    less = omega arith

    at_most : M + 1 ≤ 2 ^ 28
    at_most = omega arith

  counted_within : (v : ℤ) (x c : ℕ) → nat_abs v < 2 ^ 66 → range_within M (counted v x c).range ≡ true
  counted_within v x c h =
      let q = square in
      let t = times_beyond in
      let e1 : not (over_limit (nat_abs v)) ≡ true = under (nat_abs v) (omega arith) in
      let e2 : not (over_limit (nat_abs v + 1)) ≡ true = under (nat_abs v + 1) (omega arith) in
      let e3 : not (over_limit (M + 1)) ≡ true = under (M + 1) (omega arith) in
      let e4 : not (over_limit ((M + 1) * (M + 1))) ≡ true = under ((M + 1) * (M + 1)) (omega arith) in
      let e5 : not (over_limit (nat_abs v + (M + 1) * (M + 1))) ≡ true = under (nat_abs v + (M + 1) * (M + 1)) (omega arith) in
      let e6 : not (over_limit (M * (M + 1))) ≡ true = under (M * (M + 1)) (omega arith) in
      let e7 : not (over_limit (nat_abs v + 1 + M * (M + 1))) ≡ true = under (nat_abs v + 1 + M * (M + 1)) (omega arith) in
      rw (e1, e2, e3, e4, e5, e6, e7, limit) refl

  counts_within : (v : ℤ) (xs : List ℕ) (m : ℕ) → nat_abs v < 2 ^ 66 → Within M small (counts v xs m)
  counts_within v [] m h = tt
  counts_within v (x ∷ xs) m h = (
    and_from _ _ (where_within v x (pos 1) h (omega arith)) (and_from _ _ (and_from _ _ (and_from _ _ (under (nat_abs v) (omega arith)) refl) refl) zero_factor),
    (counted_within v x m h, counts_within v xs (suc m) h),
  )

  -- the counters have the coefficient 1
  units_narrow : (xs : List ℕ) (m : ℕ) → AreNarrow (units xs m)
  units_narrow [] m = tt
  units_narrow (x ∷ xs) m = (one, units_narrow xs (suc m)) where
    one : 1 < 2 ^ 126
    one = omega arith

  units_weight : (xs : List ℕ) (m : ℕ) → weight M (units xs m) ≡ length xs * M
  units_weight [] m = omega arith
  units_weight (x ∷ xs) m = let e = units_weight xs (suc m) in omega arith

  -- and the row of their sum
  pub sum_within : (xs : List ℕ) (z : ℤ) (m n : ℕ) → length xs ≤ 2 ^ 64 → nat_abs z ≤ 2 ^ 63 → Within M small (linear_rows IsAtMost (units xs m) z n).ranges
  sum_within xs z m n l h =
      form_within M small IsAtMost (units xs m) z n (units_nonzero xs m) (units_narrow xs m)
      (together (nat_abs z) (weight M (units xs m)) (length xs * M) h (units_weight xs m) (most (length xs) l)) where
        most : (k : ℕ) → k ≤ 2 ^ 64 → k * M ≤ 2 ^ 64 * 2 ^ 28
        most k l = mul-le-mul l less where
          less : M ≤ 2 ^ 28
          less = omega arith

        together : (a b c : ℕ) → a ≤ 2 ^ 63 → b ≡ c → c ≤ 2 ^ 64 * 2 ^ 28 → a + b < 2 ^ 126
        together a b c h e g = omega arith

-- the integers that are read
integer_small : (t : Term) (z : ℤ) → HasIntegers t → as_integer t ≡ Ok z → nat_abs z < 2 ^ 63
integer_small (Int y) z i h = let e : y ≡ z = cc in subst (λ w. nat_abs w < 2 ^ 63) e i
integer_small _ z i h = absurd (cc)

-- the elements of a list of integers, and how many there are
record AreElements (t : Term) (zs : List ℤ) : Type 0 where
  pub all_small : AllSmall zs
  pub count : length zs ≡ cells t

elements_small : (t : Term) (zs : List ℤ) → HasIntegers t → walk as_integer t ≡ Ok zs → AreElements t zs
elements_small (Atom f) zs i h =
    test_ok (bytes_eq f (codes "[]")) (Ok []) (Err _) zs (AreElements (Atom f) zs) h (λ c e. let k : [] ≡ zs = cc in
    subst (AreElements (Atom f)) k (record { all_small = tt; count = refl })) (λ c e. absurd (cc))
elements_small (Comp f (term x (term t no_terms))) zs i h =
    test_ok (bytes_eq f (codes ".")) _ (Err _) zs (AreElements (Comp f (term x (term t no_terms))) zs) h
    (λ c e.
    let k = both_ok prepend (as_integer x) (walk as_integer t) zs e in
    let j = elements_small t k.right i.1.0 k.from_right in
    let g : k.left ∷ k.right ≡ zs = cc (k.both) in
    let s = integer_small x k.left i.0 k.from_left in
    subst (AreElements (Comp f (term x (term t no_terms)))) g (record { all_small = (omega arith, j.all_small); count = ap suc j.count }))
    (λ c e. absurd (cc))
elements_small _ zs i h = absurd (cc)

pub members_count : (t : Term) (ms : List Member) → walk as_member t ≡ Ok ms → length ms ≡ cells t
members_count (Atom f) ms h = test_ok (bytes_eq f (codes "[]")) (Ok []) (Err _) ms (length ms ≡ 0) h (λ c e. let k : [] ≡ ms = cc in ap length (sym k)) (λ c e. absurd (cc))
members_count (Comp f (term x (term t no_terms))) ms h =
    test_ok (bytes_eq f (codes ".")) _ (Err _) ms (length ms ≡ suc (cells t)) h
    (λ c e.
    let k = both_ok prepend (as_member x) (walk as_member t) ms e in
    let g : k.left ∷ k.right ≡ ms = cc (k.both) in
    ap length (sym g) ∙ ap suc (members_count t k.right k.from_right))
    (λ c e. absurd (cc))
members_count _ ms h = absurd (cc)

length-placed : (ms : List Member) (n : ℕ) → length (placed n ms) ≡ length ms
length-placed [] n = refl
length-placed (m ∷ ms) n = ap suc (length-placed ms (after n m))

module _ (M : ℕ) (small : M < 2 ^ 28) where
  all_different_within : (l : Term) (n : ℕ) (x : Expansion) → all_different l n ≡ Ok x → Within M small x.ranges
  all_different_within l n x h =
      let k = one_ok (λ ms. Ok (different_rows ms n)) (walk as_member l) x h in
      let e : different_rows k.0 n ≡ x = cc (k.2) in
      subst (λ y. Within M small y.ranges) e (different_within M small (placed n k.0))

  pub basic_within : (kind : ConstraintKind) (ts : Terms) (n : ℕ) (x : Expansion) → HaveIntegers ts → HasShortLists kind ts → basic kind ts n ≡ Ok x → Within M small x.ranges
  basic_within (Compare r) (term a (term b no_terms)) n x i s h = compare_within M small r a b n x h
  basic_within AllDifferent (term l no_terms) n x i s h = all_different_within l n x h
  basic_within Element (term a (term l (term v no_terms))) n x i s h =
      let k = element_ok a l v n x h in
      let e = elements_small l k.elements i.1.0 k.from_list in
      subst (λ y. Within M small y.ranges) k.rows (element_within M small _ _ k.elements e.all_small (let f = e.count in omega arith))
  basic_within Atmost (term m (term l (term v no_terms))) n x i s h =
      let k = atmost_ok m l v n x h in
      let xs = placed n k.members in
      let c = members_count l k.members k.from_list in
      let d = length-placed k.members n in
      let u = integer_small m k.limit i.0 k.from_limit in
      let w = integer_small v k.value i.1.1.0 k.from_value in
      subst (λ y. Within M small y.ranges) k.rows
      (append_within M small (counts k.value xs _) _ (counts_within M small k.value xs _ (omega arith)) (sum_within M small xs k.limit _ _ (omega arith) (omega arith)))
  basic_within _ _ n x i s h = absurd (cc)

  -- rows that fit the table and the width are accepted
  pub all_accepted : (ps : List Indexical) → Fitting M ps → Within M small ps → AllPosted (λ p. is_accepted M p.range ≡ true) ps
  all_accepted [] f w = tt
  all_accepted (p ∷ ps) f w = (let a = f.0.fits in let b = f.0.params in let c = w.0 in rw (c, a, b) refl, all_accepted ps f.1 w.1)
