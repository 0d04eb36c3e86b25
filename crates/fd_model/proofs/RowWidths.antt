-- The linear rows keep the limit of width.
use Rattle.std.proofs.Common.{◌≡◌, ℕ, zero, suc, ◌+◌, ◌*◌, ◌^◌, ◌≤◌, ◌<◌, max, Bool, true, false, cond, not, ◌==◌, ℤ, pos, negsuc, ◌+ℤ◌, ◌*ℤ◌, neg_ℤ, nat_abs}
use Rattle.std.proofs.Common.{List, [], ◌∷◌, ◌++◌, refl, ap, arith, mul-le-mul}
use Rattle.std.proofs.lemmas.Bool.{and_from}
use Rattle.std.specs.Ordering.{int_eq}
use Rattle.std.proofs.lemmas.Int.{ints}
use Rattle.fd_language.proofs.Lemmas.{abs_add}
use Rattle.fd_language.specs.Range.{Expr, Number, Min, Max, Val, Sub, Mul, DivDown, DivUp}
use Rattle.fd_model.specs.ClosedFamilies.{AllPosted}
use Rattle.fd_language.specs.RangeVerdict.{bound, over_limit, expr_within, range_within}
use Rattle.fd_model.specs.Linear.{with_product, scaled, nonzero, Comparison, IsEqual, IsOther, IsAtMost}
use Rattle.fd_model.specs.LinearRows.{by_sign, minus_products, low, high, exact, row, row_by_sign, rows_behind}
use Rattle.fd_model.proofs.Integers.{turned_once}
use Rattle.fd_model.proofs.LinearForms.{NoneZero}

pub under : (n : ℕ) → n < 2 ^ 126 → not (over_limit n) ≡ true
under n h = grind arith

-- the greatest magnitude of the products together
abbrev pub weight : ℕ → List (ℕ × ℤ) → ℕ
weight M [] = 0
weight M (t ∷ ts) = nat_abs t.1 * M + weight M ts

-- adding up
weight_one : (M : ℕ) (c : Bool) (x y : ℕ) (z a : ℤ) (ts us : List (ℕ × ℤ)) → weight M us ≤ nat_abs a * M + weight M ts
    → weight M (cond c ((x, z +ℤ a) ∷ ts) ((y, z) ∷ us)) ≤ nat_abs a * M + (nat_abs z * M + weight M ts)
weight_one M true x y z a ts us h = more (nat_abs (z +ℤ a)) (nat_abs z) (nat_abs a) (weight M ts) (abs_add z a) where
  more : (p q r w : ℕ) → p ≤ q + r → p * M + w ≤ r * M + (q * M + w)
  more p q r w h = let e = mul-le-mul h (same M) in omega arith where
    same : (n : ℕ) → n ≤ n
    same n = omega arith
weight_one M false x y z a ts us h = omega arith

pub weight_product : (M : ℕ) (ts : List (ℕ × ℤ)) (x : ℕ) (a : ℤ) → weight M (with_product ts x a) ≤ nat_abs a * M + weight M ts
weight_product M [] x a = omega arith
weight_product M (t ∷ ts) x a = weight_one M (t.0 == x) x t.0 t.1 a ts (with_product ts x a) (weight_product M ts x a)

pub weight_nonzero : (M : ℕ) (ts : List (ℕ × ℤ)) → weight M (nonzero ts) ≤ weight M ts
weight_nonzero M [] = omega arith
weight_nonzero M (t ∷ ts) = by_test (int_eq t.1 (pos 0)) (weight_nonzero M ts) where
  by_test : (c : Bool) → weight M (nonzero ts) ≤ weight M ts → weight M (cond c (nonzero ts) (t ∷ nonzero ts)) ≤ nat_abs t.1 * M + weight M ts
  by_test true h = omega arith
  by_test false h = omega arith

abbrev pub AreNarrow : List (ℕ × ℤ) → Type 0
AreNarrow [] = Unit {0}
AreNarrow (t ∷ ts) = (nat_abs t.1 < 2 ^ 126) × AreNarrow ts

pub weight-append : (M : ℕ) (ts us : List (ℕ × ℤ)) → weight M (ts ++ us) ≡ weight M ts + weight M us
weight-append M [] us = omega arith
weight-append M (t ∷ ts) us = let e = weight-append M ts us in omega arith

narrow_append : (ts us : List (ℕ × ℤ)) → AreNarrow ts → AreNarrow us → AreNarrow (ts ++ us)
narrow_append [] us h g = g
narrow_append (t ∷ ts) us h g = (h.0, narrow_append ts us h.1 g)

pub turned_size : (z : ℤ) → nat_abs (negsuc 0 *ℤ z) ≡ nat_abs z
turned_size z = let e = turned_once z in omega (arith, ints)

pub weight-scaled : (M : ℕ) (ts : List (ℕ × ℤ)) → weight M (scaled (negsuc 0) ts) ≡ weight M ts
weight-scaled M [] = refl
weight-scaled M (t ∷ ts) = let e = ap (λ n. n * M) (turned_size t.1) in let f = weight-scaled M ts in omega arith

narrow_scaled : (ts : List (ℕ × ℤ)) → AreNarrow ts → AreNarrow (scaled (negsuc 0) ts)
narrow_scaled [] h = tt
narrow_scaled (t ∷ ts) h = (let e = turned_size t.1 in omega arith, narrow_scaled ts h.1)

module _ (M : ℕ) (m : M < 2 ^ 126) where
  abbrev pub AreWithin : (ℕ → Expr) → Type 0
  AreWithin f = (x : ℕ) → (expr_within M (f x) ≡ true) × (bound M (f x) ≡ M)

  product_within : (f g : ℕ → Expr) → AreWithin f → AreWithin g → (x : ℕ) (z : ℤ) → nat_abs z < 2 ^ 126 → nat_abs z * M < 2 ^ 126
      → (expr_within M (Mul (Number z) (by_sign f g x z)) ≡ true) × (bound M (Mul (Number z) (by_sign f g x z)) ≡ nat_abs z * M)
  product_within f g h k x (pos n) s t =
      let e = h x in let size : n * bound M (f x) ≡ n * M = ap (λ y. n * y) e.1 in
      (and_from _ _ (and_from _ _ (under n s) e.0) (under (n * bound M (f x)) (omega arith)), size)
  product_within f g h k x (negsuc n) s t =
      let e = k x in let size : suc n * bound M (g x) ≡ suc n * M = ap (λ y. suc n * y) e.1 in
      (and_from _ _ (and_from _ _ (under (suc n) s) e.0) (under (suc n * bound M (g x)) (omega arith)), size)

  less_within : (f g : ℕ → Expr) → AreWithin f → AreWithin g → (e : Expr) (ts : List (ℕ × ℤ)) → AreNarrow ts → expr_within M e ≡ true → bound M e + weight M ts < 2 ^ 126
      → (expr_within M (minus_products f g e ts) ≡ true) × (bound M (minus_products f g e ts) < 2 ^ 126)
  less_within f g h k e [] n i s = (i, omega arith)
  less_within f g h k e (t ∷ ts) n i s =
      let q : Expr = Mul (Number t.1) (by_sign f g t.0 t.1) in
      let p = product_within f g h k t.0 t.1 n.0 (omega arith) in
      less_within f g h k (Sub e q) ts n.1 (and_from _ _ (and_from _ _ i p.0) (under (bound M e + bound M q) (let o = p.1 in omega arith))) (let o = p.1 in omega arith)

  down_within : (e : Expr) (a : ℕ) → expr_within M e ≡ true → bound M e < 2 ^ 126 → suc a < 2 ^ 126 → expr_within M (DivDown e (Number (pos (suc a)))) ≡ true
  down_within e a i s l = and_from _ _ (and_from _ _ i (under (suc a) l)) (under (max (bound M e) M) (omega arith))

  up_within : (e : Expr) (a : ℕ) → expr_within M e ≡ true → bound M e < 2 ^ 126 → suc a < 2 ^ 126 → expr_within M (DivUp e (Number (pos (suc a)))) ≡ true
  up_within e a i s l = and_from _ _ (and_from _ _ i (under (suc a) l)) (under (max (bound M e) M) (omega arith))

  row_within : (k : Comparison) (turn : Bool) (c : ℤ) (ts : List (ℕ × ℤ)) (a : ℕ) → nat_abs c + weight M ts < 2 ^ 126 → AreNarrow ts → suc a < 2 ^ 126 → range_within M (row k turn c ts (suc a)) ≡ true
  row_within k turn c ts a s n l = by_kind k turn where
    each : (x : ℕ) → (not (over_limit M) ≡ true) × (M ≡ M)
    each x = (under M m, refl)

    i : (expr_within M (low c ts) ≡ true) × (bound M (low c ts) < 2 ^ 126)
    i = less_within Max Min each each (Number c) ts n (under (nat_abs c) (omega arith)) s

    j : (expr_within M (high c ts) ≡ true) × (bound M (high c ts) < 2 ^ 126)
    j = less_within Min Max each each (Number c) ts n (under (nat_abs c) (omega arith)) s

    e : (expr_within M (exact c ts) ≡ true) × (bound M (exact c ts) < 2 ^ 126)
    e = less_within Val Val each each (Number c) ts n (under (nat_abs c) (omega arith)) s

    by_kind : (k : Comparison) (turn : Bool) → range_within M (row k turn c ts (suc a)) ≡ true
    by_kind IsEqual turn = and_from _ _ (up_within (low c ts) a i.0 i.1 l) (down_within (high c ts) a j.0 j.1 l)
    by_kind IsOther turn = and_from _ _ (up_within (exact c ts) a e.0 e.1 l) (down_within (exact c ts) a e.0 e.1 l)
    by_kind IsAtMost false = and_from _ _ refl (down_within (high c ts) a j.0 j.1 l)
    by_kind IsAtMost true = and_from _ _ (up_within (low c ts) a i.0 i.1 l) (under M m)

  signed_within : (k : Comparison) (c : ℤ) (ts : List (ℕ × ℤ)) (z : ℤ) → (z ≡ pos 0 → ⊥) → nat_abs c + weight M ts < 2 ^ 126 → AreNarrow ts
      → nat_abs z < 2 ^ 126 → range_within M (row_by_sign k c ts z) ≡ true
  signed_within k c ts (pos zero) f s n l = absurd (f refl)
  signed_within k c ts (pos (suc a)) f s n l = row_within k false c ts a s n l
  signed_within k c ts (negsuc a) f s n l = row_within k true (neg_ℤ c) (scaled (negsuc 0) ts) a (let e = weight-scaled M ts in let g = turned_size c in
      let h = turned_once c in omega (arith, ints)) (narrow_scaled ts n) l

  pub rows_within : (k : Comparison) (c : ℤ) (before ts : List (ℕ × ℤ)) → NoneZero ts → AreNarrow before → AreNarrow ts
      → nat_abs c + weight M (before ++ ts) < 2 ^ 126 → AllPosted (λ p. range_within M p.range ≡ true) (rows_behind k c before ts)
  rows_within k c before [] z b n s = tt
  rows_within k c before (t ∷ ts) z b n s = (
    signed_within k c (before ++ ts) t.1 z.0 (let e = weight-append M before ts in let f = weight-append M before (t ∷ ts) in omega arith) (narrow_append before ts b n.1) n.0,
    rows_within k c (before ++ t ∷ []) ts z.1 (narrow_append before (t ∷ []) b (n.0, tt)) n.1
        (let e = weight-append M (before ++ t ∷ []) ts in let f = weight-append M before (t ∷ []) in let g = weight-append M before (t ∷ ts) in omega arith),
  )
