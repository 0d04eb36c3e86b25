-- Flat comparisons meet no fault.
use Rattle.std.proofs.Common.{◌≡◌, ℕ, suc, ◌+◌, ◌-◌, ◌*◌, ◌^◌, ◌≤◌, ◌<◌, Bool, true, false, cond, not, ◌&&◌, ◌||◌, ◌==◌, ℤ, pos, negsuc, ◌+ℤ◌, ◌-ℤ◌, ◌*ℤ◌}
use Rattle.std.proofs.Common.{neg_ℤ, nat_abs, nat_lt, List, [], ◌∷◌, ◌++◌, length, refl, ap, inl, inr, arith, Result, Ok, Err, mul-le-mul, mul-le-mul_left}
use Rattle.std.proofs.Common.{length-append}
use Rattle.std.proofs.Math.Nat.{mul_assoc, mul_comm}
use Rattle.std.specs.List.{list_all}
use Rattle.std.specs.Ordering.{int_eq}
use Rattle.std.specs.Str.{bytes_eq}
use Rattle.std.specs.Prelude.{codes}
use Rattle.std.proofs.lemmas.Int.{ints}
use Rattle.std.proofs.lemmas.Bool.{or_cases, and_parts}
use Rattle.fd_model.specs.declared.kinds.QueryFault.{QueryFault}
use Rattle.fd_model.specs.declared.kinds.QueryFault.TheVariants.{BadType, Evaluation, Nonlinear}
use Rattle.fd_model.specs.declared.kinds.Relation.{Relation}
use Rattle.fd_model.specs.declared.kinds.Relation.TheVariants.{Equal, Differ, Less, AtMost, Greater, AtLeast}
use Rattle.fd_language.specs.Variables.{variables_of}
use Rattle.fd_language.specs.Range.{is_none_left}
use Rattle.fd_language.specs.Term.{Term, Var, Int, Atom, Comp, no_terms, term}
use Rattle.fd_language.proofs.Lemmas.{abs_add, abs_mul}
use Rattle.fd_model.specs.Linear.{Sum, with_product, with_products, scaled, nonzero, plus, times, is_constant, in_integers, are_few, is_within, checked}
use Rattle.fd_model.specs.Linear.{of_both, of_one, sum_of, difference_of, product_of, collect_term, Linear, collect, normal, normal_form, comparison}
use Rattle.fd_model.specs.LinearRows.{Expansion, linear_rows}
use Rattle.fd_model.specs.ConstraintExpansion.{compare}
use Rattle.fd_model.specs.FlatConstraints.{width, is_narrow, is_ground, is_operator, is_flat, is_flat_comparison, FlatCompares}
use Rattle.fd_model.proofs.RowWidths.{weight, weight_product, weight_nonzero}

module _ (M : ℕ) (some : 0 < M) where
  -- adding up
  weight_products : (ts us : List (ℕ × ℤ)) → weight M (with_products ts us) ≤ weight M ts + weight M us
  weight_products ts [] = omega arith
  weight_products ts (u ∷ us) = let e = weight_products (with_product ts u.0 u.1) us in let f = weight_product M ts u.0 u.1 in omega arith

  weight_scaled : (k : ℤ) (ts : List (ℕ × ℤ)) → weight M (scaled k ts) ≤ nat_abs k * weight M ts
  weight_scaled k [] = omega arith
  weight_scaled k (t ∷ ts) = more (nat_abs (k *ℤ t.1)) (nat_abs k) (nat_abs t.1) (weight M (scaled k ts)) (weight M ts) (abs_mul k t.1) (weight_scaled k ts) where
    more : (p q r v w : ℕ) → p ≤ q * r → v ≤ q * w → p * M + v ≤ q * (r * M + w)
    more p q r v w h g = let e = mul-le-mul h (same M) in let f = mul_assoc q r M in omega arith where
      same : (n : ℕ) → n ≤ n
      same n = omega arith

  length_product : (ts : List (ℕ × ℤ)) (x : ℕ) (a : ℤ) → length (with_product ts x a) ≤ suc (length ts)
  length_product [] x a = omega arith
  length_product (t ∷ ts) x a = by_test (t.0 == x) (length_product ts x a) where
    by_test : (c : Bool) → length (with_product ts x a) ≤ suc (length ts) → length (cond c ((x, t.1 +ℤ a) ∷ ts) (t ∷ with_product ts x a)) ≤ suc (suc (length ts))
    by_test true h = omega arith
    by_test false h = omega arith

  length_products : (ts us : List (ℕ × ℤ)) → length (with_products ts us) ≤ length ts + length us
  length_products ts [] = omega arith
  length_products ts (u ∷ us) = let e = length_products (with_product ts u.0 u.1) us in let f = length_product ts u.0 u.1 in omega arith

  length_scaled : (k : ℤ) (ts : List (ℕ × ℤ)) → length (scaled k ts) ≡ length ts
  length_scaled k [] = refl
  length_scaled k (t ∷ ts) = ap suc (length_scaled k ts)

  length_nonzero : (ts : List (ℕ × ℤ)) → length (nonzero ts) ≤ length ts
  length_nonzero [] = omega arith
  length_nonzero (t ∷ ts) = by_test (int_eq t.1 (pos 0)) (length_nonzero ts) where
    by_test : (c : Bool) → length (nonzero ts) ≤ length ts → length (cond c (nonzero ts) (t ∷ nonzero ts)) ≤ suc (length ts)
    by_test true h = omega arith
    by_test false h = omega arith

  -- a light sum of few variables keeps its limits
  in_limit : (n : ℕ) → n < 2 ^ 63 → nat_lt n (2 ^ 63) ≡ true
  in_limit n h = grind arith

  pub light_integers : (ts : List (ℕ × ℤ)) → weight M ts < 2 ^ 63 → list_all (λ t. in_integers t.1) ts ≡ true
  light_integers [] h = refl
  light_integers (t ∷ ts) h =
      let e = in_limit (nat_abs t.1) (least (nat_abs t.1) (weight M ts) h) in
      let f = light_integers ts (omega arith) in
      rw (e, f) refl where
        least : (p w : ℕ) → p * M + w < 2 ^ 63 → p < 2 ^ 63
        least p w h = let e = mul-le-mul_left p some in omega arith

  light_few : (ts : List (ℕ × ℤ)) → length ts ≤ 2 ^ 31 → are_few ts ≡ true
  light_few ts h = few (length (nonzero ts)) (let e = length_nonzero ts in omega arith) where
    few : (n : ℕ) → n ≤ 2 ^ 31 → not (nat_lt (2 ^ 31) n) ≡ true
    few n h = grind arith

  light_checked : (s : Sum) → weight M s.products + nat_abs s.constant < 2 ^ 63 → length s.products ≤ 2 ^ 31 → checked s ≡ Ok s
  light_checked s h l =
      let a = in_limit (nat_abs s.constant) (omega arith) in
      let b = light_integers s.products (omega arith) in
      let c = light_few s.products l in
      by_test (is_within s) (rw (a, b, c) refl) where
        by_test : (c : Bool) → c ≡ true → cond c (Ok s) (Err Evaluation) ≡ Ok s
        by_test true h = refl
        by_test false h = absurd (cc)

  -- the sum of a flat term
  record IsLight (t : Term) (s : Sum) : Type 0 where
    pub light : weight M s.products + nat_abs s.constant ≤ width M t
    pub few : length s.products ≤ length (variables_of t)

  abbrev IsCollected : Term → Type 0
  IsCollected t = (s : Sum) × (collect_term t ≡ Ok s) × IsLight t s

  narrow_size : (n : ℕ) → is_narrow n ≡ true → n < 2 ^ 63
  narrow_size n h = grind arith

  sum_light : (s t : Sum) (w v m n : ℕ) → weight M s.products + nat_abs s.constant ≤ w → weight M t.products + nat_abs t.constant ≤ v → length s.products ≤ m → length t.products ≤ n
      → (weight M (plus s t).products + nat_abs (plus s t).constant ≤ w + v) × (length (plus s t).products ≤ m + n)
  sum_light s t w v m n h g k l =
      let e = weight_products s.products t.products in
      let f = abs_add s.constant t.constant in
      let o = length_products s.products t.products in
      (omega arith, omega arith)

  times_light : (k : ℤ) (s : Sum) (w n : ℕ) → weight M s.products + nat_abs s.constant ≤ w → length s.products ≤ n
      → (weight M (times k s).products + nat_abs (times k s).constant ≤ nat_abs k * w) × (length (times k s).products ≤ n)
  times_light k s w n h l =
      let e = weight_scaled k s.products in
      let f = abs_mul k s.constant in
      let g = mul-le-mul_left (nat_abs k) h in
      let o = length_scaled k s.products in
      (omega arith, omega arith)

  none_constant : (s : Sum) → length s.products ≡ 0 → is_constant s ≡ true
  none_constant s h = by_list s.products h where
    by_list : (ts : List (ℕ × ℤ)) → length ts ≡ 0 → list_all (λ t. int_eq t.1 (pos 0)) ts ≡ true
    by_list [] h = refl
    by_list (t ∷ ts) h = absurd (omega arith)

  no_variables : (t : Term) → is_ground t ≡ true → length (variables_of t) ≡ 0
  no_variables t h = by_list (variables_of t) h where
    by_list : (xs : List ℕ) → is_none_left xs ≡ true → length xs ≡ 0
    by_list [] h = refl
    by_list (x ∷ xs) h = absurd (cc)

  -- by the operator
  module _ (a b : Term) (s t : Sum) (sa : IsLight a s) (tb : IsLight b t) (few : length (variables_of a) + length (variables_of b) ≤ 2 ^ 31) where
    abbrev Gives : ℕ → Result Sum QueryFault → Type 0
    Gives w r = (u : Sum) × (r ≡ Ok u) × (weight M u.products + nat_abs u.constant ≤ w) × (length u.products ≤ length (variables_of a) + length (variables_of b))

    sum_gives : width M a + width M b < 2 ^ 63 → Gives (width M a + width M b) (sum_of s t)
    sum_gives h =
        let l = sum_light s t (width M a) (width M b) (length (variables_of a)) (length (variables_of b)) sa.light tb.light sa.few tb.few in
        (plus s t, light_checked (plus s t) (omega (arith, l.0)) (omega (arith, l.1)), l.0, l.1)

    difference_gives : width M a + width M b < 2 ^ 63 → Gives (width M a + width M b) (difference_of s t)
    difference_gives h =
        let k = times_light (negsuc 0) t (width M b) (length (variables_of b)) tb.light tb.few in
        let l = sum_light s (times (negsuc 0) t) (width M a) (width M b) (length (variables_of a)) (length (variables_of b)) sa.light (omega (arith, k.0)) sa.few k.1 in
        (plus s (times (negsuc 0) t), light_checked (plus s (times (negsuc 0) t)) (omega (arith, l.0)) (omega (arith, l.1)), l.0, l.1)

    -- the constant of the one times the other
    left_gives : width M a * width M b < 2 ^ 63 → Gives (width M a * width M b) (checked (times s.constant t))
    left_gives h =
        let k = times_light s.constant t (width M b) (length (variables_of b)) tb.light tb.few in
        let l : nat_abs s.constant ≤ width M a = let e = sa.light in omega arith in
        let o = mul-le-mul l (same (width M b)) in
        (times s.constant t, light_checked (times s.constant t) (omega (arith, k.0)) (omega (arith, k.1)), omega (arith, k.0), omega (arith, k.1)) where
          same : (n : ℕ) → n ≤ n
          same n = omega arith

    right_gives : width M a * width M b < 2 ^ 63 → Gives (width M a * width M b) (checked (times t.constant s))
    right_gives h =
        let k = times_light t.constant s (width M a) (length (variables_of a)) sa.light sa.few in
        let l : nat_abs t.constant ≤ width M b = let e = tb.light in omega arith in
        let o = mul-le-mul l (same (width M a)) in
        let c = mul_comm (width M b) (width M a) in
        (times t.constant s, light_checked (times t.constant s) (omega (arith, k.0)) (omega (arith, k.1)), omega (arith, k.0), omega (arith, k.1)) where
          same : (n : ℕ) → n ≤ n
          same n = omega arith

    product_gives : (is_ground a || is_ground b) ≡ true → width M a * width M b < 2 ^ 63 → Gives (width M a * width M b) (product_of s t)
    product_gives g h = by_test (is_constant s) refl where
      other : is_constant s ≡ false → is_constant t ≡ true
      other e = elim (or_cases (is_ground a) (is_ground b) g) [
        | inl f ↦ absurd (let k = none_constant s (let l = no_variables a f in let o = sa.few in omega arith) in cc)
        | inr f ↦ none_constant t (let l = no_variables b f in let o = tb.few in omega arith)
      ]

      by_other : (d : Bool) → d ≡ true → Gives (width M a * width M b) (cond d (checked (times t.constant s)) (Err Nonlinear))
      by_other true e = right_gives h
      by_other false e = absurd (cc)

      by_test : (c : Bool) → is_constant s ≡ c → Gives (width M a * width M b) (cond c (checked (times s.constant t)) (cond (is_constant t) (checked (times t.constant s)) (Err Nonlinear)))
      by_test true e = left_gives h
      by_test false e = by_other (is_constant t) (other e)

    operator_gives : (p q r : Bool) → (p || (q || (r && (is_ground a || is_ground b)))) ≡ true → cond (p || q) (width M a + width M b) (width M a * width M b) < 2 ^ 63
        → Gives (cond (p || q) (width M a + width M b) (width M a * width M b))
        (cond p (of_both sum_of (Ok s) (Ok t)) (cond q (of_both difference_of (Ok s) (Ok t)) (cond r (of_both product_of (Ok s) (Ok t)) (Err BadType))))
    operator_gives true q r g h = sum_gives h
    operator_gives false true r g h = difference_gives h
    operator_gives false false true g h = product_gives g h
    operator_gives false false false g h = absurd (cc)

  if_true : {A : Type 0} (c : Bool) (r q u : Result A QueryFault) → c ≡ true → r ≡ u → cond c r q ≡ u
  if_true true r q u e h = h
  if_true false r q u e h = absurd (cc)

  width_small : (t : Term) → is_flat M t ≡ true → width M t < 2 ^ 63
  width_small (Var x) h = narrow_size M h
  width_small (Int z) h = narrow_size (nat_abs z) h
  width_small (Atom a) h = absurd (cc)
  width_small (Comp f no_terms) h = absurd (cc)
  width_small (Comp f (term a no_terms)) h = width_small a ((and_parts (bytes_eq f (codes "-")) (is_flat M a) h).1)
  width_small (Comp f (term a (term b no_terms))) h = narrow_size (width M (Comp f (term a (term b no_terms)))) ((and_parts (is_operator f a b) _ ((and_parts (is_flat M a && is_flat M b) _ h).1)).1)
  width_small (Comp f (term a (term b (term c ts)))) h = absurd (cc)

  flat_collected : (t : Term) → is_flat M t ≡ true → length (variables_of t) ≤ 2 ^ 31 → IsCollected t
  flat_collected (Var x) h l =
      let s : Sum = record { products = (x, pos 1) ∷ []; constant = pos 0 } in
      let n = narrow_size M h in
      (s, light_checked s (omega arith) (omega arith), record { light = omega arith; few = omega arith })
  flat_collected (Int z) h l =
      let s : Sum = record { products = []; constant = z } in
      let n = narrow_size (nat_abs z) h in
      (s, light_checked s (omega arith) (omega arith), record { light = omega arith; few = omega arith })
  flat_collected (Atom a) h l = absurd (cc)
  flat_collected (Comp f no_terms) h l = absurd (cc)
  flat_collected (Comp f (term a no_terms)) h l =
      let v = length-append (variables_of a) [] in
      let k = flat_collected a ((and_parts (bytes_eq f (codes "-")) (is_flat M a) h).1) (omega arith) in
      let o = times_light (negsuc 0) k.0 (width M a) (length (variables_of a)) k.2.light k.2.few in
      let w = width_small a ((and_parts (bytes_eq f (codes "-")) (is_flat M a) h).1) in
      let g = light_checked (times (negsuc 0) k.0) (omega (arith, o.0)) (omega (arith, o.1)) in (
        times (negsuc 0) k.0,
        if_true (bytes_eq f (codes "-")) (of_one (λ s. checked (times (negsuc 0) s)) (collect_term a)) (Err BadType)
            (Ok (times (negsuc 0) k.0)) ((and_parts (bytes_eq f (codes "-")) (is_flat M a) h).0) (rw k.1 g),
        record { light = omega (arith, o.0); few = omega (arith, o.1) },
      )
  flat_collected (Comp f (term a (term b no_terms))) h l =
      let v = length-append (variables_of a) (variables_of b ++ []) in
      let v2 = length-append (variables_of b) [] in
      let parts = (and_parts (is_flat M a && is_flat M b) (is_operator f a b && is_narrow (width M (Comp f (term a (term b no_terms))))) h).0 in
      let k = flat_collected a ((and_parts (is_flat M a) (is_flat M b) parts).0) (omega arith) in
      let j = flat_collected b ((and_parts (is_flat M a) (is_flat M b) parts).1) (omega arith) in
      let o = (and_parts (is_flat M a && is_flat M b) (is_operator f a b && is_narrow (width M (Comp f (term a (term b no_terms))))) h).1 in
      let g = operator_gives a b k.0 j.0 k.2 j.2 (omega arith) (bytes_eq f (codes "+")) (bytes_eq f (codes "-")) (bytes_eq f (codes "*"))
      ((and_parts (is_operator f a b) (is_narrow (width M (Comp f (term a (term b no_terms))))) o).0) (width_small (Comp f (term a (term b no_terms))) h) in
      (g.0, rw (k.1, j.1) g.1, record { light = g.2; few = let e = g.3 in omega arith })
  flat_collected (Comp f (term a (term b (term c ts)))) h l = absurd (cc)

  normal_within : (r : Relation) (l : Linear) → nat_abs l.constant < 2 ^ 63 - 1 → normal_form r l ≡ Ok (normal r l)
  normal_within r l h = if_true (in_integers (normal r l).constant) (Ok (normal r l)) (Err Evaluation) (Ok (normal r l)) (in_limit (nat_abs (normal r l).constant) (small r)) refl where
    turned_small : (z : ℤ) → nat_abs z < 2 ^ 63 - 1 → nat_abs (neg_ℤ z) < 2 ^ 63
    turned_small z h = omega (arith, ints)

    less_small : (z : ℤ) → nat_abs z < 2 ^ 63 - 1 → nat_abs (z -ℤ pos 1) < 2 ^ 63
    less_small z h = omega (arith, ints)

    turned_less : (z : ℤ) → nat_abs z < 2 ^ 63 - 1 → nat_abs (neg_ℤ z -ℤ pos 1) < 2 ^ 63
    turned_less z h = omega (arith, ints)

    small : (r : Relation) → nat_abs (normal r l).constant < 2 ^ 63
    small Equal = omega arith
    small Differ = omega arith
    small Less = less_small l.constant h
    small AtMost = omega arith
    small Greater = turned_less l.constant h
    small AtLeast = turned_small l.constant h

  -- what a flat comparison is collected to
  pub record IsFlatForm (r : Relation) (s t : Term) : Type 0 where
    pub linear : Linear
    pub collected : collect s t ≡ Ok linear
    pub normal_is : normal_form r linear ≡ Ok (normal r linear)
    pub light : weight M linear.products + nat_abs linear.constant ≤ width M s + width M t

  pub flat_form : (r : Relation) (s t : Term) → is_flat_comparison M s t ≡ true → length (variables_of s) + length (variables_of t) ≤ 2 ^ 31 → IsFlatForm r s t
  flat_form r s t h few =
      let both = (and_parts (is_flat M s && is_flat M t) (is_narrow (width M s + width M t)) h).0 in
      let size = narrow_strict (width M s + width M t) ((and_parts (is_flat M s && is_flat M t) (is_narrow (width M s + width M t)) h).1) in
      let k = flat_collected s ((and_parts (is_flat M s) (is_flat M t) both).0) (omega arith) in
      let j = flat_collected t ((and_parts (is_flat M s) (is_flat M t) both).1) (omega arith) in
      let minus = times_light (negsuc 0) j.0 (width M t) (length (variables_of t)) j.2.light j.2.few in
      let sum = sum_light k.0 (times (negsuc 0) j.0) (width M s) (width M t) (length (variables_of s)) (length (variables_of t)) k.2.light (omega (arith, minus.0)) k.2.few minus.1 in
      let u = plus k.0 (times (negsuc 0) j.0) in
      let c = light_checked u (omega (arith, sum.0)) (omega (arith, sum.1)) in
      let l : Linear = record { products = nonzero u.products; constant = neg_ℤ u.constant } in
      let small : nat_abs l.constant < 2 ^ 63 - 1 = let e = turned_size u.constant in omega (arith, sum.0) in
      record {
        linear = l;
        collected = rw (k.1, j.1, c) refl;
        normal_is = normal_within r l small;
        light = let e = turned_size u.constant in let f = weight_nonzero M u.products in omega (arith, sum.0);
      } where
        narrow_strict : (n : ℕ) → is_narrow n ≡ true → n < 2 ^ 63 - 1
        narrow_strict n h = grind arith

        turned_size : (z : ℤ) → nat_abs (neg_ℤ z) ≡ nat_abs z
        turned_size z = omega (arith, ints)

  flat_compared : (r : Relation) (s t : Term) (n : ℕ) → is_flat_comparison M s t ≡ true → length (variables_of s) + length (variables_of t) ≤ 2 ^ 31 → (x : Expansion) × (compare r s t n ≡ Ok x)
  flat_compared r s t n h few =
      let f = flat_form r s t h few in
      let m = normal r f.linear in
      (linear_rows (comparison r) m.products m.constant n, let e = f.collected in let g = f.normal_is in rw (e, g) refl)

pub flat_compares : FlatCompares
flat_compares M r s t n some h few = flat_compared M some r s t n h few
