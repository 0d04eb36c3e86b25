-- Collecting keeps what a term is worth.
use Rattle.std.proofs.Common.{◌≡◌, ℕ, Bool, true, false, cond, ◌&&◌, ℤ, pos, negsuc, ◌+ℤ◌, ◌-ℤ◌, ◌*ℤ◌, neg_ℤ, List, [], ◌∷◌, refl, ap, subst, arith, Result, Ok}
use Rattle.std.proofs.Common.{Err, codes}
use Rattle.std.specs.List.{list_all}
use Rattle.std.specs.Ordering.{int_eq}
use Rattle.std.specs.Str.{bytes_eq}
use Rattle.std.proofs.lemmas.Int.{ints}
use Rattle.std.proofs.Math.IntN.{*ℤ_comm}
use Rattle.std.specs.Cmp.{second_so}
use Rattle.fd_model.specs.declared.kinds.QueryFault.{QueryFault}
use Rattle.fd_model.specs.declared.kinds.QueryFault.TheVariants.{BadType}
use Rattle.fd_language.specs.Term.{Term, Var, Int, Comp, no_terms, term}
use Rattle.fd_model.specs.Linear.{Sum, scaled, nonzero, plus, times, is_constant, is_within, checked, of_both, of_one, sum_of, difference_of, product_of}
use Rattle.fd_model.specs.Linear.{collect_term, Linear, linear_of, collect}
use Rattle.fd_model.specs.Satisfaction.{Assignment, worth}
use Rattle.fd_model.specs.ConstraintLaws.{total, CollectedSum}
use Rattle.fd_model.proofs.Integers.{sum_times, turned_once}
use Rattle.fd_model.proofs.Sums.{total-with_products, total-scaled, total-nonzero}

-- what comes of two results, and of one
pub record IsBoth (A B C : Type 0) (op : A → B → Result C QueryFault) (r : Result A QueryFault) (q : Result B QueryFault) (c : C) : Type 0 where
  pub left : A
  pub right : B
  pub from_left : r ≡ Ok left
  pub from_right : q ≡ Ok right
  pub both : op left right ≡ Ok c

pub both_ok : {A B C : Type 0} (op : A → B → Result C QueryFault) (r : Result A QueryFault) (q : Result B QueryFault) (c : C) → of_both op r q ≡ Ok c → IsBoth A B C op r q c
both_ok op (Ok a) (Ok b) c h = record { left = a; right = b; from_left = refl; from_right = refl; both = h }
both_ok op (Ok a) (Err f) c h = absurd (cc)
both_ok op (Err f) q c h = absurd (cc)

pub one_ok : {A C : Type 0} (op : A → Result C QueryFault) (r : Result A QueryFault) (c : C) → of_one op r ≡ Ok c → (a : A) × (r ≡ Ok a) × (op a ≡ Ok c)
one_ok op (Ok a) c h = (a, refl, h)
one_ok op (Err f) c h = absurd (cc)

pub test_ok : {C : Type 0} (t : Bool) (r q : Result C QueryFault) (c : C) (P : Type 0) → cond t r q ≡ Ok c → (t ≡ true → r ≡ Ok c → P) → (t ≡ false → q ≡ Ok c → P) → P
test_ok true r q c P h f g = f refl h
test_ok false r q c P h f g = g refl h

pub checked_ok : (s t : Sum) → checked s ≡ Ok t → (s ≡ t) × (is_within s ≡ true)
checked_ok s t h = test_ok (is_within s) (Ok s) (Err _) t ((s ≡ t) × (is_within s ≡ true)) h (λ e k. (cc, e)) (λ e k. absurd (cc))

module _ (b : Assignment) where
  -- z is the sum
  abbrev Is : Sum → ℤ → Type 0
  Is s z = z ≡ total b s.products +ℤ s.constant

  sum_is : (s t u : Sum) (x y : ℤ) → Is s x → Is t y → sum_of s t ≡ Ok u → Is u (x +ℤ y)
  sum_is s t u x y h g e = subst (λ w. Is w (x +ℤ y)) (checked_ok (plus s t) u e).0 (let f = total-with_products b s.products t.products in omega (arith, ints))

  times_is : (k : ℤ) (s : Sum) (x : ℤ) → Is s x → Is (times k s) (k *ℤ x)
  times_is k s x h = let e : k *ℤ x ≡ k *ℤ (total b s.products +ℤ s.constant) = ap (λ z. k *ℤ z) h in let f = sum_times k (total b s.products) s.constant in
      let g = total-scaled b k s.products in omega (arith, ints)

  difference_is : (s t u : Sum) (x y : ℤ) → Is s x → Is t y → difference_of s t ≡ Ok u → Is u (x -ℤ y)
  difference_is s t u x y h g e = subst (λ w. Is w (x -ℤ y)) (checked_ok (plus s (times (negsuc 0) t)) u e).0
      (let f = total-with_products b s.products (scaled (negsuc 0) t.products) in let k = times_is (negsuc 0) t y g in let m = turned_once y in omega (arith, ints))

  none_total : (ts : List (ℕ × ℤ)) → list_all (λ t. int_eq t.1 (pos 0)) ts ≡ true → total b ts ≡ pos 0
  none_total [] h = refl
  none_total (t ∷ ts) h = let e : t.1 ≡ pos 0 = first t.1 (list_all (λ t. int_eq t.1 (pos 0)) ts) h in
      let f : t.1 *ℤ pos (b t.0) ≡ pos 0 *ℤ pos (b t.0) = ap (λ z. z *ℤ pos (b t.0)) e in
      let g = none_total ts (second_so (int_eq t.1 (pos 0)) (list_all (λ t. int_eq t.1 (pos 0)) ts) h) in omega (arith, ints) where
        first : (z : ℤ) (c : Bool) → (int_eq z (pos 0) && c) ≡ true → z ≡ pos 0
        first z c h = grind (arith, ints)

  constant_is : (s : Sum) (x : ℤ) → Is s x → is_constant s ≡ true → x ≡ s.constant
  constant_is s x h e = let f = none_total s.products e in omega (arith, ints)

  product_is : (s t u : Sum) (x y : ℤ) → Is s x → Is t y → product_of s t ≡ Ok u → Is u (x *ℤ y)
  product_is s t u x y h g e =
      test_ok (is_constant s) (checked (times s.constant t)) (cond (is_constant t) (checked (times t.constant s)) (Err _)) u (Is u (x *ℤ y)) e
      (λ c f. subst (λ w. Is w (x *ℤ y)) (checked_ok (times s.constant t) u f).0 (rw (constant_is s x h c) (times_is s.constant t y g)))
      (λ c f. test_ok (is_constant t) (checked (times t.constant s)) (Err _) u (Is u (x *ℤ y)) f
      (λ d k. subst (λ w. Is w (x *ℤ y)) (checked_ok (times t.constant s) u k).0 (rw (*ℤ_comm x y, constant_is t y g d) (times_is t.constant s x h)))
      (λ d k. absurd (cc)))

  operator_is : (p q r : Bool) (s t : Result Sum QueryFault) (u : Sum) (x y : ℤ) → ((v : Sum) → s ≡ Ok v → Is v x) → ((v : Sum) → t ≡ Ok v → Is v y)
      → cond p (of_both sum_of s t) (cond q (of_both difference_of s t) (cond r (of_both product_of s t) (Err BadType))) ≡ Ok u → Is u (cond p (x +ℤ y) (cond q (x -ℤ y) (x *ℤ y)))
  operator_is true q r s t u x y f g h = let k = both_ok sum_of s t u h in sum_is k.left k.right u x y (f k.left k.from_left) (g k.right k.from_right) k.both
  operator_is false true r s t u x y f g h = let k = both_ok difference_of s t u h in difference_is k.left k.right u x y (f k.left k.from_left) (g k.right k.from_right) k.both
  operator_is false false true s t u x y f g h = let k = both_ok product_of s t u h in product_is k.left k.right u x y (f k.left k.from_left) (g k.right k.from_right) k.both
  operator_is false false false s t u x y f g h = absurd (cc)

  pub collected_is : (t : Term) (s : Sum) → collect_term t ≡ Ok s → worth b t ≡ total b s.products +ℤ s.constant
  collected_is (Var x) s h = subst (λ w. Is w (pos (b x))) (checked_ok (record { products = (x, pos 1) ∷ []; constant = pos 0 }) s h).0
      (let e : pos 1 *ℤ pos (b x) ≡ pos (b x) = ap pos (omega arith) in omega (arith, ints))
  collected_is (Int z) s h = subst (λ w. Is w z) (checked_ok (record { products = []; constant = z }) s h).0 (omega (arith, ints))
  collected_is (Comp f (term a no_terms)) s h =
      test_ok (bytes_eq f (codes "-")) (of_one (λ s. checked (times (negsuc 0) s)) (collect_term a)) (Err BadType) s (Is s (neg_ℤ (worth b a))) h
      (λ c e. let k = one_ok (λ s. checked (times (negsuc 0) s)) (collect_term a) s e in
      subst (λ w. Is w (neg_ℤ (worth b a))) (checked_ok (times (negsuc 0) k.0) s k.2).0 (rw (← turned_once (worth b a)) (times_is (negsuc 0) k.0 (worth b a) (collected_is a k.0 k.1))))
      (λ c e. absurd (cc))
  collected_is (Comp f (term a (term c no_terms))) s h =
      operator_is (bytes_eq f (codes "+")) (bytes_eq f (codes "-")) (bytes_eq f (codes "*")) (collect_term a) (collect_term c) s (worth b a) (worth b c)
      (λ v e. collected_is a v e) (λ v e. collected_is c v e) h
  collected_is _ s h = absurd (cc)

  pub collect_is : (left right : Term) (l : Linear) → collect left right ≡ Ok l → (worth b left -ℤ worth b right) ≡ (total b l.products -ℤ l.constant)
  collect_is left right l h =
      let j = one_ok linear_of (of_both difference_of (collect_term left) (collect_term right)) l h in
      let k = both_ok difference_of (collect_term left) (collect_term right) j.0 j.1 in
      let e = difference_is k.left k.right j.0 (worth b left) (worth b right) (collected_is left k.left k.from_left) (collected_is right k.right k.from_right) k.both in
      let f = total-nonzero b j.0.products in
      let g : record { products = nonzero j.0.products; constant = neg_ℤ j.0.constant } ≡ l = cc (j.2) in
      subst (λ w. (worth b left -ℤ worth b right) ≡ (total b w.products -ℤ w.constant)) g (omega (arith, ints))

pub collected_sum : CollectedSum
collected_sum left right a l h = collect_is a left right l h
