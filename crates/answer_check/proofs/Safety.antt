-- What may be evaluated under each assignment of numbers: accepted ranges without parameters and pointwise forms, and flat sides.
use Rattle.std.proofs.Common.{◌≡◌, ℕ, zero, suc, ◌+◌, ◌*◌, ◌^◌, ◌-◌, ◌≤◌, Bool, true, false, cond, ◌&&◌, ◌||◌, ℤ, pos, ◌-ℤ◌, ◌≤ℤ◌, List, [], ◌∷◌, ◌++◌, refl}
use Rattle.std.proofs.Common.{sym, subst, arith, true≢false}
use Rattle.std.specs.Prelude.{All, codes, nat_abs}
use Rattle.std.specs.List.{list_all}
use Rattle.std.specs.Str.{bytes_eq}
use Rattle.std.proofs.lemmas.Bool.{and_parts}
use Rattle.std.proofs.lemmas.List.Elements.{All-nil, All-cons, All-head, All-tail}
use Rattle.fd_language.specs.declared.TheConstants.{INFINITY}
use Rattle.fd_language.specs.declared.range_node.Need.{Need}
use Rattle.fd_language.specs.declared.range_node.Need.TheVariants as need
use Rattle.fd_language.specs.CheckLaws.{AreBounded}
use Rattle.fd_language.specs.EvaluatedValues.{expr_values, expr_divisors, range_values, range_divisors}
use Rattle.fd_language.specs.Family.{IsFamily}
use Rattle.fd_language.specs.Needs.{meets, needs, meets_needs}
use Rattle.fd_language.specs.Range.{Range, Span, One, Dom, Union, Inter, Outside, Plus, Minus, Times, Over, Expr, Number, Infinity, Param, Min, Max, Val, Add}
use Rattle.fd_language.specs.Range.{Sub, Mul, DivDown, DivUp, expr_params, params, is_none_left}
use Rattle.fd_language.specs.RangeVerdict.{is_accepted}
use Rattle.fd_language.specs.Term.{Term, Var, Int, Atom, Comp, no_terms, term}
use Rattle.fd_language.proofs.Lemmas.{abs_add, abs_sub, abs_mul, sums, products, bounded_values, filled_as_is, first_nil, second_nil}
use Rattle.fd_model.specs.FlatConstraints.{width, is_narrow, is_operator, is_flat}
use Rattle.fd_model.specs.Satisfaction.{Assignment, singles}
use Rattle.answer_check.specs.AnswerLines.{assigned}
use Rattle.answer_check.specs.Checks.{IsBounded}
use Rattle.answer_check.specs.FlatForm.{is_plain}
use Rattle.answer_check.specs.Sides.{expr_of}
use Rattle.answer_check.specs.OperandStack.{value_by, IsLimited, Fits, RangeFits}
use Rattle.answer_check.proofs.SideTerms.{flat_narrow}

-- the values of an answer are numbers
pub bounded_values_of : (ns : List ℕ) → All (λ n. n ≤ INFINITY) ns → IsBounded (assigned ns)
bounded_values_of [] h x = omega arith
bounded_values_of (n ∷ ns) h zero = All-head (λ k. k ≤ INFINITY) n ns h
bounded_values_of (n ∷ ns) h (suc x) = bounded_values_of ns (All-tail (λ k. k ≤ INFINITY) n ns h) x

module _ {X : Type 0} (P : X → Type 0) where
  all_left : (xs ys : List X) → All P (xs ++ ys) → All P xs
  all_left [] ys h = All-nil P
  all_left (x ∷ xs) ys h = All-cons P x xs (All-head P x (xs ++ ys) h) (all_left xs ys (All-tail P x (xs ++ ys) h))

  all_right : (xs ys : List X) → All P (xs ++ ys) → All P ys
  all_right [] ys h = h
  all_right (x ∷ xs) ys h = all_right xs ys (All-tail P x (xs ++ ys) h)

-- ---- accepted ranges

-- each parameter as 1 meets each need
one_meets : (ds : List (ℕ × Need)) → list_all (λ d. meets d.1 (pos 1)) ds ≡ true
one_meets [] = refl
one_meets ((y, need.Whole) ∷ ds) = one_meets ds
one_meets ((y, need.Natural) ∷ ds) = one_meets ds
one_meets ((y, need.Divisor) ∷ ds) = one_meets ds

none_there : (xs : List ℕ) → is_none_left xs ≡ true → xs ≡ []
none_there [] h = refl
none_there (x ∷ xs) h = absurd (true≢false (sym h))

module _ (a : Assignment) where
  abbrev NotNegative : ℤ → Type 0
  NotNegative z = pos 0 ≤ℤ z

  abbrev values : Expr → List ℤ
  values e = expr_values INFINITY (singles a) e

  abbrev divisors : Expr → List ℤ
  divisors e = expr_divisors INFINITY (singles a) e

  here : (e : Expr) → All IsLimited (values e) → IsLimited (value_by a e)
  here (Number z) h = All-head IsLimited (value_by a (Number z)) [] h
  here Infinity h = All-head IsLimited (value_by a Infinity) [] h
  here (Param x) h = All-head IsLimited (value_by a (Param x)) [] h
  here (Min y) h = All-head IsLimited (value_by a (Min y)) [] h
  here (Max y) h = All-head IsLimited (value_by a (Max y)) [] h
  here (Val y) h = All-head IsLimited (value_by a (Val y)) [] h
  here (Add d e) h = All-head IsLimited (value_by a (Add d e)) (values d ++ values e) h
  here (Sub d e) h = All-head IsLimited (value_by a (Sub d e)) (values d ++ values e) h
  here (Mul d e) h = All-head IsLimited (value_by a (Mul d e)) (values d ++ values e) h
  here (DivDown d e) h = All-head IsLimited (value_by a (DivDown d e)) (values d ++ values e) h
  here (DivUp d e) h = All-head IsLimited (value_by a (DivUp d e)) (values d ++ values e) h

  expr_fits : (e : Expr) → expr_params e ≡ [] → All IsLimited (values e) → All NotNegative (divisors e) → Fits a e
  expr_fits (Number z) p v n = tt
  expr_fits Infinity p v n = tt
  expr_fits (Param x) p v n = absurd (cc (p))
  expr_fits (Min y) p v n = tt
  expr_fits (Max y) p v n = tt
  expr_fits (Val y) p v n = tt
  expr_fits (Add d e) p v n =
      let w = All-tail IsLimited (value_by a (Add d e)) (values d ++ values e) v in (
        expr_fits d (first_nil (expr_params d) (expr_params e) p) (all_left IsLimited (values d) (values e) w) (all_left NotNegative (divisors d) (divisors e) n),
        expr_fits e (second_nil (expr_params d) (expr_params e) p) (all_right IsLimited (values d) (values e) w) (all_right NotNegative (divisors d) (divisors e) n),
        All-head IsLimited (value_by a (Add d e)) (values d ++ values e) v,
      )
  expr_fits (Sub d e) p v n =
      let w = All-tail IsLimited (value_by a (Sub d e)) (values d ++ values e) v in (
        expr_fits d (first_nil (expr_params d) (expr_params e) p) (all_left IsLimited (values d) (values e) w) (all_left NotNegative (divisors d) (divisors e) n),
        expr_fits e (second_nil (expr_params d) (expr_params e) p) (all_right IsLimited (values d) (values e) w) (all_right NotNegative (divisors d) (divisors e) n),
        All-head IsLimited (value_by a (Sub d e)) (values d ++ values e) v,
      )
  expr_fits (Mul d e) p v n =
      let w = All-tail IsLimited (value_by a (Mul d e)) (values d ++ values e) v in (
        expr_fits d (first_nil (expr_params d) (expr_params e) p) (all_left IsLimited (values d) (values e) w) (all_left NotNegative (divisors d) (divisors e) n),
        expr_fits e (second_nil (expr_params d) (expr_params e) p) (all_right IsLimited (values d) (values e) w) (all_right NotNegative (divisors d) (divisors e) n),
        All-head IsLimited (value_by a (Mul d e)) (values d ++ values e) v,
      )
  expr_fits (DivDown d e) p v n =
      let w = All-tail IsLimited (value_by a (DivDown d e)) (values d ++ values e) v in
      let m = All-tail NotNegative (value_by a e) (divisors d ++ divisors e) n in (
        expr_fits d (first_nil (expr_params d) (expr_params e) p) (all_left IsLimited (values d) (values e) w) (all_left NotNegative (divisors d) (divisors e) m),
        expr_fits e (second_nil (expr_params d) (expr_params e) p) (all_right IsLimited (values d) (values e) w) (all_right NotNegative (divisors d) (divisors e) m),
        (here d (all_left IsLimited (values d) (values e) w), All-head NotNegative (value_by a e) (divisors d ++ divisors e) n),
      )
  expr_fits (DivUp d e) p v n =
      let w = All-tail IsLimited (value_by a (DivUp d e)) (values d ++ values e) v in
      let m = All-tail NotNegative (value_by a e) (divisors d ++ divisors e) n in (
        expr_fits d (first_nil (expr_params d) (expr_params e) p) (all_left IsLimited (values d) (values e) w) (all_left NotNegative (divisors d) (divisors e) m),
        expr_fits e (second_nil (expr_params d) (expr_params e) p) (all_right IsLimited (values d) (values e) w) (all_right NotNegative (divisors d) (divisors e) m),
        (here d (all_left IsLimited (values d) (values e) w), All-head NotNegative (value_by a e) (divisors d ++ divisors e) n),
      )

  abbrev all_values : Range → List ℤ
  all_values r = range_values INFINITY (singles a) r

  abbrev all_divisors : Range → List ℤ
  all_divisors r = range_divisors INFINITY (singles a) r

  range_fits : (r : Range) → params r ≡ [] → is_plain r ≡ true → All IsLimited (all_values r) → All NotNegative (all_divisors r) → RangeFits a r
  range_fits (Span d e) p q v n = (
    expr_fits d (first_nil (expr_params d) (expr_params e) p) (all_left IsLimited (values d) (values e) v) (all_left NotNegative (divisors d) (divisors e) n),
    expr_fits e (second_nil (expr_params d) (expr_params e) p) (all_right IsLimited (values d) (values e) v) (all_right NotNegative (divisors d) (divisors e) n),
  )
  range_fits (One t) p q v n = expr_fits t p v n
  range_fits (Dom y) p q v n = tt
  range_fits (Union r s) p q v n =
      let both = and_parts (is_plain r) (is_plain s) q in (
        range_fits r (first_nil (params r) (params s) p) both.0 (all_left IsLimited (all_values r) (all_values s) v) (all_left NotNegative (all_divisors r) (all_divisors s) n),
        range_fits s (second_nil (params r) (params s) p) both.1 (all_right IsLimited (all_values r) (all_values s) v) (all_right NotNegative (all_divisors r) (all_divisors s) n),
      )
  range_fits (Inter r s) p q v n =
      let both = and_parts (is_plain r) (is_plain s) q in (
        range_fits r (first_nil (params r) (params s) p) both.0 (all_left IsLimited (all_values r) (all_values s) v) (all_left NotNegative (all_divisors r) (all_divisors s) n),
        range_fits s (second_nil (params r) (params s) p) both.1 (all_right IsLimited (all_values r) (all_values s) v) (all_right NotNegative (all_divisors r) (all_divisors s) n),
      )
  range_fits (Outside r) p q v n = range_fits r p q v n
  range_fits (Plus r c) p q v n = absurd (true≢false (sym q))
  range_fits (Minus r c) p q v n = absurd (true≢false (sym q))
  range_fits (Times r c) p q v n = absurd (true≢false (sym q))
  range_fits (Over r c) p q v n = absurd (true≢false (sym q))

  pub accepted_fits : (r : Range) → IsBounded a → is_accepted INFINITY r ≡ true → is_none_left (params r) ≡ true → is_plain r ≡ true → RangeFits a r
  accepted_fits r small h p q =
      let none = none_there (params r) p in
      let family : IsFamily INFINITY (singles a) = record { rising = λ x. (omega arith, small x, tt) } in
      let met : meets_needs (λ y. pos 1) r ≡ true = one_meets (needs r) in
      let b = subst (AreBounded INFINITY (singles a)) (filled_as_is (λ y. pos 1) r none) (bounded_values INFINITY r (λ y. pos 1) (singles a) h met family) in
      range_fits r none q b.values b.divisors

  -- ---- flat sides

  record IsFit (t : Term) : Type 0 where
    fits : Fits a (expr_of t)
    low : nat_abs (value_by a (expr_of t)) ≤ width INFINITY t

  narrow_limited : (n m : ℕ) → is_narrow m ≡ true → n ≤ m → n ≤ 2 ^ 126 - 1
  narrow_limited n m h l = grind (arith, h, l)

  made_fit : (x : Expr) (j : ℕ) → is_narrow j ≡ true → nat_abs (value_by a x) ≤ j → (IsLimited (value_by a x) → Fits a x) → (Fits a x) × (nat_abs (value_by a x) ≤ j)
  made_fit x j w i f = (f (narrow_limited (nat_abs (value_by a x)) j w i), i)

  both_fit : (d e : Expr) (m n : ℕ) → Fits a d → Fits a e → nat_abs (value_by a d) ≤ m → nat_abs (value_by a e) ≤ n
      → (p q : Bool) → is_narrow (cond (p || q) (m + n) (m * n)) ≡ true → (Fits a (cond p (Add d e) (cond q (Sub d e) (Mul d e))))
      × (nat_abs (value_by a (cond p (Add d e) (cond q (Sub d e) (Mul d e)))) ≤ cond (p || q) (m + n) (m * n))
  both_fit d e m n h g k l true q w = made_fit (Add d e) (m + n) w (sums _ _ _ _ _ (abs_add (value_by a d) (value_by a e)) k l) (λ x. (h, g, x))
  both_fit d e m n h g k l false true w = made_fit (Sub d e) (m + n) w (sums _ _ _ _ _ (abs_sub (value_by a d) (value_by a e)) k l) (λ x. (h, g, x))
  both_fit d e m n h g k l false false w = made_fit (Mul d e) (m * n) w (products _ _ _ _ _ (abs_mul (value_by a d) (value_by a e)) k l) (λ x. (h, g, x))

  side_fit : IsBounded a → (t : Term) → is_flat INFINITY t ≡ true → IsFit t
  side_fit small (Var x) h = record { fits = tt; low = small x }
  side_fit small (Int z) h = record { fits = tt; low = omega arith }
  side_fit small (Atom b) h = absurd (true≢false (sym h))
  side_fit small (Comp f no_terms) h = absurd (true≢false (sym h))
  side_fit small (Comp f (term s no_terms)) h =
      let flat = (and_parts (bytes_eq f (codes "-")) (is_flat INFINITY s) h).1 in
      let r = side_fit small s flat in
      let v = value_by a (expr_of s) in
      let low : nat_abs (pos 0 -ℤ v) ≤ width INFINITY s = (let l = abs_sub (pos 0) v in let k = r.low in omega (arith, l, k)) in
      record { fits = (tt, r.fits, narrow_limited (nat_abs (pos 0 -ℤ v)) (width INFINITY s) (flat_narrow s flat) low); low = low }
  side_fit small (Comp f (term s (term t no_terms))) h =
      let both = and_parts (is_flat INFINITY s && is_flat INFINITY t) (is_operator f s t && is_narrow (width INFINITY (Comp f (term s (term t no_terms))))) h in
      let sides = and_parts (is_flat INFINITY s) (is_flat INFINITY t) both.0 in
      let r = side_fit small s sides.0 in
      let q = side_fit small t sides.1 in
      let k = both_fit (expr_of s) (expr_of t) (width INFINITY s) (width INFINITY t) r.fits q.fits r.low q.low (bytes_eq f (codes "+")) (bytes_eq f (codes "-"))
      (and_parts (is_operator f s t) (is_narrow (width INFINITY (Comp f (term s (term t no_terms))))) both.1).1 in
      record { fits = k.0; low = k.1 }
  side_fit small (Comp f (term s (term t (term u us)))) h = absurd (true≢false (sym h))

  pub side_fits : (t : Term) → IsBounded a → is_flat INFINITY t ≡ true → Fits a (expr_of t)
  side_fits t small h = (side_fit small t h).fits
