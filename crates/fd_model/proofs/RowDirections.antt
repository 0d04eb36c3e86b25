-- The rows fit the direction table, whatever the numbers in them.
use Rattle.std.proofs.Common.{◌≡◌, ℕ, zero, suc, Bool, true, false, cond, ◌&&◌, ℤ, pos, negsuc, neg_ℤ, int_le, List, [], ◌∷◌, ◌++◌, refl, sym, subst, arith, Ok}
use Rattle.std.proofs.lemmas.Bool.{and_from}
use Rattle.std.proofs.lemmas.Int.{ints}
use Rattle.fd_model.specs.declared.kinds.ConstraintKind.{ConstraintKind}
use Rattle.fd_model.specs.declared.kinds.ConstraintKind.TheVariants.{Compare, AllDifferent, Element, Atmost}
use Rattle.fd_language.specs.Term.{Term, Terms, no_terms, term}
use Rattle.fd_language.specs.Range.{Range, Span, Union, Outside, Expr, Number, Min, Max, Val, Sub, Mul, DivDown, DivUp, Indexical}
use Rattle.fd_model.specs.ClosedFamilies.{AllPosted}
use Rattle.fd_language.specs.Check.{Wish, Rising, Falling, Constant, turn, expr_fits, range_fits}
use Rattle.fd_language.specs.Range.{expr_params, params}
use Rattle.fd_model.specs.Linear.{scaled, Comparison, IsEqual, IsOther, IsAtMost, comparison, normal}
use Rattle.fd_model.specs.LinearRows.{Expansion, by_sign, minus_products, low, high, exact, row, row_by_sign, rows_behind, linear_rows, compares, no_number}
use Rattle.fd_model.specs.Members.{as_member, walk, placed}
use Rattle.fd_model.specs.ListRows.{against, pairwise, different_ranges, different_rows, union_onto, union_of, elements_at, index_ranges, element_ranges}
use Rattle.fd_model.specs.ListRows.{counts, units}
use Rattle.fd_model.specs.ConstraintExpansion.{compare, basic, all_different}
use Rattle.fd_model.proofs.CollectedSums.{one_ok}
use Rattle.fd_model.proofs.LinearForms.{NoneZero}
use Rattle.fd_model.proofs.ComparisonRows.{form_of, collect_nonzero, normal_nonzero}
use Rattle.fd_model.proofs.ElementRows.{element_ok}
use Rattle.fd_model.proofs.Counters.{atmost_ok, units_nonzero}

module _ (M : ℕ) where
  -- a term that fits the wish and has no parameters
  record IsDirected (w : Wish) (e : Expr) : Type 0 where
    pub fits : expr_fits M e w ≡ true
    pub params : expr_params e ≡ []

  abbrev AreDirected : Wish → (ℕ → Expr) → Type 0
  AreDirected w f = (x : ℕ) → IsDirected w (f x)

  product_directed : (w : Wish) (f g : ℕ → Expr) → AreDirected w f → AreDirected (turn w) g → (x : ℕ) (z : ℤ) → IsDirected w (Mul (Number z) (by_sign f g x z))
  product_directed w f g h k x (pos n) = record { fits = (h x).fits; params = (h x).params }
  product_directed w f g h k x (negsuc n) = record { fits = (k x).fits; params = (k x).params }

  turn_turn : (w : Wish) → turn (turn w) ≡ w
  turn_turn Rising = refl
  turn_turn Falling = refl
  turn_turn Constant = refl

  less_directed : (w : Wish) (f g : ℕ → Expr) → AreDirected (turn w) f → AreDirected w g → (e : Expr) (ts : List (ℕ × ℤ)) → IsDirected w e → IsDirected w (minus_products f g e ts)
  less_directed w f g h k e [] i = i
  less_directed w f g h k e (t ∷ ts) i =
      let p = product_directed (turn w) f g h (λ x. subst (λ v. IsDirected v (g x)) (sym (turn_turn w)) (k x)) t.0 t.1 in
      less_directed w f g h k (Sub e (Mul (Number t.1) (by_sign f g t.0 t.1))) ts (record { fits = and_from _ _ i.fits p.fits; params = rw (i.params, p.params) refl })

  low_directed : (c : ℤ) (ts : List (ℕ × ℤ)) → IsDirected Rising (low c ts)
  low_directed c ts = less_directed Rising Max Min (λ x. record { fits = refl; params = refl }) (λ x. record { fits = refl; params = refl }) (Number c) ts (record { fits = refl; params = refl })

  high_directed : (c : ℤ) (ts : List (ℕ × ℤ)) → IsDirected Falling (high c ts)
  high_directed c ts = less_directed Falling Min Max (λ x. record { fits = refl; params = refl }) (λ x. record { fits = refl; params = refl }) (Number c) ts (record { fits = refl; params = refl })

  exact_directed : (w : Wish) (c : ℤ) (ts : List (ℕ × ℤ)) → IsDirected w (exact c ts)
  exact_directed w c ts = less_directed w Val Val (λ x. record { fits = refl; params = refl }) (λ x. record { fits = refl; params = refl }) (Number c) ts (record { fits = refl; params = refl })

  divides : (a : ℕ) (q : Bool) → q ≡ true → (int_le (pos 1) (pos (suc a)) && q) ≡ true
  divides a q h = grind (arith, ints)

  down_directed : (w : Wish) (e : Expr) (a : ℕ) → IsDirected w e → IsDirected w (DivDown e (Number (pos (suc a))))
  down_directed w e a i = record { fits = divides a (expr_fits M e w) i.fits; params = rw i.params refl }

  up_directed : (w : Wish) (e : Expr) (a : ℕ) → IsDirected w e → IsDirected w (DivUp e (Number (pos (suc a))))
  up_directed w e a i = record { fits = divides a (expr_fits M e w) i.fits; params = rw i.params refl }

  -- a range that the table accepts, without parameters
  pub record IsFitting (r : Range) : Type 0 where
    pub fits : range_fits M r true ≡ true
    pub params : params r ≡ []

  span_fitting : (a b : Expr) → IsDirected Rising a → IsDirected Falling b → IsFitting (Span a b)
  span_fitting a b i j = record { fits = and_from _ _ i.fits j.fits; params = rw (i.params, j.params) refl }

  outside_fitting : (a b : Expr) → IsDirected Falling a → IsDirected Rising b → IsFitting (Outside (Span a b))
  outside_fitting a b i j = record { fits = and_from _ _ i.fits j.fits; params = rw (i.params, j.params) refl }

  row_fitting : (k : Comparison) (turn : Bool) (c : ℤ) (ts : List (ℕ × ℤ)) (a : ℕ) → IsFitting (row k turn c ts (suc a))
  row_fitting IsEqual turn c ts a = span_fitting _ _ (up_directed Rising (low c ts) a (low_directed c ts)) (down_directed Falling (high c ts) a (high_directed c ts))
  row_fitting IsOther turn c ts a = outside_fitting _ _ (up_directed Falling (exact c ts) a (exact_directed Falling c ts)) (down_directed Rising (exact c ts) a (exact_directed Rising c ts))
  row_fitting IsAtMost false c ts a = span_fitting _ _ (record { fits = refl; params = refl }) (down_directed Falling (high c ts) a (high_directed c ts))
  row_fitting IsAtMost true c ts a = span_fitting _ _ (up_directed Rising (low c ts) a (low_directed c ts)) (record { fits = refl; params = refl })

  signed_fitting : (k : Comparison) (c : ℤ) (ts : List (ℕ × ℤ)) (z : ℤ) → (z ≡ pos 0 → ⊥) → IsFitting (row_by_sign k c ts z)
  signed_fitting k c ts (pos zero) f = absurd (f refl)
  signed_fitting k c ts (pos (suc a)) f = row_fitting k false c ts a
  signed_fitting k c ts (negsuc a) f = row_fitting k true (neg_ℤ c) (scaled (negsuc 0) ts) a

  abbrev pub Fitting : List Indexical → Type 0
  Fitting ps = AllPosted (λ p. IsFitting p.range) ps

  pub rows_fitting : (k : Comparison) (c : ℤ) (before ts : List (ℕ × ℤ)) → NoneZero ts → Fitting (rows_behind k c before ts)
  rows_fitting k c before [] z = tt
  rows_fitting k c before (t ∷ ts) z = (signed_fitting k c (before ++ ts) t.1 z.0, rows_fitting k c (before ++ t ∷ []) ts z.1)

  none_fitting : (c : Bool) (n : ℕ) → let x : Expansion = cond c (record { equated = []; ranges = []; fresh = n })
      (record { equated = []; ranges = record { target = n; range = no_number } ∷ []; fresh = suc n }) in Fitting x.ranges
  none_fitting true n = tt
  none_fitting false n = (record { fits = refl; params = refl }, tt)

  form_fitting : (k : Comparison) (ts : List (ℕ × ℤ)) (c : ℤ) (n : ℕ) → NoneZero ts → Fitting (linear_rows k ts c n).ranges
  form_fitting k [] c n z = none_fitting (compares k (pos 0) c) n
  form_fitting k (t ∷ ts) c n z = rows_fitting k c [] (t ∷ ts) z

  pub append_fitting : (ps qs : List Indexical) → Fitting ps → Fitting qs → Fitting (ps ++ qs)
  append_fitting [] qs h g = g
  append_fitting (p ∷ ps) qs h g = (h.0, append_fitting ps qs h.1 g)

  against_fitting : (x : ℕ) (ys : List ℕ) → Fitting (against x ys)
  against_fitting x [] = tt
  against_fitting x (y ∷ ys) = (record { fits = refl; params = refl }, (record { fits = refl; params = refl }, against_fitting x ys))

  pairs_fitting : (xs : List ℕ) → Fitting (pairwise xs)
  pairs_fitting [] = tt
  pairs_fitting (x ∷ xs) = append_fitting (against x xs) (pairwise xs) (against_fitting x xs) (pairs_fitting xs)

  different_fitting : (xs : List ℕ) → Fitting (different_ranges xs)
  different_fitting [] = tt
  different_fitting (x ∷ []) = (record { fits = refl; params = refl }, tt)
  different_fitting (x ∷ y ∷ ys) = pairs_fitting (x ∷ y ∷ ys)

  abbrev EachFitting : List Range → Type 0
  EachFitting [] = Unit {0}
  EachFitting (r ∷ rs) = IsFitting r × EachFitting rs

  joined_fitting : (r : Range) (qs : List Range) → IsFitting r → EachFitting qs → IsFitting (union_onto r qs)
  joined_fitting r [] h g = h
  joined_fitting r (q ∷ qs) h g = joined_fitting (Union r q) qs (record { fits = and_from _ _ h.fits g.0.fits; params = let e = h.params in let f = g.0.params in rw (e, f) refl }) g.1

  union_fitting : (rs : List Range) → EachFitting rs → IsFitting (union_of rs)
  union_fitting [] h = record { fits = refl; params = refl }
  union_fitting (r ∷ rs) h = joined_fitting r rs h.0 h.1

  elements_fitting : (i k : ℕ) (zs : List ℤ) → EachFitting (elements_at i k zs)
  elements_fitting i k [] = tt
  elements_fitting i k (z ∷ zs) = (record { fits = refl; params = refl }, elements_fitting i (suc k) zs)

  numbers_fitting : (x k : ℕ) (zs : List ℤ) → EachFitting (index_ranges x k zs)
  numbers_fitting x k [] = tt
  numbers_fitting x k (z ∷ zs) = (record { fits = refl; params = refl }, numbers_fitting x (suc k) zs)

  -- the rows of an element fit the table
  pub element_fitting : (i x : ℕ) (zs : List ℤ) → Fitting (element_ranges i zs x)
  element_fitting i x zs = (union_fitting (elements_at i 1 zs) (elements_fitting i 1 zs), (union_fitting (index_ranges x 1 zs) (numbers_fitting x 1 zs), tt))

  counts_fitting : (v : ℤ) (xs : List ℕ) (m : ℕ) → Fitting (counts v xs m)
  counts_fitting v [] m = tt
  counts_fitting v (x ∷ xs) m = (record { fits = refl; params = refl }, (record { fits = refl; params = refl }, counts_fitting v xs (suc m)))

  compare_fitting : (r : _) (s t : Term) (n : ℕ) (x : Expansion) → compare r s t n ≡ Ok x → Fitting x.ranges
  compare_fitting r s t n x h =
      let f = form_of r s t n x h in
      subst (λ y. Fitting y.ranges) f.rows (form_fitting (comparison r) (normal r f.linear).products (normal r f.linear).constant n
      (normal_nonzero r f.linear (collect_nonzero s t f.linear f.collected)))

  all_different_fitting : (l : Term) (n : ℕ) (x : Expansion) → all_different l n ≡ Ok x → Fitting x.ranges
  all_different_fitting l n x h =
      let k = one_ok (λ ms. Ok (different_rows ms n)) (walk as_member l) x h in
      let e : different_rows k.0 n ≡ x = cc (k.2) in
      subst (λ y. Fitting y.ranges) e (different_fitting (placed n k.0))

  pub basic_fitting : (kind : ConstraintKind) (ts : Terms) (n : ℕ) (x : Expansion) → basic kind ts n ≡ Ok x → Fitting x.ranges
  basic_fitting (Compare r) (term s (term t no_terms)) n x h = compare_fitting r s t n x h
  basic_fitting AllDifferent (term l no_terms) n x h = all_different_fitting l n x h
  basic_fitting Element (term i (term l (term v no_terms))) n x h = let k = element_ok i l v n x h in subst (λ y. Fitting y.ranges) k.rows (element_fitting _ _ k.elements)
  basic_fitting Atmost (term m (term l (term v no_terms))) n x h =
      let k = atmost_ok m l v n x h in
      subst (λ y. Fitting y.ranges) k.rows (append_fitting (counts k.value (placed n k.members) _) _ (counts_fitting k.value (placed n k.members) _)
      (form_fitting IsAtMost (units (placed n k.members) _) k.limit _ (units_nonzero (placed n k.members) _)))
  basic_fitting _ _ n x h = absurd (cc)
