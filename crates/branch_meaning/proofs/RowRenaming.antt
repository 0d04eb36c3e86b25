-- Rows of constraints under other names of their variables.
use Rattle.std.proofs.Common.{◌≡◌, ℕ, suc, ◌+◌, ◌≤◌, Bool, true, false, cond, ℤ, pos, negsuc, neg_ℤ, List, [], ◌∷◌, ◌++◌, length, map, codes, refl, ap, sym}
use Rattle.std.proofs.Common.{◌∙◌, arith, Result, Ok, Err}
use Rattle.std.specs.Str.{bytes_eq}
use Rattle.std.proofs.lemmas.List.{map-append}
use Rattle.fd_model.specs.declared.kinds.QueryFault.{QueryFault}
use Rattle.fd_model.specs.declared.kinds.QueryFault.TheVariants.{BadType}
use Rattle.fd_model.specs.declared.kinds.Relation.{Relation}
use Rattle.fd_model.specs.declared.kinds.ConstraintKind.{ConstraintKind}
use Rattle.fd_model.specs.declared.kinds.ConstraintKind.TheVariants.{Compare, AllDifferent, Element, Atmost, And, Or, Not, Reified}
use Rattle.fd_language.specs.Term.{Term, Terms, Var, Int, Atom, Comp, no_terms, term, Substitution, apply, apply_all}
use Rattle.fd_language.specs.Family.{has}
use Rattle.fd_language.specs.Variables.{variables_of, variables_of_all}
use Rattle.fd_language.specs.Range.{Range, Span, Outside, Union, Expr, Number, Infinity, Min, Max, Val, Sub, Mul, DivUp, DivDown, Indexical}
use Rattle.fd_language.specs.RangeRenaming.{rename_expr, rename_range, rename_indexical}
use Rattle.fd_model.specs.Linear.{Comparison, IsEqual, IsOther, IsAtMost, scaled, of_both, of_one, Linear, collect, normal_form, comparison}
use Rattle.fd_model.specs.LinearRows.{Expansion, by_sign, minus_products, low, high, exact, row, row_by_sign, rows_behind, compares, no_number, linear_rows}
use Rattle.fd_model.specs.Members.{Member, Open, Known, as_member, as_integer, walk, place_of, after, placed, fresh_after, equated_from}
use Rattle.fd_model.specs.ListRows.{differs, against, pairwise, different_ranges, different_rows, elements_at, index_ranges, union_onto, union_of}
use Rattle.fd_model.specs.ListRows.{element_ranges, element_rows, counts, units, atmost_rows}
use Rattle.fd_model.specs.ConstraintExpansion.{compare, pair, basic}
use Rattle.fd_language.proofs.Lemmas.{two, in_left, in_right}
use Rattle.fd_model.proofs.Lemmas.{first_member}
use Rattle.branch_meaning.specs.Rows.{rename_products, rename_expansion, rename_row}
use Rattle.branch_meaning.proofs.LabelRenaming.{rename_member, rename_members, rename_one, rename_listing, one_renamed, list_renamed}
use Rattle.branch_meaning.proofs.SumRenaming.{rename_linear, scaled_renamed, form_renamed, collect_renamed}

-- A list that is read without variables is read so under other names.
integer_renamed : (u : Substitution) (f : ℕ → ℕ) (t : Term) → ((y : ℕ) → has (variables_of t) y ≡ true → u y ≡ Var (f y)) → as_integer (apply u t) ≡ as_integer t
integer_renamed u f (Var x) h = ap as_integer (h x (first_member x []))
integer_renamed u f (Int z) h = refl
integer_renamed u f (Atom a) h = refl
integer_renamed u f (Comp g ts) h = refl

integers_renamed : (u : Substitution) (f : ℕ → ℕ) (t : Term) → ((y : ℕ) → has (variables_of t) y ≡ true → u y ≡ Var (f y)) → walk as_integer (apply u t) ≡ walk as_integer t
integers_renamed u f (Var x) h = ap (walk as_integer) (h x (first_member x []))
integers_renamed u f (Int z) h = refl
integers_renamed u f (Atom a) h = refl
integers_renamed u f (Comp g no_terms) h = refl
integers_renamed u f (Comp g (term t no_terms)) h = refl
integers_renamed u f (Comp g (term t (term r no_terms))) h =
    two (λ a b. cond (bytes_eq g (codes ".")) (of_both (λ x xs. Ok (x ∷ xs)) a b) (Err BadType))
    (integer_renamed u f t (λ y c. h y (in_left (variables_of t) (variables_of_all (term r no_terms)) y c)))
    (integers_renamed u f r (λ y c. h y (in_right (variables_of t) (variables_of_all (term r no_terms)) y (in_left (variables_of r) [] y c))))
integers_renamed u f (Comp g (term t (term r (term x xs)))) h = refl

module _ (f : ℕ → ℕ) where
  abbrev pub ranges_renamed : List Indexical → List Indexical
  ranges_renamed ps = map (rename_indexical f) ps

  -- the rows of a linear form
  sign_renamed : (F G : ℕ → Expr) → ((x : ℕ) → F (f x) ≡ rename_expr f (F x)) → ((x : ℕ) → G (f x) ≡ rename_expr f (G x)) → (x : ℕ) (z : ℤ) → by_sign F G (f x) z ≡ rename_expr f (by_sign F G x z)
  sign_renamed F G h i x (pos n) = h x
  sign_renamed F G h i x (negsuc n) = i x

  less_renamed : (F G : ℕ → Expr) → ((x : ℕ) → F (f x) ≡ rename_expr f (F x)) → ((x : ℕ) → G (f x) ≡ rename_expr f (G x)) → (e : Expr) (ts : List (ℕ × ℤ))
      → minus_products F G (rename_expr f e) (rename_products f ts) ≡ rename_expr f (minus_products F G e ts)
  less_renamed F G h i e [] = refl
  less_renamed F G h i e (t ∷ ts) = ap (λ x. minus_products F G (Sub (rename_expr f e) (Mul (Number t.1) x)) (rename_products f ts))
      (sign_renamed F G h i t.0 t.1) ∙ less_renamed F G h i (Sub e (Mul (Number t.1) (by_sign F G t.0 t.1))) ts

  low_renamed : (c : ℤ) (ts : List (ℕ × ℤ)) → low c (rename_products f ts) ≡ rename_expr f (low c ts)
  low_renamed c ts = less_renamed Max Min (λ x. refl) (λ x. refl) (Number c) ts

  high_renamed : (c : ℤ) (ts : List (ℕ × ℤ)) → high c (rename_products f ts) ≡ rename_expr f (high c ts)
  high_renamed c ts = less_renamed Min Max (λ x. refl) (λ x. refl) (Number c) ts

  exact_renamed : (c : ℤ) (ts : List (ℕ × ℤ)) → exact c (rename_products f ts) ≡ rename_expr f (exact c ts)
  exact_renamed c ts = less_renamed Val Val (λ x. refl) (λ x. refl) (Number c) ts

  row_renamed : (k : Comparison) (turn : Bool) (c : ℤ) (ts : List (ℕ × ℤ)) (a : ℕ) → row k turn c (rename_products f ts) a ≡ rename_range f (row k turn c ts a)
  row_renamed IsEqual turn c ts a = two (λ x y. Span (DivUp x (Number (pos a))) (DivDown y (Number (pos a)))) (low_renamed c ts) (high_renamed c ts)
  row_renamed IsOther turn c ts a = ap (λ x. Outside (Span (DivUp x (Number (pos a))) (DivDown x (Number (pos a))))) (exact_renamed c ts)
  row_renamed IsAtMost false c ts a = ap (λ x. Span (Number (pos 0)) (DivDown x (Number (pos a)))) (high_renamed c ts)
  row_renamed IsAtMost true c ts a = ap (λ x. Span (DivUp x (Number (pos a))) Infinity) (low_renamed c ts)

  signed_renamed : (k : Comparison) (c : ℤ) (ts : List (ℕ × ℤ)) (z : ℤ) → row_by_sign k c (rename_products f ts) z ≡ rename_range f (row_by_sign k c ts z)
  signed_renamed k c ts (pos a) = row_renamed k false c ts a
  signed_renamed k c ts (negsuc a) = ap (λ l. row k true (neg_ℤ c) l (suc a)) (scaled_renamed f (negsuc 0) ts) ∙ row_renamed k true (neg_ℤ c) (scaled (negsuc 0) ts) (suc a)

  products_both : (ts us : List (ℕ × ℤ)) → rename_products f ts ++ rename_products f us ≡ rename_products f (ts ++ us)
  products_both [] us = refl
  products_both (t ∷ ts) us = ap (λ l. (f t.0, t.1) ∷ l) (products_both ts us)

  pub behind_renamed : (k : Comparison) (c : ℤ) (before ts : List (ℕ × ℤ)) → rows_behind k c (rename_products f before) (rename_products f ts) ≡ ranges_renamed (rows_behind k c before ts)
  behind_renamed k c before [] = refl
  behind_renamed k c before (t ∷ ts) =
      two (λ r l. record { target = f t.0; range = r } ∷ l)
      (ap (λ l. row_by_sign k c l t.1) (products_both before ts) ∙ signed_renamed k c (before ++ ts) t.1)
      (ap (λ l. rows_behind k c l (rename_products f ts)) (products_both before (t ∷ [])) ∙ behind_renamed k c (before ++ t ∷ []) ts)

  form_rows_renamed : (k : Comparison) (ts : List (ℕ × ℤ)) (c : ℤ) (n : ℕ) → f (suc n) ≡ suc (f n) → linear_rows k (rename_products f ts) c (f n) ≡ rename_expansion f (linear_rows k ts c n)
  form_rows_renamed k [] c n h = by_test (compares k (pos 0) c) where
    by_test : (d : Bool) → let x : Expansion = cond d (record { equated = []; ranges = []; fresh = f n })
        (record { equated = []; ranges = record { target = f n; range = no_number } ∷ []; fresh = suc (f n) }) in
        let y : Expansion = cond d (record { equated = []; ranges = []; fresh = n })
        (record { equated = []; ranges = record { target = n; range = no_number } ∷ []; fresh = suc n }) in x ≡ rename_expansion f y
    by_test true = refl
    by_test false = ap (λ m. record { equated = []; ranges = record { target = f n; range = no_number } ∷ []; fresh = m }) (sym h)
  form_rows_renamed k (t ∷ ts) c n h = ap (λ ps. record { equated = []; ranges = ps; fresh = f n }) (behind_renamed k c [] (t ∷ ts))

  -- those of the constraints on lists
  against_renamed : (x : ℕ) (ys : List ℕ) → against (f x) (map f ys) ≡ ranges_renamed (against x ys)
  against_renamed x [] = refl
  against_renamed x (y ∷ ys) = ap (λ l. differs (f x) (f y) ∷ differs (f y) (f x) ∷ l) (against_renamed x ys)

  pairwise_renamed : (xs : List ℕ) → pairwise (map f xs) ≡ ranges_renamed (pairwise xs)
  pairwise_renamed [] = refl
  pairwise_renamed (x ∷ xs) = two (λ a b. a ++ b) (against_renamed x xs) (pairwise_renamed xs) ∙ sym (map-append (rename_indexical f) (against x xs) (pairwise xs))

  different_renamed : (xs : List ℕ) → different_ranges (map f xs) ≡ ranges_renamed (different_ranges xs)
  different_renamed [] = refl
  different_renamed (x ∷ []) = refl
  different_renamed (x ∷ y ∷ ys) = pairwise_renamed (x ∷ y ∷ ys)

  elements_renamed : (i k : ℕ) (zs : List ℤ) → elements_at (f i) k zs ≡ map (rename_range f) (elements_at i k zs)
  elements_renamed i k [] = refl
  elements_renamed i k (z ∷ zs) = let more = elements_renamed i (suc k) zs in cc

  numbers_renamed : (x k : ℕ) (zs : List ℤ) → index_ranges (f x) k zs ≡ map (rename_range f) (index_ranges x k zs)
  numbers_renamed x k [] = refl
  numbers_renamed x k (z ∷ zs) = let more = numbers_renamed x (suc k) zs in cc

  joined_renamed : (r : Range) (rs : List Range) → union_onto (rename_range f r) (map (rename_range f) rs) ≡ rename_range f (union_onto r rs)
  joined_renamed r [] = refl
  joined_renamed r (q ∷ qs) = joined_renamed (Union r q) qs

  union_renamed : (rs : List Range) → union_of (map (rename_range f) rs) ≡ rename_range f (union_of rs)
  union_renamed [] = refl
  union_renamed (r ∷ rs) = joined_renamed r rs

  element_ranges_renamed : (i : ℕ) (zs : List ℤ) (x : ℕ) → element_ranges (f i) zs (f x) ≡ ranges_renamed (element_ranges i zs x)
  element_ranges_renamed i zs x =
      two (λ a b. record { target = f x; range = a } ∷ record { target = f i; range = b } ∷ [])
      (ap union_of (elements_renamed i 1 zs) ∙ union_renamed (elements_at i 1 zs))
      (ap union_of (numbers_renamed x 1 zs) ∙ union_renamed (index_ranges x 1 zs))

  -- from here on fresh variables follow one another as they did
  module _ (n : ℕ) (follows : (m : ℕ) → n ≤ m → f (suc m) ≡ suc (f m)) where
    pub place_renamed : (k : ℕ) (m : Member) → place_of (f k) (rename_member f m) ≡ f (place_of k m)
    place_renamed k (Open x) = refl
    place_renamed k (Known z) = refl

    pub after_renamed : (k : ℕ) (m : Member) → n ≤ k → after (f k) (rename_member f m) ≡ f (after k m)
    after_renamed k (Open x) l = refl
    after_renamed k (Known z) l = sym (follows k l)

    pub after_grows : (k : ℕ) (m : Member) → n ≤ k → n ≤ after k m
    after_grows k (Open x) l = l
    after_grows k (Known z) l = omega (arith, l)

    placed_renamed : (k : ℕ) (ms : List Member) → n ≤ k → placed (f k) (rename_members f ms) ≡ map f (placed k ms)
    placed_renamed k [] l = refl
    placed_renamed k (m ∷ ms) l = two (λ x xs. x ∷ xs) (place_renamed k m) (ap (λ j. placed j (rename_members f ms)) (after_renamed k m l) ∙ placed_renamed (after k m) ms (after_grows k m l))

    pub fresh_renamed : (k : ℕ) (ms : List Member) → n ≤ k → fresh_after (f k) (rename_members f ms) ≡ f (fresh_after k ms)
    fresh_renamed k [] l = refl
    fresh_renamed k (m ∷ ms) l = ap (λ j. fresh_after j (rename_members f ms)) (after_renamed k m l) ∙ fresh_renamed (after k m) ms (after_grows k m l)

    fresh_up : (k : ℕ) (ms : List Member) → n ≤ k → n ≤ fresh_after k ms
    fresh_up k [] l = l
    fresh_up k (m ∷ ms) l = fresh_up (after k m) ms (after_grows k m l)

    pub equated_renamed : (k : ℕ) (ms : List Member) → n ≤ k → equated_from (f k) (rename_members f ms) ≡ rename_products f (equated_from k ms)
    equated_renamed k [] l = refl
    equated_renamed k (Open x ∷ ms) l = equated_renamed k ms l
    equated_renamed k (Known z ∷ ms) l = ap (λ es. (f k, z) ∷ es) (ap (λ j. equated_from j (rename_members f ms)) (sym (follows k l)) ∙ equated_renamed (suc k) ms (omega (arith, l)))

    abbrev made : List (ℕ × ℤ) → List Indexical → ℕ → Expansion
    made a b c = record { equated = a; ranges = b; fresh = c }

    three : (a a' : List (ℕ × ℤ)) (b b' : List Indexical) (c c' : ℕ) → a ≡ a' → b ≡ b' → c ≡ c' → made a b c ≡ made a' b' c'
    three a a' b b' c c' e g h = two (λ x y. made x y c) e g ∙ ap (made a' b') h

    different_rows_renamed : (ms : List Member) → different_rows (rename_members f ms) (f n) ≡ rename_expansion f (different_rows ms n)
    different_rows_renamed ms =
        let l : n ≤ n = omega arith in
        three _ _ _ _ _ _ (equated_renamed n ms l) (ap different_ranges (placed_renamed n ms l) ∙ different_renamed (placed n ms)) (fresh_renamed n ms l)

    element_rows_renamed : (i : Member) (zs : List ℤ) (x : Member) → element_rows (rename_member f i) zs (rename_member f x) (f n) ≡ rename_expansion f (element_rows i zs x n)
    element_rows_renamed i zs x =
        let l : n ≤ n = omega arith in
        let ms : List Member = i ∷ x ∷ [] in
        three _ _ _ _ _ _ (equated_renamed n ms l)
        (two (λ a b. element_ranges a zs b) (place_renamed n i) (ap (λ j. place_of j (rename_member f x)) (after_renamed n i l) ∙ place_renamed (after n i) x)
        ∙ element_ranges_renamed (place_of n i) zs (place_of (after n i) x))
        (fresh_renamed n ms l)

    counts_renamed : (v : ℤ) (xs : List ℕ) (k : ℕ) → n ≤ k → counts v (map f xs) (f k) ≡ ranges_renamed (counts v xs k)
    counts_renamed v [] k l = refl
    counts_renamed v (x ∷ xs) k l = let more = ap (counts v (map f xs)) (sym (follows k l)) ∙ counts_renamed v xs (suc k) (omega (arith, l)) in cc

    units_renamed : (xs : List ℕ) (k : ℕ) → n ≤ k → units (map f xs) (f k) ≡ rename_products f (units xs k)
    units_renamed [] k l = refl
    units_renamed (x ∷ xs) k l = ap (λ ts. (f k, pos 1) ∷ ts) (ap (units (map f xs)) (sym (follows k l)) ∙ units_renamed xs (suc k) (omega (arith, l)))

    end_renamed : (xs : List ℕ) (k : ℕ) → n ≤ k → f k + length (map f xs) ≡ f (k + length xs)
    end_renamed [] k l = (let a : f k + 0 ≡ f k = omega arith in let b : k ≡ k + 0 = omega arith in a ∙ ap f b)
    end_renamed (x ∷ xs) k l =
        let more = end_renamed xs (suc k) (omega (arith, l)) in
        let a : f k + suc (length (map f xs)) ≡ suc (f k) + length (map f xs) = omega arith in
        let b : suc k + length xs ≡ k + suc (length xs) = omega arith in
        a ∙ ap (λ j. j + length (map f xs)) (sym (follows k l)) ∙ more ∙ ap f b

    atmost_rows_renamed : (m : ℤ) (ms : List Member) (v : ℤ) → atmost_rows m (rename_members f ms) v (f n) ≡ rename_expansion f (atmost_rows m ms v n)
    atmost_rows_renamed m ms v =
        let l : n ≤ n = omega arith in
        let xs = placed n ms in
        let k = fresh_after n ms in
        let up : n ≤ k = fresh_up n ms l in
        let more : n ≤ k + length xs = omega (arith, up) in
        let rows = linear_rows IsAtMost (units xs k) m (k + length xs) in
        two (λ ys j. record {
          equated = equated_from (f n) (rename_members f ms);
          ranges = counts v ys j ++ (linear_rows IsAtMost (units ys j) m (j + length ys)).ranges;
          fresh = (linear_rows IsAtMost (units ys j) m (j + length ys)).fresh;
        }) (placed_renamed n ms l) (fresh_renamed n ms l)
        ∙ ap (λ (w : Expansion). record { equated = equated_from (f n) (rename_members f ms); ranges = counts v (map f xs) (f k) ++ w.ranges; fresh = w.fresh })
        (two (λ ts j. linear_rows IsAtMost ts m j) (units_renamed xs k up) (end_renamed xs k up) ∙ form_rows_renamed IsAtMost (units xs k) m (k + length xs) (follows (k + length xs) more))
        ∙ three _ _ _ _ _ _ (equated_renamed n ms l) (ap (λ ps. ps ++ ranges_renamed rows.ranges) (counts_renamed v xs k up) ∙ sym (map-append (rename_indexical f) (counts v xs k) rows.ranges)) refl

    -- by what was read
    by_different : (ms : Result (List Member) QueryFault) → of_one (λ ms. Ok (different_rows ms (f n))) (rename_listing f ms) ≡ rename_row f (of_one (λ ms. Ok (different_rows ms n)) ms)
    by_different (Err e) = refl
    by_different (Ok ms) = ap Ok (different_rows_renamed ms)

    by_element : (i : Result Member QueryFault) (zs : Result (List ℤ) QueryFault) (x : Result Member QueryFault)
        → of_both (λ p y. Ok (element_rows p.0 p.1 y (f n))) (of_both pair (rename_one f i) zs) (rename_one f x) ≡ rename_row f (of_both (λ p y. Ok (element_rows p.0 p.1 y n)) (of_both pair i zs) x)
    by_element (Err e) zs x = refl
    by_element (Ok i) (Err e) x = refl
    by_element (Ok i) (Ok zs) (Err e) = refl
    by_element (Ok i) (Ok zs) (Ok x) = ap Ok (element_rows_renamed i zs x)

    by_atmost : (m : Result ℤ QueryFault) (ms : Result (List Member) QueryFault) (v : Result ℤ QueryFault)
        → of_both (λ p w. Ok (atmost_rows p.0 p.1 w (f n))) (of_both pair m (rename_listing f ms)) v ≡ rename_row f (of_both (λ p w. Ok (atmost_rows p.0 p.1 w n)) (of_both pair m ms) v)
    by_atmost (Err e) ms v = refl
    by_atmost (Ok m) (Err e) v = refl
    by_atmost (Ok m) (Ok ms) (Err e) = refl
    by_atmost (Ok m) (Ok ms) (Ok v) = ap Ok (atmost_rows_renamed m ms v)

    by_form : (r : Relation) (l : Result Linear QueryFault)
        → of_one (λ l. Ok (linear_rows (comparison r) l.products l.constant (f n))) (rename_linear f l) ≡ rename_row f
        (of_one (λ l. Ok (linear_rows (comparison r) l.products l.constant n)) l)
    by_form r (Err e) = refl
    by_form r (Ok l) = ap Ok (form_rows_renamed (comparison r) l.products l.constant n (follows n (omega arith)))

    module _ (u : Substitution) (vs : List ℕ) (apart : (a b : ℕ) → has vs a ≡ true → has vs b ≡ true → f a ≡ f b → a ≡ b) (named : (y : ℕ) → has vs y ≡ true → u y ≡ Var (f y)) where
      compare_renamed : (r : Relation) (s t : Term) → ((y : ℕ) → has (variables_of s) y ≡ true → has vs y ≡ true)
          → ((y : ℕ) → has (variables_of t) y ≡ true → has vs y ≡ true) → compare r (apply u s) (apply u t) (f n) ≡ rename_row f (compare r s t n)
      compare_renamed r s t i j =
          ap (λ w. of_one (λ l. Ok (linear_rows (comparison r) l.products l.constant (f n))) (of_one (normal_form r) w)) (collect_renamed f vs apart u named s t i j)
          ∙ ap (of_one (λ l. Ok (linear_rows (comparison r) l.products l.constant (f n)))) (form_renamed f r (collect s t))
          ∙ by_form r (of_one (normal_form r) (collect s t))

      pub basic_renamed : (kind : ConstraintKind) (ts : Terms) → ((y : ℕ) → has (variables_of_all ts) y ≡ true → has vs y ≡ true) → basic kind (apply_all u ts) (f n) ≡ rename_row f (basic kind ts n)
      basic_renamed (Compare r) no_terms i = refl
      basic_renamed (Compare r) (term s no_terms) i = refl
      basic_renamed (Compare r) (term s (term t no_terms)) i =
          compare_renamed r s t (λ y c. i y (in_left (variables_of s) (variables_of_all (term t no_terms)) y c))
          (λ y c. i y (in_right (variables_of s) (variables_of_all (term t no_terms)) y (in_left (variables_of t) [] y c)))
      basic_renamed (Compare r) (term s (term t (term w ws))) i = refl
      basic_renamed AllDifferent no_terms i = refl
      basic_renamed AllDifferent (term l no_terms) i = ap (of_one (λ ms. Ok (different_rows ms (f n))))
          (list_renamed u f l (λ y c. named y (i y (in_left (variables_of l) [] y c)))) ∙ by_different (walk as_member l)
      basic_renamed AllDifferent (term l (term w ws)) i = refl
      basic_renamed Element no_terms i = refl
      basic_renamed Element (term a no_terms) i = refl
      basic_renamed Element (term a (term l no_terms)) i = refl
      basic_renamed Element (term a (term l (term x no_terms))) i =
          let at_a : (y : ℕ) → has (variables_of a) y ≡ true → u y ≡ Var (f y) = λ y c. named y (i y (in_left (variables_of a) (variables_of_all (term l (term x no_terms))) y c)) in
          let at_l : (y : ℕ) → has (variables_of l) y ≡ true
          → u y ≡ Var (f y) = λ y c. named y (i y (in_right (variables_of a) (variables_of_all (term l (term x no_terms))) y
          (in_left (variables_of l) (variables_of_all (term x no_terms)) y c))) in
          let at_x : (y : ℕ) → has (variables_of x) y ≡ true
          → u y ≡ Var (f y) = λ y c. named y (i y (in_right (variables_of a) (variables_of_all (term l (term x no_terms))) y
          (in_right (variables_of l) (variables_of_all (term x no_terms)) y (in_left (variables_of x) [] y c)))) in
          two (of_both (λ p y. Ok (element_rows p.0 p.1 y (f n)))) (two (of_both pair) (one_renamed u f a at_a) (integers_renamed u f l at_l)) (one_renamed u f x at_x)
          ∙ by_element (as_member a) (walk as_integer l) (as_member x)
      basic_renamed Element (term a (term l (term x (term w ws)))) i = refl
      basic_renamed Atmost no_terms i = refl
      basic_renamed Atmost (term m no_terms) i = refl
      basic_renamed Atmost (term m (term l no_terms)) i = refl
      basic_renamed Atmost (term m (term l (term v no_terms))) i =
          let at_m : (y : ℕ) → has (variables_of m) y ≡ true → u y ≡ Var (f y) = λ y c. named y (i y (in_left (variables_of m) (variables_of_all (term l (term v no_terms))) y c)) in
          let at_l : (y : ℕ) → has (variables_of l) y ≡ true
          → u y ≡ Var (f y) = λ y c. named y (i y (in_right (variables_of m) (variables_of_all (term l (term v no_terms))) y
          (in_left (variables_of l) (variables_of_all (term v no_terms)) y c))) in
          let at_v : (y : ℕ) → has (variables_of v) y ≡ true
          → u y ≡ Var (f y) = λ y c. named y (i y (in_right (variables_of m) (variables_of_all (term l (term v no_terms))) y
          (in_right (variables_of l) (variables_of_all (term v no_terms)) y (in_left (variables_of v) [] y c)))) in
          two (of_both (λ p w. Ok (atmost_rows p.0 p.1 w (f n)))) (two (of_both pair) (integer_renamed u f m at_m) (list_renamed u f l at_l)) (integer_renamed u f v at_v)
          ∙ by_atmost (as_integer m) (walk as_member l) (as_integer v)
      basic_renamed Atmost (term m (term l (term v (term w ws)))) i = refl
      basic_renamed And ts i = refl
      basic_renamed Or ts i = refl
      basic_renamed Not ts i = refl
      basic_renamed Reified ts i = refl
