-- Linear forms of terms under other names of their variables.
use Rattle.std.proofs.Common.{◌≡◌, ℕ, suc, ◌^◌, Bool, true, false, cond, ◌==◌, ◌&&◌, not, nat_lt, ℤ, pos, negsuc, neg_ℤ, ◌+ℤ◌, ◌*ℤ◌, List, [], ◌∷◌, length}
use Rattle.std.proofs.Common.{codes, refl, ap, ◌∙◌, eq-eqb, Result, Ok, Err}
use Rattle.std.specs.List.{list_all}
use Rattle.std.specs.Ordering.{int_eq}
use Rattle.std.specs.Str.{bytes_eq}
use Rattle.std.proofs.lemmas.Bool.{or_left}
use Rattle.fd_model.specs.declared.kinds.QueryFault.{QueryFault}
use Rattle.fd_model.specs.declared.kinds.QueryFault.TheVariants.{BadType, Evaluation, Nonlinear}
use Rattle.fd_model.specs.declared.kinds.Relation.{Relation}
use Rattle.fd_model.specs.declared.kinds.Relation.TheVariants.{Equal, Differ, Less, AtMost, Greater, AtLeast}
use Rattle.fd_language.specs.Term.{Term, Var, Int, Atom, Comp, no_terms, term, Substitution, apply}
use Rattle.fd_language.specs.Family.{has}
use Rattle.fd_language.specs.Variables.{variables_of, variables_of_all}
use Rattle.fd_model.specs.Linear.{Sum, with_product, with_products, scaled, nonzero, plus, times, is_constant, in_integers, are_few, is_within, checked}
use Rattle.fd_model.specs.Linear.{of_both, of_one, sum_of, difference_of, product_of, collect_term, Linear, linear_of, collect, normal, normal_form}
use Rattle.fd_language.proofs.Lemmas.{two, in_left, in_right}
use Rattle.fd_model.proofs.Lemmas.{same_test, AllVars, vars_product, vars_scaled, collected_vars}
use Rattle.branch_meaning.specs.Rows.{rename_products}

abbrev pub rename_sum : (ℕ → ℕ) → Result Sum QueryFault → Result Sum QueryFault
rename_sum f (Err e) = Err e
rename_sum f (Ok s) = Ok (record { products = rename_products f s.products; constant = s.constant })

abbrev pub rename_linear : (ℕ → ℕ) → Result Linear QueryFault → Result Linear QueryFault
rename_linear f (Err e) = Err e
rename_linear f (Ok l) = Ok (record { products = rename_products f l.products; constant = l.constant })

module _ (f : ℕ → ℕ) where
  abbrev renamed : Sum → Sum
  renamed s = record { products = rename_products f s.products; constant = s.constant }

  pub scaled_renamed : (k : ℤ) (ts : List (ℕ × ℤ)) → scaled k (rename_products f ts) ≡ rename_products f (scaled k ts)
  scaled_renamed k [] = refl
  scaled_renamed k (t ∷ ts) = ap (λ l. (f t.0, k *ℤ t.1) ∷ l) (scaled_renamed k ts)

  pub nonzero_renamed : (ts : List (ℕ × ℤ)) → nonzero (rename_products f ts) ≡ rename_products f (nonzero ts)
  nonzero_renamed [] = refl
  nonzero_renamed (t ∷ ts) = by_test (int_eq t.1 (pos 0)) (nonzero_renamed ts) where
    by_test : (c : Bool) → nonzero (rename_products f ts) ≡ rename_products f (nonzero ts)
        → cond c (nonzero (rename_products f ts)) ((f t.0, t.1) ∷ nonzero (rename_products f ts)) ≡ rename_products f (cond c (nonzero ts) (t ∷ nonzero ts))
    by_test true e = e
    by_test false e = ap (λ l. (f t.0, t.1) ∷ l) e

  as_many : (ts : List (ℕ × ℤ)) → length (rename_products f ts) ≡ length ts
  as_many [] = refl
  as_many (t ∷ ts) = ap suc (as_many ts)

  pub all_renamed : (p : ℤ → Bool) (ts : List (ℕ × ℤ)) → list_all (λ t. p t.1) (rename_products f ts) ≡ list_all (λ t. p t.1) ts
  all_renamed p [] = refl
  all_renamed p (t ∷ ts) = ap (λ b. p t.1 && b) (all_renamed p ts)

  few_renamed : (ts : List (ℕ × ℤ)) → are_few (rename_products f ts) ≡ are_few ts
  few_renamed ts = ap (λ n. not (nat_lt (2 ^ 31) n)) (ap length (nonzero_renamed ts) ∙ as_many (nonzero ts))

  within_renamed : (s : Sum) → is_within (renamed s) ≡ is_within s
  within_renamed s = two (λ a b. in_integers s.constant && (a && b)) (all_renamed in_integers s.products) (few_renamed s.products)

  checked_renamed : (s : Sum) → checked (renamed s) ≡ rename_sum f (checked s)
  checked_renamed s = ap (λ c. cond c (Ok (renamed s)) (Err Evaluation)) (within_renamed s) ∙ by_test (is_within s) where
    by_test : (c : Bool) → cond c (Ok (renamed s)) (Err Evaluation) ≡ rename_sum f (cond c (Ok s) (Err Evaluation))
    by_test true = refl
    by_test false = refl

  times_renamed : (k : ℤ) (s : Sum) → times k (renamed s) ≡ renamed (times k s)
  times_renamed k s = ap (λ l. record { products = l; constant = k *ℤ s.constant }) (scaled_renamed k s.products)

  product_of_renamed : (s t : Sum) → product_of (renamed s) (renamed t) ≡ rename_sum f (product_of s t)
  product_of_renamed s t =
      two (λ c d. cond c (checked (times s.constant (renamed t))) (cond d (checked (times t.constant (renamed s))) (Err Nonlinear)))
      (all_renamed (λ z. int_eq z (pos 0)) s.products) (all_renamed (λ z. int_eq z (pos 0)) t.products)
      ∙ by_tests (is_constant s) (is_constant t)
    where
      one : (k : ℤ) (w : Sum) → checked (times k (renamed w)) ≡ rename_sum f (checked (times k w))
      one k w = ap checked (times_renamed k w) ∙ checked_renamed (times k w)

      by_tests : (c d : Bool) → cond c (checked (times s.constant (renamed t))) (cond d (checked (times t.constant (renamed s))) (Err Nonlinear)) ≡ rename_sum f
          (cond c (checked (times s.constant t)) (cond d (checked (times t.constant s)) (Err Nonlinear)))
      by_tests true d = one s.constant t
      by_tests false true = one t.constant s
      by_tests false false = refl

  normal_renamed : (r : Relation) (l : Linear) → normal r (record { products = rename_products f l.products; constant = l.constant }) ≡ record
      { products = rename_products f (normal r l).products; constant = (normal r l).constant }
  normal_renamed Equal l = refl
  normal_renamed Differ l = refl
  normal_renamed Less l = refl
  normal_renamed AtMost l = refl
  normal_renamed Greater l = ap (λ ts. record { products = ts; constant = (normal Greater l).constant }) (scaled_renamed (negsuc 0) l.products)
  normal_renamed AtLeast l = ap (λ ts. record { products = ts; constant = (normal AtLeast l).constant }) (scaled_renamed (negsuc 0) l.products)

  pub form_renamed : (r : Relation) (l : Result Linear QueryFault) → of_one (normal_form r) (rename_linear f l) ≡ rename_linear f (of_one (normal_form r) l)
  form_renamed r (Err e) = refl
  form_renamed r (Ok l) = ap (λ (m : Linear). cond (in_integers m.constant) (Ok m) (Err Evaluation)) (normal_renamed r l) ∙ by_test (in_integers (normal r l).constant) where
    by_test : (c : Bool) → cond c (Ok (record { products = rename_products f (normal r l).products; constant = (normal r l).constant }))
        (Err Evaluation) ≡ rename_linear f (cond c (Ok (normal r l)) (Err Evaluation))
    by_test true = refl
    by_test false = refl

  linear_renamed : (s : Result Sum QueryFault) → of_one linear_of (rename_sum f s) ≡ rename_linear f (of_one linear_of s)
  linear_renamed (Err e) = refl
  linear_renamed (Ok s) = ap (λ ts. Ok (record { products = ts; constant = neg_ℤ s.constant })) (nonzero_renamed s.products)

  -- the variables vs have names of their own
  module _ (vs : List ℕ) (apart : (a b : ℕ) → has vs a ≡ true → has vs b ≡ true → f a ≡ f b → a ≡ b) where
    abbrev Among : ℕ → Type 0
    Among v = has vs v ≡ true

    product_renamed : (ts : List (ℕ × ℤ)) (x : ℕ) (a : ℤ) → AllVars Among ts → Among x → with_product (rename_products f ts) (f x) a ≡ rename_products f (with_product ts x a)
    product_renamed [] x a h i = refl
    product_renamed (t ∷ ts) x a h i =
        ap (λ c. cond c ((f x, t.1 +ℤ a) ∷ rename_products f ts) ((f t.0, t.1) ∷ with_product (rename_products f ts) (f x) a)) (same_test f vs t.0 x apart h.0 i)
        ∙ by_test (t.0 == x) (product_renamed ts x a h.1 i)
      where
        by_test : (c : Bool) → with_product (rename_products f ts) (f x) a ≡ rename_products f (with_product ts x a)
            → cond c ((f x, t.1 +ℤ a) ∷ rename_products f ts) ((f t.0, t.1) ∷ with_product (rename_products f ts) (f x) a) ≡ rename_products f (cond c ((x, t.1 +ℤ a) ∷ ts) (t ∷ with_product ts x a))
        by_test true e = refl
        by_test false e = ap (λ l. (f t.0, t.1) ∷ l) e

    products_renamed : (ts us : List (ℕ × ℤ)) → AllVars Among ts → AllVars Among us → with_products (rename_products f ts) (rename_products f us) ≡ rename_products f (with_products ts us)
    products_renamed ts [] h i = refl
    products_renamed ts (w ∷ us) h i = ap (λ l. with_products l (rename_products f us)) (product_renamed ts w.0 w.1 h i.0)
        ∙ products_renamed (with_product ts w.0 w.1) us (vars_product Among ts w.0 w.1 h i.0) i.1

    plus_renamed : (s t : Sum) → AllVars Among s.products → AllVars Among t.products → plus (renamed s) (renamed t) ≡ renamed (plus s t)
    plus_renamed s t h i = ap (λ l. record { products = l; constant = s.constant +ℤ t.constant }) (products_renamed s.products t.products h i)

    sum_renamed : (s t : Sum) → AllVars Among s.products → AllVars Among t.products → sum_of (renamed s) (renamed t) ≡ rename_sum f (sum_of s t)
    sum_renamed s t h i = ap checked (plus_renamed s t h i) ∙ checked_renamed (plus s t)

    difference_renamed : (s t : Sum) → AllVars Among s.products → AllVars Among t.products → difference_of (renamed s) (renamed t) ≡ rename_sum f (difference_of s t)
    difference_renamed s t h i = ap (λ w. checked (plus (renamed s) w)) (times_renamed (negsuc 0) t) ∙ sum_renamed s (times (negsuc 0) t) h (vars_scaled Among (negsuc 0) t.products i)

    abbrev Has : Result Sum QueryFault → Type 0
    Has s = (v : Sum) → s ≡ Ok v → AllVars Among v.products

    both_renamed : (op : Sum → Sum → Result Sum QueryFault)
        → ((s t : Sum) → AllVars Among s.products → AllVars Among t.products → op (renamed s) (renamed t) ≡ rename_sum f (op s t))
        → (s t : Result Sum QueryFault) → Has s → Has t → of_both op (rename_sum f s) (rename_sum f t) ≡ rename_sum f (of_both op s t)
    both_renamed op h (Err e) t i j = refl
    both_renamed op h (Ok s) (Err e) i j = refl
    both_renamed op h (Ok s) (Ok t) i j = h s t (i s refl) (j t refl)

    by_operator : (p q r : Bool) (s t s' t' : Result Sum QueryFault) → s' ≡ rename_sum f s → t' ≡ rename_sum f t → Has s → Has t
        → cond p (of_both sum_of s' t') (cond q (of_both difference_of s' t') (cond r (of_both product_of s' t') (Err BadType))) ≡ rename_sum f
        (cond p (of_both sum_of s t) (cond q (of_both difference_of s t) (cond r (of_both product_of s t) (Err BadType))))
    by_operator true q r s t s' t' a b i j = two (of_both sum_of) a b ∙ both_renamed sum_of sum_renamed s t i j
    by_operator false true r s t s' t' a b i j = two (of_both difference_of) a b ∙ both_renamed difference_of difference_renamed s t i j
    by_operator false false true s t s' t' a b i j = two (of_both product_of) a b ∙ both_renamed product_of (λ x y h g. product_of_renamed x y) s t i j
    by_operator false false false s t s' t' a b i j = refl

    minus_renamed : (s : Result Sum QueryFault) → of_one (λ s. checked (times (negsuc 0) s)) (rename_sum f s) ≡ rename_sum f (of_one (λ s. checked (times (negsuc 0) s)) s)
    minus_renamed (Err e) = refl
    minus_renamed (Ok s) = ap checked (times_renamed (negsuc 0) s) ∙ checked_renamed (times (negsuc 0) s)

    by_minus : (c : Bool) (s s' : Result Sum QueryFault) → s' ≡ rename_sum f s
        → cond c (of_one (λ s. checked (times (negsuc 0) s)) s') (Err BadType) ≡ rename_sum f
        (cond c (of_one (λ s. checked (times (negsuc 0) s)) s) (Err BadType))
    by_minus true s s' e = ap (of_one (λ s. checked (times (negsuc 0) s))) e ∙ minus_renamed s
    by_minus false s s' e = refl

    module _ (u : Substitution) (named : (y : ℕ) → has vs y ≡ true → u y ≡ Var (f y)) where
      term_renamed : (t : Term) → ((y : ℕ) → has (variables_of t) y ≡ true → Among y) → collect_term (apply u t) ≡ rename_sum f (collect_term t)
      term_renamed (Var x) i = ap collect_term (named x (i x (or_left (x == x) false (eq-eqb x x refl)))) ∙ checked_renamed (record { products = (x, pos 1) ∷ []; constant = pos 0 })
      term_renamed (Int z) i = checked_renamed (record { products = []; constant = z })
      term_renamed (Atom a) i = refl
      term_renamed (Comp g no_terms) i = refl
      term_renamed (Comp g (term a no_terms)) i = by_minus (bytes_eq g (codes "-")) (collect_term a) (collect_term (apply u a)) (term_renamed a (λ y e. i y (in_left (variables_of a) [] y e)))
      term_renamed (Comp g (term a (term b no_terms))) i =
          let left : (y : ℕ) → has (variables_of a) y ≡ true → Among y = λ y e. i y (in_left (variables_of a) (variables_of_all (term b no_terms)) y e) in
          let right : (y : ℕ) → has (variables_of b) y ≡ true → Among y = λ y e. i y (in_right (variables_of a) (variables_of_all (term b no_terms)) y (in_left (variables_of b) [] y e)) in
          by_operator (bytes_eq g (codes "+")) (bytes_eq g (codes "-")) (bytes_eq g (codes "*")) (collect_term a) (collect_term b) (collect_term (apply u a)) (collect_term (apply u b))
          (term_renamed a left) (term_renamed b right) (λ v e. collected_vars Among a v left e) (λ v e. collected_vars Among b v right e)
      term_renamed (Comp g (term a (term b (term c ts)))) i = refl

      pub collect_renamed : (s t : Term) → ((y : ℕ) → has (variables_of s) y ≡ true → Among y) → ((y : ℕ) → has (variables_of t) y ≡ true → Among y)
          → collect (apply u s) (apply u t) ≡ rename_linear f (collect s t)
      collect_renamed s t i j =
          ap (of_one linear_of) (two (of_both difference_of) (term_renamed s i) (term_renamed t j)
          ∙ both_renamed difference_of difference_renamed (collect_term s) (collect_term t) (λ v e. collected_vars Among s v i e)
          (λ v e. collected_vars Among t v j e))
          ∙ linear_renamed (of_both difference_of (collect_term s) (collect_term t))
