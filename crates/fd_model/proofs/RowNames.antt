-- The variables that linear rows name.
use Rattle.std.proofs.Common.{◌≡◌, ℕ, suc, ◌<◌, Bool, true, false, cond, ◌==◌, ℤ, pos, negsuc, neg_ℤ, List, [], ◌∷◌, ◌++◌, refl, sym, subst, inl, inr, eqb-true}
use Rattle.std.proofs.Common.{eq-eqb, Result, Ok, Err}
use Rattle.std.specs.Str.{bytes_eq}
use Rattle.std.specs.Prelude.{codes}
use Rattle.std.specs.Ordering.{int_eq}
use Rattle.std.proofs.lemmas.Bool.{or_cases, or_left, true≢false}
use Rattle.fd_model.specs.declared.kinds.QueryFault.{QueryFault}
use Rattle.fd_model.specs.declared.kinds.QueryFault.TheVariants.{BadType}
use Rattle.fd_model.specs.declared.kinds.Relation.{Relation}
use Rattle.fd_model.specs.declared.kinds.Relation.TheVariants.{Greater, AtLeast}
use Rattle.fd_language.specs.Variables.{variables_of, variables_of_all}
use Rattle.fd_language.proofs.Lemmas.{in_left, in_right, has_either}
use Rattle.fd_language.specs.Term.{Term, Terms, Var, Int, Atom, Comp, no_terms, term}
use Rattle.fd_language.specs.Variables.{TermBelow, TermsBelow}
use Rattle.fd_language.specs.Family.{has}
use Rattle.fd_language.specs.Range.{reads, Expr, expr_reads, Number, Min, Max, Val, Sub, Mul}
use Rattle.fd_model.specs.Linear.{Sum, with_product, with_products, scaled, nonzero, plus, times, is_constant, checked, of_both, of_one, sum_of, difference_of}
use Rattle.fd_model.specs.Linear.{product_of, collect_term, Linear, linear_of, collect, normal, Comparison, IsEqual, IsOther, IsAtMost}
use Rattle.fd_model.specs.LinearRows.{by_sign, minus_products, low, high, exact, row, row_by_sign, rows_behind}
use Rattle.fd_model.proofs.CollectedSums.{both_ok, one_ok, test_ok, checked_ok}
use Rattle.fd_model.proofs.DeterminedValues.{NamesIn, names_one}

-- what holds of each variable of a term
abbrev pub EachVariable : (ℕ → Type 0) → Term → Type 0
EachVariable P t = (v : ℕ) → has (variables_of t) v ≡ true → P v

mutual
  pub each_below : (n : ℕ) (t : Term) → TermBelow n t → EachVariable (λ v. v < n) t
  each_below n (Var x) h v e = elim (or_cases (x == v) false e) [ inl k ↦ subst (λ w. w < n) (eqb-true x v k) h | inr k ↦ absurd (true≢false (sym k)) ]
  each_below n (Int z) h v e = absurd (true≢false (sym e))
  each_below n (Atom a) h v e = absurd (true≢false (sym e))
  each_below n (Comp f ts) h v e = all_below n ts h v e

  all_below : (n : ℕ) (ts : Terms) → TermsBelow n ts → (v : ℕ) → has (variables_of_all ts) v ≡ true → v < n
  all_below n no_terms h v e = absurd (true≢false (sym e))
  all_below n (term t ts) h v e = elim (has_either (variables_of t) (variables_of_all ts) v e) [ inl k ↦ each_below n t h.0 v k | inr k ↦ all_below n ts h.1 v k ]

-- what holds of each variable of terms holds of each that their rows name
module _ (P : ℕ → Type 0) where
  abbrev pub AllVars : List (ℕ × ℤ) → Type 0
  AllVars [] = Unit {0}
  AllVars (t ∷ ts) = P t.0 × AllVars ts

  vars_one : (c : Bool) (x y : ℕ) (z a : ℤ) (ts us : List (ℕ × ℤ)) → P x → P y → AllVars ts → AllVars us → AllVars (cond c ((x, z) ∷ ts) ((y, a) ∷ us))
  vars_one true x y z a ts us h g k l = (h, k)
  vars_one false x y z a ts us h g k l = (g, l)

  pub vars_product : (ts : List (ℕ × ℤ)) (x : ℕ) (a : ℤ) → AllVars ts → P x → AllVars (with_product ts x a)
  vars_product [] x a h l = (l, tt)
  vars_product (t ∷ ts) x a h l = vars_one (t.0 == x) x t.0 _ t.1 ts (with_product ts x a) l h.0 h.1 (vars_product ts x a h.1 l)

  pub vars_products : (ts us : List (ℕ × ℤ)) → AllVars ts → AllVars us → AllVars (with_products ts us)
  vars_products ts [] h g = h
  vars_products ts (u ∷ us) h g = vars_products (with_product ts u.0 u.1) us (vars_product ts u.0 u.1 h g.0) g.1

  pub vars_scaled : (k : ℤ) (ts : List (ℕ × ℤ)) → AllVars ts → AllVars (scaled k ts)
  vars_scaled k [] h = tt
  vars_scaled k (t ∷ ts) h = (h.0, vars_scaled k ts h.1)

  pub vars_nonzero : (ts : List (ℕ × ℤ)) → AllVars ts → AllVars (nonzero ts)
  vars_nonzero [] h = tt
  vars_nonzero (t ∷ ts) h = by_test (int_eq t.1 (pos 0)) (vars_nonzero ts h.1) where
    by_test : (c : Bool) → AllVars (nonzero ts) → AllVars (cond c (nonzero ts) (t ∷ nonzero ts))
    by_test true g = g
    by_test false g = (h.0, g)

  abbrev Vars : Sum → Type 0
  Vars s = AllVars s.products

  vars_checked : (s t : Sum) → Vars s → checked s ≡ Ok t → Vars t
  vars_checked s t h e = subst Vars (checked_ok s t e).0 h

  vars_product_of : (s t u : Sum) → Vars s → Vars t → product_of s t ≡ Ok u → Vars u
  vars_product_of s t u h g e =
      test_ok (is_constant s) (checked (times s.constant t)) (cond (is_constant t) (checked (times t.constant s)) (Err _)) u (Vars u) e
      (λ c f. vars_checked (times s.constant t) u (vars_scaled s.constant t.products g) f)
      (λ c f. test_ok (is_constant t) (checked (times t.constant s)) (Err _) u (Vars u) f
      (λ d k. vars_checked (times t.constant s) u (vars_scaled t.constant s.products h) k)
      (λ d k. absurd (cc)))

  vars_operator : (p q r : Bool) (s t : Result Sum QueryFault) (u : Sum) → ((v : Sum) → s ≡ Ok v → Vars v) → ((v : Sum) → t ≡ Ok v → Vars v)
      → cond p (of_both sum_of s t) (cond q (of_both difference_of s t) (cond r (of_both product_of s t) (Err BadType))) ≡ Ok u → Vars u
  vars_operator true q r s t u f g h = let k = both_ok sum_of s t u h in
      vars_checked (plus k.left k.right) u (vars_products k.left.products k.right.products (f k.left k.from_left) (g k.right k.from_right)) k.both
  vars_operator false true r s t u f g h =
      let k = both_ok difference_of s t u h in
      vars_checked (plus k.left (times (negsuc 0) k.right)) u
      (vars_products k.left.products (scaled (negsuc 0) k.right.products) (f k.left k.from_left)
      (vars_scaled (negsuc 0) k.right.products (g k.right k.from_right))) k.both
  vars_operator false false true s t u f g h = let k = both_ok product_of s t u h in vars_product_of k.left k.right u (f k.left k.from_left) (g k.right k.from_right) k.both
  vars_operator false false false s t u f g h = absurd (cc)

  pub collected_vars : (t : Term) (s : Sum) → EachVariable P t → collect_term t ≡ Ok s → Vars s
  collected_vars (Var x) s l h = vars_checked (record { products = (x, pos 1) ∷ []; constant = pos 0 }) s (l x (or_left _ _ (eq-eqb x x refl)), tt) h
  collected_vars (Int z) s l h = vars_checked (record { products = []; constant = z }) s tt h
  collected_vars (Comp f (term a no_terms)) s l h =
      test_ok (bytes_eq f (codes "-")) (of_one (λ s. checked (times (negsuc 0) s)) (collect_term a)) (Err BadType) s (Vars s) h
      (λ c e. let k = one_ok (λ s. checked (times (negsuc 0) s)) (collect_term a) s e in
      vars_checked (times (negsuc 0) k.0) s (vars_scaled (negsuc 0) k.0.products
      (collected_vars a k.0 (λ v g. l v (in_left (variables_of a) [] v g)) k.1)) k.2)
      (λ c e. absurd (cc))
  collected_vars (Comp f (term a (term c no_terms))) s l h =
      vars_operator (bytes_eq f (codes "+")) (bytes_eq f (codes "-")) (bytes_eq f (codes "*")) (collect_term a) (collect_term c) s
      (λ v e. collected_vars a v (λ w g. l w (in_left (variables_of a) (variables_of c ++ []) w g)) e)
      (λ v e. collected_vars c v (λ w g. l w (in_right (variables_of a) (variables_of c ++ []) w (in_left (variables_of c) [] w g))) e) h
  collected_vars _ s l h = absurd (cc)

  pub collect_vars : (s t : Term) (l : Linear) → EachVariable P s → EachVariable P t → collect s t ≡ Ok l → AllVars l.products
  collect_vars s t l h k e =
      let j = one_ok linear_of (of_both difference_of (collect_term s) (collect_term t)) l e in
      let g : record { products = nonzero j.0.products; constant = neg_ℤ j.0.constant } ≡ l = cc (j.2) in
      let b = both_ok difference_of (collect_term s) (collect_term t) j.0 j.1 in
      subst (λ w. AllVars w.products) g (vars_nonzero j.0.products
      (vars_checked (plus b.left (times (negsuc 0) b.right)) j.0
      (vars_products b.left.products (scaled (negsuc 0) b.right.products) (collected_vars s b.left h b.from_left)
      (vars_scaled (negsuc 0) b.right.products (collected_vars t b.right k b.from_right))) b.both))

  pub normal_vars : (r : Relation) (l : Linear) → AllVars l.products → AllVars (normal r l).products
  normal_vars Greater l h = vars_scaled (negsuc 0) l.products h
  normal_vars AtLeast l h = vars_scaled (negsuc 0) l.products h
  normal_vars _ l h = h

  -- and what holds of the variables of the products holds of all that the rows name
  vars_append : (ts us : List (ℕ × ℤ)) → AllVars ts → AllVars us → AllVars (ts ++ us)
  vars_append [] us h g = g
  vars_append (t ∷ ts) us h g = (h.0, vars_append ts us h.1 g)

  abbrev Reads : (ℕ → Expr) → Type 0
  Reads f = (x : ℕ) → expr_reads (f x) ≡ x ∷ []

  sign_reads : (f g : ℕ → Expr) → Reads f → Reads g → (x : ℕ) (z : ℤ) → expr_reads (by_sign f g x z) ≡ x ∷ []
  sign_reads f g h k x (pos n) = h x
  sign_reads f g h k x (negsuc n) = k x

  abbrev Named : List ℕ → Type 0
  Named xs = (v : ℕ) → has xs v ≡ true → P v

  named_none : Named []
  named_none v h = absurd (true≢false (sym h))

  named_either : (xs ys : List ℕ) → Named xs → Named ys → Named (xs ++ ys)
  named_either xs ys h g v e = elim (has_either xs ys v e) [ inl k ↦ h v k | inr k ↦ g v k ]

  named_one : (x : ℕ) (xs : List ℕ) → xs ≡ x ∷ [] → P x → Named xs
  named_one x xs e h v k = elim (or_cases (x == v) (has [] v) (subst (λ ys. has ys v ≡ true) e k)) [ inl l ↦ subst P (eqb-true x v l) h | inr l ↦ absurd (true≢false (sym l)) ]

  less_names : (f g : ℕ → Expr) → Reads f → Reads g → (e : Expr) (ts : List (ℕ × ℤ)) → Named (expr_reads e) → AllVars ts → Named (expr_reads (minus_products f g e ts))
  less_names f g h k e [] n a = n
  less_names f g h k e (t ∷ ts) n a =
      less_names f g h k (Sub e (Mul (Number t.1) (by_sign f g t.0 t.1))) ts
      (named_either (expr_reads e) (expr_reads (by_sign f g t.0 t.1)) n (named_one t.0 (expr_reads (by_sign f g t.0 t.1)) (sign_reads f g h k t.0 t.1) a.0)) a.1

  quotient_names : (e : Expr) → Named (expr_reads e) → Named (expr_reads e ++ [])
  quotient_names e h = named_either (expr_reads e) [] h named_none

  row_names : (k : Comparison) (turn : Bool) (c : ℤ) (ts : List (ℕ × ℤ)) (a : ℕ) → AllVars ts → Named (reads (row k turn c ts a))
  row_names k turn c ts a h = by_kind k turn where
    i : Named (expr_reads (low c ts) ++ [])
    i = quotient_names (low c ts) (less_names Max Min (λ x. refl) (λ x. refl) (Number c) ts named_none h)

    j : Named (expr_reads (high c ts) ++ [])
    j = quotient_names (high c ts) (less_names Min Max (λ x. refl) (λ x. refl) (Number c) ts named_none h)

    e : Named (expr_reads (exact c ts) ++ [])
    e = quotient_names (exact c ts) (less_names Val Val (λ x. refl) (λ x. refl) (Number c) ts named_none h)

    by_kind : (k : Comparison) (turn : Bool) → Named (reads (row k turn c ts a))
    by_kind IsEqual turn = named_either (expr_reads (low c ts) ++ []) (expr_reads (high c ts) ++ []) i j
    by_kind IsOther turn = named_either (expr_reads (exact c ts) ++ []) (expr_reads (exact c ts) ++ []) e e
    by_kind IsAtMost false = j
    by_kind IsAtMost true = named_either (expr_reads (low c ts) ++ []) [] i named_none

  pub signed_names : (k : Comparison) (c : ℤ) (ts : List (ℕ × ℤ)) (z : ℤ) → AllVars ts → Named (reads (row_by_sign k c ts z))
  signed_names k c ts (pos a) h = row_names k false c ts a h
  signed_names k c ts (negsuc a) h = row_names k true (neg_ℤ c) (scaled (negsuc 0) ts) (suc a) (vars_scaled (negsuc 0) ts h)

  pub rows_names : (k : Comparison) (c : ℤ) (before ts : List (ℕ × ℤ)) → AllVars before → AllVars ts → NamesIn P (rows_behind k c before ts)
  rows_names k c before [] b h = named_none
  rows_names k c before (t ∷ ts) b h =
      names_one P (record { target = t.0; range = row_by_sign k c (before ++ ts) t.1 }) (rows_behind k c (before ++ t ∷ []) ts) h.0
      (signed_names k c (before ++ ts) t.1 (vars_append before ts b h.1)) (rows_names k c (before ++ t ∷ []) ts (vars_append before (t ∷ []) b (h.0, tt)) h.1)
