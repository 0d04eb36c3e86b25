-- What is collected has integers of the language.
use Rattle.std.proofs.Common.{◌≡◌, ℕ, Bool, true, false, cond, ℤ, pos, negsuc, neg_ℤ, List, [], ◌∷◌, Result, Ok, Err, refl, subst, ◌∙◌, ap}
use Rattle.std.proofs.lemmas.Bool.{and_parts}
use Rattle.std.specs.Prelude.{◌&&◌}
use Rattle.std.specs.Ordering.{int_eq}
use Rattle.std.specs.List.{list_all}
use Rattle.fd_language.specs.Term.{Term}
use Rattle.fd_model.specs.declared.kinds.QueryFault.{QueryFault}
use Rattle.fd_model.specs.Linear.{Sum, Linear, nonzero, plus, times, in_integers, are_few, is_within, of_both, of_one, difference_of, collect_term, linear_of}
use Rattle.fd_model.specs.Linear.{collect}
use Rattle.linear_forms.proofs.Signs.{neg_inside, checked_within}

nonzero_inside : (ts : List (ℕ × ℤ)) → list_all (λ (t : ℕ × ℤ). in_integers t.1) ts ≡ true → list_all (λ (t : ℕ × ℤ). in_integers t.1) (nonzero ts) ≡ true
nonzero_inside [] h = h
nonzero_inside (t ∷ ts) h = by (in_integers t.1) refl h (int_eq t.1 (pos 0)) (nonzero_inside ts) where
  by : (b : Bool) → in_integers t.1 ≡ b → (b && list_all (λ (t : ℕ × ℤ). in_integers t.1) ts) ≡ true → (z : Bool)
      → (list_all (λ (t : ℕ × ℤ). in_integers t.1) ts ≡ true → list_all (λ (t : ℕ × ℤ). in_integers t.1) (nonzero ts) ≡ true)
      → list_all (λ (t : ℕ × ℤ). in_integers t.1) (cond z (nonzero ts) (t ∷ nonzero ts)) ≡ true
  by true e g true k = k g
  by true e g false k = ap (λ b. b && list_all (λ (t : ℕ × ℤ). in_integers t.1) (nonzero ts)) e ∙ k g
  by false e g z k = absurd (cc)

-- What is collected has integers of the language.
pub collected_inside : (s t : Term) (l : Linear) → collect s t ≡ Ok l → (list_all (λ (t : ℕ × ℤ). in_integers t.1) l.products ≡ true) × (in_integers l.constant ≡ true)
collected_inside s t l h = by (collect_term s) (collect_term t) h where
  form : (u : Sum) → is_within u ≡ true → linear_of u ≡ Ok l → (list_all (λ (t : ℕ × ℤ). in_integers t.1) l.products ≡ true) × (in_integers l.constant ≡ true)
  form u w e =
      let k = and_parts (in_integers u.constant) (list_all (λ (t : ℕ × ℤ). in_integers t.1) u.products && are_few u.products) w in
      subst (λ (m : Linear). (list_all (λ (t : ℕ × ℤ). in_integers t.1) m.products ≡ true) × (in_integers m.constant ≡ true)) (same u e)
      (nonzero_inside u.products (and_parts _ (are_few u.products) k.1).0, neg_inside u.constant k.0)
    where
      same : (u : Sum) → linear_of u ≡ Ok l → (let m : Linear = record { products = nonzero u.products; constant = neg_ℤ u.constant } in m) ≡ l
      same u e = cc

  checked : (r : Result Sum QueryFault) → ((u : Sum) → r ≡ Ok u → is_within u ≡ true) → of_one linear_of r ≡ Ok l
      → (list_all (λ (t : ℕ × ℤ). in_integers t.1) l.products ≡ true) × (in_integers l.constant ≡ true)
  checked (Ok u) w e = form u (w u refl) e
  checked (Err f) w e = absurd (cc)

  by : (r q : Result Sum QueryFault) → of_one linear_of (of_both difference_of r q) ≡ Ok l → (list_all (λ (t : ℕ × ℤ). in_integers t.1) l.products ≡ true) × (in_integers l.constant ≡ true)
  by (Ok a) (Ok b) e = checked (difference_of a b) (λ u g. (checked_within (plus a (times (negsuc 0) b)) u g).1) e
  by (Ok a) (Err f) e = absurd (cc)
  by (Err f) q e = absurd (cc)
