-- The variables that the ranges of products and Boolean constraints name.
use Rattle.std.proofs.Common.{◌≡◌, ℕ, suc, true, ◌==◌, ℤ, pos, negsuc, ◌+ℤ◌, ◌-ℤ◌, neg_ℤ, List, [], ◌∷◌, ◌++◌, refl, sym, subst, inl, inr, ◌⊎◌, arith, eqb-true}
use Rattle.std.proofs.Common.{eq-eqb, Ok}
use Rattle.std.proofs.lemmas.Bool.{or_cases, or_left, true≢false}
use Rattle.fd_language.specs.Lists.{Each}
use Rattle.fd_language.specs.Family.{has}
use Rattle.fd_language.specs.Range.{Indexical, reads}
use Rattle.fd_model.specs.ClosedFamilies.{constrained}
use Rattle.fd_model.specs.Linear.{Linear, Comparison, IsEqual, IsOther, IsAtMost, scaled, turned, with_product}
use Rattle.fd_model.specs.LinearRows.{rows_behind}
use Rattle.fd_model.specs.ProductRows.{product, quotient, product_ranges}
use Rattle.fd_model.specs.BooleanRows.{bit, and_ranges, or_ranges, not_ranges, conjunct, disjunction, disjunct, negation}
use Rattle.fd_model.specs.ReifiedRows.{reach, equal_ranges, reified_sums, reified_ranges}
use Rattle.fd_model.specs.Splitting.{sum_rows}
use Rattle.fd_model.proofs.DeterminedValues.{NamesIn, names_one}
use Rattle.fd_model.proofs.RowNames.{AllVars, vars_product, vars_scaled, vars_nonzero, rows_names}
use Rattle.fd_model.proofs.ListNames.{names_append, named_right, none_named}
use Rattle.fd_model.proofs.Splits.{IsAgain}
use Rattle.fd_model.proofs.SplitSums.{AllSums, IsTeller, sums_each}

-- the members of a list
named_list : (P : ℕ → Type 0) (xs : List ℕ) → Each P xs → (v : ℕ) → has xs v ≡ true → P v
named_list P [] h v e = absurd (true≢false (sym e))
named_list P (x ∷ xs) h v e = elim (or_cases (x == v) (has xs v) e) [ inl k ↦ subst P (eqb-true x v k) h.0 | inr k ↦ named_list P xs h.1 v k ]

-- a range and those behind it
range_named : (P : ℕ → Type 0) (p : Indexical) (ps : List Indexical) → P p.target → Each P (reads p.range) → NamesIn P ps → NamesIn P (p ∷ ps)
range_named P p ps t r h = names_one P p ps t (named_list P (reads p.range) r) h

-- a target is named
there : (ps : List Indexical) (p : Indexical) (qs : List Indexical) → has (constrained (ps ++ p ∷ qs)) p.target ≡ true
there ps p qs = named_right ps (p ∷ qs) p.target (or_left _ _ (eq-eqb p.target p.target refl))

-- so are all of a list
pub each_there : (ps : List Indexical) (xs : List ℕ) → Each (λ v. has (constrained ps) v ≡ true) xs → (v : ℕ) → has xs v ≡ true → has (constrained ps) v ≡ true
each_there ps xs h = named_list (λ v. has (constrained ps) v ≡ true) xs h

module _ (P : ℕ → Type 0) where
  pub product_names : (x y z : ℕ) → Each P (x ∷ y ∷ z ∷ []) → NamesIn P (product_ranges x y z)
  product_names x y z h =
      let p : Indexical = record { target = z; range = product x y } in
      let q : Indexical = record { target = x; range = quotient z y } in
      let r : Indexical = record { target = y; range = quotient z x } in
      let hx = h.0 in let hy = h.1.0 in let hz = h.1.1.0 in
      range_named P p (q ∷ r ∷ []) hz (hx, (hy, (hx, (hy, tt)))) (range_named P q (r ∷ []) hx (hz, (hy, (hz, (hy, tt)))) (range_named P r [] hy (hz, (hx, (hz, (hx, tt)))) (none_named P)))

  pub and_names : (x y z : ℕ) → Each P (x ∷ y ∷ z ∷ []) → NamesIn P (and_ranges x y z)
  and_names x y z h =
      let p : Indexical = record { target = z; range = product x y } in
      let q : Indexical = record { target = x; range = conjunct z y } in
      let r : Indexical = record { target = y; range = conjunct z x } in
      let hx = h.0 in let hy = h.1.0 in let hz = h.1.1.0 in
      range_named P (bit x) (bit y ∷ p ∷ q ∷ r ∷ []) hx tt (range_named P (bit y) (p ∷ q ∷ r ∷ []) hy tt
      (range_named P p (q ∷ r ∷ []) hz (hx, (hy, (hx, (hy, tt)))) (range_named P q (r ∷ []) hx (hz, (hz, (hy, tt))) (range_named P r [] hy (hz, (hz, (hx, tt))) (none_named P)))))

  pub or_names : (x y z : ℕ) → Each P (x ∷ y ∷ z ∷ []) → NamesIn P (or_ranges x y z)
  or_names x y z h =
      let p : Indexical = record { target = z; range = disjunction x y } in
      let q : Indexical = record { target = x; range = disjunct z y } in
      let r : Indexical = record { target = y; range = disjunct z x } in
      let hx = h.0 in let hy = h.1.0 in let hz = h.1.1.0 in
      range_named P (bit x) (bit y ∷ p ∷ q ∷ r ∷ []) hx tt (range_named P (bit y) (p ∷ q ∷ r ∷ []) hy tt
      (range_named P p (q ∷ r ∷ []) hz (hx, (hy, (hx, (hy, tt)))) (range_named P q (r ∷ []) hx (hz, (hy, (hz, tt))) (range_named P r [] hy (hz, (hx, (hz, tt))) (none_named P)))))

  pub not_names : (x y : ℕ) → Each P (x ∷ y ∷ []) → NamesIn P (not_ranges x y)
  not_names x y h =
      let p : Indexical = record { target = x; range = negation y } in
      let q : Indexical = record { target = y; range = negation x } in
      range_named P p (q ∷ []) h.0 (h.1.0, (h.1.0, tt)) (range_named P q [] h.1.0 (h.0, (h.0, tt)) (none_named P))

  equal_names : (x f g : ℕ) → P x → P f → P g → NamesIn P (equal_ranges x f g)
  equal_names x f g hx hf hg = range_named P (bit f) (bit g ∷ and_ranges f g x) hf tt (range_named P (bit g) (and_ranges f g x) hg tt (and_names f g x (hf, (hg, (hx, tt)))))

  -- what tells, and is told by
  range_names : (c : Comparison) (x m : ℕ) → ((f : ℕ) → IsTeller c x m f → P f) → NamesIn P (reified_ranges c x m)
  range_names IsAtMost x m h = range_named P (bit x) [] (h x (inl refl)) tt (none_named P)
  range_names IsEqual x m h = equal_names x m (suc m) (h x (inl refl)) (h m (inr (omega arith, omega arith))) (h (suc m) (inr (omega arith, omega arith)))
  range_names IsOther x m h =
      let one = h m (inr (omega arith, omega arith)) in
      names_append P (equal_ranges m (suc m) (suc (suc m))) (not_ranges m x)
      (equal_names m (suc m) (suc (suc m)) one (h (suc m) (inr (omega arith, omega arith))) (h (suc (suc m)) (inr (omega arith, omega arith))))
      (not_names m x (one, (h x (inl refl), tt)))

  sums_names : (ls : List Linear) → AllSums (λ u. AllVars P u.products) ls → NamesIn P (sum_rows ls)
  sums_names [] h = none_named P
  sums_names (l ∷ ls) h = names_append P (rows_behind IsAtMost l.constant [] l.products) (sum_rows ls) (rows_names P IsAtMost l.constant [] l.products tt h.0) (sums_names ls h.1)

  again_vars : (ts : List (ℕ × ℤ)) (c : ℤ) (u : Linear) → IsAgain ts c u → AllVars P ts → AllVars P u.products
  again_vars ts c u i h = subst (λ (m : Linear). AllVars P m.products) i.is (vars_nonzero P ts h)

  either_vars : (k l : Linear) → AllVars P l.products → (k ≡ l) ⊎ (k ≡ turned l) → AllVars P k.products
  either_vars k l h (inl e) = subst (λ (m : Linear). AllVars P m.products) (sym e) h
  either_vars k l h (inr e) = subst (λ (m : Linear). AllVars P m.products) (sym e) (vars_scaled P (negsuc 0) l.products h)

  -- all that the ranges name
  pub reified_names : (M : ℕ) (c : Comparison) (x m : ℕ) (l : Linear) (ls : List Linear) → reified_sums M c x m l ≡ Ok ls → AllVars P l.products
      → ((f : ℕ) → IsTeller c x m f → P f) → NamesIn P (reified_ranges c x m ++ sum_rows ls)
  reified_names M c x m l ls e vars h = names_append P (reified_ranges c x m) (sum_rows ls) (range_names c x m h) (sums_names ls
      (sums_each (λ u. AllVars P u.products) M x m l c ls e (λ f k t o w.
      let v = vars_product P k.products f (pos (reach M l)) (either_vars k l vars o) (h f t) in (
        (λ u i. again_vars (with_product k.products f (pos (reach M l))) (k.constant +ℤ pos (reach M l)) u i v),
        (λ u i. again_vars (scaled (negsuc 0) (with_product k.products f (pos (reach M l)))) (neg_ℤ k.constant -ℤ pos 1) u i
            (vars_scaled P (negsuc 0) (with_product k.products f (pos (reach M l))) v)),
      ))))

-- and what they do name
abbrev pub AreThere : List Indexical → List ℕ → Type 0
AreThere ps xs = Each (λ v. has (constrained ps) v ≡ true) xs

pub product_there : (x y z : ℕ) → AreThere (product_ranges x y z) (x ∷ y ∷ z ∷ [])
product_there x y z =
    let p : Indexical = record { target = z; range = product x y } in
    let q : Indexical = record { target = x; range = quotient z y } in
    let r : Indexical = record { target = y; range = quotient z x } in
    (there (p ∷ []) q (r ∷ []), (there (p ∷ q ∷ []) r [], (there [] p (q ∷ r ∷ []), tt)))

pub and_there : (x y z : ℕ) → AreThere (and_ranges x y z) (x ∷ y ∷ z ∷ [])
and_there x y z =
    let p : Indexical = record { target = z; range = product x y } in
    let q : Indexical = record { target = x; range = conjunct z y } in
    let r : Indexical = record { target = y; range = conjunct z x } in
    (there [] (bit x) (bit y ∷ p ∷ q ∷ r ∷ []), (there (bit x ∷ []) (bit y) (p ∷ q ∷ r ∷ []), (there (bit x ∷ bit y ∷ []) p (q ∷ r ∷ []), tt)))

pub or_there : (x y z : ℕ) → AreThere (or_ranges x y z) (x ∷ y ∷ z ∷ [])
or_there x y z =
    let p : Indexical = record { target = z; range = disjunction x y } in
    let q : Indexical = record { target = x; range = disjunct z y } in
    let r : Indexical = record { target = y; range = disjunct z x } in
    (there [] (bit x) (bit y ∷ p ∷ q ∷ r ∷ []), (there (bit x ∷ []) (bit y) (p ∷ q ∷ r ∷ []), (there (bit x ∷ bit y ∷ []) p (q ∷ r ∷ []), tt)))

pub not_there : (x y : ℕ) → AreThere (not_ranges x y) (x ∷ y ∷ [])
not_there x y =
    let p : Indexical = record { target = x; range = negation y } in
    let q : Indexical = record { target = y; range = negation x } in
    (there [] p (q ∷ []), (there (p ∷ []) q [], tt))

pub equal_there : (x f g : ℕ) → AreThere (equal_ranges x f g) (f ∷ g ∷ x ∷ [])
equal_there x f g =
    let a = and_there f g x in (
      there [] (bit f) (bit g ∷ and_ranges f g x),
      (there (bit f ∷ []) (bit g) (and_ranges f g x), (named_right (bit f ∷ bit g ∷ []) (and_ranges f g x) x a.1.1.0, tt)),
    )

-- the teller
pub teller_there : (c : Comparison) (x m : ℕ) → has (constrained (reified_ranges c x m)) x ≡ true
teller_there IsAtMost x m = there [] (bit x) []
teller_there IsEqual x m = (equal_there x m (suc m)).1.1.0
teller_there IsOther x m = named_right (equal_ranges m (suc m) (suc (suc m))) (not_ranges m x) x (not_there m x).1.0
