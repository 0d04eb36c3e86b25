-- The rows of products and Boolean constraints fit the direction table too, and so do all rows.
use Rattle.std.proofs.Common.{◌≡◌, ℕ, suc, true, ℤ, pos, negsuc, ◌+ℤ◌, ◌-ℤ◌, neg_ℤ, List, [], ◌∷◌, Some, refl, subst, inl, inr, Ok}
use Rattle.fd_model.specs.declared.kinds.ConstraintKind.{ConstraintKind}
use Rattle.fd_model.specs.declared.kinds.ConstraintKind.TheVariants.{Compare, And, Or, Not, Reified}
use Rattle.fd_language.specs.Term.{Term, Terms, no_terms, term}
use Rattle.fd_language.specs.Range.{Indexical}
use Rattle.fd_language.specs.Check.{range_fits}
use Rattle.fd_model.specs.ClosedFamilies.{AllPosted}
use Rattle.fd_model.specs.Linear.{Linear, Comparison, IsEqual, IsOther, IsAtMost, scaled, with_product}
use Rattle.fd_model.specs.LinearRows.{Expansion}
use Rattle.fd_model.specs.Members.{place_of, after}
use Rattle.fd_model.specs.ProductRows.{product_form, product_ranges}
use Rattle.fd_model.specs.BooleanRows.{and_ranges, or_ranges, not_ranges}
use Rattle.fd_model.specs.ReifiedRows.{reach, equal_ranges, reified_sums, reified_ranges}
use Rattle.fd_model.specs.Splitting.{Split, sum_rows, joined, of_two, of_three, reified, split}
use Rattle.fd_model.specs.ConstraintExpansion.{expand}
use Rattle.fd_model.specs.ConstraintLaws.{FittingRows}
use Rattle.fd_model.proofs.LinearForms.{NoneZero, nonzero_left}
use Rattle.fd_model.proofs.Splits.{expand_ok, of_some, three_ok, two_ok, product_ok, IsAgain, reified_ok}
use Rattle.fd_model.proofs.SplitSums.{sums_each, sums_posted}
use Rattle.fd_model.proofs.RowDirections.{IsFitting, Fitting, rows_fitting, append_fitting, basic_fitting}

again_nonzero : (ts : List (ℕ × ℤ)) (c : ℤ) (l : Linear) → IsAgain ts c l → NoneZero l.products
again_nonzero ts c l i = subst (λ (m : Linear). NoneZero m.products) i.is (nonzero_left ts)

module _ (M : ℕ) where
  product_fitting : (x y z : ℕ) → Fitting M (product_ranges x y z)
  product_fitting x y z = (record { fits = refl; params = refl }, (record { fits = refl; params = refl }, (record { fits = refl; params = refl }, tt)))

  and_fitting : (x y z : ℕ) → Fitting M (and_ranges x y z)
  and_fitting x y z = (
    record { fits = refl; params = refl },
    (
      record { fits = refl; params = refl },
      (record { fits = refl; params = refl }, (record { fits = refl; params = refl }, (record { fits = refl; params = refl }, tt))),
    ),
  )

  or_fitting : (x y z : ℕ) → Fitting M (or_ranges x y z)
  or_fitting x y z = (
    record { fits = refl; params = refl },
    (
      record { fits = refl; params = refl },
      (record { fits = refl; params = refl }, (record { fits = refl; params = refl }, (record { fits = refl; params = refl }, tt))),
    ),
  )

  not_fitting : (x y : ℕ) → Fitting M (not_ranges x y)
  not_fitting x y = (record { fits = refl; params = refl }, (record { fits = refl; params = refl }, tt))

  equal_fitting : (x f g : ℕ) → Fitting M (equal_ranges x f g)
  equal_fitting x f g = (record { fits = refl; params = refl }, (record { fits = refl; params = refl }, and_fitting f g x))

  range_fitting : (c : Comparison) (x m : ℕ) → Fitting M (reified_ranges c x m)
  range_fitting IsAtMost x m = (record { fits = refl; params = refl }, tt)
  range_fitting IsEqual x m = equal_fitting x m (suc m)
  range_fitting IsOther x m = append_fitting M (equal_ranges m (suc m) (suc (suc m))) (not_ranges m x) (equal_fitting m (suc m) (suc (suc m))) (not_fitting m x)

  sums_fitting : (c : Comparison) (x m : ℕ) (l : Linear) (ls : List Linear) → reified_sums M c x m l ≡ Ok ls → Fitting M (sum_rows ls)
  sums_fitting c x m l ls e =
      sums_posted (λ p. IsFitting M p.range) (λ u. NoneZero u.products) (λ u z. rows_fitting M IsAtMost u.constant [] u.products z) ls
      (sums_each (λ u. NoneZero u.products) M x m l c ls e
      (λ f k t o w. (
        (λ u i. again_nonzero (with_product k.products f (pos (reach M l))) (k.constant +ℤ pos (reach M l)) u i),
        (λ u i. again_nonzero (scaled (negsuc 0) (with_product k.products f (pos (reach M l)))) (neg_ℤ k.constant -ℤ pos 1) u i),
      )))

  three_fitting : (rows : ℕ → ℕ → ℕ → List Indexical) → ((x y z : ℕ) → Fitting M (rows x y z)) → (x y z : Term) (n : ℕ) (s : Split) → of_three rows x y z n ≡ Ok s → Fitting M (joined s).ranges
  three_fitting rows fit x y z n s e =
      let k = three_ok rows x y z n s e in
      let u = place_of n k.first in
      let v = place_of (after n k.first) k.second in
      let w = place_of (after (after n k.first) k.second) k.third in
      subst (λ q. Fitting M (joined q).ranges) k.is (append_fitting M (rows u v w) [] (fit u v w) tt)

  two_fitting : (x y : Term) (n : ℕ) (s : Split) → of_two not_ranges x y n ≡ Ok s → Fitting M (joined s).ranges
  two_fitting x y n s e =
      let k = two_ok not_ranges x y n s e in
      let u = place_of n k.first in
      let v = place_of (after n k.first) k.second in
      subst (λ q. Fitting M (joined q).ranges) k.is (append_fitting M (not_ranges u v) [] (not_fitting u v) tt)

  pub split_fitting : (kind : ConstraintKind) (ts : Terms) (n : ℕ) (s : Split) → split M kind ts n ≡ Some (Ok s) → Fitting M (joined s).ranges
  split_fitting (Compare r) (term t (term u no_terms)) n s e =
      let k = product_ok n (product_form r t u) s e in
      let p = k.product in
      let z = place_of n p.result in
      subst (λ q. Fitting M (joined q).ranges) k.is (append_fitting M (product_ranges p.left p.right z) [] (product_fitting p.left p.right z) tt)
  split_fitting And (term x (term y (term z no_terms))) n s e = three_fitting and_ranges and_fitting x y z n s (of_some (of_three and_ranges x y z n) s e)
  split_fitting Or (term x (term y (term z no_terms))) n s e = three_fitting or_ranges or_fitting x y z n s (of_some (of_three or_ranges x y z n) s e)
  split_fitting Not (term x (term y no_terms)) n s e = two_fitting x y n s (of_some (of_two not_ranges x y n) s e)
  split_fitting Reified (term b (term t no_terms)) n s e =
      let k = reified_ok M b t n s (of_some (reified M b t n) s e) in
      let x = place_of n k.teller in
      let end = after n k.teller in
      subst (λ q. Fitting M (joined q).ranges) k.is
      (append_fitting M (reified_ranges k.kind x end) (sum_rows k.sums) (range_fitting k.kind x end) (sums_fitting k.kind x end k.form k.sums k.sums_are))
  split_fitting _ _ n s e = absurd (cc)

  pub expand_fitting : (kind : ConstraintKind) (ts : Terms) (n : ℕ) (x : Expansion) → expand M kind ts n ≡ Ok x → Fitting M x.ranges
  expand_fitting kind ts n x h = elim (expand_ok M kind ts n x h) [
    | inl k ↦ basic_fitting M kind ts n x k.basic_is
    | inr k ↦ subst (λ y. Fitting M y.ranges) k.rows (split_fitting kind ts n k.parts k.split_is)
  ]

fitting_tests : (M : ℕ) (ps : List Indexical) → Fitting M ps → AllPosted (λ p. range_fits M p.range true ≡ true) ps
fitting_tests M [] h = tt
fitting_tests M (p ∷ ps) h = (h.0.fits, fitting_tests M ps h.1)

pub fitting_rows : FittingRows
fitting_rows M kind ts n x h = fitting_tests M x.ranges (expand_fitting M kind ts n x h)
