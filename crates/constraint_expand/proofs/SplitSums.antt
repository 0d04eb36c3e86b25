-- The sums of a split constraint: their numbers are integers of the language, and the check accepts their rows.
use Rattle.std.proofs.Common.{◌≡◌, ℕ, ◌<◌, ◌^◌, Bool, true, false, cond, ℤ, pos, List, [], ◌∷◌, refl, subst, arith, Some, Ok}
use Rattle.std.specs.List.{list_all}
use Rattle.std.specs.Ordering.{int_eq}
use Rattle.std.proofs.lemmas.Bool.{and_parts, and_from}
use Rattle.fd_language.specs.Lists.{Each}
use Rattle.fd_language.specs.Range.{Indexical}
use Rattle.fd_language.specs.RangeVerdict.{is_accepted}
use Rattle.fd_language.specs.Term.{Term, Terms, no_terms, term}
use Rattle.fd_language.specs.declared.TheConstants.{INFINITY}
use Rattle.fd_model.specs.declared.kinds.ConstraintKind.{ConstraintKind}
use Rattle.fd_model.specs.declared.kinds.ConstraintKind.TheVariants.{Compare, And, Or, Not, Reified}
use Rattle.fd_model.specs.Linear.{Linear, in_integers, nonzero}
use Rattle.fd_model.specs.Members.{place_of, after}
use Rattle.fd_model.specs.ProductRows.{product_form}
use Rattle.fd_model.specs.BooleanRows.{and_ranges, or_ranges, not_ranges}
use Rattle.fd_model.specs.Splitting.{Split, split, joined, sum_rows, of_three, of_two, reified}
use Rattle.fd_model.proofs.Lemmas.{IsAgain, AllSums, sums_each, three_ok, two_ok, product_ok, reified_ok, of_some, posted_right, all_accepted, split_fitting}
use Rattle.fd_model.proofs.Lemmas.{split_within}
use Rattle.linear_forms.specs.IntegerSums.{AreIntegers, IsInside}
use Rattle.constraint_expand.specs.Posts.{Accepted}

nonzero_inside : (ts : List (ℕ × ℤ)) → AreIntegers ts → AreIntegers (nonzero ts)
nonzero_inside [] h = refl
nonzero_inside (t ∷ ts) h = let k = and_parts (in_integers t.1) (list_all (λ (t : ℕ × ℤ). in_integers t.1) ts) h in by_test (int_eq t.1 (pos 0)) k.0 (nonzero_inside ts k.1) where
  by_test : (c : Bool) → in_integers t.1 ≡ true → AreIntegers (nonzero ts) → AreIntegers (cond c (nonzero ts) (t ∷ nonzero ts))
  by_test true a b = b
  by_test false a b = and_from _ _ a b

again_inside : (ts : List (ℕ × ℤ)) (c : ℤ) (l : Linear) → IsAgain ts c l → IsInside l
again_inside ts c l i = subst IsInside i.is (nonzero_inside ts i.coefficients, i.constant)

each_inside : (ls : List Linear) → AllSums IsInside ls → Each IsInside ls
each_inside [] h = tt
each_inside (l ∷ ls) h = (h.0, each_inside ls h.1)

three_inside : (rows : ℕ → ℕ → ℕ → List Indexical) (x y z : Term) (n : ℕ) (s : Split) → of_three rows x y z n ≡ Ok s → Each IsInside s.sums
three_inside rows x y z n s e = subst (λ (q : Split). Each IsInside q.sums) (three_ok rows x y z n s e).is tt

pub split_inside : (M : ℕ) (kind : ConstraintKind) (ts : Terms) (n : ℕ) (s : Split) → split M kind ts n ≡ Some (Ok s) → Each IsInside s.sums
split_inside M (Compare r) (term t (term u no_terms)) n s e = subst (λ (q : Split). Each IsInside q.sums) (product_ok n (product_form r t u) s e).is tt
split_inside M And (term x (term y (term z no_terms))) n s e = three_inside and_ranges x y z n s (of_some (of_three and_ranges x y z n) s e)
split_inside M Or (term x (term y (term z no_terms))) n s e = three_inside or_ranges x y z n s (of_some (of_three or_ranges x y z n) s e)
split_inside M Not (term x (term y no_terms)) n s e = subst (λ (q : Split). Each IsInside q.sums) (two_ok not_ranges x y n s (of_some (of_two not_ranges x y n) s e)).is tt
split_inside M Reified (term b (term t no_terms)) n s e =
    let k = reified_ok M b t n s (of_some (reified M b t n) s e) in
    subst (λ (q : Split). Each IsInside q.sums) k.is
    (each_inside k.sums (sums_each IsInside M (place_of n k.teller) (after n k.teller) k.form k.kind k.sums k.sums_are (λ f l a b c. (λ u i. again_inside _ _ u i, λ u i. again_inside _ _ u i))))
split_inside M _ _ n s e = absurd (cc)

small_infinity : INFINITY < 2 ^ 28
small_infinity = omega arith

pub split_accepted : (kind : ConstraintKind) (ts : Terms) (n : ℕ) (s : Split) → split INFINITY kind ts n ≡ Some (Ok s) → Accepted (sum_rows s.sums)
split_accepted kind ts n s e =
    posted_right (λ p. is_accepted INFINITY p.range ≡ true) s.ranges (sum_rows s.sums)
    (all_accepted INFINITY small_infinity (joined s).ranges (split_fitting INFINITY kind ts n s e) (split_within INFINITY small_infinity kind ts n s e))
