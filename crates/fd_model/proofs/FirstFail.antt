-- First-fail takes the first of those with the fewest values.
use Rattle.std.proofs.Common.{◌≡◌, ℕ, ◌<◌, ◌≤◌, Bool, true, false, cond, ltb, ◌==◌, length, List, [], ◌∷◌, Option, Some, None, refl, sym, subst, inl, inr}
use Rattle.std.proofs.Common.{arith, eqb-true, ltb-true, ltb-false}
use Rattle.std.proofs.lemmas.Bool.{or_cases, true≢false}
use Rattle.fd_language.specs.Family.{has}
use Rattle.fd_model.specs.Labelling.{fewest, unless_fewer, open_ones}
use Rattle.fd_model.specs.Members.{Member, Open, Known}
use Rattle.fd_model.specs.LabellingLaws.{HaveMore, PicksFewest}

module _ (values : ℕ → List ℕ) where
  abbrev IsFewest : List ℕ → ℕ → Type 0
  IsFewest ys x = ((y : ℕ) → has ys y ≡ true → length (values x) ≤ length (values y)) × HaveMore values ys x

  none_there : (ms : List Member) → fewest values ms ≡ None → (y : ℕ) → has (open_ones ms) y ≡ true → ⊥
  none_there [] e y h = true≢false (sym h)
  none_there (Known z ∷ ms) e y h = none_there ms e y h
  none_there (Open x ∷ ms) e y h = (cc)

  at_front : (x y : ℕ) (ys : List ℕ) → ((w : ℕ) → has ys w ≡ true → length (values x) ≤ length (values w)) → has (x ∷ ys) y ≡ true → length (values x) ≤ length (values y)
  at_front x y ys h i = elim (or_cases (x == y) (has ys y) i) [ inl e ↦ subst (λ w. length (values x) ≤ length (values w)) (eqb-true x y e) (omega arith) | inr e ↦ h y e ]

  by_test : (x w : ℕ) (ys : List ℕ) (b : Bool) → ltb (length (values w)) (length (values x)) ≡ b → IsFewest ys w → IsFewest (x ∷ ys) (cond b w x)
  by_test x w ys true e f =
      let less : length (values w) < length (values x) = ltb-true _ _ e in
      (λ y h. elim (or_cases (x == y) (has ys y) h) [ inl k ↦ subst (λ z. length (values w) ≤ length (values z)) (eqb-true x y k) (omega arith) | inr k ↦ f.0 y k ], inr (less, f.1))
  by_test x w ys false e f =
      let more : length (values x) ≤ length (values w) = ltb-false _ _ e in
      (λ y h. at_front x y ys (λ z k. (let l = f.0 z k in omega arith)) h, inl refl)

  by_rest : (x : ℕ) (ms : List Member) (o : Option ℕ) → fewest values ms ≡ o → ((w : ℕ) → o ≡ Some w → IsFewest (open_ones ms) w) → IsFewest (x ∷ open_ones ms) (unless_fewer values x o)
  by_rest x ms None e later = (λ y h. at_front x y (open_ones ms) (λ z k. absurd (none_there ms e z k)) h, inl refl)
  by_rest x ms (Some w) e later = by_test x w (open_ones ms) (ltb (length (values w)) (length (values x))) refl (later w refl)

  pub is_fewest : (ms : List Member) (x : ℕ) → fewest values ms ≡ Some x → IsFewest (open_ones ms) x
  is_fewest [] x e = absurd (cc)
  is_fewest (Known z ∷ ms) x e = is_fewest ms x e
  is_fewest (Open y ∷ ms) x e =
      let same : unless_fewer values y (fewest values ms) ≡ x = cc in
      subst (IsFewest (y ∷ open_ones ms)) same (by_rest y ms (fewest values ms) refl (λ w f. is_fewest ms w f))

pub picks_fewest : PicksFewest
picks_fewest values ms x e = is_fewest values ms x e
