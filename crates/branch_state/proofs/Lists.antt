-- Lists of variables, each once.
use Rattle.std.proofs.Common.{◌≡◌, ℕ, Bool, true, false, cond, not, ◌&&◌, ◌==◌, List, [], ◌∷◌, filter, refl, ap, sym, ◌∙◌, inl, inr, eqb-true}
use Rattle.std.proofs.lemmas.Bool.{cases_Bool}
use Rattle.std.proofs.lemmas.List.Elements.{filter_agree}
use Rattle.std.proofs.Math.Bool.{and_comm}
use Rattle.fd_language.specs.Needs.{once}

filter_twice : (p q : ℕ → Bool) (xs : List ℕ) → filter p (filter q xs) ≡ filter (λ x. q x && p x) xs
filter_twice p q [] = refl
filter_twice p q (x ∷ xs) = by_test (q x) (filter_twice p q xs) where
  by_test : (b : Bool) → filter p (filter q xs) ≡ filter (λ x. q x && p x) xs
      → filter p (cond b (x ∷ filter q xs) (filter q xs)) ≡ cond (b && p x) (x ∷ filter (λ x. q x && p x) xs) (filter (λ x. q x && p x) xs)
  by_test true e = ap (λ l. cond (p x) (x ∷ l) l) e
  by_test false e = e

-- leaving out what doesn't pass changes nothing
filter_without : (p : ℕ → Bool) (x : ℕ) (xs : List ℕ) → p x ≡ false → filter p (filter (λ y. not (y == x)) xs) ≡ filter p xs
filter_without p x xs h = filter_twice p (λ y. not (y == x)) xs ∙ filter_agree (λ y. not (y == x) && p y) p (λ y. elim (cases_Bool (y == x)) [
  | inl e ↦ ap (λ b. not b && p y) e ∙ sym (ap p (eqb-true y x e) ∙ h)
  | inr e ↦ ap (λ b. not b && p y) e
]) xs

pub once_filter : (p : ℕ → Bool) (xs : List ℕ) → filter p (once xs) ≡ once (filter p xs)
once_filter p [] = refl
once_filter p (x ∷ xs) = elim (cases_Bool (p x)) [
  | inl e ↦ rw e (ap (λ l. x ∷ l) (filter_twice p (λ y. not (y == x)) (once xs)
      ∙ filter_agree (λ y. not (y == x) && p y) (λ y. p y && not (y == x)) (λ y. and_comm (not (y == x)) (p y)) (once xs)
      ∙ sym (filter_twice (λ y. not (y == x)) p (once xs)) ∙ ap (filter (λ y. not (y == x))) (once_filter p xs)))
  | inr e ↦ rw e (filter_without p x (once xs) e ∙ once_filter p xs)
]
