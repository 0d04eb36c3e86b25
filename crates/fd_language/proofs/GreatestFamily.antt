-- The greatest family that passes a test which only grows with the family.
use Rattle.std.proofs.Common.{◌≡◌, ℕ, zero, suc, ◌+◌, ◌<◌, ◌≤◌, Bool, true, false, cond, ◌==◌, List, [], ◌∷◌, filter, length, refl, ap, sym, subst, inl, inr}
use Rattle.std.proofs.Common.{◌⊎◌, arith, eqb-true}
use Rattle.std.proofs.lemmas.Bool.{or_cases, cases_Bool}
use Rattle.fd_language.specs.Family.{has, IsRising, Family, IsFamily, IsInside}
use Rattle.fd_language.proofs.Sets.{has-filter, has-filter_back}

-- a filter keeps all or is shorter
step_or_same : (p : ℕ → Bool) (x : ℕ) (xs : List ℕ) → (length (filter p xs) < length xs) ⊎ (filter p xs ≡ xs) → (length (filter p (x ∷ xs)) < length (x ∷ xs)) ⊎ (filter p (x ∷ xs) ≡ x ∷ xs)
step_or_same p x xs later = grind (arith, later)

pub shorter_or_same : (p : ℕ → Bool) (xs : List ℕ) → (length (filter p xs) < length xs) ⊎ (filter p xs ≡ xs)
shorter_or_same p [] = inr refl
shorter_or_same p (x ∷ xs) = step_or_same p x xs (shorter_or_same p xs)

pub rising_later : (low high m : ℕ) (xs : List ℕ) → low ≤ m → IsRising m high xs → IsRising low high xs
rising_later low high m [] h r = tt
rising_later low high m (x ∷ xs) h r = (omega arith, r.1, r.2)

pub rising-filter : (p : ℕ → Bool) (low high : ℕ) (xs : List ℕ) → IsRising low high xs → IsRising low high (filter p xs)
rising-filter p low high [] r = tt
rising-filter p low high (x ∷ xs) r =
    elim (p x) as (λ b. IsRising low high (cond b (x ∷ filter p xs) (filter p xs)))
    [ true ↦ (r.0, r.1, rising-filter p (suc x) high xs r.2) | false ↦ rising_later low high (suc x) (filter p xs) (omega (arith, r.0)) (rising-filter p (suc x) high xs r.2) ]

-- what passes the test in the family
abbrev pub narrowed : (Family → ℕ → ℕ → Bool) → Family → Family
narrowed fits S x = filter (fits S x) (S x)

abbrev size : List ℕ → Family → ℕ
size [] S = 0
size (v ∷ vs) S = length (S v) + size vs S

abbrev Same : List ℕ → Family → Family → Type 0
Same [] S S' = Unit {0}
Same (v ∷ vs) S S' = (S v ≡ S' v) × Same vs S S'

smaller_or_same : (fits : Family → ℕ → ℕ → Bool) (S : Family) (vs : List ℕ) → (size vs (narrowed fits S) < size vs S) ⊎ ((size vs (narrowed fits S) ≡ size vs S) × Same vs (narrowed fits S) S)
smaller_or_same fits S [] = inr (refl, tt)
smaller_or_same fits S (v ∷ vs) =
    elim (shorter_or_same (fits S v) (S v)) [
      | inl a ↦ elim (smaller_or_same fits S vs) [ inl b ↦ inl (omega (arith, a, b)) | inr b ↦ inl (omega (arith, a, b.0)) ]
      | inr a ↦ elim (smaller_or_same fits S vs) [ inl b ↦ inl (omega (arith, ap length a, b)) | inr b ↦ inr (omega (arith, ap length a, b.0), (a, b.1)) ]
    ]

Same-at : (vs : List ℕ) (S S' : Family) → Same vs S S' → (x : ℕ) → has vs x ≡ true → S x ≡ S' x
Same-at [] S S' h x m = grind arith
Same-at (v ∷ vs) S S' h x m = elim (or_cases (v == x) (has vs x) m) [ inl e ↦ subst (λ y. S y ≡ S' y) (eqb-true v x e) h.0 | inr e ↦ Same-at vs S S' h.1 x e ]

pub record IsGreatest (M : ℕ) (fits : Family → ℕ → ℕ → Bool) (S D : Family) : Type 0 where
  pub family : IsFamily M D
  pub passes : (x n : ℕ) → has (D x) n ≡ true → fits D x n ≡ true
  pub contains : (T : Family) → IsFamily M T → IsInside T S → ((x n : ℕ) → has (T x) n ≡ true → fits T x n ≡ true) → IsInside T D

module _ (M : ℕ) (vs : List ℕ) (fits : Family → ℕ → ℕ → Bool)
    (grows : (S S' : Family) → IsFamily M S → IsFamily M S' → IsInside S S' → (x n : ℕ) → fits S x n ≡ true → fits S' x n ≡ true)
    (outside : (S : Family) (x n : ℕ) → has vs x ≡ false → fits S x n ≡ true) where
  narrowed_family : (S : Family) → IsFamily M S → IsFamily M (narrowed fits S)
  narrowed_family S f = record { rising = λ x. rising-filter (fits S x) 0 M (S x) (f.rising x) }

  narrowed_keeps : (S T : Family) → IsFamily M S → IsFamily M T → IsInside T S → ((x n : ℕ) → has (T x) n ≡ true → fits T x n ≡ true) → IsInside T (narrowed fits S)
  narrowed_keeps S T f t inside passes = record { at = λ x. record { each = λ n h. has-filter (fits S x) (S x) n ((inside.at x).each n h) (grows T S t f inside x n (passes x n h)) } }

  stable_passes : (S : Family) → Same vs (narrowed fits S) S → (x n : ℕ) → has (S x) n ≡ true → fits S x n ≡ true
  stable_passes S same x n h = elim (cases_Bool (has vs x)) [
    | inl e ↦ (has-filter_back (fits S x) (S x) n (subst (λ l. has l n ≡ true) (sym (Same-at vs (narrowed fits S) S same x e)) h)).1
    | inr e ↦ outside S x n e
  ]

  find : (k : ℕ) (S : Family) → IsFamily M S → size vs S < k → (D : Family) × IsGreatest M fits S D
  find zero S f h = absurd (omega arith)
  find (suc k) S f h = elim (smaller_or_same fits S vs) [
    | inl a ↦
        let later : (D : Family) × IsGreatest M fits (narrowed fits S) D = find k (narrowed fits S) (narrowed_family S f) (omega arith) in
        (later.0, record { family = later.1.family; passes = later.1.passes; contains = λ T t inside p. later.1.contains T t (narrowed_keeps S T f t inside p) p })
    | inr a ↦ (S, record { family = f; passes = stable_passes S a.1; contains = λ T t inside p. inside })
  ]

  pub greatest_there : (S : Family) → IsFamily M S → (D : Family) × IsGreatest M fits S D
  greatest_there S f = find (suc (size vs S)) S f (omega arith)
