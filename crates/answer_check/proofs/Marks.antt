-- Which of the first numbers stand in a list, marked one by one.
use Rattle.std.proofs.Common.{◌≡◌, ℕ, zero, suc, ◌+◌, ◌<◌, ◌≤◌, Bool, true, false, ◌||◌, ◌&&◌, List, [], ◌∷◌, ◌++◌, map, set, length, replicate, refl, sym, ap}
use Rattle.std.proofs.Common.{◌∙◌, arith}
use Rattle.std.specs.Prelude.{◌==◌}
use Rattle.std.specs.List.{list_all}
use Rattle.std.proofs.lemmas.Bool.{eqb-true, eq-eqb}
use Rattle.fd_language.specs.Family.{has, count_up}

abbrev pub marked : List ℕ → ℕ → List Bool
marked xs n = map (has xs) (count_up 0 n)

pub has_new : (xs : List ℕ) (x : ℕ) → has (xs ++ x ∷ []) x ≡ true
has_new [] x = rw (eq-eqb x x refl) refl
has_new (y ∷ xs) x = ap (λ b. (y == x) || b) (has_new xs x) ∙ by (y == x) where
  by : (b : Bool) → (b || true) ≡ true
  by true = refl
  by false = refl

differs : (i x : ℕ) → (i ≡ x → ⊥) → (i == x) ≡ false
differs i x h = by (i == x) refl where
  by : (b : Bool) → (i == x) ≡ b → b ≡ false
  by true e = absurd (h (eqb-true i x e))
  by false e = refl

pub has_other : (xs : List ℕ) (x i : ℕ) → (i ≡ x → ⊥) → has (xs ++ x ∷ []) i ≡ has xs i
has_other [] x i h = rw (differs x i (λ e. h (sym e))) refl
has_other (y ∷ xs) x i h = ap (λ b. (y == i) || b) (has_other xs x i h)

below : (xs : List ℕ) (x low n : ℕ) → x < low → map (has xs) (count_up low n) ≡ map (has (xs ++ x ∷ [])) (count_up low n)
below xs x low zero l = refl
below xs x low (suc n) l =
    ap (λ b. b ∷ map (has xs) (count_up (suc low) n)) (sym (has_other xs x low (λ e. omega (arith, e, l)))) ∙ ap (λ bs. has (xs ++ x ∷ []) low ∷ bs) (below xs x (suc low) n (omega (arith, l)))

set_from : (xs : List ℕ) (x low n k : ℕ) → k + low ≡ x → k < n → set (map (has xs) (count_up low n)) k true ≡ map (has (xs ++ x ∷ [])) (count_up low n)
set_from xs x low zero k e l = absurd (omega (arith, l))
set_from xs x low (suc n) zero e l =
    let same : low ≡ x = omega (arith, e) in
    ap (λ b. b ∷ map (has xs) (count_up (suc low) n)) (sym (ap (has (xs ++ x ∷ [])) same ∙ has_new xs x)) ∙ ap (λ bs. has (xs ++ x ∷ []) low ∷ bs) (below xs x (suc low) n (omega (arith, same)))
set_from xs x low (suc n) (suc k) e l =
    ap (λ b. b ∷ set (map (has xs) (count_up (suc low) n)) k true) (sym (has_other xs x low (λ f. omega (arith, e, f))))
    ∙ ap (λ bs. has (xs ++ x ∷ []) low ∷ bs) (set_from xs x (suc low) n k (omega (arith, e)) (omega (arith, l)))

above : (xs : List ℕ) (x low n : ℕ) → low + n ≤ x → map (has xs) (count_up low n) ≡ map (has (xs ++ x ∷ [])) (count_up low n)
above xs x low zero l = refl
above xs x low (suc n) l =
    ap (λ b. b ∷ map (has xs) (count_up (suc low) n)) (sym (has_other xs x low (λ e. omega (arith, e, l)))) ∙ ap (λ bs. has (xs ++ x ∷ []) low ∷ bs) (above xs x (suc low) n (omega (arith, l)))

pub mark_set : (xs : List ℕ) (x n : ℕ) → x < n → set (marked xs n) x true ≡ marked (xs ++ x ∷ []) n
mark_set xs x n l = set_from xs x 0 n x (omega arith) l

pub mark_none : (xs : List ℕ) (x n : ℕ) → n ≤ x → marked xs n ≡ marked (xs ++ x ∷ []) n
mark_none xs x n l = above xs x 0 n (omega (arith, l))

pub all_marked : (f : ℕ → Bool) (is : List ℕ) → list_all (λ b. b) (map f is) ≡ list_all f is
all_marked f [] = refl
all_marked f (i ∷ is) = by (f i) (all_marked f is) where
  by : (b : Bool) → list_all (λ c. c) (map f is) ≡ list_all f is → list_all (λ c. c) (b ∷ map f is) ≡ (b && list_all f is)
  by true h = h
  by false h = refl

pub none_marked : (low n : ℕ) → map (has []) (count_up low n) ≡ replicate n false
none_marked low zero = refl
none_marked low (suc n) = ap (λ bs. false ∷ bs) (none_marked (suc low) n)

pub marked_count : (xs : List ℕ) (low n : ℕ) → length (map (has xs) (count_up low n)) ≡ n
marked_count xs low zero = refl
marked_count xs low (suc n) = ap suc (marked_count xs (suc low) n)
