-- Clauses that pass a test, by their numbers.
use Rattle.std.proofs.Common.{◌≡◌, ℕ, zero, suc, Bool, true, false, cond, ◌&&◌, List, [], ◌∷◌, filter, Some, slice_get, refl, ap, ◌∙◌, subst}
use Rattle.clause_compiler.specs.Switches.{AreAmong}

-- What passes is one of those that were tried, and passes.
pub sifted_one : (t : ℕ → Bool) (xs : List ℕ) (k n : ℕ) → slice_get (filter t xs) k ≡ Some n → (j : ℕ) × (slice_get xs j ≡ Some n) × (t n ≡ true)
sifted_one t [] k n e = absurd cc
sifted_one t (x ∷ xs) k n e = by (t x) refl k e (λ i f. sifted_one t xs i n f)
  where
    by : (b : Bool) → t x ≡ b → (k : ℕ) → slice_get (cond b (x ∷ filter t xs) (filter t xs)) k ≡ Some n
        → ((i : ℕ) → slice_get (filter t xs) i ≡ Some n → (j : ℕ) × (slice_get xs j ≡ Some n) × (t n ≡ true))
        → (j : ℕ) × (slice_get (x ∷ xs) j ≡ Some n) × (t n ≡ true)
    by true h zero f rest = let same : x ≡ n = cc in (0, ap (λ y. Some y) same, subst (λ y. t y ≡ true) same h)
    by true h (suc k) f rest = let r = rest k f in (suc r.0, r.1, r.2)
    by false h k f rest = let r = rest k f in (suc r.0, r.1, r.2)

-- So those that pass are among them.
pub among_sifted : (t : ℕ → Bool) (xs : List ℕ) → AreAmong (filter t xs) xs
among_sifted t xs k n e = let r = sifted_one t xs k n e in (r.0, r.1)

-- And what was tried and passes is there.
pub sifted_in : (t : ℕ → Bool) (xs : List ℕ) (j n : ℕ) → slice_get xs j ≡ Some n → t n ≡ true → (k : ℕ) × (slice_get (filter t xs) k ≡ Some n)
sifted_in t [] j n e h = absurd cc
sifted_in t (x ∷ xs) zero n e h = let same : x ≡ n = cc in (0, ap (λ b. slice_get (cond b (x ∷ filter t xs) (filter t xs)) 0) (ap t same ∙ h) ∙ ap (λ y. Some y) same)
sifted_in t (x ∷ xs) (suc j) n e h = by (t x) (sifted_in t xs j n e h)
  where
    by : (b : Bool) → (k : ℕ) × (slice_get (filter t xs) k ≡ Some n) → (k : ℕ) × (slice_get (cond b (x ∷ filter t xs) (filter t xs)) k ≡ Some n)
    by true r = (suc r.0, r.1)
    by false r = r

-- Two tests, one after the other.
pub sift_both : (s t : ℕ → Bool) (xs : List ℕ) → filter t (filter s xs) ≡ filter (λ n. s n && t n) xs
sift_both s t [] = refl
sift_both s t (x ∷ xs) = by (s x) (sift_both s t xs)
  where
    by : (b : Bool) → filter t (filter s xs) ≡ filter (λ n. s n && t n) xs
        → filter t (cond b (x ∷ filter s xs) (filter s xs)) ≡ cond (b && t x) (x ∷ filter (λ n. s n && t n) xs) (filter (λ n. s n && t n) xs)
    by true r = ap (λ l. cond (t x) (x ∷ l) l) r
    by false r = r

-- A test that all pass.
pub sift_all : (xs : List ℕ) → filter (λ n. true) xs ≡ xs
sift_all [] = refl
sift_all (x ∷ xs) = ap (λ l. x ∷ l) (sift_all xs)
