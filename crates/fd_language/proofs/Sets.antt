-- Public lemmas on lists of numbers as sets.
use Rattle.std.proofs.Common.{◌≡◌, ℕ, zero, suc, ◌+◌, ◌<◌, ◌≤◌, Bool, true, false, not, ◌||◌, ◌&&◌, ◌==◌, List, [], ◌∷◌, ◌++◌, ◌⊎◌, filter, map, refl, sym, ap}
use Rattle.std.proofs.Common.{◌∙◌, subst, inl, inr, arith, eqb-true, eq-eqb}
use Rattle.std.specs.Prelude.{flat_map}
use Rattle.std.specs.List.{list_any}
use Rattle.std.proofs.lemmas.Bool.{or_cases, or_left, or_right, and_from, and_parts, cases_Bool, true≢false}
use Rattle.fd_language.specs.Family.{has, IsSubset, IsRising, count_up, universe}
use Rattle.fd_language.specs.Range.{some_number}
use Rattle.fd_language.specs.Needs.{once}
use Rattle.fd_language.specs.Variables.{distinct}

-- an equality may be turned round
pub eq_sym : (x y : ℕ) → (x == y) ≡ (y == x)
eq_sym x y = grind arith

-- a filter has the numbers that pass
kept : (p : ℕ → Bool) (x n : ℕ) (xs : List ℕ) → has (filter p xs) n ≡ (has xs n && p n) → has (filter p (x ∷ xs)) n ≡ (has (x ∷ xs) n && p n)
kept p x n xs later = grind (arith, later, eqb-true)

pub has_kept : (p : ℕ → Bool) (xs : List ℕ) (n : ℕ) → has (filter p xs) n ≡ (has xs n && p n)
has_kept p [] n = refl
has_kept p (x ∷ xs) n = kept p x n xs (has_kept p xs n)

pub has-filter : (p : ℕ → Bool) (xs : List ℕ) (n : ℕ) → has xs n ≡ true → p n ≡ true → has (filter p xs) n ≡ true
has-filter p xs n h t = has_kept p xs n ∙ and_from (has xs n) (p n) h t

pub has-filter_back : (p : ℕ → Bool) (xs : List ℕ) (n : ℕ) → has (filter p xs) n ≡ true → (has xs n ≡ true) × (p n ≡ true)
has-filter_back p xs n h = and_parts (has xs n) (p n) (sym (has_kept p xs n) ∙ h)

-- numbers once each are the same numbers
others : (c d h : Bool) → c ≡ d → (c || (h && not d)) ≡ (c || h)
others c d h e = grind (arith, e)

pub has_once : (xs : List ℕ) (n : ℕ) → has (once xs) n ≡ has xs n
has_once [] n = refl
has_once (x ∷ xs) n = ap (λ b. (x == n) || b) (has_kept (λ z. not (z == x)) (once xs) n ∙ ap (λ b. b && not (n == x)) (has_once xs n)) ∙ others (x == n) (n == x) (has xs n) (eq_sym x n)

pub has_low : (low high : ℕ) (xs : List ℕ) (n : ℕ) → IsRising low high xs → has xs n ≡ true → low ≤ n
has_low low high [] n r h = grind arith
has_low low high (x ∷ xs) n r h =
    elim (or_cases (x == n) (has xs n) h) [ inl e ↦ omega (arith, r.0, eqb-true x n e) | inr e ↦ omega (arith, r.0, has_low (suc x) high xs n r.2 e) ]

pub has_high : (low high : ℕ) (xs : List ℕ) (n : ℕ) → IsRising low high xs → has xs n ≡ true → n ≤ high
has_high low high [] n r h = grind arith
has_high low high (x ∷ xs) n r h =
    elim (or_cases (x == n) (has xs n) h) [ inl e ↦ omega (arith, r.1, eqb-true x n e) | inr e ↦ has_high (suc x) high xs n r.2 e ]

-- the first of a list is in it
pub first_member : (x : ℕ) (xs : List ℕ) → has (x ∷ xs) x ≡ true
first_member x xs = or_left _ _ (eq-eqb x x refl)

-- what is in a rising list after its first element is past it
pub later_in : (low high x n : ℕ) (xs : List ℕ) → has (x ∷ xs) n ≡ true → x < n → has xs n ≡ true
later_in low high x n xs h l = elim (or_cases (x == n) (has xs n) h) [ inl e ↦ absurd (omega (arith, eqb-true x n e)) | inr e ↦ e ]

pub rising_same : (low high : ℕ) (xs ys : List ℕ) → IsRising low high xs → IsRising low high ys → IsSubset xs ys → IsSubset ys xs → xs ≡ ys
rising_same low high [] [] r q i j = refl
rising_same low high [] (y ∷ ys) r q i j = let h : has [] y ≡ true = j.each y (first_member y ys) in absurd (true≢false (sym h))
rising_same low high (x ∷ xs) [] r q i j = let h : has [] x ≡ true = i.each x (first_member x xs) in absurd (true≢false (sym h))
rising_same low high (x ∷ xs) (y ∷ ys) r q i j =
    let below : y ≤ x = has_low y high (y ∷ ys) x (omega arith, q.1, q.2) (i.each x (first_member x xs)) in
    let above : x ≤ y = has_low x high (x ∷ xs) y (omega arith, r.1, r.2) (j.each y (first_member y ys)) in
    let heads : x ≡ y = omega arith in
    let tails : xs ≡ ys = rising_same (suc x) high xs ys r.2 (subst (λ z. IsRising (suc z) high ys) (sym heads) q.2)
    (record { each = λ n h. later_in low high y n ys (i.each n (or_right _ _ h)) (let l : suc x ≤ n = has_low (suc x) high xs n r.2 h in omega arith) })
    (record { each = λ n h. later_in low high x n xs (j.each n (or_right _ _ h)) (let l : suc y ≤ n = has_low (suc y) high ys n q.2 h in omega arith) }) in
    cc

pub count_up_rising : (low n high : ℕ) → low + n ≤ suc high → IsRising low high (count_up low n)
count_up_rising low zero high h = tt
count_up_rising low (suc n) high h = (omega arith, omega arith, count_up_rising (suc low) n high (omega arith))

pub universe_rising : (M : ℕ) → IsRising 0 M (universe M)
unfolding universe
universe_rising M = count_up_rising 0 (suc M) M (omega arith)

pub in_count_up : (low n k : ℕ) → low ≤ k → k < low + n → has (count_up low n) k ≡ true
in_count_up low zero k h l = absurd (omega arith)
in_count_up low (suc n) k h l = elim (cases_Bool (low == k)) [ inl e ↦ or_left _ _ e | inr e ↦ or_right _ _ (in_count_up (suc low) n k (grind (arith, eqb-true, eq-eqb)) (omega arith)) ]

pub in_universe : (M k : ℕ) → k ≤ M → has (universe M) k ≡ true
unfolding universe
in_universe M k h = in_count_up 0 (suc M) k (omega arith) (omega arith)

pub rising_inside : (M : ℕ) (xs : List ℕ) → IsRising 0 M xs → IsSubset xs (universe M)
rising_inside M xs r = record { each = λ n h. in_universe M n (has_high 0 M xs n r h) }

-- a number of two lists is in one of them
pub has_either : (xs ys : List ℕ) (n : ℕ) → has (xs ++ ys) n ≡ true → (has xs n ≡ true) ⊎ (has ys n ≡ true)
has_either [] ys n h = inr h
has_either (x ∷ xs) ys n h = elim (or_cases (x == n) (has (xs ++ ys) n) h) [
  | inl e ↦ inl (or_left (x == n) (has xs n) e)
  | inr e ↦ elim (has_either xs ys n e) [ inl f ↦ inl (or_right (x == n) (has xs n) f) | inr f ↦ inr f ]
]

-- a number of the first or of the second of two lists is in both together
pub in_left : (xs ys : List ℕ) (n : ℕ) → has xs n ≡ true → has (xs ++ ys) n ≡ true
in_left [] ys n h = absurd (true≢false (sym h))
in_left (x ∷ xs) ys n h = elim (or_cases (x == n) (has xs n) h) [ inl e ↦ or_left (x == n) (has (xs ++ ys) n) e | inr e ↦ or_right (x == n) (has (xs ++ ys) n) (in_left xs ys n e) ]

pub in_right : (xs ys : List ℕ) (n : ℕ) → has ys n ≡ true → has (xs ++ ys) n ≡ true
in_right [] ys n h = h
in_right (x ∷ xs) ys n h = or_right (x == n) (has (xs ++ ys) n) (in_right xs ys n h)

-- a number is in its own list
pub alone_in : (y : ℕ) → has (y ∷ []) y ≡ true
alone_in y = or_left (y == y) false (eq-eqb y y refl)

-- what f gives of each element is in what g gives of it
pub in_flat : {X : Type 0} (f g : X → List ℕ) (n : ℕ) → ((x : X) → has (f x) n ≡ true → has (g x) n ≡ true) → (xs : List X) → has (flat_map f xs) n ≡ true → has (flat_map g xs) n ≡ true
in_flat f g n h [] e = e
in_flat f g n h (x ∷ xs) e = elim (has_either (f x) (flat_map f xs) n e) [ inl i ↦ in_left (g x) (flat_map g xs) n (h x i) | inr i ↦ in_right (g x) (flat_map g xs) n (in_flat f g n h xs i) ]

-- the one number of a list
pub only_member : (n x : ℕ) → has (n ∷ []) x ≡ true → n ≡ x
only_member n x h = elim (or_cases (n == x) false h) [ inl e ↦ eqb-true n x e | inr e ↦ absurd (true≢false (sym e)) ]

-- what f gives of the numbers of a list
pub map_has : (f : ℕ → ℕ) (xs : List ℕ) (x : ℕ) → has (map f xs) x ≡ true → (y : ℕ) × (has xs y ≡ true) × (f y ≡ x)
map_has f [] x h = absurd (true≢false (sym h))
map_has f (y ∷ ys) x h = elim (or_cases (f y == x) (has (map f ys) x) h) [
  | inl e ↦ (y, first_member y ys, eqb-true (f y) x e)
  | inr e ↦ let g = map_has f ys x e in (g.0, or_right (y == g.0) (has ys g.0) g.1, g.2)
]

pub has_map : (f : ℕ → ℕ) (xs : List ℕ) (y : ℕ) → has xs y ≡ true → has (map f xs) (f y) ≡ true
has_map f [] y h = absurd (true≢false (sym h))
has_map f (x ∷ xs) y h = elim (or_cases (x == y) (has xs y) h) [
  | inl e ↦ or_left (f x == f y) (has (map f xs) (f y)) (eq-eqb (f x) (f y) (ap f (eqb-true x y e)))
  | inr e ↦ or_right (f x == f y) (has (map f xs) (f y)) (has_map f xs y e)
]

-- a test that some number of a list passes
pub any_from : (f : ℕ → Bool) (xs : List ℕ) → list_any f xs ≡ true → (e : ℕ) × (has xs e ≡ true) × (f e ≡ true)
any_from f [] h = absurd (true≢false (sym h))
any_from f (x ∷ xs) h = elim (or_cases (f x) (list_any f xs) h) [ inl k ↦ (x, or_left _ _ (eq-eqb x x refl), k) | inr k ↦ let r = any_from f xs k in (r.0, or_right _ _ r.1, r.2) ]

-- a number up to the greatest that passes a test
pub some_from : (M : ℕ) (f : ℕ → Bool) → some_number M f ≡ true → (e : ℕ) × (e ≤ M) × (f e ≡ true)
some_from M f h = let a = any_from f (universe M) h in (a.0, has_high 0 M (universe M) a.0 (universe_rising M) a.1, a.2)

pub any_to : (f : ℕ → Bool) (xs : List ℕ) (e : ℕ) → has xs e ≡ true → f e ≡ true → list_any f xs ≡ true
any_to f [] e h k = absurd (true≢false (sym h))
any_to f (x ∷ xs) e h k = elim (or_cases (x == e) (has xs e) h) [ inl l ↦ or_left (f x) _ (subst (λ y. f y ≡ true) (sym (eqb-true x e l)) k) | inr l ↦ or_right (f x) _ (any_to f xs e l k) ]

-- the distinct numbers of a list are all of them
pub has_distinct : (vs : List ℕ) (y : ℕ) → has vs y ≡ true → has (distinct vs) y ≡ true
has_distinct [] y h = h
has_distinct (v ∷ vs) y h = by (v == y) refl h (has_distinct vs y) where
  by : (b : Bool) → (v == y) ≡ b → (b || has vs y) ≡ true → (has vs y ≡ true → has (distinct vs) y ≡ true) → has (distinct (v ∷ vs)) y ≡ true
  by true e i later = or_left (v == y) (has (filter (λ z. not (v == z)) (distinct vs)) y) e
  by false e i later = or_right (v == y) (has (filter (λ z. not (v == z)) (distinct vs)) y) (has-filter (λ z. not (v == z)) (distinct vs) y (later i) (ap not e))
