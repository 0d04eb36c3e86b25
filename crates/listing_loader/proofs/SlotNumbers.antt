-- Slots that are numbered by first occurrence.
use Rattle.std.proofs.Common.{◌≡◌, ℕ, suc, zero, ◌+◌, ◌<◌, ◌≤◌, ◌==◌, Bool, true, false, not, cond, nat_eq, nat_lt, ◌&&◌, ◌||◌, List, [], ◌∷◌, ◌++◌, map}
use Rattle.std.proofs.Common.{length, get_or, refl, sym, ap, ◌∙◌, subst, arith, inl, inr, append_assoc, eqb-true, eq-eqb}
use Rattle.std.specs.List.{position_or_len}
use Rattle.std.proofs.lemmas.Bool.{cases_Bool, cases_lt, eqb-false, true≢false, false≢true, ltb-true, ltb-false, lt-ltb, le-ltb, or_left, or_parts}
use Rattle.std.proofs.lemmas.List.{append-nil, length_push, map-append}
use Rattle.fd_language.specs.Family.{has, count_up}
use Rattle.fd_language.specs.Needs.{once}
use Rattle.fd_language.proofs.Lemmas.{eq_sym, has_once, in_count_up, in_left, in_right, map_has, has_map}
use Rattle.range_code.proofs.Lemmas.{once_more}
use Rattle.listing_loader.specs.Marks.{are_in_order}

-- the place of an element
abbrev pub place_in : List ℕ → ℕ → ℕ
place_in xs y = position_or_len (nat_eq y) xs

-- ---- the numbers from one on

count_up_at : (low n y : ℕ) → low ≤ y → y < low + n → low + place_in (count_up low n) y ≡ y
count_up_at low zero y h l = absurd (omega arith)
count_up_at low (suc n) y h l = go (y == low) refl (λ k. count_up_at (suc low) n y k (omega (arith, l))) where
  go : (b : Bool) → (y == low) ≡ b → (suc low ≤ y → suc low + place_in (count_up (suc low) n) y ≡ y) → low + cond (not b) (1 + place_in (count_up (suc low) n) y) 0 ≡ y
  go true e f = omega (arith, eqb-true y low e)
  go false e f = let ne = eqb-false y low e in let k = f (omega (arith, ne, h)) in omega (arith, k)

above_count : (low n y : ℕ) → low + n ≤ y → has (count_up low n) y ≡ false
above_count low zero y h = refl
above_count low (suc n) y h = let rest = above_count (suc low) n y (omega (arith, h)) in let ne : (low == y) ≡ false = grind (arith, h) in ap (λ b. b || has (count_up (suc low) n) y) ne ∙ rest

below_count : (low n y : ℕ) → has (count_up low n) y ≡ true → y < low + n
below_count low n y h = elim (cases_lt y (low + n)) [ inl l ↦ l | inr l ↦ absurd (true≢false (sym h ∙ above_count low n y l)) ]

count_up_last : (low n : ℕ) → count_up low n ++ (low + n) ∷ [] ≡ count_up low (suc n)
count_up_last low zero = ap (λ (k : ℕ). k ∷ []) (omega arith)
count_up_last low (suc n) = ap (λ (l : List ℕ). low ∷ l) (ap (λ (k : ℕ). count_up (suc low) n ++ k ∷ []) (omega arith) ∙ count_up_last (suc low) n)

-- ---- slots in order are their own places

in_order_once : (ys pre : List ℕ) (m : ℕ) → once pre ≡ count_up 0 m → are_in_order m ys ≡ true → (n : ℕ) × (once (pre ++ ys) ≡ count_up 0 n)
in_order_once [] pre m e h = (m, ap once (append-nil pre) ∙ e)
in_order_once (y ∷ ys) pre m e h = go (nat_lt y m) (y == m) refl refl h (λ (n : ℕ) f g. in_order_once ys (pre ++ y ∷ []) n f g) where
  back : (n : ℕ) × (once ((pre ++ y ∷ []) ++ ys) ≡ count_up 0 n) → (n : ℕ) × (once (pre ++ (y ∷ ys)) ≡ count_up 0 n)
  back w = (w.0, ap once (sym (append_assoc pre (y ∷ []) ys)) ∙ w.1)

  old : nat_lt y m ≡ true → once (pre ++ y ∷ []) ≡ count_up 0 m
  old lt =
      let there : has pre y ≡ true = sym (has_once pre y) ∙ ap (λ l. has l y) e ∙ in_count_up 0 m y (omega arith) (omega (arith, ltb-true y m lt)) in
      once_more pre y ∙ ap (λ b. cond b (once pre) (once pre ++ y ∷ [])) there ∙ e

  new : nat_lt y m ≡ false → (y == m) ≡ true → once (pre ++ y ∷ []) ≡ count_up 0 (suc m)
  new lt eq =
      let there : has pre y ≡ false = sym (has_once pre y) ∙ ap (λ l. has l y) e ∙ above_count 0 m y (omega (arith, ltb-false y m lt)) in
      once_more pre y ∙ ap (λ b. cond b (once pre) (once pre ++ y ∷ [])) there ∙ ap (λ l. l ++ y ∷ []) e
      ∙ ap (λ (k : ℕ). count_up 0 m ++ k ∷ []) (let is : y ≡ 0 + m = omega (arith, eqb-true y m eq) in is) ∙ count_up_last 0 m

  go : (b c : Bool) → nat_lt y m ≡ b → (y == m) ≡ c → cond b (are_in_order m ys) (c && are_in_order (suc m) ys) ≡ true
      → ((n : ℕ) → once (pre ++ y ∷ []) ≡ count_up 0 n → are_in_order n ys ≡ true → (k : ℕ) × (once ((pre ++ y ∷ []) ++ ys) ≡ count_up 0 k))
      → (n : ℕ) × (once (pre ++ (y ∷ ys)) ≡ count_up 0 n)
  go true c lt eq h next = back (next m (old lt) h)
  go false true lt eq h next = back (next (suc m) (new lt eq) h)
  go false false lt eq h next = absurd (false≢true h)

-- where slots are in order, each is its own place among them
pub own_place : (ys : List ℕ) → are_in_order 0 ys ≡ true → (y : ℕ) → has ys y ≡ true → place_in (once ys) y ≡ y
own_place ys h y there =
    let w = in_order_once ys [] 0 refl h in
    let low = below_count 0 w.0 y (sym (ap (λ l. has l y) w.1) ∙ has_once ys y ∙ there) in
    let at = count_up_at 0 w.0 y (omega arith) low in
    ap (λ l. place_in l y) w.1 ∙ omega (arith, at)

-- ---- places among elements are slots in order

once_front : (zs xs : List ℕ) → (more : List ℕ) × (once (xs ++ zs) ≡ once xs ++ more)
once_front [] xs = ([], ap once (append-nil xs) ∙ sym (append-nil (once xs)))
once_front (z ∷ zs) xs = go (has xs z) refl (once_front zs (xs ++ z ∷ [])) where
  go : (b : Bool) → has xs z ≡ b → (more : List ℕ) × (once ((xs ++ z ∷ []) ++ zs) ≡ once (xs ++ z ∷ []) ++ more) → (more : List ℕ) × (once (xs ++ (z ∷ zs)) ≡ once xs ++ more)
  go true e w = (w.0, ap once (sym (append_assoc xs (z ∷ []) zs)) ∙ w.1 ∙ ap (λ l. l ++ w.0) (once_more xs z ∙ ap (λ b. cond b (once xs) (once xs ++ z ∷ [])) e))
  go false e w = (
    z ∷ w.0,
    ap once (sym (append_assoc xs (z ∷ []) zs)) ∙ w.1
        ∙ ap (λ l. l ++ w.0) (once_more xs z ∙ ap (λ b. cond b (once xs) (once xs ++ z ∷ [])) e) ∙ append_assoc (once xs) (z ∷ []) w.0,
  )

place_within : (xs more : List ℕ) (y : ℕ) → has xs y ≡ true → place_in (xs ++ more) y < length xs
place_within [] more y h = absurd (false≢true h)
place_within (x ∷ xs) more y h = go (y == x) (has xs y) refl refl (λ k. place_within xs more y k) where
  go : (b c : Bool) → (y == x) ≡ b → has xs y ≡ c → (has xs y ≡ true → place_in (xs ++ more) y < length xs) → cond (not b) (1 + place_in (xs ++ more) y) 0 < suc (length xs)
  go true c e f k = omega arith
  go false true e f k = omega (arith, k f)
  go false false e f k = absurd (false≢true (sym (ap (λ b. b || has xs y) (eq_sym x y ∙ e) ∙ f) ∙ h))

place_behind : (xs more : List ℕ) (y : ℕ) → has xs y ≡ false → place_in (xs ++ (y ∷ more)) y ≡ length xs
place_behind [] more y h = ap (λ b. cond (not b) (1 + place_in more y) 0) (eq-eqb y y refl)
place_behind (x ∷ xs) more y h =
    let parts = or_parts (x == y) (has xs y) h in
    let rest = place_behind xs more y parts.1 in
    ap (λ b. cond (not b) (1 + place_in (xs ++ (y ∷ more)) y) 0) (eq_sym y x ∙ parts.0) ∙ omega (arith, rest)

-- one slot more, where its place is among those that were met, or the next one
met_step : (p met : ℕ) (rest : List ℕ) → p < met → are_in_order met rest ≡ true → are_in_order met (p ∷ rest) ≡ true
met_step p met rest low k = ap (λ b. cond b (are_in_order met rest) ((p == met) && are_in_order (suc met) rest)) (lt-ltb p met low) ∙ k

new_step : (p met : ℕ) (rest : List ℕ) → p ≡ met → are_in_order (suc met) rest ≡ true → are_in_order met (p ∷ rest) ≡ true
new_step p met rest at k =
    ap (λ b. cond b (are_in_order met rest) ((p == met) && are_in_order (suc met) rest)) (le-ltb p met (omega (arith, at)))
    ∙ ap (λ b. b && are_in_order (suc met) rest) (eq-eqb p met at) ∙ k

in_order_back : (zs pre ys : List ℕ) → pre ++ zs ≡ ys → are_in_order (length (once pre)) (map (place_in (once ys)) zs) ≡ true
in_order_back [] pre ys e = refl
in_order_back (z ∷ zs) pre ys e = go (has pre z) refl (in_order_back zs (pre ++ z ∷ []) ys (append_assoc pre (z ∷ []) zs ∙ e)) where
  go : (b : Bool) → has pre z ≡ b → are_in_order (length (once (pre ++ z ∷ []))) (map (place_in (once ys)) zs) ≡ true → are_in_order (length (once pre)) (map (place_in (once ys)) (z ∷ zs)) ≡ true
  go true h k =
      let w = once_front (z ∷ zs) pre in
      let low : place_in (once ys) z < length (once pre) = subst (λ l. place_in l z < length (once pre)) (sym w.1 ∙ ap once e) (place_within (once pre) w.0 z (has_once pre z ∙ h)) in
      let same : once (pre ++ z ∷ []) ≡ once pre = once_more pre z ∙ ap (λ b. cond b (once pre) (once pre ++ z ∷ [])) h in
      met_step (place_in (once ys) z) (length (once pre)) (map (place_in (once ys)) zs) low (ap (λ l. are_in_order (length l) (map (place_in (once ys)) zs)) (sym same) ∙ k)
  go false h k =
      let more : once (pre ++ z ∷ []) ≡ once pre ++ z ∷ [] = once_more pre z ∙ ap (λ b. cond b (once pre) (once pre ++ z ∷ [])) h in
      let w = once_front zs (pre ++ z ∷ []) in
      let all : once pre ++ (z ∷ w.0) ≡ once ys = sym (append_assoc (once pre) (z ∷ []) w.0) ∙ ap (λ l. l ++ w.0) (sym more) ∙ sym w.1 ∙ ap once (append_assoc pre (z ∷ []) zs ∙ e) in
      let at : place_in (once ys) z ≡ length (once pre) = ap (λ l. place_in l z) (sym all) ∙ place_behind (once pre) w.0 z (has_once pre z ∙ h) in
      let grown : length (once (pre ++ z ∷ [])) ≡ suc (length (once pre)) = ap length more ∙ length_push (once pre) z ∙ omega arith in
      new_step (place_in (once ys) z) (length (once pre)) (map (place_in (once ys)) zs) at (ap (λ n. are_in_order n (map (place_in (once ys)) zs)) (sym grown) ∙ k)

pub places_in_order : (ys : List ℕ) → are_in_order 0 (map (place_in (once ys)) ys) ≡ true
places_in_order ys = in_order_back ys [] ys refl

-- ---- a place tells its element

element_at : (xs : List ℕ) (y : ℕ) → has xs y ≡ true → get_or xs (place_in xs y) 0 ≡ y
element_at [] y h = absurd (false≢true h)
element_at (x ∷ xs) y h = go (y == x) refl (λ k. element_at xs y k) where
  go : (b : Bool) → (y == x) ≡ b → (has xs y ≡ true → get_or xs (place_in xs y) 0 ≡ y) → get_or (x ∷ xs) (cond (not b) (1 + place_in xs y) 0) 0 ≡ y
  go true e k = sym (eqb-true y x e)
  go false e k =
      let there : has xs y ≡ true = sym (ap (λ b. b || has xs y) (eq_sym x y ∙ e)) ∙ h in
      let up : 1 + place_in xs y ≡ suc (place_in xs y) = omega arith in
      ap (λ n. get_or (x ∷ xs) n 0) up ∙ k there

pub same_place : (xs : List ℕ) (x y : ℕ) → has xs x ≡ true → has xs y ≡ true → place_in xs x ≡ place_in xs y → x ≡ y
same_place xs x y h k e = sym (element_at xs x h) ∙ ap (λ n. get_or xs n 0) e ∙ element_at xs y k

-- ---- names that are told apart

module _ (f : ℕ → ℕ) (vs : List ℕ) (apart : (x y : ℕ) → has vs x ≡ true → has vs y ≡ true → f x ≡ f y → x ≡ y) where
  pub has_renamed : (xs : List ℕ) (y : ℕ) → ((x : ℕ) → has xs x ≡ true → has vs x ≡ true) → has vs y ≡ true → has (map f xs) (f y) ≡ has xs y
  has_renamed xs y within there = elim (cases_Bool (has xs y)) [
    | inl t ↦ has_map f xs y t ∙ sym t
    | inr n ↦ elim (cases_Bool (has (map f xs) (f y))) [
      | inl t ↦ (let w = map_has f xs (f y) t in absurd (true≢false (sym (ap (λ z. has xs z) (sym (apart w.0 y (within w.0 w.1) there w.2)) ∙ w.1) ∙ n)))
      | inr m ↦ m ∙ sym n
    ]
  ]

  -- as many different names
  as_many_from : (zs pre : List ℕ) → ((x : ℕ) → has (pre ++ zs) x ≡ true → has vs x ≡ true) → length (once (map f pre)) ≡ length (once pre)
      → length (once (map f (pre ++ zs))) ≡ length (once (pre ++ zs))
  as_many_from [] pre within e = ap (λ l. length (once (map f l))) (append-nil pre) ∙ e ∙ sym (ap (λ l. length (once l)) (append-nil pre))
  as_many_from (z ∷ zs) pre within e =
      ap (λ l. length (once (map f l))) (sym (append_assoc pre (z ∷ []) zs))
      ∙ as_many_from zs (pre ++ z ∷ []) (λ x h. within x (subst (λ l. has l x ≡ true) (append_assoc pre (z ∷ []) zs) h))
      (step (has pre z) refl (has_renamed pre z (λ x h. within x (in_left pre (z ∷ zs) x h)) (within z (in_right pre (z ∷ zs) z (or_left (z == z) (has zs z) (eq-eqb z z refl))))))
      ∙ ap (λ l. length (once l)) (append_assoc pre (z ∷ []) zs)
    where
      step : (b : Bool) → has pre z ≡ b → has (map f pre) (f z) ≡ has pre z → length (once (map f (pre ++ z ∷ []))) ≡ length (once (pre ++ z ∷ []))
      step true h k =
          ap (λ l. length (once l)) (map-append f pre (z ∷ [])) ∙ ap length (once_more (map f pre) (f z) ∙ ap (λ b. cond b (once (map f pre)) (once (map f pre) ++ f z ∷ [])) (k ∙ h)) ∙ e
          ∙ sym (ap length (once_more pre z ∙ ap (λ b. cond b (once pre) (once pre ++ z ∷ [])) h))
      step false h k =
          ap (λ l. length (once l)) (map-append f pre (z ∷ []))
          ∙ ap length (once_more (map f pre) (f z) ∙ ap (λ b. cond b (once (map f pre)) (once (map f pre) ++ f z ∷ [])) (k ∙ h))
          ∙ length_push (once (map f pre)) (f z) ∙ ap (λ n. n + 1) e
          ∙ sym (length_push (once pre) z) ∙ sym (ap length (once_more pre z ∙ ap (λ b. cond b (once pre) (once pre ++ z ∷ [])) h))

  pub as_many : (xs : List ℕ) → ((x : ℕ) → has xs x ≡ true → has vs x ≡ true) → length (once (map f xs)) ≡ length (once xs)
  as_many xs within = as_many_from xs [] within refl
