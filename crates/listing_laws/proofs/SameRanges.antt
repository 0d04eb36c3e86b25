-- Ranges that are the same in slots are each other's renaming, by different variables for different ones.
use Rattle.std.proofs.Common.{◌≡◌, ◌⊎◌, ℕ, suc, ◌+◌, ◌<◌, ◌==◌, Bool, true, false, cond, not, List, [], ◌∷◌, map, refl, sym, ◌∙◌, ap, subst, inl, inr, arith}
use Rattle.std.proofs.Common.{eqb-true, eq-eqb}
use Rattle.std.specs.Prelude.{nat_eq, filter, get_or}
use Rattle.std.specs.List.{position_or_len}
use Rattle.std.proofs.lemmas.Bool.{cases_Bool, or_cases, or_left, or_right, true≢false}
use Rattle.std.proofs.lemmas.List.{map-append}
use Rattle.fd_language.specs.Family.{has}
use Rattle.fd_language.specs.Lists.{Each}
use Rattle.fd_language.specs.Range.{Range}
use Rattle.fd_language.specs.Needs.{once}
use Rattle.fd_language.specs.Occurrences.{Occurrence, range_occurrences}
use Rattle.fd_language.specs.RangeRenaming.{rename_range}
use Rattle.fd_language.proofs.Lemmas.{has_once, has_map, map_has, collected_by, variables_collected, renamed_leaves, renamed_agree, renamed_twice}
use Rattle.fd_language.proofs.Lemmas.{renamed_as_is}
use Rattle.range_code.specs.Slots.{slots_of, slot_of, in_slots}

-- the variables of a range, at each of their occurrences
abbrev vars : Range → List ℕ
vars r = map (λ p. p.variable) (range_occurrences r)

vars_renamed : (f : ℕ → ℕ) (r : Range) → vars (rename_range f r) ≡ map f (vars r)
vars_renamed f r =
    variables_collected (rename_range f r)
    ∙ renamed_leaves (λ l. l.variable ∷ []) f r
    ∙ sym (ap (map f) (variables_collected r) ∙ collected_by (map f) refl (map-append f) (λ l. l.variable ∷ []) r)

each_at : (Q : ℕ → Type 0) (ps : List Occurrence) → ((y : ℕ) → has (map (λ p. p.variable) ps) y ≡ true → Q y) → Each (λ p. Q p.variable) ps
each_at Q [] h = tt
each_at Q (p ∷ ps) h = (
  h p.variable (or_left (p.variable == p.variable) (has (map (λ q. q.variable) ps) p.variable) (eq-eqb p.variable p.variable refl)),
  each_at Q ps (λ y i. h y (or_right (p.variable == y) (has (map (λ q. q.variable) ps) y) i)),
)

-- the variable with a place in a list
abbrev at_place : List ℕ → ℕ → ℕ
at_place xs n = get_or xs n 0

there_of : (xs : List ℕ) (y : ℕ) → has xs y ≡ true → at_place xs (position_or_len (nat_eq y) xs) ≡ y
there_of [] y h = absurd (true≢false (sym h))
there_of (x ∷ xs) y h = by_test (cases_Bool (y == x)) (there_of xs y) where
  by_test : ((y == x) ≡ true) ⊎ ((y == x) ≡ false) → (has xs y ≡ true → at_place xs (position_or_len (nat_eq y) xs) ≡ y) → at_place (x ∷ xs) (position_or_len (nat_eq y) (x ∷ xs)) ≡ y
  by_test (inl e) k = rw e (sym (eqb-true y x e))
  by_test (inr e) k = rw e (let up : suc (position_or_len (nat_eq y) xs) ≡ 1 + position_or_len (nat_eq y) xs = omega arith in
      subst (λ n. get_or (x ∷ xs) n 0 ≡ y) up (k (elim (or_cases (x == y) (has xs y) h)
      [ inl l ↦ absurd (true≢false (sym (eq-eqb y x (sym (eqb-true x y l))) ∙ e)) | inr l ↦ l ])))

-- the variable of a slot
abbrev variable_of : Range → ℕ → ℕ
variable_of r n = at_place (slots_of r) n

back : (r : Range) (y : ℕ) → has (vars r) y ≡ true → variable_of r (slot_of r y) ≡ y
back r y h = there_of (slots_of r) y (has_once (vars r) y ∙ h)

from_slots : (r : Range) → rename_range (variable_of r) (in_slots r) ≡ r
from_slots r =
    renamed_twice (variable_of r) (slot_of r) r
    ∙ (renamed_agree (λ y. variable_of r (slot_of r y)) (λ y. y) r (each_at (λ y. variable_of r (slot_of r y) ≡ y) (range_occurrences r) (back r)) ∙ renamed_as_is r)

-- a number above all of these
abbrev above : List ℕ → ℕ
above [] = 0
above (x ∷ xs) = suc (x + above xs)

is_above : (xs : List ℕ) (y : ℕ) → has xs y ≡ true → y < above xs
is_above [] y h = absurd (true≢false (sym h))
is_above (x ∷ xs) y h = elim (or_cases (x == y) (has xs y) h) [
  | inl e ↦ let same = eqb-true x y e in omega (arith, same)
  | inr e ↦ let k = is_above xs y e in omega (arith, k)
]

module _ (r q : Range) (same : in_slots r ≡ in_slots q) where
  -- each variable of q becomes the one of r with its slot, and any other one is none of r's
  abbrev pub between : ℕ → ℕ
  between y = cond (has (vars q) y) (variable_of r (slot_of q y)) (y + above (vars r))

  slots_same : map (slot_of r) (vars r) ≡ map (slot_of q) (vars q)
  slots_same = sym (vars_renamed (slot_of r) r) ∙ (ap vars same ∙ vars_renamed (slot_of q) q)

  -- the variable of r that has the slot of one of q's
  fellow : (y : ℕ) → has (vars q) y ≡ true → (x : ℕ) × (has (vars r) x ≡ true) × (slot_of r x ≡ slot_of q y)
  fellow y h = map_has (slot_of r) (vars r) (slot_of q y) (subst (λ l. has l (slot_of q y) ≡ true) (sym slots_same) (has_map (slot_of q) (vars q) y h))

  pub renamed : rename_range between q ≡ r
  renamed =
      renamed_agree between (λ y. variable_of r (slot_of q y)) q (each_at (λ y. between y ≡ variable_of r (slot_of q y)) (range_occurrences q) (λ y h. rw h refl))
      ∙ (sym (renamed_twice (variable_of r) (slot_of q) q) ∙ (ap (rename_range (variable_of r)) (sym same) ∙ from_slots r))

  of_test : (y : ℕ) → has (vars q) y ≡ true → between y ≡ variable_of r (slot_of q y)
  of_test y h = rw h refl

  -- what a variable of q becomes
  of_own : (y : ℕ) → has (vars q) y ≡ true → (x : ℕ) × (has (vars r) x ≡ true) × (slot_of r x ≡ slot_of q y) × (between y ≡ x)
  of_own y h = let f = fellow y h in (f.0, f.1, f.2, of_test y h ∙ (ap (variable_of r) (sym f.2) ∙ back r f.0 f.1))

  of_other : (y : ℕ) → has (vars q) y ≡ false → between y ≡ y + above (vars r)
  of_other y h = rw h refl

  pub apart : (y z : ℕ) → between y ≡ between z → y ≡ z
  apart y z e = by_tests (cases_Bool (has (vars q) y)) (cases_Bool (has (vars q) z)) where
    by_tests : (has (vars q) y ≡ true) ⊎ (has (vars q) y ≡ false) → (has (vars q) z ≡ true) ⊎ (has (vars q) z ≡ false) → y ≡ z
    by_tests (inl h) (inl k) =
        let f = of_own y h in
        let g = of_own z k in
        let one : f.0 ≡ g.0 = sym f.3 ∙ (e ∙ g.3) in
        sym (back q y h) ∙ (ap (variable_of q) (sym f.2 ∙ (ap (slot_of r) one ∙ g.2)) ∙ back q z k)
    by_tests (inl h) (inr k) =
        let f = of_own y h in
        let low = is_above (vars r) f.0 f.1 in
        let high = of_other z k in
        let no : f.0 ≡ z + above (vars r) = sym f.3 ∙ (e ∙ high) in absurd (omega (arith, low, no))
    by_tests (inr h) (inl k) =
        let f = of_own z k in
        let low = is_above (vars r) f.0 f.1 in
        let high = of_other y h in
        let no : f.0 ≡ y + above (vars r) = sym f.3 ∙ (sym e ∙ high) in absurd (omega (arith, low, no))
    by_tests (inr h) (inr k) =
        let one : y + above (vars r) ≡ z + above (vars r) = sym (of_other y h) ∙ (e ∙ of_other z k) in omega (arith, one)

-- ---- slots under different variables for different ones

module _ (f : ℕ → ℕ) (apart : (x y : ℕ) → f x ≡ f y → x ≡ y) where
  eq_kept : (x y : ℕ) → (f y == f x) ≡ (y == x)
  eq_kept x y = by_test (cases_Bool (y == x)) where
    by_test : ((y == x) ≡ true) ⊎ ((y == x) ≡ false) → (f y == f x) ≡ (y == x)
    by_test (inl e) = eq-eqb (f y) (f x) (ap f (eqb-true y x e)) ∙ sym e
    by_test (inr e) = elim (cases_Bool (f y == f x)) [
      | inl k ↦ absurd (true≢false (sym (eq-eqb y x (apart y x (eqb-true (f y) (f x) k))) ∙ e))
      | inr k ↦ k ∙ sym e
    ]

  without_kept : (x : ℕ) (ys : List ℕ) → filter (λ y. not (y == f x)) (map f ys) ≡ map f (filter (λ y. not (y == x)) ys)
  without_kept x [] = refl
  without_kept x (y ∷ ys) = rw (eq_kept x y) (by_test (y == x) (filter (λ y. not (y == f x)) (map f ys)) (filter (λ y. not (y == x)) ys) (without_kept x ys)) where
    by_test : (b : Bool) (one other : List ℕ) → one ≡ map f other → cond (not b) (f y ∷ one) one ≡ map f (cond (not b) (y ∷ other) other)
    by_test true one other e = e
    by_test false one other e = ap (λ l. f y ∷ l) e

  once_kept : (xs : List ℕ) → once (map f xs) ≡ map f (once xs)
  once_kept [] = refl
  once_kept (x ∷ xs) = ap (λ l. f x ∷ l) (ap (filter (λ y. not (y == f x))) (once_kept xs) ∙ without_kept x (once xs))

  pub slots_kept : (r : Range) → slots_of (rename_range f r) ≡ map f (slots_of r)
  slots_kept r = ap once (vars_renamed f r) ∙ once_kept (vars r)
