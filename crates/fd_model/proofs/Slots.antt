-- The fresh variables that stand for integers in a posted range.
use Rattle.std.proofs.Common.{◌≡◌, ℕ, suc, ◌+◌, ◌<◌, ◌≤◌, Bool, true, false, not, cond, ◌||◌, ◌==◌, ℤ, pos, List, [], ◌∷◌, ◌++◌, length, ◌⊎◌, refl, ap, sym}
use Rattle.std.proofs.Common.{◌∙◌, subst, inl, inr, arith, eqb-true, eq-eqb}
use Rattle.std.proofs.lemmas.Bool.{or_cases, or_left, or_right, cases_Bool, true≢false}
use Rattle.fd_language.specs.Term.{Int, Substitution, apply}
use Rattle.fd_language.specs.Unifier.{Unifies}
use Rattle.fd_language.specs.Family.{has}
use Rattle.fd_language.specs.Occurrences.{Occurrence}
use Rattle.fd_model.specs.Posting.{is_integer, integers_at, slot, slot_equations}
use Rattle.fd_language.proofs.Lemmas.{has_either}
use Rattle.fd_model.specs.Satisfaction.{Assignment}
use Rattle.fd_language.specs.Lists.{Each}
use Rattle.fd_model.specs.Answers.{Somewhere}
use Rattle.fd_model.proofs.GoalRows.{numbers, Gives}
use Rattle.fd_model.proofs.Lists.{each_map}
use Rattle.fd_model.proofs.ModelSubstitutions.{first_member, only_member}
use Rattle.fd_model.proofs.FlatPosting.{Free, variables}

-- each once
abbrev pub Apart : List ℕ → Type 0
Apart [] = Unit {0}
Apart (y ∷ ys) = (has ys y ≡ false) × Apart ys

not_in_both : (xs : List ℕ) (y x : ℕ) → has xs x ≡ false → (y ≡ x → ⊥) → has (xs ++ y ∷ []) x ≡ false
not_in_both xs y x h e = elim (cases_Bool (has (xs ++ y ∷ []) x)) [
  | inl i ↦ elim (has_either xs (y ∷ []) x i) [
    | inl j ↦ absurd (true≢false (sym j ∙ h))
    | inr j ↦ elim (or_cases (y == x) false j) [ inl k ↦ absurd (e (eqb-true y x k)) | inr k ↦ absurd (true≢false (sym k)) ]
  ]
  | inr i ↦ i
]

head_apart : (y x : ℕ) (ys : List ℕ) → has (y ∷ ys) x ≡ false → (x ≡ y → ⊥)
head_apart y x ys h e = true≢false (sym (or_left (y == x) (has ys x) (eq-eqb y x (sym e))) ∙ h)

tail_apart : (y x : ℕ) (ys : List ℕ) → has (y ∷ ys) x ≡ false → has ys x ≡ false
tail_apart y x ys h = elim (cases_Bool (has ys x)) [ inl i ↦ absurd (true≢false (sym (or_right (y == x) (has ys x) i) ∙ h)) | inr i ↦ i ]

apart_more : (ys : List ℕ) (x : ℕ) → Apart ys → has ys x ≡ false → Apart (ys ++ x ∷ [])
apart_more [] x h k = (refl, tt)
apart_more (y ∷ ys) x h k = (not_in_both ys x y h.0 (head_apart y x ys k), apart_more ys x h.1 (tail_apart y x ys k))

-- the integers among variables
abbrev pub integers : Substitution → List ℕ → List ℕ → List ℕ
integers look [] ys = ys
integers look (x ∷ xs) ys = cond (not (is_integer (look x)) || has ys x) (integers look xs ys) (integers look xs (ys ++ x ∷ []))

pub integers_are : (look : Substitution) (ps : List Occurrence) (ys : List ℕ) → Free ps → integers_at look ps ys ≡ integers look (variables ps) ys
integers_are look [] ys h = refl
integers_are look (p ∷ ps) ys h = rw h.0 (two_ways (not (is_integer (look p.variable)) || has ys p.variable) (integers_are look ps ys h.1) (integers_are look ps (ys ++ p.variable ∷ []) h.1)) where
  two_ways : (b : Bool) {x x' y y' : List ℕ} → x ≡ x' → y ≡ y' → cond b x y ≡ cond b x' y'
  two_ways true e f = e
  two_ways false e f = f

not_or : (a b : Bool) → (not a || b) ≡ false → (a ≡ true) × (b ≡ false)
not_or a b h = grind arith

module _ (look : Substitution) where
  pub integers_apart : (xs ys : List ℕ) → Apart ys → Apart (integers look xs ys)
  integers_apart [] ys h = h
  integers_apart (x ∷ xs) ys h = elim (cases_Bool (not (is_integer (look x)) || has ys x)) [
    | inl e ↦ rw e (integers_apart xs ys h)
    | inr e ↦ rw e (integers_apart xs (ys ++ x ∷ []) (apart_more ys x h (not_or (is_integer (look x)) (has ys x) e).1))
  ]

  abbrev From : List ℕ → List ℕ → ℕ → Type 0
  From xs ys y = (has ys y ≡ true) ⊎ ((has xs y ≡ true) × (is_integer (look y) ≡ true))

  from_more : (x : ℕ) (xs ys : List ℕ) (y : ℕ) → From xs ys y → From (x ∷ xs) ys y
  from_more x xs ys y (inl k) = inl k
  from_more x xs ys y (inr k) = inr (or_right (x == y) (has xs y) k.0, k.1)

  from_new : (x : ℕ) (xs ys : List ℕ) (y : ℕ) → is_integer (look x) ≡ true → From xs (ys ++ x ∷ []) y → From (x ∷ xs) ys y
  from_new x xs ys y i (inl k) = elim (has_either ys (x ∷ []) y k) [
    | inl j ↦ inl j
    | inr j ↦ let same = only_member x y j in inr (subst (λ z. has (x ∷ xs) z ≡ true) same (first_member x xs), subst (λ z. is_integer (look z) ≡ true) same i)
  ]
  from_new x xs ys y i (inr k) = inr (or_right (x == y) (has xs y) k.0, k.1)

  from_test : (x : ℕ) (xs ys : List ℕ) (y : ℕ) (b : Bool) → (not (is_integer (look x)) || has ys x) ≡ b → (has (integers look xs ys) y ≡ true → From xs ys y)
      → (has (integers look xs (ys ++ x ∷ [])) y ≡ true → From xs (ys ++ x ∷ []) y)
      → has (cond b (integers look xs ys) (integers look xs (ys ++ x ∷ []))) y ≡ true → From (x ∷ xs) ys y
  from_test x xs ys y true e f g k = from_more x xs ys y (f k)
  from_test x xs ys y false e f g k = from_new x xs ys y (not_or (is_integer (look x)) (has ys x) e).0 (g k)

  pub integers_from : (xs ys : List ℕ) (y : ℕ) → has (integers look xs ys) y ≡ true → From xs ys y
  integers_from [] ys y h = inl h
  integers_from (x ∷ xs) ys y h = from_test x xs ys y (not (is_integer (look x)) || has ys x) refl (λ k. integers_from xs ys y k) (λ k. integers_from xs (ys ++ x ∷ []) y k) h

-- slots
pub slot_out : (n : ℕ) (ys : List ℕ) (y : ℕ) → has ys y ≡ false → slot n ys y ≡ y
slot_out n [] y h = refl
slot_out n (x ∷ ys) y h = elim (cases_Bool (x == y)) [ inl e ↦ absurd (head_apart x y ys h (sym (eqb-true x y e))) | inr e ↦ rw e (slot_out (suc n) ys y (tail_apart x y ys h)) ]

slot_head : (n x : ℕ) (ys : List ℕ) → slot n (x ∷ ys) x ≡ n
slot_head n x ys = rw (eq-eqb x x refl) refl

slot_tail : (n x y : ℕ) (ys : List ℕ) → (x == y) ≡ false → slot n (x ∷ ys) y ≡ slot (suc n) ys y
slot_tail n x y ys e = rw e refl

pub slot_low : (n : ℕ) (ys : List ℕ) (y : ℕ) → has ys y ≡ true → n ≤ slot n ys y
slot_low n [] y h = absurd (true≢false (sym h))
slot_low n (x ∷ ys) y h = elim (or_cases (x == y) (has ys y) h) [
  | inl e ↦ rw e (omega arith)
  | inr e ↦ elim (cases_Bool (x == y)) [ inl k ↦ rw k (omega arith) | inr k ↦ let l = slot_low (suc n) ys y e in rw k (omega arith) ]
]

pub slot_high : (n : ℕ) (ys : List ℕ) (y : ℕ) → has ys y ≡ true → slot n ys y < n + length ys
slot_high n [] y h = absurd (true≢false (sym h))
slot_high n (x ∷ ys) y h = elim (cases_Bool (x == y)) [
  | inl k ↦ rw k (omega arith)
  | inr k ↦ rw k (elim (or_cases (x == y) (has ys y) h) [ inl e ↦ absurd (true≢false (sym e ∙ k)) | inr e ↦ let l = slot_high (suc n) ys y e in omega arith ])
]

-- the numbers of the variables at their slots
abbrev pub extend : ℕ → List ℕ → Assignment → Assignment
extend n [] a x = a x
extend n (y ∷ ys) a x = cond (x == n) (a y) (extend (suc n) ys a x)

pub extend_bounded : (M n : ℕ) (ys : List ℕ) (a : Assignment) → ((x : ℕ) → a x ≤ M) → (x : ℕ) → extend n ys a x ≤ M
extend_bounded M n [] a h x = h x
extend_bounded M n (y ∷ ys) a h x = elim (cases_Bool (x == n)) [ inl e ↦ rw e (h y) | inr e ↦ rw e (extend_bounded M (suc n) ys a h x) ]

pub extend_low : (n : ℕ) (ys : List ℕ) (a : Assignment) (x : ℕ) → x < n → extend n ys a x ≡ a x
extend_low n [] a x h = refl
extend_low n (y ∷ ys) a x h = elim (cases_Bool (x == n)) [ inl e ↦ absurd (let k = eqb-true x n e in omega arith) | inr e ↦ rw e (extend_low (suc n) ys a x (omega arith)) ]

not_same : (x n : ℕ) → n < x → (x == n) ≡ false
not_same x n h = elim (cases_Bool (x == n)) [ inl e ↦ absurd (let k = eqb-true x n e in omega arith) | inr e ↦ e ]

pub extend_slot : (n : ℕ) (ys : List ℕ) (a : Assignment) (y : ℕ) → has ys y ≡ true → extend n ys a (slot n ys y) ≡ a y
extend_slot n [] a y h = absurd (true≢false (sym h))
extend_slot n (x ∷ ys) a y h = elim (cases_Bool (x == y)) [
  | inl k ↦ rw (k, eq-eqb n n refl) (ap a (eqb-true x y k))
  | inr k ↦
      let later : has ys y ≡ true = elim (or_cases (x == y) (has ys y) h) [ inl e ↦ absurd (true≢false (sym e ∙ k)) | inr e ↦ e ] in
      rw (k, not_same (slot (suc n) ys y) n (let l = slot_low (suc n) ys y later in omega arith)) (extend_slot (suc n) ys a y later)
]

abbrev pub IsInteger : Substitution → ℕ → Type 0
IsInteger look y = (k : ℤ) × (look y ≡ Int k)

slot_same : (n x y : ℕ) (ys : List ℕ) → (x == y) ≡ true → slot n (x ∷ ys) y ≡ n
slot_same n x y ys e = rw e refl

pub slots_given : (look : Substitution) (n : ℕ) (ys : List ℕ) (y : ℕ) → has ys y ≡ true → IsInteger look y → Somewhere (Gives (slot n ys y)) (slot_equations look n ys)
slots_given look n [] y h i = absurd (true≢false (sym h))
slots_given look n (x ∷ ys) y h i = elim (cases_Bool (x == y)) [
  | inl k ↦ subst (λ z. Somewhere (Gives z) (slot_equations look n (x ∷ ys))) (sym (slot_same n x y ys k)) (inl (refl, (i.0, ap look (eqb-true x y k) ∙ i.1)))
  | inr k ↦ subst (λ z. Somewhere (Gives z) (slot_equations look n (x ∷ ys))) (sym (slot_tail n x y ys k))
      (inr (slots_given look (suc n) ys y (elim (or_cases (x == y) (has ys y) h) [ inl e ↦ absurd (true≢false (sym e ∙ k)) | inr e ↦ e ]) i))
]

-- each equation is that of a slot
pub slots_each : (look : Substitution) (n : ℕ) (ys : List ℕ) → Apart ys → ((y : ℕ) → has ys y ≡ true → IsInteger look y)
    → Each (λ e. (x : ℕ) × Gives x e × ((y : ℕ) × (has ys y ≡ true) × (slot n ys y ≡ x))) (slot_equations look n ys)
slots_each look n [] h i = tt
slots_each look n (x ∷ ys) h i = (
  (n, (refl, i x (first_member x ys)), (x, first_member x ys, slot_head n x ys)),
  each_map (λ e. (w : ℕ) × Gives w e × ((y : ℕ) × (has ys y ≡ true) × (slot (suc n) ys y ≡ w))) (λ e. (w : ℕ) × Gives w e × ((y : ℕ) × (has (x ∷ ys) y ≡ true) × (slot n (x ∷ ys) y ≡ w)))
      (λ e g. (
        g.0,
        g.1,
        (
          g.2.0,
          or_right (x == g.2.0) (has ys g.2.0) g.2.1,
          slot_tail n x g.2.0 ys (elim (cases_Bool (x == g.2.0))
              [ inl k ↦ absurd (true≢false (sym g.2.1 ∙ subst (λ z. has ys z ≡ false) (eqb-true x g.2.0 k) h.0)) | inr k ↦ k ]) ∙ g.2.2,
        ),
      ))
      (slot_equations look (suc n) ys) (slots_each look (suc n) ys h.1 (λ y k. i y (or_right (x == y) (has ys y) k))),
)

-- the equations under numbers
pub slots_unify : (look : Substitution) (n : ℕ) (ys : List ℕ) (a e : Assignment) → Apart ys → ((y : ℕ) → has ys y ≡ true → look y ≡ Int (pos (a y)))
    → ((y : ℕ) → has ys y ≡ true → e (slot n ys y) ≡ a y) → Unifies (numbers e) (slot_equations look n ys)
slots_unify look n [] a e h i k = tt
slots_unify look n (x ∷ ys) a e h i k = (
  ap (λ m. Int (pos m)) (sym (ap e (slot_head n x ys)) ∙ k x (first_member x ys)) ∙ sym (ap (apply (numbers e)) (i x (first_member x ys))),
  slots_unify look (suc n) ys a e h.1 (λ y g. i y (or_right (x == y) (has ys y) g))
      (λ y g. sym (ap e (slot_tail n x y ys (elim (cases_Bool (x == y))
      [ inl j ↦ absurd (true≢false (sym g ∙ subst (λ z. has ys z ≡ false) (eqb-true x y j) h.0)) | inr j ↦ j ]))) ∙ k y (or_right (x == y) (has ys y) g)),
)

pub int_number : (n m : ℕ) → Int (pos n) ≡ Int (pos m) → n ≡ m
int_number n m e = cc

pub slots_back : (look : Substitution) (n : ℕ) (ys : List ℕ) (a e : Assignment) → ((y : ℕ) → has ys y ≡ true → look y ≡ Int (pos (a y)))
    → Unifies (numbers e) (slot_equations look n ys) → (y : ℕ) → has ys y ≡ true → e (slot n ys y) ≡ a y
slots_back look n [] a e i u y h = absurd (true≢false (sym h))
slots_back look n (x ∷ ys) a e i u y h = elim (cases_Bool (x == y)) [
  | inl k ↦ rw k (int_number (e n) (a y) (u.0 ∙ ap (apply (numbers e)) (i x (first_member x ys)) ∙ ap (λ z. Int (pos (a z))) (eqb-true x y k)))
  | inr k ↦ rw k (slots_back look (suc n) ys a e (λ w g. i w (or_right (x == w) (has ys w) g)) u.1 y (elim (or_cases (x == y) (has ys y) h) [ inl j ↦ absurd (true≢false (sym j ∙ k)) | inr j ↦ j ]))
]
