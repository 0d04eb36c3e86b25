-- Lists of integers: which are pairwise different, which is an element, how often one occurs.
use Rattle.std.proofs.Common.{◌≡◌, ℕ, zero, suc, ◌+◌, ◌<◌, ◌≤◌, Bool, true, false, cond, ◌||◌, ℤ, pos, List, [], ◌∷◌, ◌++◌, map, length, take, get_or, not}
use Rattle.std.proofs.Common.{refl, sym, ap, ◌∙◌, inl, inr, arith, true≢false}
use Rattle.std.specs.Prelude.{◌==◌}
use Rattle.std.specs.List.{list_any}
use Rattle.std.proofs.lemmas.Bool.{eqb-true, eq-eqb}
use Rattle.std.specs.Ordering.{int_eq}
use Rattle.std.proofs.lemmas.Bool.Decides.{Decides-int_eq}
use Rattle.fd_model.specs.Satisfaction.{IsNumber, AreNumbers, IsNone, AreDifferent, IsElement, occurrences}

-- ---- pairwise different

none_but : (z w : ℤ) (xs : List ℤ) → IsNone z xs → (z ≡ w → ⊥) → IsNone z (xs ++ w ∷ [])
none_but z w [] h n = (n, tt)
none_but z w (x ∷ xs) h n = (h.0, none_but z w xs h.1 n)

any_left : (p q : Bool) → (p || q) ≡ false → (p ≡ false) × (q ≡ false)
any_left false q h = (refl, h)
any_left true q h = absurd (true≢false h)

-- one more that is none of them
pub different_more : (xs : List ℤ) (w : ℤ) → AreDifferent xs → list_any (int_eq w) xs ≡ false → AreDifferent (xs ++ w ∷ [])
different_more [] w d h = (tt, tt)
different_more (x ∷ xs) w d h =
    let both = any_left (int_eq w x) (list_any (int_eq w) xs) h in
    (none_but x w xs d.0 (λ e. true≢false (sym ((Decides-int_eq w x).1 (sym e)) ∙ both.0)), different_more xs w d.1 both.1)

none_of : (x w : ℤ) (xs ys : List ℤ) → IsNone x (xs ++ w ∷ ys) → x ≡ w → ⊥
none_of x w [] ys h e = h.0 e
none_of x w (y ∷ xs) ys h e = none_of x w xs ys h.1 e

-- one more that is one of them
pub different_not : (xs ys : List ℤ) (w : ℤ) → list_any (int_eq w) xs ≡ true → AreDifferent (xs ++ w ∷ ys) → ⊥
different_not [] ys w h d = true≢false (sym h)
different_not (x ∷ xs) ys w h d = by (int_eq w x) refl h (different_not xs ys w) where
  by : (t : Bool) → int_eq w x ≡ t → (t || list_any (int_eq w) xs) ≡ true → (list_any (int_eq w) xs ≡ true → AreDifferent (xs ++ w ∷ ys) → ⊥) → ⊥
  by true e h i = none_of x w xs ys d.0 (sym ((Decides-int_eq w x).0 e))
  by false e h i = i h d.1

-- ---- elements

-- the element with a number
pub element_at : (zs : List ℤ) (n i : ℕ) (k z : ℤ) → i < length zs → k ≡ pos (n + i) → z ≡ get_or zs i (pos 0) → IsElement n zs k z
element_at [] n i k z l e f = absurd (omega arith)
element_at (y ∷ ys) n zero k z l e f = inl ((let s : n + 0 ≡ n = omega arith in e ∙ ap pos s), f)
element_at (y ∷ ys) n (suc i) k z l e f = inr (element_at ys (suc n) i k z (omega arith) (let s : n + suc i ≡ suc n + i = omega arith in e ∙ ap pos s) f)

pub record HasElement (zs : List ℤ) (n : ℕ) (k z : ℤ) : Type 0 where
  pub at : ℕ
  pub within : at < length zs
  pub number : k ≡ pos (n + at)
  pub is : z ≡ get_or zs at (pos 0)

pub element_is : (zs : List ℤ) (n : ℕ) (k z : ℤ) → IsElement n zs k z → HasElement zs n k z
element_is [] n k z h = absurd h
element_is (y ∷ ys) n k z (inl h) = record { at = 0; within = omega arith; number = (let s : n + 0 ≡ n = omega arith in h.0 ∙ ap pos (sym s)); is = h.1 }
element_is (y ∷ ys) n k z (inr h) =
    let r = element_is ys (suc n) k z h in
    record { at = suc r.at; within = (let w = r.within in omega arith); number = (let s : n + suc r.at ≡ suc n + r.at = omega arith in r.number ∙ ap pos (sym s)); is = r.is }

-- ---- one more

pub numbers_more : {X : Type 0} (M : ℕ) (f : X → ℤ) (xs : List X) (x : X) → AreNumbers M (map f xs) → IsNumber M (f x) → AreNumbers M (map f (xs ++ x ∷ []))
numbers_more M f [] x h n = (n, tt)
numbers_more M f (y ∷ xs) x h n = (h.0, numbers_more M f xs x h.1 n)

pub numbers_at : {X : Type 0} (M : ℕ) (f : X → ℤ) (xs : List X) (i : ℕ) (d : X) → i < length xs → AreNumbers M (map f xs) → IsNumber M (f (get_or xs i d))
numbers_at M f [] i d l h = absurd (omega arith)
numbers_at M f (x ∷ xs) zero d l h = h.0
numbers_at M f (x ∷ xs) (suc i) d l h = numbers_at M f xs i d (omega arith) h.1

pub occurrences_more : {X : Type 0} (f : X → ℤ) (z : ℤ) (xs : List X) (x : X) → occurrences (map f (xs ++ x ∷ [])) z ≡ cond (int_eq (f x) z) (occurrences (map f xs) z + 1) (occurrences (map f xs) z)
occurrences_more f z [] x = by (int_eq (f x) z) where
  by : (t : Bool) → cond t 1 0 ≡ cond t (0 + 1) 0
  by true = omega arith
  by false = refl
occurrences_more f z (y ∷ xs) x = by (int_eq (f y) z) (int_eq (f x) z) (occurrences (map f (xs ++ x ∷ [])) z) (occurrences (map f xs) z) (occurrences_more f z xs x) where
  by : (s t : Bool) (m n : ℕ) → m ≡ cond t (n + 1) n → cond s (suc m) m ≡ cond t (cond s (suc n) n + 1) (cond s (suc n) n)
  by true true m n h = omega arith
  by true false m n h = omega arith
  by false true m n h = h
  by false false m n h = h

-- the front of a list with one more
pub take_next : {X : Type 0} (xs : List X) (i : ℕ) (d : X) → i < length xs → take (i + 1) xs ≡ take i xs ++ get_or xs i d ∷ []
take_next [] i d l = absurd (omega arith)
take_next (x ∷ xs) zero d l = refl
take_next (x ∷ xs) (suc i) d l =
    let e : suc i + 1 ≡ suc (i + 1) = omega arith in
    ap (λ n. take n (x ∷ xs)) e ∙ ap (λ ys. x ∷ ys) (take_next xs i d (omega arith))

pub take_whole : {X : Type 0} (xs : List X) (i : ℕ) → length xs ≤ i → take i xs ≡ xs
take_whole [] zero l = refl
take_whole [] (suc i) l = refl
take_whole (x ∷ xs) zero l = absurd (omega (arith, l))
take_whole (x ∷ xs) (suc i) l = ap (λ ys. x ∷ ys) (take_whole xs i (omega (arith, l)))

-- whether there are items
pub no_items : {X : Type 0} (xs : List X) (b : Bool) → b ≡ (length xs == 0) → b ≡ true → xs ≡ []
no_items [] b e t = refl
no_items (x ∷ xs) b e t = absurd (let n : suc (length xs) ≡ 0 = eqb-true (suc (length xs)) 0 (sym e ∙ t) in omega (arith, n))

pub some_items : {X : Type 0} (xs : List X) (b : Bool) → b ≡ (length xs == 0) → b ≡ false → xs ≡ [] → ⊥
some_items xs b e f n = true≢false (sym (eq-eqb (length xs) 0 (ap (λ ys. length ys) n)) ∙ sym e ∙ f)

pub not_false : (b : Bool) → not b ≡ false → b ≡ true
not_false true e = refl
not_false false e = absurd (true≢false e)

pub not_true : (b : Bool) → not b ≡ true → b ≡ false
not_true true e = absurd (true≢false (sym e))
not_true false e = refl
