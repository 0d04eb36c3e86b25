-- The first of two lists of offences.
use Rattle.std.proofs.Common.{◌≡◌, ℕ, Bool, true, false, cond, ◌||◌, ◌&&◌, ◌==◌, nat_lt, List, [], ◌∷◌, ◌++◌, Option, Some, None, refl, sym, ◌∙◌, ap, arith}
use Rattle.std.proofs.Common.{eqb-true}
use Rattle.fd_language.specs.declared.range_node.Offence.{Offence}
use Rattle.fd_language.specs.RangeVerdict.{offence_place, offence_kind, is_before, earlier, first}

both_before : (p k q l m n : ℕ) → (nat_lt p q || ((p == q) && nat_lt k l)) ≡ true → (nat_lt q m || ((q == m) && nat_lt l n)) ≡ true → (nat_lt p m || ((p == m) && nat_lt k n)) ≡ true
both_before p k q l m n h g = grind (arith, eqb-true)

neither_before : (p k q l m n : ℕ) → (nat_lt p q || ((p == q) && nat_lt k l)) ≡ false → (nat_lt q m || ((q == m) && nat_lt l n)) ≡ false → (nat_lt p m || ((p == m) && nat_lt k n)) ≡ false
neither_before p k q l m n h g = grind (arith, eqb-true)

regroup : (x y z : Bool) (a b c : Offence) → (x ≡ true → y ≡ true → z ≡ true) → (x ≡ false → y ≡ false → z ≡ false) →
    earlier (cond x (Some b) (Some a)) (Some c) ≡ cond x (cond y (Some c) (Some b)) (cond z (Some c) (Some a)) →
    earlier (Some a) (cond y (Some c) (Some b)) ≡ cond y (cond z (Some c) (Some a)) (cond x (Some b) (Some a)) →
    earlier (cond x (Some b) (Some a)) (Some c) ≡ earlier (Some a) (cond y (Some c) (Some b))
regroup true true z a b c f g h i = h ∙ (sym (ap (λ v. cond v (Some c) (Some a)) (f refl refl)) ∙ sym i)
regroup true false z a b c f g h i = h ∙ sym i
regroup false true z a b c f g h i = h ∙ sym i
regroup false false z a b c f g h i = h ∙ (ap (λ v. cond v (Some c) (Some a)) (g refl refl) ∙ sym i)

split_left : (x : Bool) (a b c : Offence) → earlier (cond x (Some b) (Some a)) (Some c) ≡ cond x (cond (is_before c b) (Some c) (Some b)) (cond (is_before c a) (Some c) (Some a))
split_left true a b c = refl
split_left false a b c = refl

split_right : (y : Bool) (a b c : Offence) → earlier (Some a) (cond y (Some c) (Some b)) ≡ cond y (cond (is_before c a) (Some c) (Some a)) (cond (is_before b a) (Some b) (Some a))
split_right true a b c = refl
split_right false a b c = refl

pub earlier_assoc : (a b c : Option Offence) → earlier (earlier a b) c ≡ earlier a (earlier b c)
earlier_assoc None b c = refl
earlier_assoc (Some a) None c = refl
earlier_assoc (Some a) (Some b) None = no_third (is_before b a) a b where
  no_third : (x : Bool) (a b : Offence) → earlier (cond x (Some b) (Some a)) None ≡ cond x (Some b) (Some a)
  no_third true a b = refl
  no_third false a b = refl
earlier_assoc (Some a) (Some b) (Some c) = regroup (is_before b a) (is_before c b) (is_before c a) a b c
    (λ h g. both_before (offence_place c) (offence_kind c) (offence_place b) (offence_kind b) (offence_place a) (offence_kind a) g h)
    (λ h g. neither_before (offence_place c) (offence_kind c) (offence_place b) (offence_kind b) (offence_place a) (offence_kind a) g h)
    (split_left (is_before b a) a b c) (split_right (is_before c b) a b c)

pub first-append : (xs ys : List Offence) → first (xs ++ ys) ≡ earlier (first xs) (first ys)
first-append [] ys = refl
first-append (x ∷ xs) ys = ap (λ o. earlier (Some x) o) (first-append xs ys) ∙ sym (earlier_assoc (Some x) (first xs) (first ys))

pub first_two : (xs ys : List Offence) (a b : Option Offence) → a ≡ first xs → b ≡ first ys → earlier a b ≡ first (xs ++ ys)
first_two xs ys a b e f = ap (λ o. earlier o b) e ∙ (ap (λ o. earlier (first xs) o) f ∙ sym (first-append xs ys))

pub first_three : (xs ys zs : List Offence) (a b c : Option Offence) → a ≡ first xs → b ≡ first ys → c ≡ first zs → earlier (earlier a b) c ≡ first (xs ++ ys ++ zs)
first_three xs ys zs a b c e f g = first_two (xs ++ ys) zs (earlier a b) c (first_two xs ys a b e f) g
