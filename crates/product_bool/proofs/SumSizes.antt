-- Sizes that are added up, and sums that are put behind others.
use Rattle.std.proofs.Common.{◌≡◌, ℕ, ◌+◌, ◌≤◌, ◌<◌, true, false, ℤ, pos, negsuc, neg_ℤ, ◌+ℤ◌, ◌-ℤ◌, nat_abs, List, [], ◌∷◌, ◌++◌, length, take, get_or, map}
use Rattle.std.proofs.Common.{ap, sym, ◌∙◌, subst, arith, append_assoc, to_z, of_z, Ok}
use Rattle.std.specs.Int.{w64}
use Rattle.std.proofs.lemmas.Int.{to_z-of_z}
use Rattle.std.proofs.lemmas.List.{map-append}
use Rattle.fd_model.specs.Linear.{Linear, with_product, scaled, in_integers}
use Rattle.fd_model.specs.ReifiedRows.{magnitudes, told_by}
use Rattle.linear_forms.specs.declared.Linear as code
use Rattle.linear_forms.specs.LinearForm.{form_of}
use Rattle.linear_forms.specs.IntegerSums.{AreIntegers}
use Rattle.linear_forms.proofs.Lemmas.{integer_at, integer_fits, passed}
use Rattle.product_bool.specs.Sums.{Adds, IsNormal}
use Rattle.product_bool.specs.Reified.{IsFar}
use Rattle.product_bool.proofs.TellingSums.{magnitudes_turn, magnitudes_front, told_is}

-- a coefficient, and its size, passed on
pub same_at : (ts : List (ℕ × ℤ)) (i : ℕ) → AreIntegers ts → i < length ts → to_z w64 (of_z w64 (get_or ts i (0, pos 0)).1) ≡ (get_or ts i (0, pos 0)).1
same_at ts i h l = to_z-of_z w64 (get_or ts i (0, pos 0)).1 (integer_fits (get_or ts i (0, pos 0)).1 (integer_at ts i (0, pos 0) h l))

size_at : (ts : List (ℕ × ℤ)) (i : ℕ) (m : ℤ) → AreIntegers ts → i < length ts → m ≡ pos (nat_abs (to_z w64 (of_z w64 (get_or ts i (0, pos 0)).1)))
    → to_z w64 (of_z w64 m) ≡ pos (nat_abs (get_or ts i (0, pos 0)).1)
size_at ts i m h l e = passed (pos (nat_abs (get_or ts i (0, pos 0)).1)) m (e ∙ ap (λ z. pos (nat_abs z)) (same_at ts i h l), integer_at ts i (0, pos 0) h l)

pub same_sum : {x y a b : ℤ} → x ≡ a → y ≡ b → x +ℤ y ≡ a +ℤ b
same_sum e f = λ i. e i +ℤ f i

pub one_less : {x a : ℤ} → x ≡ a → x +ℤ negsuc 0 ≡ a -ℤ pos 1
one_less e = λ i. e i +ℤ negsuc 0

-- one more size
more_sizes : (ts : List (ℕ × ℤ)) (i : ℕ) (m t total : ℤ) → AreIntegers ts → i < length ts → m ≡ pos (nat_abs (to_z w64 (of_z w64 (get_or ts i (0, pos 0)).1)))
    → t ≡ total → total ≡ pos (magnitudes (take i ts)) → t +ℤ to_z w64 (of_z w64 m) ≡ pos (magnitudes (take (i + 1) ts))
more_sizes ts i m t total h l e f g = (λ j. (f ∙ g) j +ℤ size_at ts i m h l e j) ∙ ap pos (sym (magnitudes_turn ts i l))

pub sizes_turn : (ts : List (ℕ × ℤ)) (i : ℕ) (m t total more : ℤ) → AreIntegers ts → i < length ts
    → m ≡ pos (nat_abs (to_z w64 (of_z w64 (get_or ts i (0, pos 0)).1))) → t ≡ total → total ≡ pos (magnitudes (take i ts))
    → (more ≡ t +ℤ to_z w64 (of_z w64 m)) × (in_integers (t +ℤ to_z w64 (of_z w64 m)) ≡ true)
    → (to_z w64 (of_z w64 more) ≡ pos (magnitudes (take (i + 1) ts))) × (in_integers (to_z w64 (of_z w64 more)) ≡ true)
sizes_turn ts i m t total more h l e f g w =
    let same = more_sizes ts i m t total h l e f g in
    let inside : in_integers (pos (magnitudes (take (i + 1) ts))) ≡ true = ap in_integers (sym same) ∙ w.1 in
    let is = passed (pos (magnitudes (take (i + 1) ts))) more (w.0 ∙ same, inside) in
    (is, ap in_integers is ∙ inside)

wide : (a b : ℕ) → a ≤ b → in_integers (pos a) ≡ false → in_integers (pos b) ≡ false
wide a b l h = grind arith

pub sizes_end : (ts : List (ℕ × ℤ)) (i : ℕ) (m t total : ℤ) → AreIntegers ts → i < length ts
    → m ≡ pos (nat_abs (to_z w64 (of_z w64 (get_or ts i (0, pos 0)).1))) → t ≡ total → total ≡ pos (magnitudes (take i ts))
    → in_integers (t +ℤ to_z w64 (of_z w64 m)) ≡ false → in_integers (pos (magnitudes ts)) ≡ false
sizes_end ts i m t total h l e f g w = wide (magnitudes (take (i + 1) ts)) (magnitudes ts) (magnitudes_front ts (i + 1)) (ap in_integers (sym (more_sizes ts i m t total h l e f g)) ∙ w)

-- both sums behind the others
pub sums_told : (x : ℕ) (w v : ℤ) (l : Linear) (old more new : List code.Linear) (one two : code.Linear) → IsNormal l → IsFar w l → v ≡ w
    → Adds l.products x v one.terms.items → one.constant ≡ l.constant +ℤ w → in_integers (l.constant +ℤ w) ≡ true
    → two.terms.items ≡ scaled (negsuc 0) one.terms.items → two.constant ≡ neg_ℤ l.constant -ℤ pos 1 → in_integers (neg_ℤ l.constant -ℤ pos 1) ≡ true → more ≡ old ++ one ∷ [] → new ≡ more ++ two ∷ []
    → (ls : List Linear) × (told_by x w l ≡ Ok ls) × (map form_of new ≡ map form_of old ++ ls)
sums_told x w v l old more new one two normal far e adds c h t d g first second =
    let a : Adds l.products x w one.terms.items = subst (λ y. Adds l.products x y one.terms.items) e adds in
    let told = told_is x w l far.inside normal.nonzero far.positive far.more (subst AreIntegers a.products a.inside) h g in
    let p : with_product l.products x w ≡ one.terms.items = sym a.products in
    let q : scaled (negsuc 0) (with_product l.products x w) ≡ two.terms.items = ap (scaled (negsuc 0)) p ∙ sym t in
    let is : new ≡ old ++ (one ∷ two ∷ []) = second ∙ (ap (λ ls. ls ++ two ∷ []) first ∙ append_assoc old (one ∷ []) (two ∷ [])) in (
      form_of one ∷ form_of two ∷ [],
      told ∙ (λ i. Ok (record { products = p i; constant = sym c i } ∷ record { products = q i; constant = sym d i } ∷ [])),
      ap (map form_of) is ∙ map-append form_of old (one ∷ two ∷ []),
    )
