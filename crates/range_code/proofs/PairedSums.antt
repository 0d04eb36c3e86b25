-- Sums of a constant and one product or two, with the variables in hand.
use Rattle.std.proofs.Common.{◌≡◌, ℕ, zero, suc, ◌+◌, ◌*◌, ◌-◌, ◌/◌, ◌^◌, ◌<◌, ◌≤◌, min, Bool, true, false, ◌&&◌, int_le, ℤ, pos, negsuc, neg_ℤ, nat_abs, ◌+ℤ◌, ◌-ℤ◌, ◌*ℤ◌, ◌≤ℤ◌, ◌<ℤ◌, List, [], ◌∷◌, length}
use Rattle.std.proofs.Common.{get_or, refl, sym, ◌∙◌, ap, subst, SFits, arith}
use mir.Syntax.{w32, w64}
use Rattle.std.proofs.Math.Nat.{add-div_right, div-eq_of_lt, zero-div}
use Rattle.std.proofs.lemmas.Int.{ints}
use Rattle.fd_language.specs.declared.TheConstants.{INFINITY}
use Rattle.fd_language.specs.Family.{Family, universe}
use Rattle.fd_language.specs.Range.{div_down, div_up, least, greatest}
use Rattle.fd_language.proofs.Lemmas.{abs_add}
use Rattle.range_code.specs.declared.frame.Arg.{Arg}
use Rattle.range_code.specs.declared.form.End.{End}
use Rattle.range_code.specs.declared.form.Product.{Product}
use Rattle.range_code.specs.declared.form.Bound.{Bound}
use Rattle.range_code.specs.declared.form.Division.TheVariants.{Whole}
use Rattle.range_code.specs.declared.told_forms.Pairing.{Pairing}
use Rattle.range_code.specs.Frames.{slot_set, family_of}
use Rattle.range_code.specs.Forms.{end_of, sum_of, product_value, AreSeen, AreNarrow}
use Rattle.range_code.specs.QuickForms.{IsLessOf}
use Rattle.range_code.specs.SpelledRanges.{disjunction_range}
use Rattle.range_code.specs.Work.{filled_set}
use Rattle.range_code.specs.Choices.{is_in}
use Rattle.domain_ranges.specs.Narrowing.{between}
use Rattle.std.proofs.lemmas.List.Elements.{filter_agree}
use Rattle.range_code.proofs.EndQuotients.{up_quotient}
use Rattle.range_code.specs.PairedSums.{extreme, extreme_sum, width_of_pairing, IsPairingOf}
use Rattle.range_code.proofs.Forms.{plus_none, whole_value, product_small, fits_small}

-- the quotient of a sum and a number beyond it
pub down_one : (u : ℤ) (n : ℕ) → pos 0 ≤ℤ u → nat_abs u ≤ n → div_down INFINITY (u +ℤ pos (suc n)) (pos (suc n)) ≡ pos 1
down_one (pos k) n h l = let b : 0 < suc n = omega arith in let s : k < suc n = omega (arith, l) in
    ap pos (add-div_right k b ∙ ap (λ x. x + 1) (div-eq_of_lt s))
down_one (negsuc k) n h l = absurd (let z : ⊥ = omega (arith, ints, h) in z)

pub down_none : (u : ℤ) (n : ℕ) → u <ℤ pos 0 → nat_abs u ≤ n → div_down INFINITY (u +ℤ pos (suc n)) (pos (suc n)) ≡ pos 0
down_none (pos k) n h l = absurd (let z : ⊥ = omega (arith, ints, h) in z)
down_none (negsuc k) n h l =
    let low : suc k ≤ n = l in
    let e : negsuc k +ℤ pos (suc n) ≡ pos (n - k) = grind (arith, ints) in
    let s : n - k < suc n = omega arith in
    ap (λ z. div_down INFINITY z (pos (suc n))) e ∙ ap pos (div-eq_of_lt s)

pub up_one : (u : ℤ) (n : ℕ) → pos 0 ≤ℤ u → nat_abs u ≤ n → div_up INFINITY (u +ℤ pos 1) (pos (suc n)) ≡ pos 1
up_one (pos k) n h l =
    let e : pos k +ℤ pos 1 ≡ pos (suc k) = grind (arith, ints) in
    let s : k < suc n = omega (arith, l) in
    ap (λ z. div_up INFINITY z (pos (suc n))) e ∙ ap (λ x. pos (suc x)) (div-eq_of_lt s)
up_one (negsuc k) n h l = absurd (let z : ⊥ = omega (arith, ints, h) in z)

pub up_none : (u : ℤ) (n : ℕ) → u <ℤ pos 0 → nat_abs u ≤ n → div_up INFINITY (u +ℤ pos 1) (pos (suc n)) ≡ pos 0
up_none (pos k) n h l = absurd (let z : ⊥ = omega (arith, ints, h) in z)
up_none (negsuc zero) n h l = ap (λ x. neg_ℤ (pos x)) (zero-div (suc n))
up_none (negsuc (suc j)) n h l =
    let e : negsuc (suc j) +ℤ pos 1 ≡ negsuc j = grind (arith, ints) in
    let s : suc j < suc n = omega (arith, l) in
    ap (λ z. div_up INFINITY z (pos (suc n))) e ∙ ap (λ x. neg_ℤ (pos x)) (div-eq_of_lt s)

-- the sum of the products by the pairing
pub sum_of_pairing : (sets : List (List ℕ)) (ms : List Product) (c : ℤ) (toward : End) (args : List Arg) (p : Pairing) → IsPairingOf ms c toward args p
    → c +ℤ sum_of (slot_set sets args) ms ≡ extreme_sum (family_of sets) toward p
sum_of_pairing sets ms c toward args p h = h.value sets c ∙ ap (λ z. (z +ℤ extreme (family_of sets) toward p.one) +ℤ extreme (family_of sets) toward p.other) (sym h.constant_is)

less_and_more : (c d x y : ℤ) → (c +ℤ x) +ℤ y ≡ (((c -ℤ d) +ℤ x) +ℤ y) +ℤ d
less_and_more c d x y = omega (arith, ints)

pub far_from : (sets : List (List ℕ)) (ms : List Product) (b d c : ℤ) (toward : End) (args : List Arg) (p : Pairing) → IsPairingOf ms c toward args p → c ≡ b -ℤ d
    → b +ℤ sum_of (slot_set sets args) ms ≡ extreme_sum (family_of sets) toward p +ℤ d
far_from sets ms b d c toward args p h e = h.value sets b
    ∙ (less_and_more b d (extreme (family_of sets) toward p.one) (extreme (family_of sets) toward p.other)
    ∙ ap (λ z. ((z +ℤ extreme (family_of sets) toward p.one) +ℤ extreme (family_of sets) toward p.other) +ℤ d) (sym (h.constant_is ∙ e)))

-- the range that tells of a disjunction
clipped : (b : Bool) (g n : ℕ) → ((b && int_le (pos n) (pos g)) && (int_le (pos 0) (pos n) && int_le (pos n) (pos 1))) ≡ (b && int_le (pos n) (pos (min 1 g)))
clipped true g n = grind (arith, ints)
clipped false g n = refl

pub disjunction_is : (S : Family) (p : ℕ → ℤ) (x y : ℕ) → filled_set S p (disjunction_range x y)
    ≡ between (pos ((least (S x) + least (S y) + 1) / 2)) (pos (min 1 (greatest (S x) + greatest (S y))))
disjunction_is S p x y = let l = least (S x) + least (S y) in let g = greatest (S x) + greatest (S y) in
    filter_agree (is_in S p (disjunction_range x y)) (λ n. int_le (pos ((l + 1) / 2)) (pos n) && int_le (pos n) (pos (min 1 g)))
    (λ n. clipped (int_le (div_up INFINITY (pos l) (pos 2)) (pos n)) g n ∙ ap (λ z. int_le z (pos n) && int_le (pos n) (pos (min 1 g))) (sym (up_quotient l 2 (omega arith))))
    (universe INFINITY)

-- a number less an end
only_one : (ms : List Product) (d : Product) → length ms ≡ 1 → ms ≡ get_or ms 0 d ∷ []
only_one [] d e = absurd (let k : ⊥ = omega (arith, e) in k)
only_one (m ∷ []) d e = refl
only_one (m ∷ k ∷ ms) d e = absurd (let z : ⊥ = omega (arith, e) in z)

pub less_once : (a : ℤ) (n : ℕ) → a +ℤ negsuc 0 *ℤ pos n ≡ a -ℤ pos n
less_once a n = grind (arith, ints)

less_at : (b : Bound) (m : Product) → b.division ≡ Whole → b.products.items ≡ m ∷ [] → m.weight ≡ negsuc 0 → IsLessOf b m.end (record { constant = b.constant; slot = m.slot })
less_at b m d e w = record {
  value = λ S. whole_value S b d ∙ (ap (λ ms. b.constant +ℤ sum_of S ms) e
      ∙ (ap (λ z. b.constant +ℤ z) (plus_none (product_value S m))
      ∙ (ap (λ x. b.constant +ℤ x *ℤ pos (end_of (S m.slot) m.end)) w ∙ less_once b.constant (end_of (S m.slot) m.end))));
  width = λ h. narrow (nat_abs b.constant) (nat_abs m.weight) (ap nat_abs w) (subst (AreNarrow (nat_abs b.constant)) e h);
  seen = λ count args h. subst (AreSeen count args) e h 0 m (omega arith);
} where
  narrow : (n k : ℕ) → k ≡ 1 → n + (k * INFINITY + 0) ≤ 2 ^ 63 - 1 → n + INFINITY ≤ 2 ^ 63 - 1
  narrow n k e h = omega (arith, e, h)

pub less_is : (b : Bound) (ms : List Product) (k : Product) (end : End) → b.division ≡ Whole → ms ≡ b.products.items → length ms ≡ 1
    → (get_or ms 0 k).weight ≡ negsuc 0 → (get_or ms 0 k).end ≡ end → IsLessOf b end (record { constant = b.constant; slot = (get_or ms 0 k).slot })
less_is b ms k end d e l w o = subst (λ x. IsLessOf b x (record { constant = b.constant; slot = (get_or ms 0 k).slot })) o (less_at b (get_or ms 0 k) d (sym e ∙ only_one ms k l) w)

-- the sum and its first part are integers of 64 bits
pub first_small : (p : Pairing) (x : ℤ) → width_of_pairing p ≤ 2 ^ 63 - 1 → nat_abs x ≤ nat_abs p.one.weight * INFINITY → nat_abs (p.constant +ℤ x) ≤ 2 ^ 63 - 1
first_small p x h l = let a = abs_add p.constant x in omega (arith, a, l, h)

pub sum_small : (p : Pairing) (x y : ℤ) → width_of_pairing p ≤ 2 ^ 63 - 1 → nat_abs x ≤ nat_abs p.one.weight * INFINITY → nat_abs y ≤ nat_abs p.other.weight * INFINITY
    → (nat_abs ((p.constant +ℤ x) +ℤ y) ≤ width_of_pairing p) × (nat_abs ((p.constant +ℤ x) +ℤ y) ≤ 2 ^ 63 - 1)
sum_small p x y h l k = let a = abs_add p.constant x in let b = abs_add (p.constant +ℤ x) y in (omega (arith, a, b, l, k), omega (arith, a, b, l, k, h))

-- the product of an integer of 32 bits and an end is one of 64 bits
abs_of_fits : (w : ℤ) → SFits w32 w → nat_abs w ≤ 2 ^ 31
abs_of_fits (pos n) f = let k : n < 2 ^ 31 = f.sfits in omega (arith, k)
abs_of_fits (negsuc n) f = let k : n < 2 ^ 31 = f.sfits in omega (arith, k)

pub product_fits : (w : ℤ) (e : ℕ) → SFits w32 w → e ≤ INFINITY → SFits w64 (w *ℤ pos e)
product_fits w e f l = fits_small (w *ℤ pos e) (let a = abs_of_fits w f in let b = product_small w e l in omega (arith, a, b))
