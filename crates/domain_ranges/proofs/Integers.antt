-- Integers beside the numbers of U.
use Rattle.std.proofs.Common.{◌≡◌, ℕ, true, false, arith, ℤ, pos, negsuc, int_le, ◌<ℤ◌, ◌≤◌, ◌≤ℤ◌, ◌∙◌, refl, sym, ap, subst, to_z, of_z, leb, ◌&&◌, Fits}
use Rattle.std.proofs.Common.{SFits, to_z-of_z}
use Rattle.std.proofs.lemmas.Bool.{true≢false}
use mir.Syntax.{w32, w64, w128}
use mir.ValLaws.{to_z_pos}
use lib.Signed.{lt_z}
use Rattle.std.proofs.lemmas.Int.{ints}
use Rattle.std.specs.Int.{int_max, int_min}
use Rattle.std.proofs.lemmas.Bool.Decides.{nat_tests}
use lib.IntN.{nat_abs}

-- v is z, as the code holds it
pub from_zero : (z v : ℤ) → v ≡ z → int_le (pos 0) v ≡ true → z ≡ pos (nat_abs v)
from_zero z (pos n) e h = grind (arith, ints)
from_zero z (negsuc n) e h = grind (arith, ints)

pub below_zero : (z v : ℤ) → v ≡ z → int_le (pos 0) v ≡ false → z <ℤ pos 0
below_zero z v e h = grind (arith, ints)

pub above_all : (M : ℕ) (z v : ℤ) → v ≡ z → int_le v (pos M) ≡ false → pos M <ℤ z
above_all M z v e h = grind (arith, ints)

pub code_negative : (z v : ℤ) → v ≡ z → lt_z v (pos 0) ≡ true → z <ℤ pos 0
code_negative z v e h = grind (arith, ints)

pub code_is : (z : ℤ) (n : ℕ) → SFits w128 z → of_z w128 z ≡ n → z ≡ to_z w128 n
code_is z n f h = sym (to_z-of_z f) ∙ ap (to_z w128) h

two_up : (n : ℕ) → (n ≡ 0 → ⊥) → (n ≡ 1 → ⊥) → pos 2 ≤ℤ pos n
two_up n g h = let l : 2 ≤ n = grind (arith, g, h) in omega (arith, ints)

pub code_two : (z v : ℤ) → v ≡ z → lt_z v (pos 0) ≡ false → (of_z w128 z ≡ 0 → ⊥) → (of_z w128 z ≡ 1 → ⊥) → pos 2 ≤ℤ z
code_two (pos n) v e f g h = two_up n g h
code_two (negsuc n) v e f g h = absurd (true≢false (ap (λ u. lt_z u (pos 0)) (sym e) ∙ f))

pub code_low : (z v k : ℤ) → v ≡ z → k ≤ℤ z → k ≤ℤ v
code_low z v k e h = subst (λ u. k ≤ℤ u) (sym e) h

pub one_low : (z : ℤ) → pos 2 ≤ℤ z → pos 1 ≤ℤ z
one_low z h = omega (arith, ints)

-- an integer that is no less than a number of U
pub not_below : (z : ℤ) (k : ℕ) → pos k ≤ℤ z → z ≡ pos (nat_abs z)
not_below (pos n) k h = refl
not_below (negsuc n) k h = absurd (omega (arith, ints))

-- the same where it is held in 64 bits
pub held_number : (z : ℤ) (k : ℕ) → SFits w64 z → pos k ≤ℤ z → z ≡ pos (nat_abs (to_z w64 (of_z w64 z)))
held_number z k f h = not_below z k h ∙ ap (λ y. pos (nat_abs y)) (sym (to_z-of_z f))

-- a number of 32 bits in 64
pub wide_number : (k : ℕ) → Fits w32 k → to_z w64 k ≡ pos k
wide_number k f = to_z_pos w64 k (omega (arith, f.fits))

-- an integer of 64 bits between two numbers
pub held_between : (z : ℤ) (a b : ℕ) → SFits w64 z → lt_z z (pos a) ≡ false → lt_z (pos b) z ≡ false
    → (z ≡ pos (nat_abs (to_z w64 (of_z w64 z)))) × (a ≤ nat_abs (to_z w64 (of_z w64 z))) × (nat_abs (to_z w64 (of_z w64 z)) ≤ b)
held_between z a b f g h =
    let above : pos a ≤ℤ z = grind (arith, ints, g) in
    let is = held_number z a f above in
    let below : z ≤ℤ pos b = grind (arith, ints, h) in
    (is, omega (arith, ints, above, is), omega (arith, ints, below, is))

-- an interval of integers, cut by the bounds of U
low_cut : (lo l : ℤ) (n : ℕ) → l ≡ int_max lo (pos 0) → leb (nat_abs l) n ≡ int_le lo (pos n)
low_cut (pos a) l n e = grind (arith, ints, nat_tests)
low_cut (negsuc a) l n e = grind (arith, ints, nat_tests)

high_cut : (M : ℕ) (hi h : ℤ) (n : ℕ) → h ≡ int_min hi (pos M) → pos 0 ≤ℤ h → n ≤ M → leb n (nat_abs h) ≡ int_le (pos n) hi
high_cut M hi (pos b) n e g l = grind (arith, ints, nat_tests)
high_cut M hi (negsuc b) n e g l = absurd (omega (arith, ints))

pub cut_same : (M : ℕ) (lo hi l h : ℤ) → l ≡ int_max lo (pos 0) → h ≡ int_min hi (pos M) → pos 0 ≤ℤ l → int_le l h ≡ true → (n : ℕ) → n ≤ M
    → (leb (nat_abs l) n && leb n (nat_abs h)) ≡ (int_le lo (pos n) && int_le (pos n) hi)
cut_same M lo hi l h e f g k n m =
    let above : pos 0 ≤ℤ h = (let o : l ≤ℤ h = grind (arith, ints, k) in omega (arith, ints, o, g)) in
    ap (λ b. b && leb n (nat_abs h)) (low_cut lo l n e) ∙ ap (λ b. int_le lo (pos n) && b) (high_cut M hi h n f above m)

-- the same, as the code holds them
pub cut_held : (M : ℕ) (lo hi l h u v x y : ℤ) → x ≡ l → y ≡ h → u ≡ lo → v ≡ hi → l ≡ int_max u (pos 0) → h ≡ int_min v (pos M) → pos 0 ≤ℤ l
    → int_le x y ≡ true → (n : ℕ) → n ≤ M → (leb (nat_abs x) n && leb n (nat_abs y)) ≡ (int_le lo (pos n) && int_le (pos n) hi)
cut_held M lo hi l h u v x y a b c d e f g k n m =
    cut_same M lo hi x y (a ∙ (e ∙ ap (λ z. int_max z (pos 0)) c)) (b ∙ (f ∙ ap (λ z. int_min z (pos M)) d)) (subst (λ z. pos 0 ≤ℤ z) (sym a) g) k n m
