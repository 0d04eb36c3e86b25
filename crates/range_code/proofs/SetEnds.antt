-- A set of several members is one whose least and greatest member differ.
use Rattle.std.proofs.Common.{◌≡◌, ℕ, suc, ◌≤◌, false, not, ◌==◌, List, [], ◌∷◌, ◌∙◌, ap, refl, arith, eq-eqb}
use Rattle.std.proofs.lemmas.Bool.{or_left}
use Rattle.fd_language.specs.Family.{IsRising, has}
use Rattle.fd_language.specs.Range.{least, greatest, is_several}
use Rattle.fd_language.proofs.Lemmas.{greatest_high}

apart : (x y g : ℕ) → suc x ≤ y → y ≤ g → (x == g) ≡ false
apart x y g h k = grind arith

ends_differ : (M : ℕ) (xs : List ℕ) → IsRising 0 M xs → not (least xs == greatest xs) ≡ is_several xs
ends_differ M [] r = refl
ends_differ M (x ∷ []) r = ap not (eq-eqb x x refl)
ends_differ M (x ∷ y ∷ ys) r = ap not (apart x y (greatest (y ∷ ys)) r.2.0 (greatest_high (suc x) M y (y ∷ ys) r.2 (or_left (y == y) (has ys y) (eq-eqb y y refl))))

pub differ : (M : ℕ) (xs : List ℕ) (a b : ℕ) → IsRising 0 M xs → a ≡ least xs → b ≡ greatest xs → not (a == b) ≡ is_several xs
differ M xs a b r e f = ap (λ k. not (k == b)) e ∙ (ap (λ k. not (least xs == k)) f ∙ ends_differ M xs r)
