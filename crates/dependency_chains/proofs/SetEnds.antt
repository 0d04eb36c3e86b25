-- A set of several members is one whose least and greatest member differ.
use Rattle.std.proofs.Common.{◌≡◌, ℕ, suc, ◌<◌, ◌≤◌, Bool, true, false, not, ◌&&◌, ◌==◌, List, [], ◌∷◌, ◌∙◌, length, ap, sym, refl, arith, eq-eqb}
use Rattle.std.proofs.lemmas.Bool.{true≢false, or_left}
use Rattle.fd_language.specs.Family.{IsRising, has}
use Rattle.fd_language.specs.Range.{least, greatest, is_none_left, is_several}
use Rattle.fd_language.proofs.Lemmas.{greatest_high}
use Rattle.fd_language.specs.declared.TheConstants.{INFINITY}
use Rattle.domain_ranges.specs.Narrowing.{AreEnds}
use Rattle.dependency_chains.specs.declared.Change.{Change}
use Rattle.dependency_chains.specs.WokenAgents.{change_of}

apart : (x y g : ℕ) → suc x ≤ y → y ≤ g → (x == g) ≡ false
apart x y g h k = grind arith

ends_differ : (M : ℕ) (xs : List ℕ) → is_none_left xs ≡ false → IsRising 0 M xs → not (least xs == greatest xs) ≡ is_several xs
ends_differ M [] h r = absurd (true≢false h)
ends_differ M (x ∷ []) h r = ap not (eq-eqb x x refl)
ends_differ M (x ∷ y ∷ ys) h r = ap not (apart x y (greatest (y ∷ ys)) r.2.0 (greatest_high (suc x) M y (y ∷ ys) r.2 (or_left (y == y) (has ys y) (eq-eqb y y refl))))

pub differ : (M : ℕ) (xs : List ℕ) (a b : ℕ) → is_none_left xs ≡ false → IsRising 0 M xs → a ≡ least xs → b ≡ greatest xs → not (a == b) ≡ is_several xs
differ M xs a b h r e f = ap (λ k. not (k == b)) e ∙ (ap (λ k. not (least xs == k)) f ∙ ends_differ M xs h r)

several : (old new : List ℕ) → is_none_left new ≡ false → length new < length old → is_several old ≡ true
several [] new h l = absurd (omega (arith, l))
several (x ∷ []) [] h l = absurd (true≢false h)
several (x ∷ []) (n ∷ ns) h l = absurd (omega (arith, l))
several (x ∷ y ∷ ys) new h l = refl

-- a change by the ends of the two sets, of which the new one has fewer members
pub change_by_ends : (old new : List ℕ) (before after : ℕ × ℕ) (c : Change) → c.min ≡ not (before.0 == after.0) → c.max ≡ not (before.1 == after.1)
    → c.fixed ≡ (after.0 == after.1) → AreEnds before old → AreEnds after new → length new < length old → c ≡ change_of old new
change_by_ends old new before after c e f g a b l = same (e ∙ ap (λ k. not (k == after.0)) a.least ∙ ap (λ k. not (least old == k)) b.least)
    (f ∙ ap (λ k. not (k == after.1)) a.greatest ∙ ap (λ k. not (greatest old == k)) b.greatest)
    (g ∙ once (after.0 == after.1) (is_several new) (differ INFINITY new after.0 after.1 b.some b.rising b.least b.greatest) ∙ ap (λ x. x && not (is_several new)) (sym (several old new b.some l)))
  where
    once : (x y : Bool) → not x ≡ y → x ≡ not y
    once x y h = grind (arith, h)

    same : {x y z : Bool} → c.min ≡ x → c.max ≡ y → c.fixed ≡ z → ◌≡◌ {A = Change} c (record { min = x; max = y; fixed = z })
    same p q r = λ i. record { min = p i; max = q i; fixed = r i }
