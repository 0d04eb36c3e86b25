-- Keys in rising order.
use Rattle.std.proofs.Common.{◌≡◌, ◌⊎◌, ◌↔◌, ℕ, suc, zero, ◌<◌, Bool, true, false, cond, IsTrue, ◌&&◌, nat_lt, ◌==◌, [], ◌∷◌, refl, subst, inl, inr, arith}
use Rattle.std.proofs.Common.{rules, eqb-true}
use Rattle.std.proofs.lemmas.Bool.{false≢true, ltb-true, lt-ltb, eqb-false, and_parts, and_from}
use Rattle.std.proofs.lemmas.Option.{none-some, same_Some}
use Rattle.std.proofs.lemmas.Int.{ints}
use Rattle.wam_code.specs.declared.instruction.Key.{Key}
use Rattle.wam_code.specs.declared.instruction.Key.TheVariants.{Atom, Int, Struct}
use Rattle.wam_code.specs.Area.{Table}
use Rattle.wam_code.specs.Keys.{IsBelow, Rises}
use Rattle.listing_loader.specs.Marks.{is_below, rises}

struct_below : (f g n m : ℕ) (b : Bool) → (f == g) ≡ b → IsTrue (cond b (nat_lt n m) (nat_lt f g)) ↔ (f < g) ⊎ ((f ≡ g) × (n < m))
struct_below f g n m true e = (λ h. inr (eqb-true f g e, ltb-true n m h), λ h. elim h [ inl l ↦ absurd (omega (arith, l, eqb-true f g e)) | inr r ↦ lt-ltb n m r.1 ])
struct_below f g n m false e = (λ h. inl (ltb-true f g h), λ h. elim h [ inl l ↦ lt-ltb f g l | inr r ↦ absurd (eqb-false f g e r.0) ])

pub below_is : (k l : Key) → IsTrue (is_below k l) ↔ IsBelow k l
below_is (Atom c) (Atom d) = (λ h. ltb-true c.number d.number h, λ h. lt-ltb c.number d.number h)
below_is (Int y) (Int z) = (λ h. search (rules, ints), λ h. search (rules, ints))
below_is (Struct f n) (Struct g m) = struct_below f.number g.number n m (f.number == g.number) refl
below_is k l = (λ h. absurd (false≢true h), λ h. absurd h)

pub rises_is : (table : Table) → IsTrue (rises table) ↔ Rises table
rises_is [] = (λ h k x y a b. absurd (none-some x a), λ r. refl)
rises_is (x ∷ []) = (λ h k v w a b. absurd (none-some w b), λ r. refl)
rises_is (x ∷ y ∷ rows) = (
  forth (λ h. (rises_is (y ∷ rows)).0 h),
  λ r. and_from (is_below x.0 y.0) (rises (y ∷ rows)) ((below_is x.0 y.0).1 (r 0 x y refl refl))
      ((rises_is (y ∷ rows)).1 (λ k v w a b. r (suc k) v w a b)),
) where
  forth : (IsTrue (rises (y ∷ rows)) → Rises (y ∷ rows)) → IsTrue (is_below x.0 y.0 && rises (y ∷ rows)) → Rises (x ∷ y ∷ rows)
  forth more h zero v w a b = subst (λ (z : Key × ℕ). IsBelow v.0 z.0) (same_Some y w b)
      (subst (λ (z : Key × ℕ). IsBelow z.0 y.0) (same_Some x v a) ((below_is x.0 y.0).0 (and_parts (is_below x.0 y.0) (rises (y ∷ rows)) h).0))
  forth more h (suc k) v w a b = more (and_parts (is_below x.0 y.0) (rises (y ∷ rows)) h).1 k v w a b
