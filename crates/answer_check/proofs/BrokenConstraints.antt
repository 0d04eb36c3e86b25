-- The first constraint that an assignment breaks.
use Rattle.std.proofs.Common.{◌≡◌, ℕ, zero, suc, ◌+◌, ◌<◌, List, [], ◌∷◌, ◌++◌, take, length, get_or, Some, None, refl, sym, ap, subst, arith, inl, inr}
use Rattle.fd_model.specs.Satisfaction.{Assignment}
use Rattle.answer_check.specs.declared.goals.Constraint.{Constraint}
use Rattle.answer_check.specs.Checks.{Meets, AreFirstBroken}

abbrev pub AllMet : Assignment → List Constraint → Type 0
AllMet a [] = Unit {0}
AllMet a (k ∷ ks) = Meets a k × AllMet a ks

pub met_more : (a : Assignment) (ks : List Constraint) (k : Constraint) → AllMet a ks → Meets a k → AllMet a (ks ++ k ∷ [])
met_more a [] k h m = (m, tt)
met_more a (x ∷ ks) k h m = (h.0, met_more a ks k h.1 m)

pub none_broken : (a : Assignment) (n : ℕ) (ks : List Constraint) → AllMet a ks → AreFirstBroken a n ks None
none_broken a n [] h = refl
none_broken a n (k ∷ ks) h = inl (h.0, none_broken a (suc n) ks h.1)

pub broken_at : (a : Assignment) (n i : ℕ) (ks : List Constraint) (d : Constraint) → i < length ks → AllMet a (take i ks) → (Meets a (get_or ks i d) → ⊥) → AreFirstBroken a n ks (Some (i + n))
broken_at a n i [] d l h m = absurd (omega arith)
broken_at a n zero (k ∷ ks) d l h m = inr (m, (let e : 0 + n ≡ n = omega arith in ap Some e))
broken_at a n (suc i) (k ∷ ks) d l h m = let e : suc i + n ≡ i + suc n = omega arith in
    inl (h.0, subst (λ j. AreFirstBroken a (suc n) ks (Some j)) (sym e) (broken_at a (suc n) i ks d (omega arith) h.1 m))
