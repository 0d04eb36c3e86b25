-- The least of some places.
use Rattle.std.proofs.Common.{◌≡◌, ℕ, min, List, [], ◌∷◌, ◌++◌, Option, Some, None, refl, sym, ap, ◌∙◌, arith}
use Rattle.std.proofs.Math.Nat.{min_comm}
use Rattle.fd_language.specs.Spelling.{least_place}

-- the smaller of two places, each of which may not be there
abbrev pub lower : Option ℕ → Option ℕ → Option ℕ
lower None o = o
lower (Some p) None = Some p
lower (Some p) (Some q) = Some (min p q)

pub lower-none : (o : Option ℕ) → lower o None ≡ o
lower-none None = refl
lower-none (Some p) = refl

min_assoc : (p q r : ℕ) → min (min p q) r ≡ min p (min q r)
min_assoc p q r = omega arith

pub lower-assoc : (a b c : Option ℕ) → lower (lower a b) c ≡ lower a (lower b c)
lower-assoc None b c = refl
lower-assoc (Some p) None c = refl
lower-assoc (Some p) (Some q) None = refl
lower-assoc (Some p) (Some q) (Some r) = ap (λ (n : ℕ). Some n) (min_assoc p q r)

pub lower-comm : (a b : Option ℕ) → lower a b ≡ lower b a
lower-comm None b = sym (lower-none b)
lower-comm (Some p) None = refl
lower-comm (Some p) (Some q) = ap (λ (n : ℕ). Some n) (min_comm p q)

pub least_cons : (p : ℕ) (ps : List ℕ) → least_place (p ∷ ps) ≡ lower (Some p) (least_place ps)
least_cons p [] = refl
least_cons p (q ∷ qs) =
    least_cons (min p q) qs ∙ lower-assoc (Some p) (Some q) (least_place qs) ∙ ap (lower (Some p)) (sym (least_cons q qs))

pub least_append : (ps qs : List ℕ) → least_place (ps ++ qs) ≡ lower (least_place ps) (least_place qs)
least_append [] qs = refl
least_append (p ∷ ps) qs =
    least_cons p (ps ++ qs) ∙ ap (lower (Some p)) (least_append ps qs) ∙ sym (lower-assoc (Some p) (least_place ps) (least_place qs))
    ∙ ap (λ (o : Option ℕ). lower o (least_place qs)) (sym (least_cons p ps))
