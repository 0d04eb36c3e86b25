-- Sums that are negated.
use Rattle.std.proofs.Common.{◌≡◌, ℕ, zero, suc, ◌+◌, ◌<◌, Bool, true, false, cond, ℤ, pos, negsuc, neg_ℤ, ◌*ℤ◌, List, [], ◌∷◌, ◌++◌, length, drop, get_or, Ok}
use Rattle.std.proofs.Common.{Err, refl, sym, ap, subst, ◌∙◌, arith, append_assoc}
use Rattle.std.specs.Prelude.{◌&&◌}
use Rattle.std.specs.List.{list_all}
use Rattle.std.proofs.lemmas.List.{drop_more}
use Rattle.fd_model.specs.declared.kinds.QueryFault.TheVariants.{Evaluation}
use Rattle.fd_model.specs.declared.kinds.Relation.{Relation}
use Rattle.fd_model.specs.declared.kinds.Relation.TheVariants as relation
use Rattle.fd_model.specs.Linear as linear
use Rattle.fd_model.specs.Linear.{in_integers, scaled, normal, normal_form, turned}
use Rattle.linear_forms.specs.IntegerSums.{AreIntegers, IsInside}
use Rattle.linear_forms.proofs.Signs.{neg_one, one_inside, neg_inside}

-- each coefficient is an integer of the language
pub integer_at : (ts : List (ℕ × ℤ)) (i : ℕ) (d : ℕ × ℤ) → AreIntegers ts → i < length ts → in_integers (get_or ts i d).1 ≡ true
integer_at [] i d h l = absurd (omega arith)
integer_at (t ∷ ts) zero d h l = by (in_integers t.1) refl h where
  by : (b : Bool) → in_integers t.1 ≡ b → (b && list_all (λ (t : ℕ × ℤ). in_integers t.1) ts) ≡ true → in_integers t.1 ≡ true
  by true e g = e
  by false e g = absurd (cc)
integer_at (t ∷ ts) (suc i) d h l = integer_at ts i d (by (in_integers t.1) h) (omega arith) where
  by : (b : Bool) → (b && list_all (λ (t : ℕ × ℤ). in_integers t.1) ts) ≡ true → AreIntegers ts
  by true g = g
  by false g = absurd (cc)

-- a negated coefficient more
pub negated_turns : (ts now new : List (ℕ × ℤ)) (i : ℕ) (z : ℤ) → i < length ts → now ++ scaled (negsuc 0) (drop i ts) ≡ scaled (negsuc 0) ts
    → z ≡ neg_ℤ (get_or ts i (0, pos 0)).1 → new ≡ now ++ ((get_or ts i (0, pos 0)).0, z) ∷ []
    → new ++ scaled (negsuc 0) (drop (i + 1) ts) ≡ scaled (negsuc 0) ts
negated_turns ts now new i z h f e p =
    let t : ℕ × ℤ = get_or ts i (0, pos 0) in
    let rest : List (ℕ × ℤ) = scaled (negsuc 0) (drop (i + 1) ts) in
    let same : z ≡ negsuc 0 *ℤ t.1 = e ∙ sym (neg_one t.1) in
    ap (λ (us : List (ℕ × ℤ)). us ++ rest) p ∙ append_assoc now ((t.0, z) ∷ []) rest ∙ (λ j. now ++ (t.0, same j) ∷ rest)
    ∙ ap (λ (us : List (ℕ × ℤ)). now ++ scaled (negsuc 0) us) (sym (drop_more ts i (0, pos 0) h)) ∙ f

-- what is negated is as far inside
pub scaled_integers : (ts : List (ℕ × ℤ)) → list_all (λ (t : ℕ × ℤ). in_integers t.1) (scaled (negsuc 0) ts) ≡ list_all (λ (t : ℕ × ℤ). in_integers t.1) ts
scaled_integers [] = refl
scaled_integers (t ∷ ts) = λ i. one_inside t.1 i && scaled_integers ts i

pub turned_inside : (l : linear.Linear) → IsInside l → IsInside (turned l)
turned_inside l h = (scaled_integers l.products ∙ h.0, neg_inside l.constant h.1)

products_inside : (r : Relation) (l : linear.Linear) → IsInside l → AreIntegers (normal r l).products
products_inside relation.Equal l h = h.0
products_inside relation.Differ l h = h.0
products_inside relation.Less l h = h.0
products_inside relation.AtMost l h = h.0
products_inside relation.Greater l h = scaled_integers l.products ∙ h.0
products_inside relation.AtLeast l h = scaled_integers l.products ∙ h.0

-- so are the normal forms
pub normal_inside : (r : Relation) (l m : linear.Linear) → IsInside l → normal_form r l ≡ Ok m → IsInside m
normal_inside r l m h e = by (in_integers (normal r l).constant) refl e where
  by : (b : Bool) → in_integers (normal r l).constant ≡ b → cond b (Ok (normal r l)) (Err Evaluation) ≡ Ok m → IsInside m
  by true k g = let same : normal r l ≡ m = cc in subst IsInside same (products_inside r l h, k)
  by false k g = absurd (cc)
