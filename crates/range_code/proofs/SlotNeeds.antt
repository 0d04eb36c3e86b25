-- The needs of a range's slots.
use Rattle.std.proofs.Common.{◌≡◌, ℕ, Bool, true, false, cond, ◌||◌, ◌==◌, List, [], ◌∷◌, ◌++◌, map, Option, Some, None, refl, ◌∙◌, ap, eqb-true}
use Rattle.fd_language.specs.declared.range_node.Need.{Need}
use Rattle.fd_language.specs.Family.{has}
use Rattle.fd_language.specs.Range.{Range}
use Rattle.fd_language.specs.Needs.{asks, parameters, need_of, needs}
use Rattle.fd_language.proofs.Lemmas.{two, has_once, of_asks, range_asked}
use Rattle.range_code.specs.ParameterNeeds.{unless_found, need_in}
use Rattle.range_code.specs.Slots.{slots_of, need_at, slot_needs}

-- the list of needs, looked up
found_at : (need : ℕ → Need) (xs : List ℕ) (y : ℕ) → need_in (map (λ x. (x, need x)) xs) y ≡ cond (has xs y) (Some (need y)) None
found_at need [] y = refl
found_at need (x ∷ xs) y = ap (λ o. unless_found o (cond (x == y) (Some (need x)) None)) (found_at need xs y) ∙ by_case (has xs y) (x == y) (λ e. ap need (eqb-true x y e)) where
  by_case : (h c : Bool) → (c ≡ true → need x ≡ need y) → unless_found (cond h (Some (need y)) None) (cond c (Some (need x)) None) ≡ cond (c || h) (Some (need y)) None
  by_case true true f = refl
  by_case true false f = refl
  by_case false true f = ap Some (f refl)
  by_case false false f = refl

need_found : (r : Range) (y : ℕ) → need_in (needs r) y ≡ need_at r y
need_found r y = found_at (need_of r) (parameters r) y ∙ ap (λ c. cond c (Some (need_of r y)) None) (has_once (of_asks (asks r)) y ∙ ap (λ l. has l y) (range_asked r))

map_same : (f g : ℕ → Option Need) → ((y : ℕ) → f y ≡ g y) → (xs : List ℕ) → map f xs ≡ map g xs
map_same f g h [] = refl
map_same f g h (x ∷ xs) = two (λ y ys. y ∷ ys) (h x) (map_same f g h xs)

pub needs_found : (r : Range) → map (need_in (needs r)) (slots_of r) ≡ slot_needs r
needs_found r = map_same (need_in (needs r)) (need_at r) (need_found r) (slots_of r)

-- one more need
pub need_more : (ds : List (ℕ × Need)) (d : ℕ × Need) (y : ℕ) → need_in (ds ++ d ∷ []) y ≡ cond (d.0 == y) (Some d.1) (need_in ds y)
need_more [] d y = refl
need_more (e ∷ es) d y = ap (λ o. unless_found o (cond (e.0 == y) (Some e.1) None)) (need_more es d y) ∙ moved (d.0 == y) where
  moved : (c : Bool) → unless_found (cond c (Some d.1) (need_in es y)) (cond (e.0 == y) (Some e.1) None) ≡ cond c (Some d.1) (need_in (e ∷ es) y)
  moved true = refl
  moved false = refl
