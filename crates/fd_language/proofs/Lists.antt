-- Public lemmas: what holds of each element of a list, and of an option.
use Rattle.std.proofs.Common.{◌≡◌, Bool, true, false, cond, List, [], ◌∷◌, ◌++◌, map, Option, Some, None, refl}
use Rattle.fd_language.specs.Lists.{Each}

module _ {X : Type 0} where
  -- what holds wherever another fact does
  pub each_map : (H G : X → Type 0) → ((x : X) → H x → G x) → (xs : List X) → Each H xs → Each G xs
  each_map H G f [] h = tt
  each_map H G f (x ∷ xs) h = (f x h.0, each_map H G f xs h.1)

  -- of two lists, and of the first and the second of two
  pub each_both : (H : X → Type 0) (xs ys : List X) → Each H xs → Each H ys → Each H (xs ++ ys)
  each_both H [] ys h g = g
  each_both H (x ∷ xs) ys h g = (h.0, each_both H xs ys h.1 g)

  pub each_before : (H : X → Type 0) (xs ys : List X) → Each H (xs ++ ys) → Each H xs
  each_before H [] ys h = tt
  each_before H (x ∷ xs) ys h = (h.0, each_before H xs ys h.1)

  pub each_after : (H : X → Type 0) (xs ys : List X) → Each H (xs ++ ys) → Each H ys
  each_after H [] ys h = h
  each_after H (x ∷ xs) ys h = each_after H xs ys h.1

  -- of either of two lists
  pub each_either : (H : X → Type 0) (b : Bool) (xs ys : List X) → Each H xs → Each H ys → Each H (cond b xs ys)
  each_either H true xs ys h g = h
  each_either H false xs ys h g = g

  -- what f gives of each
  pub each_of_map : {Y : Type 0} (f : Y → X) (H : X → Type 0) (ys : List Y) → Each H (map f ys) → Each (λ y. H (f y)) ys
  each_of_map f H [] h = tt
  each_of_map f H (y ∷ ys) h = (h.0, each_of_map f H ys h.1)

  -- an option that is nothing in particular is none
  pub is_none : (o : Option X) → ((x : X) → o ≡ Some x → ⊥) → o ≡ None
  is_none None h = refl
  is_none (Some x) h = absurd (h x refl)
