-- Lemmas on what holds of each, of some and of each pair of a list.
use Rattle.std.proofs.Common.{◌≡◌, refl, List, [], ◌∷◌, ◌++◌, inl, inr, ◌⊎◌}
use Rattle.fd_language.specs.Lists.{Each}
pub use Rattle.fd_language.proofs.Lemmas.{each_map, each_both, each_before, each_after}
use Rattle.fd_model.specs.Answers.{Somewhere, InOrder}

module _ {X : Type 0} where
  pub each_at : (H : X → Type 0) (xs : List X) (G : X → Type 0) (A : Type 0) → Each H xs → Somewhere G xs → ((x : X) → H x → G x → A) → A
  each_at H [] G A h g f = absurd g
  each_at H (x ∷ xs) G A h (inl g) f = f x h.0 g
  each_at H (x ∷ xs) G A h (inr g) f = each_at H xs G A h.1 g f

  pub some_left : (H : X → Type 0) (xs ys : List X) → Somewhere H xs → Somewhere H (xs ++ ys)
  some_left H [] ys h = absurd h
  some_left H (x ∷ xs) ys (inl h) = inl h
  some_left H (x ∷ xs) ys (inr h) = inr (some_left H xs ys h)

  pub some_right : (H : X → Type 0) (xs ys : List X) → Somewhere H ys → Somewhere H (xs ++ ys)
  some_right H [] ys h = h
  some_right H (x ∷ xs) ys h = inr (some_right H xs ys h)

  pub some_either : (H : X → Type 0) (xs ys : List X) → Somewhere H (xs ++ ys) → Somewhere H xs ⊎ Somewhere H ys
  some_either H [] ys h = inr h
  some_either H (x ∷ xs) ys (inl h) = inl (inl h)
  some_either H (x ∷ xs) ys (inr h) = elim (some_either H xs ys h) [ inl g ↦ inl (inr g) | inr g ↦ inr g ]

  pub order_both : (R : X → X → Type 0) (xs ys : List X) → InOrder R xs → InOrder R ys → Each (λ x. Each (R x) ys) xs → InOrder R (xs ++ ys)
  order_both R [] ys h g f = g
  order_both R (x ∷ xs) ys h g f = (each_both (R x) xs ys h.0 f.0, order_both R xs ys h.1 g f.1)

pub each_itself : {X Y : Type 0} (H : X → Y → Type 0) (xs : List X) → Each (λ x. (y : Y) → H x y → Somewhere (λ z. H z y) xs) xs
each_itself H [] = tt
each_itself H (x ∷ xs) = (
  λ y h. inl h,
  each_map (λ z. (y : _) → H z y → Somewhere (λ w. H w y) xs) (λ z. (y : _) → H z y → Somewhere (λ w. H w y) (x ∷ xs))
      (λ z f y h. inr (f y h)) xs (each_itself H xs),
)

-- what all that stand in a list are, each is
pub each_where : {X : Type 0} (P : X → Type 0) (xs : List X) → ((x : X) → Somewhere (λ y. y ≡ x) xs → P x) → Each P xs
each_where P [] h = tt
each_where P (x ∷ xs) h = (h x (inl refl), each_where P xs (λ y s. h y (inr s)))
