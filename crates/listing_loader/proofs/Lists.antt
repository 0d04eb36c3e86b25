-- What holds of each element of a list.
use Rattle.std.proofs.Common.{◌≡◌, ℕ, suc, zero, Bool, true, List, [], ◌∷◌, map, get_or, Some, slice_get, refl, subst, All}
use Rattle.std.specs.List.{list_all}
use Rattle.std.proofs.lemmas.Bool.{and_parts, and_from}
use Rattle.std.proofs.lemmas.Option.{none-some, same_Some, slice_get_within, get_or_from_slice_get, slice_get-get_or}
use Rattle.listing_loader.specs.Marks.{AreRight}

module _ {A : Type 0} (P : A → Type 0) (xs : List A) where
  pub all_get : (n : ℕ) (x : A) → All P xs → slice_get xs n ≡ Some x → P x
  all_get n x f e = subst P (get_or_from_slice_get xs n x x e) (f n x (slice_get_within xs n x e))

  pub all_from : ((n : ℕ) (x : A) → slice_get xs n ≡ Some x → P x) → All P xs
  all_from f k d h = f k (get_or xs k d) (slice_get-get_or xs k d h)

-- lines that are right, and what passes a test
pub right_map : {X : Type 0} (f : X → Bool) (xs : List X) → ((k : ℕ) (x : X) → slice_get xs k ≡ Some x → f x ≡ true) → AreRight (map f xs)
right_map f [] h = refl
right_map f (x ∷ xs) h = and_from (f x) (list_all (λ m. m) (map f xs)) (h 0 x refl) (right_map f xs (λ k y e. h (suc k) y e))

pub right_at : {X : Type 0} (f : X → Bool) (xs : List X) (k : ℕ) (x : X) → AreRight (map f xs) → slice_get xs k ≡ Some x → f x ≡ true
right_at f [] k x r h = absurd (none-some x h)
right_at f (y ∷ xs) zero x r h = subst (λ z. f z ≡ true) (same_Some y x h) (and_parts (f y) (list_all (λ m. m) (map f xs)) r).0
right_at f (y ∷ xs) (suc k) x r h = right_at f xs k x (and_parts (f y) (list_all (λ m. m) (map f xs)) r).1 h

pub passes_all : {X : Type 0} (f : X → Bool) (xs : List X) → ((k : ℕ) (x : X) → slice_get xs k ≡ Some x → f x ≡ true) → list_all f xs ≡ true
passes_all f [] h = refl
passes_all f (x ∷ xs) h = and_from (f x) (list_all f xs) (h 0 x refl) (passes_all f xs (λ k y e. h (suc k) y e))

pub passes_at : {X : Type 0} (f : X → Bool) (xs : List X) (k : ℕ) (x : X) → list_all f xs ≡ true → slice_get xs k ≡ Some x → f x ≡ true
passes_at f [] k x r h = absurd (none-some x h)
passes_at f (y ∷ xs) zero x r h = subst (λ z. f z ≡ true) (same_Some y x h) (and_parts (f y) (list_all f xs) r).0
passes_at f (y ∷ xs) (suc k) x r h = passes_at f xs k x (and_parts (f y) (list_all f xs) r).1 h
