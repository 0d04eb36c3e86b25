-- What is read and written by an index.
use Rattle.std.proofs.Common.{◌≡◌, ℕ, zero, suc, ◌+◌, ◌<◌, List, [], ◌∷◌, ◌++◌, map, set, take, drop, get_or, slice_set, length, Vec, Global, refl, ap, ap₂}
use Rattle.std.proofs.Common.{sym, ◌∙◌, arith}
use Rattle.std.proofs.lemmas.List.{length-map, get_or-map}

-- the elements of a vector
abbrev pub items : Vec ℕ Global → List ℕ
items v = v.items

-- One number more in one of many vectors.
pub list_put : (vs : List (Vec ℕ Global)) (i n : ℕ) (found : Vec ℕ Global) (x : List ℕ) → x ≡ found.items ++ n ∷ [] → found ≡ get_or vs i found → i < length vs
    → x ≡ get_or (map items vs) i [] ++ n ∷ []
list_put vs i n found x e h l = e ∙ ap (λ (ys : List ℕ). ys ++ n ∷ []) (ap items h ∙ sym (get_or-map items vs i found [] l))

-- Two lists have the same images: so have their elements with one index.
pub same_at : {A B C : Type 0} (f : A → B) (g : C → B) (xs : List A) (ys : List C) (n : ℕ) (x : A) (y : C) → map f xs ≡ map g ys → n < length ys → x ≡ get_or xs n x → f x ≡ g (get_or ys n y)
same_at f g xs ys n x y e h is =
    let long : length xs ≡ length ys = sym (length-map xs f) ∙ ap length e ∙ length-map ys g in
    ap f is ∙ sym (get_or-map f xs n x (f x) (omega (arith, h, long))) ∙ ap (λ zs. get_or zs n (f x)) e ∙ get_or-map g ys n y (f x) h

module _ {X : Type 0} (f : X → X) where
  change_next : (xs : List X) (i : ℕ) (d : X) → i < length xs → set (map f (take i xs) ++ drop i xs) i (f (get_or xs i d)) ≡ map f (take (suc i) xs) ++ drop (suc i) xs
  change_next [] i d h = absurd (omega (arith, h))
  change_next (x ∷ xs) zero d h = refl
  change_next (x ∷ xs) (suc i) d h = ap (λ l. f x ∷ l) (change_next xs i d (omega (arith, h)))

  unchanged_at : (xs : List X) (i : ℕ) (d : X) → i < length xs → get_or (map f (take i xs) ++ drop i xs) i d ≡ get_or xs i d
  unchanged_at [] i d h = absurd (omega (arith, h))
  unchanged_at (x ∷ xs) zero d h = refl
  unchanged_at (x ∷ xs) (suc i) d h = unchanged_at xs i d (omega (arith, h))

  pub change_more : (old is : List X) (i : ℕ) (x d : X) → i < length old → is ≡ map f (take i old) ++ drop i old → x ≡ f (get_or is i d)
      → slice_set is i x ≡ map f (take (i + 1) old) ++ drop (i + 1) old
  change_more old is i x d h e g =
      let value : x ≡ f (get_or old i d) = g ∙ ap (λ l. f (get_or l i d)) e ∙ ap f (unchanged_at old i d h) in
      let next : i + 1 ≡ suc i = omega arith in
      ap₂ (λ l y. set l i y) e value ∙ change_next old i d h ∙ ap (λ n. map f (take n old) ++ drop n old) (sym next)
