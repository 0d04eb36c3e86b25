-- Lists, one behind the other.
use Rattle.std.proofs.Common.{◌≡◌, ◌⊎◌, ℕ, zero, suc, ◌+◌, ◌<◌, ◌≤◌, true, false, List, [], ◌∷◌, ◌++◌, map, Some, length, slice_get, refl, ap, sym, ◌∙◌, subst}
use Rattle.std.proofs.Common.{inl, inr, arith}
use Rattle.std.proofs.lemmas.List.{length-append, map-append}
use Rattle.std.proofs.lemmas.Bool.{true≢false}
use Rattle.std.specs.List.Sorted.{IsPermutation}
use Rattle.std.proofs.lemmas.List.Sorted.{Contains-permutation, IsPermutation-sym}
use Rattle.std.proofs.lemmas.Option.{slice_get_within, get_or_from_slice_get, same_Some}
use Rattle.clause_compiler.specs.Layout.{joined, offset}

-- what never comes
pub never : {A : Type 0} → false ≡ true → A
never h = absurd (true≢false (sym h))

pub no : {A : Type 0} → true ≡ false → A
no h = absurd (true≢false h)

-- a list has one element at a place
pub same_some : {A : Type 0} (o : List A) (k : ℕ) (x y : A) → slice_get o k ≡ Some x → slice_get o k ≡ Some y → x ≡ y
same_some o k x y e f = same_Some x y (sym e ∙ f)

module _ {X : Type 0} where
  pub get_there : (xs : List X) (k : ℕ) → k < length xs → (x : X) × (slice_get xs k ≡ Some x)
  get_there [] k l = absurd (omega (arith, l))
  get_there (x ∷ xs) zero l = (x, refl)
  get_there (x ∷ xs) (suc k) l = get_there xs k (omega (arith, l))

  pub get_left : (xs ys : List X) (n : ℕ) (x : X) → slice_get xs n ≡ Some x → slice_get (xs ++ ys) n ≡ Some x
  get_left [] ys n x e = absurd cc
  get_left (z ∷ xs) ys zero x e = e
  get_left (z ∷ xs) ys (suc n) x e = get_left xs ys n x e

  pub get_right : (xs ys : List X) (n : ℕ) → slice_get (xs ++ ys) (length xs + n) ≡ slice_get ys n
  get_right [] ys n = ap (slice_get ys) (let e : 0 + n ≡ n = omega arith in e)
  get_right (z ∷ xs) ys n = ap (slice_get (z ∷ (xs ++ ys))) (let e : suc (length xs) + n ≡ suc (length xs + n) = omega arith in e) ∙ get_right xs ys n

  -- An element of two lists is one of the first, or of the second.
  pub split_get : (xs ys : List X) (n : ℕ) (x : X) → slice_get (xs ++ ys) n ≡ Some x → (slice_get xs n ≡ Some x) ⊎ ((m : ℕ) × (n ≡ length xs + m) × (slice_get ys m ≡ Some x))
  split_get [] ys n x e = inr (n, omega arith, e)
  split_get (z ∷ xs) ys zero x e = inl e
  split_get (z ∷ xs) ys (suc n) x e = by (split_get xs ys n x e)
    where
      by : (slice_get xs n ≡ Some x) ⊎ ((m : ℕ) × (n ≡ length xs + m) × (slice_get ys m ≡ Some x)) → (slice_get xs n ≡ Some x) ⊎ ((m : ℕ) × (suc n ≡ suc (length xs) + m) × (slice_get ys m ≡ Some x))
      by (inl f) = inl f
      by (inr f) = inr (f.0, (let e = f.1 in omega (arith, e)), f.2)

  -- An element of a list is one of the same list in another order.
  pub moved_get : (xs ys : List X) → IsPermutation xs ys → (n : ℕ) (x : X) → slice_get ys n ≡ Some x → (m : ℕ) × (slice_get xs m ≡ Some x)
  moved_get xs ys moved n x e =
      let c = Contains-permutation ys xs x (IsPermutation-sym xs ys moved) (n, slice_get_within ys n x e, get_or_from_slice_get ys n x x e) in
      let g = get_there xs c.0 c.1 in
      (c.0, g.1 ∙ ap (λ y. Some y) (sym (get_or_from_slice_get xs c.0 g.0 x g.1) ∙ c.2))

  -- An element of one of the lists is one of them all.
  pub get_joined : (xss : List (List X)) (k n : ℕ) (xs : List X) (x : X) → slice_get xss k ≡ Some xs → slice_get xs n ≡ Some x → slice_get (joined xss) (offset xss k + n) ≡ Some x
  get_joined [] k n xs x e f = absurd cc
  get_joined (zs ∷ xss) zero n xs x e f =
      let same : zs ≡ xs = cc in
      let g : slice_get zs n ≡ Some x = subst (λ l. slice_get l n ≡ Some x) (sym same) f in
      ap (slice_get (zs ++ joined xss)) (let h : 0 + n ≡ n = omega arith in h) ∙ get_left zs (joined xss) n x g
  get_joined (zs ∷ xss) (suc k) n xs x e f =
      ap (slice_get (zs ++ joined xss)) (let h : (length zs + offset xss k) + n ≡ length zs + (offset xss k + n) = omega arith in
      h) ∙ get_right zs (joined xss) (offset xss k + n) ∙ get_joined xss k n xs x e f

  -- where an element of all of them is
  pub record Found (xss : List (List X)) (n : ℕ) (x : X) : Type 0 where
    pub list : ℕ
    pub index : ℕ
    pub elements : List X
    pub at_list : slice_get xss list ≡ Some elements
    pub at_index : slice_get elements index ≡ Some x
    pub sum : n ≡ offset xss list + index

  pub find_joined : (xss : List (List X)) (n : ℕ) (x : X) → slice_get (joined xss) n ≡ Some x → Found xss n x
  find_joined [] n x e = absurd cc
  find_joined (zs ∷ xss) n x e = by (split_get zs (joined xss) n x e) (find_joined xss)
    where
      by : (slice_get zs n ≡ Some x) ⊎ ((m : ℕ) × (n ≡ length zs + m) × (slice_get (joined xss) m ≡ Some x))
          → ((m : ℕ) (y : X) → slice_get (joined xss) m ≡ Some y → Found xss m y) → Found (zs ∷ xss) n x
      by (inl f) rest = record { list = zero; index = n; elements = zs; at_list = refl; at_index = f; sum = omega arith }
      by (inr f) rest =
          let g = rest f.0 x f.2 in
          record { list = suc g.list; index = g.index; elements = g.elements; at_list = g.at_list; at_index = g.at_index; sum = (let h = f.1 in let s = g.sum in omega (arith, h, s)) }

  pub offset_within : (xss : List (List X)) (k : ℕ) (xs : List X) → slice_get xss k ≡ Some xs → offset xss k + length xs ≤ length (joined xss)
  offset_within [] k xs e = absurd cc
  offset_within (zs ∷ xss) zero xs e = let same : zs ≡ xs = cc in let l = ap length same in let m = length-append zs (joined xss) in omega (arith, l, m)
  offset_within (zs ∷ xss) (suc k) xs e = let r = offset_within xss k xs e in let m = length-append zs (joined xss) in omega (arith, r, m)

  pub offset_order : (xss : List (List X)) (k l : ℕ) (xs : List X) → k < l → slice_get xss k ≡ Some xs → l ≤ length xss → offset xss k + length xs ≤ offset xss l
  offset_order [] k l xs h e b = absurd cc
  offset_order (zs ∷ xss) k zero xs h e b = absurd (omega (arith, h))
  offset_order (zs ∷ xss) zero (suc l) xs h e b = let same : zs ≡ xs = cc in let s = ap length same in omega (arith, s)
  offset_order (zs ∷ xss) (suc k) (suc l) xs h e b = let r = offset_order xss k l xs (omega (arith, h)) e (omega (arith, b)) in omega (arith, r)

  -- The lists have no place in common.
  pub one_list : (xss : List (List X)) (k l m n : ℕ) (xs ys : List X) → slice_get xss k ≡ Some xs → slice_get xss l ≡ Some ys → m < length xs → n < length ys
      → offset xss k + m ≡ offset xss l + n → k ≡ l
  one_list xss k l m n xs ys e f g h same =
      let less : k < l → ⊥ = λ o. let w = offset_order xss k l xs o e (let b = slice_get_within xss l ys f in omega (arith, b)) in omega (arith, w, g, same) in
      let more : l < k → ⊥ = λ o. let w = offset_order xss l k ys o f (let b = slice_get_within xss k xs e in omega (arith, b)) in omega (arith, w, h, same) in
      omega (arith, less, more)

module _ {X Y : Type 0} where
  -- Lists of the same lengths begin at the same places.
  pub same_offset : (xss : List (List X)) (yss : List (List Y)) → length yss ≡ length xss
      → ((k : ℕ) (xs : List X) (ys : List Y) → slice_get xss k ≡ Some xs → slice_get yss k ≡ Some ys → length ys ≡ length xs) → (k : ℕ)
      → offset yss k ≡ offset xss k
  same_offset [] [] e h k = refl
  same_offset [] (ys ∷ yss) e h k = absurd (omega (arith, e))
  same_offset (xs ∷ xss) [] e h k = absurd (omega (arith, e))
  same_offset (xs ∷ xss) (ys ∷ yss) e h zero = refl
  same_offset (xs ∷ xss) (ys ∷ yss) e h (suc k) = let one = h 0 xs ys refl refl in let rest = same_offset xss yss (omega (arith, e)) (λ n. h (suc n)) k in omega (arith, one, rest)

  pub same_length : (xss : List (List X)) (yss : List (List Y)) → length yss ≡ length xss
      → ((k : ℕ) (xs : List X) (ys : List Y) → slice_get xss k ≡ Some xs → slice_get yss k ≡ Some ys → length ys ≡ length xs)
      → length (joined yss) ≡ length (joined xss)
  same_length [] [] e h = refl
  same_length [] (ys ∷ yss) e h = absurd (omega (arith, e))
  same_length (xs ∷ xss) [] e h = absurd (omega (arith, e))
  same_length (xs ∷ xss) (ys ∷ yss) e h =
      let one = h 0 xs ys refl refl in
      let rest = same_length xss yss (omega (arith, e)) (λ n. h (suc n)) in
      let l = length-append xs (joined xss) in
      let m = length-append ys (joined yss) in
      omega (arith, one, rest, l, m)

  pub record Chosen (P : ℕ → X → Y → Type 0) (xs : List X) : Type 0 where
    pub choice : List Y
    pub size : length choice ≡ length xs
    pub each : (k : ℕ) (x : X) (y : Y) → slice_get xs k ≡ Some x → slice_get choice k ≡ Some y → P k x y

  -- From one for each element, a list of them.
  pub choose : (P : ℕ → X → Y → Type 0) (xs : List X) → ((k : ℕ) (x : X) → slice_get xs k ≡ Some x → (y : Y) × P k x y) → Chosen P xs
  choose P [] h = record { choice = []; size = refl; each = λ k x y e f. absurd cc }
  choose P (x ∷ xs) h =
      let one = h 0 x refl in
      let rest = choose (λ k. P (suc k)) xs (λ k. h (suc k)) in
      record { choice = one.0 ∷ rest.choice; size = ap suc rest.size; each = by one rest }
    where
      by : (one : (y : Y) × P 0 x y) (rest : Chosen (λ k. P (suc k)) xs) → (k : ℕ) (z : X) (y : Y) → slice_get (x ∷ xs) k ≡ Some z → slice_get (one.0 ∷ rest.choice) k ≡ Some y → P k z y
      by one rest zero z y e f =
          let a : x ≡ z = cc in
          let b : one.0 ≡ y = cc in
          subst (λ v. P 0 v y) a (subst (P 0 x) b one.1)
      by one rest (suc k) z y e f = rest.each k z y e f

-- The images of lists, one behind the other.
pub map_joined : {X Y : Type 0} (f : X → Y) (xss : List (List X)) → map f (joined xss) ≡ joined (map (map f) xss)
map_joined f [] = refl
map_joined f (xs ∷ xss) = map-append f xs (joined xss) ∙ ap (λ l. map f xs ++ l) (map_joined f xss)

-- An image is that of an element.
pub got_map : {X Y : Type 0} (f : X → Y) (xs : List X) (k : ℕ) (y : Y) → slice_get (map f xs) k ≡ Some y → (x : X) × (slice_get xs k ≡ Some x) × (y ≡ f x)
got_map f [] k y e = absurd cc
got_map f (x ∷ xs) zero y e = (x, refl, (let s : y ≡ f x = cc in s))
got_map f (x ∷ xs) (suc k) y e = got_map f xs k y e
