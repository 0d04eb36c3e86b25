-- Names by their numbers.
use Rattle.std.proofs.Common.{◌≡◌, ℕ, zero, suc, ◌<◌, ◌⊎◌, inl, inr, List, [], ◌∷◌, ◌++◌, Option, Some, Bool, true, false, cond, refl, sym, ap, ◌∙◌, arith}
use Rattle.std.proofs.Common.{length, get_or}
use Rattle.std.specs.Prelude.{map, slice_get, ◌||◌, option_map, unwrap_or, All, IsUtf8}
use Rattle.std.specs.List.{list_any, position}
use Rattle.std.specs.Str.{bytes_eq}
use Rattle.std.proofs.lemmas.Slice.Eq.{bytes_eq-Decides}
use Rattle.std.proofs.lemmas.Option.{slice_get-map, slice_get-get_or, slice_get_within}
use Rattle.std.proofs.lemmas.List.Elements.{All-head, All-tail, All-push}
use Rattle.std.proofs.lemmas.List.Quantifiers.{position-Some}
use Rattle.std.proofs.lemmas.List.{map-append, append-nil}
use Rattle.fd_language.specs.Term.{Name}
use Rattle.term_pool.specs.declared.AtomId.{AtomId}
use Rattle.term_pool.specs.Contents.{name_in, interned}
use Rattle.term_pool.specs.PoolInvariant.{AreDistinct}

pub same_text : (a b : List ℕ) → bytes_eq a b ≡ true → a ≡ b
same_text a b e = (bytes_eq-Decides a b).0 e

-- an element of the front part
pub slice_get-append : {X : Type 0} (xs ys : List X) (i : ℕ) → i < length xs → slice_get (xs ++ ys) i ≡ slice_get xs i
slice_get-append [] ys i h = absurd (omega arith)
slice_get-append (x ∷ xs) ys zero h = refl
slice_get-append (x ∷ xs) ys (suc i) h = slice_get-append xs ys i (omega arith)

-- the element behind the front part
pub slice_get_seam : {X : Type 0} (xs : List X) (y : X) (i : ℕ) → i ≡ length xs → slice_get (xs ++ y ∷ []) i ≡ Some y
slice_get_seam [] y zero h = refl
slice_get_seam [] y (suc i) h = absurd cc
slice_get_seam (x ∷ xs) y zero h = absurd cc
slice_get_seam (x ∷ xs) y (suc i) h = slice_get_seam xs y i (omega arith)

-- where an element stands
pub pushed_at : {X : Type 0} (xs : List X) (y z : X) (i : ℕ) → slice_get (xs ++ y ∷ []) i ≡ Some z → (slice_get xs i ≡ Some z) ⊎ ((length xs ≡ i) × (y ≡ z))
pushed_at [] y z zero e = inr (refl, cc)
pushed_at [] y z (suc i) e = absurd cc
pushed_at (x ∷ xs) y z zero e = inl e
pushed_at {X} (x ∷ xs) y z (suc i) e = go (pushed_at xs y z i e)
  where
    go : (slice_get xs i ≡ Some z) ⊎ ((length xs ≡ i) × (y ≡ z)) → (slice_get xs i ≡ Some z) ⊎ ((suc (length xs) ≡ suc i) × (y ≡ z))
    go (inl h) = inl h
    go (inr h) = inr (ap suc h.0, h.1)

-- the place that `position` gives
pub stands_at : {X : Type 0} (v : X → List ℕ) (text : List ℕ) (xs : List X) (i : ℕ) → position (λ k. bytes_eq text (v k)) xs ≡ Some i → slice_get (map v xs) i ≡ Some text
stands_at v text [] i e = absurd cc
stands_at v text (y ∷ ys) i e =
    let p = position-Some (λ k. bytes_eq text (v k)) (y ∷ ys) i y e in
    slice_get-map v (y ∷ ys) i ∙ ap (option_map v) (slice_get-get_or (y ∷ ys) i y p.0) ∙ ap (λ (t : List ℕ). Some t) (sym (same_text text (v (get_or (y ∷ ys) i y)) p.1))

pub list_any-map : {X : Type 0} (p : List ℕ → Bool) (v : X → List ℕ) (xs : List X) → list_any p (map v xs) ≡ list_any (λ x. p (v x)) xs
list_any-map p v [] = refl
list_any-map p v (x ∷ xs) = ap (λ (b : Bool). p (v x) || b) (list_any-map p v xs)

-- a name that is there
pub interned_same : {X : Type 0} (v : X → List ℕ) (text : List ℕ) (xs : List X) → list_any (λ k. bytes_eq text (v k)) xs ≡ true → interned (map v xs) text ≡ map v xs
interned_same v text xs h = ap (λ (b : Bool). cond b (map v xs) (map v xs ++ text ∷ [])) (list_any-map (bytes_eq text) v xs ∙ h)

-- a name that is added
pub interned_new : {X : Type 0} (v : X → List ℕ) (text : List ℕ) (xs : List X) (x : X) → list_any (λ k. bytes_eq text (v k)) xs ≡ false → v x ≡ text → interned (map v xs) text ≡ map v (xs ++ x ∷ [])
interned_new v text xs x h e =
    ap (λ (b : Bool). cond b (map v xs) (map v xs ++ text ∷ [])) (list_any-map (bytes_eq text) v xs ∙ h)
    ∙ ap (λ (t : List ℕ). map v xs ++ t ∷ []) (sym e) ∙ sym (map-append v xs (x ∷ []))

-- a name that has a number is among the names
pub named_is_there : (names : List Name) (text : Name) (i : ℕ) → slice_get names i ≡ Some text → list_any (bytes_eq text) names ≡ true
named_is_there [] text i e = absurd cc
named_is_there (n ∷ ns) text zero e =
    let same : n ≡ text = cc in
    ap (λ (b : Bool). b || list_any (bytes_eq text) ns) ((bytes_eq-Decides text n).1 (sym same))
named_is_there (n ∷ ns) text (suc i) e = grind (arith, named_is_there ns text i e)

-- the number of an atom gives its name
pub slice_get-name_in : (names : List Name) (a : AtomId) → a.number < length names → slice_get names a.number ≡ Some (name_in names a)
slice_get-name_in names a h = go names a.number h
  where
    go : (ns : List Name) (i : ℕ) → i < length ns → slice_get ns i ≡ Some (unwrap_or (slice_get ns i) [])
    go [] i l = absurd (omega arith)
    go (n ∷ ns) zero l = refl
    go (n ∷ ns) (suc i) l = go ns i (omega arith)

pub name_in-Some : (names : List Name) (a : AtomId) (text : Name) → slice_get names a.number ≡ Some text → name_in names a ≡ text
name_in-Some names a text e = ap (λ (o : Option Name). unwrap_or o []) e

pub name_in-append : (names more : List Name) (a : AtomId) → a.number < length names → name_in (names ++ more) a ≡ name_in names a
name_in-append names more a h = ap (λ (o : Option Name). unwrap_or o []) (slice_get-append names more a.number h)

-- the names after `interned` begin with those before
pub interned_grows : (names : List Name) (text : Name) → (more : List Name) × (interned names text ≡ names ++ more)
interned_grows names text = go (list_any (bytes_eq text) names)
  where
    go : (b : Bool) → (more : List Name) × (cond b names (names ++ text ∷ []) ≡ names ++ more)
    go true = ([], sym (append-nil names))
    go false = (text ∷ [], refl)

-- a name that is not among them is no name of theirs
pub distinct_push : (names : List Name) (text : Name) → list_any (bytes_eq text) names ≡ false → AreDistinct names → AreDistinct (names ++ text ∷ [])
distinct_push names text absent d a b la lb e = go (pushed_at names text _ a.number (slice_get-name_in (names ++ text ∷ []) a la))
    (pushed_at names text _ b.number (slice_get-name_in (names ++ text ∷ []) b lb))
  where
    na : Name
    na = name_in (names ++ text ∷ []) a

    nb : Name
    nb = name_in (names ++ text ∷ []) b

    clash : (i : ℕ) → slice_get names i ≡ Some text → ⊥
    clash i h = let there = named_is_there names text i h in cc

    go : (slice_get names a.number ≡ Some na) ⊎ ((length names ≡ a.number) × (text ≡ na)) → (slice_get names b.number ≡ Some nb) ⊎ ((length names ≡ b.number) × (text ≡ nb)) → a ≡ b
    go (inl h) (inl k) = d a b (slice_get_within names a.number na h) (slice_get_within names b.number nb k) (name_in-Some names a na h ∙ e ∙ sym (name_in-Some names b nb k))
    go (inl h) (inr k) = absurd (clash a.number (h ∙ ap (λ (t : Name). Some t) (e ∙ sym k.1)))
    go (inr h) (inl k) = absurd (clash b.number (k ∙ ap (λ (t : Name). Some t) (sym e ∙ sym h.1)))
    go (inr h) (inr k) = ap (λ (n : ℕ). let x : AtomId = record { number = n } in x) (sym h.0 ∙ k.0)

pub distinct_interned : (names : List Name) (text : Name) → AreDistinct names → AreDistinct (interned names text)
distinct_interned names text d = go (list_any (bytes_eq text) names) refl
  where
    go : (b : Bool) → list_any (bytes_eq text) names ≡ b → AreDistinct (cond b names (names ++ text ∷ []))
    go true e = d
    go false e = distinct_push names text e d

-- the names are texts
pub utf8_interned : (names : List Name) (text : Name) → IsUtf8 text → All IsUtf8 names → All IsUtf8 (interned names text)
utf8_interned names text u h = go (list_any (bytes_eq text) names)
  where
    go : (b : Bool) → All IsUtf8 (cond b names (names ++ text ∷ []))
    go true = h
    go false = All-push IsUtf8 names text h u

pub utf8_name : (names : List Name) (a : AtomId) → All IsUtf8 names → IsUtf8 (name_in names a)
utf8_name names a h = go names a.number h
  where
    go : (ns : List Name) (i : ℕ) → All IsUtf8 ns → IsUtf8 (unwrap_or (slice_get ns i) [])
    go [] i k = ([], (refl, refl))
    go (n ∷ ns) zero k = All-head IsUtf8 n ns k
    go (n ∷ ns) (suc i) k = go ns i (All-tail IsUtf8 n ns k)

-- an element that is there
pub slice_get_found : {X : Type 0} (xs : List X) (i : ℕ) → i < length xs → (x : X) × (slice_get xs i ≡ Some x)
slice_get_found [] i h = absurd (omega arith)
slice_get_found (x ∷ xs) zero h = (x, refl)
slice_get_found (x ∷ xs) (suc i) h = slice_get_found xs i (omega arith)
