-- The only member of a set.
use Rattle.std.proofs.Common.{◌≡◌, ℕ, suc, pos, ◌≤◌, true, false, eqb, List, [], ◌∷◌, Option, Some, None, MatchOption, OnSome, refl, ap, sym, ◌∙◌, arith}
use Rattle.std.proofs.Common.{eq-eqb, eqb-true}
use Rattle.std.specs.Option.{option_eq}
use Rattle.std.proofs.lemmas.Bool.{true≢false}
use Rattle.fd_language.specs.Family.{IsRising}
use Rattle.fd_language.specs.Range.{least, greatest, is_none_left}
use Rattle.fd_language.specs.SingleValues.{only, value_in}
use Rattle.fd_language.specs.Term.{Var, Int}
use Rattle.fd_language.proofs.Lemmas.{two}

above : (low M y : ℕ) (ys : List ℕ) → IsRising low M (y ∷ ys) → low ≤ greatest (y ∷ ys)
above low M y [] r = r.0
above low M y (x ∷ ys) r = let l = above (suc y) M x ys r.2 in let k = r.0 in omega (arith, l, k)

some_of : (xs : List ℕ) (a : Option ℕ) (f : List ℕ → ℕ) → MatchOption a (xs ≡ []) (λ n. n ≡ f xs) → (xs ≡ [] → ⊥) → a ≡ Some (f xs)
some_of xs None f h never = absurd (never h)
some_of xs (Some n) f h never = ap Some h

none_left : (xs : List ℕ) (a : Option ℕ) → xs ≡ [] → OnSome a (is_none_left xs ≡ false) → a ≡ None
none_left xs None e s = refl
none_left xs (Some n) e s = absurd (true≢false (sym (ap is_none_left e) ∙ s))

cons_none : (w : ℕ) (ws : List ℕ) → w ∷ ws ≡ [] → ⊥
cons_none w ws e = cc

-- the least and the greatest member are one
pub only_least : (M : ℕ) (xs : List ℕ) (a b : Option ℕ) → IsRising 0 M xs → MatchOption a (xs ≡ []) (λ n. n ≡ least xs) → OnSome a (is_none_left xs ≡ false)
    → MatchOption b (xs ≡ []) (λ n. n ≡ greatest xs) → option_eq eqb a b ≡ true → a ≡ only xs
only_least M [] a b r h s g e = none_left [] a refl s
only_least M (w ∷ []) a b r h s g e = some_of (w ∷ []) a least h (cons_none w [])
only_least M (x ∷ y ∷ ys) a b r h s g e =
    let is_a = some_of (x ∷ y ∷ ys) a least h (cons_none x (y ∷ ys)) in
    let is_b = some_of (x ∷ y ∷ ys) b greatest g (cons_none x (y ∷ ys)) in
    let same : x ≡ greatest (y ∷ ys) = eqb-true x (greatest (y ∷ ys)) (sym (two (option_eq eqb) is_a is_b) ∙ e) in
    let l = above (suc x) M y ys r.2 in
    absurd (omega (arith, same, l))

-- they are not: there is none, or there are several
pub only_none : (xs : List ℕ) (a b : Option ℕ) → MatchOption a (xs ≡ []) (λ n. n ≡ least xs) → MatchOption b (xs ≡ []) (λ n. n ≡ greatest xs) → option_eq eqb a b ≡ false → None ≡ only xs
only_none [] a b h g e = refl
only_none (w ∷ []) a b h g e =
    let is_a = some_of (w ∷ []) a least h (cons_none w []) in
    let is_b = some_of (w ∷ []) b greatest g (cons_none w []) in
    absurd (true≢false (sym (eq-eqb w w refl) ∙ sym (two (option_eq eqb) is_a is_b) ∙ e))
only_none (x ∷ y ∷ ys) a b h g e = refl

-- a variable whose set has one value is that integer
pub one_value : (xs : List ℕ) (w c : ℕ) → only xs ≡ Some w → value_in xs c ≡ Int (pos w)
one_value [] w c e = absurd (let f : ⊥ = cc in f)
one_value (v ∷ []) w c e = let f : v ≡ w = cc in ap (λ n. Int (pos n)) f
one_value (x ∷ y ∷ ys) w c e = absurd (let f : ⊥ = cc in f)

-- and else it stays a variable
pub no_value : (xs : List ℕ) (c : ℕ) → only xs ≡ None → value_in xs c ≡ Var c
no_value [] c e = refl
no_value (v ∷ []) c e = absurd (let f : ⊥ = cc in f)
no_value (x ∷ y ∷ ys) c e = refl
