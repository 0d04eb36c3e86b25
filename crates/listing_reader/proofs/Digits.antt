-- The bytes of numbers.
use Rattle.std.proofs.Common.{◌≡◌, ℕ, ◌+◌, ◌<◌, ◌^◌, ℤ, pos, negsuc, suc, Bool, true, false, ◌&&◌, ◌||◌, ◌%◌, nat_lt, nat_eq, List, [], ◌∷◌, ◌++◌, refl, sym}
use Rattle.std.proofs.Common.{ap, ◌∙◌, arith, decimal}
use Rattle.std.specs.Fmt.{signed_decimal}
use Rattle.std.specs.Int.Signed.{mag}
use Rattle.std.specs.List.{list_all}
use Rattle.std.proofs.lemmas.Fmt.{decimal_by_steps}
use Rattle.std.proofs.lemmas.List.Folds.{list_all-append}
use Rattle.std.proofs.lemmas.Bool.{eqb-true, lt-ltb}
use Rattle.listing_reader.specs.Reading.{has_byte}

pub and_true : (a b : Bool) → a ≡ true → b ≡ true → (a && b) ≡ true
and_true true b e f = f
and_true false b e f = e

pub and_left : (a b : Bool) → (a && b) ≡ true → a ≡ true
and_left true b h = refl
and_left false b h = h

pub and_right : (a b : Bool) → (a && b) ≡ true → b ≡ true
and_right true b h = h
and_right false b h = absurd (cc (h))

pub join_all : (p : ℕ → Bool) (v w : List ℕ) → list_all p v ≡ true → list_all p w ≡ true → list_all p (v ++ w) ≡ true
join_all p v w e f = list_all-append p v w ∙ and_true (list_all p v) (list_all p w) e f

-- all digits pass
pub decimal_all : (p : ℕ → Bool) → ((d : ℕ) → d < 10 → p (48 + d) ≡ true) → (n : ℕ) → n < 2 ^ 64 → list_all p (decimal n) ≡ true
decimal_all p each = decimal_by_steps (λ n ds. list_all p ds ≡ true)
    (λ n h. and_true (p (48 + n)) true (each n h) refl)
    (λ n ds l h. join_all p ds ((48 + n % 10) ∷ []) h (and_true (p (48 + n % 10)) true (each (n % 10) (omega arith)) refl))

pub signed_all : (p : ℕ → Bool) → p 45 ≡ true → ((d : ℕ) → d < 10 → p (48 + d) ≡ true) → (z : ℤ) → mag z < 2 ^ 63 → list_all p (signed_decimal z) ≡ true
signed_all p dash each (pos n) h = decimal_all p each n (omega (arith, h))
signed_all p dash each (negsuc n) h = and_true (p 45) (list_all p (decimal (suc n))) dash (decimal_all p each (suc n) (omega (arith, h)))

-- a byte that doesn't pass stands in no text of bytes that pass
pub without : (p : ℕ → Bool) (sep : ℕ) → p sep ≡ false → (w : List ℕ) → list_all p w ≡ true → has_byte sep w ≡ false
without p sep e [] h = refl
without p sep e (b ∷ w) h = go (without p sep e w (and_right (p b) (list_all p w) h)) (nat_eq b sep) refl
  where
    go : has_byte sep w ≡ false → (t : Bool) → nat_eq b sep ≡ t → has_byte sep (b ∷ w) ≡ false
    go ih true f = absurd (let g : p b ≡ true = and_left (p b) (list_all p w) h in let k : b ≡ sep = eqb-true b sep f in let l : p b ≡ false = ap p k ∙ e in cc)
    go ih false f = ap (λ t. t || has_byte sep w) f ∙ ih

-- bytes of a word: neither spaces nor newlines
abbrev pub is_printed : ℕ → Bool
is_printed b = nat_lt 32 b

pub digit_over : (k : ℕ) → k < 48 → (d : ℕ) → d < 10 → nat_lt k (48 + d) ≡ true
digit_over k h d l = lt-ltb k (48 + d) (omega (arith, h))

pub digit_under : (d : ℕ) → d < 10 → nat_lt (48 + d) 58 ≡ true
digit_under d l = lt-ltb (48 + d) 58 (omega (arith, l))
