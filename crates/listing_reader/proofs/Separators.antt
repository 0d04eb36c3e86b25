-- What stands between separators.
use Rattle.std.proofs.Common.{◌≡◌, ℕ, zero, suc, ◌<◌, Bool, true, false, ◌||◌, ◌==◌, nat_eq, cond, List, [], ◌∷◌, ◌++◌, length, take, drop, get_or, refl, sym}
use Rattle.std.proofs.Common.{ap, ◌∙◌, arith}
use Rattle.std.specs.List.{list_any}
use Rattle.std.proofs.lemmas.Bool.{eqb-true, eq-eqb}
use Rattle.std.proofs.lemmas.List.{append-nil}
use Rattle.code_listing.specs.Words.{between, each_behind}
use Rattle.listing_reader.specs.Reading.{has_byte, split, with_byte}

-- ---- found from the front

pub split_none : (sep : ℕ) (bs : List ℕ) → ((k : ℕ) → k < length bs → nat_eq (get_or bs k 0) sep ≡ false) → split sep bs ≡ bs ∷ []
split_none sep [] h = refl
split_none sep (b ∷ bs) h =
    ap (λ t. cond t ([] ∷ split sep bs) (with_byte b (split sep bs))) (h 0 (omega arith))
    ∙ ap (with_byte b) (split_none sep bs (λ k l. h (suc k) (omega (arith, l))))

pub split_first : (sep : ℕ) (bs : List ℕ) (n : ℕ) → n < length bs → nat_eq (get_or bs n 0) sep ≡ true → ((k : ℕ) → k < n → nat_eq (get_or bs k 0) sep ≡ false)
    → split sep bs ≡ take n bs ∷ split sep (drop (suc n) bs)
split_first sep [] n h e f = absurd (omega (arith, h))
split_first sep (b ∷ bs) zero h e f = ap (λ t. cond t ([] ∷ split sep bs) (with_byte b (split sep bs))) e
split_first sep (b ∷ bs) (suc n) h e f =
    ap (λ t. cond t ([] ∷ split sep bs) (with_byte b (split sep bs))) (f 0 (omega arith))
    ∙ ap (with_byte b) (split_first sep bs n (omega (arith, h)) e (λ k l. f (suc k) (omega (arith, l))))

-- ---- words and the line that they make

or_left : (a b : Bool) → (a || b) ≡ false → a ≡ false
or_left false b h = refl
or_left true b h = absurd (cc (h))

or_right : (a b : Bool) → (a || b) ≡ false → b ≡ false
or_right false b h = h
or_right true b h = absurd (cc (h))

eq_self : (n : ℕ) → nat_eq n n ≡ true
eq_self n = eq-eqb n n refl

pub split_front : (sep : ℕ) (w rest : List ℕ) → has_byte sep w ≡ false → split sep (w ++ sep ∷ rest) ≡ w ∷ split sep rest
split_front sep [] rest h = ap (λ t. cond t ([] ∷ split sep rest) (with_byte sep (split sep rest))) (eq_self sep)
split_front sep (b ∷ w) rest h =
    ap (λ t. cond t ([] ∷ split sep (w ++ sep ∷ rest)) (with_byte b (split sep (w ++ sep ∷ rest)))) (or_left (nat_eq b sep) (has_byte sep w) h)
    ∙ ap (with_byte b) (split_front sep w rest (or_right (nat_eq b sep) (has_byte sep w) h))

pub split_last : (sep : ℕ) (w : List ℕ) → has_byte sep w ≡ false → split sep w ≡ w ∷ []
split_last sep [] h = refl
split_last sep (b ∷ w) h =
    ap (λ t. cond t ([] ∷ split sep w) (with_byte b (split sep w))) (or_left (nat_eq b sep) (has_byte sep w) h)
    ∙ ap (with_byte b) (split_last sep w (or_right (nat_eq b sep) (has_byte sep w) h))

abbrev pub AreWithout : ℕ → List (List ℕ) → Type 0
AreWithout sep [] = Unit {0}
AreWithout sep (w ∷ ws) = (has_byte sep w ≡ false) × AreWithout sep ws

-- the words of the line that words make
pub split_between : (sep : ℕ) (w : List ℕ) (ws : List (List ℕ)) → AreWithout sep (w ∷ ws) → split sep (between (sep ∷ []) (w ∷ ws)) ≡ w ∷ ws
split_between sep w [] h = ap (split sep) (append-nil w) ∙ split_last sep w h.0
split_between sep w (v ∷ ws) h = split_front sep w (between (sep ∷ []) (v ∷ ws)) h.0 ∙ ap (λ (l : List (List ℕ)). w ∷ l) (split_between sep v ws h.1)

-- there is a word in each line
pub some_word : (sep : ℕ) (cs : List ℕ) → split sep cs ≡ [] → ⊥
some_word sep [] e = absurd (cc (e))
some_word sep (c ∷ cs) e = by (nat_eq c sep) refl (split sep cs) refl
  where
    all : (t : Bool) → nat_eq c sep ≡ t → cond t ([] ∷ split sep cs) (with_byte c (split sep cs)) ≡ []
    all t f = sym (ap (λ t. cond t ([] ∷ split sep cs) (with_byte c (split sep cs))) f) ∙ e

    by : (t : Bool) → nat_eq c sep ≡ t → (ws : List (List ℕ)) → split sep cs ≡ ws → ⊥
    by true f ws g = let k = all true f in absurd (cc (k))
    by false f [] g = let k : with_byte c [] ≡ [] = sym (ap (with_byte c) g) ∙ all false f in absurd (cc (k))
    by false f (w ∷ ws) g = let k : with_byte c (w ∷ ws) ≡ [] = sym (ap (with_byte c) g) ∙ all false f in absurd (cc (k))

joined_step : (sep b : ℕ) (bs : List ℕ) → between (sep ∷ []) (split sep bs) ≡ bs → between (sep ∷ []) (split sep (b ∷ bs)) ≡ b ∷ bs
joined_step sep b bs ih = go (nat_eq b sep) refl (split sep bs) refl
  where
    go : (t : Bool) → nat_eq b sep ≡ t → (ws : List (List ℕ)) → split sep bs ≡ ws → between (sep ∷ []) (split sep (b ∷ bs)) ≡ b ∷ bs
    go t e [] g = absurd (some_word sep bs g)
    go true e (w ∷ ws) g =
        ap (λ t. between (sep ∷ []) (cond t ([] ∷ split sep bs) (with_byte b (split sep bs)))) e
        ∙ ap (each_behind (sep ∷ [])) g
        ∙ ap (λ l. sep ∷ l) (sym (ap (between (sep ∷ [])) g) ∙ ih)
        ∙ ap (λ x. x ∷ bs) (sym (eqb-true b sep e))
    go false e (w ∷ ws) g =
        ap (λ t. between (sep ∷ []) (cond t ([] ∷ split sep bs) (with_byte b (split sep bs)))) e
        ∙ ap (λ l. between (sep ∷ []) (with_byte b l)) g
        ∙ ap (λ l. b ∷ l) (sym (ap (between (sep ∷ [])) g) ∙ ih)

-- the line that the words of a line make
pub between_split : (sep : ℕ) (bs : List ℕ) → between (sep ∷ []) (split sep bs) ≡ bs
between_split sep [] = refl
between_split sep (b ∷ bs) = joined_step sep b bs (between_split sep bs)
