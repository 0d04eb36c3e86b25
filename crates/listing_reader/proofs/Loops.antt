-- Steps of loops that read.
use Rattle.std.proofs.Common.{◌≡◌, ℕ, zero, suc, ◌+◌, ◌-◌, ◌<◌, ◌≤◌, Bool, true, false, not, ◌||◌, nat_eq, List, [], ◌∷◌, ◌++◌, map, take, drop, length, get_or}
use Rattle.std.proofs.Common.{Option, Some, None, refl, sym, ap, ◌∙◌, subst, arith, All, append_assoc, drop-cons, length-drop}
use Rattle.std.proofs.lemmas.Bool.{eqb-true, false_from_ne_true, ne_eqb}
use Rattle.std.proofs.lemmas.List.{map_more, take_all, take_more}
use Rattle.std.specs.Prelude.{MatchOption}
use Rattle.listing_reader.specs.Reading.{ReadsAs, has_byte, split}
use Rattle.listing_reader.proofs.LinePrefixes.{all_join, all_more, all_none, map_join}
use Rattle.listing_reader.proofs.Separators.{split_first, split_none}
use Rattle.listing_reader.proofs.LineWords.{each_fails, each_more}

-- ---- things that are read one after another

module _ {A W B : Type 0} (Fits : A → Type 0) (text : A → B) (g : W → B) where
  pub each_step : (xs new : List A) (x : A) (ws : List W) (i : ℕ) (d : W) → new ≡ xs ++ x ∷ [] → i < length ws → All Fits xs × (map text xs ≡ map g (take i ws))
      → Fits x × (text x ≡ g (get_or ws i d)) → All Fits new × (map text new ≡ map g (take (i + 1) ws))
  each_step xs new x ws i d e l h f = (
    subst (λ (k : List A). All Fits k) (sym e) (all_join Fits xs (x ∷ []) h.0 (all_more Fits x [] f.0 (all_none Fits))),
    ap (map text) e ∙ each_more Fits text g xs x ws i d l h.1 f.1,
  )

  pub each_stops : (ws : List W) (i : ℕ) (d : W) → i < length ws → ((x : A) → Fits x → ¬ (text x ≡ g (get_or ws i d))) → (ys : List A) → All Fits ys → ¬ (map text ys ≡ map g ws)
  each_stops ws i d l none ys f e = each_fails Fits text g ws i d l none ys f e

  pub each_done : (xs : List A) (ws : List W) (i : ℕ) → length ws ≤ i → All Fits xs × (map text xs ≡ map g (take i ws)) → All Fits xs × (map text xs ≡ map g ws)
  each_done xs ws i l h = (h.0, h.1 ∙ ap (map g) (take_all i ws l))

-- ---- letters

module _ {A B : Type 0} (f : A → B) (h : B → ℕ) where
  pub letters_step : (xs new : List A) (x : A) (ws : List ℕ) (i : ℕ) → new ≡ xs ++ x ∷ [] → i < length ws → map h (map f xs) ≡ take i ws → h (f x) ≡ get_or ws i 0 → map h (map f new) ≡ take (i + 1) ws
  letters_step xs new x ws i e l k q =
      ap (λ (z : List A). map h (map f z)) e ∙ ap (map h) (map_join f xs (x ∷ [])) ∙ map_join h (map f xs) (f x ∷ [])
      ∙ ap (λ (z : List ℕ). z ++ h (f x) ∷ []) k ∙ ap (λ (b : ℕ). take i ws ++ b ∷ []) q ∙ sym (take_more ws i 0 l)

pub letters_stop : {B : Type 0} (h : B → ℕ) (ws : List ℕ) (i : ℕ) → i < length ws → ((x : B) → Unit {0} → ¬ (h x ≡ get_or ws i 0)) → (ys : List B) → ¬ (map h ys ≡ ws)
letters_stop h [] i l none ys e = absurd (omega (arith, l))
letters_stop h (w ∷ ws) i l none [] e = let k : [] ≡ w ∷ ws = e in cc
letters_stop h (w ∷ ws) zero l none (y ∷ ys) e = let k : h y ∷ map h ys ≡ w ∷ ws = e in none y tt (cc)
letters_stop h (w ∷ ws) (suc i) l none (y ∷ ys) e = let k : h y ∷ map h ys ≡ w ∷ ws = e in letters_stop h ws i (omega (arith, l)) none ys (cc)

-- ---- separators

module _ (sep : ℕ) (bs : List ℕ) where
  -- no separator
  module _ (h : (k : ℕ) → 0 ≤ k → k < length bs → ¬ (nat_eq (get_or bs k 0) sep ≡ true)) where
    pub split_end : split sep bs ≡ bs ∷ []
    split_end = split_none sep bs (λ k l. false_from_ne_true (nat_eq (get_or bs k 0) sep) (h k (omega arith) l))

  -- the first separator
  module _ (at : ℕ) (l : at < length bs) (before : (k : ℕ) → 0 ≤ k → k < at → ¬ (nat_eq (get_or bs k 0) sep ≡ true)) (here : nat_eq (get_or bs at 0) sep ≡ true) where
    tail_whole : take (length bs - (at + 1)) (drop (at + 1) bs) ≡ drop (suc at) bs
    tail_whole = take_all (length bs - (at + 1)) (drop (at + 1) bs) (omega (arith, length-drop (at + 1) bs)) ∙ ap (λ (n : ℕ). drop n bs) (let e : at + 1 ≡ suc at = omega arith in e)

    pub split_here : split sep bs ≡ take at bs ∷ split sep (take (length bs - (at + 1)) (drop (at + 1) bs))
    split_here =
        split_first sep bs at l here (λ k m. false_from_ne_true (nat_eq (get_or bs k 0) sep) (before k (omega arith) m))
        ∙ ap (λ (z : List ℕ). take at bs ∷ split sep z) (sym tail_whole)

    pub cut_here : bs ≡ take at bs ++ sep ∷ take (length bs - (at + 1)) (drop (at + 1) bs)
    cut_here =
        sym (take_drop at bs) ∙ ap (λ (z : List ℕ). take at bs ++ z)
        (drop-cons bs at 0 l ∙ ap (λ (b : ℕ). b ∷ drop (suc at) bs) (eqb-true (get_or bs at 0) sep here) ∙ ap (λ (z : List ℕ). sep ∷ z) (sym tail_whole))
      where
        take_drop : (n : ℕ) (zs : List ℕ) → take n zs ++ drop n zs ≡ zs
        take_drop zero zs = refl
        take_drop (suc n) [] = refl
        take_drop (suc n) (z ∷ zs) = ap (λ (y : List ℕ). z ∷ y) (take_drop n zs)

-- no byte of them is the separator
pub nowhere : (sep : ℕ) (bs : List ℕ) → ((k : ℕ) → 0 ≤ k → k < length bs → ¬ (nat_eq (get_or bs k 0) sep ≡ true)) → has_byte sep bs ≡ false
nowhere sep [] h = refl
nowhere sep (b ∷ bs) h =
    ap (λ (t : Bool). t || has_byte sep bs) (false_from_ne_true (nat_eq b sep) (h 0 (omega arith) (omega arith)))
    ∙ nowhere sep bs (λ k z l. h (suc k) (omega arith) (omega (arith, l)))

pub nowhere_front : (sep : ℕ) (bs : List ℕ) (at : ℕ) → at ≤ length bs → ((k : ℕ) → 0 ≤ k → k < at → ¬ (nat_eq (get_or bs k 0) sep ≡ true)) → has_byte sep (take at bs) ≡ false
nowhere_front sep bs zero l h = refl
nowhere_front sep [] (suc at) l h = absurd (omega (arith, l))
nowhere_front sep (b ∷ bs) (suc at) l h =
    ap (λ (t : Bool). t || has_byte sep (take at bs)) (false_from_ne_true (nat_eq b sep) (h 0 (omega arith) (omega arith)))
    ∙ nowhere_front sep bs at (omega (arith, l)) (λ k z m. h (suc k) (omega arith) (omega (arith, m)))

-- one more part
pub part_more : {W : Type 0} (g : W → List ℕ) (sep : ℕ) (text rest later part : List ℕ) (found new : List W) (w : W) → new ≡ found ++ w ∷ [] → g w ≡ part
    → split sep rest ≡ part ∷ split sep later → split sep text ≡ map g found ++ split sep rest → split sep text ≡ map g new ++ split sep later
part_more {W} g sep text rest later part found new w e f h k =
    k ∙ ap (λ (z : List (List ℕ)). map g found ++ z) (h ∙ ap (λ (p : List ℕ). p ∷ split sep later) (sym f))
    ∙ sym (append_assoc (map g found) (g w ∷ []) (split sep later)) ∙ ap (λ (z : List (List ℕ)). z ++ split sep later) (sym (map_join g found (w ∷ [])) ∙ sym (ap (map g) e))

pub tail_short : (n m : ℕ) (bs : List ℕ) → length (take n (drop m bs)) ≤ length bs
tail_short n m bs = omega (arith, length-drop m bs, short n (drop m bs))
  where
    short : (n : ℕ) (bs : List ℕ) → length (take n bs) ≤ length bs
    short zero bs = omega arith
    short (suc n) [] = omega arith
    short (suc n) (b ∷ bs) = (let h = short n bs in omega (arith, h))

-- ---- results that are there or not

module _ {V A B : Type 0} (told : V → A) (Fits : A → Type 0) (text : A → B) (given : B) where
  pub reads_none : (r : Option V) → r ≡ None → ReadsAs told Fits text given r → (x : A) → Fits x → ¬ (text x ≡ given)
  reads_none r e h = let M : Option V → Type 0 = λ o. ReadsAs told Fits text given o in subst M e h

  pub reads_some : (r : Option V) (v : V) → r ≡ Some v → ReadsAs told Fits text given r → Fits (told v) × (text (told v) ≡ given)
  reads_some r v e h = let M : Option V → Type 0 = λ o. ReadsAs told Fits text given o in subst M e h

pub match_none : {V : Type 0} (P : Type 0) (Q : V → Type 0) (r : Option V) → r ≡ None → MatchOption r P Q → P
match_none {V} P Q r e h = let M : Option V → Type 0 = λ o. MatchOption o P Q in subst M e h

pub match_some : {V : Type 0} (P : Type 0) (Q : V → Type 0) (r : Option V) (v : V) → r ≡ Some v → MatchOption r P Q → Q v
match_some {V} P Q r v e h = let M : Option V → Type 0 = λ o. MatchOption o P Q in subst M e h

-- ---- the first of some

module _ {W : Type 0} (g : W → List ℕ) where
  pub front_is : (ws : List W) (d : W) → 1 ≤ length ws → map g ws ≡ g (get_or ws 0 d) ∷ map g (take (length ws - 1) (drop 1 ws))
  front_is [] d l = absurd (omega (arith, l))
  front_is (w ∷ ws) d l = ap (λ (z : List W). g w ∷ map g z) (sym (take_all (length (w ∷ ws) - 1) ws (omega arith)))

  pub none_is : (ws : List W) → length ws < 1 → map g ws ≡ []
  none_is [] l = refl
  none_is (w ∷ ws) l = absurd (omega (arith, l))

  pub rest_is : (n : ℕ) (ws : List W) → map g (take (length ws - n) (drop n ws)) ≡ map g (drop n ws)
  rest_is n ws = ap (map g) (take_all (length ws - n) (drop n ws) (omega (arith, length-drop n ws)))

  pub rest_shorter : (n : ℕ) (ws : List W) → 0 < n → n ≤ length ws → length (take (length ws - n) (drop n ws)) < length ws
  rest_shorter n ws l m = let e = ap length (take_all (length ws - n) (drop n ws) (omega (arith, length-drop n ws))) in omega (arith, length-drop n ws, e, l, m)

pub from_not : (r : Bool) → not r ≡ true → r ≡ false
from_not true h = sym h
from_not false h = refl

pub from_not_false : (r : Bool) → not r ≡ false → r ≡ true
from_not_false true h = refl
from_not_false false h = sym h

pub some_bytes : {A : Type 0} (ws : List A) (r : Bool) → r ≡ nat_eq (length ws) 0 → r ≡ false → ¬ (ws ≡ [])
some_bytes {A = A} ws r e h f = let k : r ≡ true = e ∙ ap (λ (l : List A). nat_eq (length l) 0) f in let m : true ≡ false = sym k ∙ h in cc

module _ {W : Type 0} (g : W → List ℕ) where
  pub some_rest : (ws : List W) (r : Bool) → r ≡ nat_eq (length ws) 0 → r ≡ false → ¬ (map g ws ≡ [])
  some_rest [] r e h f = let m : true ≡ false = sym e ∙ h in cc
  some_rest (w ∷ ws) r e h f = let k : g w ∷ map g ws ≡ [] = f in cc

  pub none_rest : (ws : List W) (r : Bool) → r ≡ nat_eq (length ws) 0 → r ≡ true → map g ws ≡ []
  none_rest [] r e h = refl
  none_rest (w ∷ ws) r e h = absurd (let m : true ≡ false = sym h ∙ e ∙ ne_eqb (length (w ∷ ws)) 0 (λ q. omega (arith, q)) in cc)
