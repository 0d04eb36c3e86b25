-- Lines by their words.
use Rattle.std.proofs.Common.{◌≡◌, ◌⊎◌, ℕ, zero, suc, ◌+◌, ◌<◌, ◌≤◌, Bool, true, false, ◌&&◌, nat_lt, List, [], ◌∷◌, ◌++◌, map, take, length, get_or, Option}
use Rattle.std.proofs.Common.{Some, None, refl, sym, ap, ◌∙◌, subst, arith, All, append_assoc, codes}
use Rattle.std.specs.List.{list_all}
use Rattle.std.proofs.lemmas.Bool.{lt-ltb, ltb-true}
use Rattle.std.proofs.lemmas.List.{map_more}
use Rattle.code_listing.specs.Words.{between, each_behind, words}
use Rattle.listing_reader.specs.Reading.{ReadsAs, has_byte, split}
use Rattle.listing_reader.proofs.Separators.{AreWithout, split_between, split_front, between_split}
use Rattle.listing_reader.proofs.Digits.{and_true, and_left, and_right, join_all, is_printed, without}
use Rattle.listing_reader.proofs.LinePrefixes.{Lines, all_head, all_tail, map_join}
use Rattle.listing_reader.proofs.WordTexts.{IsPrinted, ArePrinted}

-- ---- words that are apart

pub printed_without : (sep : ℕ) → is_printed sep ≡ false → (ws : Lines) → ArePrinted ws → AreWithout sep ws
printed_without sep e [] h = tt
printed_without sep e (w ∷ ws) h = (without is_printed sep e w h.0, printed_without sep e ws h.1)

pub split_words : (w : List ℕ) (ws : Lines) → ArePrinted (w ∷ ws) → split 32 (words (w ∷ ws)) ≡ w ∷ ws
split_words w ws h = split_between 32 w ws (printed_without 32 refl (w ∷ ws) h)

pub printed_all : (ws vs : Lines) → ArePrinted ws → ArePrinted vs → ArePrinted (ws ++ vs)
printed_all [] vs h g = g
printed_all (w ∷ ws) vs h g = (h.0, printed_all ws vs h.1 g)

pub printed_map : {A : Type 0} (Fits : A → Type 0) (text : A → List ℕ) → ((x : A) → Fits x → IsPrinted (text x)) → (xs : List A) → All Fits xs → ArePrinted (map text xs)
printed_map Fits text each [] h = tt
printed_map Fits text each (x ∷ xs) h = (each x (all_head Fits x xs h), printed_map Fits text each xs (all_tail Fits x xs h))

-- ---- no newlines

abbrev pub is_inline : ℕ → Bool
is_inline b = nat_lt 31 b

inline_word : (w : List ℕ) → IsPrinted w → list_all is_inline w ≡ true
inline_word [] h = refl
inline_word (b ∷ w) h =
    let g : 32 < b = ltb-true 32 b (and_left (is_printed b) (list_all is_printed w) h) in
    and_true (is_inline b) (list_all is_inline w) (lt-ltb 31 b (omega (arith, g))) (inline_word w (and_right (is_printed b) (list_all is_printed w) h))

inline_behind : (ws : Lines) → ArePrinted ws → list_all is_inline (each_behind (codes " ") ws) ≡ true
inline_behind [] h = refl
inline_behind (w ∷ ws) h = join_all is_inline w (each_behind (codes " ") ws) (inline_word w h.0) (inline_behind ws h.1)

pub inline_words : (ws : Lines) → ArePrinted ws → has_byte 10 (words ws) ≡ false
inline_words [] h = refl
inline_words (w ∷ ws) h = without is_inline 10 refl (words (w ∷ ws)) (join_all is_inline w (each_behind (codes " ") ws) (inline_word w h.0) (inline_behind ws h.1))

-- ---- what is read of the words is read of the line

module _ {A : Type 0} (Fits : A → Type 0) (text : A → List ℕ) (texts : A → Lines) (is : (x : A) → text x ≡ between (32 ∷ []) (texts x)) (apart : (x : A) → Fits x → split 32 (text x) ≡ texts x) where
  pub worded : {V : Type 0} (told : V → A) (line : List ℕ) (r : Option V) → ReadsAs told Fits texts (split 32 line) r → ReadsAs told Fits text line r
  worded told line None h = λ x f e. h x f (sym (apart x f) ∙ ap (split 32) e)
  worded told line (Some v) h = (h.0, is (told v) ∙ ap (between (32 ∷ [])) h.1 ∙ between_split 32 line)

-- ---- what stands before a separator

pub cut_same : (sep : ℕ) (v w x y : List ℕ) → has_byte sep v ≡ false → has_byte sep x ≡ false → v ++ sep ∷ w ≡ x ++ sep ∷ y → (v ≡ x) × (w ≡ y)
cut_same sep v w x y f g e =
    let line : v ∷ split sep w ≡ x ∷ split sep y = sym (split_front sep v w f) ∙ ap (split sep) e ∙ split_front sep x y g in
    let later : split sep w ≡ split sep y = cc in
    (cc, sym (between_split sep w) ∙ ap (between (sep ∷ [])) later ∙ between_split sep y)

-- ---- things that are read one after another

module _ {A W B : Type 0} (Fits : A → Type 0) (text : A → B) (g : W → B) where
  pub each_more : (xs : List A) (x : A) (ws : List W) (i : ℕ) (d : W) → i < length ws → map text xs ≡ map g (take i ws) → text x ≡ g (get_or ws i d) → map text (xs ++ x ∷ []) ≡ map g (take (i + 1) ws)
  each_more xs x ws i d h e f =
      map_join text xs (x ∷ []) ∙ ap (λ (l : List B). l ++ text x ∷ []) e
      ∙ ap (λ (b : B). map g (take i ws) ++ b ∷ []) f ∙ sym (map_more g ws i d h)

  pub each_fails : (ws : List W) (i : ℕ) (d : W) → i < length ws → ((x : A) → Fits x → ¬ (text x ≡ g (get_or ws i d))) → (ys : List A) → All Fits ys → ¬ (map text ys ≡ map g ws)
  each_fails [] i d h none ys f e = absurd (omega (arith, h))
  each_fails (w ∷ ws) i d h none [] f e = let k : [] ≡ g w ∷ map g ws = e in cc
  each_fails (w ∷ ws) zero d h none (y ∷ ys) f e = let k : text y ∷ map text ys ≡ g w ∷ map g ws = e in none y (all_head Fits y ys f) (cc)
  each_fails (w ∷ ws) (suc i) d h none (y ∷ ys) f e =
      let k : text y ∷ map text ys ≡ g w ∷ map g ws = e in
      each_fails ws i d (omega (arith, h)) none ys (all_tail Fits y ys f) (cc)

-- lists of one text
pub one_list : {A B : Type 0} (Fits : A → Type 0) (text : A → B) → ((x y : A) → Fits x → Fits y → text x ≡ text y → x ≡ y) → (xs ys : List A) → All Fits xs
    → All Fits ys → map text xs ≡ map text ys → xs ≡ ys
one_list Fits text one [] [] f g e = refl
one_list Fits text one [] (y ∷ ys) f g e = let k : [] ≡ text y ∷ map text ys = e in absurd (cc (k))
one_list Fits text one (x ∷ xs) [] f g e = let k : text x ∷ map text xs ≡ [] = e in absurd (cc (k))
one_list Fits text one (x ∷ xs) (y ∷ ys) f g e =
    let k : text x ∷ map text xs ≡ text y ∷ map text ys = e in
    let first : x ≡ y = one x y (all_head Fits x xs f) (all_head Fits y ys g) (cc) in
    let later : xs ≡ ys = one_list Fits text one xs ys (all_tail Fits x xs f) (all_tail Fits y ys g) (cc) in
    cc
