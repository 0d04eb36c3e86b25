-- Texts joined one after another.
use Rattle.std.proofs.Common.{◌≡◌, ℕ, suc, ◌+◌, ◌<◌, List, [], ◌∷◌, ◌++◌, refl, ap, sym, ◌∙◌, arith, append_assoc, length, map, take, get_or, slice_get, Some}
use Rattle.std.proofs.Common.{codes, decimal}
use Rattle.std.proofs.lemmas.List.{append-nil, length-map, length-take-le, map_more, take_more}
use Rattle.std.proofs.lemmas.Option.{get_or_from_slice_get}
use Rattle.wam_code.specs.declared.instruction.Code.{Code}
use Rattle.wam_code.specs.Area.{State, Table}
use Rattle.code_listing.specs.Words.{each_behind, between, words, line_bytes}
use Rattle.code_listing.specs.Texts.{separator_at, place_text}
use Rattle.code_listing.specs.Listing.{table_of, places_text, counted}

-- ---- a text more

pub behind_more : (sep : List ℕ) (ts : List (List ℕ)) (u : List ℕ) → each_behind sep (ts ++ u ∷ []) ≡ each_behind sep ts ++ (sep ++ u)
behind_more sep [] u = ap (λ x. sep ++ x) (append-nil u)
behind_more sep (t ∷ ts) u =
    ap (λ x. sep ++ (t ++ x)) (behind_more sep ts u)
    ∙ ap (λ x. sep ++ x) (sym (append_assoc t (each_behind sep ts) (sep ++ u)))
    ∙ sym (append_assoc sep (t ++ each_behind sep ts) (sep ++ u))

pub between_more : (sep : List ℕ) (ts : List (List ℕ)) (u : List ℕ) → between sep (ts ++ u ∷ []) ≡ between sep ts ++ (separator_at (length ts) sep ++ u)
between_more sep [] u = append-nil u
between_more sep (t ∷ ts) u = ap (λ x. t ++ x) (behind_more sep ts u) ∙ sym (append_assoc t (each_behind sep ts) (sep ++ u))

pub lines_append : (ts us : List (List ℕ)) → line_bytes (ts ++ us) ≡ line_bytes ts ++ line_bytes us
lines_append [] us = refl
lines_append (t ∷ ts) us =
    ap (λ x. t ++ (codes "\n" ++ x)) (lines_append ts us)
    ∙ ap (λ x. t ++ x) (sym (append_assoc (codes "\n") (line_bytes ts) (line_bytes us)))
    ∙ sym (append_assoc t (codes "\n" ++ line_bytes ts) (line_bytes us))

-- ---- the steps of loops that join what f makes of a list

module _ {A : Type 0} (f : A → List ℕ) (xs : List A) (i : ℕ) (d : A) (h : i < length xs) where
  pub behind_step : (sep init t0 t1 : List ℕ) → t0 ≡ init ++ each_behind sep (map f (take i xs)) → t1 ≡ t0 ++ (sep ++ f (get_or xs i d)) → t1 ≡ init ++ each_behind sep (map f (take (i + 1) xs))
  behind_step sep init t0 t1 e g =
      g ∙ ap (λ x. x ++ (sep ++ f (get_or xs i d))) e ∙ append_assoc init (each_behind sep (map f (take i xs))) (sep ++ f (get_or xs i d))
      ∙ ap (λ x. init ++ x) (sym (behind_more sep (map f (take i xs)) (f (get_or xs i d))) ∙ ap (each_behind sep) (sym (map_more f xs i d h)))

  pub lines_step : (init t0 t1 : List ℕ) → t0 ≡ init ++ line_bytes (map f (take i xs)) → t1 ≡ t0 ++ (f (get_or xs i d) ++ codes "\n") → t1 ≡ init ++ line_bytes (map f (take (i + 1) xs))
  lines_step init t0 t1 e g =
      g ∙ ap (λ x. x ++ (f (get_or xs i d) ++ codes "\n")) e ∙ append_assoc init (line_bytes (map f (take i xs))) (f (get_or xs i d) ++ codes "\n")
      ∙ ap (λ x. init ++ x) (sym (lines_append (map f (take i xs)) (f (get_or xs i d) ∷ [])) ∙ ap line_bytes (sym (map_more f xs i d h)))

  pub between_step : (sep init t0 t1 t2 : List ℕ) → t0 ≡ init ++ between sep (map f (take i xs)) → t1 ≡ t0 ++ separator_at i sep → t2 ≡ t1 ++ f (get_or xs i d)
      → t2 ≡ init ++ between sep (map f (take (i + 1) xs))
  between_step sep init t0 t1 t2 e g k =
      let n : length (map f (take i xs)) ≡ i = length-map (take i xs) f ∙ length-take-le i xs (omega (arith, h)) in
      let here = f (get_or xs i d) in
      k ∙ ap (λ x. x ++ here) (g ∙ ap (λ x. x ++ separator_at i sep) e)
      ∙ append_assoc (init ++ between sep (map f (take i xs))) (separator_at i sep) here
      ∙ append_assoc init (between sep (map f (take i xs))) (separator_at i sep ++ here)
      ∙ ap (λ m. init ++ (between sep (map f (take i xs)) ++ (separator_at m sep ++ here))) (sym n)
      ∙ ap (λ x. init ++ x) (sym (between_more sep (map f (take i xs)) here) ∙ ap (between sep) (sym (map_more f xs i d h)))

-- letters, one after the other
pub letters_step : {A : Type 0} (f : A → ℕ) (xs : List A) (i : ℕ) (d : A) (init t0 t1 : List ℕ) → i < length xs → t0 ≡ init ++ map f (take i xs)
    → t1 ≡ t0 ++ f (get_or xs i d) ∷ [] → t1 ≡ init ++ map f (take (i + 1) xs)
letters_step f xs i d init t0 t1 h e g =
    g ∙ ap (λ x. x ++ f (get_or xs i d) ∷ []) e ∙ append_assoc init (map f (take i xs)) (f (get_or xs i d) ∷ [])
    ∙ ap (λ x. init ++ x) (sym (map_more f xs i d h))

-- ---- places

pub places_more : (ts : List Table) (ss : List State) (is : List Code) (s : State) (i : Code) → length ss ≡ length is
    → places_text ts (ss ++ s ∷ []) (is ++ i ∷ []) ≡ places_text ts ss is ++ place_text (table_of ts i) s i ∷ []
places_more ts [] [] s i e = refl
places_more ts [] (j ∷ is) s i e = absurd (omega (arith, e))
places_more ts (t ∷ ss) [] s i e = absurd (omega (arith, e))
places_more ts (t ∷ ss) (j ∷ is) s i e = ap (λ (l : List (List ℕ)). place_text (table_of ts j) t j ∷ l) (places_more ts ss is s i (omega (arith, e)))

pub places_step : {A : Type 0} (f : A → State) (ts : List Table) (xs : List A) (is : List Code) (n : ℕ) (x : A) (i : Code) (init t0 t1 : List ℕ) → n < length xs
    → length xs ≡ length is → slice_get is n ≡ Some i
    → t0 ≡ init ++ line_bytes (places_text ts (map f (take n xs)) (take n is)) → t1 ≡ t0 ++ (place_text (table_of ts i) (f (get_or xs n x)) i ++ codes "\n")
    → t1 ≡ init ++ line_bytes (places_text ts (map f (take (n + 1) xs)) (take (n + 1) is))
places_step f ts xs is n x i init t0 t1 h size there e g =
    let before = places_text ts (map f (take n xs)) (take n is) in
    let here = place_text (table_of ts i) (f (get_or xs n x)) i in
    let short : length (map f (take n xs)) ≡ n = length-map (take n xs) f ∙ length-take-le n xs (omega (arith, h)) in
    let long : length (take n is) ≡ n = length-take-le n is (omega (arith, h, size)) in
    let code : take (n + 1) is ≡ take n is ++ i ∷ [] = take_more is n i (omega (arith, h, size)) ∙ ap (λ c. take n is ++ c ∷ []) (get_or_from_slice_get is n i i there) in
    let both : places_text ts (map f (take (n + 1) xs)) (take (n + 1) is) ≡ before ++ here ∷ [] =
    ap (λ (l : List State). places_text ts l (take (n + 1) is)) (map_more f xs n x h) ∙ ap (λ (l : List Code). places_text ts (map f (take n xs) ++ f (get_or xs n x) ∷ []) l) code
    ∙ places_more ts (map f (take n xs)) (take n is) (f (get_or xs n x)) i (short ∙ sym long) in
    g ∙ ap (λ y. y ++ (here ++ codes "\n")) e ∙ append_assoc init (line_bytes before) (here ++ codes "\n")
    ∙ ap (λ y. init ++ y) (sym (lines_append before (here ∷ [])) ∙ ap line_bytes (sym both))

pub places_count : (ts : List Table) (ss : List State) (is : List Code) → length ss ≡ length is → length (places_text ts ss is) ≡ length ss
places_count ts [] is e = refl
places_count ts (s ∷ ss) [] e = absurd (omega (arith, e))
places_count ts (s ∷ ss) (i ∷ is) e = ap suc (places_count ts ss is (omega (arith, e)))

-- ---- lines behind their count

pub counted_done : (name old t0 t1 : List ℕ) (n : ℕ) (ts : List (List ℕ)) → n ≡ length ts → t0 ≡ old ++ line_bytes (words (name ∷ decimal n ∷ []) ∷ [])
    → t1 ≡ t0 ++ line_bytes ts → t1 ≡ old ++ line_bytes (counted name ts)
counted_done name old t0 t1 n ts size e g =
    let head = words (name ∷ decimal n ∷ []) in
    g ∙ ap (λ x. x ++ line_bytes ts) e ∙ append_assoc old (line_bytes (head ∷ [])) (line_bytes ts)
    ∙ ap (λ x. old ++ x) (sym (lines_append (head ∷ []) ts))
    ∙ ap (λ (k : ℕ). old ++ line_bytes (words (name ∷ decimal k ∷ []) ∷ ts)) size

-- ---- six groups of lines

pub six_groups : (old t0 t1 t2 t3 t4 t5 : List ℕ) (h a b c d e : List (List ℕ)) → t0 ≡ old ++ line_bytes h → t1 ≡ t0 ++ line_bytes a → t2 ≡ t1 ++ line_bytes b
    → t3 ≡ t2 ++ line_bytes c → t4 ≡ t3 ++ line_bytes d → t5 ≡ t4 ++ line_bytes e
    → t5 ≡ old ++ line_bytes (h ++ (a ++ (b ++ (c ++ (d ++ e)))))
six_groups old t0 t1 t2 t3 t4 t5 h a b c d e f0 f1 f2 f3 f4 f5 =
    two old t0 t5 h (a ++ (b ++ (c ++ (d ++ e)))) f0 (
    two t0 t1 t5 a (b ++ (c ++ (d ++ e))) f1 (
    two t1 t2 t5 b (c ++ (d ++ e)) f2 (
    two t2 t3 t5 c (d ++ e) f3 (
    two t3 t4 t5 d e f4 f5))))
  where
    two : (s0 s1 s2 : List ℕ) (x y : List (List ℕ)) → s1 ≡ s0 ++ line_bytes x → s2 ≡ s1 ++ line_bytes y → s2 ≡ s0 ++ line_bytes (x ++ y)
    two s0 s1 s2 x y f g = g ∙ ap (λ z. z ++ line_bytes y) f ∙ append_assoc s0 (line_bytes x) (line_bytes y) ∙ ap (λ z. s0 ++ z) (sym (lines_append x y))
