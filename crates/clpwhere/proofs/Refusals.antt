-- A line tells a refusal exactly where it is spelled as one.
use Rattle.std.proofs.Common.{◌≡◌, ℕ, ◌<◌, ◌≤◌, ◌^◌, Bool, true, false, cond, List, ◌∷◌, ◌++◌, length, take, drop, get_or, codes, decimal, Option, Some, None}
use Rattle.std.proofs.Common.{refl, sym, ap, ◌∙◌, subst, arith, take-append-drop, length-take-le}
use Rattle.std.specs.Prelude.{◌==◌, ◌&&◌, nat_eq, nat_le, option_map, option_and_then}
use Rattle.std.specs.List.{before_first, position_or_len, starts_with}
use Rattle.std.specs.Str.{bytes_eq}
use Rattle.std.specs.Str.Parse.{digits_value}
use Rattle.std.proofs.Math.Seq.{drop-append_seam, take-append_seam, get_or-append_seam}
use Rattle.std.proofs.lemmas.Bool.{leb-true}
use Rattle.std.proofs.lemmas.Bool.Decides.{nat_tests}
use Rattle.std.proofs.lemmas.Fmt.{decimal_is_IsNumeral}
use Rattle.std.proofs.lemmas.List.{get_or_append_left, length-append}
use Rattle.std.proofs.lemmas.List.Sums.{position_or_len_is, prefix_len-le-length}
use Rattle.std.proofs.lemmas.Slice.Eq.{bytes_eq-Decides}
use Rattle.std.proofs.lemmas.Str.Parse.{digit_at}
use Rattle.std.proofs.lemmas.Option.{same_Some}
use Rattle.clpwhere.proofs.PlaceWords.{small}
use Rattle.clpwhere.specs.declared.reason.Reason.{Reason}
use Rattle.clpwhere.specs.Reasons.{reason_of}
use Rattle.clpwhere.specs.Numbers.{behind, last_place, place_in}
use Rattle.clpwhere.specs.Refusals.{Refusal, Tells, refusal_by, refusal_in, refusal_line, refusal_of}

-- ---- options

then_is : {A B : Type 0} (f : A → Option B) (o : Option A) (y : B) → option_and_then f o ≡ Some y → (x : A) × (o ≡ Some x) × (f x ≡ Some y)
then_is f None y e = absurd (cc (e))
then_is f (Some x) y e = (x, refl, e)

map_is : {A B : Type 0} (f : A → B) (o : Option A) (y : B) → option_map f o ≡ Some y → (x : A) × (o ≡ Some x) × (f x ≡ y)
map_is f None y e = absurd (cc (e))
map_is f (Some x) y e = (x, refl, same_Some (f x) y e)

-- ---- what stands behind a front

behind_is : (front bytes rest : List ℕ) → behind front bytes ≡ Some rest → bytes ≡ front ++ rest
behind_is front bytes rest e = go (starts_with nat_eq bytes front) refl e
  where
    go : (t : Bool) → starts_with nat_eq bytes front ≡ t → cond t (Some (drop (length front) bytes)) None ≡ Some rest → bytes ≡ front ++ rest
    go true s f =
        let head : take (length front) bytes ≡ front = sym ((bytes_eq-Decides front (take (length front) bytes)).0 s) in
        sym (take-append-drop (length front) bytes) ∙ ap (λ t. t ++ drop (length front) bytes) head ∙ ap (λ t. front ++ t) (same_Some (drop (length front) bytes) rest f)
    go false s f = absurd (cc (f))

behind_of : (front rest : List ℕ) → behind front (front ++ rest) ≡ Some rest
behind_of front rest =
    let t : starts_with nat_eq (front ++ rest) front ≡ true = (bytes_eq-Decides front (take (length front) (front ++ rest))).1 (sym (take-append_seam front rest)) in
    ap (λ b. cond b (Some (drop (length front) (front ++ rest))) None) t ∙ ap Some (drop-append_seam front rest)

-- ---- places

place_is : (bs : List ℕ) (n : ℕ) → place_in bs ≡ Some n → (bs ≡ decimal n) × (n ≤ last_place)
place_is bs n e = go (bytes_eq (decimal v) bs) (nat_le v last_place) refl refl e
  where
    v : ℕ
    v = digits_value 10 bs

    go : (a b : Bool) → bytes_eq (decimal v) bs ≡ a → nat_le v last_place ≡ b → cond (a && b) (Some v) None ≡ Some n → (bs ≡ decimal n) × (n ≤ last_place)
    go false b s l f = absurd (cc (f))
    go true false s l f = absurd (cc (f))
    go true true s l f =
        let same : v ≡ n = same_Some v n f in
        (sym ((bytes_eq-Decides (decimal v) bs).0 s) ∙ ap decimal same, subst (λ k. k ≤ last_place) same (leb-true v last_place l))

within : (n : ℕ) → n ≤ last_place → nat_le n last_place ≡ true
within n l = grind (arith, nat_tests)

place_of : (n : ℕ) → n ≤ last_place → place_in (decimal n) ≡ Some n
place_of n l =
    ap (λ v. cond (bytes_eq (decimal v) (decimal n) && nat_le v last_place) (Some v) None) (decimal_is_IsNumeral n (small n l)).1
    ∙ ap (λ b. cond (b && nat_le n last_place) (Some n) None) ((bytes_eq-Decides (decimal n) (decimal n)).1 refl) ∙ ap (λ b. cond b (Some n) None) (within n l)

-- ---- the digits in front of a colon

abbrev digits_of : List ℕ → List ℕ
digits_of rest = before_first (λ b. b == 58) rest

no_colon : (c : ℕ) → c ≤ 57 → (c == 58) ≡ false
no_colon c l = grind (arith, nat_tests)

digits_before : (n : ℕ) (ws : List ℕ) → n < 2 ^ 64 → digits_of (decimal n ++ 58 ∷ ws) ≡ decimal n
digits_before n ws l =
    let ds = decimal n in
    let xs = ds ++ 58 ∷ ws in
    let all = (decimal_is_IsNumeral n l).0.1 in
    let len : length ds ≤ length xs = omega (arith, length-append ds (58 ∷ ws)) in
    let at : position_or_len (λ b. b == 58) xs ≡ length ds = position_or_len_is (λ b. b == 58) xs (length ds) 0 len
    (λ k h. ap (λ x. x == 58) (get_or_append_left ds (58 ∷ ws) 0 k h) ∙ no_colon (get_or ds k 0) (digit_at ds k all h).1)
    (λ h. ap (λ x. x == 58) (get_or-append_seam ds 58 ws 0)) in
    ap (λ k. take k xs) at ∙ take-append_seam ds (58 ∷ ws)

digits_and_rest : (rest : List ℕ) → digits_of rest ++ drop (length (digits_of rest)) rest ≡ rest
digits_and_rest rest =
    let k = position_or_len (λ b. b == 58) rest in
    let len : length (take k rest) ≡ k = length-take-le k rest (prefix_len-le-length _ rest) in
    ap (λ n. take k rest ++ drop n rest) len ∙ take-append-drop k rest

-- ---- refusals

told_of : (line : List ℕ) (r : Refusal) → Tells line r → refusal_of line ≡ Some r
told_of line r t =
    let p = r.place in
    let w = r.words in
    let rest = decimal p ++ (codes ": " ++ w) in
    let F = λ (digits : List ℕ). option_and_then (λ (place : ℕ). option_and_then (λ (words : List ℕ). refusal_by place words (reason_of words))
    (behind (codes ": ") (drop (length digits) rest))) (place_in digits) in
    let digits : refusal_in rest ≡ F (decimal p) = ap F (digits_before p (32 ∷ w) (small p t.within)) in
    let place = ap (option_and_then (λ (place : ℕ). option_and_then (λ (words : List ℕ). refusal_by place words (reason_of words))
    (behind (codes ": ") (drop (length (decimal p)) rest)))) (place_of p t.within) in
    let words = ap (λ l. option_and_then (λ (words : List ℕ). refusal_by p words (reason_of words)) (behind (codes ": ") l)) (drop-append_seam (decimal p) (codes ": " ++ w))
    ∙ ap (option_and_then (λ (words : List ℕ). refusal_by p words (reason_of words))) (behind_of (codes ": ") w) in
    ap refusal_of t.bytes ∙ ap (option_and_then refusal_in) (behind_of (codes "refused at ") rest) ∙ digits ∙ place ∙ words ∙ ap (refusal_by p w) t.known

told_is : (line : List ℕ) (r : Refusal) → refusal_of line ≡ Some r → Tells line r
told_is line r e =
    let a = then_is refusal_in (behind (codes "refused at ") line) r e in
    let rest = a.0 in
    let digits = digits_of rest in
    let b = then_is (λ (place : ℕ). option_and_then (λ (words : List ℕ). refusal_by place words (reason_of words)) (behind (codes ": ") (drop (length digits) rest))) (place_in digits) r a.2 in
    let c = then_is (λ (words : List ℕ). refusal_by b.0 words (reason_of words)) (behind (codes ": ") (drop (length digits) rest)) r b.2 in
    let d = map_is (λ (s : Reason). let t : Refusal = record { place = b.0; words = c.0; reason = s } in t) (reason_of c.0) r c.2 in
    let place = place_is digits b.0 b.1 in
    let line_is : line ≡ refusal_line b.0 c.0 =
    behind_is (codes "refused at ") line rest a.1 ∙ ap (λ t. codes "refused at " ++ t)
    (sym (digits_and_rest rest) ∙ ap (λ t. t ++ drop (length digits) rest) place.0
    ∙ ap (λ t. decimal b.0 ++ t) (behind_is (codes ": ") (drop (length digits) rest) c.0 c.1)) in
    subst (Tells line) d.2 (record { bytes = line_is; within = place.1; known = d.1 })

-- a line tells a refusal exactly where one is found in it
pub told : (line : List ℕ) (r : Refusal) → ((refusal_of line ≡ Some r) → Tells line r) × (Tells line r → (refusal_of line ≡ Some r))
told line r = (told_is line r, told_of line r)
