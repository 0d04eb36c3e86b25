-- The choices of a list, one by one.
use Rattle.std.proofs.Common.{◌≡◌, ℕ, zero, suc, ◌+◌, ◌-◌, ◌<◌, Bool, true, false, ◌==◌, if◌then◌else◌, List, [], ◌∷◌, ◌++◌, get_or, take, length, refl, ap}
use Rattle.std.proofs.Common.{sym, ◌∙◌, arith, append_assoc}
use Rattle.std.proofs.lemmas.Bool.{true≢false}
use Rattle.std.proofs.lemmas.Bool.Decides.{nat_tests}
use Rattle.std.proofs.lemmas.List.{take_more, take_all}
use Rattle.wam_code.specs.declared.instruction.Code.{Code}
use Rattle.wam_code.specs.declared.instruction.Code.TheVariants.{Jump, FailNow, Try, Retry, Trust}
use Rattle.clause_code.specs.ClauseChoices.{rest_of_list, list_of}
use Rattle.clause_compiler.specs.Listing.{listed_at}

if_no : {A : Type 0} (b : Bool) (x y : A) → b ≡ false → (if b then x else y) ≡ y
if_no true x y e = absurd (true≢false e)
if_no false x y e = refl

rest_long : (l : ℕ) (ls : List ℕ) → length (rest_of_list (l ∷ ls)) ≡ suc (length ls)
rest_long l [] = refl
rest_long l (k ∷ ls) = ap suc (rest_long k ls)

pub list_long : (l : ℕ) (ls : List ℕ) → length (list_of (l ∷ ls)) ≡ suc (length ls)
list_long l [] = refl
list_long l (k ∷ ls) = ap suc (rest_long k ls)

abbrev rest_at : ℕ → ℕ → Code
rest_at left c = if left == 1 then Trust c else Retry c

rest_get : (l : ℕ) (ls : List ℕ) (i : ℕ) → i < suc (length ls) → get_or (rest_of_list (l ∷ ls)) i FailNow ≡ rest_at (suc (length ls) - i) (get_or (l ∷ ls) i 0)
rest_get l [] zero h = refl
rest_get l [] (suc i) h = absurd (omega (arith, h))
rest_get l (k ∷ ls) zero h = sym (if_no (suc (suc (length ls)) - 0 == 1) (Trust l) (Retry l) (grind (arith, nat_tests)))
rest_get l (k ∷ ls) (suc i) h = rest_get k ls i (omega (arith, h)) ∙ ap (λ n. rest_at n (get_or (k ∷ ls) i 0)) (let e : suc (length ls) - i ≡ suc (suc (length ls)) - suc i = omega arith in e)

pub list_get : (ls : List ℕ) (i : ℕ) → i < length ls → get_or (list_of ls) i FailNow ≡ listed_at (length ls) i (get_or ls i 0)
list_get [] i h = absurd (omega (arith, h))
list_get (l ∷ []) zero h = refl
list_get (l ∷ []) (suc i) h = absurd (omega (arith, h))
list_get (l ∷ k ∷ ls) zero h = sym (if_no (suc (suc (length ls)) == 1) (Jump l) (Try l) (grind (arith, nat_tests)))
list_get (l ∷ k ∷ ls) (suc i) h =
    rest_get k ls i (omega (arith, h))
    ∙ ap (λ n. rest_at n (get_or (k ∷ ls) i 0)) (let e : suc (length ls) - i ≡ suc (suc (length ls)) - suc i = omega arith in e)
    ∙ sym (if_no (suc i == 0) (Try (get_or (k ∷ ls) i 0)) (rest_at (suc (suc (length ls)) - suc i) (get_or (k ∷ ls) i 0)) (grind (arith, nat_tests)))
    ∙ sym (if_no (suc (suc (length ls)) == 1) (Jump (get_or (k ∷ ls) i 0))
    (if suc i == 0 then Try (get_or (k ∷ ls) i 0) else rest_at (suc (suc (length ls)) - suc i) (get_or (k ∷ ls) i 0)) (grind (arith, nat_tests)))

-- one more of them
pub list_more : (ls : List ℕ) (i : ℕ) (old is js : List Code) (c : Code) → i < length ls → is ≡ old ++ take i (list_of ls)
    → c ≡ listed_at (length ls) i (get_or ls i 0) → js ≡ is ++ c ∷ [] → js ≡ old ++ take (i + 1) (list_of ls)
list_more [] i old is js c h e f g = absurd (omega (arith, h))
list_more (l ∷ ls) i old is js c h e f g =
    let long = list_long l ls in
    let more = take_more (list_of (l ∷ ls)) i FailNow (omega (arith, h, long)) in
    g ∙ ap (λ xs. xs ++ c ∷ []) e ∙ append_assoc old (take i (list_of (l ∷ ls))) (c ∷ [])
    ∙ ap (λ x. old ++ (take i (list_of (l ∷ ls)) ++ x ∷ [])) (f ∙ sym (list_get (l ∷ ls) i h)) ∙ ap (λ xs. old ++ xs) (sym more)

pub list_whole : (ls : List ℕ) (i : ℕ) (old is : List Code) → 0 < length ls → i ≡ length ls → is ≡ old ++ take i (list_of ls) → is ≡ old ++ list_of ls
list_whole [] i old is h e f = absurd (omega (arith, h))
list_whole (l ∷ ls) i old is h e f = let long = list_long l ls in f ∙ ap (λ xs. old ++ xs) (take_all i (list_of (l ∷ ls)) (omega (arith, e, long)))
