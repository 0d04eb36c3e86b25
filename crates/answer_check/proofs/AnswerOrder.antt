-- The order of answers, and the rows in which they are kept.
use Rattle.std.proofs.Common.{◌≡◌, ℕ, zero, suc, ◌+◌, ◌*◌, ◌<◌, ◌≤◌, List, [], ◌∷◌, ◌++◌, map, length, take, drop, get_or, Option, Some, None, refl, sym, ap}
use Rattle.std.proofs.Common.{◌∙◌, subst, inl, inr, ◌⊎◌, arith}
use Rattle.std.specs.Prelude.{All}
use Rattle.std.proofs.lemmas.List.{drop-drop}
use Rattle.std.proofs.lemmas.List.Elements.{All-nil, All-cons, All-head, All-tail}
use Rattle.std.proofs.Math.Seq.{take-append_seam, drop-append_seam}
use Rattle.fd_model.specs.Answers.{Precedes}
use Rattle.answer_check.specs.AnswerLines.{assigned}
use Rattle.answer_check.specs.Judgement.{values_of, order_by, IsFirstFalling, IsRisingBy}
use Rattle.answer_check.specs.Reports.{IsFalling}
use Rattle.answer_check.specs.Rows.{all_values, AreRows}

-- ---- lexicographic order

module _ (f g : ℕ → ℕ) where
  same_not : (xs : List ℕ) → map f xs ≡ map g xs → Precedes (map f xs) (map g xs) → ⊥
  same_not [] e h = h
  same_not (x ∷ xs) e h =
      let one : f x ≡ g x = cc in
      let others : map f xs ≡ map g xs = cc in
      elim h [ inl l ↦ omega (arith, l, one) | inr r ↦ same_not xs others r.1 ]

  differ_to : (xs : List ℕ) (i : ℕ) → i < length xs → map f (take i xs) ≡ map g (take i xs) → f (get_or xs i 0) < g (get_or xs i 0) → Precedes (map f xs) (map g xs)
  differ_to [] i l e h = absurd (omega arith)
  differ_to (x ∷ xs) zero l e h = inl h
  differ_to (x ∷ xs) (suc i) l e h =
      let one : f x ≡ g x = cc in
      let others : map f (take i xs) ≡ map g (take i xs) = cc in
      inr (one, differ_to xs i (omega (arith, l)) others h)

  differ_from : (xs : List ℕ) (i : ℕ) → i < length xs → map f (take i xs) ≡ map g (take i xs) → (f (get_or xs i 0) ≡ g (get_or xs i 0) → ⊥)
      → Precedes (map f xs) (map g xs) → f (get_or xs i 0) < g (get_or xs i 0)
  differ_from [] i l e n h = absurd h
  differ_from (x ∷ xs) zero l e n h = elim h [ inl k ↦ k | inr r ↦ absurd (n r.0) ]
  differ_from (x ∷ xs) (suc i) l e n h =
      let one : f x ≡ g x = cc in
      let others : map f (take i xs) ≡ map g (take i xs) = cc in
      elim h [ inl k ↦ absurd (omega (arith, k, one)) | inr r ↦ differ_from xs i (omega (arith, l)) others n r.1 ]

pub none_precedes : (xs ns ms : List ℕ) → values_of xs ns ≡ values_of xs ms → Precedes (values_of xs ns) (values_of xs ms) → ⊥
none_precedes xs ns ms e h = same_not (assigned ns) (assigned ms) xs e h

pub precedes_to : (xs ns ms : List ℕ) (i : ℕ) → i < length xs → values_of (take i xs) ns ≡ values_of (take i xs) ms
    → assigned ns (get_or xs i 0) < assigned ms (get_or xs i 0) → Precedes (values_of xs ns) (values_of xs ms)
precedes_to xs ns ms i l e h = differ_to (assigned ns) (assigned ms) xs i l e h

pub precedes_from : (xs ns ms : List ℕ) (i : ℕ) → i < length xs → values_of (take i xs) ns ≡ values_of (take i xs) ms
    → (assigned ns (get_or xs i 0) ≡ assigned ms (get_or xs i 0) → ⊥) → Precedes (values_of xs ns) (values_of xs ms)
    → assigned ns (get_or xs i 0) < assigned ms (get_or xs i 0)
precedes_from xs ns ms i l e n h = differ_from (assigned ns) (assigned ms) xs i l e n h

pub values_more : (xs ns ms : List ℕ) (x : ℕ) → values_of xs ns ≡ values_of xs ms → assigned ns x ≡ assigned ms x → values_of (xs ++ x ∷ []) ns ≡ values_of (xs ++ x ∷ []) ms
values_more [] ns ms x e h = ap (λ k. k ∷ []) h
values_more (y ∷ xs) ns ms x e h =
    let one : assigned ns y ≡ assigned ms y = cc in
    let others : values_of xs ns ≡ values_of xs ms = cc in
    ap (λ k. k ∷ values_of (xs ++ x ∷ []) ns) one ∙ ap (λ ks. assigned ms y ∷ ks) (values_more xs ns ms x others h)

-- ---- rows

pub row_at : (n : ℕ) (nss : List (List ℕ)) (k : ℕ) → k < length nss → All (λ ns. length ns ≡ n) nss → take n (drop (k * n) (all_values nss)) ≡ get_or nss k []
row_at n [] k l h = absurd (omega arith)
row_at n (ns ∷ nss) zero l h =
    let e : length ns ≡ n = All-head (λ ms. length ms ≡ n) ns nss h in
    let none : 0 * n ≡ 0 = omega arith in
    ap (λ m. take n (drop m (ns ++ all_values nss))) none ∙ ap (λ m. take m (ns ++ all_values nss)) (sym e) ∙ take-append_seam ns (all_values nss)
row_at n (ns ∷ nss) (suc k) l h =
    let e : length ns ≡ n = All-head (λ ms. length ms ≡ n) ns nss h in
    let sum : suc k * n ≡ length ns + k * n = omega (arith, e) in
    ap (λ m. take n (drop m (ns ++ all_values nss))) sum
    ∙ ap (take n) (sym (drop-drop (k * n) (length ns) (ns ++ all_values nss)) ∙ ap (drop (k * n)) (drop-append_seam ns (all_values nss)))
    ∙ row_at n nss k (omega (arith, l)) (All-tail (λ ms. length ms ≡ n) ns nss h)

module _ (n : ℕ) (nss : List (List ℕ)) (values : List ℕ) (count : ℕ) (r : AreRows n nss values count) where
  pub row_is : (variables k : ℕ) (row : List ℕ) → variables ≡ n → k < count → row ≡ take variables (drop (k * variables) values) → row ≡ get_or nss k []
  row_is variables k row e l is =
      is ∙ ap (λ m. take m (drop (k * m) values)) e ∙ ap (λ vs. take n (drop (k * n) vs)) r.values_are
      ∙ row_at n nss k (let c = r.count_is in omega (arith, c, l)) r.lengths

module _ {X : Type 0} (P : X → Type 0) where
  pub all_drop : (i : ℕ) (xs : List X) → All P xs → All P (drop i xs)
  all_drop zero xs h = h
  all_drop (suc i) [] h = All-nil P
  all_drop (suc i) (x ∷ xs) h = all_drop i xs (All-tail P x xs h)

  pub all_take : (i : ℕ) (xs : List X) → All P xs → All P (take i xs)
  all_take zero xs h = All-nil P
  all_take (suc i) [] h = All-nil P
  all_take (suc i) (x ∷ xs) h = All-cons P x (take i xs) (All-head P x xs h) (all_take i xs (All-tail P x xs h))

-- ---- rising answers

-- each of the first k is behind the one before
abbrev pub Rise : List ℕ → List (List ℕ) → ℕ → Type 0
Rise xs nss k = (i : ℕ) → suc i < k → Precedes (values_of xs (get_or nss i [])) (values_of xs (get_or nss (suc i) []))

last_or : (i k : ℕ) → suc i < suc k + 1 → (suc i < suc k) ⊎ (i ≡ k)
last_or zero zero m = inr refl
last_or zero (suc k) m = inl (omega arith)
last_or (suc i) zero m = absurd (omega (arith, m))
last_or (suc i) (suc k) m = elim (last_or i k (omega (arith, m))) [ inl l ↦ inl (omega (arith, l)) | inr e ↦ inr (ap suc e) ]

pub rise_start : (xs : List ℕ) (nss : List (List ℕ)) → Rise xs nss 1
rise_start xs nss i l = absurd (omega (arith, l))

rise_at : (xs : List ℕ) (nss : List (List ℕ)) (j k i : ℕ) → suc j ≡ k → Rise xs nss k
    → Precedes (values_of xs (get_or nss j [])) (values_of xs (get_or nss k [])) → (suc i < suc j) ⊎ (i ≡ j)
    → Precedes (values_of xs (get_or nss i [])) (values_of xs (get_or nss (suc i) []))
rise_at xs nss j k i e h p (inl m) = h i (omega (arith, m, e))
rise_at xs nss j k i e h p (inr f) = subst (λ n. Precedes (values_of xs (get_or nss n [])) (values_of xs (get_or nss (suc n) []))) (sym f)
    (subst (λ n. Precedes (values_of xs (get_or nss j [])) (values_of xs (get_or nss n []))) (sym e) p)

pub rise_more : (xs : List ℕ) (nss : List (List ℕ)) (j k : ℕ) → suc j ≡ k → Rise xs nss k → Precedes (values_of xs (get_or nss j [])) (values_of xs (get_or nss k [])) → Rise xs nss (k + 1)
rise_more xs nss j k e h p = λ i m. rise_at xs nss j k i e h p (last_or i j (omega (arith, e, m)))

later_rise : (xs ns ms : List ℕ) (nss : List (List ℕ)) (k : ℕ) → Rise xs (ns ∷ ms ∷ nss) (suc k) → Rise xs (ms ∷ nss) k
later_rise xs ns ms nss k h i l = h (suc i) (omega (arith, l))

all_rise : (xs ns : List ℕ) (nss : List (List ℕ)) (n : ℕ) → Rise xs (ns ∷ nss) (suc (length nss)) → IsFirstFalling xs ns n nss None
all_rise xs ns [] n h = refl
all_rise xs ns (ms ∷ nss) n h = inl (h 0 (omega arith), all_rise xs ms nss (suc n) (later_rise xs ns ms nss (suc (length nss)) h))

pub none_falling : (xs : List ℕ) (nss : List (List ℕ)) (k : ℕ) → length nss ≤ k → Rise xs nss k → IsFalling xs nss None
none_falling xs [] k l h = refl
none_falling xs (ns ∷ nss) k l h = all_rise xs ns nss 2 (λ i m. h i (omega (arith, l, m)))

falls_at : (xs ns : List ℕ) (nss : List (List ℕ)) (n k : ℕ) → k < length nss → Rise xs (ns ∷ nss) (suc k)
    → (Precedes (values_of xs (get_or (ns ∷ nss) k [])) (values_of xs (get_or nss k [])) → ⊥) → IsFirstFalling xs ns n nss (Some (n + k))
falls_at xs ns [] n k l h p = absurd (omega arith)
falls_at xs ns (ms ∷ nss) n zero l h p = inr (p, (let e : n + 0 ≡ n = omega arith in ap Some e))
falls_at xs ns (ms ∷ nss) n (suc k) l h p =
    let e : n + suc k ≡ suc n + k = omega arith in
    inl (h 0 (omega arith), subst (λ j. IsFirstFalling xs ms (suc n) nss (Some j)) (sym e) (falls_at xs ms nss (suc n) k (omega (arith, l)) (later_rise xs ns ms nss (suc k) h) p))

pub falling_at : (xs : List ℕ) (nss : List (List ℕ)) (j k : ℕ) → suc j ≡ k → k < length nss → Rise xs nss k
    → (Precedes (values_of xs (get_or nss j [])) (values_of xs (get_or nss k [])) → ⊥) → IsFalling xs nss (Some (k + 1))
falling_at xs [] j k e m h p = absurd (omega (arith, m))
falling_at xs (ns ∷ nss) j k e m h p =
    let n : 2 + j ≡ k + 1 = omega (arith, e) in
    subst (λ i. IsFirstFalling xs ns 2 nss (Some i)) n
    (falls_at xs ns nss 2 j (omega (arith, m, e)) (subst (Rise xs (ns ∷ nss)) (sym e) h)
    (λ q. p (subst (λ i. Precedes (values_of xs (get_or (ns ∷ nss) j [])) (values_of xs (get_or (ns ∷ nss) i []))) e q)))

pub rising_by : (xs : List ℕ) (nss : List (List ℕ)) (o : Option ℕ) → IsFalling xs nss o → IsRisingBy xs nss (order_by o)
rising_by xs [] o h = ap order_by h
rising_by xs (ns ∷ nss) o h = (o, h, refl)
