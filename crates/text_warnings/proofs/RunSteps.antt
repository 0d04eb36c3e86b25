-- The items of a list that are the first of their key, and those that come back to an earlier key: one more item, and other names of the keys.
use Rattle.std.proofs.Common.{◌≡◌, Bool, true, false, cond, List, [], ◌∷◌, ◌++◌, map, refl, sym, ap, ap₂, ◌∙◌, append_assoc, append-nil}
use Rattle.std.specs.Prelude.{◌&&◌, ◌||◌, not}
use Rattle.std.specs.List.{AllByRecursion}
use Rattle.std.proofs.lemmas.List.{map-append}
use Rattle.text_warnings.specs.Runs.{is_known, is_front, firsts_behind, resumed_behind, repeated_behind}

module _ {K F : Type 0} (same : F → F → Bool) (key : K → F) where
  -- the keys of all items before, the last one first
  abbrev pub behind : List F → List K → List F
  behind before [] = before
  behind before (k ∷ ks) = behind (key k ∷ before) ks

  pub behind_more : (before : List F) (xs : List K) (k : K) → behind before (xs ++ k ∷ []) ≡ key k ∷ behind before xs
  behind_more before [] k = refl
  behind_more before (x ∷ xs) k = behind_more (key x ∷ before) xs k

  abbrev first_by : List F → K → List K
  first_by before k = cond (is_known same key before (key k)) [] (k ∷ [])

  pub firsts_more : (before : List F) (xs : List K) (k : K) → firsts_behind same key before (xs ++ k ∷ []) ≡ firsts_behind same key before xs ++ first_by (behind before xs) k
  firsts_more before [] k = append-nil (first_by before k)
  firsts_more before (x ∷ xs) k =
      ap (λ (l : List K). first_by before x ++ l) (firsts_more (key x ∷ before) xs k)
      ∙ sym (append_assoc (first_by before x) (firsts_behind same key (key x ∷ before) xs) (first_by (behind (key x ∷ before) xs) k))

  abbrev resumed_by : List F → K → List K
  resumed_by before k = cond (is_known same key before (key k) && not (is_front same key before (key k))) (k ∷ []) []

  pub resumed_more : (before : List F) (xs : List K) (k : K) → resumed_behind same key before (xs ++ k ∷ []) ≡ resumed_behind same key before xs ++ resumed_by (behind before xs) k
  resumed_more before [] k = append-nil (resumed_by before k)
  resumed_more before (x ∷ xs) k =
      ap (λ (l : List K). resumed_by before x ++ l) (resumed_more (key x ∷ before) xs k)
      ∙ sym (append_assoc (resumed_by before x) (resumed_behind same key (key x ∷ before) xs) (resumed_by (behind (key x ∷ before) xs) k))

  abbrev repeated_by : List F → K → List K
  repeated_by before k = cond (is_known same key before (key k)) (k ∷ []) []

  pub repeated_more : (before : List F) (xs : List K) (k : K)
      → repeated_behind same key before (xs ++ k ∷ []) ≡ repeated_behind same key before xs ++ repeated_by (behind before xs) k
  repeated_more before [] k = append-nil (repeated_by before k)
  repeated_more before (x ∷ xs) k =
      ap (λ (l : List K). repeated_by before x ++ l) (repeated_more (key x ∷ before) xs k)
      ∙ sym (append_assoc (repeated_by before x) (repeated_behind same key (key x ∷ before) xs) (repeated_by (behind (key x ∷ before) xs) k))

-- Items under other names, by which two keys are the same where they were.
module _ {K F L G : Type 0} (same : F → F → Bool) (key : K → F) (also : G → G → Bool) (name : L → G) (g : K → L) (h : F → G) (Own : F → Type 0)
    (keys : (k : K) → name (g k) ≡ h (key k)) (tests : (a b : F) → Own a → Own b → same a b ≡ also (h a) (h b)) where
  known_named : (before : List F) (f : F) → Own f → AllByRecursion Own before → is_known same key before f ≡ is_known also name (map h before) (h f)
  known_named [] f o all = refl
  known_named (x ∷ xs) f o all = ap₂ (λ (a b : Bool). a || b) (tests f x o all.0) (known_named xs f o all.1)

  front_named : (before : List F) (f : F) → Own f → AllByRecursion Own before → is_front same key before f ≡ is_front also name (map h before) (h f)
  front_named [] f o all = refl
  front_named (x ∷ xs) f o all = tests f x o all.0

  first_named : (b : Bool) (k : K) → map g (cond b [] (k ∷ [])) ≡ cond b [] (g k ∷ [])
  first_named true k = refl
  first_named false k = refl

  pub firsts_named : (before : List F) (ks : List K) → AllByRecursion Own before → AllByRecursion (λ k. Own (key k)) ks
      → map g (firsts_behind same key before ks) ≡ firsts_behind also name (map h before) (map g ks)
  firsts_named before [] all own = refl
  firsts_named before (k ∷ ks) all own =
      let here : is_known same key before (key k) ≡ is_known also name (map h before) (name (g k)) =
      known_named before (key k) own.0 all ∙ ap (is_known also name (map h before)) (sym (keys k)) in
      let next : map g (firsts_behind same key (key k ∷ before) ks) ≡ firsts_behind also name (name (g k) ∷ map h before) (map g ks) =
      firsts_named (key k ∷ before) ks (own.0, all) own.1 ∙ ap (λ (y : G). firsts_behind also name (y ∷ map h before) (map g ks)) (sym (keys k)) in
      map-append g (cond (is_known same key before (key k)) [] (k ∷ [])) (firsts_behind same key (key k ∷ before) ks)
      ∙ ap₂ (λ (a b : List L). a ++ b) (first_named (is_known same key before (key k)) k ∙ ap (λ (b : Bool). cond b [] (g k ∷ [])) here) next

  resumed_named_by : (b : Bool) (k : K) → map g (cond b (k ∷ []) []) ≡ cond b (g k ∷ []) []
  resumed_named_by true k = refl
  resumed_named_by false k = refl

  pub resumed_named : (before : List F) (ks : List K) → AllByRecursion Own before → AllByRecursion (λ k. Own (key k)) ks
      → map g (resumed_behind same key before ks) ≡ resumed_behind also name (map h before) (map g ks)
  resumed_named before [] all own = refl
  resumed_named before (k ∷ ks) all own =
      let known : is_known same key before (key k) ≡ is_known also name (map h before) (name (g k)) =
      known_named before (key k) own.0 all ∙ ap (is_known also name (map h before)) (sym (keys k)) in
      let front : is_front same key before (key k) ≡ is_front also name (map h before) (name (g k)) =
      front_named before (key k) own.0 all ∙ ap (is_front also name (map h before)) (sym (keys k)) in
      let both = ap₂ (λ (a b : Bool). a && not b) known front in
      let next : map g (resumed_behind same key (key k ∷ before) ks) ≡ resumed_behind also name (name (g k) ∷ map h before) (map g ks) =
      resumed_named (key k ∷ before) ks (own.0, all) own.1 ∙ ap (λ (y : G). resumed_behind also name (y ∷ map h before) (map g ks)) (sym (keys k)) in
      map-append g (cond (is_known same key before (key k) && not (is_front same key before (key k))) (k ∷ []) []) (resumed_behind same key (key k ∷ before) ks)
      ∙ ap₂ (λ (a b : List L). a ++ b) (resumed_named_by (is_known same key before (key k) && not (is_front same key before (key k))) k ∙ ap (λ (b : Bool). cond b (g k ∷ []) []) both) next

  pub repeated_named : (before : List F) (ks : List K) → AllByRecursion Own before → AllByRecursion (λ k. Own (key k)) ks
      → map g (repeated_behind same key before ks) ≡ repeated_behind also name (map h before) (map g ks)
  repeated_named before [] all own = refl
  repeated_named before (k ∷ ks) all own =
      let known : is_known same key before (key k) ≡ is_known also name (map h before) (name (g k)) =
      known_named before (key k) own.0 all ∙ ap (is_known also name (map h before)) (sym (keys k)) in
      let next : map g (repeated_behind same key (key k ∷ before) ks) ≡ repeated_behind also name (name (g k) ∷ map h before) (map g ks) =
      repeated_named (key k ∷ before) ks (own.0, all) own.1 ∙ ap (λ (y : G). repeated_behind also name (y ∷ map h before) (map g ks)) (sym (keys k)) in
      map-append g (cond (is_known same key before (key k)) (k ∷ []) []) (repeated_behind same key (key k ∷ before) ks)
      ∙ ap₂ (λ (a b : List L). a ++ b) (resumed_named_by (is_known same key before (key k)) k ∙ ap (λ (b : Bool). cond b (g k ∷ []) []) known) next

-- What holds of all items holds of the first ones, of those that come back, and of those that are repeated.
module _ {K F : Type 0} (same : F → F → Bool) (key : K → F) (P : K → Type 0) where
  kept_some : (b : Bool) (k : K) (rest : List K) → P k → AllByRecursion P rest → AllByRecursion P (cond b (k ∷ []) [] ++ rest)
  kept_some true k rest own all = (own, all)
  kept_some false k rest own all = all

  kept_others : (b : Bool) (k : K) (rest : List K) → P k → AllByRecursion P rest → AllByRecursion P (cond b [] (k ∷ []) ++ rest)
  kept_others true k rest own all = all
  kept_others false k rest own all = (own, all)

  pub firsts_all : (before : List F) (ks : List K) → AllByRecursion P ks → AllByRecursion P (firsts_behind same key before ks)
  firsts_all before [] all = tt
  firsts_all before (k ∷ ks) all =
      kept_others (is_known same key before (key k)) k (firsts_behind same key (key k ∷ before) ks) all.0 (firsts_all (key k ∷ before) ks all.1)

  pub resumed_all : (before : List F) (ks : List K) → AllByRecursion P ks → AllByRecursion P (resumed_behind same key before ks)
  resumed_all before [] all = tt
  resumed_all before (k ∷ ks) all =
      kept_some (is_known same key before (key k) && not (is_front same key before (key k))) k (resumed_behind same key (key k ∷ before) ks) all.0 (resumed_all (key k ∷ before) ks all.1)

  pub repeated_all : (before : List F) (ks : List K) → AllByRecursion P ks → AllByRecursion P (repeated_behind same key before ks)
  repeated_all before [] all = tt
  repeated_all before (k ∷ ks) all =
      kept_some (is_known same key before (key k)) k (repeated_behind same key (key k ∷ before) ks) all.0 (repeated_all (key k ∷ before) ks all.1)
