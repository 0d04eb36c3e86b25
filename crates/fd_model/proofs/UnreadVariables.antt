-- A change of a set that a range doesn't read leaves the range's set.
use Rattle.std.proofs.Common.{◌≡◌, ℕ, ◌≤◌, Bool, true, false, cond, ◌||◌, ◌&&◌, not, ◌==◌, List, [], ◌∷◌, ◌++◌, filter, length, refl, ap, sym, ◌∙◌, subst, inl}
use Rattle.std.proofs.Common.{inr, arith, eqb-true, eq-eqb, pos, ℤ, ◌+ℤ◌, ◌-ℤ◌, ◌*ℤ◌}
use Rattle.std.proofs.lemmas.Bool.{or_cases, or_left, or_right, cases_Bool, eqb-false, true≢false, or_parts, not-false}
use mathlib.Core.Path.{fun_ext}
use Rattle.std.specs.List.{list_any}
use Rattle.std.specs.Ordering.{int_eq}
use Rattle.fd_language.specs.declared.range_node.Feature.{Feature}
use Rattle.fd_language.specs.declared.range_node.Feature.TheVariants as feature
use Rattle.fd_language.specs.Family.{Family, has, universe}
use Rattle.fd_language.specs.Features.{expr_features, range_features}
use Rattle.fd_language.specs.Range.{Range, Span, One, Dom, Union, Inter, Outside, Plus, Minus, Times, Over, Expr, Number, Infinity, Param, Min, Max, Val, Add}
use Rattle.fd_language.specs.Range.{Sub, Mul, DivDown, DivUp, least, greatest, some_number, value, in_range, set_of, reads, vals, is_none_left, is_several}
use Rattle.fd_language.specs.Lists.{Each}
use Rattle.fd_language.proofs.Lemmas.{each_before, each_after, vals_of, vals_of_features}
use Rattle.fd_model.specs.Changes.{is_changed, sees_change}

-- what is read of two sets is the same
abbrev pub Same : Feature → List ℕ → List ℕ → Type 0
Same feature.Min xs ys = least xs ≡ least ys
Same feature.Max xs ys = greatest xs ≡ greatest ys
Same feature.Val xs ys = xs ≡ ys
Same feature.Dom xs ys = xs ≡ ys

abbrev pub AllSame : Family → Family → List (ℕ × Feature) → Type 0
AllSame S T ds = Each (λ d. Same d.1 (S d.0) (T d.0)) ds

moved : (M : ℕ) (g : ℤ → ℕ → Bool) (p q : ℕ → Bool) (v w : ℤ) → p ≡ q → v ≡ w → some_number M (λ e. p e && g v e) ≡ some_number M (λ e. q e && g w e)
moved M g p q v w e f = ap (λ (t : ℕ → Bool). some_number M (λ k. t k && g v k)) e ∙ ap (λ u. some_number M (λ k. q k && g u k)) f

module _ (M : ℕ) (S T : Family) where
  split : (ds es : List (ℕ × Feature)) → AllSame S T (ds ++ es) → AllSame S T ds × AllSame S T es
  split ds es h = (each_before (λ d. Same d.1 (S d.0) (T d.0)) ds es h, each_after (λ d. Same d.1 (S d.0) (T d.0)) ds es h)

  same_value : (e : Expr) → AllSame S T (expr_features e) → value M S e ≡ value M T e
  same_value (Number n) h = refl
  same_value Infinity h = refl
  same_value (Param x) h = refl
  same_value (Min y) h = ap pos h.0
  same_value (Max y) h = ap pos h.0
  same_value (Val y) h = ap (λ l. pos (least l)) h.0
  same_value (Add a b) h = let k = split (expr_features a) (expr_features b) h in let i = same_value a k.0 in let j = same_value b k.1 in cc
  same_value (Sub a b) h = let k = split (expr_features a) (expr_features b) h in let i = same_value a k.0 in let j = same_value b k.1 in cc
  same_value (Mul a b) h = let k = split (expr_features a) (expr_features b) h in let i = same_value a k.0 in let j = same_value b k.1 in cc
  same_value (DivDown a b) h = let k = split (expr_features a) (expr_features b) h in let i = same_value a k.0 in let j = same_value b k.1 in cc
  same_value (DivUp a b) h = let k = split (expr_features a) (expr_features b) h in let i = same_value a k.0 in let j = same_value b k.1 in cc

  same_range : (r : Range) (n : ℕ) → AllSame S T (range_features r) → in_range M S r n ≡ in_range M T r n
  same_range (Span a b) n h = let k = split (expr_features a) (expr_features b) h in let i = same_value a k.0 in let j = same_value b k.1 in cc
  same_range (One t) n h = let i = same_value t h in cc
  same_range (Dom y) n h = ap (λ l. has l n) h.0
  same_range (Union r q) n h = let k = split (range_features r) (range_features q) h in let i = same_range r n k.0 in let j = same_range q n k.1 in cc
  same_range (Inter r q) n h = let k = split (range_features r) (range_features q) h in let i = same_range r n k.0 in let j = same_range q n k.1 in cc
  same_range (Outside r) n h = ap not (same_range r n h)
  same_range (Plus r c) n h = let k = split (range_features r) (expr_features c) h in
      moved M (λ v e. int_eq (pos e +ℤ v) (pos n)) (in_range M S r) (in_range M T r) (value M S c) (value M T c) (fun_ext (λ e. same_range r e k.0))
      (same_value c k.1)
  same_range (Minus r c) n h = let k = split (range_features r) (expr_features c) h in
      moved M (λ v e. int_eq (pos e -ℤ v) (pos n)) (in_range M S r) (in_range M T r) (value M S c) (value M T c) (fun_ext (λ e. same_range r e k.0))
      (same_value c k.1)
  same_range (Times r c) n h = let k = split (range_features r) (expr_features c) h in
      moved M (λ v e. int_eq (pos e *ℤ v) (pos n)) (in_range M S r) (in_range M T r) (value M S c) (value M T c) (fun_ext (λ e. same_range r e k.0))
      (same_value c k.1)
  same_range (Over r c) n h = let k = split (range_features r) (expr_features c) h in
      moved M (λ v e. int_eq (pos n *ℤ v) (pos e)) (in_range M S r) (in_range M T r) (value M S c) (value M T c) (fun_ext (λ e. same_range r e k.0))
      (same_value c k.1)

several_same : (S T : Family) (ds : List (ℕ × Feature)) → AllSame S T ds → list_any (λ y. is_several (S y)) (vals_of ds) ≡ list_any (λ y. is_several (T y)) (vals_of ds)
several_same S T [] h = refl
several_same S T ((y, feature.Val) ∷ ds) h = let later = several_same S T ds h.1 in let first = ap is_several h.0 in cc
several_same S T ((y, feature.Min) ∷ ds) h = several_same S T ds h.1
several_same S T ((y, feature.Max) ∷ ds) h = several_same S T ds h.1
several_same S T ((y, feature.Dom) ∷ ds) h = several_same S T ds h.1

any_at : (S : Family) (x : ℕ) (ys : List ℕ) → has ys x ≡ true → is_several (S x) ≡ true → list_any (λ y. is_several (S y)) ys ≡ true
any_at S x [] h s = absurd (true≢false (sym h))
any_at S x (y ∷ ys) h s = elim (or_cases (y == x) (has ys x) h) [
  | inl e ↦ or_left (is_several (S y)) _ (subst (λ z. is_several (S z) ≡ true) (sym (eqb-true y x e)) s)
  | inr e ↦ or_right (is_several (S y)) _ (any_at S x ys e s)
]

-- the test of one number, where the sets are empty alike
pub same_set : (M : ℕ) (S T : Family) (r : Range) → ((y : ℕ) → is_none_left (S y) ≡ is_none_left (T y)) → AllSame S T (range_features r) → set_of M S r ≡ set_of M T r
same_set M S T r empty h =
    let nones : list_any (λ y. is_none_left (S y)) (reads r) ≡ list_any (λ y. is_none_left (T y)) (reads r) = ap (λ (f : ℕ → Bool). list_any f (reads r)) (fun_ext empty) in
    let opens : list_any (λ y. is_several (S y)) (vals r) ≡ list_any (λ y. is_several (T y)) (vals r) = subst
    (λ l. list_any (λ y. is_several (S y)) l ≡ list_any (λ y. is_several (T y)) l) (sym (vals_of_features r)) (several_same S T (range_features r) h) in
    ap (λ (test : ℕ → Bool). filter test (universe M)) (fun_ext (λ n. (let inner = same_range M S T r n h in ap3 nones opens inner)))
  where
    ap3 : {a a' b b' c c' : Bool} → a ≡ a' → b ≡ b' → c ≡ c' → (cond a false (cond b true c)) ≡ (cond a' false (cond b' true c'))
    ap3 e f g = cc

pub open_set : (M : ℕ) (S T : Family) (r : Range) (x : ℕ) → ((y : ℕ) → is_none_left (S y) ≡ is_none_left (T y)) → has (vals r) x ≡ true
    → is_several (S x) ≡ true → is_several (T x) ≡ true → set_of M S r ≡ set_of M T r
open_set M S T r x empty v s t =
    let nones : list_any (λ y. is_none_left (S y)) (reads r) ≡ list_any (λ y. is_none_left (T y)) (reads r) = ap (λ (f : ℕ → Bool). list_any f (reads r)) (fun_ext empty) in
    ap (λ (test : ℕ → Bool). filter test (universe M)) (fun_ext (λ n. opened nones (in_range M S r n) (in_range M T r n) (any_at S x (vals r) v s) (any_at T x (vals r) v t)))
  where
    opened : {a a' b b' : Bool} → a ≡ a' → (c c' : Bool) → b ≡ true → b' ≡ true → (cond a false (cond b true c)) ≡ (cond a' false (cond b' true c'))
    opened e c c' f g = cc

-- what doesn't change is read alike
alike_at : (f : Feature) (old new : List ℕ) → is_changed old new f ≡ false → (f ≡ feature.Val → ⊥) → Same f old new
alike_at feature.Min old new h n = eqb-true (least old) (least new) (not-false (least old == least new) h)
alike_at feature.Max old new h n = eqb-true (greatest old) (greatest new) (not-false (greatest old == greatest new) h)
alike_at feature.Val old new h n = absurd (n refl)
alike_at feature.Dom old new h n = absurd (true≢false h)

alike : (S T : Family) (x : ℕ) (ds : List (ℕ × Feature)) → ((y : ℕ) → (y ≡ x → ⊥) → S y ≡ T y) → sees_change (S x) (T x) x ds ≡ false → has (vals_of ds) x ≡ false → AllSame S T ds
alike S T x [] others h v = tt
alike S T x ((y, f) ∷ ds) others h v =
    let tests = or_parts _ _ h in (
      elim (cases_Bool (y == x)) [
        | inl e ↦ let here : y ≡ x = eqb-true y x e in
            subst (λ z. Same f (S z) (T z)) (sym here) (alike_at f (S x) (T x) (second _ _ e tests.0) (λ q. no_val f y ds v q e))
        | inr e ↦ same_all f (others y (eqb-false y x e))
      ],
      alike S T x ds others tests.1 (rest f y ds v),
    )
  where
    second : (a b : Bool) → a ≡ true → (a && b) ≡ false → b ≡ false
    second a b h k = grind arith

    same_all : (f : Feature) {xs ys : List ℕ} → xs ≡ ys → Same f xs ys
    same_all feature.Min e = ap least e
    same_all feature.Max e = ap greatest e
    same_all feature.Val e = e
    same_all feature.Dom e = e

    no_val : (f : Feature) (y : ℕ) (ds : List (ℕ × Feature)) → has (vals_of ((y, f) ∷ ds)) x ≡ false → f ≡ feature.Val → (y == x) ≡ true → ⊥
    no_val feature.Val y ds v q e = true≢false (sym e ∙ (or_parts (y == x) (has (vals_of ds) x) v).0)
    no_val feature.Min y ds v q e = cc
    no_val feature.Max y ds v q e = cc
    no_val feature.Dom y ds v q e = cc

    rest : (f : Feature) (y : ℕ) (ds : List (ℕ × Feature)) → has (vals_of ((y, f) ∷ ds)) x ≡ false → has (vals_of ds) x ≡ false
    rest feature.Val y ds v = (or_parts (y == x) (has (vals_of ds) x) v).1
    rest feature.Min y ds v = v
    rest feature.Max y ds v = v
    rest feature.Dom y ds v = v

-- one that reads the value sleeps only where several values are left, or there was one
val_sleeps : (old new : List ℕ) (x : ℕ) (ds : List (ℕ × Feature)) → has (vals_of ds) x ≡ true → sees_change old new x ds ≡ false → (is_several old && not (is_several new)) ≡ false
val_sleeps old new x [] v h = absurd (true≢false (sym v))
val_sleeps old new x ((y, feature.Val) ∷ ds) v h = elim (or_cases (y == x) (has (vals_of ds) x) v) [
  | inl e ↦ first (y == x) (is_several old && not (is_several new)) _ e h
  | inr e ↦ val_sleeps old new x ds e (later _ _ h)
] where
  first : (a b d : Bool) → a ≡ true → ((a && b) || d) ≡ false → b ≡ false
  first a b d e h = grind arith

  later : (a b : Bool) → (a || b) ≡ false → b ≡ false
  later a b h = grind arith
val_sleeps old new x ((y, feature.Min) ∷ ds) v h = val_sleeps old new x ds v (later _ _ h) where
  later : (a b : Bool) → (a || b) ≡ false → b ≡ false
  later a b h = grind arith
val_sleeps old new x ((y, feature.Max) ∷ ds) v h = val_sleeps old new x ds v (later _ _ h) where
  later : (a b : Bool) → (a || b) ≡ false → b ≡ false
  later a b h = grind arith
val_sleeps old new x ((y, feature.Dom) ∷ ds) v h = val_sleeps old new x ds v (later _ _ h) where
  later : (a b : Bool) → (a || b) ≡ false → b ≡ false
  later a b h = grind arith

one_value : (old new : List ℕ) → is_several old ≡ false → is_none_left old ≡ false → is_none_left new ≡ false → length new ≤ length old → ((n : ℕ) → has new n ≡ true → has old n ≡ true) → old ≡ new
one_value [] new s e f l h = absurd (true≢false e)
one_value (a ∷ b ∷ bs) new s e f l h = absurd (true≢false s)
one_value (a ∷ []) [] s e f l h = absurd (true≢false f)
one_value (a ∷ []) (b ∷ c ∷ cs) s e f l h = absurd (omega (arith, l))
one_value (a ∷ []) (b ∷ []) s e f l h = let k = h b (or_left (b == b) false (eq-eqb b b refl)) in ap (λ n. n ∷ []) (eqb-true a b (only (a == b) k)) where
  only : (p : Bool) → (p || false) ≡ true → p ≡ true
  only p h = grind arith

-- Where the set of x shrinks to another that isn't empty, and nothing that the range reads changes, the set of the range is the same.
pub unread : (M : ℕ) (S T : Family) (r : Range) (x : ℕ) → ((y : ℕ) → (y ≡ x → ⊥) → S y ≡ T y) → is_none_left (S x) ≡ false → is_none_left (T x) ≡ false
    → length (T x) ≤ length (S x) → ((n : ℕ) → has (T x) n ≡ true → has (S x) n ≡ true) → sees_change (S x) (T x) x (range_features r) ≡ false → set_of M S r ≡ set_of M T r
unread M S T r x others e f l inside h =
    let empty : (y : ℕ) → is_none_left (S y) ≡ is_none_left (T y) = (λ y. elim (cases_Bool (y == x)) [
      | inl q ↦ subst (λ z. is_none_left (S z) ≡ is_none_left (T z)) (sym (eqb-true y x q)) (e ∙ sym f)
      | inr q ↦ ap is_none_left (others y (eqb-false y x q))
    ]) in
    elim (cases_Bool (has (vals_of (range_features r)) x)) [
      | inl v ↦ let fixed = val_sleeps (S x) (T x) x (range_features r) v h in
          elim (cases_Bool (is_several (T x))) [
            | inl s ↦ open_set M S T r x empty (subst (λ l. has l x ≡ true) (sym (vals_of_features r)) v) (more (S x) (T x) l s) s
            | inr s ↦ elim (cases_Bool (is_several (S x))) [
              | inl t ↦ absurd (impossible (is_several (S x)) (is_several (T x)) fixed t s)
              | inr t ↦
                  let here : S x ≡ T x = one_value (S x) (T x) t e f l inside in
                  ap (λ (R : Family). set_of M R r) (fun_ext (λ y. elim (cases_Bool (y == x)) [ inl q ↦ subst (λ z. S z ≡ T z) (sym (eqb-true y x q)) here | inr q ↦ others y (eqb-false y x q) ]))
            ]
          ]
      | inr v ↦ same_set M S T r empty (alike S T x (range_features r) others h v)
    ]
  where
    more : (old new : List ℕ) → length new ≤ length old → is_several new ≡ true → is_several old ≡ true
    more old [] l s = absurd (true≢false (sym s))
    more old (a ∷ []) l s = absurd (true≢false (sym s))
    more [] (a ∷ b ∷ bs) l s = absurd (omega (arith, l))
    more (c ∷ []) (a ∷ b ∷ bs) l s = absurd (omega (arith, l))
    more (c ∷ d ∷ ds) (a ∷ b ∷ bs) l s = refl

    impossible : (a b : Bool) → (a && not b) ≡ false → a ≡ true → b ≡ false → ⊥
    impossible a b h t s = grind arith
