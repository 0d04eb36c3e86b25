-- Flat constraints meet no fault, and are seen as what they say.
use Rattle.std.proofs.Common.{◌≡◌, ℕ, suc, ◌+◌, ◌*◌, ◌^◌, ◌≤◌, ◌<◌, Bool, true, false, cond, ◌&&◌, ◌||◌, ℤ, pos, negsuc, ◌+ℤ◌, ◌-ℤ◌, neg_ℤ, int_le, nat_abs}
use Rattle.std.proofs.Common.{nat_lt, List, [], ◌∷◌, ◌++◌, length, Option, Some, None, refl, ap, sym, ◌∙◌, subst, inl, inr, ◌⊎◌, ◌↔◌, arith, length-append}
use Rattle.std.proofs.Common.{mul-le-mul, mul-le-mul_left, Result, Ok, Err}
use Rattle.std.proofs.lemmas.Bool.{and_parts, and_from, or_cases, or_left, or_right, true≢false}
use Rattle.std.proofs.lemmas.Int.{ints}
use Rattle.std.proofs.lemmas.Slice.Eq.{bytes_eq-Decides}
use Rattle.std.specs.Option.{option_or}
use Rattle.std.specs.Str.{bytes_eq}
use Rattle.std.specs.Prelude.{codes}
use Rattle.fd_model.specs.declared.kinds.QueryFault.{QueryFault}
use Rattle.fd_model.specs.declared.kinds.QueryFault.TheVariants.{BadType}
use Rattle.fd_model.specs.declared.kinds.Relation.{Relation}
use Rattle.fd_model.specs.declared.kinds.Relation.TheVariants.{Equal, Differ, Less, AtMost, Greater, AtLeast}
use Rattle.fd_model.specs.declared.kinds.ConstraintKind.TheVariants.{Compare, AllDifferent, Element, Atmost, And, Or, Not, Reified}
use Rattle.fd_language.specs.Variables.{variables_of}
use Rattle.fd_language.specs.Term.{Term, Var, Int, Atom, Comp, no_terms, term, Name, apply}
use Rattle.fd_language.specs.Range.{Indexical}
use Rattle.fd_language.proofs.Lemmas.{abs_add}
use Rattle.fd_model.specs.Linear.{Linear, Comparison, IsEqual, IsOther, IsAtMost, comparison, normal, with_product, scaled, nonzero, turned, in_integers}
use Rattle.fd_model.specs.Linear.{of_both, of_one}
use Rattle.fd_model.specs.Builtins.{is_integer}
use Rattle.fd_model.specs.LinearRows.{Expansion}
use Rattle.fd_model.specs.Members.{Member, Open, Known, as_member, as_integer, prepend, walk, place_of, after, equated_from}
use Rattle.fd_model.specs.ListRows.{different_rows, element_rows, atmost_rows}
use Rattle.fd_model.specs.ProductRows.{Product, factors, with_result, product_form}
use Rattle.fd_model.specs.BooleanRows.{and_ranges, or_ranges, not_ranges}
use Rattle.fd_model.specs.ReifiedRows.{relation_named, read_sides, read_comparison, magnitudes, reach, collected_again, told_by, reified_sums, reified_ranges}
use Rattle.fd_model.specs.ReifiedRows.{reified_end}
use Rattle.fd_model.specs.Splitting.{Split, joined, product_split, product_of, on_two, on_three, of_two, of_three, told, reified}
use Rattle.fd_model.specs.ConstraintExpansion.{compare, joined_split, by_split}
use Rattle.fd_model.specs.Satisfaction.{Assignment, worth, worths, IsNumber, IsKnownNumber, HasResult, TellsTerm}
use Rattle.fd_model.specs.FlatConstraints.{width, is_narrow, is_flat, is_flat_comparison, is_ground, is_place, is_list_of, is_known_number, is_flat_product}
use Rattle.fd_model.specs.FlatConstraints.{is_flat_compare, is_told, is_flat_told, SeesNumbers, FlatExpands, SeenSatisfies}
use Rattle.fd_model.proofs.RowWidths.{weight, weight_product, weight-scaled}
use Rattle.fd_model.proofs.FlatSums.{flat_compares, flat_form, light_integers}
use Rattle.fd_model.proofs.MemberRewriting.{member_term, HasForm, IsProductForm, product_form_ok}
use Rattle.fd_model.proofs.FlatTerms.{narrower_too, flat_seen}

if_true : {A : Type 0} (c : Bool) (r q u : Result A QueryFault) → c ≡ true → r ≡ u → cond c r q ≡ u
if_true true r q u e h = h
if_true false r q u e h = absurd (cc)

module _ (M : ℕ) (look : ℕ → Term) (sees : SeesNumbers M look) where
  -- each place is seen as one
  place_seen : (t : Term) → is_place t ≡ true → (m : Member) × (as_member (apply look t) ≡ Ok m)
  place_seen (Var x) h = elim (sees x) [ inl e ↦ (Open e.0, ap as_member e.1) | inr e ↦ (Known (pos e.0), ap as_member e.2) ]
  place_seen (Int z) h = (Known z, refl)
  place_seen (Atom a) h = absurd (cc)
  place_seen (Comp f ts) h = absurd (cc)

  whole_seen : (t : Term) → is_integer t ≡ true → (z : ℤ) × (as_integer (apply look t) ≡ Ok z)
  whole_seen (Int z) h = (z, refl)
  whole_seen _ h = absurd (cc)

  list_seen : {A : Type 0} (test : Term → Bool) (read : Term → Result A QueryFault) → ((t : Term) → test t ≡ true → (x : A) × (read (apply look t) ≡ Ok x))
      → (l : Term) → is_list_of test l ≡ true → (xs : List A) × (walk read (apply look l) ≡ Ok xs)
  list_seen test read f (Atom a) h = ([], if_true (bytes_eq a (codes "[]")) (Ok []) (Err BadType) (Ok []) h refl)
  list_seen test read f (Comp g (term x (term t no_terms))) h =
      let rest = (and_parts (bytes_eq g (codes ".")) (test x && is_list_of test t) h).1 in
      let i = f x ((and_parts (test x) (is_list_of test t) rest).0) in
      let j = list_seen test read f t ((and_parts (test x) (is_list_of test t) rest).1) in (
        i.0 ∷ j.0,
        if_true (bytes_eq g (codes ".")) (of_both prepend (read (apply look x)) (walk read (apply look t))) (Err BadType) (Ok (i.0 ∷ j.0))
            ((and_parts (bytes_eq g (codes ".")) (test x && is_list_of test t) h).0) (rw (i.1, j.1) refl),
      )
  list_seen test read f _ h = absurd (cc)

  comparison_seen : (s t : Term) → is_flat_comparison M s t ≡ true → is_flat_comparison M (apply look s) (apply look t) ≡ true
  comparison_seen s t h =
      let parts = (and_parts (is_flat M s && is_flat M t) (is_narrow (width M s + width M t)) h).0 in
      let i = flat_seen M look s sees ((and_parts (is_flat M s) (is_flat M t) parts).0) in
      let j = flat_seen M look t sees ((and_parts (is_flat M s) (is_flat M t) parts).1) in
      let a = i.narrower in
      let b = j.narrower in
      and_from _ _ (and_from _ _ i.flat j.flat) (narrower_too (width M (apply look s) + width M (apply look t)) (width M s + width M t) (omega arith)
      ((and_parts (is_flat M s && is_flat M t) (is_narrow (width M s + width M t)) h).1))

  compare_expands : (r : Relation) (s t : Term) (n : ℕ) → 0 < M → is_flat_comparison M s t ≡ true → length (variables_of s ++ (variables_of t ++ [])) ≤ 2 ^ 31
      → (x : Expansion) × (compare r (apply look s) (apply look t) n ≡ Ok x)
  compare_expands r s t n some h few =
      let parts = (and_parts (is_flat M s && is_flat M t) (is_narrow (width M s + width M t)) h).0 in
      let a = (flat_seen M look s sees ((and_parts (is_flat M s) (is_flat M t) parts).0)).fewer in
      let b = (flat_seen M look t sees ((and_parts (is_flat M s) (is_flat M t) parts).1)).fewer in
      let e = length-append (variables_of s) (variables_of t ++ []) in
      let f = length-append (variables_of t) [] in
      flat_compares M r (apply look s) (apply look t) n some (comparison_seen s t h) (omega arith)

-- a product of which one operand is seen as an integer
star_is : (f : Name) → bytes_eq f (codes "*") ≡ true → f ≡ codes "*"
star_is f h = (bytes_eq-Decides f (codes "*")).0 h

-- narrow as a variable is
record IsPlaceSeen (M : ℕ) (t : Term) : Type 0 where
  pub flat : is_flat M t ≡ true
  pub narrow : width M t ≤ M
  pub few : length (variables_of t) ≤ 1

flat_star : (M : ℕ) (a b t : Term) → IsPlaceSeen M a → IsPlaceSeen M b → IsPlaceSeen M t → (is_ground a || is_ground b) ≡ true → is_narrow (M * M + M) ≡ true
    → is_flat_comparison M (Comp (codes "*") (term a (term b no_terms))) t ≡ true
flat_star M a b t i j k g n =
    let e = mul-le-mul i.narrow j.narrow in
    let l = k.narrow in
    and_from _ _ (and_from _ _ (and_from _ _ (and_from _ _ i.flat j.flat) (and_from _ _ g (narrower_too (width M a * width M b) (M * M + M) (omega arith) n)))
    k.flat) (narrower_too (width M a * width M b + width M t) (M * M + M) (omega arith) n)

flipped : (M : ℕ) (s t : Term) → is_flat_comparison M s t ≡ true → is_flat_comparison M t s ≡ true
flipped M s t h =
    let p = and_parts (is_flat M s && is_flat M t) (is_narrow (width M s + width M t)) h in
    let q = and_parts (is_flat M s) (is_flat M t) p.0 in
    and_from _ _ (and_from _ _ q.1 q.0) (narrower_too (width M t + width M s) (width M s + width M t) (omega arith) p.1)

formed_some : (f : Name) (x y : ℕ) (t : Term) → bytes_eq f (codes "*") ≡ true → is_place t ≡ true → (p : Product) × (with_result (factors (Comp f (term (Var x) (term (Var y) no_terms)))) t ≡ Some p)
formed_some f x y (Var z) e h = (record { left = x; right = y; result = Open z }, rw e refl)
formed_some f x y (Int z) e h = (record { left = x; right = y; result = Known z }, rw e refl)
formed_some f x y _ e h = absurd (cc)

module _ (M N : ℕ) (up : N ≤ M) (look : ℕ → Term) (sees : SeesNumbers M look) where
  variable_place : is_narrow M ≡ true → (x : ℕ) → IsPlaceSeen M (look x)
  variable_place n x = elim (sees x) [
    | inl e ↦ subst (IsPlaceSeen M) (sym e.1) (record { flat = n; narrow = omega arith; few = omega arith })
    | inr e ↦ subst (IsPlaceSeen M) (sym e.2) (record { flat = narrower_too e.0 M e.1 n; narrow = e.1; few = omega arith })
  ]

  variable_is_place : (x : ℕ) → is_place (look x) ≡ true
  variable_is_place x = elim (sees x) [ inl e ↦ ap is_place e.1 | inr e ↦ ap is_place e.2 ]

  known_size : (z : ℤ) → (int_le (pos 0) z && int_le z (pos N)) ≡ true → nat_abs z ≤ N
  known_size z h = grind (arith, ints)

  member_place : is_narrow M ≡ true → (m : Member) → is_known_number N m ≡ true → IsPlaceSeen M (apply look (member_term m))
  member_place n (Open z) h = variable_place n z
  member_place n (Known z) h = let e = known_size z h in record { flat = narrower_too (nat_abs z) M (omega arith) n; narrow = omega arith; few = omega arith }

  member_is_place : (m : Member) → is_place (apply look (member_term m)) ≡ true
  member_is_place (Open z) = variable_is_place z
  member_is_place (Known z) = refl

  -- The seen sides are a product form, or they are flat and have few variables.
  abbrev IsEither : Term → Term → Type 0
  IsEither s t = ((p : Product) × (with_result (factors s) t ≡ Some p)) ⊎ ((is_flat_comparison M s t ≡ true) × (length (variables_of s) + length (variables_of t) ≤ 2 ^ 31))

  star_sides : (x y : ℕ) (m : Member) → is_known_number N m ≡ true → is_narrow (M * M + M) ≡ true → IsEither (Comp (codes "*") (term (look x) (term (look y) no_terms))) (apply look (member_term m))
  star_sides x y m h n = by_sees (sees x) (sees y) where
    narrow : is_narrow M ≡ true
    narrow = narrower_too M (M * M + M) (omega arith) n

    t : Term
    t = apply look (member_term m)

    flat_side : (is_ground (look x) || is_ground (look y)) ≡ true → IsEither (Comp (codes "*") (term (look x) (term (look y) no_terms))) (apply look (member_term m))
    flat_side g =
        let i = variable_place narrow x in
        let j = variable_place narrow y in
        let k = member_place narrow m h in
        let e = length-append (variables_of (look x)) (variables_of (look y) ++ []) in
        let f = length-append (variables_of (look y)) [] in
        let u = i.few in let v = j.few in let w = k.few in
        inr (flat_star M (look x) (look y) (apply look (member_term m)) i j k g n, omega arith)

    by_sees : ((z : ℕ) × (look x ≡ Var z)) ⊎ ((k : ℕ) × (k ≤ M) × (look x ≡ Int (pos k))) → ((z : ℕ) × (look y ≡ Var z)) ⊎ ((k : ℕ) × (k ≤ M) × (look y ≡ Int (pos k)))
        → IsEither (Comp (codes "*") (term (look x) (term (look y) no_terms))) (apply look (member_term m))
    by_sees (inl i) (inl j) =
        let k = formed_some (codes "*") i.0 j.0 (apply look (member_term m)) refl (member_is_place m) in
        inl (
          k.0,
          subst (λ u. with_result (factors (Comp (codes "*") (term u (term (look y) no_terms)))) (apply look (member_term m)) ≡ Some k.0) (sym i.1)
              (subst (λ v. with_result (factors (Comp (codes "*") (term (Var i.0) (term v no_terms)))) (apply look (member_term m)) ≡ Some k.0) (sym j.1) k.1),
        )
    by_sees (inl i) (inr j) = flat_side (or_right (is_ground (look x)) (is_ground (look y)) (ap is_ground j.2))
    by_sees (inr i) j = flat_side (or_left (is_ground (look x)) (is_ground (look y)) (ap is_ground i.2))

  form_sides : (s t : Term) (p : Product) → HasForm s t p → is_known_number N p.result ≡ true → is_narrow (M * M + M) ≡ true → IsEither (apply look s) (apply look t)
  form_sides s t p h k n =
      subst (λ u. IsEither (apply look u) (apply look t)) h.left_is (subst (λ u. IsEither (apply look (Comp h.name (term (Var p.left) (term (Var p.right) no_terms)))) (apply look u)) h.result_is
      (subst (λ f. IsEither (Comp f (term (look p.left) (term (look p.right) no_terms))) (apply look (member_term p.result))) (sym (star_is h.name h.star)) (star_sides p.left p.right p.result k n)))

  none_left : (o q : Option Product) (p : Product) → o ≡ Some p → option_or o q ≡ None → ⊥
  none_left (Some u) q p e h = absurd (cc)
  none_left None q p e h = absurd (cc)

  none_right : (o q : Option Product) (p : Product) → q ≡ Some p → option_or o q ≡ None → ⊥
  none_right (Some u) q p e h = absurd (cc)
  none_right None q p e h = absurd (cc)

  -- what isn't seen as a product
  compared_flat : (r : Relation) (s t : Term) (n : ℕ) → 0 < M → is_flat_compare M N r s t ≡ true → length (variables_of s ++ (variables_of t ++ [])) ≤ 2 ^ 31
      → product_form r (apply look s) (apply look t) ≡ None
      → (x : Expansion) × (compare r (apply look s) (apply look t) n ≡ Ok x)
  compared_flat r s t n some h few none = elim (or_cases (is_flat_product M N (product_form r s t)) (is_flat_comparison M s t) h) [
    | inl k ↦ by_option (product_form r s t) refl k
    | inr k ↦ compare_expands M look sees r s t n some k few
  ] where
    by_form : (p : Product) → IsProductForm r s t p → is_known_number N p.result ≡ true → is_narrow (M * M + M) ≡ true → (x : Expansion) × (compare r (apply look s) (apply look t) n ≡ Ok x)
    by_form p f k n0 =
        let none_equal : product_form Equal (apply look s) (apply look t) ≡ None = subst (λ q. product_form q (apply look s) (apply look t) ≡ None) f.relation none in
        elim f.sides [
          | inl g ↦ elim (form_sides s t p g k n0) [
            | inl e ↦ absurd (none_left (with_result (factors (apply look s)) (apply look t)) (with_result (factors (apply look t)) (apply look s)) e.0 e.1 none_equal)
            | inr e ↦ flat_compares M r (apply look s) (apply look t) n some e.0 e.1
          ]
          | inr g ↦ elim (form_sides t s p g k n0) [
            | inl e ↦ absurd (none_right (with_result (factors (apply look s)) (apply look t)) (with_result (factors (apply look t)) (apply look s)) e.0 e.1 none_equal)
            | inr e ↦ flat_compares M r (apply look s) (apply look t) n some (flipped M (apply look t) (apply look s) e.0) (let i = e.1 in omega arith)
          ]
        ]

    by_option : (o : Option Product) → product_form r s t ≡ o → is_flat_product M N o ≡ true → (x : Expansion) × (compare r (apply look s) (apply look t) n ≡ Ok x)
    by_option None e k = absurd (cc)
    by_option (Some p) e k = let q = and_parts (is_known_number N p.result) (is_narrow (M * M + M)) k in by_form p (product_form_ok r s t p e) q.0 q.1

  compare_flat : (r : Relation) (s t : Term) (n : ℕ) → 0 < M → is_flat_compare M N r s t ≡ true → length (variables_of s ++ (variables_of t ++ [])) ≤ 2 ^ 31
      → (x : Expansion) × (by_split (product_of n (product_form r (apply look s) (apply look t))) (compare r (apply look s) (apply look t) n) ≡ Ok x)
  compare_flat r s t n some h few = by_option (product_form r (apply look s) (apply look t)) refl where
    by_option : (o : Option Product) → product_form r (apply look s) (apply look t) ≡ o
        → (x : Expansion) × (by_split (product_of n (product_form r (apply look s) (apply look t))) (compare r (apply look s) (apply look t) n) ≡ Ok x)
    by_option None e = let k = compared_flat r s t n some h few e in (k.0, ap (λ o. by_split (product_of n o) (compare r (apply look s) (apply look t) n)) e ∙ k.1)
    by_option (Some p) e = (joined (product_split n p), ap (λ o. by_split (product_of n o) (compare r (apply look s) (apply look t) n)) e)

-- the sums of a flat form that is told
unit_weight : (ts : List (ℕ × ℤ)) → weight 1 ts ≡ magnitudes ts
unit_weight [] = refl
unit_weight (t ∷ ts) = let e = unit_weight ts in omega arith

unit_least : (M : ℕ) → 0 < M → (ts : List (ℕ × ℤ)) → weight 1 ts ≤ weight M ts
unit_least M some [] = omega arith
unit_least M some (t ∷ ts) = let e = unit_least M some ts in let f = mul-le-mul_left (nat_abs t.1) some in omega arith

weight_reach : (M : ℕ) (ts : List (ℕ × ℤ)) → weight M ts ≡ M * magnitudes ts
weight_reach M [] = omega arith
weight_reach M (t ∷ ts) = more (nat_abs t.1) M (magnitudes ts) (weight M ts) (weight_reach M ts) where
  more : (a m k w : ℕ) → w ≡ m * k → a * m + w ≡ m * (a + k)
  more a m k w h = grind arith

in_limit : (z : ℤ) → nat_abs z < 2 ^ 63 → in_integers z ≡ true
in_limit z h = grind arith

again_gives : (ts : List (ℕ × ℤ)) (c : ℤ) → nat_abs c < 2 ^ 63 → weight 1 ts < 2 ^ 63 → (l : Linear) × (collected_again ts c ≡ Ok l)
again_gives ts c h w =
    let e = in_limit c h in
    let f = light_integers 1 (omega arith) ts w in
    (record { products = nonzero ts; constant = c }, rw (e, f) refl)

told_gives : (f w : ℕ) (l : Linear) → 0 < w → w < 2 ^ 63 → nat_abs l.constant + w < 2 ^ 63 → w + weight 1 l.products < 2 ^ 63 → (ls : List Linear) × (told_by f (pos w) l ≡ Ok ls)
told_gives f w l positive i c s =
    let ts = with_product l.products f (pos w) in
    let v = weight_product 1 l.products f (pos w) in
    let u = weight-scaled 1 ts in
    let over = again_gives ts (l.constant +ℤ pos w) (let e = abs_add l.constant (pos w) in omega arith) (omega arith) in
    let under = again_gives (scaled (negsuc 0) ts) (neg_ℤ l.constant -ℤ pos 1) (below l.constant w positive c) (omega arith) in
    let inside = in_limit (pos w) i in
    (over.0 ∷ under.0 ∷ [], let e = over.1 in let g = under.1 in rw (inside, e, g) refl) where
      below : (c : ℤ) (w : ℕ) → 0 < w → nat_abs c + w < 2 ^ 63 → nat_abs (neg_ℤ c -ℤ pos 1) < 2 ^ 63
      below c w p h = omega (arith, ints)

module _ (M : ℕ) (some : 0 < M) (l : Linear) (w : ℕ) (light : weight M l.products + nat_abs l.constant ≤ suc w) (small : 2 * w + 4 < 2 ^ 63) where
  reach_small : reach M l ≤ w + 2
  reach_small = let e = weight_reach M l.products in omega arith

  part_gives : (f : ℕ) (k : Linear) → (k ≡ l) ⊎ (k ≡ turned l) → (ls : List Linear) × (told_by f (pos (reach M l)) k ≡ Ok ls)
  part_gives f k o = told_gives f (reach M l) k (omega arith) (let e = reach_small in omega arith) (let e = reach_small in let g = constant_same o in
      omega arith) (let e = reach_small in let g = weight_same o in let u = unit_least M some l.products in omega arith) where
        negated : (z : ℤ) → nat_abs (neg_ℤ z) ≡ nat_abs z
        negated z = omega (arith, ints)

        constant_same : (k ≡ l) ⊎ (k ≡ turned l) → nat_abs k.constant ≡ nat_abs l.constant
        constant_same (inl e) = ap (λ (m : Linear). nat_abs m.constant) e
        constant_same (inr e) = ap (λ (m : Linear). nat_abs m.constant) e ∙ negated l.constant

        weight_same : (k ≡ l) ⊎ (k ≡ turned l) → weight 1 k.products ≡ weight 1 l.products
        weight_same (inl e) = ap (λ (m : Linear). weight 1 m.products) e
        weight_same (inr e) = ap (λ (m : Linear). weight 1 m.products) e ∙ weight-scaled 1 l.products

  sums_give : (c : Comparison) (x n : ℕ) → (ls : List Linear) × (reified_sums M c x n l ≡ Ok ls)
  sums_give IsAtMost x n = part_gives x l (inl refl)
  sums_give IsEqual x n =
      let i = part_gives n l (inl refl) in
      let j = part_gives (suc n) (turned l) (inr refl) in
      (i.0 ++ j.0, let e = i.1 in let f = j.1 in rw (e, f) refl)
  sums_give IsOther x n =
      let i = part_gives (suc n) l (inl refl) in
      let j = part_gives (suc (suc n)) (turned l) (inr refl) in
      (i.0 ++ j.0, let e = i.1 in let f = j.1 in rw (e, f) refl)

normal_light : (M : ℕ) (r : Relation) (l : Linear) (w : ℕ) → weight M l.products + nat_abs l.constant ≤ w → weight M (normal r l).products + nat_abs (normal r l).constant ≤ suc w
normal_light M Equal l w h = omega arith
normal_light M Differ l w h = omega arith
normal_light M Less l w h = let e = one_less l.constant in omega arith where
  one_less : (z : ℤ) → nat_abs (z -ℤ pos 1) ≤ suc (nat_abs z)
  one_less z = omega (arith, ints)
normal_light M AtMost l w h = omega arith
normal_light M Greater l w h = let e = one_less l.constant in let f = weight-scaled M l.products in omega arith where
  one_less : (z : ℤ) → nat_abs (neg_ℤ z -ℤ pos 1) ≤ suc (nat_abs z)
  one_less z = omega (arith, ints)
normal_light M AtLeast l w h = let e = negated l.constant in let f = weight-scaled M l.products in omega arith where
  negated : (z : ℤ) → nat_abs (neg_ℤ z) ≡ nat_abs z
  negated z = omega (arith, ints)

module _ (M : ℕ) (look : ℕ → Term) (sees : SeesNumbers M look) (some : 0 < M) where
  -- a comparison that is told, as it is seen
  sides_told : (r : Relation) (s t : Term) (m : Member) (n : ℕ) → is_flat_comparison M s t ≡ true → 2 * (width M s + width M t) + 4 < 2 ^ 63
      → length (variables_of s ++ (variables_of t ++ [])) ≤ 2 ^ 31
      → (x : Split) × (of_one (told M n m) (read_sides (Some r) (apply look s) (apply look t)) ≡ Ok x)
  sides_told r s t m n h small few =
      let parts = (and_parts (is_flat M s && is_flat M t) (is_narrow (width M s + width M t)) h).0 in
      let a = flat_seen M look s sees ((and_parts (is_flat M s) (is_flat M t) parts).0) in
      let b = flat_seen M look t sees ((and_parts (is_flat M s) (is_flat M t) parts).1) in
      let an = a.narrower in let bn = b.narrower in let af = a.fewer in let bf = b.fewer in
      let e = length-append (variables_of s) (variables_of t ++ []) in
      let f = length-append (variables_of t) [] in
      let g = flat_form M some r (apply look s) (apply look t) (comparison_seen M look sees s t h) (omega arith) in
      let l = normal r g.linear in
      let w = width M (apply look s) + width M (apply look t) in
      let k = sums_give M some l w (normal_light M r g.linear w g.light) (omega arith) (comparison r) (place_of n m) (after n m) in (
        record { equated = equated_from n (m ∷ []); ranges = reified_ranges (comparison r) (place_of n m) (after n m); sums = k.0; fresh = reified_end (comparison r) (after n m) },
        let c = g.collected in let d = g.normal_is in let i = k.1 in rw (c, d, i) refl,
      )

  told_gives_split : (k : Term) (m : Member) (n : ℕ) → is_flat_told M k ≡ true → length (variables_of k) ≤ 2 ^ 31 → (x : Split) × (of_one (told M n m) (read_comparison (apply look k)) ≡ Ok x)
  told_gives_split (Comp f (term s (term t no_terms))) m n h few = by_option (relation_named f) refl h where
    by_option : (o : Option Relation) → relation_named f ≡ o → is_told M o s t ≡ true → (x : Split) × (of_one (told M n m) (read_sides (relation_named f) (apply look s) (apply look t)) ≡ Ok x)
    by_option None e k = absurd (cc)
    by_option (Some r) e k =
        let p = and_parts (is_flat_comparison M s t) (nat_lt (2 * (width M s + width M t) + 4) (2 ^ 63)) k in
        let x = sides_told r s t m n p.0 (size (2 * (width M s + width M t) + 4) p.1) few in
        (x.0, ap (λ o. of_one (told M n m) (read_sides o (apply look s) (apply look t))) e ∙ x.1) where
          size : (n : ℕ) → nat_lt n (2 ^ 63) ≡ true → n < 2 ^ 63
          size n h = grind arith
  told_gives_split _ m n h few = absurd (cc)

three_give : (M : ℕ) (look : ℕ → Term) (sees : SeesNumbers M look) (rows : ℕ → ℕ → ℕ → List Indexical) (x y z : Term) (n : ℕ) → (is_place x && (is_place y && is_place z)) ≡ true
    → (s : Split) × (of_three rows (apply look x) (apply look y) (apply look z) n ≡ Ok s)
three_give M look sees rows x y z n h =
    let p = and_parts (is_place x) (is_place y && is_place z) h in
    let q = and_parts (is_place y) (is_place z) p.1 in
    let i = place_seen M look sees x p.0 in
    let j = place_seen M look sees y q.0 in
    let k = place_seen M look sees z q.1 in
    (on_three rows n i.0 j.0 k.0, let e = i.1 in let f = j.1 in let g = k.1 in rw (e, f, g) refl)

split_gives : (r : Result Split QueryFault) (q : Result Expansion QueryFault) → (s : Split) × (r ≡ Ok s) → (x : Expansion) × (by_split (Some r) q ≡ Ok x)
split_gives r q s = (joined s.0, ap (λ u. of_one joined_split u) s.1)

pub flat_expands : FlatExpands
flat_expands M N look (Compare r) (term s (term t no_terms)) n some up sees h few = compare_flat M N up look sees r s t n some h few
flat_expands M N look AllDifferent (term l no_terms) n some up sees h few = let k = list_seen M look sees is_place as_member (place_seen M look sees) l h in (different_rows k.0 n, rw k.1 refl)
flat_expands M N look Element (term i (term l (term x no_terms))) n some up sees h few =
    let rest = (and_parts (is_place i) (is_list_of is_integer l && is_place x) h).1 in
    let p = place_seen M look sees i ((and_parts (is_place i) (is_list_of is_integer l && is_place x) h).0) in
    let q = list_seen M look sees is_integer as_integer (whole_seen M look sees) l ((and_parts (is_list_of is_integer l) (is_place x) rest).0) in
    let r = place_seen M look sees x ((and_parts (is_list_of is_integer l) (is_place x) rest).1) in
    (element_rows p.0 q.0 r.0 n, rw (p.1, q.1, r.1) refl)
flat_expands M N look Atmost (term m (term l (term v no_terms))) n some up sees h few =
    let rest = (and_parts (is_integer m) (is_list_of is_place l && is_integer v) h).1 in
    let p = whole_seen M look sees m ((and_parts (is_integer m) (is_list_of is_place l && is_integer v) h).0) in
    let q = list_seen M look sees is_place as_member (place_seen M look sees) l ((and_parts (is_list_of is_place l) (is_integer v) rest).0) in
    let r = whole_seen M look sees v ((and_parts (is_list_of is_place l) (is_integer v) rest).1) in
    (atmost_rows p.0 q.0 r.0 n, rw (p.1, q.1, r.1) refl)
flat_expands M N look And (term x (term y (term z no_terms))) n some up sees h few = split_gives
    (of_three and_ranges (apply look x) (apply look y) (apply look z) n) (Err BadType) (three_give M look sees and_ranges x y z n h)
flat_expands M N look Or (term x (term y (term z no_terms))) n some up sees h few = split_gives
    (of_three or_ranges (apply look x) (apply look y) (apply look z) n) (Err BadType) (three_give M look sees or_ranges x y z n h)
flat_expands M N look Not (term x (term y no_terms)) n some up sees h few =
    let p = and_parts (is_place x) (is_place y) h in
    let i = place_seen M look sees x p.0 in
    let j = place_seen M look sees y p.1 in
    split_gives (of_two not_ranges (apply look x) (apply look y) n) (Err BadType) (on_two not_ranges n i.0 j.0, let e = i.1 in let f = j.1 in rw (e, f) refl)
flat_expands M N look Reified (term b (term k no_terms)) n some up sees h few =
    let p = and_parts (is_place b) (is_flat_told M k) h in
    let i = place_seen M look sees b p.0 in
    let e = length-append (variables_of b) (variables_of k ++ []) in
    let f = length-append (variables_of k) [] in
    let j = told_gives_split M look sees some k i.0 n p.1 (omega arith) in
    split_gives (reified M (apply look b) (apply look k) n) (Err BadType) (j.0, let g = i.1 in rw g (both_one i.0 (read_comparison (apply look k)) j.0 j.1)) where
      both_one : (m : Member) (r : Result (Comparison × Linear) QueryFault) (s : Split) → of_one (told M n m) r ≡ Ok s → of_both (told M n) (Ok m) r ≡ Ok s
      both_one m (Ok q) s e = e
      both_one m (Err q) s e = e
flat_expands _ _ look _ _ n some up sees h few = absurd (cc)

-- terms are worth the same as they are seen
module _ (look : ℕ → Term) (a : Assignment) (agree : (x : ℕ) → worth a (look x) ≡ pos (a x)) where
  worth_seen : (t : Term) → worth a (apply look t) ≡ worth a t
  worth_seen (Var x) = agree x
  worth_seen (Comp f (term s no_terms)) = ap neg_ℤ (worth_seen s)
  worth_seen (Comp f (term s (term t no_terms))) = let e = worth_seen s in let g = worth_seen t in cc
  worth_seen _ = refl

  module _ (M : ℕ) (sees : SeesNumbers M look) where
    worths_seen : (t : Term) → worths a (apply look t) ≡ worths a t
    worths_seen (Var x) = elim (sees x) [ inl e ↦ ap (worths a) e.1 | inr e ↦ ap (worths a) e.2 ]
    worths_seen (Comp f (term s (term t no_terms))) = let e = worth_seen s in let g = worths_seen t in cc
    worths_seen _ = refl

-- the result of a product form that is flat
form_unflat : (M : ℕ) (s t : Term) (p : Product) → HasForm s t p → is_flat M s ≡ true → ⊥
form_unflat M s t p h f =
    let g : is_flat M (Comp h.name (term (Var p.left) (term (Var p.right) no_terms))) ≡ true = subst (λ u. is_flat M u ≡ true) (sym h.left_is) f in
    none (is_narrow M && is_narrow M) (is_narrow (M * M)) (subst (λ n. is_flat M (Comp n (term (Var p.left) (term (Var p.right) no_terms))) ≡ true) (star_is h.name h.star) g) where
      none : (p q : Bool) → (p && (false && q)) ≡ true → ⊥
      none true q h = true≢false (sym h)
      none false q h = true≢false (sym h)

known_number : (N : ℕ) (m : Member) → is_known_number N m ≡ true → IsKnownNumber N m
known_number N (Open x) h = tt
known_number N (Known z) h = by_sign z h where
  size : (N n : ℕ) → (int_le (pos 0) (pos n) && int_le (pos n) (pos N)) ≡ true → n ≤ N
  size N n h = grind (arith, ints)

  none : (n : ℕ) (q : Bool) → (int_le (pos 0) (negsuc n) && q) ≡ true → ⊥
  none n q h = true≢false (sym h)

  by_sign : (z : ℤ) → (int_le (pos 0) z && int_le z (pos N)) ≡ true → IsNumber N z
  by_sign (pos n) h = record { number = n; within = size N n h; is = refl }
  by_sign (negsuc n) h = absurd (none n (int_le (negsuc n) (pos N)) h)

flat_result : (M N : ℕ) (r : Relation) (s t : Term) → is_flat_compare M N r s t ≡ true → HasResult N (product_form r s t)
flat_result M N r s t h = by_option (product_form r s t) refl h where
  no_comparison : (p : Product) → product_form r s t ≡ Some p → is_flat_comparison M s t ≡ true → ⊥
  no_comparison p e k =
      let q = and_parts (is_flat M s) (is_flat M t) ((and_parts (is_flat M s && is_flat M t) (is_narrow (width M s + width M t)) k).0) in
      elim ((product_form_ok r s t p e).sides) [ inl f ↦ form_unflat M s t p f q.0 | inr f ↦ form_unflat M t s p f q.1 ]

  by_option : (o : Option Product) → product_form r s t ≡ o → (is_flat_product M N o || is_flat_comparison M s t) ≡ true → HasResult N (product_form r s t)
  by_option None e k = subst (HasResult N) (sym e) tt
  by_option (Some p) e k = subst (HasResult N) (sym e) (elim (or_cases (is_flat_product M N (Some p)) (is_flat_comparison M s t) k) [
    | inl f ↦ known_number N p.result ((and_parts (is_known_number N p.result) (is_narrow (M * M + M)) f).0)
    | inr f ↦ absurd (no_comparison p e f)
  ])

-- and of one that is seen
module _ (N : ℕ) (look : ℕ → Term) (sees : SeesNumbers N look) where
  unseen_variable : (t : Term) (x : ℕ) → Var x ≡ apply look t → (y : ℕ) × (Var y ≡ t)
  unseen_variable (Var y) x h = (y, refl)
  unseen_variable (Int z) x h = absurd (cc)
  unseen_variable (Atom a) x h = absurd (cc)
  unseen_variable (Comp f ts) x h = absurd (cc)

  record IsUnseen (f : Name) (s : Term) : Type 0 where
    pub left : ℕ
    pub right : ℕ
    pub is : Comp f (term (Var left) (term (Var right) no_terms)) ≡ s

  unseen_factors : (s : Term) (f : Name) (x y : ℕ) → Comp f (term (Var x) (term (Var y) no_terms)) ≡ apply look s → IsUnseen f s
  unseen_factors (Var v) f x y h = elim (sees v) [ inl e ↦ absurd (let g = h ∙ e.1 in cc) | inr e ↦ absurd (let g = h ∙ e.2 in cc) ]
  unseen_factors (Comp g (term a (term b no_terms))) f x y h =
      let i : Var x ≡ apply look a = cc in
      let j : Var y ≡ apply look b = cc in
      let k : f ≡ g = cc in
      let u = unseen_variable a x i in
      let v = unseen_variable b y j in
      record { left = u.0; right = v.0; is = let p = u.1 in let q = v.1 in cc }
  unseen_factors _ f x y h = absurd (cc)

  -- the integer of a result
  seen_integer : (t : Term) (z : ℤ) → Int z ≡ apply look t → (Int z ≡ t) ⊎ IsNumber N z
  seen_integer (Var v) z h = elim (sees v) [ inl e ↦ absurd (let g = h ∙ e.1 in cc) | inr e ↦ inr (record { number = e.0; within = e.1; is = let g = h ∙ e.2 in cc }) ]
  seen_integer (Int y) z h = inl h
  seen_integer (Atom a) z h = absurd (cc)
  seen_integer (Comp f ts) z h = absurd (cc)

  form_result : (s t : Term) (z : ℤ) (f : Name) (x y : ℕ) → bytes_eq f (codes "*") ≡ true → Comp f (term (Var x) (term (Var y) no_terms)) ≡ s → Int z ≡ t
      → (q : Option Product) → HasResult N (option_or (with_result (factors s) t) q) → IsNumber N z
  form_result s t z f x y e h g q k =
      let a : HasResult N (option_or (with_result (factors (Comp f (term (Var x) (term (Var y) no_terms)))) (Int z)) q) = subst
      (λ v. HasResult N (option_or (with_result (factors v) (Int z)) q)) (sym h)
      (subst (λ v. HasResult N (option_or (with_result (factors s) v) q)) (sym g) k) in
      subst (λ c. HasResult N (option_or (with_result (cond c (Some (x, y)) None) (Int z)) q)) e a

  result_form : (s t : Term) (z : ℤ) (f : Name) (x y : ℕ) → bytes_eq f (codes "*") ≡ true → Comp f (term (Var x) (term (Var y) no_terms)) ≡ t → Int z ≡ s
      → HasResult N (option_or (with_result (factors s) t) (with_result (factors t) s)) → IsNumber N z
  result_form s t z f x y e h g k =
      let a : HasResult N (with_result (factors (Comp f (term (Var x) (term (Var y) no_terms)))) (Int z)) =
      subst (λ v. HasResult N (option_or (with_result (factors (Int z)) v) (with_result (factors v) (Int z)))) (sym h)
      (subst (λ v. HasResult N (option_or (with_result (factors v) t) (with_result (factors t) v))) (sym g) k) in
      subst (λ c. HasResult N (with_result (cond c (Some (x, y)) None) (Int z))) e a

  seen_result : (M : ℕ) (r : Relation) (s t : Term) → is_flat_compare M N r s t ≡ true → HasResult N (product_form r (apply look s) (apply look t))
  seen_result M r s t h = by_option (product_form r (apply look s) (apply look t)) refl where
    by_member : (m : Member) (p : Product) → IsProductForm r (apply look s) (apply look t) p → m ≡ p.result → IsKnownNumber N m
    by_member (Open x) p f e = tt
    by_member (Known z) p f e =
        let written : HasResult N (product_form Equal s t) = subst (λ q. HasResult N (product_form q s t)) f.relation (flat_result M N r s t h) in
        elim f.sides [
          | inl g ↦ elim (seen_integer t z (ap member_term e ∙ g.result_is)) [
            | inl i ↦ let u = unseen_factors s g.name p.left p.right g.left_is in form_result s t z g.name u.left u.right g.star u.is i (with_result (factors t) s) written
            | inr i ↦ i
          ]
          | inr g ↦ elim (seen_integer s z (ap member_term e ∙ g.result_is)) [
            | inl i ↦ let u = unseen_factors t g.name p.left p.right g.left_is in result_form s t z g.name u.left u.right g.star u.is i written
            | inr i ↦ i
          ]
        ]

    by_option : (o : Option Product) → product_form r (apply look s) (apply look t) ≡ o → HasResult N (product_form r (apply look s) (apply look t))
    by_option None e = subst (HasResult N) (sym e) tt
    by_option (Some p) e = subst (HasResult N) (sym e) (by_member p.result p (product_form_ok r (apply look s) (apply look t) p e) refl)

-- what is told is told as it is seen
tells_seen : (look : ℕ → Term) (a : Assignment) → ((x : ℕ) → worth a (look x) ≡ pos (a x)) → (N : ℕ) → SeesNumbers N look → (k : Term) (z : ℤ) → TellsTerm a (apply look k) z ↔ TellsTerm a k z
tells_seen look a agree N sees (Var v) z = elim (sees v) [ inl e ↦ rw e.1 ((λ h. h), (λ h. h)) | inr e ↦ rw e.2 ((λ h. h), (λ h. h)) ]
tells_seen look a agree N sees (Comp f (term s (term t no_terms))) z = rw (worth_seen look a agree s, worth_seen look a agree t) ((λ h. h), (λ h. h))
tells_seen look a agree N sees _ z = ((λ h. h), (λ h. h))

pub seen_satisfies : SeenSatisfies
seen_satisfies M N look (Compare r) (term s (term t no_terms)) a sees agree h =
    rw (worth_seen look a agree s, worth_seen look a agree t) ((λ x. (flat_result M N r s t h, x.1)), (λ x. (seen_result N look sees M r s t h, x.1)))
seen_satisfies M N look AllDifferent (term l no_terms) a sees agree h = rw (worths_seen look a agree N sees l) ((λ x. x), (λ x. x))
seen_satisfies M N look Element (term i (term l (term v no_terms))) a sees agree h = rw (worth_seen look a agree i, worth_seen look a agree v, worths_seen look a agree N sees l) ((λ x. x), (λ x. x))
seen_satisfies M N look Atmost (term m (term l (term v no_terms))) a sees agree h = rw (worth_seen look a agree m, worth_seen look a agree v, worths_seen look a agree N sees l) ((λ x. x), (λ x. x))
seen_satisfies M N look And (term x (term y (term z no_terms))) a sees agree h = rw (worth_seen look a agree x, worth_seen look a agree y, worth_seen look a agree z) ((λ q. q), (λ q. q))
seen_satisfies M N look Or (term x (term y (term z no_terms))) a sees agree h = rw (worth_seen look a agree x, worth_seen look a agree y, worth_seen look a agree z) ((λ q. q), (λ q. q))
seen_satisfies M N look Not (term x (term y no_terms)) a sees agree h = rw (worth_seen look a agree x, worth_seen look a agree y) ((λ q. q), (λ q. q))
seen_satisfies M N look Reified (term b (term k no_terms)) a sees agree h = rw (worth_seen look a agree b) (tells_seen look a agree N sees k (worth a b))
seen_satisfies _ _ look _ _ a sees agree h = ((λ x. x), (λ x. x))
