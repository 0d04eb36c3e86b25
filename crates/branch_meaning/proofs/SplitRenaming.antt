-- Products and Boolean constraints under other names of their variables.
use Rattle.std.proofs.Common.{◌≡◌, ℕ, suc, ◌+◌, ◌*◌, ◌≤◌, ◌==◌, ◌&&◌, Bool, true, false, cond, ℤ, pos, negsuc, neg_ℤ, ◌+ℤ◌, ◌-ℤ◌, List, [], ◌∷◌, ◌++◌, codes}
use Rattle.std.proofs.Common.{refl, ap, sym, ◌∙◌, subst, inl, inr, arith, Option, Some, None, Result, Ok, Err, eq-eqb, ne_eqb, eqb-true, nat_abs}
use Rattle.std.specs.List.{list_all}
use Rattle.std.specs.Option.{option_or}
use Rattle.std.specs.Str.{bytes_eq}
use Rattle.std.proofs.lemmas.Bool.{cases_Bool, true≢false}
use Rattle.std.proofs.lemmas.List.{map-append}
use Rattle.fd_model.specs.declared.kinds.QueryFault.{QueryFault}
use Rattle.fd_model.specs.declared.kinds.QueryFault.TheVariants.{Evaluation}
use Rattle.fd_model.specs.declared.kinds.Relation.{Relation}
use Rattle.fd_model.specs.declared.kinds.Relation.TheVariants.{Equal, Differ, Less, AtMost, Greater, AtLeast}
use Rattle.fd_model.specs.declared.kinds.ConstraintKind.{ConstraintKind}
use Rattle.fd_model.specs.declared.kinds.ConstraintKind.TheVariants.{Compare, AllDifferent, Element, Atmost, And, Or, Not, Reified}
use Rattle.fd_language.specs.Term.{Term, Terms, Var, Int, Atom, Comp, no_terms, term, Substitution, apply, apply_all}
use Rattle.fd_language.specs.Family.{has}
use Rattle.fd_language.specs.Variables.{variables_of, variables_of_all}
use Rattle.fd_language.specs.Range.{Indexical}
use Rattle.fd_language.specs.RangeRenaming.{rename_indexical}
use Rattle.fd_model.specs.Linear.{Linear, Comparison, IsEqual, IsOther, IsAtMost, scaled, turned, nonzero, with_product, in_integers, of_one, of_both, collect}
use Rattle.fd_model.specs.Linear.{normal, normal_form}
use Rattle.fd_model.specs.LinearRows.{Expansion, rows_behind}
use Rattle.fd_model.specs.Members.{Member, Open, Known, as_member, place_of, after, equated_from, fresh_after}
use Rattle.fd_model.specs.ProductRows.{Product, factors, with_result, product_form, product_ranges}
use Rattle.fd_model.specs.BooleanRows.{and_ranges, or_ranges, not_ranges}
use Rattle.fd_model.specs.ReifiedRows.{relation_named, formed, read_sides, read_comparison, magnitudes, reach, collected_again, two as both, told_by, both_sums}
use Rattle.fd_model.specs.ReifiedRows.{equal_ranges, reified_sums, reified_ranges, reified_end}
use Rattle.fd_model.specs.Splitting.{Split, sum_rows, joined, on_members, pair_of, on_two, on_three, of_three, told, reified, product_of, split}
use Rattle.fd_model.specs.ConstraintExpansion.{basic, by_split, expand}
use Rattle.fd_language.proofs.Lemmas.{two, in_left, in_right}
use Rattle.fd_model.proofs.Lemmas.{first_member, AllVars, all_vars, vars_scaled, collect_vars, normal_vars}
use Rattle.branch_meaning.specs.Rows.{rename_products, rename_expansion, rename_row}
use Rattle.branch_meaning.proofs.LabelRenaming.{rename_member, rename_members, rename_one, one_renamed}
use Rattle.branch_meaning.proofs.SumRenaming.{rename_linear, scaled_renamed, nonzero_renamed, all_renamed, form_renamed, collect_renamed}
use Rattle.branch_meaning.proofs.RowRenaming.{ranges_renamed, behind_renamed, place_renamed, after_renamed, after_grows, equated_renamed, fresh_renamed}
use Rattle.branch_meaning.proofs.RowRenaming.{basic_renamed}

abbrev rename_form : (ℕ → ℕ) → Linear → Linear
rename_form f l = record { products = rename_products f l.products; constant = l.constant }

abbrev rename_forms : (ℕ → ℕ) → List Linear → List Linear
rename_forms f [] = []
rename_forms f (l ∷ ls) = rename_form f l ∷ rename_forms f ls

abbrev rename_sums : (ℕ → ℕ) → Result (List Linear) QueryFault → Result (List Linear) QueryFault
rename_sums f (Err e) = Err e
rename_sums f (Ok ls) = Ok (rename_forms f ls)

abbrev rename_split : (ℕ → ℕ) → Split → Split
rename_split f s = record { equated = rename_products f s.equated; ranges = ranges_renamed f s.ranges; sums = rename_forms f s.sums; fresh = f s.fresh }

abbrev rename_result : (ℕ → ℕ) → Result Split QueryFault → Result Split QueryFault
rename_result f (Err e) = Err e
rename_result f (Ok s) = Ok (rename_split f s)

abbrev rename_option : (ℕ → ℕ) → Option (Result Split QueryFault) → Option (Result Split QueryFault)
rename_option f None = None
rename_option f (Some r) = Some (rename_result f r)

abbrev rename_factors : (ℕ → ℕ) → Option (ℕ × ℕ) → Option (ℕ × ℕ)
rename_factors f None = None
rename_factors f (Some p) = Some (f p.0, f p.1)

abbrev rename_product : (ℕ → ℕ) → Option Product → Option Product
rename_product f None = None
rename_product f (Some p) = Some (record { left = f p.left; right = f p.right; result = rename_member f p.result })

abbrev rename_compared : (ℕ → ℕ) → Result (Comparison × Linear) QueryFault → Result (Comparison × Linear) QueryFault
rename_compared f (Err e) = Err e
rename_compared f (Ok p) = Ok (p.0, rename_form f p.1)

-- two names are told apart as before
same_names : (f : ℕ → ℕ) (a b : ℕ) → (f a ≡ f b → a ≡ b) → (f a == f b) ≡ (a == b)
same_names f a b h = elim (cases_Bool (a == b)) [
  | inl e ↦ eq-eqb (f a) (f b) (ap f (eqb-true a b e)) ∙ sym e
  | inr e ↦ ne_eqb (f a) (f b) (λ g. true≢false (sym (eq-eqb a b (h g)) ∙ e)) ∙ sym e
]

module _ (f : ℕ → ℕ) where
  -- ---- sums

  teller_product : (ts : List (ℕ × ℤ)) (b : ℕ) (w : ℤ) → AllVars (λ v. f v ≡ f b → v ≡ b) ts → with_product (rename_products f ts) (f b) w ≡ rename_products f (with_product ts b w)
  teller_product [] b w h = refl
  teller_product (t ∷ ts) b w h =
      ap (λ c. cond c ((f b, t.1 +ℤ w) ∷ rename_products f ts) ((f t.0, t.1) ∷ with_product (rename_products f ts) (f b) w)) (same_names f t.0 b h.0)
      ∙ by_test (t.0 == b) (teller_product ts b w h.1)
    where
      by_test : (c : Bool) → with_product (rename_products f ts) (f b) w ≡ rename_products f (with_product ts b w)
          → cond c ((f b, t.1 +ℤ w) ∷ rename_products f ts) ((f t.0, t.1) ∷ with_product (rename_products f ts) (f b) w) ≡ rename_products f (cond c ((b, t.1 +ℤ w) ∷ ts) (t ∷ with_product ts b w))
      by_test true e = refl
      by_test false e = ap (λ l. (f t.0, t.1) ∷ l) e

  again_renamed : (ts : List (ℕ × ℤ)) (c : ℤ) → collected_again (rename_products f ts) c ≡ rename_linear f (collected_again ts c)
  again_renamed ts c =
      two (λ d us. cond (in_integers c && d) (Ok (record { products = us; constant = c })) (Err Evaluation)) (all_renamed f in_integers ts) (nonzero_renamed f ts)
      ∙ by_test (in_integers c && list_all (λ t. in_integers t.1) ts)
    where
      by_test : (d : Bool) → cond d (Ok (record { products = rename_products f (nonzero ts); constant = c })) (Err Evaluation) ≡ rename_linear f
          (cond d (Ok (record { products = nonzero ts; constant = c })) (Err Evaluation))
      by_test true = refl
      by_test false = refl

  both_renamed : (l m : Result Linear QueryFault) → of_both both (rename_linear f l) (rename_linear f m) ≡ rename_sums f (of_both both l m)
  both_renamed (Err e) m = refl
  both_renamed (Ok l) (Err e) = refl
  both_renamed (Ok l) (Ok m) = refl

  told_by_renamed : (b : ℕ) (w : ℤ) (l : Linear) → AllVars (λ v. f v ≡ f b → v ≡ b) l.products → told_by (f b) w (rename_form f l) ≡ rename_sums f (told_by b w l)
  told_by_renamed b w l h =
      let ts = with_product l.products b w in
      ap (λ us. cond (in_integers w) (of_both both (collected_again us (l.constant +ℤ w)) (collected_again (scaled (negsuc 0) us) (neg_ℤ l.constant -ℤ pos 1)))
      (Err Evaluation)) (teller_product l.products b w h)
      ∙ by_test ts (in_integers w)
    where
      by_test : (ts : List (ℕ × ℤ)) (c : Bool) → cond c
          (of_both both (collected_again (rename_products f ts) (l.constant +ℤ w))
          (collected_again (scaled (negsuc 0) (rename_products f ts)) (neg_ℤ l.constant -ℤ pos 1))) (Err Evaluation)
          ≡ rename_sums f (cond c (of_both both (collected_again ts (l.constant +ℤ w)) (collected_again (scaled (negsuc 0) ts) (neg_ℤ l.constant -ℤ pos 1))) (Err Evaluation))
      by_test ts true =
          two (of_both both) (again_renamed ts (l.constant +ℤ w)) (ap (λ us. collected_again us (neg_ℤ l.constant -ℤ pos 1)) (scaled_renamed f (negsuc 0) ts)
          ∙ again_renamed (scaled (negsuc 0) ts) (neg_ℤ l.constant -ℤ pos 1))
          ∙ both_renamed (collected_again ts (l.constant +ℤ w)) (collected_again (scaled (negsuc 0) ts) (neg_ℤ l.constant -ℤ pos 1))
      by_test ts false = refl

  magnitudes_renamed : (ts : List (ℕ × ℤ)) → magnitudes (rename_products f ts) ≡ magnitudes ts
  magnitudes_renamed [] = refl
  magnitudes_renamed (t ∷ ts) = ap (λ m. nat_abs t.1 + m) (magnitudes_renamed ts)

  reach_renamed : (M : ℕ) (l : Linear) → reach M (rename_form f l) ≡ reach M l
  reach_renamed M l = ap (λ m. suc (nat_abs l.constant + M * m)) (magnitudes_renamed l.products)

  turned_renamed : (l : Linear) → turned (rename_form f l) ≡ rename_form f (turned l)
  turned_renamed l = ap (λ ts. record { products = ts; constant = neg_ℤ l.constant }) (scaled_renamed f (negsuc 0) l.products)

  forms_joined : (ls ms : List Linear) → rename_forms f ls ++ rename_forms f ms ≡ rename_forms f (ls ++ ms)
  forms_joined [] ms = refl
  forms_joined (l ∷ ls) ms = ap (λ k. rename_form f l ∷ k) (forms_joined ls ms)

  sums_joined : (ls ms : Result (List Linear) QueryFault) → of_both both_sums (rename_sums f ls) (rename_sums f ms) ≡ rename_sums f (of_both both_sums ls ms)
  sums_joined (Err e) ms = refl
  sums_joined (Ok ls) (Err e) = refl
  sums_joined (Ok ls) (Ok ms) = ap Ok (forms_joined ls ms)

  sum_rows_renamed : (ls : List Linear) → sum_rows (rename_forms f ls) ≡ ranges_renamed f (sum_rows ls)
  sum_rows_renamed [] = refl
  sum_rows_renamed (l ∷ ls) =
      two (λ a b. a ++ b) (behind_renamed f IsAtMost l.constant [] l.products) (sum_rows_renamed ls)
      ∙ sym (map-append (rename_indexical f) (rows_behind IsAtMost l.constant [] l.products) (sum_rows ls))

  joined_renamed : (s : Split) → joined (rename_split f s) ≡ rename_expansion f (joined s)
  joined_renamed s =
      ap (λ ps. record { equated = rename_products f s.equated; ranges = ps; fresh = f s.fresh })
      (ap (λ b. ranges_renamed f s.ranges ++ b) (sum_rows_renamed s.sums) ∙ sym (map-append (rename_indexical f) s.ranges (sum_rows s.sums)))

  by_split_renamed : (o : Option (Result Split QueryFault)) (r : Result Expansion QueryFault) → by_split (rename_option f o) (rename_row f r) ≡ rename_row f (by_split o r)
  by_split_renamed None r = refl
  by_split_renamed (Some (Err e)) r = refl
  by_split_renamed (Some (Ok s)) r = ap Ok (joined_renamed s)

  -- ---- from here on fresh variables follow one another as they did, and none has the name of one of vs
  module _ (n : ℕ) (follows : (m : ℕ) → n ≤ m → f (suc m) ≡ suc (f m)) where
    abbrev parts : List (ℕ × ℤ) → List Indexical → ℕ → Split
    parts a b c = record { equated = a; ranges = b; sums = []; fresh = c }

    members_renamed : (ms : List Member) (ps qs : List Indexical) → qs ≡ ranges_renamed f ps → on_members (f n) (rename_members f ms) qs ≡ rename_split f (on_members n ms ps)
    members_renamed ms ps qs h =
        let l : n ≤ n = omega arith in
        two (λ x y. parts x y (fresh_after (f n) (rename_members f ms))) (equated_renamed f n follows n ms l) h
        ∙ ap (parts (rename_products f (equated_from n ms)) (ranges_renamed f ps)) (fresh_renamed f n follows n ms l)

    first_place : (m : Member) → place_of (f n) (rename_member f m) ≡ f (place_of n m)
    first_place m = place_renamed f n follows n m

    second_place : (p m : Member) → place_of (after (f n) (rename_member f p)) (rename_member f m) ≡ f (place_of (after n p) m)
    second_place p m = ap (λ j. place_of j (rename_member f m)) (after_renamed f n follows n p (omega arith)) ∙ place_renamed f n follows (after n p) m

    third_place : (p q m : Member) → place_of (after (after (f n) (rename_member f p)) (rename_member f q)) (rename_member f m) ≡ f (place_of (after (after n p) q) m)
    third_place p q m =
        ap (λ j. place_of j (rename_member f m)) (ap (λ j. after j (rename_member f q)) (after_renamed f n follows n p (omega arith))
        ∙ after_renamed f n follows (after n p) q (after_grows f n follows n p (omega arith)))
        ∙ place_renamed f n follows (after (after n p) q) m

    two_renamed : (rows : ℕ → ℕ → List Indexical) → ((x y : ℕ) → rows (f x) (f y) ≡ ranges_renamed f (rows x y)) → (p q : Result Member QueryFault)
        → of_both (λ a b. Ok (on_two rows (f n) a b)) (rename_one f p) (rename_one f q) ≡ rename_result f (of_both (λ a b. Ok (on_two rows n a b)) p q)
    two_renamed rows h (Err e) q = refl
    two_renamed rows h (Ok p) (Err e) = refl
    two_renamed rows h (Ok p) (Ok q) = ap Ok (members_renamed (p ∷ q ∷ []) (rows (place_of n p) (place_of (after n p) q)) _
        (two rows (first_place p) (second_place p q) ∙ h (place_of n p) (place_of (after n p) q)))

    three_renamed : (rows : ℕ → ℕ → ℕ → List Indexical) → ((x y z : ℕ) → rows (f x) (f y) (f z) ≡ ranges_renamed f (rows x y z)) → (p q r : Result Member QueryFault)
        → of_both (λ a b. Ok (on_three rows (f n) a.0 a.1 b)) (of_both pair_of (rename_one f p) (rename_one f q)) (rename_one f r) ≡ rename_result f
        (of_both (λ a b. Ok (on_three rows n a.0 a.1 b)) (of_both pair_of p q) r)
    three_renamed rows h (Err e) q r = refl
    three_renamed rows h (Ok p) (Err e) r = refl
    three_renamed rows h (Ok p) (Ok q) (Err e) = refl
    three_renamed rows h (Ok p) (Ok q) (Ok r) =
        let x = place_of n p in
        let y = place_of (after n p) q in
        let z = place_of (after (after n p) q) r in
        ap Ok (members_renamed (p ∷ q ∷ r ∷ []) (rows x y z) _
        (two (λ a b. rows a b (place_of (after (after (f n) (rename_member f p)) (rename_member f q)) (rename_member f r))) (first_place p) (second_place p q)
        ∙ ap (rows (f x) (f y)) (third_place p q r) ∙ h x y z))

    product_renamed : (p : Option Product) → product_of (f n) (rename_product f p) ≡ rename_option f (product_of n p)
    product_renamed None = refl
    product_renamed (Some p) = ap (λ s. Some (Ok s)) (members_renamed (p.result ∷ []) (product_ranges p.left p.right (place_of n p.result)) _
        (ap (product_ranges (f p.left) (f p.right)) (first_place p.result)))

    -- ---- what a comparison is told by
    module _ (M : ℕ) (vs : List ℕ) (apart : (a b : ℕ) → has vs a ≡ true → has vs b ≡ true → f a ≡ f b → a ≡ b) (new : (y k : ℕ) → has vs y ≡ true → n ≤ k → f y ≡ f k → ⊥) where
      abbrev Among : ℕ → Type 0
      Among v = has vs v ≡ true

      fresh_teller : (k : ℕ) → n ≤ k → (ts : List (ℕ × ℤ)) → AllVars Among ts → AllVars (λ v. f v ≡ f k → v ≡ k) ts
      fresh_teller k g ts h = all_vars Among (λ v. f v ≡ f k → v ≡ k) (λ v i e. absurd (new v k i g e)) ts h

      member_teller : (b : Member) → ((x : ℕ) → b ≡ Open x → Among x) → (ts : List (ℕ × ℤ)) → AllVars Among ts → AllVars (λ v. f v ≡ f (place_of n b) → v ≡ place_of n b) ts
      member_teller (Open x) k ts h = all_vars Among (λ v. f v ≡ f x → v ≡ x) (λ v i e. apart v x i (k x refl) e) ts h
      member_teller (Known z) k ts h = fresh_teller n (omega arith) ts h

      told_at : (b : ℕ) (l : Linear) → AllVars (λ v. f v ≡ f b → v ≡ b) l.products → told_by (f b) (pos (reach M (rename_form f l))) (rename_form f l) ≡ rename_sums f (told_by b (pos (reach M l)) l)
      told_at b l h = ap (λ w. told_by (f b) (pos w) (rename_form f l)) (reach_renamed M l) ∙ told_by_renamed b (pos (reach M l)) l h

      turned_at : (b : ℕ) (l : Linear) → AllVars (λ v. f v ≡ f b → v ≡ b) (turned l).products
          → told_by (f b) (pos (reach M (rename_form f l))) (turned (rename_form f l)) ≡ rename_sums f (told_by b (pos (reach M l)) (turned l))
      turned_at b l h = two (λ w k. told_by (f b) (pos w) k) (reach_renamed M l) (turned_renamed l) ∙ told_by_renamed b (pos (reach M l)) (turned l) h

      sums_renamed : (c : Comparison) (b : ℕ) (k : ℕ) (l : Linear) → n ≤ k → AllVars Among l.products → AllVars (λ v. f v ≡ f b → v ≡ b) l.products
          → reified_sums M c (f b) (f k) (rename_form f l) ≡ rename_sums f (reified_sums M c b k l)
      sums_renamed IsAtMost b k l g h t = told_at b l t
      sums_renamed IsEqual b k l g h t =
          let back = vars_scaled Among (negsuc 0) l.products h in
          two (of_both both_sums) (told_at k l (fresh_teller k g l.products h))
          (ap (λ j. told_by j (pos (reach M (rename_form f l))) (turned (rename_form f l))) (sym (follows k g))
          ∙ turned_at (suc k) l (fresh_teller (suc k) (omega (arith, g)) (turned l).products back))
          ∙ sums_joined (told_by k (pos (reach M l)) l) (told_by (suc k) (pos (reach M l)) (turned l))
      sums_renamed IsOther b k l g h t =
          let back = vars_scaled Among (negsuc 0) l.products h in
          two (of_both both_sums)
          (ap (λ j. told_by j (pos (reach M (rename_form f l))) (rename_form f l)) (sym (follows k g)) ∙ told_at (suc k) l (fresh_teller (suc k) (omega (arith, g)) l.products h))
          (ap (λ j. told_by j (pos (reach M (rename_form f l))) (turned (rename_form f l)))
          (ap suc (sym (follows k g)) ∙ sym (follows (suc k) (omega (arith, g))))
          ∙ turned_at (suc (suc k)) l (fresh_teller (suc (suc k)) (omega (arith, g)) (turned l).products back))
          ∙ sums_joined (told_by (suc k) (pos (reach M l)) l) (told_by (suc (suc k)) (pos (reach M l)) (turned l))

      told_ranges : (c : Comparison) (b k : ℕ) → n ≤ k → reified_ranges c (f b) (f k) ≡ ranges_renamed f (reified_ranges c b k)
      told_ranges IsAtMost b k g = refl
      told_ranges IsEqual b k g = ap (equal_ranges (f b) (f k)) (sym (follows k g))
      told_ranges IsOther b k g = two (λ i j. equal_ranges (f k) i j ++ not_ranges (f k) (f b)) (sym (follows k g)) (ap suc (sym (follows k g)) ∙ sym (follows (suc k) (omega (arith, g))))

      told_end : (c : Comparison) (k : ℕ) → n ≤ k → reified_end c (f k) ≡ f (reified_end c k)
      told_end IsAtMost k g = refl
      told_end IsEqual k g =
          let a = follows k g in let b = follows (suc k) (omega (arith, g)) in
          let e : f k + 2 ≡ f (suc (suc k)) = omega (arith, a, b) in let i : suc (suc k) ≡ k + 2 = omega arith in e ∙ ap f i
      told_end IsOther k g =
          let a = follows k g in let b = follows (suc k) (omega (arith, g)) in let c = follows (suc (suc k)) (omega (arith, g)) in
          let e : f k + 3 ≡ f (suc (suc (suc k))) = omega (arith, a, b, c) in let i : suc (suc (suc k)) ≡ k + 3 = omega arith in e ∙ ap f i

      abbrev telling : List (ℕ × ℤ) → List Indexical → ℕ → List Linear → Result Split QueryFault
      telling a b c ls = Ok (record { equated = a; ranges = b; sums = ls; fresh = c })

      with_sums : (a : List (ℕ × ℤ)) (b : List Indexical) (c : ℕ) (ls : Result (List Linear) QueryFault)
          → of_one (telling (rename_products f a) (ranges_renamed f b) (f c)) (rename_sums f ls) ≡ rename_result f (of_one (telling a b c) ls)
      with_sums a b c (Err e) = refl
      with_sums a b c (Ok ls) = refl

      told_renamed : (b : Member) (p : Comparison × Linear) → ((x : ℕ) → b ≡ Open x → Among x) → AllVars Among p.1.products
          → told M (f n) (rename_member f b) (p.0, rename_form f p.1) ≡ rename_result f (told M n b p)
      told_renamed b p k h =
          let l : n ≤ n = omega arith in
          let up : n ≤ after n b = after_grows f n follows n b l in
          let x = place_of n b in
          let m = after n b in
          two (λ i j. of_one (telling (equated_from (f n) (rename_member f b ∷ [])) (reified_ranges p.0 i j) (reified_end p.0 j))
          (reified_sums M p.0 i j (rename_form f p.1))) (first_place b) (after_renamed f n follows n b l)
          ∙ ap (of_one (telling (equated_from (f n) (rename_member f b ∷ [])) (reified_ranges p.0 (f x) (f m)) (reified_end p.0 (f m))))
          (sums_renamed p.0 x m p.1 up h (member_teller b k p.1.products h))
          ∙ two (λ i j. of_one (telling i j (reified_end p.0 (f m))) (rename_sums f (reified_sums M p.0 x m p.1))) (equated_renamed f n follows n (b ∷ []) l) (told_ranges p.0 x m up)
          ∙ ap (λ c. of_one (telling (rename_products f (equated_from n (b ∷ []))) (ranges_renamed f (reified_ranges p.0 x m)) c) (rename_sums f (reified_sums M p.0 x m p.1))) (told_end p.0 m up)
          ∙ with_sums (equated_from n (b ∷ [])) (reified_ranges p.0 x m) (reified_end p.0 m) (reified_sums M p.0 x m p.1)

      -- ---- what is read
      module _ (u : Substitution) (named : (y : ℕ) → has vs y ≡ true → u y ≡ Var (f y)) where
        abbrev In : List ℕ → Type 0
        In xs = (y : ℕ) → has xs y ≡ true → has vs y ≡ true

        factors_renamed : (t : Term) → In (variables_of t) → factors (apply u t) ≡ rename_factors f (factors t)
        factors_renamed (Var x) i = ap factors (named x (i x (first_member x [])))
        factors_renamed (Int z) i = refl
        factors_renamed (Atom a) i = refl
        factors_renamed (Comp g no_terms) i = refl
        factors_renamed (Comp g (term (Int z) ts)) i = refl
        factors_renamed (Comp g (term (Atom a) ts)) i = refl
        factors_renamed (Comp g (term (Comp k ks) ts)) i = refl
        factors_renamed (Comp g (term (Var x) no_terms)) i = ap (λ w. factors (Comp g (term w no_terms))) (named x (i x (first_member x [])))
        factors_renamed (Comp g (term (Var x) (term (Int z) ts))) i = ap (λ w. factors (Comp g (term w (term (Int z) (apply_all u ts))))) (named x (i x (first_member x (variables_of_all ts))))
        factors_renamed (Comp g (term (Var x) (term (Atom a) ts))) i = ap (λ w. factors (Comp g (term w (term (Atom a) (apply_all u ts))))) (named x (i x (first_member x (variables_of_all ts))))
        factors_renamed (Comp g (term (Var x) (term (Comp k ks) ts))) i = ap (λ w. factors (Comp g (term w (term (apply u (Comp k ks)) (apply_all u ts)))))
            (named x (i x (first_member x (variables_of_all (term (Comp k ks) ts)))))
        factors_renamed (Comp g (term (Var x) (term (Var y) (term c cs)))) i =
            two (λ v w. factors (Comp g (term v (term w (apply_all u (term c cs)))))) (named x (i x (first_member x (y ∷ variables_of_all (term c cs)))))
            (named y (i y (in_right (x ∷ []) (y ∷ variables_of_all (term c cs)) y (first_member y (variables_of_all (term c cs))))))
        factors_renamed (Comp g (term (Var x) (term (Var y) no_terms))) i =
            two (λ v w. factors (Comp g (term v (term w no_terms)))) (named x (i x (first_member x (y ∷ [])))) (named y (i y (in_right (x ∷ []) (y ∷ []) y (first_member y []))))
            ∙ by_test (bytes_eq g (codes "*"))
          where
            by_test : (c : Bool) → cond c (Some (f x, f y)) None ≡ rename_factors f (cond c (Some (x, y)) None)
            by_test true = refl
            by_test false = refl

        result_renamed : (p : Option (ℕ × ℕ)) (t : Term) → In (variables_of t) → with_result (rename_factors f p) (apply u t) ≡ rename_product f (with_result p t)
        result_renamed None t i = refl
        result_renamed (Some p) (Var z) i = ap (with_result (Some (f p.0, f p.1))) (named z (i z (first_member z [])))
        result_renamed (Some p) (Int z) i = refl
        result_renamed (Some p) (Atom a) i = refl
        result_renamed (Some p) (Comp g ts) i = refl

        either_product : (p q : Option Product) → option_or (rename_product f p) (rename_product f q) ≡ rename_product f (option_or p q)
        either_product None q = refl
        either_product (Some p) q = refl

        form_of_product : (r : Relation) (s t : Term) → In (variables_of s) → In (variables_of t) → product_form r (apply u s) (apply u t) ≡ rename_product f (product_form r s t)
        form_of_product Equal s t i j =
            two option_or
            (ap (λ p. with_result p (apply u t)) (factors_renamed s i) ∙ result_renamed (factors s) t j)
            (ap (λ p. with_result p (apply u s)) (factors_renamed t j) ∙ result_renamed (factors t) s i)
            ∙ either_product (with_result (factors s) t) (with_result (factors t) s)
        form_of_product Differ s t i j = refl
        form_of_product Less s t i j = refl
        form_of_product AtMost s t i j = refl
        form_of_product Greater s t i j = refl
        form_of_product AtLeast s t i j = refl

        formed_renamed : (r : Relation) (l : Result Linear QueryFault) → of_one (formed r) (rename_linear f l) ≡ rename_compared f (of_one (formed r) l)
        formed_renamed r (Err e) = refl
        formed_renamed r (Ok l) = refl

        sides_renamed : (o : Option Relation) (s t : Term) → In (variables_of s) → In (variables_of t) → read_sides o (apply u s) (apply u t) ≡ rename_compared f (read_sides o s t)
        sides_renamed None s t i j = refl
        sides_renamed (Some r) s t i j =
            ap (λ l. of_one (formed r) (of_one (normal_form r) l)) (collect_renamed f vs apart u named s t i j)
            ∙ ap (of_one (formed r)) (form_renamed f r (collect s t))
            ∙ formed_renamed r (of_one (normal_form r) (collect s t))

        comparison_renamed : (k : Term) → In (variables_of k) → read_comparison (apply u k) ≡ rename_compared f (read_comparison k)
        comparison_renamed (Var x) i = ap read_comparison (named x (i x (first_member x [])))
        comparison_renamed (Int z) i = refl
        comparison_renamed (Atom a) i = refl
        comparison_renamed (Comp g no_terms) i = refl
        comparison_renamed (Comp g (term s no_terms)) i = refl
        comparison_renamed (Comp g (term s (term t no_terms))) i =
            sides_renamed (relation_named g) s t (λ y c. i y (in_left (variables_of s) (variables_of_all (term t no_terms)) y c))
            (λ y c. i y (in_right (variables_of s) (variables_of_all (term t no_terms)) y (in_left (variables_of t) [] y c)))
        comparison_renamed (Comp g (term s (term t (term w ws)))) i = refl

        -- the sums of what is read name variables among vs
        HasForm : Result (Comparison × Linear) QueryFault → Type 0
        HasForm (Err e) = Unit {0}
        HasForm (Ok p) = AllVars Among p.1.products

        formed_vars : (r : Relation) (l : Linear) → AllVars Among l.products → HasForm (of_one (formed r) (normal_form r l))
        unfolding HasForm
        formed_vars r l h = by_test (in_integers (normal r l).constant) where
          by_test : (c : Bool) → HasForm (of_one (formed r) (cond c (Ok (normal r l)) (Err Evaluation)))
          by_test true = normal_vars Among r l h
          by_test false = tt

        sides_vars : (o : Option Relation) (s t : Term) → In (variables_of s) → In (variables_of t) → HasForm (read_sides o s t)
        unfolding HasForm
        sides_vars None s t i j = tt
        sides_vars (Some r) s t i j = by_sum (collect s t) (λ l e. collect_vars Among s t l i j e) where
          by_sum : (w : Result Linear QueryFault) → ((l : Linear) → w ≡ Ok l → AllVars Among l.products) → HasForm (of_one (formed r) (of_one (normal_form r) w))
          by_sum (Err e) h = tt
          by_sum (Ok l) h = formed_vars r l (h l refl)

        comparison_vars : (k : Term) → In (variables_of k) → HasForm (read_comparison k)
        unfolding HasForm
        comparison_vars (Comp g (term s (term t no_terms))) i =
            sides_vars (relation_named g) s t (λ y c. i y (in_left (variables_of s) (variables_of_all (term t no_terms)) y c))
            (λ y c. i y (in_right (variables_of s) (variables_of_all (term t no_terms)) y (in_left (variables_of t) [] y c)))
        comparison_vars (Var x) i = tt
        comparison_vars (Int z) i = tt
        comparison_vars (Atom a) i = tt
        comparison_vars (Comp g no_terms) i = tt
        comparison_vars (Comp g (term s no_terms)) i = tt
        comparison_vars (Comp g (term s (term t (term w ws)))) i = tt

        by_reading : (b : Result Member QueryFault) (p : Result (Comparison × Linear) QueryFault) → ((x : ℕ) → b ≡ Ok (Open x) → Among x) → HasForm p
            → of_both (told M (f n)) (rename_one f b) (rename_compared f p) ≡ rename_result f (of_both (told M n) b p)
        unfolding HasForm
        by_reading (Err e) p k h = refl
        by_reading (Ok b) (Err e) k h = refl
        by_reading (Ok b) (Ok p) k h = told_renamed b p (λ x e. k x (ap Ok e)) h

        open_there : (b : Term) → In (variables_of b) → (x : ℕ) → as_member b ≡ Ok (Open x) → Among x
        open_there (Var y) i x e = let same : y ≡ x = cc in subst Among same (i y (first_member y []))
        open_there (Int z) i x e = absurd (cc)
        open_there (Atom a) i x e = absurd (cc)
        open_there (Comp g ts) i x e = absurd (cc)

        reified_renamed : (b k : Term) → In (variables_of b) → In (variables_of k) → reified M (apply u b) (apply u k) (f n) ≡ rename_result f (reified M b k n)
        reified_renamed b k i j =
            two (of_both (told M (f n))) (one_renamed u f b (λ y c. named y (i y c))) (comparison_renamed k j)
            ∙ by_reading (as_member b) (read_comparison k) (open_there b i) (comparison_vars k j)

        first_in : (s : Term) (ts : Terms) → In (variables_of_all (term s ts)) → In (variables_of s)
        first_in s ts i y c = i y (in_left (variables_of s) (variables_of_all ts) y c)

        rest_in : (s : Term) (ts : Terms) → In (variables_of_all (term s ts)) → In (variables_of_all ts)
        rest_in s ts i y c = i y (in_right (variables_of s) (variables_of_all ts) y c)

        gates_renamed : (rows : ℕ → ℕ → ℕ → List Indexical) → ((x y z : ℕ) → rows (f x) (f y) (f z) ≡ ranges_renamed f (rows x y z)) → (x y z : Term)
            → In (variables_of_all (term x (term y (term z no_terms))))
            → of_three rows (apply u x) (apply u y) (apply u z) (f n) ≡ rename_result f (of_three rows x y z n)
        gates_renamed rows h x y z i =
            let j = rest_in x (term y (term z no_terms)) i in
            two (of_both (λ a b. Ok (on_three rows (f n) a.0 a.1 b)))
            (two (of_both pair_of) (one_renamed u f x (λ v c. named v (first_in x (term y (term z no_terms)) i v c))) (one_renamed u f y (λ v c. named v (first_in y (term z no_terms) j v c))))
            (one_renamed u f z (λ v c. named v (first_in z no_terms (rest_in y (term z no_terms) j) v c)))
            ∙ three_renamed rows h (as_member x) (as_member y) (as_member z)

        split_renamed : (kind : ConstraintKind) (ts : Terms) → In (variables_of_all ts) → split M kind (apply_all u ts) (f n) ≡ rename_option f (split M kind ts n)
        split_renamed (Compare r) (term s (term t no_terms)) i =
            ap (product_of (f n)) (form_of_product r s t (first_in s (term t no_terms) i) (first_in t no_terms (rest_in s (term t no_terms) i)))
            ∙ product_renamed (product_form r s t)
        split_renamed And (term x (term y (term z no_terms))) i = ap Some (gates_renamed and_ranges (λ a b c. refl) x y z i)
        split_renamed Or (term x (term y (term z no_terms))) i = ap Some (gates_renamed or_ranges (λ a b c. refl) x y z i)
        split_renamed Not (term x (term y no_terms)) i =
            ap Some (two (of_both (λ a b. Ok (on_two not_ranges (f n) a b))) (one_renamed u f x (λ v c. named v (first_in x (term y no_terms) i v c)))
            (one_renamed u f y (λ v c. named v (first_in y no_terms (rest_in x (term y no_terms) i) v c)))
            ∙ two_renamed not_ranges (λ a b. refl) (as_member x) (as_member y))
        split_renamed Reified (term b (term k no_terms)) i = ap Some (reified_renamed b k (first_in b (term k no_terms) i) (first_in k no_terms (rest_in b (term k no_terms) i)))
        split_renamed (Compare r) no_terms i = refl
        split_renamed (Compare r) (term s no_terms) i = refl
        split_renamed (Compare r) (term s (term t (term w ws))) i = refl
        split_renamed AllDifferent ts i = refl
        split_renamed Element ts i = refl
        split_renamed Atmost ts i = refl
        split_renamed And no_terms i = refl
        split_renamed And (term x no_terms) i = refl
        split_renamed And (term x (term y no_terms)) i = refl
        split_renamed And (term x (term y (term z (term w ws)))) i = refl
        split_renamed Or no_terms i = refl
        split_renamed Or (term x no_terms) i = refl
        split_renamed Or (term x (term y no_terms)) i = refl
        split_renamed Or (term x (term y (term z (term w ws)))) i = refl
        split_renamed Not no_terms i = refl
        split_renamed Not (term x no_terms) i = refl
        split_renamed Not (term x (term y (term z zs))) i = refl
        split_renamed Reified no_terms i = refl
        split_renamed Reified (term x no_terms) i = refl
        split_renamed Reified (term x (term y (term z zs))) i = refl

        pub expand_renamed : (kind : ConstraintKind) (ts : Terms) → In (variables_of_all ts) → expand M kind (apply_all u ts) (f n) ≡ rename_row f (expand M kind ts n)
        expand_renamed kind ts i =
            two by_split (split_renamed kind ts i) (basic_renamed f n follows u vs apart named kind ts i)
            ∙ by_split_renamed (split M kind ts n) (basic kind ts n)
