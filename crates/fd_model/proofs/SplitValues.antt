-- Where what is not added has one value, so have all the variables that the ranges of a product or a Boolean constraint name.
use Rattle.std.proofs.Common.{◌≡◌, ℕ, suc, ◌+◌, ◌*◌, ◌≤◌, ◌<◌, Bool, true, false, cond, ◌==◌, ℤ, pos, negsuc, ◌+ℤ◌, ◌-ℤ◌, ◌*ℤ◌, neg_ℤ, int_le, nat_abs, List}
use Rattle.std.proofs.Common.{[], ◌∷◌, ◌++◌, Some, append_assoc, refl, ap, sym, ◌∙◌, subst, inl, inr, ◌⊎◌, arith, eqb-true, eq-eqb, Ok}
use Rattle.std.specs.Ordering.{int_eq}
use Rattle.std.proofs.lemmas.Int.{ints}
use Rattle.std.proofs.lemmas.Bool.{or_cases, or_left, true≢false, cases_Bool}
use Rattle.fd_model.specs.declared.kinds.ConstraintKind.{ConstraintKind}
use Rattle.fd_model.specs.declared.kinds.ConstraintKind.TheVariants.{Compare, And, Or, Not, Reified}
use Rattle.fd_model.specs.declared.kinds.Relation.{Relation}
use Rattle.fd_language.specs.Term.{Term, Terms, no_terms, term}
use Rattle.fd_language.specs.Variables.{TermBelow, TermsBelow}
use Rattle.fd_language.specs.Lists.{Each}
use Rattle.fd_language.specs.Family.{Family, has, IsFamily, IsSubset}
use Rattle.fd_language.specs.Range.{Range, Indexical, set_of, reads, least}
use Rattle.fd_model.specs.ClosedFamilies.{constrained, AllPosted}
use Rattle.fd_model.specs.Linear.{Linear, Comparison, IsEqual, IsOther, IsAtMost, scaled, turned, with_product, nonzero}
use Rattle.fd_model.specs.LinearRows.{Expansion, row_by_sign, rows_behind}
use Rattle.fd_model.specs.Members.{Member, place_of, after, placed}
use Rattle.fd_model.specs.ProductRows.{Product, product, product_form, product_ranges}
use Rattle.fd_model.specs.BooleanRows.{bit, and_ranges, or_ranges, not_ranges}
use Rattle.fd_model.specs.ReifiedRows.{reach, equal_ranges, reified_sums, reified_ranges}
use Rattle.fd_model.specs.Splitting.{Split, sum_rows, joined, on_members, product_split, of_three, of_two, reified, split}
use Rattle.fd_model.specs.ConstraintExpansion.{expand}
use Rattle.fd_model.specs.Satisfaction.{Assignment, singles}
use Rattle.fd_model.specs.Ways.{is_equated}
use Rattle.fd_model.specs.ConstraintLaws.{total, AllEquatedIn, AllFresh, Determined}
use Rattle.fd_language.proofs.Lemmas.{has_high, set_agree, least_small}
use Rattle.fd_model.proofs.Sums.{total-with_product, total-scaled}
use Rattle.fd_model.proofs.ComparisonRows.{collect_nonzero, normal_nonzero}
use Rattle.fd_model.proofs.LinearForms.{NoneZero, nonzero_scaled, one_row}
use Rattle.fd_model.proofs.RowWidths.{weight}
use Rattle.fd_model.proofs.FreshVariables.{MembersBelow, member_read, changed, changed_here, changed_other, changed_small, fresh_grows}
use Rattle.fd_model.proofs.DeterminedValues.{NamesIn, single_from, IsOne, AllNamed, determined_by}
use Rattle.fd_model.proofs.RowNames.{AllVars, each_below, signed_names, vars_scaled}
use Rattle.fd_model.proofs.ListNames.{posted_left, posted_right, named_left, named_right, names_append, none_named, one_named, named_either}
use Rattle.fd_model.proofs.RowScopes.{all_vars}
use Rattle.fd_model.proofs.OneValues.{IsOld, HasOne, IfNamed, names_all, placed_one, one_integer, basic_one}
use Rattle.fd_model.proofs.Splits.{expand_ok, of_some, three_ok, two_ok, product_ok, rows_joined, IsTold, AreBothTold, both_told_ok, IsComparison, reified_ok}
use Rattle.fd_model.proofs.Splits.{told_split}
use Rattle.fd_model.proofs.BooleanRows.{inside_bit, from_between, at}
use Rattle.fd_model.proofs.ReifiedSums.{truth, told_is, total_size, reach_far, reach_turned}
use Rattle.fd_model.proofs.MemberRewriting.{product_form_ok, factor_members, product_below}
use Rattle.fd_model.proofs.ReifiedRewriting.{total_same, form_vars}
use Rattle.fd_model.proofs.SplitNames.{product_names, and_names, or_names, not_names, reified_names, equal_there, teller_there}
use Rattle.fd_model.proofs.SplitScopes.{scoped_rows}

pub form_nonzero : (k : Term) (p : Comparison × Linear) → IsComparison k p → NoneZero p.1.products
form_nonzero k p i = subst (λ (m : Linear). NoneZero m.products) i.normal_is (normal_nonzero i.relation i.linear (collect_nonzero i.left i.right i.linear i.collected))

-- a variable that a sum doesn't have is added behind the others
added_last : (ts : List (ℕ × ℤ)) (f : ℕ) (w : ℤ) → AllVars (λ v. v ≡ f → ⊥) ts → with_product ts f w ≡ ts ++ (f, w) ∷ []
added_last [] f w h = refl
added_last (t ∷ ts) f w h = by_test (t.0 == f) (eqb-true t.0 f) (added_last ts f w h.1) where
  by_test : (c : Bool) → (c ≡ true → t.0 ≡ f) → with_product ts f w ≡ ts ++ (f, w) ∷ [] → cond c ((f, t.1 +ℤ w) ∷ ts) (t ∷ with_product ts f w) ≡ t ∷ (ts ++ (f, w) ∷ [])
  by_test true e g = absurd (h.0 (e refl))
  by_test false e g = ap (λ us. t ∷ us) g

pub none_dropped : (ts : List (ℕ × ℤ)) → NoneZero ts → nonzero ts ≡ ts
none_dropped [] h = refl
none_dropped (t ∷ ts) h = by_test (int_eq t.1 (pos 0)) (zero_from t.1) (none_dropped ts h.1) where
  zero_from : (z : ℤ) → int_eq z (pos 0) ≡ true → z ≡ pos 0
  zero_from z h = grind (arith, ints)

  by_test : (c : Bool) → (c ≡ true → t.1 ≡ pos 0) → nonzero ts ≡ ts → cond c (nonzero ts) (t ∷ nonzero ts) ≡ t ∷ ts
  by_test true e g = absurd (h.0 (e refl))
  by_test false e g = ap (λ us. t ∷ us) g

none_zero_last : (ts : List (ℕ × ℤ)) (t : ℕ × ℤ) → NoneZero ts → (t.1 ≡ pos 0 → ⊥) → NoneZero (ts ++ t ∷ [])
none_zero_last [] t h g = (g, tt)
none_zero_last (u ∷ ts) t h g = (h.0, none_zero_last ts t h.1 g)

scaled_last : (k : ℤ) (ts : List (ℕ × ℤ)) (t : ℕ × ℤ) → scaled k (ts ++ t ∷ []) ≡ scaled k ts ++ (t.0, k *ℤ t.1) ∷ []
scaled_last k [] t = refl
scaled_last k (u ∷ ts) t = ap (λ us. (u.0, k *ℤ u.1) ∷ us) (scaled_last k ts t)

-- the variables of all products but the last are named
rows_there : (k : Comparison) (c : ℤ) (before ts : List (ℕ × ℤ)) → AllVars (λ v. has (constrained (rows_behind k c before ts)) v ≡ true) ts
rows_there k c before [] = tt
rows_there k c before (t ∷ ts) = (
  or_left _ _ (eq-eqb t.0 t.0 refl),
  all_vars (λ v. has (constrained (rows_behind k c (before ++ t ∷ []) ts)) v ≡ true) (λ v. has (constrained (rows_behind k c before (t ∷ ts))) v ≡ true)
      (λ v e. named_right (record { target = t.0; range = row_by_sign k c (before ++ ts) t.1 } ∷ []) (rows_behind k c (before ++ t ∷ []) ts) v e) ts (rows_there k c (before ++ t ∷ []) ts),
)

vars_front : (P : ℕ → Type 0) (ts us : List (ℕ × ℤ)) → AllVars P (ts ++ us) → AllVars P ts
vars_front P [] us h = tt
vars_front P (t ∷ ts) us h = (h.0, vars_front P ts us h.1)

vars_joined : (P : ℕ → Type 0) (ts us : List (ℕ × ℤ)) → AllVars P ts → AllVars P us → AllVars P (ts ++ us)
vars_joined P [] us h g = g
vars_joined P (t ∷ ts) us h g = (h.0, vars_joined P ts us h.1 g)

module _ (M : ℕ) (S : Family) (family : IsFamily M S) where
  abbrev Inside : List Indexical → Type 0
  Inside ps = AllPosted (λ p. IsSubset (S p.target) (set_of M S p.range)) ps

  -- the values that S has, with j at f
  valued : ℕ → ℕ → Assignment
  valued f j = changed (λ v. least (S v)) f j

  valued_small : (f j : ℕ) → has (S f) j ≡ true → (v : ℕ) → changed (λ v. least (S v)) f j v ≤ M
  valued_small f j h = changed_small M (λ v. least (S v)) f j (has_high 0 M (S f) j (family.rising f) h) (λ v. least_small M (S v) (family.rising v))

  one_least : (v : ℕ) → IsOne S v → S v ≡ least (S v) ∷ []
  one_least v h = let e = ap least h.1 in cc

  valued_other : (f j v : ℕ) → (v ≡ f → ⊥) → IsOne S v → S v ≡ changed (λ v. least (S v)) f j v ∷ []
  valued_other f j v n h = one_least v h ∙ ap (λ k. k ∷ []) (sym (changed_other (λ v. least (S v)) f j v n))

  -- a range on f that reads only variables of one value
  range_told : (f j : ℕ) (r : Range) → ((v : ℕ) → has (reads r) v ≡ true → (v ≡ f → ⊥) × IsOne S v) → IsSubset (S f) (set_of M S r) → has (S f) j ≡ true
      → has (set_of M (singles (changed (λ v. least (S v)) f j)) r) (changed (λ v. least (S v)) f j f) ≡ true
  range_told f j r named sub h =
      let b : Assignment = changed (λ v. least (S v)) f j in
      let same = set_agree M S (singles b) r (λ v e. let n = named v e in valued_other f j v n.0 n.1) in
      subst (λ k. has (set_of M (singles b) r) k ≡ true) (sym (changed_here (λ v. least (S v)) f j)) (subst (λ xs. has xs j ≡ true) same (sub.each j h))

  -- the last row of a sum
  last_told : (c : ℤ) (f : ℕ) (w : ℤ) → (w ≡ pos 0 → ⊥) → (j : ℕ) → has (S f) j ≡ true → (before ts : List (ℕ × ℤ))
      → AllVars (λ v. (v ≡ f → ⊥) × IsOne S v) before → AllVars (λ v. (v ≡ f → ⊥) × IsOne S v) ts
      → Inside (rows_behind IsAtMost c before (ts ++ (f, w) ∷ [])) → int_le (total (changed (λ v. least (S v)) f j) (before ++ (ts ++ (f, w) ∷ []))) c ≡ true
  last_told c f w some j h before [] hb ht i =
      let b : Assignment = changed (λ v. least (S v)) f j in
      let r = row_by_sign IsAtMost c (before ++ []) w in
      sym (one_row M b (valued_small f j h) IsAtMost c before [] (f, w) some)
      ∙ range_told f j r (signed_names (λ v. (v ≡ f → ⊥) × IsOne S v) IsAtMost c (before ++ []) w (vars_joined (λ v. (v ≡ f → ⊥) × IsOne S v) before [] hb tt)) i.0 h
  last_told c f w some j h before (t ∷ ts) hb ht i =
      let b : Assignment = changed (λ v. least (S v)) f j in
      let g = last_told c f w some j h (before ++ t ∷ []) ts (vars_joined (λ v. (v ≡ f → ⊥) × IsOne S v) before (t ∷ []) hb (ht.0, tt)) ht.1 i.1 in
      ap (λ us. int_le (total b us) c) (sym (append_assoc before (t ∷ []) (ts ++ (f, w) ∷ []))) ∙ g

  bit_told : (f j : ℕ) → IsSubset (S f) (set_of M S (bit f).range) → has (S f) j ≡ true → j ≤ 1
  bit_told f j sub h =
      let e = range_told f j (bit f).range (λ v e. absurd (cc)) sub h in
      subst (λ k. k ≤ 1) (changed_here (λ v. least (S v)) f j) (inside_bit M (changed (λ v. least (S v)) f j) (valued_small f j h) f e)

  module _ (n f : ℕ) (high : n ≤ f) (w : ℕ) (l : Linear) (far : weight M l.products + nat_abs l.constant < w) (none : NoneZero l.products)
      (vars : AllVars (λ v. v < n) l.products) (ones : AllVars (IsOne S) l.products) (ls : List Linear)
      (told : IsTold f (pos w) l ls) (posted : Inside (sum_rows ls)) where
    others : (ts : List (ℕ × ℤ)) → AllVars (λ v. v < n) ts → AllVars (IsOne S) ts → AllVars (λ v. (v ≡ f → ⊥) × IsOne S v) ts
    others [] h g = tt
    others (t ∷ ts) h g = (((λ e. absurd (let k = h.0 in omega arith)), g.0), others ts h.1 g.1)

    not_teller : (ts : List (ℕ × ℤ)) → AllVars (λ v. v < n) ts → AllVars (λ v. v ≡ f → ⊥) ts
    not_teller [] h = tt
    not_teller (t ∷ ts) h = ((λ e. absurd (let k = h.0 in omega arith)), not_teller ts h.1)

    positive : pos w ≡ pos 0 → ⊥
    positive e = omega (arith, ints)

    turned_some : negsuc 0 *ℤ pos w ≡ pos 0 → ⊥
    turned_some e = omega (arith, ints)

    behind : with_product l.products f (pos w) ≡ l.products ++ (f, pos w) ∷ []
    behind = added_last l.products f (pos w) (not_teller l.products vars)

    over_is : nonzero (with_product l.products f (pos w)) ≡ l.products ++ (f, pos w) ∷ []
    over_is = ap nonzero behind ∙ none_dropped (l.products ++ (f, pos w) ∷ []) (none_zero_last l.products (f, pos w) none positive)

    under_is : nonzero (scaled (negsuc 0) (with_product l.products f (pos w))) ≡ scaled (negsuc 0) l.products ++ (f, negsuc 0 *ℤ pos w) ∷ []
    under_is =
        ap (λ us. nonzero (scaled (negsuc 0) us)) behind
        ∙ (ap nonzero (scaled_last (negsuc 0) l.products (f, pos w))
        ∙ none_dropped (scaled (negsuc 0) l.products ++ (f, negsuc 0 *ℤ pos w) ∷ [])
        (none_zero_last (scaled (negsuc 0) l.products) (f, negsuc 0 *ℤ pos w) (nonzero_scaled l.products none) turned_some))

    both_rows : Inside (sum_rows (told.over ∷ told.under ∷ []))
    both_rows = subst (λ ms. Inside (sum_rows ms)) (sym told.are) posted

    over_rows : Inside (rows_behind IsAtMost (l.constant +ℤ pos w) [] (l.products ++ (f, pos w) ∷ []))
    over_rows =
        subst (λ us. Inside (rows_behind IsAtMost (l.constant +ℤ pos w) [] us)) over_is
        (subst (λ (m : Linear). Inside (rows_behind IsAtMost m.constant [] m.products)) (sym told.from_over.is)
        (posted_left (λ p. IsSubset (S p.target) (set_of M S p.range)) (rows_behind IsAtMost told.over.constant [] told.over.products) (sum_rows (told.under ∷ [])) both_rows))

    under_rows : Inside (rows_behind IsAtMost (neg_ℤ l.constant -ℤ pos 1) [] (scaled (negsuc 0) l.products ++ (f, negsuc 0 *ℤ pos w) ∷ []))
    under_rows =
        subst (λ us. Inside (rows_behind IsAtMost (neg_ℤ l.constant -ℤ pos 1) [] us)) under_is
        (subst (λ (m : Linear). Inside (rows_behind IsAtMost m.constant [] m.products)) (sym told.from_under.is)
        (posted_left (λ p. IsSubset (S p.target) (set_of M S p.range)) (rows_behind IsAtMost told.under.constant [] told.under.products) []
        (posted_right (λ p. IsSubset (S p.target) (set_of M S p.range)) (rows_behind IsAtMost told.over.constant [] told.over.products) (sum_rows (told.under ∷ [])) both_rows)))

    -- each value of the teller is what the others say
    teller_value : (j : ℕ) → j ≤ 1 → has (S f) j ≡ true → j ≡ truth (int_le (total (λ v. least (S v)) l.products) l.constant)
    teller_value j small h =
        let b : Assignment = changed (λ v. least (S v)) f j in
        let here : b f ≡ j = changed_here (λ v. least (S v)) f j in
        let low = valued_small f j h in
        let t = total b l.products in
        let o = last_told (l.constant +ℤ pos w) f (pos w) positive j h [] l.products tt (others l.products vars ones) over_rows in
        let u = last_told (neg_ℤ l.constant -ℤ pos 1) f (negsuc 0 *ℤ pos w) turned_some j h [] (scaled (negsuc 0) l.products) tt
        (vars_scaled (λ v. (v ≡ f → ⊥) × IsOne S v) (negsuc 0) l.products (others l.products vars ones)) under_rows in
        let over_total : total b (l.products ++ (f, pos w) ∷ []) ≡ (pos w *ℤ pos (b f)) +ℤ t = ap (total b) (sym behind) ∙ total-with_product b l.products f (pos w) in
        let under_total : total b (scaled (negsuc 0) l.products ++ (f, negsuc 0 *ℤ pos w) ∷ []) ≡ negsuc 0 *ℤ ((pos w *ℤ pos (b f)) +ℤ t) =
        ap (total b) (sym (scaled_last (negsuc 0) l.products (f, pos w))) ∙ (total-scaled b (negsuc 0) (l.products ++ (f, pos w) ∷ []) ∙ ap (λ s. negsuc 0 *ℤ s) over_total) in
        let size : nat_abs t + nat_abs l.constant < w = let e = total_size M b low l.products in omega arith in
        let told_here = told_is t l.constant w (b f) size (subst (λ k. k ≤ 1) (sym here) small)
        (ap (λ s. int_le s (l.constant +ℤ pos w)) (sym over_total) ∙ o) (ap (λ s. int_le s (neg_ℤ l.constant -ℤ pos 1)) (sym under_total) ∙ u) in
        sym here ∙ (told_here ∙ ap (λ s. truth (int_le s l.constant)) (total_same n (λ v. least (S v)) b (λ v i. changed_other (λ v. least (S v)) f j v (λ e. absurd (omega arith))) l.products vars))

    teller_one : IsSubset (S f) (set_of M S (bit f).range) → (j : ℕ) → has (S f) j ≡ true → IsOne S f
    teller_one sub j h =
        (j, single_from 0 M j (S f) (family.rising f) h (λ i g. teller_value i (bit_told f i sub g) g ∙ sym (teller_value j (bit_told f j sub h) h)))

  -- and the conjunction of two that have one value
  and_one : (f g x : ℕ) → (f ≡ x → ⊥) → (g ≡ x → ⊥) → IsOne S f → IsOne S g → IsSubset (S x) (set_of M S (product f g)) → (j : ℕ) → has (S x) j ≡ true → IsOne S x
  and_one f g x nf ng hf hg sub j h = (j, single_from 0 M j (S x) (family.rising x) h (λ i e. value i e ∙ sym (value j h))) where
    One : ℕ → Type 0
    One v = (v ≡ x → ⊥) × IsOne S v

    value : (i : ℕ) → has (S x) i ≡ true → i ≡ least (S f) * least (S g)
    value i e =
        let b : Assignment = changed (λ v. least (S v)) x i in
        let low = valued_small x i e in
        let named : (v : ℕ) → has (f ∷ g ∷ f ∷ g ∷ []) v ≡ true → (v ≡ x → ⊥) × IsOne S v =
        named_either (λ v. (v ≡ x → ⊥) × IsOne S v) (f ∷ []) (g ∷ f ∷ g ∷ []) (one_named (λ v. (v ≡ x → ⊥) × IsOne S v) f (nf, hf))
        (named_either (λ v. (v ≡ x → ⊥) × IsOne S v) (g ∷ []) (f ∷ g ∷ []) (one_named (λ v. (v ≡ x → ⊥) × IsOne S v) g (ng, hg))
        (named_either (λ v. (v ≡ x → ⊥) × IsOne S v) (f ∷ []) (g ∷ []) (one_named (λ v. (v ≡ x → ⊥) × IsOne S v) f (nf, hf)) (one_named (λ v. (v ≡ x → ⊥) × IsOne S v) g (ng, hg)))) in
        let here = from_between (b f * b g) (b x) (sym (at M b low (product f g) x) ∙ range_told x i (product f g) named sub e) in
        let ef : b f ≡ least (S f) = changed_other (λ v. least (S v)) x i f nf in
        let eg : b g ≡ least (S g) = changed_other (λ v. least (S v)) x i g ng in
        sym (changed_here (λ v. least (S v)) x i) ∙ (here ∙ (ap (λ k. k * b g) ef ∙ ap (λ k. least (S f) * k) eg))

module _ (M n : ℕ) (S : Family) (family : IsFamily M S) where
  -- ranges on members
  members_one : (ms : List Member) (ps : List Indexical) → ((P : ℕ → Type 0) → Each P (placed n ms) → NamesIn P ps) → MembersBelow n ms → HasOne M n S family (joined (on_members n ms ps))
  members_one ms ps names below posted some old =
      let y = joined (on_members n ms ps) in
      names_all M n S family y (names_append (IfNamed M n S family y) ps [] (names (IfNamed M n S family y) (placed_one M n S family ms y refl below old)) (none_named (IfNamed M n S family y)))

  product_one : (r : Relation) (s t : Term) (p : Product) → TermBelow n s → TermBelow n t → product_form r s t ≡ Some p → HasOne M n S family (joined (product_split n p))
  product_one r s t p bs bt e =
      members_one (factor_members p) (product_ranges p.left p.right (place_of n p.result)) (λ P h. product_names P p.left p.right (place_of n p.result) h)
      (product_below n r s t p (product_form_ok r s t p e) bs bt)

  three_one : (rows : ℕ → ℕ → ℕ → List Indexical) → ((P : ℕ → Type 0) (x y z : ℕ) → Each P (x ∷ y ∷ z ∷ []) → NamesIn P (rows x y z))
      → (x y z : Term) (s : Split) → TermBelow n x → TermBelow n y → TermBelow n z → of_three rows x y z n ≡ Ok s → HasOne M n S family (joined s)
  three_one rows names x y z s bx by bz h =
      let k = three_ok rows x y z n s h in
      let ms : List Member = k.first ∷ k.second ∷ k.third ∷ [] in
      subst (λ q. HasOne M n S family (joined q)) k.is
      (members_one ms (rows (place_of n k.first) (place_of (after n k.first) k.second) (place_of (after (after n k.first) k.second) k.third))
      (λ P e. names P (place_of n k.first) (place_of (after n k.first) k.second) (place_of (after (after n k.first) k.second) k.third) e)
      ((member_read n (λ v. 0) x k.first k.from_first).below bx, ((member_read n (λ v. 0) y k.second k.from_second).below by, ((member_read n (λ v. 0) z k.third k.from_third).below bz, tt))))

  two_one : (x y : Term) (s : Split) → TermBelow n x → TermBelow n y → of_two not_ranges x y n ≡ Ok s → HasOne M n S family (joined s)
  two_one x y s bx by h =
      let k = two_ok not_ranges x y n s h in
      let ms : List Member = k.first ∷ k.second ∷ [] in
      subst (λ q. HasOne M n S family (joined q)) k.is
      (members_one ms (not_ranges (place_of n k.first) (place_of (after n k.first) k.second)) (λ P e. not_names P (place_of n k.first) (place_of (after n k.first) k.second) e)
      ((member_read n (λ v. 0) x k.first k.from_first).below bx, ((member_read n (λ v. 0) y k.second k.from_second).below by, tt)))

  -- both parts of an equality, told by f and g
  parts_one : (f g : ℕ) → n ≤ f → n ≤ g → (l : Linear) → NoneZero l.products → AllVars (λ v. v < n) l.products → AllVars (IsOne S) l.products
      → (ls : List Linear) → AreBothTold f g (pos (reach M l)) l ls
      → AllPosted (λ p. IsSubset (S p.target) (set_of M S p.range)) (sum_rows ls) → IsSubset (S f) (set_of M S (bit f).range) → IsSubset (S g) (set_of M S (bit g).range)
      → (i j : ℕ) → has (S f) i ≡ true → has (S g) j ≡ true → IsOne S f × IsOne S g
  parts_one f g lf lg l none vars ones ls i posted bf bg u v hu hv =
      let H : Indexical → Type 0 = λ p. IsSubset (S p.target) (set_of M S p.range) in
      let all : AllPosted H (sum_rows i.first ++ sum_rows i.second) = subst (AllPosted H) (rows_joined i.first i.second) (subst (λ ms. AllPosted H (sum_rows ms)) (sym i.are) posted) in (
        teller_one M S family n f lf (reach M l) l (reach_far M l) none vars ones i.first i.from_first (posted_left H (sum_rows i.first) (sum_rows i.second) all) bf u hu,
        teller_one M S family n g lg (reach M l) (turned l) (reach_turned M l) (nonzero_scaled l.products none)
            (vars_scaled (λ v. v < n) (negsuc 0) l.products vars) (vars_scaled (IsOne S) (negsuc 0) l.products ones) i.second i.from_second
            (posted_right H (sum_rows i.first) (sum_rows i.second) all) bg v hv,
      )

  -- the variables of the form are named by the sums
  vars_there : (f g : ℕ) → n ≤ f → (w : ℤ) → (w ≡ pos 0 → ⊥) → (l : Linear) → NoneZero l.products → AllVars (λ v. v < n) l.products → (ls : List Linear)
      → AreBothTold f g w l ls → AllVars (λ v. has (constrained (sum_rows ls)) v ≡ true) l.products
  vars_there f g lf w some l none vars ls i =
      let k = i.from_first in
      let over = rows_behind IsAtMost k.over.constant [] k.over.products in
      let e : nonzero (with_product l.products f w) ≡ l.products ++ (f, w) ∷ [] =
      ap nonzero (added_last l.products f w (not_it l.products vars)) ∙ none_dropped (l.products ++ (f, w) ∷ []) (none_zero_last l.products (f, w) none some) in
      let p : k.over.products ≡ l.products ++ (f, w) ∷ [] = ap (λ (m : Linear). m.products) (sym k.from_over.is) ∙ e in
      let h = vars_front (λ v. has (constrained over) v ≡ true) l.products ((f, w) ∷ [])
      (subst (AllVars (λ v. has (constrained over) v ≡ true)) p (rows_there IsAtMost k.over.constant [] k.over.products)) in
      subst (λ ms. AllVars (λ v. has (constrained (sum_rows ms)) v ≡ true) l.products) i.are
      (subst (λ ms. AllVars (λ v. has (constrained (sum_rows (ms ++ i.second))) v ≡ true) l.products) k.are
      (all_vars (λ v. has (constrained over) v ≡ true) (λ v. has (constrained (sum_rows (k.over ∷ k.under ∷ i.second))) v ≡ true)
      (λ v e. named_left over (sum_rows (k.under ∷ i.second)) v e) l.products h)) where
        not_it : (ts : List (ℕ × ℤ)) → AllVars (λ v. v < n) ts → AllVars (λ v. v ≡ f → ⊥) ts
        not_it [] h = tt
        not_it (t ∷ ts) h = ((λ e. absurd (let k = h.0 in omega arith)), not_it ts h.1)

  some_reach : (l : Linear) → pos (reach M l) ≡ pos 0 → ⊥
  some_reach l e = omega (arith, ints)

  -- the added variables one by one
  added_cases : (m f : ℕ) → m ≤ f → (f ≡ m) ⊎ (suc m ≤ f)
  added_cases m f l = elim (cases_Bool (f == m)) [ inl e ↦ inl (eqb-true f m e) | inr e ↦ inr (later m f e l) ] where
    later : (m f : ℕ) → (f == m) ≡ false → m ≤ f → suc m ≤ f
    later m f e l = grind (arith, eq-eqb)

  vars_both : (P Q R : ℕ → Type 0) → ((v : ℕ) → P v → Q v → R v) → (ts : List (ℕ × ℤ)) → AllVars P ts → AllVars Q ts → AllVars R ts
  vars_both P Q R f [] h g = tt
  vars_both P Q R f (t ∷ ts) h g = (f t.0 h.0 g.0, vars_both P Q R f ts h.1 g.1)

  module _ (m : Member) (low : MembersBelow n (m ∷ [])) (l : Linear) (none : NoneZero l.products) (vars : AllVars (λ v. v < n) l.products) (ls : List Linear) where
    abbrev rows_of : Comparison → Expansion
    rows_of c = joined (told_split n m c ls)

    abbrev H : Indexical → Type 0
    H p = IsSubset (S p.target) (set_of M S p.range)

    grows : n ≤ after n m
    grows = fresh_grows (m ∷ []) n

    named : (c : Comparison) → ((v : ℕ) → has (constrained (rows_of c).ranges) v ≡ true → IsOld n (rows_of c).equated v → IsOne S v) → IsOne S (place_of n m)
    named c old = (placed_one M n S family (m ∷ []) (rows_of c) refl low old).0
        (named_left (reified_ranges c (place_of n m) (after n m)) (sum_rows ls) (place_of n m) (teller_there c (place_of n m) (after n m)))

    ones_of : (c : Comparison) → ((v : ℕ) → has (constrained (rows_of c).ranges) v ≡ true → IsOld n (rows_of c).equated v → IsOne S v)
        → AllVars (λ v. has (constrained (sum_rows ls)) v ≡ true) l.products → AllVars (IsOne S) l.products
    ones_of c old h = vars_both (λ v. v < n) (λ v. has (constrained (sum_rows ls)) v ≡ true) (IsOne S)
        (λ v i e. old v (named_right (reified_ranges c (place_of n m) (after n m)) (sum_rows ls) v e) (inl i)) l.products vars h

    told_one : (c : Comparison) → reified_sums M c (place_of n m) (after n m) l ≡ Ok ls → HasOne M n S family (rows_of c)
    told_one IsAtMost e posted some old =
        let x = place_of n m in
        let end = after n m in
        let y = rows_of IsAtMost in
        let own = (placed_one M n S family (m ∷ []) y refl low old).0 in
        names_all M n S family y (reified_names (IfNamed M n S family y) M IsAtMost x end l ls e (all_vars (λ v. v < n) (IfNamed M n S family y) (λ v i g. old v g (inl i)) l.products vars)
        (λ f t. elim t [ inl g ↦ subst (IfNamed M n S family y) (sym g) own | inr g ↦ absurd (let i = g.0 in let k = g.1 in omega arith) ]))
    told_one IsEqual e posted some old =
        let x = place_of n m in
        let f = after n m in
        let g = suc (after n m) in
        let ps = equal_ranges x f g in
        let i = both_told_ok f g (pos (reach M l)) l ls e in
        let own = named IsEqual old in
        let front = posted_left H ps (sum_rows ls) posted in
        let ones = ones_of IsEqual old (vars_there f g grows (pos (reach M l)) (some_reach l) l none vars ls i) in
        let there = equal_there x f g in
        let u = some f (named_left ps (sum_rows ls) f there.0) in
        let v = some g (named_left ps (sum_rows ls) g there.1.0) in
        let p = parts_one f g grows (let k = grows in omega arith) l none vars ones ls i (posted_right H ps (sum_rows ls) posted) front.0 front.1.0 u.0 v.0 u.1 v.1 in
        reified_names (IsOne S) M IsEqual x f l ls e ones (λ w t. elim t [
          | inl q ↦ subst (IsOne S) (sym q) own
          | inr q ↦ elim (added_cases f w q.0) [ inl r ↦ subst (IsOne S) (sym r) p.0 | inr r ↦ subst (IsOne S) (last f w r q.1) p.1 ]
        ]) where
          last : (f w : ℕ) → suc f ≤ w → w < f + 2 → suc f ≡ w
          last f w l g = omega arith
    told_one IsOther e posted some old =
        let x = place_of n m in
        let h = after n m in
        let f = suc (after n m) in
        let g = suc (suc (after n m)) in
        let ps = equal_ranges h f g ++ not_ranges h x in
        let i = both_told_ok f g (pos (reach M l)) l ls e in
        let own = named IsOther old in
        let front = posted_left H (equal_ranges h f g) (not_ranges h x) (posted_left H ps (sum_rows ls) posted) in
        let lf : n ≤ f = let k = grows in omega arith in
        let lg : n ≤ g = let k = grows in omega arith in
        let ones = ones_of IsOther old (vars_there f g lf (pos (reach M l)) (some_reach l) l none vars ls i) in
        let there = equal_there h f g in
        let in_ps : (v : ℕ) → has (constrained (equal_ranges h f g)) v ≡ true → has (constrained (ps ++ sum_rows ls)) v ≡ true =
        λ v k. named_left ps (sum_rows ls) v (named_left (equal_ranges h f g) (not_ranges h x) v k) in
        let u = some f (in_ps f there.0) in
        let v = some g (in_ps g there.1.0) in
        let w = some h (in_ps h there.1.1.0) in
        let p = parts_one f g lf lg l none vars ones ls i (posted_right H ps (sum_rows ls) posted) front.0 front.1.0 u.0 v.0 u.1 v.1 in
        let one = and_one M S family f g h (λ q. absurd (omega arith)) (λ q. absurd (omega arith)) p.0 p.1 front.1.1.1.1.0 w.0 w.1 in
        reified_names (IsOne S) M IsOther x h l ls e ones (λ z t. elim t [
          | inl q ↦ subst (IsOne S) (sym q) own
          | inr q ↦ elim (added_cases h z q.0) [
            | inl r ↦ subst (IsOne S) (sym r) one
            | inr r ↦ elim (added_cases f z r) [ inl o ↦ subst (IsOne S) (sym o) p.0 | inr o ↦ subst (IsOne S) (last h z o q.1) p.1 ]
          ]
        ]) where
          last : (h w : ℕ) → suc (suc h) ≤ w → w < h + 3 → suc (suc h) ≡ w
          last h w l g = omega arith

  reified_one : (b k : Term) (s : Split) → TermBelow n b → TermBelow n k → reified M b k n ≡ Ok s → HasOne M n S family (joined s)
  reified_one b k s bb bk h =
      let g = reified_ok M b k n s h in
      subst (λ q. HasOne M n S family (joined q)) g.is
      (told_one g.teller ((member_read n (λ v. 0) b g.teller g.from_teller).below bb, tt) g.form (form_nonzero k (g.kind, g.form) g.from_term)
      (form_vars (λ v. v < n) k g.kind g.form g.from_term (each_below n k bk)) g.sums g.kind g.sums_are)

  split_one : (kind : ConstraintKind) (ts : Terms) (s : Split) → TermsBelow n ts → split M kind ts n ≡ Some (Ok s) → HasOne M n S family (joined s)
  split_one (Compare r) (term t (term u no_terms)) s b e =
      let k = product_ok n (product_form r t u) s e in
      subst (λ q. HasOne M n S family (joined q)) k.is (product_one r t u k.product b.0 b.1.0 k.form)
  split_one And (term x (term y (term z no_terms))) s b e = three_one and_ranges and_names x y z s b.0 b.1.0 b.1.1.0 (of_some (of_three and_ranges x y z n) s e)
  split_one Or (term x (term y (term z no_terms))) s b e = three_one or_ranges or_names x y z s b.0 b.1.0 b.1.1.0 (of_some (of_three or_ranges x y z n) s e)
  split_one Not (term x (term y no_terms)) s b e = two_one x y s b.0 b.1.0 (of_some (of_two not_ranges x y n) s e)
  split_one Reified (term x (term k no_terms)) s b e = reified_one x k s b.0 b.1.0 (of_some (reified M x k n) s e)
  split_one _ _ s b e = absurd (cc)

  pub expand_one : (kind : ConstraintKind) (ts : Terms) (x : Expansion) → TermsBelow n ts → expand M kind ts n ≡ Ok x → HasOne M n S family x
  expand_one kind ts x b h = elim (expand_ok M kind ts n x h) [
    | inl k ↦ basic_one M n S family kind ts x b k.basic_is
    | inr k ↦ subst (HasOne M n S family) k.rows (split_one kind ts k.parts b k.split_is)
  ]

-- ---- the law

equated_value : (S : Family) (es : List (ℕ × ℤ)) (v : ℕ) → AllEquatedIn S es → is_equated es v ≡ true → (z : ℤ) × ((k : ℕ) → has (S v) k ≡ true → pos k ≡ z)
equated_value S [] v h c = absurd (true≢false (sym c))
equated_value S (e ∷ es) v h c = elim (or_cases (e.0 == v) (is_equated es v) c) [
  | inl i ↦ (e.1, subst (λ w. (k : ℕ) → has (S w) k ≡ true → pos k ≡ e.1) (eqb-true e.0 v i) h.0)
  | inr i ↦ equated_value S es v h.1 i
]

fresh_named : (n m : ℕ) (x : Expansion) (es : List (ℕ × ℤ)) → AllFresh n m x.ranges es → AllNamed es x.ranges
fresh_named n m x [] h = tt
fresh_named n m x (e ∷ es) h = (h.0.2, fresh_named n m x es h.1)

pub determined : Determined
determined M kind ts n x S a below small h settled single =
    let old : (v : ℕ) → has (constrained x.ranges) v ≡ true → IsOld n x.equated v → IsOne S v = λ v e o. elim o [
      | inl l ↦ (a v, single v l e)
      | inr c ↦ let g = equated_value S x.equated v settled.values c in let j = settled.some v e in one_integer M S settled.family v g.0 g.1 j.0 j.1
    ] in
    let one = expand_one M n S settled.family kind ts x below h settled.posted settled.some old in
    determined_by M n a S small settled.family x settled (λ v e l. single v l e) (λ v e l. one v e) (fresh_named n x.fresh x x.equated (scoped_rows M kind ts n x h).equated)
