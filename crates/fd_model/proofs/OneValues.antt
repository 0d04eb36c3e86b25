-- Where what is not added has one value, so have all the variables that a constraint's ranges name.
use Rattle.std.proofs.Common.{◌≡◌, ℕ, suc, ◌+◌, ◌≤◌, ◌<◌, Bool, true, false, cond, ◌||◌, ◌==◌, ℤ, pos, List, [], ◌∷◌, length, refl, sym, ◌∙◌, subst, inl, inr}
use Rattle.std.proofs.Common.{◌⊎◌, arith, eq-eqb, Ok}
use Rattle.std.proofs.lemmas.Int.{ints}
use Rattle.std.proofs.lemmas.Bool.{or_left, or_right}
use Rattle.fd_model.specs.declared.kinds.Relation.{Relation}
use Rattle.fd_model.specs.declared.kinds.ConstraintKind.{ConstraintKind}
use Rattle.fd_model.specs.declared.kinds.ConstraintKind.TheVariants.{Compare, AllDifferent, Element, Atmost}
use Rattle.fd_language.specs.Term.{Term, Terms, no_terms, term}
use Rattle.fd_language.specs.Variables.{TermBelow, TermsBelow}
use Rattle.fd_language.specs.Lists.{Each}
use Rattle.fd_language.specs.Family.{Family, has, universe, IsFamily, IsSubset}
use Rattle.fd_language.specs.Range.{Indexical, set_of, in_set}
use Rattle.fd_model.specs.ClosedFamilies.{constrained, AllPosted}
use Rattle.fd_model.specs.Linear.{Comparison, IsAtMost, comparison, normal}
use Rattle.fd_model.specs.LinearRows.{Expansion, linear_rows, compares, no_number}
use Rattle.fd_model.specs.Members.{Member, Open, Known, as_member, walk, place_of, after, placed, fresh_after, equated_from}
use Rattle.fd_model.specs.ListRows.{different_rows, element_rows, counter, counted, counts, units, atmost_rows}
use Rattle.fd_model.specs.ConstraintExpansion.{compare, all_different, element, atmost, basic}
use Rattle.fd_model.specs.Satisfaction.{Assignment, singles}
use Rattle.fd_model.specs.ConstraintLaws.{IsSettled}
use Rattle.fd_model.specs.Ways.{is_equated}
use Rattle.fd_language.proofs.Lemmas.{has_high, has-filter_back, set_agree, each_map}
use Rattle.fd_model.proofs.CollectedSums.{one_ok}
use Rattle.fd_model.proofs.ComparisonRows.{form_of}
use Rattle.fd_model.proofs.Singles.{set_singles}
use Rattle.fd_model.proofs.FreshVariables.{MembersBelow, member_read, members_read}
use Rattle.fd_model.proofs.ElementRows.{element_ok, where_is_test, other_is}
use Rattle.fd_model.proofs.Counters.{atmost_ok, unit, test_count}
use Rattle.fd_model.proofs.DeterminedValues.{NamesIn, single_from, IsOne}
use Rattle.fd_model.proofs.RowNames.{AllVars, rows_names, each_below, collect_vars, normal_vars}
use Rattle.fd_model.proofs.ListNames.{posted_left, posted_right, named_left, named_right, names_append, none_named, one_named, different_names, named_either}
use Rattle.fd_model.proofs.ListNames.{element_names, AllAdded, counts_names, named_counts, units_vars}

none_empty : (M n : ℕ) (S : Family) (ps : List Indexical) → IsSettled M (record { equated = []; ranges = record { target = n; range = no_number } ∷ ps; fresh = suc n }) S → ⊥
none_empty M n S ps s =
    let k = s.some n (or_left _ _ (eq-eqb n n refl)) in
    no k.0 (has-filter_back (in_set M S no_number) (universe M) k.0 (s.posted.0.each k.0 k.1)).1 where
      no : (j : ℕ) → in_set M S no_number j ≡ true → ⊥
      no j h = grind arith

vars_below : (n : ℕ) (P : ℕ → Type 0) → ((v : ℕ) → v < n → P v) → (ts : List (ℕ × ℤ)) → AllVars (λ v. v < n) ts → AllVars P ts
vars_below n P f [] h = tt
vars_below n P f (t ∷ ts) h = (f t.0 h.0, vars_below n P f ts h.1)

-- added variables
module _ (M : ℕ) (S : Family) (family : IsFamily M S) where
  -- an equated variable has its integer alone
  pub one_integer : (v : ℕ) (z : ℤ) → ((k : ℕ) → has (S v) k ≡ true → pos k ≡ z) → (j : ℕ) → has (S v) j ≡ true → IsOne S v
  one_integer v z f j h = (j, single_from 0 M j (S v) (family.rising v) h (λ i g. let d = f i g in let e = f j h in omega (arith, ints)))

  -- a counter has one value where its variable has
  counter_single : (z : ℤ) (x m k : ℕ) → S x ≡ k ∷ [] → IsSubset (S m) (set_of M S (counter z x m).range) → (j : ℕ) → has (S m) j ≡ true → j ≡ unit z (pos k)
  counter_single z x m k e sub j h =
      let r = (counter z x m).range in
      let b : Assignment = λ u. k in
      let low : (u : ℕ) → b u ≤ M = λ u. has_high 0 M (S x) k (family.rising x) (subst (λ ys. has ys k ≡ true) (sym e) (or_left _ _ (eq-eqb k k refl))) in
      let same = set_agree M S (singles b) r (named_either (λ u. S u ≡ k ∷ []) (x ∷ []) (x ∷ []) (one_named (λ u. S u ≡ k ∷ []) x e) (one_named (λ u. S u ≡ k ∷ []) x e)) in
      let within = has_high 0 M (S m) j (family.rising m) h in
      let inside = sym (set_singles M b r j within) ∙ subst (λ ys. has ys j ≡ true) same (sub.each j h) in
      let f = where_is_test M b low z x (pos 1) j in
      let g = other_is M b low z x j in
      test_count z (pos k) j (sym (two f g) ∙ inside) where
        two : {p q r s : Bool} → p ≡ q → r ≡ s → (p || r) ≡ (q || s)
        two e f = cc

  added_single : (z : ℤ) (xs : List ℕ) (m : ℕ) → Each (IsOne S) xs → AllPosted (λ p. IsSubset (S p.target) (set_of M S p.range)) (counts z xs m)
      → ((v : ℕ) → has (constrained (counts z xs m)) v ≡ true → (j : ℕ) × (has (S v) j ≡ true)) → AllAdded (IsOne S) xs m
  added_single z [] m o p f = tt
  added_single z (x ∷ xs) m o p f =
      let j = f m (or_left _ _ (eq-eqb m m refl)) in
      let one = counter_single z x m o.0.0 o.0.1 p.0 in (
        (j.0, single_from 0 M j.0 (S m) (family.rising m) j.1 (λ i h. one i h ∙ sym (one j.0 j.1))),
        added_single z xs (suc m) o.1 p.1.1 (λ v h. f v (named_right (counter z x m ∷ counted z x m ∷ []) (counts z xs (suc m)) v h)),
      )

  without_names : (P : ℕ → Type 0) (c : Bool) (k : ℕ)
      → let y : Expansion = cond c (record { equated = []; ranges = []; fresh = k }) (record { equated = []; ranges = record { target = k; range = no_number } ∷ []; fresh = suc k }) in
      AllPosted (λ p. IsSubset (S p.target) (set_of M S p.range)) y.ranges → ((v : ℕ) → has (constrained y.ranges) v ≡ true → (j : ℕ) × (has (S v) j ≡ true)) → NamesIn P y.ranges
  without_names P true k p f = none_named P
  without_names P false k p f = absurd (none_empty M k S [] (record { family = family; posted = p; values = tt; some = f }))

  sum_names : (P : ℕ → Type 0) (xs : List ℕ) (m : ℕ) (z : ℤ) (k : ℕ) → AllAdded P xs m
      → AllPosted (λ p. IsSubset (S p.target) (set_of M S p.range)) (linear_rows IsAtMost (units xs m) z k).ranges
      → ((v : ℕ) → has (constrained (linear_rows IsAtMost (units xs m) z k).ranges) v ≡ true → (j : ℕ) × (has (S v) j ≡ true)) → NamesIn P (linear_rows IsAtMost (units xs m) z k).ranges
  sum_names P [] m z k h p f = without_names P (compares IsAtMost (pos 0) z) k p f
  sum_names P (x ∷ xs) m z k h p f = rows_names P IsAtMost z [] (units (x ∷ xs) m) tt (units_vars P (x ∷ xs) m h)

-- not added
abbrev pub IsOld : ℕ → List (ℕ × ℤ) → ℕ → Type 0
IsOld n es v = (v < n) ⊎ (is_equated es v ≡ true)

placed_old : (n : ℕ) (ms : List Member) (k : ℕ) → MembersBelow n ms → Each (IsOld n (equated_from k ms)) (placed k ms)
placed_old n [] k b = tt
placed_old n (Open x ∷ ms) k b = (inl b.0, placed_old n ms k b.1)
placed_old n (Known z ∷ ms) k b = (
  inr (or_left (k == k) _ (eq-eqb k k refl)),
  each_map (IsOld n (equated_from (suc k) ms)) (IsOld n ((k, z) ∷ equated_from (suc k) ms))
      (λ v h. elim h [ inl l ↦ inl l | inr e ↦ inr (or_right (k == v) _ e) ]) (placed (suc k) ms) (placed_old n ms (suc k) b.1),
)

-- where what is not added has one value, all named variables have
module _ (M n : ℕ) (S : Family) (family : IsFamily M S) where
  abbrev pub HasOne : Expansion → Type 0
  HasOne x =
      AllPosted (λ p. IsSubset (S p.target) (set_of M S p.range)) x.ranges → ((v : ℕ) → has (constrained x.ranges) v ≡ true → (j : ℕ) × (has (S v) j ≡ true))
      → ((v : ℕ) → has (constrained x.ranges) v ≡ true → IsOld n x.equated v → IsOne S v) → NamesIn (IsOne S) x.ranges

  -- one value, if the ranges name it
  abbrev pub IfNamed : Expansion → ℕ → Type 0
  IfNamed x v = has (constrained x.ranges) v ≡ true → IsOne S v

  pub names_all : (x : Expansion) → NamesIn (IfNamed x) x.ranges → NamesIn (IsOne S) x.ranges
  names_all x h v e = h v e e

  form_one : (k : Comparison) (ts : List (ℕ × ℤ)) (c : ℤ) (m : ℕ) → AllVars (λ v. v < n) ts → HasOne (linear_rows k ts c m)
  form_one k [] c m b posted some old = without_names M S family (IsOne S) (compares k (pos 0) c) m posted some
  form_one k (t ∷ ts) c m b posted some old =
      let x = linear_rows k (t ∷ ts) c m in
      names_all x (rows_names (IfNamed x) k c [] (t ∷ ts) tt (vars_below n (IfNamed x) (λ v l e. old v e (inl l)) (t ∷ ts) b))

  compare_one : (r : Relation) (s t : Term) (x : Expansion) → TermBelow n s → TermBelow n t → compare r s t n ≡ Ok x → HasOne x
  compare_one r s t x ks kt h =
      let g = form_of r s t n x h in
      let m = normal r g.linear in
      subst HasOne g.rows (form_one (comparison r) m.products m.constant n
      (normal_vars (λ v. v < n) r g.linear (collect_vars (λ v. v < n) s t g.linear (each_below n s ks) (each_below n t kt) g.collected)))

  pub placed_one : (ms : List Member) (x : Expansion) → x.equated ≡ equated_from n ms → MembersBelow n ms
      → ((v : ℕ) → has (constrained x.ranges) v ≡ true → IsOld n x.equated v → IsOne S v) → Each (IfNamed x) (placed n ms)
  placed_one ms x e b old = each_map (IsOld n (equated_from n ms)) (IfNamed x) (λ v h i. old v i (subst (λ es. IsOld n es v) (sym e) h)) (placed n ms) (placed_old n ms n b)

  different_one : (l : Term) (x : Expansion) → TermBelow n l → all_different l n ≡ Ok x → HasOne x
  different_one l x b h =
      let k = one_ok (λ ms. Ok (different_rows ms n)) (walk as_member l) x h in
      let e : different_rows k.0 n ≡ x = cc (k.2) in
      let y = different_rows k.0 n in
      subst HasOne e (λ posted some old. names_all y (different_names (IfNamed y) (placed n k.0) (placed_one k.0 y refl ((members_read n (λ v. 0) l k.0 k.1).below b) old)))

  element_one : (i l t : Term) (x : Expansion) → TermBelow n i → TermBelow n t → element i l t n ≡ Ok x → HasOne x
  element_one i l t x bi bt h =
      let k = element_ok i l t n x h in
      let ms : List Member = k.index ∷ k.value ∷ [] in
      let y = element_rows k.index k.elements k.value n in
      subst HasOne k.rows (λ posted some old.
      let g = placed_one ms y refl ((member_read n (λ v. 0) i k.index k.from_index).below bi, ((member_read n (λ v. 0) t k.value k.from_value).below bt, tt)) old in
      names_all y (element_names (IfNamed y) (place_of n k.index) (place_of (after n k.index) k.value) k.elements g.0 g.1.0))

  named_ones : (xs : List ℕ) (x : Expansion) → ((v : ℕ) → has xs v ≡ true → has (constrained x.ranges) v ≡ true) → Each (IfNamed x) xs → Each (IsOne S) xs
  named_ones [] x there h = tt
  named_ones (v ∷ xs) x there h = (h.0 (there v (or_left (v == v) _ (eq-eqb v v refl))), named_ones xs x (λ w e. there w (or_right (v == w) _ e)) h.1)

  atmost_one : (m l t : Term) (x : Expansion) → TermBelow n l → atmost m l t n ≡ Ok x → HasOne x
  atmost_one m l t x b h =
      let g = atmost_ok m l t n x h in
      let ms = g.members in
      let xs = placed n ms in
      let k = fresh_after n ms in
      let ps = counts g.value xs k in
      let qs = (linear_rows IsAtMost (units xs k) g.limit (k + length xs)).ranges in
      let y = atmost_rows g.limit ms g.value n in
      let H : Indexical → Type 0 = λ p. IsSubset (S p.target) (set_of M S p.range) in
      subst HasOne g.rows (λ posted some old.
      let ones = named_ones xs y (λ u e. named_left ps qs u (named_counts g.value xs k u e)) (placed_one ms y refl ((members_read n (λ v. 0) l ms g.from_list).below b) old) in
      let counters = added_single M S family g.value xs k ones (posted_left H ps qs posted) (λ u e. some u (named_left ps qs u e)) in
      names_append (IsOne S) ps qs (counts_names (IsOne S) g.value xs k ones counters)
      (sum_names M S family (IsOne S) xs k g.limit (k + length xs) counters (posted_right H ps qs posted) (λ u e. some u (named_right ps qs u e))))

  pub basic_one : (kind : ConstraintKind) (ts : Terms) (x : Expansion) → TermsBelow n ts → basic kind ts n ≡ Ok x → HasOne x
  basic_one (Compare r) (term s (term t no_terms)) x b h = compare_one r s t x b.0 b.1.0 h
  basic_one AllDifferent (term l no_terms) x b h = different_one l x b.0 h
  basic_one Element (term i (term l (term v no_terms))) x b h = element_one i l v x b.0 b.1.1.0 h
  basic_one Atmost (term m (term l (term v no_terms))) x b h = atmost_one m l v x b.1.0 h
  basic_one _ _ x b h = absurd (cc)
