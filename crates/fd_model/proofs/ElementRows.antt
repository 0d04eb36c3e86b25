-- fd_element and its rows.
use Rattle.std.proofs.Common.{◌≡◌, ℕ, suc, ◌≤◌, Bool, true, false, not, ◌&&◌, ◌||◌, ◌==◌, ℤ, pos, ◌+ℤ◌, ◌*ℤ◌, int_le, List, [], ◌∷◌, refl, ap, sym, ◌∙◌, subst}
use Rattle.std.proofs.Common.{inl, inr, arith, eqb-true, eq-eqb, Ok}
use Rattle.std.specs.List.{list_any}
use Rattle.std.specs.Ordering.{int_eq}
use Rattle.std.proofs.lemmas.Int.{ints}
use Rattle.std.proofs.lemmas.Bool.{or_cases, or_left, or_right, true≢false}
use Rattle.std.specs.Cmp.{both_ways, first_so}
use Rattle.fd_language.specs.Family.{has, universe}
use Rattle.fd_language.specs.Term.{Term, no_terms, term}
use Rattle.fd_language.specs.Variables.{TermBelow}
use Rattle.fd_model.specs.declared.kinds.ConstraintKind.TheVariants.{Element}
use Rattle.fd_language.specs.Range.{Range, One, Dom, Union, Inter, Outside, Times, Number, in_range, some_number}
use Rattle.fd_language.proofs.Lemmas.{in_universe, any_to, some_from}
use Rattle.fd_model.specs.LinearRows.{Expansion}
use Rattle.fd_model.specs.Members.{Member, as_member, as_integer, walk, place_of, after}
use Rattle.fd_model.specs.Linear.{of_both}
use Rattle.fd_model.specs.ListRows.{where_is, where_other, union_onto, union_of, elements_at, index_ranges, element_ranges, element_rows}
use Rattle.fd_model.specs.ConstraintExpansion.{pair, element}
use Rattle.fd_model.specs.Satisfaction.{Assignment, singles, worth, IsNumber, IsElement}
use Rattle.fd_model.specs.ConstraintLaws.{IsRewritten}
use Rattle.fd_model.proofs.CollectedSums.{both_ok}
use Rattle.fd_model.proofs.Singles.{up_to, set_singles, Inside}
use Rattle.fd_model.proofs.FreshVariables.{member_read, integers_read, MembersBelow, known_numbers, placed_worths, filled, filled_below, filled_small}
use Rattle.fd_model.proofs.FreshVariables.{filled_equated}
use Rattle.fd_model.proofs.AllDifferentRows.{placed_one}

pub some_to : (M : ℕ) (f : ℕ → Bool) (e : ℕ) → e ≤ M → f e ≡ true → some_number M f ≡ true
some_to M f e h k = any_to f (universe M) e (in_universe M e h) k

product_zero : (e : ℕ) → pos e *ℤ pos 0 ≡ pos 0
product_zero e = ap pos (omega arith)

module _ (M : ℕ) (b : Assignment) (small : (v : ℕ) → b v ≤ M) where
  -- a pointwise product by 0 is 0 alone, where the range has the number of y and no other
  times_zero : (r : Range) (y v : ℕ) → ((e : ℕ) → in_range M (singles b) r e ≡ true → e ≡ b y)
      → in_range M (singles b) (Times r (Number (pos 0))) v ≡ (in_range M (singles b) r (b y) && int_eq (pos 0) (pos v))
  times_zero r y v only = both_ways (in_range M (singles b) (Times r (Number (pos 0))) v) (in_range M (singles b) r (b y) && int_eq (pos 0) (pos v))
      (λ h. let k = some_from M (λ e. in_range M (singles b) r e && int_eq (pos e *ℤ pos 0) (pos v)) h in
      there k.0 k.2)
      (λ h. some_to M (λ e. in_range M (singles b) r e && int_eq (pos e *ℤ pos 0) (pos v)) (b y) (small y)
      (subst (λ z. (in_range M (singles b) r (b y) && int_eq z (pos v)) ≡ true) (sym (product_zero (b y))) h)) where
        there : (e : ℕ) → (in_range M (singles b) r e && int_eq (pos e *ℤ pos 0) (pos v)) ≡ true → (in_range M (singles b) r (b y) && int_eq (pos 0) (pos v)) ≡ true
        there e h =
            let o : e ≡ b y = only e (first_so (in_range M (singles b) r e) _ h) in
            subst (λ z. (in_range M (singles b) r (b y) && int_eq z (pos v)) ≡ true) (product_zero e) (subst (λ u. (in_range M (singles b) r u && int_eq (pos e *ℤ pos 0) (pos v)) ≡ true) o h)

  in_one : (y : ℕ) → has (b y ∷ []) (b y) ≡ true
  in_one y = or_left _ _ (eq-eqb (b y) (b y) refl)

  only_one : (y e : ℕ) (p : Bool) → (p && has (b y ∷ []) e) ≡ true → e ≡ b y
  only_one y e p h = sym (eqb-true (b y) e (last p (b y == e) h)) where
    last : (p q : Bool) → (p && (q || false)) ≡ true → q ≡ true
    last p q h = grind arith

  with_one : (y : ℕ) (p q : Bool) → ((p && has (b y ∷ []) (b y)) && q) ≡ (p && q)
  with_one y p q = rw (in_one y) (plain p q) where
    plain : (p q : Bool) → ((p && true) && q) ≡ (p && q)
    plain p q = grind arith

  zero_where : (a : ℤ) (y v : ℕ) → in_range M (singles b) (Times (Inter (One (Number a)) (Dom y)) (Number (pos 0))) v ≡ (int_eq a (pos (b y)) && int_eq (pos 0) (pos v))
  zero_where a y v =
      times_zero (Inter (One (Number a)) (Dom y)) y v (λ e h. only_one y e (int_eq a (pos e)) h) ∙ with_one y (int_eq a (pos (b y))) (int_eq (pos 0) (pos v))

  pub other_is : (a : ℤ) (y v : ℕ) → in_range M (singles b) (where_other a y) v ≡ (not (int_eq a (pos (b y))) && int_eq (pos 0) (pos v))
  other_is a y v =
      times_zero (Inter (Outside (One (Number a))) (Dom y)) y v (λ e h. only_one y e (not (int_eq a (pos e))) h) ∙ with_one y (not (int_eq a (pos (b y)))) (int_eq (pos 0) (pos v))

  pub where_is_test : (a : ℤ) (y : ℕ) (c : ℤ) (v : ℕ) → in_range M (singles b) (where_is a y c) v ≡ (int_eq a (pos (b y)) && int_eq c (pos v))
  where_is_test a y c v =
      let f : ℕ → Bool = λ e. in_range M (singles b) (Times (Inter (One (Number a)) (Dom y)) (Number (pos 0))) e && int_eq (pos e +ℤ c) (pos v) in
      both_ways (some_number M f) (int_eq a (pos (b y)) && int_eq c (pos v))
      (λ h. let k = some_from M f h in forth (int_eq a (pos (b y))) k.0 (subst (λ p. (p && int_eq (pos k.0 +ℤ c) (pos v)) ≡ true) (zero_where a y k.0) k.2))
      (λ h. some_to M f 0 (omega arith) (subst (λ p. (p && int_eq (pos 0 +ℤ c) (pos v)) ≡ true) (sym (zero_where a y 0)) (back (int_eq a (pos (b y))) h))) where
        forth : (p : Bool) (e : ℕ) → ((p && int_eq (pos 0) (pos e)) && int_eq (pos e +ℤ c) (pos v)) ≡ true → (p && int_eq c (pos v)) ≡ true
        forth p e h = grind (arith, ints)

        back : (p : Bool) → (p && int_eq c (pos v)) ≡ true → ((p && int_eq (pos 0) (pos 0)) && int_eq (pos 0 +ℤ c) (pos v)) ≡ true
        back p h = grind (arith, ints)

  -- a union has a number where some part has it
  joined_test : (r : Range) (qs : List Range) (v : ℕ) → in_range M (singles b) (union_onto r qs) v ≡ (in_range M (singles b) r v || list_any (λ q. in_range M (singles b) q v) qs)
  joined_test r [] v = plain (in_range M (singles b) r v) where
    plain : (p : Bool) → p ≡ (p || false)
    plain p = grind arith
  joined_test r (q ∷ qs) v = joined_test (Union r q) qs v ∙ regroup (in_range M (singles b) r v) (in_range M (singles b) q v) (list_any (λ q. in_range M (singles b) q v) qs) where
    regroup : (p q s : Bool) → ((p || q) || s) ≡ (p || (q || s))
    regroup p q s = grind arith

  pub union_test : (rs : List Range) (v : ℕ) → in_range M (singles b) (union_of rs) v ≡ list_any (λ q. in_range M (singles b) q v) rs
  union_test [] v = none (pos v) where
    none : (z : ℤ) → (int_le (pos 1) z && int_le z (pos 0)) ≡ false
    none z = grind (arith, ints)
  union_test (r ∷ rs) v = joined_test r rs v

  -- the elements and the numbers
  abbrev Elements : ℕ → ℕ → ℕ → List ℤ → Bool
  Elements i x k zs = list_any (λ q. in_range M (singles b) q (b x)) (elements_at i k zs)

  abbrev Numbers : ℕ → ℕ → ℕ → List ℤ → Bool
  Numbers i x k zs = list_any (λ q. in_range M (singles b) q (b i)) (index_ranges x k zs)

  by_pair : (m n : ℤ) (y z : ℤ) → (m ≡ n) × (z ≡ y) → (int_eq n m && int_eq y z) ≡ true
  by_pair m n y z h = let e = h.0 in let f = h.1 in grind (arith, ints)

  pair_by : (m n : ℤ) (y z : ℤ) → (int_eq n m && int_eq y z) ≡ true → (m ≡ n) × (z ≡ y)
  pair_by m n y z h = (first m n y z h, second m n y z h) where
    first : (m n : ℤ) (y z : ℤ) → (int_eq n m && int_eq y z) ≡ true → m ≡ n
    first m n y z h = grind (arith, ints)

    second : (m n : ℤ) (y z : ℤ) → (int_eq n m && int_eq y z) ≡ true → z ≡ y
    second m n y z h = grind (arith, ints)

  elements_from : (i x k : ℕ) (zs : List ℤ) → IsElement k zs (pos (b i)) (pos (b x)) → Elements i x k zs ≡ true
  elements_from i x k [] h = absurd h
  elements_from i x k (z ∷ zs) h = elim h [
    | inl e ↦ or_left _ _ (where_is_test (pos k) i z (b x) ∙ by_pair (pos (b i)) (pos k) z (pos (b x)) e)
    | inr e ↦ or_right _ _ (elements_from i x (suc k) zs e)
  ]

  elements_to : (i x k : ℕ) (zs : List ℤ) → Elements i x k zs ≡ true → IsElement k zs (pos (b i)) (pos (b x))
  elements_to i x k [] h = absurd (true≢false (sym h))
  elements_to i x k (z ∷ zs) h = elim (or_cases (in_range M (singles b) (where_is (pos k) i z) (b x)) (Elements i x (suc k) zs) h) [
    | inl e ↦ inl (pair_by (pos (b i)) (pos k) z (pos (b x)) (sym (where_is_test (pos k) i z (b x)) ∙ e))
    | inr e ↦ inr (elements_to i x (suc k) zs e)
  ]

  numbers_from : (i x k : ℕ) (zs : List ℤ) → IsElement k zs (pos (b i)) (pos (b x)) → Numbers i x k zs ≡ true
  numbers_from i x k [] h = absurd h
  numbers_from i x k (z ∷ zs) h = elim h [
    | inl e ↦ or_left _ _ (where_is_test z x (pos k) (b i) ∙ by_pair (pos (b x)) z (pos k) (pos (b i)) (e.1, e.0))
    | inr e ↦ or_right _ _ (numbers_from i x (suc k) zs e)
  ]

  element_inside : (i x : ℕ) (zs : List ℤ) → IsElement 1 zs (pos (b i)) (pos (b x)) → Inside M b (element_ranges i zs x)
  element_inside i x zs h = (
    set_singles M b (union_of (elements_at i 1 zs)) (b x) (small x) ∙ (union_test (elements_at i 1 zs) (b x) ∙ elements_from i x 1 zs h),
    (set_singles M b (union_of (index_ranges x 1 zs)) (b i) (small i) ∙ (union_test (index_ranges x 1 zs) (b i) ∙ numbers_from i x 1 zs h), tt),
  )

  inside_element : (i x : ℕ) (zs : List ℤ) → Inside M b (element_ranges i zs x) → IsElement 1 zs (pos (b i)) (pos (b x))
  inside_element i x zs h = elements_to i x 1 zs (sym (union_test (elements_at i 1 zs) (b x)) ∙ (sym (set_singles M b (union_of (elements_at i 1 zs)) (b x) (small x)) ∙ h.0))

-- the parts of an fd_element
pub record IsElementGoal (i l x : Term) (n : ℕ) (e : Expansion) : Type 0 where
  pub index : Member
  pub elements : List ℤ
  pub value : Member
  pub from_index : as_member i ≡ Ok index
  pub from_list : walk as_integer l ≡ Ok elements
  pub from_value : as_member x ≡ Ok value
  pub rows : element_rows index elements value n ≡ e

pub element_ok : (i l x : Term) (n : ℕ) (e : Expansion) → element i l x n ≡ Ok e → IsElementGoal i l x n e
element_ok i l x n e h =
    let k = both_ok (λ p y. Ok (element_rows p.0 p.1 y n)) (of_both pair (as_member i) (walk as_integer l)) (as_member x) e h in
    let j = both_ok pair (as_member i) (walk as_integer l) k.left k.from_left in
    let g : (j.left, j.right) ≡ k.left = cc (j.both) in
    let f : element_rows k.left.0 k.left.1 k.right n ≡ e = cc (k.both) in
    record {
      index = j.left;
      elements = j.right;
      value = k.right;
      from_index = j.from_left;
      from_list = j.from_right;
      from_value = k.from_right;
      rows = subst (λ p. element_rows p.0 p.1 k.right n ≡ e) (sym g) f;
    }

pub choosing : (M N : ℕ) → N ≤ M → (i l x : Term) (n : ℕ) (e : Expansion) (a : Assignment) → TermBelow n i → TermBelow n x → ((v : ℕ) → a v ≤ N)
    → element i l x n ≡ Ok e → IsRewritten M N Element (term i (term l (term x no_terms))) n e a
choosing M N up i l x n e a bi bx small h =
    let k = element_ok i l x n e h in
    let ms : List Member = k.index ∷ k.value ∷ [] in
    let p = place_of n k.index in
    let q = place_of (after n k.index) k.value in
    let ri = member_read n a i k.index k.from_index in
    let rx = member_read n a x k.value k.from_value in
    let rl = integers_read a l k.elements k.from_list in
    let below : MembersBelow n ms = (ri.below bi, (rx.below bx, tt)) in
    subst (λ y. IsRewritten M N Element (term i (term l (term x no_terms))) n y a) k.rows (record {
      one = λ sat.
          let known = known_numbers N a ms (subst (IsNumber N) ri.worth sat.0, (subst (IsNumber N) rx.worth sat.1, tt)) in
          let b = filled a n ms in
          let w = placed_worths n a b (filled_below ms a n) ms n below (filled_equated N ms a n known) in
          let wi : worth a i ≡ pos (b p) = ri.worth ∙ sym (first_of w) in
          let wx : worth a x ≡ pos (b q) = rx.worth ∙ sym (second_of w) in
          placed_one M N n ms (element_rows k.index k.elements k.value n) a small known refl refl
          (element_inside M b (up_to M N up b (filled_small N ms a n known small)) p q k.elements
          (subst (λ z. IsElement 1 k.elements z (pos (b q))) wi (subst (λ z. IsElement 1 k.elements (worth a i) z) wx (subst (λ zs. IsElement 1 zs (worth a i) (worth a x)) rl sat.2))));
      satisfied = λ b g f.
          let w = placed_worths n a b g.same ms n below f.equated in
          let wi : pos (b p) ≡ worth a i = first_of w ∙ sym ri.worth in
          let wx : pos (b q) ≡ worth a x = second_of w ∙ sym rx.worth in (
            record { number = b p; within = g.within p; is = sym wi },
            record { number = b q; within = g.within q; is = sym wx },
            subst (λ zs. IsElement 1 zs (worth a i) (worth a x)) (sym rl)
                (subst (λ z. IsElement 1 k.elements (worth a i) z) wx
                (subst (λ z. IsElement 1 k.elements z (pos (b q))) wi (inside_element M b (up_to M N up b g.within) p q k.elements f.inside))),
          );
    }) where
      first_of : {u v y z : ℤ} → u ∷ v ∷ [] ≡ y ∷ z ∷ [] → u ≡ y
      first_of h = cc

      second_of : {u v y z : ℤ} → u ∷ v ∷ [] ≡ y ∷ z ∷ [] → v ≡ z
      second_of h = cc
