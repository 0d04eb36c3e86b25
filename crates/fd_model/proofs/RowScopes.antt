-- The variables that an expansion names.
use Rattle.std.proofs.Common.{◌≡◌, ℕ, suc, ◌+◌, ◌≤◌, ◌<◌, Bool, true, false, cond, ◌==◌, ℤ, pos, List, [], ◌∷◌, ◌++◌, length, refl, sym, subst, inl, inr, ◌⊎◌}
use Rattle.std.proofs.Common.{arith, eqb-true, eq-eqb, Ok, Err}
use Rattle.std.specs.Str.{bytes_eq}
use Rattle.std.specs.Prelude.{codes}
use Rattle.std.proofs.lemmas.Bool.{or_cases, or_left, true≢false}
use Rattle.fd_model.specs.declared.kinds.Relation.{Relation}
use Rattle.fd_model.specs.declared.kinds.ConstraintKind.{ConstraintKind}
use Rattle.fd_model.specs.declared.kinds.ConstraintKind.TheVariants.{Compare, AllDifferent, Element, Atmost}
use Rattle.fd_language.specs.Lists.{Each}
use Rattle.fd_language.proofs.Lemmas.{each_map, in_left, in_right}
use Rattle.fd_language.specs.Family.{has}
use Rattle.fd_language.specs.Variables.{variables_of}
use Rattle.fd_language.specs.Term.{Term, Terms, Var, Int, Atom, Comp, no_terms, term}
use Rattle.fd_language.specs.Range.{Indexical}
use Rattle.fd_model.specs.Linear.{Comparison, IsAtMost, comparison, normal}
use Rattle.fd_model.specs.LinearRows.{Expansion, linear_rows, compares, no_number}
use Rattle.fd_model.specs.Members.{Member, Open, Known, as_member, prepend, walk, place_of, after, placed, fresh_after, equated_from}
use Rattle.fd_model.specs.ListRows.{different_ranges, different_rows, element_ranges, counts, units}
use Rattle.fd_model.specs.ConstraintExpansion.{compare, all_different, element, atmost, basic}
use Rattle.fd_model.specs.ConstraintLaws.{AllFresh, IsScoped}
use Rattle.fd_model.proofs.CollectedSums.{one_ok, both_ok, test_ok}
use Rattle.fd_model.proofs.ComparisonRows.{form_of}
use Rattle.fd_model.proofs.ElementRows.{element_ok}
use Rattle.fd_model.proofs.Counters.{atmost_ok}
use Rattle.fd_model.proofs.FreshVariables.{fresh_grows}
use Rattle.fd_model.proofs.DeterminedValues.{NamesIn, AllNamed}
use Rattle.fd_model.proofs.RowNames.{EachVariable, AllVars, rows_names, collect_vars, normal_vars}
use Rattle.fd_model.proofs.ListNames.{names_append, named_left, different_names, named_different, element_names, named_element, AllAdded, counts_names}
use Rattle.fd_model.proofs.ListNames.{named_counts, units_vars, equated_named}

pub all_vars : (Q P : ℕ → Type 0) → ((v : ℕ) → Q v → P v) → (ts : List (ℕ × ℤ)) → AllVars Q ts → AllVars P ts
all_vars Q P f [] h = tt
all_vars Q P f (t ∷ ts) h = (f t.0 h.0, all_vars Q P f ts h.1)

module _ (Q : ℕ → Type 0) where
  none_scoped : (c : Bool) (n : ℕ) → let x : Expansion = cond c (record { equated = []; ranges = []; fresh = n })
      (record { equated = []; ranges = record { target = n; range = no_number } ∷ []; fresh = suc n }) in
      NamesIn (λ v. Q v ⊎ ((n ≤ v) × (v < x.fresh))) x.ranges × (n ≤ x.fresh)
  none_scoped true n = ((λ v h. absurd (true≢false (sym h))), omega arith)
  none_scoped false n = (
    (λ v h. elim (or_cases (n == v) false h) [
      | inl e ↦ inr (
        let k = eqb-true n v e in omega arith,
        let k = eqb-true n v e in
            omega arith,
      )
      | inr e ↦ absurd (true≢false (sym e))
    ]),
    omega arith,
  )

  form_scoped : (k : Comparison) (ts : List (ℕ × ℤ)) (c : ℤ) (n : ℕ) → AllVars Q ts
      → NamesIn (λ v. Q v ⊎ ((n ≤ v) × (v < (linear_rows k ts c n).fresh))) (linear_rows k ts c n).ranges × (n ≤ (linear_rows k ts c n).fresh)
  form_scoped k [] c n h = none_scoped (compares k (pos 0) c) n
  form_scoped k (t ∷ ts) c n h = (rows_names (λ v. Q v ⊎ ((n ≤ v) × (v < n))) k c [] (t ∷ ts) tt (all_vars Q (λ v. Q v ⊎ ((n ≤ v) × (v < n))) (λ v q. inl q) (t ∷ ts) h), omega arith)

  abbrev pub MembersIn : List Member → Type 0
  MembersIn [] = Unit {0}
  MembersIn (Open x ∷ ms) = Q x × MembersIn ms
  MembersIn (Known z ∷ ms) = MembersIn ms

  pub member_in : (t : Term) (m : Member) (ms : List Member) → EachVariable Q t → as_member t ≡ Ok m → MembersIn ms → MembersIn (m ∷ ms)
  member_in (Var x) m ms q h l = let e : Open x ≡ m = cc in subst (λ w. MembersIn (w ∷ ms)) e (q x (or_left _ _ (eq-eqb x x refl)), l)
  member_in (Int z) m ms q h l = let e : Known z ≡ m = cc in subst (λ w. MembersIn (w ∷ ms)) e l
  member_in (Atom f) m ms q h l = absurd (cc)
  member_in (Comp f ts) m ms q h l = absurd (cc)

  members_in : (t : Term) (ms : List Member) → EachVariable Q t → walk as_member t ≡ Ok ms → MembersIn ms
  members_in (Atom f) ms q h = test_ok (bytes_eq f (codes "[]")) (Ok []) (Err _) ms (MembersIn ms) h (λ c e. let k : [] ≡ ms = cc in subst MembersIn k tt) (λ c e. absurd (cc))
  members_in (Comp f (term x (term t no_terms))) ms q h =
      test_ok (bytes_eq f (codes ".")) _ (Err _) ms (MembersIn ms) h
      (λ c e.
      let k = both_ok prepend (as_member x) (walk as_member t) ms e in
      let g : k.left ∷ k.right ≡ ms = cc (k.both) in
      subst MembersIn g (member_in x k.left k.right (λ v i. q v (in_left (variables_of x) (variables_of t ++ []) v i)) k.from_left
      (members_in t k.right (λ v i. q v (in_right (variables_of x) (variables_of t ++ []) v (in_left (variables_of t) [] v i))) k.from_right)))
      (λ c e. absurd (cc))
  members_in _ ms q h = absurd (cc)

  pub placed_scoped : (n : ℕ) (ms : List Member) (k : ℕ) → n ≤ k → MembersIn ms → Each (λ v. Q v ⊎ ((n ≤ v) × (v < fresh_after k ms))) (placed k ms)
  placed_scoped n [] k l h = tt
  placed_scoped n (Open x ∷ ms) k l h = (inl h.0, placed_scoped n ms k l h.1)
  placed_scoped n (Known z ∷ ms) k l h = (inr (l, let g = fresh_grows ms (suc k) in omega arith), placed_scoped n ms (suc k) (omega arith) h)

  added_scoped : (n m : ℕ) (xs : List ℕ) (k : ℕ) → n ≤ k → k + length xs ≤ m → AllAdded (λ v. Q v ⊎ ((n ≤ v) × (v < m))) xs k
  added_scoped n m [] k l h = tt
  added_scoped n m (x ∷ xs) k l h = (inr (l, omega arith), added_scoped n m xs (suc k) (omega arith) (omega arith))

pub equated_scoped : (n m : ℕ) (ps : List Indexical) (ms : List Member) (k : ℕ) → n ≤ k → fresh_after k ms ≤ m → AllNamed (equated_from k ms) ps → AllFresh n m ps (equated_from k ms)
equated_scoped n m ps [] k l h a = tt
equated_scoped n m ps (Open x ∷ ms) k l h a = equated_scoped n m ps ms k l h a
equated_scoped n m ps (Known z ∷ ms) k l h a = ((l, let g = fresh_grows ms (suc k) in omega arith, a.0), equated_scoped n m ps ms (suc k) (omega arith) h a.1)

pub wider : (Q : ℕ → Type 0) (n m k : ℕ) → m ≤ k → (v : ℕ) → Q v ⊎ ((n ≤ v) × (v < m)) → Q v ⊎ ((n ≤ v) × (v < k))
wider Q n m k h v (inl q) = inl q
wider Q n m k h v (inr l) = inr (l.0, omega (arith, l.1))

no_equated : (k : Comparison) (ts : List (ℕ × ℤ)) (c : ℤ) (n m : ℕ) (ps : List Indexical) → AllFresh n m ps (linear_rows k ts c n).equated
no_equated k [] c n m ps = by_test (compares k (pos 0) c) where
  by_test : (d : Bool) → let x : Expansion = cond d (record { equated = []; ranges = []; fresh = n })
      (record { equated = []; ranges = record { target = n; range = no_number } ∷ []; fresh = suc n }) in AllFresh n m ps x.equated
  by_test true = tt
  by_test false = tt
no_equated k (t ∷ ts) c n m ps = tt

compare_scoped : (r : Relation) (s t : Term) (n : ℕ) (x : Expansion) → compare r s t n ≡ Ok x → IsScoped (term s (term t no_terms)) n x
compare_scoped r s t n x h =
    let f = form_of r s t n x h in
    let m = normal r f.linear in
    let Q : ℕ → Type 0 = λ v. has (variables_of s ++ (variables_of t ++ [])) v ≡ true in
    let vars = normal_vars Q r f.linear (collect_vars Q s t f.linear (λ v e. in_left (variables_of s) (variables_of t ++ []) v e)
    (λ v e. in_right (variables_of s) (variables_of t ++ []) v (in_left (variables_of t) [] v e)) f.collected) in
    let g = form_scoped Q (comparison r) m.products m.constant n vars in
    subst (IsScoped (term s (term t no_terms)) n) f.rows
    (record { named = g.0; equated = no_equated (comparison r) m.products m.constant n _ _; grows = g.1 })

different_scoped : (l : Term) (n : ℕ) (x : Expansion) → all_different l n ≡ Ok x → IsScoped (term l no_terms) n x
different_scoped l n x h =
    let k = one_ok (λ ms. Ok (different_rows ms n)) (walk as_member l) x h in
    let ms = k.0 in
    let e : different_rows ms n ≡ x = cc (k.2) in
    let Q : ℕ → Type 0 = λ v. has (variables_of l ++ []) v ≡ true in
    let p = placed_scoped Q n ms n (omega arith) (members_in Q l ms (λ v i. in_left (variables_of l) [] v i) k.1) in
    subst (IsScoped (term l no_terms) n) e (record {
      named = different_names (λ v. Q v ⊎ ((n ≤ v) × (v < fresh_after n ms))) (placed n ms) p;
      equated = equated_scoped n (fresh_after n ms) (different_ranges (placed n ms)) ms n (omega arith) (omega arith)
          (equated_named (different_ranges (placed n ms)) ms n (named_different (placed n ms)));
      grows = fresh_grows ms n;
    })

element_scoped : (i l y : Term) (n : ℕ) (x : Expansion) → element i l y n ≡ Ok x → IsScoped (term i (term l (term y no_terms))) n x
element_scoped i l y n x h =
    let k = element_ok i l y n x h in
    let ms : List Member = k.index ∷ k.value ∷ [] in
    let Q : ℕ → Type 0 = λ v. has (variables_of i ++ (variables_of l ++ (variables_of y ++ []))) v ≡ true in
    let here = member_in Q i k.index (k.value ∷ []) (λ v e. in_left (variables_of i) (variables_of l ++ (variables_of y ++ [])) v e) k.from_index
    (member_in Q y k.value [] (λ v e. in_right (variables_of i) (variables_of l ++ (variables_of y ++ [])) v
    (in_right (variables_of l) (variables_of y ++ []) v (in_left (variables_of y) [] v e))) k.from_value tt) in
    let p = placed_scoped Q n ms n (omega arith) here in
    let a = place_of n k.index in
    let b = place_of (after n k.index) k.value in
    subst (IsScoped (term i (term l (term y no_terms))) n) k.rows (record {
      named = element_names (λ v. Q v ⊎ ((n ≤ v) × (v < fresh_after n ms))) a b k.elements p.0 p.1.0;
      equated = equated_scoped n (fresh_after n ms) (element_ranges a k.elements b) ms n (omega arith) (omega arith)
          (equated_named (element_ranges a k.elements b) ms n (named_element a b k.elements));
      grows = fresh_grows ms n;
    })

joined : (Q : Type 0) (n j m w : ℕ) → n ≤ j → j ≤ m → (Q ⊎ ((n ≤ w) × (w < j))) ⊎ ((j ≤ w) × (w < m)) → Q ⊎ ((n ≤ w) × (w < m))
joined Q n j m w l h (inl (inl q)) = inl q
joined Q n j m w l h (inl (inr e)) = inr (e.0, omega (arith, e.1))
joined Q n j m w l h (inr e) = inr (omega (arith, e.0), e.1)

atmost_scoped : (m l v : Term) (n : ℕ) (x : Expansion) → atmost m l v n ≡ Ok x → IsScoped (term m (term l (term v no_terms))) n x
atmost_scoped m l v n x h =
    let g = atmost_ok m l v n x h in
    let ms = g.members in
    let xs = placed n ms in
    let k = fresh_after n ms in
    let j = k + length xs in
    let ps = counts g.value xs k in
    let rows = linear_rows IsAtMost (units xs k) g.limit j in
    let top = rows.fresh in
    let Q : ℕ → Type 0 = λ w. has (variables_of m ++ (variables_of l ++ (variables_of v ++ []))) w ≡ true in
    let R : ℕ → Type 0 = λ w. Q w ⊎ ((n ≤ w) × (w < j)) in
    let low = fresh_grows ms n in
    let p = placed_scoped Q n ms n (omega arith) (members_in Q l ms
    (λ w i. in_right (variables_of m) (variables_of l ++ (variables_of v ++ [])) w (in_left (variables_of l) (variables_of v ++ []) w i)) g.from_list) in
    let wide : Each R xs = each_map (λ w. Q w ⊎ ((n ≤ w) × (w < k))) R (wider Q n k j (omega arith)) xs p in
    let added = added_scoped Q n j xs k low (omega arith) in
    let s = form_scoped R IsAtMost (units xs k) g.limit j (units_vars R xs k added) in
    let P : ℕ → Type 0 = λ w. Q w ⊎ ((n ≤ w) × (w < top)) in
    let up : j ≤ top = s.1 in
    subst (IsScoped (term m (term l (term v no_terms))) n) g.rows (record {
      named = names_append P ps rows.ranges (λ w e. wider Q n j top up w (counts_names R g.value xs k wide added w e)) (λ w e. joined (Q w) n j top w (omega arith) up (s.0 w e));
      equated = equated_scoped n top (ps ++ rows.ranges) ms n (omega arith) (omega arith) (equated_named (ps ++ rows.ranges) ms n (λ w e. named_left ps rows.ranges w (named_counts g.value xs k w e)));
      grows = omega arith;
    })

pub basic_scoped : (kind : ConstraintKind) (ts : Terms) (n : ℕ) (x : Expansion) → basic kind ts n ≡ Ok x → IsScoped ts n x
basic_scoped (Compare r) (term s (term t no_terms)) n x h = compare_scoped r s t n x h
basic_scoped AllDifferent (term l no_terms) n x h = different_scoped l n x h
basic_scoped Element (term i (term l (term v no_terms))) n x h = element_scoped i l v n x h
basic_scoped Atmost (term m (term l (term v no_terms))) n x h = atmost_scoped m l v n x h
basic_scoped _ _ n x h = absurd (cc)
