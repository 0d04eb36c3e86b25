-- The variables that an expansion of a product or a Boolean constraint names, and those of all.
use Rattle.std.proofs.Common.{◌≡◌, ℕ, ◌≤◌, ◌<◌, true, ◌==◌, List, [], ◌∷◌, ◌++◌, Some, refl, sym, subst, inl, inr, ◌⊎◌, arith, eq-eqb, Ok}
use Rattle.std.proofs.lemmas.Bool.{or_left, or_right}
use Rattle.fd_model.specs.declared.kinds.ConstraintKind.{ConstraintKind}
use Rattle.fd_model.specs.declared.kinds.ConstraintKind.TheVariants.{Compare, And, Or, Not, Reified}
use Rattle.fd_model.specs.declared.kinds.Relation.{Relation}
use Rattle.fd_language.specs.Lists.{Each}
use Rattle.fd_language.proofs.Lemmas.{in_left, in_right}
use Rattle.fd_language.specs.Family.{has}
use Rattle.fd_language.specs.Variables.{variables_of, variables_of_all}
use Rattle.fd_language.specs.Term.{Term, Terms, Var, Comp, no_terms, term}
use Rattle.fd_language.specs.Range.{Indexical}
use Rattle.fd_model.specs.Linear.{Comparison, IsEqual, IsOther, IsAtMost}
use Rattle.fd_model.specs.Members.{Member, Open, Known, place_of, after, placed, fresh_after}
use Rattle.fd_model.specs.ProductRows.{Product, product_form, product_ranges}
use Rattle.fd_model.specs.BooleanRows.{and_ranges, or_ranges, not_ranges}
use Rattle.fd_model.specs.ReifiedRows.{reified_ranges, reified_end}
use Rattle.fd_model.specs.Splitting.{Split, sum_rows, joined, on_members, of_three, of_two, reified, split}
use Rattle.fd_model.specs.ConstraintLaws.{IsScoped, ScopedRows}
use Rattle.fd_model.proofs.FreshVariables.{fresh_grows}
use Rattle.fd_model.proofs.DeterminedValues.{NamesIn}
use Rattle.fd_model.proofs.RowNames.{EachVariable}
use Rattle.fd_model.proofs.ListNames.{names_append, named_left, none_named, equated_named}
use Rattle.fd_model.proofs.RowScopes.{all_vars, MembersIn, member_in, placed_scoped, equated_scoped, wider, basic_scoped}
use Rattle.fd_model.proofs.Splits.{expand_ok, of_some, three_ok, two_ok, product_ok, reified_ok}
use Rattle.fd_model.proofs.SplitSums.{IsTeller}
use Rattle.fd_model.proofs.MemberRewriting.{member_term, HasForm, IsProductForm, product_form_ok, factor_members}
use Rattle.fd_model.proofs.ReifiedRewriting.{form_vars}
use Rattle.fd_model.proofs.SplitNames.{each_there, AreThere, product_names, and_names, or_names, not_names, reified_names, product_there, and_there, or_there}
use Rattle.fd_model.proofs.SplitNames.{not_there, teller_there}

-- ranges on members
members_scoped : (ts : Terms) (n : ℕ) (ms : List Member) (ps : List Indexical) → MembersIn (λ v. has (variables_of_all ts) v ≡ true) ms
    → ((P : ℕ → Type 0) → Each P (placed n ms) → NamesIn P ps) → AreThere ps (placed n ms) → IsScoped ts n (joined (on_members n ms ps))
members_scoped ts n ms ps inside names there =
    let Q : ℕ → Type 0 = λ v. has (variables_of_all ts) v ≡ true in
    let P : ℕ → Type 0 = λ v. Q v ⊎ ((n ≤ v) × (v < fresh_after n ms)) in
    record {
      named = names_append P ps [] (names P (placed_scoped Q n ms n (omega arith) inside)) (none_named P);
      equated = equated_scoped n (fresh_after n ms) (ps ++ []) ms n (omega arith) (omega arith) (equated_named (ps ++ []) ms n (λ v e. named_left ps [] v (each_there ps (placed n ms) there v e)));
      grows = fresh_grows ms n;
    }

-- a product's variables
factors_in : (Q : ℕ → Type 0) (s t : Term) (p : Product) → HasForm s t p → EachVariable Q s → EachVariable Q t → MembersIn Q (factor_members p)
factors_in Q s t p h hs ht =
    let e : EachVariable Q (Comp h.name (term (Var p.left) (term (Var p.right) no_terms))) = subst (EachVariable Q) (sym h.left_is) hs in (
      e p.left (or_left _ _ (eq-eqb p.left p.left refl)),
      (e p.right (or_right (p.left == p.right) _ (or_left _ _ (eq-eqb p.right p.right refl))), by_member p.result (subst (EachVariable Q) (sym h.result_is) ht)),
    ) where
      by_member : (m : Member) → EachVariable Q (member_term m) → MembersIn Q (m ∷ [])
      by_member (Open x) h = (h x (or_left _ _ (eq-eqb x x refl)), tt)
      by_member (Known z) h = tt

product_in : (Q : ℕ → Type 0) (r : Relation) (s t : Term) (p : Product) → IsProductForm r s t p → EachVariable Q s → EachVariable Q t → MembersIn Q (factor_members p)
product_in Q r s t p h hs ht = elim h.sides [ inl k ↦ factors_in Q s t p k hs ht | inr k ↦ factors_in Q t s p k ht hs ]

three_scoped : (rows : ℕ → ℕ → ℕ → List Indexical) → ((P : ℕ → Type 0) (x y z : ℕ) → Each P (x ∷ y ∷ z ∷ []) → NamesIn P (rows x y z)) → ((x y z : ℕ) → AreThere (rows x y z) (x ∷ y ∷ z ∷ []))
    → (x y z : Term) (n : ℕ) (s : Split) → of_three rows x y z n ≡ Ok s → IsScoped (term x (term y (term z no_terms))) n (joined s)
three_scoped rows names there x y z n s h =
    let k = three_ok rows x y z n s h in
    let ms : List Member = k.first ∷ k.second ∷ k.third ∷ [] in
    let u = place_of n k.first in
    let v = place_of (after n k.first) k.second in
    let w = place_of (after (after n k.first) k.second) k.third in
    let Q : ℕ → Type 0 = λ v. has (variables_of x ++ (variables_of y ++ (variables_of z ++ []))) v ≡ true in
    let inside = member_in Q x k.first (k.second ∷ k.third ∷ []) (λ v e. in_left (variables_of x) (variables_of y ++ (variables_of z ++ [])) v e) k.from_first
    (member_in Q y k.second (k.third ∷ []) (λ v e. in_right (variables_of x) (variables_of y ++ (variables_of z ++ [])) v (in_left (variables_of y) (variables_of z ++ []) v e)) k.from_second
    (member_in Q z k.third [] (λ v e. in_right (variables_of x) (variables_of y ++ (variables_of z ++ [])) v
    (in_right (variables_of y) (variables_of z ++ []) v (in_left (variables_of z) [] v e))) k.from_third tt)) in
    subst (λ q. IsScoped (term x (term y (term z no_terms))) n (joined q)) k.is
    (members_scoped (term x (term y (term z no_terms))) n ms (rows u v w) inside (λ P e. names P u v w e) (there u v w))

two_scoped : (x y : Term) (n : ℕ) (s : Split) → of_two not_ranges x y n ≡ Ok s → IsScoped (term x (term y no_terms)) n (joined s)
two_scoped x y n s h =
    let k = two_ok not_ranges x y n s h in
    let ms : List Member = k.first ∷ k.second ∷ [] in
    let Q : ℕ → Type 0 = λ v. has (variables_of x ++ (variables_of y ++ [])) v ≡ true in
    let inside = member_in Q x k.first (k.second ∷ []) (λ v e. in_left (variables_of x) (variables_of y ++ []) v e) k.from_first
    (member_in Q y k.second [] (λ v e. in_right (variables_of x) (variables_of y ++ []) v (in_left (variables_of y) [] v e)) k.from_second tt) in
    subst (λ q. IsScoped (term x (term y no_terms)) n (joined q)) k.is
    (members_scoped (term x (term y no_terms)) n ms (not_ranges (place_of n k.first) (place_of (after n k.first) k.second)) inside
    (λ P e. not_names P (place_of n k.first) (place_of (after n k.first) k.second) e) (not_there (place_of n k.first) (place_of (after n k.first) k.second)))

product_scoped : (r : Relation) (s t : Term) (n : ℕ) (p : Product) → product_form r s t ≡ Some p
    → IsScoped (term s (term t no_terms)) n (joined (on_members n (factor_members p) (product_ranges p.left p.right (place_of n p.result))))
product_scoped r s t n p e =
    let Q : ℕ → Type 0 = λ v. has (variables_of s ++ (variables_of t ++ [])) v ≡ true in
    members_scoped (term s (term t no_terms)) n (factor_members p) (product_ranges p.left p.right (place_of n p.result))
    (product_in Q r s t p (product_form_ok r s t p e) (λ v h. in_left (variables_of s) (variables_of t ++ []) v h)
    (λ v h. in_right (variables_of s) (variables_of t ++ []) v (in_left (variables_of t) [] v h)))
    (λ P h. product_names P p.left p.right (place_of n p.result) h) (product_there p.left p.right (place_of n p.result))

end_grows : (c : Comparison) (m : ℕ) → m ≤ reified_end c m
end_grows IsAtMost m = omega arith
end_grows IsEqual m = omega arith
end_grows IsOther m = omega arith

reified_scoped : (M : ℕ) (b k : Term) (n : ℕ) (s : Split) → reified M b k n ≡ Ok s → IsScoped (term b (term k no_terms)) n (joined s)
reified_scoped M b k n s h =
    let g = reified_ok M b k n s h in
    let m = g.teller in
    let ms : List Member = m ∷ [] in
    let x = place_of n m in
    let end = after n m in
    let top = reified_end g.kind end in
    let ps = reified_ranges g.kind x end in
    let Q : ℕ → Type 0 = λ v. has (variables_of b ++ (variables_of k ++ [])) v ≡ true in
    let P : ℕ → Type 0 = λ v. Q v ⊎ ((n ≤ v) × (v < top)) in
    let low : n ≤ end = fresh_grows ms n in
    let high : end ≤ top = end_grows g.kind end in
    let inside = member_in Q b m [] (λ v e. in_left (variables_of b) (variables_of k ++ []) v e) g.from_teller tt in
    let placed_in = placed_scoped Q n ms n (omega arith) inside in
    let vars = form_vars Q k g.kind g.form g.from_term (λ v e. in_right (variables_of b) (variables_of k ++ []) v (in_left (variables_of k) [] v e)) in
    let tellers : (f : ℕ) → IsTeller g.kind x end f → P f = λ f t. elim t [ inl e ↦ subst P (sym e) (wider Q n end top high x placed_in.0) | inr e ↦ inr (let l = e.0 in omega arith, e.1) ] in
    subst (λ q. IsScoped (term b (term k no_terms)) n (joined q)) g.is (record {
      named = reified_names P M g.kind x end g.form g.sums g.sums_are (all_vars Q P (λ v q. inl q) g.form.products vars) tellers;
      equated = equated_scoped n top (ps ++ sum_rows g.sums) ms n (omega arith) high
          (equated_named (ps ++ sum_rows g.sums) ms n (λ v e. named_left ps (sum_rows g.sums) v (each_there ps (placed n ms) (teller_there g.kind x end, tt) v e)));
      grows = omega arith;
    })

split_scoped : (M : ℕ) (kind : ConstraintKind) (ts : Terms) (n : ℕ) (s : Split) → split M kind ts n ≡ Some (Ok s) → IsScoped ts n (joined s)
split_scoped M (Compare r) (term t (term u no_terms)) n s e =
    let k = product_ok n (product_form r t u) s e in
    subst (λ q. IsScoped (term t (term u no_terms)) n (joined q)) k.is (product_scoped r t u n k.product k.form)
split_scoped M And (term x (term y (term z no_terms))) n s e = three_scoped and_ranges and_names and_there x y z n s (of_some (of_three and_ranges x y z n) s e)
split_scoped M Or (term x (term y (term z no_terms))) n s e = three_scoped or_ranges or_names or_there x y z n s (of_some (of_three or_ranges x y z n) s e)
split_scoped M Not (term x (term y no_terms)) n s e = two_scoped x y n s (of_some (of_two not_ranges x y n) s e)
split_scoped M Reified (term b (term k no_terms)) n s e = reified_scoped M b k n s (of_some (reified M b k n) s e)
split_scoped M _ _ n s e = absurd (cc)

pub scoped_rows : ScopedRows
scoped_rows M kind ts n x h = elim (expand_ok M kind ts n x h) [
  | inl k ↦ basic_scoped kind ts n x k.basic_is
  | inr k ↦ subst (IsScoped ts n) k.rows (split_scoped M kind ts n k.parts k.split_is)
]
