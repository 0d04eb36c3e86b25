-- A comparison that is told: exactly one extension fits where it is told rightly.
use Rattle.std.proofs.Common.{◌≡◌, ℕ, suc, ◌+◌, ◌≤◌, ◌<◌, Bool, true, false, not, ◌&&◌, ◌==◌, ℤ, pos, negsuc, ◌*ℤ◌, neg_ℤ, ◌≤ℤ◌, int_le, List, [], ◌∷◌, ◌++◌}
use Rattle.std.proofs.Common.{refl, ap, sym, ◌∙◌, subst, inl, inr, arith, eqb-true, eq-eqb, Ok, ◌↔◌}
use Rattle.std.specs.Ordering.{int_eq}
use Rattle.std.specs.Cmp.{both_ways}
use Rattle.std.proofs.lemmas.Int.{ints}
use Rattle.std.proofs.lemmas.Bool.{cases_Bool}
use Rattle.fd_language.specs.Variables.{variables_of}
use Rattle.fd_language.proofs.Lemmas.{int_le_true, in_left, in_right}
use Rattle.fd_model.specs.declared.kinds.ConstraintKind.TheVariants.{Reified}
use Rattle.fd_language.specs.Term.{Term, Comp, no_terms, term}
use Rattle.fd_language.specs.Variables.{TermBelow}
use Rattle.fd_model.specs.Linear.{Linear, Comparison, IsEqual, IsOther, IsAtMost, comparison, turned}
use Rattle.fd_model.specs.LinearRows.{compares}
use Rattle.fd_model.specs.Members.{Member, Open, Known, place_of, after}
use Rattle.fd_model.specs.BooleanRows.{bit, not_ranges}
use Rattle.fd_model.specs.ReifiedRows.{reach, reified_sums, equal_ranges, reified_ranges, reified_end}
use Rattle.fd_model.specs.Splitting.{Split, joined, sum_rows, reified}
use Rattle.fd_model.specs.Satisfaction.{Assignment, worth, Holds, Tells, TellsRelation, TellsTerm, AreNumbers}
use Rattle.fd_model.specs.ConstraintLaws.{total, IsRewritten}
use Rattle.fd_model.proofs.Integers.{turned_once}
use Rattle.fd_model.proofs.Sums.{total-scaled}
use Rattle.fd_model.proofs.CollectedSums.{collect_is}
use Rattle.fd_model.proofs.NormalForms.{normal_is}
use Rattle.fd_model.proofs.Singles.{up_to, Inside, inside_append, inside_left, inside_right}
use Rattle.fd_model.proofs.FreshVariables.{MemberBelow, MembersBelow, member_read, member_worth, known_numbers, placed_worths, changed, changed_here}
use Rattle.fd_model.proofs.FreshVariables.{changed_other, changed_small, filled, filled_below, filled_small, filled_equated, equated_agree, fresh_grows}
use Rattle.fd_model.proofs.Counters.{equated_same}
use Rattle.fd_model.proofs.RowNames.{EachVariable, AllVars, each_below, collect_vars, normal_vars}
use Rattle.fd_model.proofs.Splits.{rows_joined, told_ok, AreBothTold, both_told_ok, IsComparison, reified_ok}
use Rattle.fd_model.proofs.BooleanRows.{IsAnd, bit_inside, inside_bit, and_inside, inside_and, not_inside, inside_not}
use Rattle.fd_model.proofs.ReifiedSums.{truth, told_inside, inside_told, reach_far, reach_turned}
use Rattle.fd_model.proofs.MemberRewriting.{of_pos}

-- a sum is the same where its variables have the same numbers
pub total_same : (n : ℕ) (a b : Assignment) → ((v : ℕ) → v < n → b v ≡ a v) → (ts : List (ℕ × ℤ)) → AllVars (λ v. v < n) ts → total b ts ≡ total a ts
total_same n a b s [] h = refl
total_same n a b s (t ∷ ts) h = let e = s t.0 h.0 in let f = total_same n a b s ts h.1 in cc

truth_bit : (q : Bool) → truth q ≤ 1
truth_bit true = omega arith
truth_bit false = omega arith

truth_and : (p q : Bool) → IsAnd (truth p) (truth q) (truth (p && q))
truth_and true true = record { left = omega arith; right = omega arith; at_left = omega arith; at_right = omega arith; both = omega arith }
truth_and true false = record { left = omega arith; right = omega arith; at_left = omega arith; at_right = omega arith; both = omega arith }
truth_and false true = record { left = omega arith; right = omega arith; at_left = omega arith; at_right = omega arith; both = omega arith }
truth_and false false = record { left = omega arith; right = omega arith; at_left = omega arith; at_right = omega arith; both = omega arith }

and_truth : (p q : Bool) (z : ℕ) → IsAnd (truth p) (truth q) z → z ≡ truth (p && q)
and_truth true true z h = let e = h.both in let f = h.at_left in omega arith
and_truth true false z h = let e = h.at_right in omega arith
and_truth false q z h = let e = h.at_left in omega arith

truth_not : (q : Bool) → truth q + truth (not q) ≡ 1
truth_not true = refl
truth_not false = refl

not_truth : (q : Bool) (z : ℕ) → truth q + z ≡ 1 → z ≡ truth (not q)
not_truth true z h = omega arith
not_truth false z h = omega arith

both_le : (t c : ℤ) → (int_le t c && int_le c t) ≡ int_eq t c
both_le t c = grind (arith, ints)

turned_le : (t c : ℤ) → int_le (negsuc 0 *ℤ t) (neg_ℤ c) ≡ int_le c t
turned_le t c = let e = turned_once t in both_ways (int_le (negsuc 0 *ℤ t) (neg_ℤ c)) (int_le c t)
    (λ h. let f = int_le_true (negsuc 0 *ℤ t) (neg_ℤ c) h in from_le c t (omega (arith, ints)))
    (λ h. let f = int_le_true c t h in from_le (negsuc 0 *ℤ t) (neg_ℤ c) (omega (arith, ints))) where
      from_le : (x y : ℤ) → x ≤ℤ y → int_le x y ≡ true
      from_le x y h = grind (arith, ints)

bit_small : (N : ℕ) → 0 < N → (q : Bool) → truth q ≤ N
bit_small N p true = omega arith
bit_small N p false = omega arith

-- x tells of a sum t and its constant c by b, and the added variables from m on tell of their parts
abbrev AllTold : Comparison → Assignment → ℕ → ℕ → ℤ → ℤ → Type 0
AllTold IsAtMost b x m t c = b x ≡ truth (int_le t c)
AllTold IsEqual b x m t c = (b m ≡ truth (int_le t c)) × (b (suc m) ≡ truth (int_le c t)) × (b x ≡ truth (int_eq t c))
AllTold IsOther b x m t c = (b m ≡ truth (int_eq t c)) × (b (suc m) ≡ truth (int_le t c)) × (b (suc (suc m)) ≡ truth (int_le c t)) × (b x ≡ truth (not (int_eq t c)))

module _ (M : ℕ) (b : Assignment) (small : (v : ℕ) → b v ≤ M) (positive : 0 < M) (l : Linear) where
  -- both parts of an equality
  parts_inside : (f g : ℕ) (ls : List Linear) → AreBothTold f g (pos (reach M l)) l ls → b f ≡ truth (int_le (total b l.products) l.constant)
      → b g ≡ truth (int_le l.constant (total b l.products)) → Inside M b (sum_rows ls)
  parts_inside f g ls i h k =
      let turn = ap truth (ap (λ s. int_le s (neg_ℤ l.constant)) (total-scaled b (negsuc 0) l.products) ∙ turned_le (total b l.products) l.constant) in
      subst (λ ms. Inside M b (sum_rows ms)) i.are (both_inside i.first i.second
      (told_inside M b small positive f (reach M l) l (reach_far M l) i.first i.from_first h)
      (told_inside M b small positive g (reach M l) (turned l) (reach_turned M l) i.second i.from_second (k ∙ sym turn))) where
        both_inside : (ls ms : List Linear) → Inside M b (sum_rows ls) → Inside M b (sum_rows ms) → Inside M b (sum_rows (ls ++ ms))
        both_inside ls ms h g = subst (Inside M b) (sym (rows_joined ls ms)) (inside_append M b (sum_rows ls) (sum_rows ms) h g)

  inside_parts : (f g : ℕ) (ls : List Linear) → AreBothTold f g (pos (reach M l)) l ls → b f ≤ 1 → b g ≤ 1 → Inside M b (sum_rows ls)
      → (b f ≡ truth (int_le (total b l.products) l.constant)) × (b g ≡ truth (int_le l.constant (total b l.products)))
  inside_parts f g ls i one two h =
      let turn = ap truth (ap (λ s. int_le s (neg_ℤ l.constant)) (total-scaled b (negsuc 0) l.products) ∙ turned_le (total b l.products) l.constant) in
      let e : Inside M b (sum_rows i.first ++ sum_rows i.second) = subst (Inside M b) (rows_joined i.first i.second) (subst (λ ms. Inside M b (sum_rows ms)) (sym i.are) h) in (
        inside_told M b small positive f (reach M l) l (reach_far M l) i.first i.from_first one (inside_left M b (sum_rows i.first) (sum_rows i.second) e),
        inside_told M b small positive g (reach M l) (turned l) (reach_turned M l) i.second i.from_second two (inside_right M b (sum_rows i.first) (sum_rows i.second) e) ∙ turn,
      )

  equal_inside : (x f g : ℕ) → b f ≡ truth (int_le (total b l.products) l.constant) → b g ≡ truth (int_le l.constant (total b l.products))
      → b x ≡ truth (int_eq (total b l.products) l.constant) → Inside M b (equal_ranges x f g)
  equal_inside x f g h k e =
      let p = int_le (total b l.products) l.constant in
      let q = int_le l.constant (total b l.products) in
      let one : b f ≤ 1 = subst (λ v. v ≤ 1) (sym h) (truth_bit p) in
      let two : b g ≤ 1 = subst (λ v. v ≤ 1) (sym k) (truth_bit q) in
      let all : IsAnd (b f) (b g) (b x) = subst (λ v. IsAnd v (b g) (b x)) (sym h)
      (subst (λ v. IsAnd (truth p) v (b x)) (sym k) (subst (λ v. IsAnd (truth p) (truth q) v)
      (sym (e ∙ ap truth (sym (both_le (total b l.products) l.constant)))) (truth_and p q))) in
      (bit_inside M b small f one, (bit_inside M b small g two, and_inside M b small f g x all))

  inside_equal : (x f g : ℕ) → b f ≡ truth (int_le (total b l.products) l.constant) → b g ≡ truth (int_le l.constant (total b l.products))
      → Inside M b (equal_ranges x f g) → b x ≡ truth (int_eq (total b l.products) l.constant)
  inside_equal x f g h k i =
      let p = int_le (total b l.products) l.constant in
      let q = int_le l.constant (total b l.products) in
      let all = inside_and M b small f g x i.1.1 in
      and_truth p q (b x) (subst (λ v. IsAnd (truth p) v (b x)) k (subst (λ v. IsAnd v (b g) (b x)) h all)) ∙ ap truth (both_le (total b l.products) l.constant)

  pub all_inside : (c : Comparison) (x m : ℕ) (ls : List Linear) → reified_sums M c x m l ≡ Ok ls → AllTold c b x m (total b l.products) l.constant → Inside M b (reified_ranges c x m ++ sum_rows ls)
  all_inside IsAtMost x m ls e h =
      inside_append M b (bit x ∷ []) (sum_rows ls) (bit_inside M b small x (subst (λ v. v ≤ 1) (sym h) (truth_bit _)), tt)
      (told_inside M b small positive x (reach M l) l (reach_far M l) ls (told_ok x (pos (reach M l)) l ls e) h)
  all_inside IsEqual x m ls e h =
      inside_append M b (equal_ranges x m (suc m)) (sum_rows ls) (equal_inside x m (suc m) h.0 h.1 h.2) (parts_inside m (suc m) ls (both_told_ok m (suc m) (pos (reach M l)) l ls e) h.0 h.1)
  all_inside IsOther x m ls e h =
      inside_append M b (equal_ranges m (suc m) (suc (suc m)) ++ not_ranges m x) (sum_rows ls)
      (inside_append M b (equal_ranges m (suc m) (suc (suc m))) (not_ranges m x) (equal_inside m (suc m) (suc (suc m)) h.1 h.2 h.0)
      (not_inside M b small m x (subst (λ v. b m + v ≡ 1) (sym h.3) (subst (λ v. v + truth (not (int_eq (total b l.products) l.constant)) ≡ 1) (sym h.0) (truth_not _)))))
      (parts_inside (suc m) (suc (suc m)) ls (both_told_ok (suc m) (suc (suc m)) (pos (reach M l)) l ls e) h.1 h.2)

  pub inside_all : (c : Comparison) (x m : ℕ) (ls : List Linear) → reified_sums M c x m l ≡ Ok ls → Inside M b (reified_ranges c x m ++ sum_rows ls) → AllTold c b x m (total b l.products) l.constant
  inside_all IsAtMost x m ls e h = inside_told M b small positive x (reach M l) l (reach_far M l) ls (told_ok x (pos (reach M l)) l ls e)
      (inside_bit M b small x h.0) (inside_right M b (bit x ∷ []) (sum_rows ls) h)
  inside_all IsEqual x m ls e h =
      let i = inside_left M b (equal_ranges x m (suc m)) (sum_rows ls) h in
      let p = inside_parts m (suc m) ls (both_told_ok m (suc m) (pos (reach M l)) l ls e) (inside_bit M b small m i.0) (inside_bit M b small (suc m) i.1.0)
      (inside_right M b (equal_ranges x m (suc m)) (sum_rows ls) h) in
      (p.0, p.1, inside_equal x m (suc m) p.0 p.1 i)
  inside_all IsOther x m ls e h =
      let f = suc m in
      let g = suc (suc m) in
      let ps = equal_ranges m f g ++ not_ranges m x in
      let i = inside_left M b ps (sum_rows ls) h in
      let j = inside_left M b (equal_ranges m f g) (not_ranges m x) i in
      let p = inside_parts f g ls (both_told_ok f g (pos (reach M l)) l ls e) (inside_bit M b small f j.0) (inside_bit M b small g j.1.0) (inside_right M b ps (sum_rows ls) h) in
      let q = inside_equal m f g p.0 p.1 j in
      (q, p.0, p.1, not_truth (int_eq (total b l.products) l.constant) (b x) (subst (λ v. v + b x ≡ 1) q (inside_not M b small m x (inside_right M b (equal_ranges m f g) (not_ranges m x) i))))

-- what is told
pub told_truth : (c : Comparison) (b : Assignment) (x m : ℕ) (t k : ℤ) → AllTold c b x m t k → b x ≡ truth (compares c t k)
told_truth IsAtMost b x m t k h = h
told_truth IsEqual b x m t k h = h.2
told_truth IsOther b x m t k h = h.3

-- the added variables with their numbers
abbrev telling : Comparison → Assignment → ℕ → ℤ → ℤ → Assignment
telling IsAtMost a m t k = a
telling IsEqual a m t k = changed (changed a m (truth (int_le t k))) (suc m) (truth (int_le k t))
telling IsOther a m t k = changed (changed (changed a m (truth (int_eq t k))) (suc m) (truth (int_le t k))) (suc (suc m)) (truth (int_le k t))

telling_below : (c : Comparison) (a : Assignment) (m : ℕ) (t k : ℤ) (v : ℕ) → v < m → telling c a m t k v ≡ a v
telling_below IsAtMost a m t k v l = refl
telling_below IsEqual a m t k v l = changed_other (changed a m (truth (int_le t k))) (suc m) (truth (int_le k t)) v (λ e. absurd (omega arith))
    ∙ changed_other a m (truth (int_le t k)) v (λ e. absurd (omega arith))
telling_below IsOther a m t k v l =
    changed_other (changed (changed a m (truth (int_eq t k))) (suc m) (truth (int_le t k))) (suc (suc m)) (truth (int_le k t)) v (λ e. absurd (omega arith))
    ∙ (changed_other (changed a m (truth (int_eq t k))) (suc m) (truth (int_le t k)) v (λ e. absurd (omega arith)) ∙ changed_other a m (truth (int_eq t k)) v (λ e. absurd (omega arith)))

telling_small : (N : ℕ) → 0 < N → (c : Comparison) (a : Assignment) (m : ℕ) (t k : ℤ) → ((v : ℕ) → a v ≤ N) → (v : ℕ) → telling c a m t k v ≤ N
telling_small N p IsAtMost a m t k s v = s v
telling_small N p IsEqual a m t k s v = changed_small N (changed a m (truth (int_le t k))) (suc m) (truth (int_le k t)) (bit_small N p _)
    (changed_small N a m (truth (int_le t k)) (bit_small N p _) s) v
telling_small N p IsOther a m t k s v =
    changed_small N (changed (changed a m (truth (int_eq t k))) (suc m) (truth (int_le t k))) (suc (suc m)) (truth (int_le k t)) (bit_small N p _)
    (changed_small N (changed a m (truth (int_eq t k))) (suc m) (truth (int_le t k)) (bit_small N p _) (changed_small N a m (truth (int_eq t k)) (bit_small N p _) s)) v

telling_told : (c : Comparison) (a : Assignment) (x m : ℕ) (t k : ℤ) → x < m → a x ≡ truth (compares c t k) → AllTold c (telling c a m t k) x m t k
telling_told IsAtMost a x m t k l h = h
telling_told IsEqual a x m t k l h = (
  changed_other (changed a m (truth (int_le t k))) (suc m) (truth (int_le k t)) m (λ e. absurd (omega arith)) ∙ changed_here a m (truth (int_le t k)),
  changed_here (changed a m (truth (int_le t k))) (suc m) (truth (int_le k t)),
  telling_below IsEqual a m t k x l ∙ h,
)
telling_told IsOther a x m t k l h =
    let one = changed a m (truth (int_eq t k)) in
    let two = changed one (suc m) (truth (int_le t k)) in (
      changed_other two (suc (suc m)) (truth (int_le k t)) m (λ e. absurd (omega arith))
          ∙ (changed_other one (suc m) (truth (int_le t k)) m (λ e. absurd (omega arith)) ∙ changed_here a m (truth (int_eq t k))),
      changed_other two (suc (suc m)) (truth (int_le k t)) (suc m) (λ e. absurd (omega arith)) ∙ changed_here one (suc m) (truth (int_le t k)),
      changed_here two (suc (suc m)) (truth (int_le k t)),
      telling_below IsOther a m t k x l ∙ h,
    )

-- two that agree below the added variables and tell the same agree at these
agree_at : (b d : Assignment) (m : ℕ) → ((v : ℕ) → v < m → b v ≡ d v) → b m ≡ d m → (v : ℕ) → v < suc m → b v ≡ d v
agree_at b d m s e v l = elim (cases_Bool (v == m)) [ inl i ↦ subst (λ w. b w ≡ d w) (sym (eqb-true v m i)) e | inr i ↦ s v (less v m i l) ] where
  less : (v m : ℕ) → (v == m) ≡ false → v < suc m → v < m
  less v m h l = grind (arith, eq-eqb)

told_agree : (c : Comparison) (b d : Assignment) (x m : ℕ) (t k : ℤ) → ((v : ℕ) → v < m → b v ≡ d v) → AllTold c b x m t k → AllTold c d x m t k → (v : ℕ) → v < reified_end c m → b v ≡ d v
told_agree IsAtMost b d x m t k s h g v l = s v l
told_agree IsEqual b d x m t k s h g v l = agree_at b d (suc m) (agree_at b d m s (h.0 ∙ sym g.0)) (h.1 ∙ sym g.1) v (omega arith)
told_agree IsOther b d x m t k s h g v l = agree_at b d (suc (suc m)) (agree_at b d (suc m) (agree_at b d m s (h.0 ∙ sym g.0)) (h.1 ∙ sym g.1)) (h.2 ∙ sym g.2) v (omega arith)

-- what is told of a relation that holds exactly where q is true
tells_truth : (P : Type 0) (q : Bool) (z : ℤ) → P ↔ (q ≡ true) → Tells P z ↔ (z ≡ pos (truth q))
tells_truth P true z i = ((λ h. by_told h), (λ e. inl (i.1 refl, e))) where
  by_told : Tells P z → z ≡ pos 1
  by_told (inl h) = h.1
  by_told (inr h) = absurd (h.0 (i.1 refl))
tells_truth P false z i = ((λ h. by_told h), (λ e. inr ((λ p. absurd (let f : false ≡ true = i.0 p in cc)), e))) where
  by_told : Tells P z → z ≡ pos 0
  by_told (inl h) = absurd (let f : false ≡ true = i.0 h.0 in cc)
  by_told (inr h) = h.1

-- a term that is a comparison tells what its form does
module _ (a : Assignment) (k : Term) (c : Comparison) (l : Linear) (i : IsComparison k (c, l)) where
  holds_form : Holds i.relation (worth a i.left) (worth a i.right) ↔ (compares c (total a l.products) l.constant ≡ true)
  holds_form =
      subst (λ d. Holds i.relation (worth a i.left) (worth a i.right) ↔ (compares d (total a l.products) l.constant ≡ true)) i.comparison_is
      (subst (λ (m : Linear). Holds i.relation (worth a i.left) (worth a i.right) ↔ (compares (comparison i.relation) (total a m.products) m.constant ≡ true)) i.normal_is
      (normal_is a i.relation i.linear (worth a i.left) (worth a i.right) (collect_is a i.left i.right i.linear i.collected)))

  pub tells_form : (z : ℤ) → TellsTerm a k z ↔ (z ≡ pos (truth (compares c (total a l.products) l.constant)))
  tells_form z = subst (λ t. TellsTerm a t z ↔ (z ≡ pos (truth (compares c (total a l.products) l.constant)))) i.term_is
      (subst (λ o. TellsRelation o (worth a i.left) (worth a i.right) z ↔ (z ≡ pos (truth (compares c (total a l.products) l.constant)))) (sym i.named)
      (tells_truth (Holds i.relation (worth a i.left) (worth a i.right)) (compares c (total a l.products) l.constant) z holds_form))

pub form_vars : (P : ℕ → Type 0) (k : Term) (c : Comparison) (l : Linear) → IsComparison k (c, l) → EachVariable P k → AllVars P l.products
form_vars P k c l i h =
    let e : EachVariable P (Comp i.name (term i.left (term i.right no_terms))) = subst (EachVariable P) (sym i.term_is) h in
    subst (λ (m : Linear). AllVars P m.products) i.normal_is
    (normal_vars P i.relation i.linear (collect_vars P i.left i.right i.linear (λ v g. e v (in_left (variables_of i.left) (variables_of i.right ++ []) v g))
    (λ v g. e v (in_right (variables_of i.left) (variables_of i.right ++ []) v (in_left (variables_of i.right) [] v g))) i.collected))

abbrev head_of : List ℤ → ℤ
head_of [] = pos 0
head_of (z ∷ zs) = z

below_after : (n : ℕ) (m : Member) → MemberBelow n m → place_of n m < after n m
below_after n (Open x) h = h
below_after n (Known z) h = omega arith

module _ (M N : ℕ) (up : N ≤ M) (positive : 0 < N) (n : ℕ) (a : Assignment) (small : (v : ℕ) → a v ≤ N) where
  pub reified_rewritten : (b k : Term) (s : Split) → TermBelow n b → TermBelow n k → reified M b k n ≡ Ok s → IsRewritten M N Reified (term b (term k no_terms)) n (joined s) a
  reified_rewritten b k s bb bk h =
      let g = reified_ok M b k n s h in
      let m = g.teller in
      let ms : List Member = m ∷ [] in
      let x = place_of n m in
      let end = after n m in
      let l = g.form in
      let c = g.kind in
      let t = total a l.products in
      let i = member_read n a b m g.from_teller in
      let vars = form_vars (λ v. v < n) k c l g.from_term (each_below n k bk) in
      let grows : n ≤ end = fresh_grows ms n in
      let q = compares c t l.constant in
      let tells = tells_form a k c l g.from_term (worth a b) in
      let low : MembersBelow n ms = (i.below bb, tt) in
      let x_low : x < end = below_after n m low.0 in
      subst (λ y. IsRewritten M N Reified (term b (term k no_terms)) n (joined y) a) g.is (record {
        one = λ sat.
            let is_told : worth a b ≡ pos (truth q) = tells.0 sat in
            let known = known_numbers N a ms (subst (λ z. AreNumbers N (z ∷ [])) i.worth (record { number = truth q; within = bit_small N positive q; is = is_told }, tt)) in
            let e = filled a n ms in
            let d = telling c e end t l.constant in
            let d_small = telling_small N positive c e end t l.constant (filled_small N ms a n known small) in
            let equated = filled_equated N ms a n known in
            let same : (v : ℕ) → v < n → d v ≡ a v = λ v j. telling_below c e end t l.constant v (omega arith) ∙ filled_below ms a n v j in
            let here : e x ≡ truth q = of_pos (e x) (truth q) (ap head_of (placed_worths n a e (filled_below ms a n) ms n low equated) ∙ (sym i.worth ∙ is_told)) in
            let all = telling_told c e x end t l.constant x_low here in
            record {
              extension = d;
              extends = record { within = d_small; same = same };
              fits = record {
                equated = equated_same ms n e d (λ v j. sym (telling_below c e end t l.constant v j)) equated;
                inside = all_inside M d (up_to M N up d d_small) (omega arith) l c x end g.sums g.sums_are
                    (subst (λ z. AllTold c d x end z l.constant) (sym (total_same n a d same l.products vars)) all);
              };
              only = λ o r f v j.
                  told_agree c o d x end t l.constant
                  (λ w u. equated_agree ms n o e (λ y z. r.same y z ∙ sym (filled_below ms a n y z)) f.equated equated w u ∙ sym (telling_below c e end t l.constant w u))
                  (subst (λ z. AllTold c o x end z l.constant) (total_same n a o r.same l.products vars)
                  (inside_all M o (up_to M N up o r.within) (omega arith) l c x end g.sums g.sums_are f.inside)) all v j;
            };
        satisfied = λ d e f.
            let all = subst (λ z. AllTold c d x end z l.constant) (total_same n a d e.same l.products vars)
            (inside_all M d (up_to M N up d e.within) (omega arith) l c x end g.sums g.sums_are f.inside) in
            let here : pos (d x) ≡ member_worth a m = ap head_of (placed_worths n a d e.same ms n low f.equated) in
            tells.1 (i.worth ∙ (sym here ∙ ap pos (told_truth c d x end t l.constant all)));
      })
