-- Products, `fd_and`, `fd_or` and `fd_not`: exactly one extension fits where they are satisfied.
use Rattle.std.proofs.Common.{◌≡◌, ℕ, zero, suc, ◌+◌, ◌*◌, ◌≤◌, ◌<◌, Bool, true, false, cond, ℤ, pos, ◌+ℤ◌, ◌*ℤ◌, List, [], ◌∷◌, Option, Some, None, refl, ap}
use Rattle.std.proofs.Common.{sym, ◌∙◌, subst, inl, inr, ◌⊎◌, arith, Ok}
use Rattle.std.specs.Option.{option_or}
use Rattle.std.specs.Str.{bytes_eq}
use Rattle.std.specs.Prelude.{codes}
use Rattle.std.proofs.lemmas.Int.{ints}
use Rattle.std.proofs.lemmas.Slice.Eq.{bytes_eq-Decides}
use Rattle.fd_model.specs.declared.kinds.ConstraintKind.{ConstraintKind}
use Rattle.fd_model.specs.declared.kinds.ConstraintKind.TheVariants.{Compare, And, Or, Not}
use Rattle.fd_model.specs.declared.kinds.Relation.{Relation}
use Rattle.fd_model.specs.declared.kinds.Relation.TheVariants.{Equal}
use Rattle.fd_language.specs.Term.{Term, Terms, Var, Int, Comp, no_terms, term, Name}
use Rattle.fd_language.specs.Variables.{TermBelow}
use Rattle.fd_language.specs.Range.{Indexical}
use Rattle.fd_model.specs.Members.{Member, Open, Known, place_of, after, placed}
use Rattle.fd_model.specs.ProductRows.{Product, factors, with_result, product_form, product_ranges}
use Rattle.fd_model.specs.BooleanRows.{and_ranges, or_ranges, not_ranges}
use Rattle.fd_model.specs.Splitting.{Split, joined, on_members, of_three, of_two, product_split}
use Rattle.fd_model.specs.Satisfaction.{Assignment, worth, operation, IsNumber, AreNumbers, HasResult, IsKnownNumber, IsBit, Tells, Satisfies, Holds}
use Rattle.fd_model.specs.ConstraintLaws.{IsRewritten}
use Rattle.fd_model.proofs.Singles.{up_to, Inside, inside_append, inside_left}
use Rattle.fd_model.proofs.FreshVariables.{MemberBelow, MembersBelow, member_read, member_worth, member_worths, values_at, known_numbers, placed_worths, filled}
use Rattle.fd_model.proofs.FreshVariables.{filled_below, filled_small, filled_equated}
use Rattle.fd_model.proofs.AllDifferentRows.{are_numbers, placed_one}
use Rattle.fd_model.proofs.Splits.{three_ok, two_ok}
use Rattle.fd_model.proofs.BooleanRows.{IsAnd, IsOr, product_inside, inside_product, and_inside, inside_and, or_inside, inside_or, not_inside, inside_not}

-- the sides of a product form
abbrev pub member_term : Member → Term
member_term (Open x) = Var x
member_term (Known z) = Int z

pub record HasForm (s t : Term) (p : Product) : Type 0 where
  pub name : Name
  pub star : bytes_eq name (codes "*") ≡ true
  pub left_is : Comp name (term (Var p.left) (term (Var p.right) no_terms)) ≡ s
  pub result_is : member_term p.result ≡ t

result_ok : (f : Name) (x y : ℕ) (t : Term) (p : Product) → bytes_eq f (codes "*") ≡ true → with_result (Some (x, y)) t ≡ Some p → HasForm (Comp f (term (Var x) (term (Var y) no_terms))) t p
result_ok f x y (Var z) p e h = let g : record { left = x; right = y; result = Open z } ≡ p = cc in
    subst (HasForm (Comp f (term (Var x) (term (Var y) no_terms))) (Var z)) g (record { name = f; star = e; left_is = refl; result_is = refl })
result_ok f x y (Int z) p e h = let g : record { left = x; right = y; result = Known z } ≡ p = cc in
    subst (HasForm (Comp f (term (Var x) (term (Var y) no_terms))) (Int z)) g (record { name = f; star = e; left_is = refl; result_is = refl })
result_ok f x y _ p e h = absurd (cc)

factors_ok : (s t : Term) (p : Product) → with_result (factors s) t ≡ Some p → HasForm s t p
factors_ok (Comp f (term (Var x) (term (Var y) no_terms))) t p h = by_test (bytes_eq f (codes "*")) refl h where
  by_test : (c : Bool) → bytes_eq f (codes "*") ≡ c → with_result (cond c (Some (x, y)) None) t ≡ Some p → HasForm (Comp f (term (Var x) (term (Var y) no_terms))) t p
  by_test true e h = result_ok f x y t p e h
  by_test false e h = absurd (cc)
factors_ok _ t p h = absurd (cc)

pub record IsProductForm (r : Relation) (s t : Term) (p : Product) : Type 0 where
  pub relation : r ≡ Equal
  pub sides : HasForm s t p ⊎ HasForm t s p

pub product_form_ok : (r : Relation) (s t : Term) (p : Product) → product_form r s t ≡ Some p → IsProductForm r s t p
product_form_ok Equal s t p h = record { relation = refl; sides = by_option (with_result (factors s) t) refl h } where
  by_option : (o : Option Product) → with_result (factors s) t ≡ o → option_or o (with_result (factors t) s) ≡ Some p → HasForm s t p ⊎ HasForm t s p
  by_option None e h = inr (factors_ok t s p h)
  by_option (Some q) e h = inl (factors_ok s t p (e ∙ h))
product_form_ok _ s t p h = absurd (cc)

-- its variables and its result
abbrev pub factor_members : Product → List Member
factor_members p = Open p.left ∷ Open p.right ∷ p.result ∷ []

product_worth : (a : Assignment) (s t : Term) (p : Product) → HasForm s t p → worth a s ≡ pos (a p.left) *ℤ pos (a p.right)
product_worth a s t p h = subst (λ u. worth a u ≡ pos (a p.left) *ℤ pos (a p.right)) h.left_is (by_name h.name (star_other h.name h.star)) where
  star_other : (f : Name) → bytes_eq f (codes "*") ≡ true → f ≡ codes "*"
  star_other f e = (bytes_eq-Decides f (codes "*")).0 e

  by_name : (f : Name) → f ≡ codes "*" → operation f (pos (a p.left)) (pos (a p.right)) ≡ pos (a p.left) *ℤ pos (a p.right)
  by_name f e = subst (λ g. operation g (pos (a p.left)) (pos (a p.right)) ≡ pos (a p.left) *ℤ pos (a p.right)) (sym e) refl

result_worth : (a : Assignment) (s t : Term) (p : Product) → HasForm s t p → worth a t ≡ member_worth a p.result
result_worth a s t p h = subst (λ u. worth a u ≡ member_worth a p.result) h.result_is (by_member p.result) where
  by_member : (m : Member) → worth a (member_term m) ≡ member_worth a m
  by_member (Open x) = refl
  by_member (Known z) = refl

members_below : (n : ℕ) (s t : Term) (p : Product) → HasForm s t p → TermBelow n s → TermBelow n t → MembersBelow n (factor_members p)
members_below n s t p h bs bt =
    let i = subst (TermBelow n) (sym h.left_is) bs in
    (i.0, (i.1.0, (by_member p.result (subst (TermBelow n) (sym h.result_is) bt), tt))) where
      by_member : (m : Member) → TermBelow n (member_term m) → MemberBelow n m
      by_member (Open x) h = h
      by_member (Known z) h = tt

-- a constraint whose ranges say of the numbers of its members what it says of their integers
module _ (M N : ℕ) (up : N ≤ M) (n : ℕ) (a : Assignment) (small : (v : ℕ) → a v ≤ N) (kind : ConstraintKind) (ts : Terms) (ms : List Member)
    (ps : List Indexical) (Says : List ℤ → Type 0) (below : MembersBelow n ms)
    (into : (b : Assignment) → ((v : ℕ) → b v ≤ M) → Says (values_at b (placed n ms)) → Inside M b ps)
    (out : (b : Assignment) → ((v : ℕ) → b v ≤ M) → Inside M b ps → Says (values_at b (placed n ms)))
    (sat_in : Satisfies N kind ts a → AreNumbers N (member_worths a ms) × Says (member_worths a ms))
    (sat_out : AreNumbers N (member_worths a ms) → Says (member_worths a ms) → Satisfies N kind ts a) where
  pub members_rewritten : IsRewritten M N kind ts n (joined (on_members n ms ps)) a
  members_rewritten = record {
    one = λ sat.
        let s = sat_in sat in
        let known = known_numbers N a ms s.0 in
        let b = filled a n ms in
        placed_one M N n ms (joined (on_members n ms ps)) a small known refl refl
        (inside_append M b ps [] (into b (up_to M N up b (filled_small N ms a n known small))
        (subst Says (sym (placed_worths n a b (filled_below ms a n) ms n below (filled_equated N ms a n known))) s.1)) tt);
    satisfied = λ b g f.
        let w : values_at b (placed n ms) ≡ member_worths a ms = placed_worths n a b g.same ms n below f.equated in
        sat_out (subst (AreNumbers N) w (are_numbers N b g.within (placed n ms))) (subst Says w (out b (up_to M N up b g.within) (inside_left M b ps [] f.inside)));
  }

-- what is said of bits
abbrev SaysAnd : List ℤ → Type 0
SaysAnd (x ∷ y ∷ z ∷ []) = IsBit x × IsBit y × Tells ((x ≡ pos 1) × (y ≡ pos 1)) z
SaysAnd _ = ⊥

abbrev SaysOr : List ℤ → Type 0
SaysOr (x ∷ y ∷ z ∷ []) = IsBit x × IsBit y × Tells ((x ≡ pos 1) ⊎ (y ≡ pos 1)) z
SaysOr _ = ⊥

abbrev SaysNot : List ℤ → Type 0
SaysNot (x ∷ y ∷ []) = x +ℤ y ≡ pos 1
SaysNot _ = ⊥

abbrev SaysProduct : List ℤ → Type 0
SaysProduct (x ∷ y ∷ z ∷ []) = z ≡ x *ℤ y
SaysProduct _ = ⊥

bit_of : (x : ℕ) → IsBit (pos x) → (x ≡ 0) ⊎ (x ≡ 1)
bit_of x (inl e) = inl (omega (arith, ints))
bit_of x (inr e) = inr (omega (arith, ints))

to_bit : (x : ℕ) → x ≤ 1 → IsBit (pos x)
to_bit zero l = inl refl
to_bit (suc zero) l = inr refl
to_bit (suc (suc x)) l = absurd (omega arith)

not_one : (x : ℕ) → x ≡ 0 → pos x ≡ pos 1 → ⊥
not_one x e f = omega (arith, ints)

is_one : (x : ℕ) → x ≡ 1 → pos x ≡ pos 1
is_one x e = ap pos e

pub of_pos : (x k : ℕ) → pos x ≡ pos k → x ≡ k
of_pos x k e = omega (arith, ints)

says_and : (x y z : ℕ) → SaysAnd (pos x ∷ pos y ∷ pos z ∷ []) → IsAnd x y z
says_and x y z (p, q, inl (r, e)) =
    let i = of_pos x 1 r.0 in let j = of_pos y 1 r.1 in let k = of_pos z 1 e in
    record { left = omega arith; right = omega arith; at_left = omega arith; at_right = omega arith; both = omega arith }
says_and x y z (p, q, inr (f, e)) = by_bits (bit_of x p) (bit_of y q) (of_pos z 0 e) where
  by_bits : (x ≡ 0) ⊎ (x ≡ 1) → (y ≡ 0) ⊎ (y ≡ 1) → z ≡ 0 → IsAnd x y z
  by_bits (inl i) (inl j) k = record { left = omega arith; right = omega arith; at_left = omega arith; at_right = omega arith; both = omega arith }
  by_bits (inl i) (inr j) k = record { left = omega arith; right = omega arith; at_left = omega arith; at_right = omega arith; both = omega arith }
  by_bits (inr i) (inl j) k = record { left = omega arith; right = omega arith; at_left = omega arith; at_right = omega arith; both = omega arith }
  by_bits (inr i) (inr j) k = absurd (f (is_one x i, is_one y j))

and_says : (x y z : ℕ) → IsAnd x y z → SaysAnd (pos x ∷ pos y ∷ pos z ∷ [])
and_says x y z h = (to_bit x h.left, to_bit y h.right, by_bits (bit_of x (to_bit x h.left)) (bit_of y (to_bit y h.right))) where
  at_zero : (z k : ℕ) → z ≤ k → k ≡ 0 → pos z ≡ pos 0
  at_zero z k l e = omega (arith, ints)

  at_one : (x y z : ℕ) → x + y ≤ suc z → z ≤ x → x ≡ 1 → y ≡ 1 → pos z ≡ pos 1
  at_one x y z l g i j = omega (arith, ints)

  by_bits : (x ≡ 0) ⊎ (x ≡ 1) → (y ≡ 0) ⊎ (y ≡ 1) → Tells ((pos x ≡ pos 1) × (pos y ≡ pos 1)) (pos z)
  by_bits (inl i) j = inr ((λ p. absurd (not_one x i p.0)), at_zero z x h.at_left i)
  by_bits (inr i) (inl j) = inr ((λ p. absurd (not_one y j p.1)), at_zero z y h.at_right j)
  by_bits (inr i) (inr j) = inl ((is_one x i, is_one y j), at_one x y z h.both h.at_left i j)

says_or : (x y z : ℕ) → SaysOr (pos x ∷ pos y ∷ pos z ∷ []) → IsOr x y z
says_or x y z (p, q, inl (r, e)) = by_bits (bit_of x p) (bit_of y q) (of_pos z 1 e) r where
  by_bits : (x ≡ 0) ⊎ (x ≡ 1) → (y ≡ 0) ⊎ (y ≡ 1) → z ≡ 1 → (pos x ≡ pos 1) ⊎ (pos y ≡ pos 1) → IsOr x y z
  by_bits (inl i) (inl j) k (inl r) = absurd (not_one x i r)
  by_bits (inl i) (inl j) k (inr r) = absurd (not_one y j r)
  by_bits (inl i) (inr j) k r = record { left = omega arith; right = omega arith; told = omega arith; from_left = omega arith; from_right = omega arith; either = omega arith }
  by_bits (inr i) (inl j) k r = record { left = omega arith; right = omega arith; told = omega arith; from_left = omega arith; from_right = omega arith; either = omega arith }
  by_bits (inr i) (inr j) k r = record { left = omega arith; right = omega arith; told = omega arith; from_left = omega arith; from_right = omega arith; either = omega arith }
says_or x y z (p, q, inr (f, e)) = by_bits (bit_of x p) (bit_of y q) (of_pos z 0 e) where
  by_bits : (x ≡ 0) ⊎ (x ≡ 1) → (y ≡ 0) ⊎ (y ≡ 1) → z ≡ 0 → IsOr x y z
  by_bits (inl i) (inl j) k = record { left = omega arith; right = omega arith; told = omega arith; from_left = omega arith; from_right = omega arith; either = omega arith }
  by_bits (inr i) j k = absurd (f (inl (is_one x i)))
  by_bits (inl i) (inr j) k = absurd (f (inr (is_one y j)))

or_says : (x y z : ℕ) → IsOr x y z → SaysOr (pos x ∷ pos y ∷ pos z ∷ [])
or_says x y z h = (to_bit x h.left, to_bit y h.right, by_bits (bit_of x (to_bit x h.left)) (bit_of y (to_bit y h.right))) where
  at_zero : (x y z : ℕ) → z ≤ x + y → x ≡ 0 → y ≡ 0 → pos z ≡ pos 0
  at_zero x y z l i j = omega (arith, ints)

  at_one : (k z : ℕ) → k ≤ z → z ≤ 1 → k ≡ 1 → pos z ≡ pos 1
  at_one k z l g i = omega (arith, ints)

  neither : (x ≡ 0) → (y ≡ 0) → (pos x ≡ pos 1) ⊎ (pos y ≡ pos 1) → ⊥
  neither i j (inl r) = not_one x i r
  neither i j (inr r) = not_one y j r

  by_bits : (x ≡ 0) ⊎ (x ≡ 1) → (y ≡ 0) ⊎ (y ≡ 1) → Tells ((pos x ≡ pos 1) ⊎ (pos y ≡ pos 1)) (pos z)
  by_bits (inl i) (inl j) = inr (neither i j, at_zero x y z h.either i j)
  by_bits (inr i) j = inl (inl (is_one x i), at_one x z h.from_left h.told i)
  by_bits (inl i) (inr j) = inl (inr (is_one y j), at_one y z h.from_right h.told j)

-- bits are numbers up to N
bit_number : (N : ℕ) → 0 < N → (z : ℤ) → IsBit z → IsNumber N z
bit_number N p z (inl e) = record { number = 0; within = omega arith; is = e }
bit_number N p z (inr e) = record { number = 1; within = omega arith; is = e }

told_number : (N : ℕ) → 0 < N → (P : Type 0) (z : ℤ) → Tells P z → IsNumber N z
told_number N p P z (inl e) = bit_number N p z (inr e.1)
told_number N p P z (inr e) = bit_number N p z (inl e.1)

-- what the product form says
product_says : (n : ℕ) (a : Assignment) (r : Relation) (s t : Term) (p : Product) → IsProductForm r s t p
    → (Holds r (worth a s) (worth a t) → SaysProduct (member_worths a (factor_members p))) × (SaysProduct (member_worths a (factor_members p)) → Holds r (worth a s) (worth a t))
product_says n a r s t p h = subst (λ q. (Holds q (worth a s) (worth a t) → SaysProduct (member_worths a (factor_members p)))
    × (SaysProduct (member_worths a (factor_members p)) → Holds q (worth a s) (worth a t))) (sym h.relation) (by_sides h.sides) where
      by_sides : HasForm s t p ⊎ HasForm t s p → (worth a s ≡ worth a t → SaysProduct (member_worths a (factor_members p))) × (SaysProduct (member_worths a (factor_members p)) → worth a s ≡ worth a t)
      by_sides (inl k) = let i = product_worth a s t p k in let j = result_worth a s t p k in ((λ e. sym j ∙ (sym e ∙ i)), (λ e. i ∙ (sym e ∙ sym j)))
      by_sides (inr k) = let i = product_worth a t s p k in let j = result_worth a t s p k in ((λ e. sym j ∙ (e ∙ i)), (λ e. j ∙ (e ∙ sym i)))

pub product_below : (n : ℕ) (r : Relation) (s t : Term) (p : Product) → IsProductForm r s t p → TermBelow n s → TermBelow n t → MembersBelow n (factor_members p)
product_below n r s t p h bs bt = elim h.sides [ inl k ↦ members_below n s t p k bs bt | inr k ↦ members_below n t s p k bt bs ]

result_number : (N : ℕ) (a : Assignment) → ((v : ℕ) → a v ≤ N) → (m : Member) → IsKnownNumber N m → IsNumber N (member_worth a m)
result_number N a small (Open x) h = record { number = a x; within = small x; is = refl }
result_number N a small (Known z) h = h

number_result : (N : ℕ) (a : Assignment) (m : Member) → IsNumber N (member_worth a m) → IsKnownNumber N m
number_result N a (Open x) h = tt
number_result N a (Known z) h = h

module _ (M N : ℕ) (up : N ≤ M) (n : ℕ) (a : Assignment) (small : (v : ℕ) → a v ≤ N) where
  pub product_rewritten : (r : Relation) (s t : Term) (p : Product) → TermBelow n s → TermBelow n t → product_form r s t ≡ Some p
      → IsRewritten M N (Compare r) (term s (term t no_terms)) n (joined (product_split n p)) a
  product_rewritten r s t p bs bt e =
      let f = product_form_ok r s t p e in
      let ms = factor_members p in
      let z = place_of n p.result in
      let says = product_says n a r s t p f in
      members_rewritten M N up n a small (Compare r) (term s (term t no_terms)) ms (product_ranges p.left p.right z) SaysProduct (product_below n r s t p f bs bt)
      (λ b w h. product_inside M b w p.left p.right z (of_pos (b z) (b p.left * b p.right) h))
      (λ b w h. ap pos (inside_product M b w p.left p.right z h))
      (λ sat.
      let k : IsKnownNumber N p.result = subst (HasResult N) e sat.0 in
      ((record { number = a p.left; within = small p.left; is = refl }, (record { number = a p.right; within = small p.right; is = refl }, (result_number N a small p.result k, tt))), says.0 sat.1))
      (λ numbers h. (subst (HasResult N) (sym e) (number_result N a p.result numbers.1.1.0), says.1 h))

  module _ (positive : 0 < N) where
    pub and_rewritten : (x y z : Term) (s : Split) → TermBelow n x → TermBelow n y → TermBelow n z → of_three and_ranges x y z n ≡ Ok s
        → IsRewritten M N And (term x (term y (term z no_terms))) n (joined s) a
    and_rewritten x y z s bx by bz h =
        let k = three_ok and_ranges x y z n s h in
        let ms : List Member = k.first ∷ k.second ∷ k.third ∷ [] in
        let i = member_read n a x k.first k.from_first in
        let j = member_read n a y k.second k.from_second in
        let o = member_read n a z k.third k.from_third in
        let u = place_of n k.first in
        let v = place_of (after n k.first) k.second in
        let w = place_of (after (after n k.first) k.second) k.third in
        let same : worth a x ∷ worth a y ∷ worth a z ∷ [] ≡ member_worths a ms = let e = i.worth in let f = j.worth in let g = o.worth in cc in
        subst (λ q. IsRewritten M N And (term x (term y (term z no_terms))) n (joined q) a) k.is
        (members_rewritten M N up n a small And (term x (term y (term z no_terms))) ms (and_ranges u v w) SaysAnd (i.below bx, (j.below by, (o.below bz, tt)))
        (λ b l q. and_inside M b l u v w (says_and (b u) (b v) (b w) q))
        (λ b l q. and_says (b u) (b v) (b w) (inside_and M b l u v w q))
        (λ sat. (
          subst (AreNumbers N) same (
            bit_number N positive (worth a x) sat.0,
            (bit_number N positive (worth a y) sat.1, (told_number N positive _ (worth a z) sat.2, tt)),
          ),
          subst SaysAnd same sat,
        ))
        (λ numbers q. subst SaysAnd (sym same) q))

    pub or_rewritten : (x y z : Term) (s : Split) → TermBelow n x → TermBelow n y → TermBelow n z → of_three or_ranges x y z n ≡ Ok s
        → IsRewritten M N Or (term x (term y (term z no_terms))) n (joined s) a
    or_rewritten x y z s bx by bz h =
        let k = three_ok or_ranges x y z n s h in
        let ms : List Member = k.first ∷ k.second ∷ k.third ∷ [] in
        let i = member_read n a x k.first k.from_first in
        let j = member_read n a y k.second k.from_second in
        let o = member_read n a z k.third k.from_third in
        let u = place_of n k.first in
        let v = place_of (after n k.first) k.second in
        let w = place_of (after (after n k.first) k.second) k.third in
        let same : worth a x ∷ worth a y ∷ worth a z ∷ [] ≡ member_worths a ms = let e = i.worth in let f = j.worth in let g = o.worth in cc in
        subst (λ q. IsRewritten M N Or (term x (term y (term z no_terms))) n (joined q) a) k.is
        (members_rewritten M N up n a small Or (term x (term y (term z no_terms))) ms (or_ranges u v w) SaysOr (i.below bx, (j.below by, (o.below bz, tt)))
        (λ b l q. or_inside M b l u v w (says_or (b u) (b v) (b w) q))
        (λ b l q. or_says (b u) (b v) (b w) (inside_or M b l u v w q))
        (λ sat. (
          subst (AreNumbers N) same (
            bit_number N positive (worth a x) sat.0,
            (bit_number N positive (worth a y) sat.1, (told_number N positive _ (worth a z) sat.2, tt)),
          ),
          subst SaysOr same sat,
        ))
        (λ numbers q. subst SaysOr (sym same) q))

  pub not_rewritten : (x y : Term) (s : Split) → TermBelow n x → TermBelow n y → of_two not_ranges x y n ≡ Ok s → IsRewritten M N Not (term x (term y no_terms)) n (joined s) a
  not_rewritten x y s bx by h =
      let k = two_ok not_ranges x y n s h in
      let ms : List Member = k.first ∷ k.second ∷ [] in
      let i = member_read n a x k.first k.from_first in
      let j = member_read n a y k.second k.from_second in
      let u = place_of n k.first in
      let v = place_of (after n k.first) k.second in
      let same : worth a x ∷ worth a y ∷ [] ≡ member_worths a ms = let e = i.worth in let f = j.worth in cc in
      subst (λ q. IsRewritten M N Not (term x (term y no_terms)) n (joined q) a) k.is
      (members_rewritten M N up n a small Not (term x (term y no_terms)) ms (not_ranges u v) SaysNot (i.below bx, (j.below by, tt))
      (λ b l q. not_inside M b l u v (of_pos (b u + b v) 1 q))
      (λ b l q. ap pos (inside_not M b l u v q))
      (λ sat. (subst (AreNumbers N) same (sat.0, (sat.1, tt)), subst SaysNot same sat.2))
      (λ numbers q. let m = subst (AreNumbers N) (sym same) numbers in (m.0, m.1.0, subst SaysNot (sym same) q)))
