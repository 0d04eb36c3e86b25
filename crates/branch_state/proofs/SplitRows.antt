-- Rows of products and Boolean constraints: their fresh variables, how many there can be, and the integers of those that are equated; and so those of all rows.
use Rattle.std.proofs.Common.{◌≡◌, ℕ, ◌+◌, ◌≤◌, List, [], ◌∷◌, Option, Some, None, Result, Ok, Err, refl, ap, sym, subst, arith}
use Rattle.std.specs.Option.{option_or}
use Rattle.fd_language.specs.Range.{Indexical}
use Rattle.fd_language.specs.Term.{Term, Terms, Var, Int, Atom, Comp, no_terms, term}
use Rattle.fd_model.specs.declared.kinds.ConstraintKind.{ConstraintKind}
use Rattle.fd_model.specs.declared.kinds.ConstraintKind.TheVariants.{Compare, And, Or, Not, Reified}
use Rattle.fd_model.specs.declared.kinds.QueryFault.{QueryFault}
use Rattle.fd_model.specs.declared.kinds.Relation.{Relation}
use Rattle.fd_model.specs.declared.kinds.Relation.TheVariants.{Equal}
use Rattle.fd_model.specs.BooleanRows.{and_ranges, or_ranges, not_ranges}
use Rattle.fd_model.specs.ConstraintExpansion.{basic, by_split, expand}
use Rattle.fd_model.specs.Linear.{Comparison, IsEqual, IsOther, IsAtMost}
use Rattle.fd_model.specs.LinearRows.{Expansion}
use Rattle.fd_model.specs.Members.{Member, Open, Known, after, equated_from}
use Rattle.fd_model.specs.ProductRows.{Product, factors, with_result, product_form}
use Rattle.fd_model.specs.ReifiedRows.{reified_end}
use Rattle.fd_model.specs.Splitting.{Split, joined, of_two, of_three, reified, split}
use Rattle.fd_model.proofs.Lemmas.{three_ok, two_ok, product_ok, reified_ok, of_some}
use Rattle.term_pool.specs.PoolInvariant.{IsStorable, AreStorable}
use Rattle.branch_state.specs.Constraints.{AreFrom, AreWords}
use Rattle.branch_state.proofs.ConstraintRows.{AllShort, AllFit, Fit, after_end, basic_end, basic_next, basic_words, member_fits, placed_from, words_from}

-- The equated variables are those of members, and few numbers are fresh.
record HasMembers (ts : Terms) (n : ℕ) (s : Split) : Type 0 where
  members : List Member
  equated : s.equated ≡ equated_from n members
  fit : AreStorable ts → AllFit members
  few : s.fresh ≤ n + 4

-- the result of a product form
result_fits : (o : Option (ℕ × ℕ)) (t : Term) (p : Product) → IsStorable t → with_result o t ≡ Some p → Fit p.result
result_fits None t p st h = absurd (cc)
result_fits (Some f) (Var z) p st h =
    let e : record { left = f.0; right = f.1; result = Open z } ≡ p = cc in
    subst (λ (q : Product). Fit q.result) e tt
result_fits (Some f) (Int z) p st h =
    let e : record { left = f.0; right = f.1; result = Known z } ≡ p = cc in
    subst (λ (q : Product). Fit q.result) e st
result_fits (Some f) (Atom a) p st h = absurd (cc)
result_fits (Some f) (Comp g us) p st h = absurd (cc)

one_fits : (o q : Option Product) (p : Product) → ((r : Product) → o ≡ Some r → Fit r.result) → ((r : Product) → q ≡ Some r → Fit r.result) → option_or o q ≡ Some p → Fit p.result
one_fits None q p f g h = g p h
one_fits (Some r) q p f g h = f p h

product_fits : (r : Relation) (s t : Term) (p : Product) → IsStorable s → IsStorable t → product_form r s t ≡ Some p → Fit p.result
product_fits Equal s t p ss st h = one_fits (with_result (factors s) t) (with_result (factors t) s) p (λ q e. result_fits (factors s) t q st e) (λ q e. result_fits (factors t) s q ss e) h
product_fits _ s t p ss st h = absurd (cc)

three_members : (rows : ℕ → ℕ → ℕ → List Indexical) (x y z : Term) (n : ℕ) (s : Split) → of_three rows x y z n ≡ Ok s → HasMembers (term x (term y (term z no_terms))) n s
three_members rows x y z n s h =
    let k = three_ok rows x y z n s h in
    let ms = k.first ∷ k.second ∷ k.third ∷ [] in
    let few = after_end n ms in
    let end = ap (λ (p : Split). p.fresh) k.is in
    record {
      members = ms;
      equated = sym (ap (λ (p : Split). p.equated) k.is);
      fit = λ st. (member_fits x k.first st.0 k.from_first, (member_fits y k.second st.1.0 k.from_second, (member_fits z k.third st.1.1.0 k.from_third, tt)));
      few = omega (arith, few, end);
    }

two_members : (x y : Term) (n : ℕ) (s : Split) → of_two not_ranges x y n ≡ Ok s → HasMembers (term x (term y no_terms)) n s
two_members x y n s h =
    let k = two_ok not_ranges x y n s h in
    let ms = k.first ∷ k.second ∷ [] in
    let few = after_end n ms in
    let end = ap (λ (p : Split). p.fresh) k.is in
    record {
      members = ms;
      equated = sym (ap (λ (p : Split). p.equated) k.is);
      fit = λ st. (member_fits x k.first st.0 k.from_first, (member_fits y k.second st.1.0 k.from_second, tt));
      few = omega (arith, few, end);
    }

told_end : (c : Comparison) (n : ℕ) → reified_end c n ≤ n + 3
told_end IsAtMost n = omega arith
told_end IsEqual n = omega arith
told_end IsOther n = omega arith

-- The members of what is split.
split_members : (M : ℕ) (kind : ConstraintKind) (ts : Terms) (n : ℕ) (s : Split) → split M kind ts n ≡ Some (Ok s) → HasMembers ts n s
split_members M (Compare r) (term t (term u no_terms)) n s h =
    let k = product_ok n (product_form r t u) s h in
    let ms = k.product.result ∷ [] in
    let few = after_end n ms in
    let end = ap (λ (p : Split). p.fresh) k.is in
    record {
      members = ms;
      equated = sym (ap (λ (p : Split). p.equated) k.is);
      fit = λ st. (product_fits r t u k.product st.0 st.1.0 k.form, tt);
      few = omega (arith, few, end);
    }
split_members M And (term x (term y (term z no_terms))) n s h = three_members and_ranges x y z n s (of_some (of_three and_ranges x y z n) s h)
split_members M Or (term x (term y (term z no_terms))) n s h = three_members or_ranges x y z n s (of_some (of_three or_ranges x y z n) s h)
split_members M Not (term x (term y no_terms)) n s h = two_members x y n s (of_some (of_two not_ranges x y n) s h)
split_members M Reified (term b (term t no_terms)) n s h =
    let k = reified_ok M b t n s (of_some (reified M b t n) s h) in
    let few = after_end n (k.teller ∷ []) in
    let more = told_end k.kind (after n k.teller) in
    let end : reified_end k.kind (after n k.teller) ≡ s.fresh = ap (λ (p : Split). p.fresh) k.is in
    record {
      members = k.teller ∷ [];
      equated = sym (ap (λ (p : Split). p.equated) k.is);
      fit = λ st. (member_fits b k.teller st.0 k.from_teller, tt);
      few = omega (arith, few, more, end);
    }
split_members M _ _ n s h = absurd (cc)

-- what holds of the rows that aren't split and of those that are
each_row : (P : Expansion → Type 0) (M : ℕ) (kind : ConstraintKind) (ts : Terms) (n : ℕ) (x : Expansion) → (basic kind ts n ≡ Ok x → P x)
    → ((s : Split) → split M kind ts n ≡ Some (Ok s) → P (joined s)) → expand M kind ts n ≡ Ok x → P x
each_row P M kind ts n x plain parts h = by_option (split M kind ts n) refl h where
  by_option : (o : Option (Result Split QueryFault)) → split M kind ts n ≡ o → by_split o (basic kind ts n) ≡ Ok x → P x
  by_option None e k = plain k
  by_option (Some (Ok s)) e k = let f : joined s ≡ x = cc in subst P f (parts s e)
  by_option (Some (Err f)) e k = absurd (cc)

-- The equated variables of a constraint's row are the next ones.
pub equated_next : (M : ℕ) (kind : ConstraintKind) (ts : Terms) (n : ℕ) (x : Expansion) → expand M kind ts n ≡ Ok x → AreFrom n x.equated
equated_next M kind ts n x h =
    each_row (λ y. AreFrom n y.equated) M kind ts n x (basic_next kind ts n x)
    (λ s e. let k = split_members M kind ts n s e in subst (AreFrom n) (sym k.equated) (placed_from n k.members)) h

-- A row's fresh variables are few where no argument has many cells.
pub row_end : (m M : ℕ) (kind : ConstraintKind) (ts : Terms) (n : ℕ) (x : Expansion) → AllShort m ts → expand M kind ts n ≡ Ok x → x.fresh ≤ n + (m + m + 4)
row_end m M kind ts n x short h =
    each_row (λ y. y.fresh ≤ n + (m + m + 4)) M kind ts n x (λ e. let l = basic_end m kind ts n x short e in omega (arith, l))
    (λ s e. let l = (split_members M kind ts n s e).few in omega (arith, l)) h

-- The integers of a row of storable terms have 64 bits.
pub equated_words : (M : ℕ) (kind : ConstraintKind) (ts : Terms) (n : ℕ) (x : Expansion) → AreStorable ts → expand M kind ts n ≡ Ok x → AreWords x.equated
equated_words M kind ts n x st h =
    each_row (λ y. AreWords y.equated) M kind ts n x (basic_words kind ts n x st)
    (λ s e. let k = split_members M kind ts n s e in subst AreWords (sym k.equated) (words_from n k.members (k.fit st))) h
