-- One member more, and one constraint more.
use Rattle.std.proofs.Common.{◌≡◌, ℕ, zero, suc, ◌+◌, ◌-◌, ◌<◌, ◌≤◌, Bool, true, false, cond, ℤ, pos, List, [], ◌∷◌, ◌++◌, length, take, drop, get_or, None}
use Rattle.std.proofs.Common.{IsTrue, refl, sym, ap, ◌∙◌, subst, arith, true≢false}
use Rattle.std.specs.Prelude.{◌↔◌}
use Rattle.std.specs.List.{list_any}
use Rattle.std.specs.Ordering.{int_eq}
use Rattle.std.proofs.lemmas.Bool.Decides.{Decides-int_eq}
use Rattle.fd_language.specs.declared.TheConstants.{INFINITY}
use Rattle.fd_language.specs.PostfixRanges.{nodes_of}
use Rattle.fd_language.specs.Range.{Range, Span}
use Rattle.fd_model.specs.declared.kinds.Relation.{Relation}
use Rattle.fd_model.specs.Satisfaction.{Assignment, Holds, IsNumber, AreNumbers, AreDifferent, IsElement, occurrences}
use Rattle.answer_check.specs.declared.goals.Constraint.{Constraint}
use Rattle.answer_check.specs.declared.goals.Constraint.TheVariants as constraint
use Rattle.answer_check.specs.declared.members.Member.{Member}
use Rattle.answer_check.specs.declared.operand_stack.Work.{Work}
use Rattle.answer_check.specs.Checks.{IsBounded, CanCheck, Meets, EndsFit, EndsHold, AreFirstBroken}
use Rattle.answer_check.specs.Members.{worth_of, worths_of, open_in}
use Rattle.answer_check.specs.OperandStack.{value_by, RangeFits, IsAt}
use Rattle.answer_check.proofs.BrokenConstraints.{AllMet, met_more, none_broken}
use Rattle.answer_check.proofs.Lists.{different_more, different_not, element_at, element_is, numbers_more, numbers_at, occurrences_more, take_next, take_whole}
use Rattle.answer_check.proofs.MemberTerms.{open_more}
use Rattle.answer_check.proofs.Spellings.{ends_waiting, some_node}

-- what is refuted is not told
pub none_true : {P : Type 0} → (P → ⊥) → (IsTrue false → P) × (P → IsTrue false)
none_true f = ((λ e. absurd (true≢false (sym e))), (λ h. absurd (f h)))

module _ (d : Member) (a : Assignment) (ms : List Member) (i : ℕ) (w : ℤ) (l : i < length ms) (e : w ≡ worth_of a (get_or ms i d)) where
  pub numbers_step : AreNumbers INFINITY (worths_of a (take i ms)) → IsNumber INFINITY w → AreNumbers INFINITY (worths_of a (take (i + 1) ms))
  numbers_step h n = subst (λ xs. AreNumbers INFINITY (worths_of a xs)) (sym (take_next ms i d l)) (numbers_more INFINITY (worth_of a) (take i ms) (get_or ms i d) h (subst (IsNumber INFINITY) e n))

  pub numbers_stop : (IsNumber INFINITY w → ⊥) → AreNumbers INFINITY (worths_of a ms) → ⊥
  numbers_stop f h = f (subst (IsNumber INFINITY) (sym e) (numbers_at INFINITY (worth_of a) ms i d l h))

  pub occurrences_step : (z : ℤ) (count new : ℕ) (b : Bool) → b ≡ int_eq w z → count ≡ occurrences (worths_of a (take i ms)) z → new ≡ cond b (count + 1) count
      → new ≡ occurrences (worths_of a (take (i + 1) ms)) z
  occurrences_step z count new b t c n =
      n ∙ ap (λ x. cond x (count + 1) count) (t ∙ ap (λ x. int_eq x z) e) ∙ ap (λ k. cond (int_eq (worth_of a (get_or ms i d)) z) (k + 1) k) c
      ∙ sym (ap (λ xs. occurrences (worths_of a xs) z) (take_next ms i d l) ∙ occurrences_more (worth_of a) z (take i ms) (get_or ms i d))

  mapped : (xs : List Member) (x : Member) → worths_of a (xs ++ x ∷ []) ≡ worths_of a xs ++ worth_of a x ∷ []
  mapped [] x = refl
  mapped (y ∷ xs) x = ap (λ zs. worth_of a y ∷ zs) (mapped xs x)

  pub worths_step : worths_of a (take (i + 1) ms) ≡ worths_of a (take i ms) ++ w ∷ []
  worths_step = ap (worths_of a) (take_next ms i d l) ∙ mapped (take i ms) (get_or ms i d) ∙ ap (λ z. worths_of a (take i ms) ++ z ∷ []) (sym e)

  pub different_step : AreDifferent (worths_of a (take i ms)) → list_any (int_eq w) (worths_of a (take i ms)) ≡ false → AreDifferent (worths_of a (take (i + 1) ms))
  different_step h f = subst AreDifferent (sym worths_step) (different_more (worths_of a (take i ms)) w h f)

  parted : (ms : List Member) (i : ℕ) → i < length ms → worths_of a ms ≡ worths_of a (take i ms) ++ worth_of a (get_or ms i d) ∷ worths_of a (drop (i + 1) ms)
  parted [] i l = absurd (omega (arith, l))
  parted (m ∷ ms) zero l = refl
  parted (m ∷ ms) (suc i) l =
      let n : suc i + 1 ≡ suc (i + 1) = omega arith in
      ap (λ zs. worth_of a m ∷ zs) (parted ms i (omega (arith, l))) ∙ ap (λ k. worth_of a m ∷ worths_of a (take i ms) ++ worth_of a (get_or ms i d) ∷ worths_of a (drop k (m ∷ ms))) (sym n)

  pub different_stop : list_any (int_eq w) (worths_of a (take i ms)) ≡ true → AreDifferent (worths_of a ms) → ⊥
  different_stop f h = different_not (worths_of a (take i ms)) (worths_of a (drop (i + 1) ms)) w f
      (subst AreDifferent (parted ms i l ∙ ap (λ z. worths_of a (take i ms) ++ z ∷ worths_of a (drop (i + 1) ms)) (sym e)) h)

-- ---- elements

got : (a : Assignment) (ms : List Member) (i : ℕ) (d : Member) → i < length ms → get_or (worths_of a ms) i (pos 0) ≡ worth_of a (get_or ms i d)
got a [] i d l = absurd (omega (arith, l))
got a (m ∷ ms) zero d l = refl
got a (m ∷ ms) (suc i) d l = got a ms i d (omega (arith, l))

as_many : (a : Assignment) (ms : List Member) → length (worths_of a ms) ≡ length ms
as_many a [] = refl
as_many a (m ∷ ms) = ap suc (as_many a ms)

pub none_at_0 : (zs : List ℤ) (k : ℕ) (z : ℤ) → k ≡ 0 → IsElement 1 zs (pos k) z → ⊥
none_at_0 zs k z e h = let r = element_is zs 1 (pos k) z h in let n : k ≡ 1 + r.at = (let f = r.number in cc (f)) in omega (arith, n, e)

pub none_behind : (a : Assignment) (ms : List Member) (k : ℕ) (z : ℤ) → length ms ≤ k - 1 → (k ≡ 0 → ⊥) → IsElement 1 (worths_of a ms) (pos k) z → ⊥
none_behind a ms k z l s h =
    let r = element_is (worths_of a ms) 1 (pos k) z h in
    let n : k ≡ 1 + r.at = (let f = r.number in cc (f)) in
    let m = r.within in
    omega (arith, n, m, l, as_many a ms)

pub element_there : (d : Member) (a : Assignment) (ms : List Member) (k : ℕ) (z w : ℤ) (b : Bool) → (k ≡ 0 → ⊥) → k - 1 < length ms
    → w ≡ worth_of a (get_or ms (k - 1) d) → b ≡ int_eq z w → IsTrue b ↔ IsElement 1 (worths_of a ms) (pos k) z
element_there d a ms k z w b s l e t = (
  (λ h.
      let n : k ≡ 1 + (k - 1) = some k s in
      element_at (worths_of a ms) 1 (k - 1) (pos k) z (omega (arith, l, as_many a ms)) (ap pos n) ((Decides-int_eq z w).0 (sym t ∙ h) ∙ e ∙ sym (got a ms (k - 1) d l))),
  (λ h.
      let r = element_is (worths_of a ms) 1 (pos k) z h in
      let n : k ≡ 1 + r.at = (let f = r.number in cc (f)) in
      let m : r.at ≡ k - 1 = omega (arith, n) in
      t ∙ (Decides-int_eq z w).1 (r.is ∙ ap (λ j. get_or (worths_of a ms) j (pos 0)) m ∙ got a ms (k - 1) d l ∙ sym e)),
) where
  some : (k : ℕ) → (k ≡ 0 → ⊥) → k ≡ 1 + (k - 1)
  some zero s = absurd (s refl)
  some (suc k) s = omega arith

-- ---- comparisons

pub some_nodes : (a : Assignment) (r : Range) → EndsFit a r → 1 ≤ length (nodes_of r)
some_nodes a (Span d e) f = some_node d e
some_nodes a r f = absurd f

pub ends_hold : (a : Assignment) (rel : Relation) (r : Range) (count : ℕ) (w : Work) (one : List ℤ) (left right : ℤ) (b : Bool) → EndsFit a r → count ≡ length (nodes_of r) - 1 → IsAt a 0 r count w
    → ((front : List ℤ) (x : ℤ) → w.numbers.items ≡ front ++ x ∷ [] → (right ≡ x) × (one ≡ front))
    → ((front : List ℤ) (x : ℤ) → one ≡ front ++ x ∷ [] → (left ≡ x)) → (IsTrue b ↔ Holds rel left right) → IsTrue b ↔ EndsHold a rel r
ends_hold a rel (Span d e) count w one left right b f is k p q h =
    let x = p ([] ++ value_by a d ∷ []) (value_by a e) (ends_waiting a 0 d e count w is k) in
    let y = q [] (value_by a d) x.1 in (
      (λ t. subst (λ z. Holds rel z (value_by a e)) y (subst (λ z. Holds rel left z) x.0 (h.0 t))),
      (λ g. h.1 (subst (λ z. Holds rel left z) (sym x.0) (subst (λ z. Holds rel z (value_by a e)) (sym y) g))),
    )
ends_hold a rel r count w one left right b f is k p q h = absurd f

-- ---- constraints

pub range_safe : (a : Assignment) (k : Constraint) (m : Member) (r : Range) → k ≡ constraint.Post m r → IsBounded a → CanCheck k → RangeFits a r
range_safe a k m r e small h = subst CanCheck e h a small

pub ends_safe : (a : Assignment) (k : Constraint) (rel : Relation) (r : Range) → k ≡ constraint.Compare rel r → IsBounded a → CanCheck k → EndsFit a r
ends_safe a k rel r e small h = subst CanCheck e h a small

pub met_step : (d : Constraint) (a : Assignment) (ks : List Constraint) (i : ℕ) → i < length ks → AllMet a (take i ks) → Meets a (get_or ks i d) → AllMet a (take (i + 1) ks)
met_step d a ks i l h m = subst (AllMet a) (sym (take_next ks i d l)) (met_more a (take i ks) (get_or ks i d) h m)

pub all_met : (a : Assignment) (ks : List Constraint) (i : ℕ) → length ks ≤ i → AllMet a (take i ks) → AreFirstBroken a 1 ks None
all_met a ks i l h = none_broken a 1 ks (subst (AllMet a) (take_whole ks i l) h)

pub open_step : (d : Member) (ms : List Member) (i : ℕ) (old new : List ℕ) → i < length ms → old ≡ open_in (take i ms) → new ≡ old ++ open_in (get_or ms i d ∷ []) → new ≡ open_in (take (i + 1) ms)
open_step d ms i old new l h e = e ∙ ap (λ xs. xs ++ open_in (get_or ms i d ∷ [])) h ∙ sym (ap open_in (take_next ms i d l) ∙ open_more (take i ms) (get_or ms i d))
