-- Each answer meets a constraint or breaks it, and rises above the one before or doesn't.
use Rattle.std.proofs.Common.{◌≡◌, ℕ, suc, ◌<◌, ◌≤◌, ◌⊎◌, inl, inr, Bool, true, false, ℤ, pos, negsuc, ◌≤ℤ◌, ◌<ℤ◌, List, [], ◌∷◌, Option, Some, None, refl, sym}
use Rattle.std.proofs.Common.{ap, ◌∙◌, arith, true≢false}
use Rattle.std.specs.Prelude.{All, nat_le}
use Rattle.std.specs.Ordering.{int_eq}
use Rattle.std.proofs.lemmas.Bool.{leb-true, leb-false}
use Rattle.std.proofs.lemmas.Bool.Decides.{Decides-int_eq}
use Rattle.std.proofs.lemmas.Int.{by_lt_z, ints}
use Rattle.std.proofs.lemmas.List.Elements.{All-head, All-tail}
use Rattle.fd_language.specs.declared.TheConstants.{INFINITY}
use Rattle.fd_language.specs.Range.{Range, Span, One, Dom, Union, Inter, Outside, Plus, Minus, Times, Over}
use Rattle.fd_model.specs.declared.kinds.Order.{Order}
use Rattle.fd_model.specs.declared.kinds.Order.TheVariants.{Leftmost, FirstFail}
use Rattle.fd_model.specs.declared.kinds.Relation.{Relation}
use Rattle.fd_model.specs.declared.kinds.Relation.TheVariants.{Equal, Differ, Less, AtMost, Greater, AtLeast}
use Rattle.fd_model.specs.Answers.{Precedes}
use Rattle.fd_model.specs.Goal.{Goal}
use Rattle.fd_model.specs.Satisfaction.{Assignment, Holds, IsNumber, AreNumbers, IsNone, AreDifferent, IsElement, occurrences}
use Rattle.answer_check.specs.declared.goals.Constraint.{Constraint}
use Rattle.answer_check.specs.declared.goals.Constraint.TheVariants.{Post, Compare, AllDifferent, Element, Atmost}
use Rattle.answer_check.specs.AnswerLines.{assigned}
use Rattle.answer_check.specs.Checks.{IsInside, EndsHold, Meets, AreFirstBroken}
use Rattle.answer_check.specs.Goals.{EachSays}
use Rattle.answer_check.specs.Judgement.{OrderVerdict, rising, free, EachFirstBroken, values_of, order_by, IsFirstFalling, IsOrderOf}
use Rattle.answer_check.specs.Members.{worth_of, worths_of}
use Rattle.answer_check.specs.OperandStack.{value_by, is_in}
use Rattle.answer_check.proofs.AnswerReports.{first_broken}
use Rattle.answer_check.proofs.Safety.{bounded_values_of}

abbrev pub Decided : Type 0 → Type 0
Decided P = P ⊎ (P → ⊥)

both : {P Q : Type 0} → Decided P → Decided Q → Decided (P × Q)
both (inl p) (inl q) = inl (p, q)
both (inl p) (inr n) = inr (λ x. n x.1)
both (inr n) d = inr (λ x. n x.0)

negated : {P : Type 0} → Decided P → Decided (P → ⊥)
negated (inl p) = inr (λ n. n p)
negated (inr n) = inl n

by_test : {P : Type 0} (b : Bool) → (b ≡ true → P) → (P → b ≡ true) → Decided P
by_test true f g = inl (f refl)
by_test false f g = inr (λ p. true≢false (sym (g p)))

-- ---- integers

same : (z w : ℤ) → Decided (z ≡ w)
same z w = by_test (int_eq z w) (Decides-int_eq z w).0 (Decides-int_eq z w).1

less : (z w : ℤ) → Decided (z <ℤ w)
less z w = by_lt_z z w (λ l. inl l) (λ m. inr (λ l. omega (arith, ints, l, m)))

at_most : (z w : ℤ) → Decided (z ≤ℤ w)
at_most z w = by_lt_z w z (λ l. inr (λ m. omega (arith, ints, l, m))) (λ m. inl m)

number : (M : ℕ) (z : ℤ) → Decided (IsNumber M z)
number M (pos n) = by (nat_le n M) refl where
  by : (b : Bool) → nat_le n M ≡ b → Decided (IsNumber M (pos n))
  by true e = inl (record { number = n; within = leb-true n M e; is = refl })
  by false e = inr (λ i. let l : M < n = leb-false n M e in let w = i.within in let s : n ≡ i.number = (let f = i.is in cc (f)) in omega (arith, l, w, s))
number M (negsuc n) = inr (λ i. let e = i.is in cc (e))

numbers : (M : ℕ) (zs : List ℤ) → Decided (AreNumbers M zs)
numbers M [] = inl tt
numbers M (z ∷ zs) = both (number M z) (numbers M zs)

none : (z : ℤ) (ys : List ℤ) → Decided (IsNone z ys)
none z [] = inl tt
none z (y ∷ ys) = both (negated (same z y)) (none z ys)

different : (zs : List ℤ) → Decided (AreDifferent zs)
different [] = inl tt
different (z ∷ zs) = both (none z zs) (different zs)

element : (n : ℕ) (ys : List ℤ) (k z : ℤ) → Decided (IsElement n ys k z)
element n [] k z = inr (λ x. x)
element n (y ∷ ys) k z = or_later (both (same k (pos n)) (same z y)) (element (suc n) ys k z) where
  or_later : {P Q : Type 0} → Decided P → Decided Q → Decided (P ⊎ Q)
  or_later (inl p) d = inl (inl p)
  or_later (inr n) (inl q) = inl (inr q)
  or_later (inr n) (inr m) = inr (λ s. elim s [ inl p ↦ n p | inr q ↦ m q ])

related : (rel : Relation) (x y : ℤ) → Decided (Holds rel x y)
related Equal x y = same x y
related Differ x y = negated (same x y)
related Less x y = less x y
related AtMost x y = at_most x y
related Greater x y = less y x
related AtLeast x y = at_most y x

-- ---- constraints

inside : (a : Assignment) (z : ℤ) (r : Range) → Decided (IsInside a z r)
inside a z r = by (number INFINITY z) where
  by : Decided (IsNumber INFINITY z) → Decided (IsInside a z r)
  by (inl i) = by_test (is_in a i.number r) (λ e. record { number = i.number; within = i.within; is = i.is; inside = e })
      (λ q. let s : q.number ≡ i.number = (let e = q.is in let f = i.is in cc (e, f)) in ap (λ k. is_in a k r) (sym s) ∙ q.inside)
  by (inr n) = inr (λ q. n (record { number = q.number; within = q.within; is = q.is }))

ends : (a : Assignment) (rel : Relation) (r : Range) → Decided (EndsHold a rel r)
ends a rel (Span s t) = related rel (value_by a s) (value_by a t)
ends a rel (One t) = inr (λ x. x)
ends a rel (Dom y) = inr (λ x. x)
ends a rel (Union r q) = inr (λ x. x)
ends a rel (Inter r q) = inr (λ x. x)
ends a rel (Outside r) = inr (λ x. x)
ends a rel (Plus r c) = inr (λ x. x)
ends a rel (Minus r c) = inr (λ x. x)
ends a rel (Times r c) = inr (λ x. x)
ends a rel (Over r c) = inr (λ x. x)

three : {P Q R : Type 0} → Decided P → Decided Q → Decided R → Decided (P × Q × R)
three (inl p) (inl q) (inl r) = inl (p, q, r)
three (inl p) (inl q) (inr n) = inr (λ x. n x.2)
three (inl p) (inr n) d = inr (λ x. n x.1)
three (inr n) d e = inr (λ x. n x.0)

meets : (a : Assignment) (k : Constraint) → Decided (Meets a k)
meets a (Post m r) = inside a (worth_of a m) r
meets a (Compare rel r) = ends a rel r
meets a (AllDifferent ms) = both (numbers INFINITY (worths_of a ms.items)) (different (worths_of a ms.items))
meets a (Element i ms x) = three (number INFINITY (worth_of a i)) (number INFINITY (worth_of a x)) (element 1 (worths_of a ms.items) (worth_of a i) (worth_of a x))
meets a (Atmost n ms v) = both (numbers INFINITY (worths_of a ms.items)) (at_most (pos (occurrences (worths_of a ms.items) (worth_of a v))) (worth_of a n))

breaks : (a : Assignment) (n : ℕ) (ks : List Constraint) → (o : Option ℕ) × AreFirstBroken a n ks o
breaks a n [] = (None, refl)
breaks a n (k ∷ ks) = by (meets a k) (breaks a (suc n) ks) where
  by : Decided (Meets a k) → (o : Option ℕ) × AreFirstBroken a (suc n) ks o → (o : Option ℕ) × AreFirstBroken a n (k ∷ ks) o
  by (inl m) later = (later.0, inl (m, later.1))
  by (inr m) later = (Some n, inr (m, refl))

-- the first goal that each answer breaks
pub each_breaks : (gs : List Goal) (ks : List Constraint) (nss : List (List ℕ)) → EachSays gs ks → All (All (λ k. k ≤ INFINITY)) nss → (vs : List (Option ℕ)) × EachFirstBroken INFINITY gs nss vs
each_breaks gs ks [] s small = ([], refl)
each_breaks gs ks (ns ∷ nss) s small =
    let here = breaks (assigned ns) 1 ks in
    let later = each_breaks gs ks nss s (All-tail (All (λ k. k ≤ INFINITY)) ns nss small) in
    let row = bounded_values_of ns (All-head (All (λ k. k ≤ INFINITY)) ns nss small) in
    (here.0 ∷ later.0, (first_broken (assigned ns) 1 gs ks here.0 row s here.1, later.1))

-- ---- the order

precedes : (xs ys : List ℕ) → Decided (Precedes xs ys)
precedes [] ys = inr (λ p. p)
precedes (x ∷ xs) [] = inr (λ p. p)
precedes (x ∷ xs) (y ∷ ys) = by_lt_z (pos x) (pos y) (λ l. inl (inl (omega (arith, ints, l)))) (λ m. by (same (pos x) (pos y)) m (precedes xs ys)) where
  by : Decided (pos x ≡ pos y) → pos y ≤ℤ pos x → Decided (Precedes xs ys) → Decided ((x < y) ⊎ ((x ≡ y) × Precedes xs ys))
  by (inl e) m (inl p) = inl (inr ((let f : x ≡ y = cc (e) in f), p))
  by (inl e) m (inr n) = inr (λ s. elim s [ inl l ↦ omega (arith, ints, l, m) | inr q ↦ n q.1 ])
  by (inr n) m d = inr (λ s. elim s [ inl l ↦ omega (arith, ints, l, m) | inr q ↦ n (ap pos q.0) ])

falls : (xs ns : List ℕ) (k : ℕ) (nss : List (List ℕ)) → (o : Option ℕ) × IsFirstFalling xs ns k nss o
falls xs ns k [] = (None, refl)
falls xs ns k (ms ∷ mss) = by (precedes (values_of xs ns) (values_of xs ms)) (falls xs ms (suc k) mss) where
  by : Decided (Precedes (values_of xs ns) (values_of xs ms)) → (o : Option ℕ) × IsFirstFalling xs ms (suc k) mss o → (o : Option ℕ) × IsFirstFalling xs ns k (ms ∷ mss) o
  by (inl p) later = (later.0, inl (p, later.1))
  by (inr n) later = (Some k, inr (n, refl))

pub has_order : (o : Order) (xs : List ℕ) (nss : List (List ℕ)) → (v : OrderVerdict) × IsOrderOf o xs nss v
has_order Leftmost xs [] = (rising, refl)
has_order Leftmost xs (ns ∷ nss) = let f = falls xs ns 2 nss in (order_by f.0, (f.0, f.1, refl))
has_order FirstFail xs nss = (free, refl)
