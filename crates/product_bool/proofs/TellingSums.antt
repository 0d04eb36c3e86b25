-- Sums that tell, as they are made.
use Rattle.std.proofs.Common.{◌≡◌, ℕ, zero, suc, ◌+◌, ◌≤◌, ◌<◌, Bool, true, false, cond, ◌==◌, ℤ, pos, negsuc, neg_ℤ, ◌+ℤ◌, ◌-ℤ◌, ◌*ℤ◌, ◌<ℤ◌, nat_abs, List, []}
use Rattle.std.proofs.Common.{◌∷◌, ◌++◌, length, take, drop, get_or, refl, ap, sym, ◌∙◌, subst, arith, eqb-true, eq-eqb, append_assoc, inl, inr, Result, Ok}
use Rattle.std.proofs.Common.{Err}
use Rattle.std.specs.Prelude.{◌&&◌}
use Rattle.std.specs.List.{list_all}
use Rattle.std.proofs.lemmas.Int.{ints}
use Rattle.std.proofs.lemmas.Bool.{and_parts, and_from, cases_Bool}
use Rattle.std.proofs.lemmas.List.{drop_more, take-append-drop}
use Rattle.fd_model.specs.declared.kinds.QueryFault.{QueryFault}
use Rattle.fd_model.specs.declared.kinds.QueryFault.TheVariants.{Evaluation}
use Rattle.fd_model.proofs.Lemmas as forms
use Rattle.fd_model.proofs.Lemmas.{none_dropped, nonzero_scaled, collect_nonzero, normal_nonzero}
use Rattle.linear_forms.proofs.Lemmas.{scaled_integers, turned_inside, normal_inside, collected_inside, neg_one}
use Rattle.fd_language.specs.Term.{Term}
use Rattle.fd_model.specs.declared.kinds.Relation.{Relation}
use Rattle.fd_model.specs.Linear.{Linear, with_product, scaled, nonzero, in_integers, of_both, turned, normal, normal_form, collect}
use Rattle.fd_model.specs.ReifiedRows.{magnitudes, collected_again, two, told_by}
use Rattle.linear_forms.specs.IntegerSums.{AreIntegers}
use Rattle.product_bool.specs.Sums.{NoneZero, AreApart, FindsProduct, Adds, Exceeds, IsNormal}
use Rattle.product_bool.specs.Reified.{IsFar}

-- ---- magnitudes

pub magnitudes_append : (ts us : List (ℕ × ℤ)) → magnitudes (ts ++ us) ≡ magnitudes ts + magnitudes us
magnitudes_append [] us = omega arith
magnitudes_append (t ∷ ts) us = let e = magnitudes_append ts us in omega arith

-- ---- the place of a variable

pub apart_from : (a b : ℕ) → (a ≡ b → ⊥) → (a == b) ≡ false
apart_from a b h = elim (cases_Bool (a == b)) [ inl e ↦ absurd (h (eqb-true a b e)) | inr e ↦ e ]

apart_more : (ts : List (ℕ × ℤ)) (x i : ℕ) → i < length ts → ((get_or ts i (0, pos 0)).0 == x) ≡ false → AreApart x (take i ts) → AreApart x (take (suc i) ts)
apart_more [] x i l n h = absurd (omega arith)
apart_more (t ∷ ts) x zero l n h = (n, tt)
apart_more (t ∷ ts) x (suc i) l n h = (h.0, apart_more ts x i (omega arith) n h.1)

pub apart_turns : (ts : List (ℕ × ℤ)) (x i : ℕ) → i < length ts → ((get_or ts i (0, pos 0)).0 == x) ≡ false → AreApart x (take i ts) → AreApart x (take (i + 1) ts)
apart_turns ts x i l n h = subst (λ k. AreApart x (take k ts)) (next i) (apart_more ts x i l n h) where
  next : (i : ℕ) → suc i ≡ i + 1
  next i = omega arith

pub magnitudes_turn : (ts : List (ℕ × ℤ)) (i : ℕ) → i < length ts → magnitudes (take (i + 1) ts) ≡ magnitudes (take i ts) + nat_abs (get_or ts i (0, pos 0)).1
magnitudes_turn ts i l = ap (λ k. magnitudes (take k ts)) (next i) ∙ more ts i l where
  next : (i : ℕ) → i + 1 ≡ suc i
  next i = omega arith

  more : (ts : List (ℕ × ℤ)) (i : ℕ) → i < length ts → magnitudes (take (suc i) ts) ≡ magnitudes (take i ts) + nat_abs (get_or ts i (0, pos 0)).1
  more [] i l = absurd (omega arith)
  more (t ∷ ts) zero l = omega arith
  more (t ∷ ts) (suc i) l = let e = more ts i (omega arith) in omega arith

pub magnitudes_front : (ts : List (ℕ × ℤ)) (i : ℕ) → magnitudes (take i ts) ≤ magnitudes ts
magnitudes_front ts i = let e = ap magnitudes (take-append-drop i ts) in let f = magnitudes_append (take i ts) (drop i ts) in omega arith

apart_front : (us vs : List (ℕ × ℤ)) (x : ℕ) (a : ℤ) → AreApart x us → with_product (us ++ vs) x a ≡ us ++ with_product vs x a
apart_front [] vs x a h = refl
apart_front (t ∷ us) vs x a h = ap (λ c. cond c ((x, t.1 +ℤ a) ∷ (us ++ vs)) (t ∷ with_product (us ++ vs) x a)) h.0 ∙ ap (λ ts. t ∷ ts) (apart_front us vs x a h.1)

product_split : (ts : List (ℕ × ℤ)) (x i : ℕ) (a : ℤ) → AreApart x (take i ts) → with_product ts x a ≡ take i ts ++ with_product (drop i ts) x a
product_split ts x i a h = ap (λ us. with_product us x a) (sym (take-append-drop i ts)) ∙ apart_front (take i ts) (drop i ts) x a h

-- at the end, and at the place
pub product_last : (ts : List (ℕ × ℤ)) (x i : ℕ) (a : ℤ) → FindsProduct ts x i → i ≡ length ts → with_product ts x a ≡ take i ts ++ (x, a) ∷ []
product_last ts x i a f e = product_split ts x i a f.before ∙ ap (λ us. take i ts ++ with_product us x a) (none_left ts i e) where
  none_left : (ts : List (ℕ × ℤ)) (i : ℕ) → i ≡ length ts → drop i ts ≡ []
  none_left [] zero e = refl
  none_left [] (suc i) e = refl
  none_left (t ∷ ts) zero e = absurd (omega arith)
  none_left (t ∷ ts) (suc i) e = none_left ts i (omega arith)

pub product_here : (ts : List (ℕ × ℤ)) (x i : ℕ) (a : ℤ) → FindsProduct ts x i → i < length ts → with_product ts x a ≡ take i ts ++ (x, (get_or ts i (0, pos 0)).1 +ℤ a) ∷ drop (i + 1) ts
product_here ts x i a f l =
    product_split ts x i a f.before
    ∙ (ap (λ us. take i ts ++ with_product us x a) (drop_more ts i (0, pos 0) l) ∙ ap (λ us. take i ts ++ us) (at_front (get_or ts i (0, pos 0)) (drop (i + 1) ts) (f.here l))) where
      at_front : (t : ℕ × ℤ) (us : List (ℕ × ℤ)) → t.0 ≡ x → with_product (t ∷ us) x a ≡ (x, t.1 +ℤ a) ∷ us
      at_front t us e = ap (λ c. cond c ((x, t.1 +ℤ a) ∷ us) (t ∷ with_product us x a)) (eq-eqb t.0 x e)

-- integers of the language, all but one
inside_front : (us vs : List (ℕ × ℤ)) → AreIntegers (us ++ vs) → AreIntegers us × AreIntegers vs
inside_front [] vs h = (refl, h)
inside_front (t ∷ us) vs h =
    let k = and_parts (in_integers t.1) (list_all (λ (t : ℕ × ℤ). in_integers t.1) (us ++ vs)) h in
    let j = inside_front us vs k.1 in
    (and_from _ _ k.0 j.0, j.1)

inside_both : (us vs : List (ℕ × ℤ)) → AreIntegers us → AreIntegers vs → AreIntegers (us ++ vs)
inside_both [] vs h g = g
inside_both (t ∷ us) vs h g = let k = and_parts (in_integers t.1) (list_all (λ (t : ℕ × ℤ). in_integers t.1) us) h in and_from _ _ k.0 (inside_both us vs k.1 g)

pub inside_around : (ts : List (ℕ × ℤ)) (x i : ℕ) (z : ℤ) → AreIntegers ts → i < length ts → in_integers z ≡ true → AreIntegers (take i ts ++ (x, z) ∷ drop (i + 1) ts)
inside_around ts x i z h l k =
    let parts = inside_front (take i ts) (get_or ts i (0, pos 0) ∷ drop (i + 1) ts) (subst AreIntegers (sym (take-append-drop i ts) ∙ ap (λ us. take i ts ++ us) (drop_more ts i (0, pos 0) l)) h) in
    inside_both (take i ts) ((x, z) ∷ drop (i + 1) ts) parts.0
    (and_from _ _ k (and_parts (in_integers (get_or ts i (0, pos 0)).1) (list_all (λ (t : ℕ × ℤ). in_integers t.1) (drop (i + 1) ts)) parts.1).1)

pub inside_last : (ts : List (ℕ × ℤ)) (x : ℕ) (z : ℤ) → AreIntegers ts → in_integers z ≡ true → AreIntegers (ts ++ (x, z) ∷ [])
inside_last ts x z h k = inside_both ts ((x, z) ∷ []) h (and_from _ _ k refl)

pub outside_around : (us vs : List (ℕ × ℤ)) (x : ℕ) (z : ℤ) → in_integers z ≡ false → list_all (λ (t : ℕ × ℤ). in_integers t.1) (us ++ (x, z) ∷ vs) ≡ false
outside_around [] vs x z h = ap (λ c. c && list_all (λ (t : ℕ × ℤ). in_integers t.1) vs) h
outside_around (t ∷ us) vs x z h = by_test (in_integers t.1) (outside_around us vs x z h) where
  by_test : (c : Bool) → list_all (λ (t : ℕ × ℤ). in_integers t.1) (us ++ (x, z) ∷ vs) ≡ false → (c && list_all (λ (t : ℕ × ℤ). in_integers t.1) (us ++ (x, z) ∷ vs)) ≡ false
  by_test true e = e
  by_test false e = refl

-- one more behind all, and in its place
pub adds_last : (ts : List (ℕ × ℤ)) (x i : ℕ) (a b : ℤ) (m e p : List (ℕ × ℤ)) → AreIntegers ts → in_integers a ≡ true → FindsProduct ts x i → i ≡ length ts
    → b ≡ a → m ≡ [] → e ≡ m ++ take i ts → p ≡ e ++ (x, b) ∷ [] → Adds ts x a p
adds_last ts x i a b m e p h k f l same none front whole =
    let is : p ≡ take i ts ++ (x, a) ∷ [] = whole ∙ (ap (λ us. us ++ (x, b) ∷ []) (front ∙ ap (λ us. us ++ take i ts) none) ∙ ap (λ z. take i ts ++ (x, z) ∷ []) same) in
    record {
      products = is ∙ sym (product_last ts x i a f l);
      inside = subst AreIntegers (sym (is ∙ ap (λ us. us ++ (x, a) ∷ []) (all_of ts i l))) (inside_last ts x a h k);
    } where
      all_of : (ts : List (ℕ × ℤ)) (i : ℕ) → i ≡ length ts → take i ts ≡ ts
      all_of [] zero e = refl
      all_of [] (suc i) e = refl
      all_of (t ∷ ts) zero e = absurd (omega arith)
      all_of (t ∷ ts) (suc i) e = ap (λ us. t ∷ us) (all_of ts i (omega arith))

pub adds_here : (ts : List (ℕ × ℤ)) (x i : ℕ) (a b : ℤ) (m e p q : List (ℕ × ℤ)) → AreIntegers ts → FindsProduct ts x i → i < length ts
    → b ≡ (get_or ts i (0, pos 0)).1 +ℤ a → in_integers ((get_or ts i (0, pos 0)).1 +ℤ a) ≡ true → m ≡ [] → e ≡ m ++ take i ts → p ≡ e ++ (x, b) ∷ []
    → q ≡ p ++ drop (i + 1) ts → Adds ts x a q
adds_here ts x i a b m e p q h f l same k none front more whole =
    let z = (get_or ts i (0, pos 0)).1 +ℤ a in
    let first : p ≡ take i ts ++ (x, z) ∷ [] = more ∙ (ap (λ us. us ++ (x, b) ∷ []) (front ∙ ap (λ us. us ++ take i ts) none) ∙ ap (λ y. take i ts ++ (x, y) ∷ []) same) in
    let is : q ≡ take i ts ++ (x, z) ∷ drop (i + 1) ts = whole ∙ (ap (λ us. us ++ drop (i + 1) ts) first ∙ append_assoc (take i ts) ((x, z) ∷ []) (drop (i + 1) ts)) in
    record { products = is ∙ sym (product_here ts x i a f l); inside = subst AreIntegers (sym is) (inside_around ts x i z h l k) }

pub exceeds_here : (ts : List (ℕ × ℤ)) (x i : ℕ) (a : ℤ) → FindsProduct ts x i → i < length ts → in_integers ((get_or ts i (0, pos 0)).1 +ℤ a) ≡ false → Exceeds ts x a
exceeds_here ts x i a f l k = ap (list_all (λ (t : ℕ × ℤ). in_integers t.1)) (product_here ts x i a f l) ∙ outside_around (take i ts) (drop (i + 1) ts) x ((get_or ts i (0, pos 0)).1 +ℤ a) k

pub before_end : (ts : List (ℕ × ℤ)) (x i : ℕ) → FindsProduct ts x i → (i ≡ length ts → ⊥) → i < length ts
before_end ts x i f n = let w = f.within in omega (arith, n)

-- ---- the sums that are told

to_none : (ts : List (ℕ × ℤ)) → NoneZero ts → forms.NoneZero ts
to_none [] h = tt
to_none (t ∷ ts) h = (h.0, to_none ts h.1)

pub from_none : (ts : List (ℕ × ℤ)) → forms.NoneZero ts → NoneZero ts
from_none [] h = tt
from_none (t ∷ ts) h = (h.0, from_none ts h.1)

-- no coefficient is 0 where one was added that is more than all others
added_nonzero : (ts : List (ℕ × ℤ)) (x : ℕ) (w : ℤ) → NoneZero ts → pos 0 <ℤ w → magnitudes ts < nat_abs w → NoneZero (with_product ts x w)
added_nonzero [] x w h p l = ((λ e. absurd (some w p e)), tt) where
  some : (w : ℤ) → pos 0 <ℤ w → w ≡ pos 0 → ⊥
  some w p e = omega (arith, ints)
added_nonzero (t ∷ ts) x w h p l = by_test (t.0 == x) (added_nonzero ts x w h.1 p (omega arith)) where
  some : (z w : ℤ) (m : ℕ) → pos 0 <ℤ w → nat_abs z + m < nat_abs w → z +ℤ w ≡ pos 0 → ⊥
  some z w m p l e = omega (arith, ints)

  by_test : (c : Bool) → NoneZero (with_product ts x w) → NoneZero (cond c ((x, t.1 +ℤ w) ∷ ts) (t ∷ with_product ts x w))
  by_test true g = ((λ e. absurd (some t.1 w (magnitudes ts) p l e)), h.1)
  by_test false g = (h.0, g)

abbrev taken : List (ℕ × ℤ) → ℤ → Result Linear QueryFault
taken ts c = Ok (record { products = nonzero ts; constant = c })

again_is : (ts : List (ℕ × ℤ)) (c : ℤ) → NoneZero ts → in_integers c ≡ true → AreIntegers ts → collected_again ts c ≡ Ok record { products = ts; constant = c }
again_is ts c n h g = ap (λ b. cond b (taken ts c) (Err Evaluation)) (and_from _ _ h g) ∙ ap (λ us. Ok record { products = us; constant = c }) (none_dropped ts (to_none ts n))

again_wide : (ts : List (ℕ × ℤ)) (c : ℤ) → list_all (λ (t : ℕ × ℤ). in_integers t.1) ts ≡ false → collected_again ts c ≡ Err Evaluation
again_wide ts c h = by_test (in_integers c) (list_all (λ (t : ℕ × ℤ). in_integers t.1) ts) h where
  by_test : (p q : Bool) → q ≡ false → cond (p && q) (taken ts c) (Err Evaluation) ≡ Err Evaluation
  by_test true true h = absurd (cc)
  by_test true false h = refl
  by_test false q h = refl

again_far : (ts : List (ℕ × ℤ)) (c : ℤ) → in_integers c ≡ false → collected_again ts c ≡ Err Evaluation
again_far ts c h = ap (λ b. cond (b && list_all (λ (t : ℕ × ℤ). in_integers t.1) ts) (taken ts c) (Err Evaluation)) h

-- where there is one fault, it is that
one_fault : (ts : List (ℕ × ℤ)) (c : ℤ) (r : Result Linear QueryFault) → r ≡ Err Evaluation → of_both two (collected_again ts c) r ≡ Err Evaluation
one_fault ts c r h = ap (of_both two (collected_again ts c)) h ∙ by_test (in_integers c && list_all (λ (t : ℕ × ℤ). in_integers t.1) ts) where
  by_test : (b : Bool) → of_both two (cond b (taken ts c) (Err Evaluation)) (Err Evaluation) ≡ Err Evaluation
  by_test true = refl
  by_test false = refl

module _ (x : ℕ) (w : ℤ) (l : Linear) (inside : in_integers w ≡ true) where
  abbrev ts : List (ℕ × ℤ)
  ts = with_product l.products x w

  within : told_by x w l ≡ of_both two (collected_again ts (l.constant +ℤ w)) (collected_again (scaled (negsuc 0) ts) (neg_ℤ l.constant -ℤ pos 1))
  within = ap (λ b. cond b (of_both two (collected_again ts (l.constant +ℤ w)) (collected_again (scaled (negsuc 0) ts) (neg_ℤ l.constant -ℤ pos 1))) (Err Evaluation)) inside

  pub told_is : NoneZero l.products → pos 0 <ℤ w → magnitudes l.products < nat_abs w → AreIntegers ts → in_integers (l.constant +ℤ w) ≡ true → in_integers (neg_ℤ l.constant -ℤ pos 1) ≡ true
      → told_by x w l ≡ Ok (record { products = ts; constant = l.constant +ℤ w } ∷ record { products = scaled (negsuc 0) ts; constant = neg_ℤ l.constant -ℤ pos 1 } ∷ [])
  told_is n p m h c d =
      let none = added_nonzero l.products x w n p m in
      within
      ∙ (ap (λ r. of_both two r (collected_again (scaled (negsuc 0) ts) (neg_ℤ l.constant -ℤ pos 1))) (again_is ts (l.constant +ℤ w) none c h)
      ∙ ap (of_both two (Ok (record { products = ts; constant = l.constant +ℤ w })))
      (again_is (scaled (negsuc 0) ts) (neg_ℤ l.constant -ℤ pos 1) (from_none (scaled (negsuc 0) ts) (nonzero_scaled ts (to_none ts none))) d
      (scaled_integers ts ∙ h)))

  pub told_wide : Exceeds l.products x w → told_by x w l ≡ Err Evaluation
  told_wide h = within ∙ ap (λ r. of_both two r (collected_again (scaled (negsuc 0) ts) (neg_ℤ l.constant -ℤ pos 1))) (again_wide ts (l.constant +ℤ w) h)

  pub told_far : in_integers (l.constant +ℤ w) ≡ false → told_by x w l ≡ Err Evaluation
  told_far h = within ∙ ap (λ r. of_both two r (collected_again (scaled (negsuc 0) ts) (neg_ℤ l.constant -ℤ pos 1))) (again_far ts (l.constant +ℤ w) h)

  pub told_low : in_integers (neg_ℤ l.constant -ℤ pos 1) ≡ false → told_by x w l ≡ Err Evaluation
  told_low h = within ∙ one_fault ts (l.constant +ℤ w) (collected_again (scaled (negsuc 0) ts) (neg_ℤ l.constant -ℤ pos 1)) (again_far (scaled (negsuc 0) ts) (neg_ℤ l.constant -ℤ pos 1) h)

-- ---- both parts

turned_magnitudes : (ts : List (ℕ × ℤ)) → magnitudes (scaled (negsuc 0) ts) ≡ magnitudes ts
turned_magnitudes [] = refl
turned_magnitudes (t ∷ ts) = let e = turned_size t.1 in let f = turned_magnitudes ts in omega arith where
  turned_size : (z : ℤ) → nat_abs (negsuc 0 *ℤ z) ≡ nat_abs z
  turned_size z = let e = neg_one z in omega (arith, ints)

pub turned_normal : (l m : Linear) → IsNormal l → m ≡ turned l → IsNormal m
turned_normal l m h e = subst IsNormal (sym e) (record {
  inside = turned_inside l h.inside;
  nonzero = from_none (scaled (negsuc 0) l.products) (nonzero_scaled l.products (to_none l.products h.nonzero));
})

pub turned_far : (w v : ℤ) (l m : Linear) → IsFar w l → v ≡ w → m ≡ turned l → IsFar v m
turned_far w v l m h e f = subst (λ y. IsFar y m) (sym e)
    (subst (IsFar w) (sym f) (record {
      positive = h.positive;
      inside = h.inside;
      more = let k = turned_magnitudes l.products in let g = h.more in
          omega arith;
    }))

-- a collected form, and its normal form
pub collected_normal : (s t : Term) (l m : Linear) (r : Relation) → collect s t ≡ Ok l → normal_form r l ≡ Ok m → IsNormal m
collected_normal s t l m r e f =
    record {
      inside = normal_inside r l m (collected_inside s t l e) f;
      nonzero = subst (λ (k : Linear). NoneZero k.products) (same f) (from_none (normal r l).products (normal_nonzero r l (collect_nonzero s t l e)));
    } where
      same : normal_form r l ≡ Ok m → normal r l ≡ m
      same h = by_test (in_integers (normal r l).constant) h where
        by_test : (c : Bool) → cond c (Ok (normal r l)) (Err Evaluation) ≡ Ok m → normal r l ≡ m
        by_test true h = cc
        by_test false h = absurd (cc)
