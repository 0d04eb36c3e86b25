-- What a kept constraint says of numbers is what its goal does.
use Rattle.std.proofs.Common.{◌≡◌, ℕ, ◌+◌, ◌≤◌, Bool, true, false, cond, ◌&&◌, pos, ◌≤ℤ◌, List, [], ◌∷◌, Option, Some, None, is_none, refl, sym, ap, ◌∙◌, subst}
use Rattle.std.proofs.Common.{true≢false}
use Rattle.std.specs.Prelude.{is_some, codes}
use Rattle.std.specs.Cmp.{both_ways}
use Rattle.std.specs.List.{list_all, list_any}
use Rattle.std.specs.Option.{option_or}
use Rattle.std.specs.Str.{bytes_eq}
use Rattle.std.proofs.lemmas.Bool.{and_parts}
use Rattle.std.proofs.lemmas.Slice.Eq.{bytes_eq-Decides}
use Rattle.fd_language.specs.declared.TheConstants.{INFINITY}
use Rattle.fd_language.specs.declared.range_node.Offence.{Offence}
use Rattle.fd_language.specs.declared.range_node.Offence.TheVariants.{NotMonotone, NotNatural, BadDivisor, TooWide}
use Rattle.fd_language.specs.Family.{has, universe}
use Rattle.fd_language.specs.PlacedTerm.{PlacedTerm}
use Rattle.fd_language.specs.Range.{Range, Span, in_range, in_set, set_of, reads, vals, params, is_none_left, is_several}
use Rattle.fd_language.specs.RangeVerdict.{verdict, is_accepted}
use Rattle.fd_language.specs.Spelling.{read_range, not_a_range}
use Rattle.fd_language.specs.Term.{Term, Var, Int, Atom, Comp, no_terms, term}
use Rattle.fd_language.proofs.Lemmas.{has-filter, has-filter_back, in_universe, verdict_agrees}
use Rattle.fd_model.specs.declared.kinds.Relation.{Relation}
use Rattle.fd_model.specs.declared.kinds.Relation.TheVariants.{Equal, Differ, Less, AtMost, Greater, AtLeast}
use Rattle.fd_model.specs.Builtins.{is_integer}
use Rattle.fd_model.specs.FlatConstraints.{is_narrow, is_operator, width, is_flat, is_flat_comparison, is_list_of, is_place}
use Rattle.fd_model.specs.ProductRows.{factors, with_result, product_form}
use Rattle.fd_model.specs.Refusals.{Refusal, range_refusal, or_later, unspelled, offence_refusal}
use Rattle.fd_model.specs.Satisfaction.{Assignment, singles, worth, worths, Holds, IsNumber, AreNumbers, AreDifferent, IsElement, occurrences, InRange}
use Rattle.fd_model.specs.Satisfaction.{HasResult}
use Rattle.answer_check.specs.declared.goals.Constraint.{Constraint}
use Rattle.answer_check.specs.declared.goals.Constraint.TheVariants as constraint
use Rattle.answer_check.specs.declared.members.Member.{Member}
use Rattle.answer_check.specs.Checks.{Meets, CanCheck, AreAllDifferent, HasElement, HasAtMost}
use Rattle.answer_check.specs.FlatForm.{is_plain, is_flat_range}
use Rattle.answer_check.specs.Goals.{Says}
use Rattle.answer_check.specs.Members.{is_known, worth_of, worths_of, member_in, members_in, known_in}
use Rattle.answer_check.specs.Sides.{expr_of, sides_in}
use Rattle.answer_check.specs.OperandStack.{value_by}
use Rattle.answer_check.proofs.MemberTerms.{place_member, member_worth, known_place, known_member, members_worths, members_listed, known_listed}
use Rattle.answer_check.proofs.MemberTerms.{members_unlisted}
use Rattle.answer_check.proofs.Safety.{accepted_fits, side_fits}
use Rattle.answer_check.proofs.SideTerms.{value_is}

-- ---- sets under an assignment

never : (f : ℕ → Bool) → ((y : ℕ) → f y ≡ false) → (xs : List ℕ) → list_any f xs ≡ false
never f h [] = refl
never f h (x ∷ xs) = rw (h x, never f h xs) refl

module _ (a : Assignment) where
  in_singles : (r : Range) (n : ℕ) → in_set INFINITY (singles a) r n ≡ in_range INFINITY (singles a) r n
  in_singles r n = rw (never (λ y. is_none_left (singles a y)) (λ y. refl) (reads r), never (λ y. is_several (singles a y)) (λ y. refl) (vals r)) refl

  set_singles : (r : Range) (n : ℕ) → n ≤ INFINITY → has (set_of INFINITY (singles a) r) n ≡ in_range INFINITY (singles a) r n
  set_singles r n h = both_ways (has (set_of INFINITY (singles a) r) n) (in_range INFINITY (singles a) r n)
      (λ e. sym (in_singles r n) ∙ (has-filter_back (in_set INFINITY (singles a) r) (universe INFINITY) n e).1)
      (λ e. has-filter (in_set INFINITY (singles a) r) (universe INFINITY) n (in_universe INFINITY n h) (in_singles r n ∙ e))

-- ---- a target in a range

later_none : (o p : Option Refusal) → is_none (or_later o p) ≡ true → is_none p ≡ true
later_none None p h = h
later_none (Some x) p h = absurd (true≢false (sym h))

pub flat_accepted : (t : PlacedTerm) (r : Range) → r ≡ (read_range INFINITY t).tree → is_flat_range INFINITY t r ≡ true → is_accepted INFINITY r ≡ true
flat_accepted t r is h =
    let both = and_parts (is_none (range_refusal INFINITY INFINITY t)) (is_none_left (params r) && is_plain r) h in
    let none = later_none (unspelled (not_a_range INFINITY t)) (offence_refusal (verdict INFINITY (read_range INFINITY t).places (read_range INFINITY t).tree)) both.0 in
    subst (λ q. is_accepted INFINITY q ≡ true) (sym is)
    ((verdict_agrees INFINITY (read_range INFINITY t).places (read_range INFINITY t).tree).0
    (no_offence (verdict INFINITY (read_range INFINITY t).places (read_range INFINITY t).tree) none))
  where
    no_offence : (o : Option Offence) → is_none (offence_refusal o) ≡ true → o ≡ None
    no_offence None h = refl
    no_offence (Some (NotMonotone p)) h = absurd (true≢false (sym h))
    no_offence (Some (NotNatural p)) h = absurd (true≢false (sym h))
    no_offence (Some (BadDivisor p)) h = absurd (true≢false (sym h))
    no_offence (Some (TooWide p)) h = absurd (true≢false (sym h))

pub no_target : (t : Term) (b : Bool) → member_in t ≡ None → (is_place t && b) ≡ false
no_target t b e = ap (λ p. p && b) (place_member t ∙ ap is_some e)

pub no_range : (t : Term) (b : Bool) → b ≡ false → (is_place t && b) ≡ false
no_range t b e = ap (λ p. is_place t && p) e ∙ by (is_place t) where
  by : (p : Bool) → (p && false) ≡ false
  by true = refl
  by false = refl

pub post_test : (t : Term) (m : Member) (b : Bool) → member_in t ≡ Some m → b ≡ true → (is_place t && b) ≡ true
post_test t m b e h = ap (λ p. p && b) (place_member t ∙ ap is_some e) ∙ h

pub post_says : (x : PlacedTerm) (t : Term) (m : Member) (r q : Range) → member_in t ≡ Some m → q ≡ r → r ≡ (read_range INFINITY x).tree
    → is_flat_range INFINITY x r ≡ true → Says (λ a. InRange INFINITY INFINITY a t r) (constraint.Post m q)
post_says x t m r q e same is h =
    let both = and_parts (is_none (range_refusal INFINITY INFINITY x)) (is_none_left (params r) && is_plain r) h in
    let plain = and_parts (is_none_left (params r)) (is_plain r) both.1 in
    subst (λ s. Says (λ a. InRange INFINITY INFINITY a t r) (constraint.Post m s)) (sym same) (record {
      safe = λ a small. accepted_fits a r small (flat_accepted x r is h) plain.0 plain.1;
      same = λ a small. (
        (λ i. record { number = i.number; within = i.within; is = member_worth a t m e ∙ i.is; inside = set_singles a r i.number i.within ∙ i.inside }),
        (λ i. record { number = i.number; within = i.within; is = sym (member_worth a t m e) ∙ i.is; inside = sym (set_singles a r i.number i.within) ∙ i.inside }),
      );
    })

-- ---- comparisons

pub no_sides : (s t : Term) → None ≡ sides_in s t → is_flat_comparison INFINITY s t ≡ false
no_sides s t e = by (is_flat_comparison INFINITY s t) e where
  by : (b : Bool) → None ≡ cond b (Some (Span (expr_of s) (expr_of t))) None → b ≡ false
  by true e = absurd (cc (e))
  by false e = refl

pub sides_there : (s t : Term) (r : Range) → Some r ≡ sides_in s t → (is_flat_comparison INFINITY s t ≡ true) × (r ≡ Span (expr_of s) (expr_of t))
sides_there s t r e = by (is_flat_comparison INFINITY s t) e where
  by : (b : Bool) → Some r ≡ cond b (Some (Span (expr_of s) (expr_of t))) None → (b ≡ true) × (r ≡ Span (expr_of s) (expr_of t))
  by true e = (refl, cc)
  by false e = absurd (cc (e))

sides_same : (rel : Relation) (s t : Term) (r : Range) → Some r ≡ sides_in s t → Says (λ a. Holds rel (worth a s) (worth a t)) (constraint.Compare rel r)
sides_same rel s t r e =
    let there = sides_there s t r e in
    let both = and_parts (is_flat INFINITY s && is_flat INFINITY t) (is_narrow (width INFINITY s + width INFINITY t)) there.0 in
    let sides = and_parts (is_flat INFINITY s) (is_flat INFINITY t) both.0 in
    subst (λ q. Says (λ a. Holds rel (worth a s) (worth a t)) (constraint.Compare rel q)) (sym there.1) (record {
      safe = λ a small. (side_fits a s small sides.0, side_fits a t small sides.1);
      same = λ a small. (
        (λ x. subst (λ z. Holds rel z (worth a t)) (value_is a s) (subst (λ z. Holds rel (value_by a (expr_of s)) z) (value_is a t) x)),
        (λ x. subst (λ z. Holds rel z (value_by a (expr_of t))) (sym (value_is a s)) (subst (λ z. Holds rel (worth a s) z) (sym (value_is a t)) x)),
      );
    })

-- a flat side is no product of two variables
no_factors : (t : Term) → is_flat INFINITY t ≡ true → factors t ≡ None
no_factors (Var x) h = refl
no_factors (Int z) h = refl
no_factors (Atom a) h = refl
no_factors (Comp f no_terms) h = refl
no_factors (Comp f (term (Int z) ts)) h = refl
no_factors (Comp f (term (Atom a) ts)) h = refl
no_factors (Comp f (term (Comp g gs) ts)) h = refl
no_factors (Comp f (term (Var x) no_terms)) h = refl
no_factors (Comp f (term (Var x) (term (Int z) ts))) h = refl
no_factors (Comp f (term (Var x) (term (Atom a) ts))) h = refl
no_factors (Comp f (term (Var x) (term (Comp g gs) ts))) h = refl
no_factors (Comp f (term (Var x) (term (Var y) (term u us)))) h = refl
no_factors (Comp f (term (Var x) (term (Var y) no_terms))) h = by (bytes_eq f (codes "*")) refl where
  flat : is_operator f (Var x) (Var y) ≡ true
  flat = (and_parts (is_operator f (Var x) (Var y)) (is_narrow (width INFINITY (Comp f (term (Var x) (term (Var y) no_terms)))))
      ((and_parts (is_flat INFINITY (Var x) && is_flat INFINITY (Var y)) (is_operator f (Var x) (Var y) && is_narrow (width INFINITY (Comp f (term (Var x) (term (Var y) no_terms))))) h).1)).0

  by : (b : Bool) → bytes_eq f (codes "*") ≡ b → cond {A = Option (ℕ × ℕ)} b (Some (x, y)) None ≡ None
  by true e =
      let times : f ≡ codes "*" = (bytes_eq-Decides f (codes "*")).0 e in
      let wrong : is_operator (codes "*") (Var x) (Var y) ≡ true = subst (λ g. is_operator g (Var x) (Var y) ≡ true) times flat in
      absurd (true≢false (sym wrong))
  by false e = refl

no_product : (rel : Relation) (s t : Term) → is_flat INFINITY s ≡ true → is_flat INFINITY t ≡ true → product_form rel s t ≡ None
no_product Equal s t f g = ap (λ o. option_or (with_result o t) (with_result (factors t) s)) (no_factors s f) ∙ ap (λ o. with_result o s) (no_factors t g)
no_product Differ s t f g = refl
no_product Less s t f g = refl
no_product AtMost s t f g = refl
no_product Greater s t f g = refl
no_product AtLeast s t f g = refl

pub sides_say : (rel : Relation) (s t : Term) (r : Range) → Some r ≡ sides_in s t → Says (λ a. HasResult INFINITY (product_form rel s t) × Holds rel (worth a s) (worth a t)) (constraint.Compare rel r)
sides_say rel s t r e =
    let there = sides_there s t r e in
    let both = and_parts (is_flat INFINITY s && is_flat INFINITY t) (is_narrow (width INFINITY s + width INFINITY t)) there.0 in
    let sides = and_parts (is_flat INFINITY s) (is_flat INFINITY t) both.0 in
    let says = sides_same rel s t r e in
    record {
      safe = says.safe;
      same = λ a small. ((λ m. (subst (HasResult INFINITY) (sym (no_product rel s t sides.0 sides.1)) tt, (says.same a small).0 m)), (λ h. (says.same a small).1 h.1));
    }

-- ---- lists

pub different_says : (l : Term) (ms : List Member) (k : Constraint) → Some ms ≡ members_in l → ((a : Assignment) → Meets a k → AreAllDifferent a ms)
    → ((a : Assignment) → AreAllDifferent a ms → Meets a k) → CanCheck k → Says (λ a. AreNumbers INFINITY (worths a l) × AreDifferent (worths a l)) k
different_says l ms k e to back safe = record {
  safe = safe;
  same = λ a small. (
    (λ x. subst (λ zs. AreNumbers INFINITY zs × AreDifferent zs) (sym (members_worths a l ms (sym e))) (to a x)),
    (λ x. back a (subst (λ zs. AreNumbers INFINITY zs × AreDifferent zs) (members_worths a l ms (sym e)) x)),
  );
}

-- the integers are among the members
integers_are_members : (t : Term) → is_list_of is_integer t ≡ true → is_list_of is_place t ≡ true
integers_are_members (Var x) h = absurd (true≢false (sym h))
integers_are_members (Int z) h = absurd (true≢false (sym h))
integers_are_members (Atom a) h = h
integers_are_members (Comp f no_terms) h = absurd (true≢false (sym h))
integers_are_members (Comp f (term x no_terms)) h = absurd (true≢false (sym h))
integers_are_members (Comp f (term x (term t no_terms))) h =
    let both = and_parts (bytes_eq f (codes ".")) (is_integer x && is_list_of is_integer t) h in
    let parts = and_parts (is_integer x) (is_list_of is_integer t) both.1 in
    rw (both.0, one x parts.0, integers_are_members t parts.1) refl
  where
    one : (x : Term) → is_integer x ≡ true → is_place x ≡ true
    one (Var y) h = absurd (true≢false (sym h))
    one (Int z) h = refl
    one (Atom a) h = absurd (true≢false (sym h))
    one (Comp g ts) h = absurd (true≢false (sym h))
integers_are_members (Comp f (term x (term t (term u us)))) h = absurd (true≢false (sym h))

pub no_integers : (t : Term) → members_in t ≡ None → is_list_of is_integer t ≡ false
no_integers t e = by (is_list_of is_integer t) refl where
  by : (b : Bool) → is_list_of is_integer t ≡ b → b ≡ false
  by true f = absurd (true≢false (sym (integers_are_members t f) ∙ members_unlisted t e))
  by false f = refl

and_false : (b : Bool) → (b && false) ≡ false
and_false true = refl
and_false false = refl

-- ---- elements

module _ (i l x : Term) where
  pub no_index : member_in i ≡ None → (is_place i && (is_list_of is_integer l && is_place x)) ≡ false
  no_index e = no_target i (is_list_of is_integer l && is_place x) e

  pub no_value : member_in x ≡ None → (is_place i && (is_list_of is_integer l && is_place x)) ≡ false
  no_value e = no_range i (is_list_of is_integer l && is_place x) (ap (λ b. is_list_of is_integer l && b) (place_member x ∙ ap is_some e) ∙ and_false (is_list_of is_integer l))

  pub no_elements : is_list_of is_integer l ≡ false → (is_place i && (is_list_of is_integer l && is_place x)) ≡ false
  no_elements e = no_range i (is_list_of is_integer l && is_place x) (ap (λ b. b && is_place x) e)

  module _ (index value : Member) (ms : List Member) (e : member_in i ≡ Some index) (f : member_in x ≡ Some value) (g : Some ms ≡ members_in l) (known : list_all is_known ms ≡ true) where
    pub element_test : (is_place i && (is_list_of is_integer l && is_place x)) ≡ true
    element_test = post_test i index (is_list_of is_integer l && is_place x) e (ap (λ b. b && is_place x) (known_listed l ms (sym g) ∙ known) ∙ (place_member x ∙ ap is_some f))

    pub element_says : (k : Constraint) → ((a : Assignment) → Meets a k → HasElement a index ms value) → ((a : Assignment) → HasElement a index ms value → Meets a k) → CanCheck k
        → Says (λ a. IsNumber INFINITY (worth a i) × IsNumber INFINITY (worth a x) × IsElement 1 (worths a l) (worth a i) (worth a x)) k
    element_says k to back safe = record {
      safe = safe;
      same = λ a small.
          let wi = member_worth a i index e in
          let wx = member_worth a x value f in
          let wl = members_worths a l ms (sym g) in (
            (λ y. let h = to a y in (
              subst (IsNumber INFINITY) (sym wi) h.0,
              subst (IsNumber INFINITY) (sym wx) h.1,
              subst (λ z. IsElement 1 (worths a l) (worth a i) z) (sym wx)
                  (subst (λ z. IsElement 1 (worths a l) z (worth_of a value)) (sym wi)
                  (subst (λ zs. IsElement 1 zs (worth_of a index) (worth_of a value)) (sym wl) h.2)),
            )),
            (λ h. back a (
              subst (IsNumber INFINITY) wi h.0,
              subst (IsNumber INFINITY) wx h.1,
              subst (λ z. IsElement 1 (worths_of a ms) (worth_of a index) z) wx
                  (subst (λ z. IsElement 1 (worths_of a ms) z (worth a x)) wi (subst (λ zs. IsElement 1 zs (worth a i) (worth a x)) wl h.2)),
            )),
          );
    }

-- ---- at most so many

module _ (n l v : Term) where
  pub no_most : known_in n ≡ None → (is_integer n && (is_list_of is_place l && is_integer v)) ≡ false
  no_most e = ap (λ b. b && (is_list_of is_place l && is_integer v)) (known_place n ∙ ap is_some e)

  pub no_counted : known_in v ≡ None → (is_integer n && (is_list_of is_place l && is_integer v)) ≡ false
  no_counted e = ap (λ b. is_integer n && (is_list_of is_place l && b)) (known_place v ∙ ap is_some e) ∙ ap (λ b. is_integer n && b) (and_false (is_list_of is_place l)) ∙ and_false (is_integer n)

  pub no_list : members_in l ≡ None → (is_integer n && (is_list_of is_place l && is_integer v)) ≡ false
  no_list e = ap (λ b. is_integer n && (b && is_integer v)) (members_unlisted l e) ∙ and_false (is_integer n)

  module _ (most value : Member) (ms : List Member) (e : known_in n ≡ Some most) (f : known_in v ≡ Some value) (g : Some ms ≡ members_in l) where
    pub atmost_test : (is_integer n && (is_list_of is_place l && is_integer v)) ≡ true
    atmost_test = ap (λ b. b && (is_list_of is_place l && is_integer v)) (known_place n ∙ ap is_some e) ∙ ap (λ b. b && is_integer v) (members_listed l ms (sym g)) ∙ (known_place v ∙ ap is_some f)

    pub atmost_says : (k : Constraint) → ((a : Assignment) → Meets a k → HasAtMost a most ms value) → ((a : Assignment) → HasAtMost a most ms value → Meets a k) → CanCheck k
        → Says (λ a. AreNumbers INFINITY (worths a l) × (pos (occurrences (worths a l) (worth a v)) ≤ℤ worth a n)) k
    atmost_says k to back safe = record {
      safe = safe;
      same = λ a small.
          let wn = member_worth a n most (known_member n most e) in
          let wv = member_worth a v value (known_member v value f) in
          let wl = members_worths a l ms (sym g) in (
            (λ y. let h = to a y in (
              subst (AreNumbers INFINITY) (sym wl) h.0,
              subst (λ z. pos (occurrences (worths a l) (worth a v)) ≤ℤ z) (sym wn)
                  (subst (λ z. pos (occurrences (worths a l) z) ≤ℤ worth_of a most) (sym wv)
                  (subst (λ zs. pos (occurrences zs (worth_of a value)) ≤ℤ worth_of a most) (sym wl) h.1)),
            )),
            (λ h. back a (
              subst (AreNumbers INFINITY) wl h.0,
              subst (λ z. pos (occurrences (worths_of a ms) (worth_of a value)) ≤ℤ z) wn
                  (subst (λ z. pos (occurrences (worths_of a ms) z) ≤ℤ worth a n) wv (subst (λ zs. pos (occurrences zs (worth a v)) ≤ℤ worth a n) wl h.1)),
            )),
          );
    }

-- a list that isn't one of integers
pub unknown_element : (i l x : Term) → is_list_of is_integer l ≡ false → (is_place i && (is_list_of is_integer l && is_place x)) ≡ false
unknown_element i l x e = ap (λ b. is_place i && (b && is_place x)) e ∙ and_false (is_place i)
