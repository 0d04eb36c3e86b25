-- What a flat constraint becomes, as it is seen.
use Rattle.std.proofs.Common.{◌≡◌, ℕ, ◌<◌, ◌≤◌, true, false, cond, ℤ, pos, List, [], ◌∷◌, Option, refl, ap, sym, ◌∙◌, subst, inl, inr, arith, Ok}
use Rattle.std.proofs.lemmas.Bool.{cases_Bool, true≢false}
use Rattle.fd_model.specs.declared.kinds.ConstraintKind.{ConstraintKind}
use Rattle.fd_model.specs.declared.kinds.ConstraintKind.TheVariants.{Compare, AllDifferent, Element, Atmost, And, Or, Not, Reified}
use Rattle.fd_language.specs.Term.{Term, Terms, Var, Int, Atom, Comp, Substitution, apply, apply_all, no_terms, term}
use Rattle.fd_language.specs.Family.{has}
use Rattle.fd_language.specs.Variables.{variables_of, variables_of_all}
use Rattle.fd_language.specs.Variables.{TermBelow, TermsBelow}
use Rattle.fd_model.specs.Goal.{Goal, Constrain, Program, Branch}
use Rattle.fd_model.specs.Children.{Gives as GivesBranches, offer, by_constraint}
use Rattle.fd_model.specs.ConstraintExpansion.{arguments, expand}
use Rattle.fd_model.specs.Satisfaction.{Assignment, worth, worths, TellsTerm, Satisfies}
use Rattle.fd_model.specs.FlatConstraints.{is_flat_constraint, SeesNumbers}
use Rattle.fd_model.specs.FlatQueries.{IsFlatGoal}
use Rattle.fd_language.proofs.Lemmas.{in_left, in_right}
use Rattle.fd_model.proofs.FlatExpansions.{flat_expands, seen_satisfies}
use Rattle.fd_model.proofs.GoalRows.{Rewritten, with_ranges, rewritten, numbers, IsPlain}
use Rattle.fd_model.proofs.ModelSubstitutions.{first_member}
use Rattle.fd_model.proofs.SeenTerms.{all_below_has, all_wider, all_plain_below, all_plain_has}
use Rattle.fd_model.proofs.ExactRows.{given_or_added, each_equated, following, row_into, row_out}
use Rattle.fd_model.proofs.FlatBranches.{IsGoalRow}
use Rattle.fd_model.proofs.ComparisonRows.{worth_same}

-- a substitution on the variables xs alone
module _ (xs : List ℕ) (look : Substitution) where
  unfoldable only : Substitution
  only x = cond (has xs x) (look x) (Var x)

  only_there : (x : ℕ) → has xs x ≡ true → only x ≡ look x
  unfolding only
  only_there x h = rw h refl

  only_other : (x : ℕ) → has xs x ≡ false → only x ≡ Var x
  unfolding only
  only_other x h = rw h refl

  mutual
    only_applied : (t : Term) → ((x : ℕ) → has (variables_of t) x ≡ true → has xs x ≡ true) → apply only t ≡ apply look t
    only_applied (Var x) h = only_there x (h x (first_member x []))
    only_applied (Int z) h = refl
    only_applied (Atom a) h = refl
    only_applied (Comp f ts) h = ap (Comp f) (all_only ts h)

    all_only : (ts : Terms) → ((x : ℕ) → has (variables_of_all ts) x ≡ true → has xs x ≡ true) → apply_all only ts ≡ apply_all look ts
    all_only no_terms h = refl
    all_only (term t ts) h = let a = only_applied t (λ x i. h x (in_left (variables_of t) (variables_of_all ts) x i)) in
        let b = all_only ts (λ x i. h x (in_right (variables_of t) (variables_of_all ts) x i)) in cc

  module _ (M : ℕ) (plain : IsPlain M xs look) where
    only_sees : SeesNumbers M only
    only_sees x = elim (cases_Bool (has xs x)) [
      | inl h ↦ elim (plain x h) [ inl e ↦ inl (x, only_there x h ∙ e) | inr e ↦ inr (e.0, e.1, only_there x h ∙ e.2) ]
      | inr h ↦ inl (x, only_other x h)
    ]

    only_worth : (a : Assignment) → ((x : ℕ) → has xs x ≡ true → apply (numbers a) (look x) ≡ Int (pos (a x))) → (x : ℕ) → worth a (only x) ≡ pos (a x)
    only_worth a same x = elim (cases_Bool (has xs x)) [
      | inl h ↦ elim (plain x h) [
        | inl e ↦ ap (worth a) (only_there x h ∙ e)
        | inr e ↦ ap (worth a) (only_there x h ∙ e.2) ∙ (let i = sym (ap (apply (numbers a)) e.2) ∙ same x h in let j : pos e.0 ≡ pos (a x) = cc in j)
      ]
      | inr h ↦ ap (worth a) (only_other x h)
    ]

-- a constraint says the same of assignments that have the same values for its variables
module _ (n : ℕ) (a e : Assignment) (same : (v : ℕ) → v < n → e v ≡ a v) where
  worths_same : (t : Term) → TermBelow n t → worths e t ≡ worths a t
  worths_same (Comp f (term s (term t no_terms))) h = let i = worth_same n a e same s h.0 in let j = worths_same t h.1.0 in cc
  worths_same _ h = refl

  tells_same : (k : Term) (z : ℤ) → TermBelow n k → TellsTerm a k z → TellsTerm e k z
  tells_same (Comp f (term s (term t no_terms))) z h g = rw (worth_same n a e same s h.0, worth_same n a e same t h.1.0) g
  tells_same _ z h g = g

  pub satisfies_same : (M : ℕ) (kind : ConstraintKind) (ts : Terms) → TermsBelow n ts → Satisfies M kind ts a → Satisfies M kind ts e
  satisfies_same M (Compare r) (term t (term u no_terms)) h s = rw (worth_same n a e same t h.0, worth_same n a e same u h.1.0) s
  satisfies_same M AllDifferent (term l no_terms) h s = rw (worths_same l h.0) s
  satisfies_same M Element (term i (term l (term v no_terms))) h s = rw (worth_same n a e same i h.0, worths_same l h.1.0, worth_same n a e same v h.1.1.0) s
  satisfies_same M Atmost (term m (term l (term v no_terms))) h s = rw (worth_same n a e same m h.0, worths_same l h.1.0, worth_same n a e same v h.1.1.0) s
  satisfies_same M And (term x (term y (term z no_terms))) h s = rw (worth_same n a e same x h.0, worth_same n a e same y h.1.0, worth_same n a e same z h.1.1.0) s
  satisfies_same M Or (term x (term y (term z no_terms))) h s = rw (worth_same n a e same x h.0, worth_same n a e same y h.1.0, worth_same n a e same z h.1.1.0) s
  satisfies_same M Not (term x (term y no_terms)) h s = rw (worth_same n a e same x h.0, worth_same n a e same y h.1.0) s
  satisfies_same M Reified (term b (term k no_terms)) h s = rw (worth_same n a e same b h.0) (tells_same k (worth a b) h.1.0 s)
  satisfies_same _ _ _ h s = s

-- without arguments no constraint is flat
none_flat : (M N : ℕ) (kind : ConstraintKind) → is_flat_constraint M N kind no_terms ≡ true → ⊥
none_flat M N (Compare r) h = true≢false (sym h)
none_flat M N AllDifferent h = true≢false (sym h)
none_flat M N Element h = true≢false (sym h)
none_flat M N Atmost h = true≢false (sym h)
none_flat M N And h = true≢false (sym h)
none_flat M N Or h = true≢false (sym h)
none_flat M N Not h = true≢false (sym h)
none_flat M N Reified h = true≢false (sym h)

module _ (M N m : ℕ) (positive : 0 < N) (within : N ≤ M) (prog : Program) (vs : List ℕ) (nv : ℕ) (every : (x : ℕ) → x < nv → has vs x ≡ true) (b : Branch)
    (kind : ConstraintKind) (rest : List Goal) (look : Substitution) (sets : ℕ → Option (List ℕ))
    (low : nv ≤ b.fresh) (plain : IsPlain N vs look) where
  abbrev IsRowOf : Term → Type 0
  IsRowOf t = (w : Rewritten) × (offer M N m prog look sets b (Constrain kind t) rest ≡ GivesBranches (with_ranges b rest w ∷ []))
      × IsGoalRow M N b.fresh vs look (λ a. Satisfies N kind (arguments t) a) w

  -- numbers up to N are numbers of the universe
  wider : SeesNumbers M (only vs look)
  wider x = elim (only_sees vs look N plain x) [ inl h ↦ inl h | inr h ↦ inr (h.0, omega (arith, h.1), h.2) ]

  comp_row : (f : List ℕ) (ts : Terms) → IsFlatGoal M N (Constrain kind (Comp f ts)) → TermsBelow nv ts → IsRowOf (Comp f ts)
  comp_row f ts flat below =
      let listed : (x : ℕ) → has (variables_of_all ts) x ≡ true → has vs x ≡ true = λ x i. every x (all_below_has nv ts x below i) in
      let own : IsPlain N (variables_of_all ts) look = λ x i. plain x (listed x i) in
      let higher : TermsBelow b.fresh (apply_all look ts) = all_plain_below N b.fresh look ts (all_wider nv b.fresh low ts below) own in
      let here : apply_all (only vs look) ts ≡ apply_all look ts = all_only vs look ts listed in
      let r = flat_expands M N (only vs look) kind ts b.fresh (omega arith) within wider flat.0 flat.1 in
      let e : expand M kind (apply_all look ts) b.fresh ≡ Ok r.0 = subst (λ us. expand M kind us b.fresh ≡ Ok r.0) here r.1 in
      let follows = following M kind (apply_all look ts) b.fresh r.0 higher e in
      let same : (a : Assignment) → ((y : ℕ) → has vs y ≡ true → apply (numbers a) (look y) ≡ Int (pos (a y)))
      → (Satisfies N kind (apply_all look ts) a → Satisfies N kind ts a) × (Satisfies N kind ts a → Satisfies N kind (apply_all look ts) a) =
      λ a g. subst (λ us. (Satisfies N kind us a → Satisfies N kind ts a) × (Satisfies N kind ts a → Satisfies N kind us a)) here
      (seen_satisfies M N (only vs look) kind ts a (only_sees vs look N plain) (only_worth vs look N plain a g) flat.0) in (
        rewritten b.fresh r.0,
        ap (by_constraint b rest) e,
        record {
          fresh = follows.fresh;
          below = follows.below;
          kinds = λ x i. elim (given_or_added M kind (apply_all look ts) b.fresh r.0 higher e x i) [ inl k ↦ inl (listed x (all_plain_has N b.fresh look ts x own k)) | inr k ↦ inr k ];
          equated = each_equated M kind (apply_all look ts) b.fresh r.0 higher e;
          added = follows.added;
          settles = follows.settles;
          into = λ a bound g h. row_into M kind (apply_all look ts) b.fresh r.0 higher e N positive within a bound ((same a g).1 h);
          out = λ c g f. (same c g).0 (row_out M kind (apply_all look ts) b.fresh r.0 higher e N positive within c f);
        },
      )

  pub constrain_row : (t : Term) → IsFlatGoal M N (Constrain kind t) → TermBelow nv t → IsRowOf t
  constrain_row (Comp f ts) flat below = comp_row f ts flat below
  constrain_row _ flat below = absurd (none_flat M N kind flat.0)
