-- What the rows of constraints owe to ways and to flat queries.
use Rattle.std.proofs.Common.{◌≡◌, ℕ, ◌<◌, ◌≤◌, Bool, true, false, not, ◌||◌, ◌==◌, nat_lt, ℤ, pos, List, [], ◌∷◌, refl, ap, sym, inl, inr, ◌⊎◌, arith}
use Rattle.std.proofs.Common.{eqb-true, Ok}
use Rattle.std.proofs.lemmas.Bool.{or_cases, cases_Bool, true≢false}
use Rattle.fd_model.specs.declared.kinds.ConstraintKind.{ConstraintKind}
use Rattle.fd_language.specs.Term.{Terms, Var, Int}
use Rattle.fd_language.specs.Unifier.{Unifies}
use Rattle.fd_language.specs.Family.{has}
use Rattle.fd_model.specs.ClosedFamilies.{constrained}
use Rattle.fd_language.specs.Variables.{variables_of_all}
use Rattle.fd_language.specs.Variables.{TermsBelow}
use Rattle.fd_model.specs.LinearRows.{Expansion}
use Rattle.fd_model.specs.ConstraintExpansion.{expand, equations}
use Rattle.fd_model.specs.Satisfaction.{Assignment, Satisfies}
use Rattle.fd_model.specs.ConstraintLaws.{AllEquated, AllFresh, IsScoped}
use Rattle.fd_language.specs.Lists.{Each}
use Rattle.fd_model.specs.Answers.{Somewhere}
use Rattle.fd_model.specs.Ways.{is_equated, added}
use Rattle.fd_language.proofs.Lemmas.{has-filter, has-filter_back}
use Rattle.fd_model.proofs.OneValues.{IsOld}
use Rattle.fd_model.proofs.SplitValues.{expand_one}
use Rattle.fd_model.proofs.SplitScopes.{scoped_rows}
use Rattle.fd_model.proofs.RewritingLaw.{rewriting}
use Rattle.fd_model.proofs.SeenTerms.{all_below_has}
use Rattle.fd_model.proofs.GoalRows.{Gives, EquationsBelow, FitsRow, IsFollowing, numbers, rewritten}

from_new : (w n : ℕ) (c : Bool) → not (nat_lt w n || c) ≡ true → n ≤ w
from_new w n c g = grind arith

old_not_new : (w n : ℕ) (c : Bool) → (w < n) ⊎ (c ≡ true) → not (nat_lt w n || c) ≡ true → ⊥
old_not_new w n c (inl l) g = grind arith
old_not_new w n c (inr l) g = grind arith

is_new : (w n : ℕ) (c : Bool) → n ≤ w → c ≡ false → not (nat_lt w n || c) ≡ true
is_new w n c l g = grind arith

module _ (M : ℕ) (kind : ConstraintKind) (ts : Terms) (n : ℕ) (x : Expansion) (below : TermsBelow n ts) (h : expand M kind ts n ≡ Ok x) where
  scoped : IsScoped ts n x
  scoped = scoped_rows M kind ts n x h

  named_below : (v : ℕ) → has (constrained x.ranges) v ≡ true → v < x.fresh
  named_below v e = elim (scoped.named v e) [ inl i ↦ (let l = all_below_has n ts v below i in let g = scoped.grows in omega arith) | inr l ↦ l.1 ]

  is_added : (v : ℕ) → has (added n x) v ≡ true → (n ≤ v) × (has (constrained x.ranges) v ≡ true)
  is_added v e =
      let k = has-filter_back (λ w. not (nat_lt w n || is_equated x.equated w)) (constrained x.ranges) v e in
      (from_new v n (is_equated x.equated v) k.1, k.0)

  not_added : (v : ℕ) → IsOld n x.equated v → has (added n x) v ≡ false
  not_added v old = elim (cases_Bool (has (added n x) v)) [
    | inl e ↦ absurd (old_not_new v n (is_equated x.equated v) old (has-filter_back (λ w. not (nat_lt w n || is_equated x.equated w)) (constrained x.ranges) v e).1)
    | inr e ↦ e
  ]

  pub given_or_added : (v : ℕ) → has (constrained x.ranges) v ≡ true → (has (variables_of_all ts) v ≡ true) ⊎ ((has (added n x) v ≡ true) ⊎ Somewhere (Gives v) (equations x.equated))
  given_or_added v e = elim (scoped.named v e) [
    | inl i ↦ inl i
    | inr l ↦ inr (elim (cases_Bool (is_equated x.equated v)) [
      | inl c ↦ inr (given x.equated v c)
      | inr c ↦ inl (has-filter (λ w. not (nat_lt w n || is_equated x.equated w)) (constrained x.ranges) v e
          (is_new v n (is_equated x.equated v) l.0 c))
    ])
  ] where
    given : (es : List (ℕ × ℤ)) (v : ℕ) → is_equated es v ≡ true → Somewhere (Gives v) (equations es)
    given [] v c = absurd (true≢false (sym c))
    given (e ∷ es) v c = elim (or_cases (e.0 == v) (is_equated es v) c) [ inl k ↦ inl (ap Var (eqb-true e.0 v k), (e.1, refl)) | inr k ↦ inr (given es v k) ]

  pub each_equated : Each (λ e. (v : ℕ) × Gives v e × (n ≤ v) × (has (constrained x.ranges) v ≡ true)) (equations x.equated)
  each_equated = each_fresh x.equated scoped.equated where
    each_fresh : (es : List (ℕ × ℤ)) → AllFresh n x.fresh x.ranges es → Each (λ e. (v : ℕ) × Gives v e × (n ≤ v) × (has (constrained x.ranges) v ≡ true)) (equations es)
    each_fresh [] f = tt
    each_fresh (e ∷ es) f = ((e.0, (refl, (e.1, refl)), f.0.0, f.0.2), each_fresh es f.1)

  equations_below : (es : List (ℕ × ℤ)) → AllFresh n x.fresh x.ranges es → EquationsBelow x.fresh (equations es)
  equations_below [] f = tt
  equations_below (e ∷ es) f = ((f.0.1, tt), equations_below es f.1)

  -- what is added follows the other variables
  pub following : IsFollowing M n (rewritten n x)
  following = record {
    fresh = scoped.grows;
    below = named_below;
    equations = equations_below x.equated scoped.equated;
    added = is_added;
    settles = λ S family closed full others v e. expand_one M n S family kind ts x below h closed full (λ w i old. others w i (not_added w old)) v e;
  }

  module _ (N : ℕ) (positive : 0 < N) (within : N ≤ M) where
    unified : (b : Assignment) (es : List (ℕ × ℤ)) → AllEquated b es → Unifies (numbers b) (equations es)
    unified b [] g = tt
    unified b (e ∷ es) g = (ap Int g.0, unified b es g.1)

    from_unified : (b : Assignment) (es : List (ℕ × ℤ)) → Unifies (numbers b) (equations es) → AllEquated b es
    from_unified b [] g = tt
    from_unified b (e ∷ es) g = ((let i = g.0 in let j : pos (b e.0) ≡ e.1 = cc in j), from_unified b es g.1)

    -- what satisfies the constraint has an extension that fits
    pub row_into : (a : Assignment) → ((v : ℕ) → a v ≤ N) → Satisfies N kind ts a → (b : Assignment) × FitsRow M N (rewritten n x) b × ((v : ℕ) → v < n → b v ≡ a v)
    row_into a small s =
        let o = (rewriting M N kind ts n x a positive within below small h).one s in
        (o.extension, record { bounded = o.extends.within; equations = unified o.extension x.equated o.fits.equated; posted = o.fits.inside }, o.extends.same)

    -- and what fits satisfies it
    pub row_out : (b : Assignment) → FitsRow M N (rewritten n x) b → Satisfies N kind ts b
    row_out b f =
        (rewriting M N kind ts n x b positive within below f.bounded h).satisfied b (record { within = f.bounded; same = λ v l. refl })
        (record { equated = from_unified b x.equated f.equations; inside = f.posted })
