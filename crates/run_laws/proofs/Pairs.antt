-- Pairs of branches that differ in the names of variables which their equations make equal.
use Rattle.std.proofs.Common.{◌≡◌, ℕ, Bool, true, false, cond, ◌==◌, List, [], ◌∷◌, ◌++◌, Option, Some, None, refl, ap, sym, ◌∙◌, subst, inl, inr, ◌⊎◌}
use Rattle.std.proofs.Common.{eqb-true, eq-eqb}
use Rattle.std.proofs.lemmas.Bool.{or_cases, or_left, or_right, true≢false}
use Rattle.fd_language.specs.Term.{Term, Var, Substitution, apply}
use Rattle.fd_language.specs.Unifier.{Equation, IsMostGeneral, Unifies}
use Rattle.fd_language.specs.Family.{Family, has}
use Rattle.fd_language.specs.Range.{Indexical}
use Rattle.fd_language.specs.Monotonicity.{IsMonotone}
use Rattle.fd_model.specs.ClosedFamilies.{AllPosted, constrained}
use Rattle.fd_model.specs.BranchViews.{IsConsistent, IsView, set_at, is_variable}
use Rattle.fd_model.specs.Branches.{with_goals, with_equations}
use Rattle.fd_model.specs.Goal.{Goal, Branch}
use Rattle.fd_model.specs.Models.{IsModel}
use Rattle.fd_model.proofs.Lemmas.{closed_either, consistent_from, has_view, is_variable_true, join_both, split_both}
use Rattle.run_laws.specs.AnyUnifiers.{IsAnyView}
use Rattle.run_laws.proofs.SamePosted.{AreEqual, AreRenamed, still_renamed, renamed_both, monotone_there, target, target_is, source, source_is, model_there}
use Rattle.run_laws.proofs.SamePosted.{model_back, greatest_same}

pub record ArePair (b c : Branch) : Type 0 where
  pub goals : c.goals ≡ b.goals
  pub fresh : c.fresh ≡ b.fresh
  pub there : (u : Substitution) → Unifies u b.equations → Unifies u c.equations
  pub back : (u : Substitution) → Unifies u c.equations → Unifies u b.equations
  pub posted : AreRenamed b.equations b.posted c.posted

abbrev pub AllPairs : List Branch → List Branch → Type 0
AllPairs [] [] = Unit {0}
AllPairs [] (c ∷ cs) = ⊥
AllPairs (b ∷ bs) [] = ⊥
AllPairs (b ∷ bs) (c ∷ cs) = ArePair b c × AllPairs bs cs

-- ---- what is added to both

module _ (b c : Branch) (p : ArePair b c) where
  pub pair_goals : (gs : List Goal) → ArePair (with_goals b gs) (with_goals c gs)
  pair_goals gs = record { goals = refl; fresh = p.fresh; there = p.there; back = p.back; posted = p.posted }

  module _ (es ds : List Equation) (f : (u : Substitution) → Unifies u b.equations → Unifies u es → Unifies u ds) (g : (u : Substitution) → Unifies u b.equations → Unifies u ds → Unifies u es) where
    more_there : (u : Substitution) → Unifies u (es ++ b.equations) → Unifies u (ds ++ c.equations)
    more_there u h = let k = split_both u es b.equations h in join_both u ds c.equations (f u k.1 k.0) (p.there u k.1)

    more_back : (u : Substitution) → Unifies u (ds ++ c.equations) → Unifies u (es ++ b.equations)
    more_back u h = let k = split_both u ds c.equations h in let own = p.back u k.1 in join_both u es b.equations (g u own k.0) own

    still : AreRenamed (es ++ b.equations) b.posted c.posted
    still = still_renamed b.equations (es ++ b.equations) (λ u h. (split_both u es b.equations h).1) b.posted c.posted p.posted

    pub pair_equations : (gs : List Goal) (n : ℕ) → ArePair (with_equations b gs es n) (with_equations c gs ds n)
    pair_equations gs n = record { goals = refl; fresh = refl; there = more_there; back = more_back; posted = still }

    pub pair_ranges : (gs : List Goal) (n : ℕ) (ps qs : List Indexical) → AreRenamed (es ++ b.equations) ps qs
        → ArePair (record { goals = gs; equations = es ++ b.equations; posted = ps ++ b.posted; fresh = n }) (record { goals = gs; equations = ds ++ c.equations; posted = qs ++ c.posted; fresh = n })
    pair_ranges gs n ps qs k = record { goals = refl; fresh = refl; there = more_there; back = more_back; posted = renamed_both (es ++ b.equations) b.posted c.posted ps qs k still }

-- ---- views and models

-- a most general unifier of the one is one of the other
general_by : (es ds : List Equation) (s : Substitution) → ((u : Substitution) → Unifies u es → Unifies u ds)
    → ((u : Substitution) → Unifies u ds → Unifies u es) → IsMostGeneral es s → IsMostGeneral ds s
general_by es ds s f g m = record { unifies = f s m.unifies; general = λ u x h. m.general u x (g u h) }

model_by : (M N : ℕ) (es ds : List Equation) (ps : List Indexical) (S : Family) → ((u : Substitution) → Unifies u es → Unifies u ds) → ((u : Substitution) → Unifies u ds → Unifies u es)
    → IsModel M N es ps S → IsModel M N ds ps S
model_by M N es ds ps S f g m = record { unifier = m.unifier; general = general_by es ds m.unifier f g m.general; closed = m.closed; full = m.full }

module _ (M N : ℕ) (es : List Equation) (ps : List Indexical) (s : Substitution) (D : Family) (v : IsAnyView M N es ps s D) where
  pub any_most : (S : Family) → IsModel M N es ps S → (x n : ℕ) → has (S x) n ≡ true → has (D x) n ≡ true
  any_most S m x n h = ((v.contains S (closed_either M N es s m.unifier ps S v.general m.general m.closed)).at x).each n h

  pub any_model : IsConsistent M N es ps → IsModel M N es ps D
  any_model c = record {
    unifier = s;
    general = v.general;
    closed = v.closed;
    full = λ x k. (let f = c.some x k in
        (f.0, ((v.contains f.1.family (closed_either M N es s f.1.unifier ps f.1.family v.general f.1.general f.1.closed)).at x).each f.0 f.1.member));
  }

pub any_view : (M N : ℕ) (es : List Equation) (ps : List Indexical) (s : Substitution) (D : Family) → IsView M N es ps s D → IsAnyView M N es ps s D
any_view M N es ps s D v = record { general = v.general; closed = v.closed; contains = v.contains }

module _ (M N : ℕ) (b c : Branch) (p : ArePair b c) where
  pub consistent_there : AllPosted (λ q. IsMonotone M q.range) b.posted → IsConsistent M N b.equations b.posted → IsConsistent M N c.equations c.posted
  consistent_there mono k =
      let v = has_view M N b.equations b.posted mono k in
      let m = any_model M N b.equations b.posted v.0 v.1 (any_view M N b.equations b.posted v.0 v.1 v.2) k in
      consistent_from M N c.equations c.posted _ (model_by M N b.equations c.equations c.posted _ p.there p.back (model_there b.equations M N b.posted c.posted p.posted v.1 m))

  pub consistent_back : AllPosted (λ q. IsMonotone M q.range) b.posted → IsConsistent M N c.equations c.posted → IsConsistent M N b.equations b.posted
  consistent_back mono k =
      let v = has_view M N c.equations c.posted (monotone_there M b.equations b.posted c.posted p.posted mono) k in
      let m = any_model M N c.equations c.posted v.0 v.1 (any_view M N c.equations c.posted v.0 v.1 v.2) k in
      consistent_from M N b.equations b.posted _ (model_back b.equations M N b.posted c.posted p.posted v.1 (model_by M N c.equations b.equations c.posted v.1 p.back p.there m))

-- ---- the sets of open variables

not_var : (t : Term) (x : ℕ) → is_variable t x ≡ false → t ≡ Var x → ⊥
not_var t x q e = true≢false (sym (ap (λ w. is_variable w x) e ∙ eq-eqb x x refl) ∙ q)

abbrev IsSet : Substitution → Family → List ℕ → ℕ → Option (List ℕ) → Type 0
IsSet s D ws y o = ((v : ℕ) × (has ws v ≡ true) × (s v ≡ Var y) × (o ≡ Some (D v))) ⊎ ((o ≡ None) × ((v : ℕ) → has ws v ≡ true → s v ≡ Var y → ⊥))

set_is : (s : Substitution) (D : Family) (ws : List ℕ) (y : ℕ) → IsSet s D ws y (set_at s D ws y)
set_is s D [] y = inr (refl, λ v h e. true≢false (sym h))
set_is s D (w ∷ ws) y = by_test (is_variable (s w) y) refl (set_is s D ws y)
  where
    by_test : (b : Bool) → is_variable (s w) y ≡ b → IsSet s D ws y (set_at s D ws y) → IsSet s D (w ∷ ws) y (cond b (Some (D w)) (set_at s D ws y))
    by_test true e later = inl (w, or_left (w == w) (has ws w) (eq-eqb w w refl), is_variable_true (s w) y e, refl)
    by_test false e (inl k) = inl (k.0, or_right (w == k.0) (has ws k.0) k.1, k.2, k.3)
    by_test false e (inr k) = inr (
      k.0,
      λ v h i. elim (or_cases (w == v) (has ws v) h) [
        | inl g ↦ not_var (s w) y e (subst (λ x. s x ≡ Var y) (sym (eqb-true w v g)) i)
        | inr g ↦ k.1 v g i
      ],
    )

module _ (M N : ℕ) (b c : Branch) (p : ArePair b c) (s u : Substitution) (D E : Family) (v : IsAnyView M N b.equations b.posted s D) (w : IsAnyView M N c.equations c.posted u E)
    (k : IsConsistent M N b.equations b.posted) (l : IsConsistent M N c.equations c.posted) where
  pub general_here : IsMostGeneral b.equations u
  general_here = general_by c.equations b.equations u p.back p.there w.general

  same_sets : (x y : ℕ) → has (constrained b.posted) x ≡ true → has (constrained c.posted) y ≡ true → AreEqual b.equations x y → D x ≡ E y
  same_sets = greatest_same b.equations M N b.posted c.posted p.posted D E (any_model M N b.equations b.posted s D v k)
      (model_by M N c.equations b.equations c.posted E p.back p.there (any_model M N c.equations c.posted u E w l)) (any_most M N b.equations b.posted s D v)
      (λ S m. any_most M N c.equations c.posted u E w S (model_by M N b.equations c.equations c.posted S p.there p.back m))

  -- an open variable has the same set in both
  pub match : (y z : ℕ) → s y ≡ Var y → u y ≡ Var z → s z ≡ Var y → set_at u E (constrained c.posted) z ≡ set_at s D (constrained b.posted) y
  match y z e i j = by_sets (set_at s D (constrained b.posted) y) (set_at u E (constrained c.posted) z) (set_is s D (constrained b.posted) y) (set_is u E (constrained c.posted) z)
    where
      to_s : (x : ℕ) → u x ≡ Var z → s x ≡ Var y
      to_s x a = sym (general_here.general s x v.general.unifies) ∙ ap (apply s) a ∙ j

      to_u : (x : ℕ) → s x ≡ Var y → u x ≡ Var z
      to_u x a = sym (v.general.general u x general_here.unifies) ∙ ap (apply u) a ∙ i

      by_sets : (o r : Option (List ℕ)) → IsSet s D (constrained b.posted) y o → IsSet u E (constrained c.posted) z r → r ≡ o
      by_sets o r (inl f) (inl g) =
          g.3 ∙ ap Some (sym (same_sets f.0 g.0 f.1 g.1
          (λ a q. sym (v.general.general a f.0 q) ∙ ap (apply a) (f.2 ∙ sym (to_s g.0 g.2)) ∙ v.general.general a g.0 q))) ∙ sym f.3
      by_sets o r (inl f) (inr g) = absurd (
          let t = target_is b.equations b.posted c.posted p.posted f.0 f.1 in
          g.1 (target b.equations b.posted c.posted p.posted f.0) t.0 (sym (t.1 u general_here.unifies) ∙ to_u f.0 f.2))
      by_sets o r (inr f) (inl g) = absurd (
          let t = source_is b.equations b.posted c.posted p.posted g.0 g.1 in
          f.1 (source b.equations b.posted c.posted p.posted g.0) t.0 (t.1 s v.general.unifies ∙ to_s g.0 g.2))
      by_sets o r (inr f) (inr g) = g.0 ∙ sym f.0
