-- The branches of a flat query before its labelling: each constraint in turn is written as ranges.
use Rattle.std.proofs.Common.{◌≡◌, ℕ, ◌<◌, ◌≤◌, true, false, cond, ltb, pos, IsTrue, List, [], ◌∷◌, ◌++◌, map, Option, Some, ◌⊎◌, refl, ap, sym, ◌∙◌, subst}
use Rattle.std.proofs.Common.{inl, inr, arith, ltb-true, ltb-false, lt-ltb, le-ltb}
use Rattle.std.proofs.lemmas.Bool.{cases_Bool}
use Rattle.fd_language.specs.Term.{Term, Var, Int, Substitution, apply}
use Rattle.fd_language.specs.Unifier.{Equation, Unifies}
use Rattle.fd_language.specs.Family.{Family, has}
use Rattle.fd_language.specs.Range.{Indexical, set_of}
use Rattle.fd_model.specs.ClosedFamilies.{constrained}
use Rattle.fd_model.specs.Goal.{Goal, Program, Branch}
use Rattle.fd_model.specs.BranchViews.{IsConsistent, IsView, set_at, by_set}
use Rattle.fd_model.specs.Children.{look_in}
use Rattle.fd_language.proofs.Lemmas.{has_either, in_left, in_right, join_both, split_both}
use Rattle.fd_model.proofs.GoalRows.{Rewritten, with_ranges, numbers, Gives, FitsRow, IsPlain}
use Rattle.fd_model.specs.Satisfaction.{Assignment, singles}
use Rattle.fd_language.specs.Lists.{Each}
use Rattle.fd_model.specs.Answers.{IsSolution, Somewhere, Settles}
use Rattle.fd_model.proofs.Lists.{each_map, each_both, some_left, some_right}
use Rattle.fd_model.proofs.ModelSubstitutions.{solution_heeds, solution_consistent, given_listed, given_constrained, set_found, through_look, first_member}
use Rattle.fd_model.proofs.Labels.{map_same}
use Rattle.fd_model.proofs.AddedRanges.{posted_both, constrained_either, settles_both, posted_moved}
use Rattle.fd_model.proofs.ListNames.{posted_left, posted_right, named_left, named_right}

-- What a goal of a flat query became, where its variables are seen by look.
pub record IsGoalRow (M N n : ℕ) (vs : List ℕ) (look : Substitution) (Holds : Assignment → Type 0) (w : Rewritten) : Type 0 where
  pub fresh : n ≤ w.fresh
  pub below : (x : ℕ) → has (constrained w.ranges) x ≡ true → x < w.fresh
  pub kinds : (x : ℕ) → has (constrained w.ranges) x ≡ true → (has vs x ≡ true) ⊎ ((has w.added x ≡ true) ⊎ Somewhere (Gives x) w.equations)
  pub equated : Each (λ e. (x : ℕ) × Gives x e × (n ≤ x) × (has (constrained w.ranges) x ≡ true)) w.equations
  pub added : (x : ℕ) → has w.added x ≡ true → (n ≤ x) × (has (constrained w.ranges) x ≡ true)
  pub settles : Settles M w.ranges w.added
  pub into : (a : Assignment) → ((x : ℕ) → a x ≤ N) → ((y : ℕ) → has vs y ≡ true → apply (numbers a) (look y) ≡ Int (pos (a y))) → Holds a
      → (e : Assignment) × FitsRow M N w e × ((x : ℕ) → x < n → e x ≡ a x)
  pub out : (e : Assignment) → ((y : ℕ) → has vs y ≡ true → apply (numbers e) (look y) ≡ Int (pos (e y))) → FitsRow M N w e → Holds e

module _ (M N : ℕ) (within : N ≤ M) (prog : Program) (final : Goal) (vs : List ℕ) (nv : ℕ) (Holds : Assignment → Goal → Type 0) (IsGood : Goal → Type 0)
    (every : (x : ℕ) → x < nv → has vs x ≡ true) (none : (x : ℕ) → has vs x ≡ true → x < nv) where
  abbrev pub IsEquated : List Indexical → Equation → Type 0
  IsEquated ps e = (x : ℕ) × Gives x e × (nv ≤ x) × (has (constrained ps) x ≡ true)

  pub record IsStage (b : Branch) (gs : List Goal) : Type 0 where
    pub new : List ℕ
    pub goals : b.goals ≡ gs ++ final ∷ []
    pub good : Each IsGood gs
    pub consistent : IsConsistent M N b.equations b.posted
    pub equated : Each (IsEquated b.posted) b.equations
    pub low : nv ≤ b.fresh
    pub below : (x : ℕ) → has (constrained b.posted) x ≡ true → x < b.fresh
    pub settles : Settles M b.posted new
    pub inside : (x : ℕ) → has new x ≡ true → has (constrained b.posted) x ≡ true
    pub kinds : (x : ℕ) → has (constrained b.posted) x ≡ true → (has vs x ≡ true) ⊎ ((has new x ≡ true) ⊎ Somewhere (Gives x) b.equations)

  -- the values of vs that the branch and the constraints that are left allow
  abbrev pub Assigned : Branch → List Goal → List ℕ → Type 0
  Assigned b gs ns = (a : Assignment) × IsSolution M N b.equations b.posted vs a × Each (Holds a) gs × (ns ≡ map a vs)

  -- an equation that gives an integer asks nothing of other variables
  equation_kept : (u s : Substitution) (x : ℕ) (e : Equation) → Gives x e → u x ≡ s x → apply s e.left ≡ apply s e.right → apply u e.left ≡ apply u e.right
  equation_kept u s x e g h k =
      ap (apply u) g.0 ∙ h ∙ sym (ap (apply s) g.0) ∙ k ∙ ap (apply s) g.1.1 ∙ sym (ap (apply u) g.1.1)

  pub kept_equations : (ps : List Indexical) (u s : Substitution) → ((x : ℕ) → nv ≤ x → has (constrained ps) x ≡ true → u x ≡ s x) → (es : List Equation)
      → Each (IsEquated ps) es → Unifies s es → Unifies u es
  kept_equations ps u s h [] g k = tt
  kept_equations ps u s h (e ∷ es) g k = (equation_kept u s g.0.0 e g.0.1 (h g.0.0 g.0.2 g.0.3) k.0, kept_equations ps u s h es g.1 k.1)

  -- a substitution that leaves the query's variables as they are
  unfoldable leave : Substitution → Substitution
  leave s x = cond (ltb x nv) (Var x) (s x)

  leave_low : (s : Substitution) (x : ℕ) → x < nv → leave s x ≡ Var x
  unfolding leave
  leave_low s x h = rw (lt-ltb x nv h) refl

  leave_high : (s : Substitution) (x : ℕ) → nv ≤ x → leave s x ≡ s x
  unfolding leave
  leave_high s x h = rw (le-ltb x nv h) refl

  module _ (b : Branch) (gs : List Goal) (stage : IsStage b gs) where
    unifies_leave : (s : Substitution) → Unifies s b.equations → Unifies (leave s) b.equations
    unifies_leave s h = kept_equations b.posted (leave s) s (λ x l c. leave_high s x l) b.equations stage.equated h

    -- a solution as a substitution of all variables
    pub as_numbers : (a : Assignment) → IsSolution M N b.equations b.posted vs a → Unifies (numbers a) b.equations
    as_numbers a l = kept_equations b.posted (numbers a) l.unifier (λ x k c. sym (given_constrained M N within b.equations b.posted vs a l x c)) b.equations stage.equated l.unifies

    module _ (s : Substitution) (D : Family) (v : IsView M N b.equations b.posted s D) where
      plain_term : (y : ℕ) (r : Term) → y < nv → apply (leave s) r ≡ Var y → s y ≡ r → s y ≡ Var y
      plain_term y (Var x) h e f = elim (cases_Bool (ltb x nv)) [
        | inl k ↦ f ∙ sym (leave_low s x (ltb-true x nv k)) ∙ e
        | inr k ↦
            let low : nv ≤ x = ltb-false x nv k in
            let one : s x ≡ Var y = sym (leave_high s x low) ∙ e in
            let two : s x ≡ Var x = sym (ap (apply s) f) ∙ v.general.general s y v.general.unifies ∙ f in
            absurd (let same : Var y ≡ Var x = sym one ∙ two in let eq : y ≡ x = cc in omega arith)
      ]
      plain_term y _ h e f = absurd (cc)

      -- the query's variables are left as they are
      pub plain_unifier : (y : ℕ) → y < nv → s y ≡ Var y
      plain_unifier y h = plain_term y (s y) h (v.general.general (leave s) y (unifies_leave s v.general.unifies) ∙ leave_low s y h) refl

      plain_by : (y : ℕ) (r : Option (List ℕ)) → set_at s D (constrained b.posted) y ≡ r → (by_set r y ≡ Var y) ⊎ ((n : ℕ) × (n ≤ N) × (by_set r y ≡ Int (pos n)))
      plain_by y (Some (n ∷ [])) e =
          let f = set_found s D y (constrained b.posted) (n ∷ []) e in
          inr (n, v.closed.within f.variable n f.listed (subst (λ l. has l n ≡ true) (sym f.set) (first_member n [])), refl)
      plain_by y _ e = inl refl

      pub plain : IsPlain N vs (look_in b s D)
      plain y h =
          let e : look_in b s D y ≡ by_set (set_at s D (constrained b.posted) y) y = ap (apply (λ w. by_set (set_at s D (constrained b.posted) w) w)) (plain_unifier y (none y h)) in
          elim (plain_by y (set_at s D (constrained b.posted) y) refl) [ inl k ↦ inl (e ∙ k) | inr k ↦ inr (k.0, k.1, e ∙ k.2) ]

      same_by : (a : Assignment) (u : Substitution) (y : ℕ) → u y ≡ Int (pos (a y)) → apply u (look_in b s D y) ≡ u y
          → (look_in b s D y ≡ Var y) ⊎ ((n : ℕ) × (n ≤ N) × (look_in b s D y ≡ Int (pos n))) → apply (numbers a) (look_in b s D y) ≡ Int (pos (a y))
      same_by a u y e f (inl h) = ap (apply (numbers a)) h
      same_by a u y e f (inr h) = ap (apply (numbers a)) h.2 ∙ sym (ap (apply u) h.2) ∙ f ∙ e

      -- a solution agrees with what is seen
      pub seen_same : (a : Assignment) → IsSolution M N b.equations b.posted vs a → (y : ℕ) → has vs y ≡ true → apply (numbers a) (look_in b s D y) ≡ Int (pos (a y))
      seen_same a l y h = same_by a l.unifier y (given_listed M N within b.equations b.posted vs a l y h)
          (through_look M N b s D v stage.consistent l.unifier (solution_heeds M N within b.equations b.posted vs a l) y) (plain y h)

  -- one constraint is written as ranges
  module _ (b : Branch) (g : Goal) (gs : List Goal) (stage : IsStage b (g ∷ gs)) (s : Substitution) (D : Family) (v : IsView M N b.equations b.posted s D)
      (w : Rewritten) (row : IsGoalRow M N b.fresh vs (look_in b s D) (λ a. Holds a g) w) where
    abbrev pub child : Branch
    child = with_ranges b (gs ++ final ∷ []) w

    child_equated : Each (IsEquated child.posted) child.equations
    child_equated = each_both (IsEquated child.posted) w.equations b.equations
        (each_map (λ e. (x : ℕ) × Gives x e × (b.fresh ≤ x) × (has (constrained w.ranges) x ≡ true)) (IsEquated child.posted)
        (λ e h. (h.0, h.1, (let l = stage.low in let m = h.2 in omega arith), named_left w.ranges b.posted h.0 h.3)) w.equations row.equated)
        (each_map (IsEquated b.posted) (IsEquated child.posted) (λ e h. (h.0, h.1, h.2, named_right w.ranges b.posted h.0 h.3)) b.equations stage.equated)

    extended : (a : Assignment) → IsSolution M N b.equations b.posted vs a → (e : Assignment) → FitsRow M N w e → ((x : ℕ) → x < b.fresh → e x ≡ a x) → IsSolution M N child.equations child.posted vs e
    extended a l e f same = record {
      bounded = f.bounded;
      unifier = numbers e;
      unifies = join_both (numbers e) w.equations b.equations f.equations
          (kept_equations b.posted (numbers e) (numbers a) (λ x k c. ap (λ n. Int (pos n)) (same x (stage.below x c))) b.equations stage.equated (as_numbers b (g ∷ gs) stage a l));
      given = λ x h. refl;
      posted = posted_both (λ p. IsTrue (has (set_of M (singles e) p.range) (e p.target))) w.ranges b.posted f.posted (posted_moved M a e b.posted (λ x c. same x (stage.below x c)) l.posted);
    }

    less_solution : (e : Assignment) → IsSolution M N child.equations child.posted vs e → IsSolution M N b.equations b.posted vs e
    less_solution e l = record {
      bounded = l.bounded;
      unifier = l.unifier;
      unifies = (split_both l.unifier w.equations b.equations l.unifies).1;
      given = λ x h. l.given x (elim (has_either vs (constrained b.posted) x h)
          [ inl k ↦ in_left vs (constrained child.posted) x k | inr k ↦ in_right vs (constrained child.posted) x (named_right w.ranges b.posted x k) ]);
      posted = posted_right (λ p. IsTrue (has (set_of M (singles e) p.range) (e p.target))) w.ranges b.posted l.posted;
    }

    child_fits : (e : Assignment) → IsSolution M N child.equations child.posted vs e → FitsRow M N w e
    child_fits e l = record {
      bounded = l.bounded;
      equations = (split_both (numbers e) w.equations b.equations
          (kept_equations child.posted (numbers e) l.unifier (λ x k c. sym (given_constrained M N within child.equations child.posted vs e l x c)) child.equations child_equated l.unifies)).0;
      posted = posted_left (λ p. IsTrue (has (set_of M (singles e) p.range) (e p.target))) w.ranges b.posted l.posted;
    }

    no_new : (x : ℕ) → x < b.fresh → has w.added x ≡ false
    no_new x h = elim (cases_Bool (has w.added x)) [ inl k ↦ absurd (let l = (row.added x k).0 in omega arith) | inr k ↦ k ]

    child_settles : Settles M child.posted (w.added ++ stage.new)
    child_settles = settles_both M w.ranges b.posted w.added stage.new row.settles stage.settles (λ x c. no_new x (stage.below x c)) stage.inside

    child_kinds : (x : ℕ) → has (constrained child.posted) x ≡ true → (has vs x ≡ true) ⊎ ((has (w.added ++ stage.new) x ≡ true) ⊎ Somewhere (Gives x) child.equations)
    child_kinds x c = elim (constrained_either w.ranges b.posted x c) [
      | inl k ↦ elim (row.kinds x k) [
        | inl h ↦ inl h
        | inr h ↦ elim h [ inl i ↦ inr (inl (in_left w.added stage.new x i)) | inr i ↦ inr (inr (some_left (Gives x) w.equations b.equations i)) ]
      ]
      | inr k ↦ elim (stage.kinds x k) [
        | inl h ↦ inl h
        | inr h ↦ elim h [ inl i ↦ inr (inl (in_right w.added stage.new x i)) | inr i ↦ inr (inr (some_right (Gives x) w.equations b.equations i)) ]
      ]
    ]

    pub child_stage : IsConsistent M N child.equations child.posted → IsStage child gs
    child_stage c = record {
      new = w.added ++ stage.new;
      goals = refl;
      good = stage.good.1;
      consistent = c;
      equated = child_equated;
      low = (let l = stage.low in let f = row.fresh in omega arith);
      below = λ x h. elim (constrained_either w.ranges b.posted x h) [ inl k ↦ row.below x k | inr k ↦ (let l = stage.below x k in let f = row.fresh in omega arith) ];
      settles = child_settles;
      inside = λ x h. elim (has_either w.added stage.new x h) [ inl k ↦ named_left w.ranges b.posted x (row.added x k).1 | inr k ↦ named_right w.ranges b.posted x (stage.inside x k) ];
      kinds = child_kinds;
    }

    module _ (depends : (h : Goal) (a e : Assignment) → IsGood h → ((y : ℕ) → has vs y ≡ true → a y ≡ e y) → Holds a h → Holds e h) where
      each_holds : (a e : Assignment) (hs : List Goal) → ((y : ℕ) → has vs y ≡ true → a y ≡ e y) → Each IsGood hs → Each (Holds a) hs → Each (Holds e) hs
      each_holds a e [] same i k = tt
      each_holds a e (h ∷ hs) same i k = (depends h a e i.0 same k.0, each_holds a e hs same i.1 k.1)

      pub into_child : (ns : List ℕ) → Assigned b (g ∷ gs) ns → Assigned child gs ns
      into_child ns (a, l, h, e) =
          let f = row.into a l.bounded (seen_same b (g ∷ gs) stage s D v a l) h.0 in
          let same : (y : ℕ) → has vs y ≡ true → a y ≡ f.0 y = λ y i. sym (f.2 y (let k = none y i in let m = stage.low in omega arith)) in
          (f.0, extended a l f.0 f.1 f.2, each_holds a f.0 gs same stage.good.1 h.1, e ∙ map_same a f.0 vs same)

    pub out_child : (ns : List ℕ) → Assigned child gs ns → Assigned b (g ∷ gs) ns
    out_child ns (a, l, h, e) =
        let k = less_solution a l in
        (a, k, (row.out a (seen_same b (g ∷ gs) stage s D v a k) (child_fits a l), h), e)

    pub child_live : (ns : List ℕ) → Assigned child gs ns → IsConsistent M N child.equations child.posted
    child_live ns h = solution_consistent M N within child.equations child.posted vs h.0 h.1
