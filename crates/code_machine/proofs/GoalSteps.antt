-- Goals that are taken.
use Rattle.branch_meaning.specs.RemainingEvents.{oldest}
use Rattle.std.proofs.Common.{◌≡◌, ℕ, zero, suc, ◌+◌, ◌-◌, ◌*◌, ◌<◌, ◌≤◌, IsTrue, List, [], ◌∷◌, ◌++◌, length, drop, length-drop, Option, Some, None, Result}
use Rattle.std.proofs.Common.{Ok, Err, IfOk, OnOk, refl, ap, sym, ◌∙◌, subst, inl, arith}
use Rattle.fd_language.specs.declared.TheConstants.{INFINITY}
use Rattle.fd_model.specs.Goal.{Event}
use Rattle.branch_state.specs.States as branch
use Rattle.branch_state.specs.States.{IsSameBelow, with_pair, without_pairs}
use Rattle.wam_code.specs.declared.instruction.Code.{Code}
use Rattle.wam_code.specs.declared.instruction.Code.TheVariants as step
use Rattle.wam_code.specs.Area.{Area}
use Rattle.wam_code.specs.VerifiedCode.{goes_on}
use Rattle.code_areas.specs.Areas.{Contents, Point}
use Rattle.code_meaning.specs.MachineStates.{Left, resume}
use Rattle.code_safety.specs.declared.instruction_outcomes.Went.{Went}
use Rattle.code_safety.specs.declared.instruction_outcomes.Went.TheVariants.{On, Back}
use Rattle.code_safety.specs.Choices.{point_of}
use Rattle.code_safety.specs.Queries.{StaysInside, EndsIn, KeepsQuery}
use Rattle.code_safety.specs.Safety.{IsSafe, IsSafeThen}
use Rattle.code_safety.specs.RemainingEvents.{Task, Calls, SplitsAt, TestsAt, CutsAt}
use Rattle.code_safety.specs.Work.{work_at, most_work, values_work}
use Rattle.code_goals.specs.declared.labels.ValuesLeft.{ValuesLeft}
use Rattle.code_goals.specs.declared.labels.Labelled.TheVariants.{Took, Tries}
use Rattle.code_goals.specs.declared.labels.Tried.{Tried}
use Rattle.code_goals.specs.declared.goal_outcomes.Next.{Next}
use Rattle.code_goals.specs.declared.goal_outcomes.Next.TheVariants as next
use Rattle.code_goals.specs.GoalOutcomes.{IsSafeNext, LeadsNext, RunsNext, SpendsTo, Takes}
use Rattle.code_goals.specs.Tasks.{task_of}
use Rattle.code_goals.specs.Values.{lefts_of, work_left, BringsMost, with_mark, with_point, IsOpen, IsSafeLabelled, Labels, RunsWent, StaysAt}
use Rattle.code_machine.specs.declared.run.Label.{Label}
use Rattle.code_machine.specs.Instructions.{IsGoal}
use Rattle.code_machine.specs.Labels.{labels_below, lefts_by, labels_work, AreLabels, whole_at}
use Rattle.code_machine.specs.declared.run.Stage.TheVariants.{Going}
use Rattle.code_machine.specs.States.{most, PointsEndIn, IsInside}
use Rattle.code_machine.specs.Steps.{labelled, next_of, next_work, stage_of, stage_next, Spends}
use Rattle.code_safety.proofs.Lemmas.{ends_on}
use Rattle.code_machine.proofs.Labelling.{labels_more, labels_oldest, lefts_long, lefts_more, lefts_oldest, lefts_values, no_newest, values_oldest}
use Rattle.code_machine.proofs.WorkMeasure.{called_most, less_most, next_most, tried_most}

-- A goal goes on to the next place.
pub goal_goes : (i : Code) → IsGoal i → IsTrue (goes_on i)
goal_goes (step.Builtin k) g = refl
goal_goes (step.Constrain k) g = refl
goal_goes (step.Label o) g = refl
goal_goes (step.Best o least) g = refl
goal_goes (step.PostRange r n) g = refl
goal_goes _ g = absurd g

module _ (area : Area) (s : branch.State) (at : ℕ) (c : Contents) (ls : List Label) (own : AreLabels area c.points s.heaps.below ls) where
  -- a call
  pub call_spends : (c' : Contents) (to : ℕ) → IsSafe area s to 0 c' → Calls area s at c s to c' → KeepsQuery area at c to c'
      → work_at area to c' ≤ most_work area (work_at area at c) → c'.points ≡ c.points → Spends area s at c ls s c' ls (next.On to)
  call_spends c' to safe calls query work same = record {
    safe = safe;
    labels = subst (λ ps. AreLabels area ps s.heaps.below ls) (sym same) own;
    runs = λ number prog q task n k es r m. subst (λ ps. RunsNext area (task_of area prog q) s c' (lefts_by ps ls) n k es r (next.On to)) (sym same)
        (calls (task_of area prog q) (lefts_by c.points ls) n k es r task.ready (lefts_long c.points ls) m);
    inside = λ number i. (query number i.0, subst (PointsEndIn area number) (sym same) i.1);
    work = subst (λ ps. work_at area to c' + values_work area ps (lefts_by ps ls) ≤ most area * suc (whole_at area at c ls)) (sym same)
        (called_most area (work_at area to c') (labels_work area c ls) (work_at area at c) work);
  }

  -- a disjunction, or a test with another way: the new choice point has the contents d
  pub either_spends : (s' : branch.State) (c' d : Contents) (to other : ℕ) → IsSafe area s' to 0 c' → SplitsAt area s at c s' to c' other
      → KeepsQuery area at c to c' → KeepsQuery area at c other d → work_at area to c' < work_at area at c → s' ≡ with_pair s
      → c'.points ≡ point_of d other ∷ c.points → Spends area s at c ls s' c' ls (next.On to)
  either_spends s' c' d to other safe splits query left_query work pair same =
      let left : lefts_by (point_of d other ∷ c.points) ls ≡ resume other ∷ lefts_by c.points ls = lefts_more (point_of d other) c.points ls (no_newest area c.points s.heaps.below ls own) in
      record {
        safe = safe;
        labels = subst (λ ps. AreLabels area ps s'.heaps.below ls) (sym same)
            (subst (λ (t : branch.State). AreLabels area (point_of d other ∷ c.points) t.heaps.below ls) (sym pair)
            (labels_more area (point_of d other) c.points s.heaps.now s.heaps.below ls own));
        runs = λ number prog q task n k es r m. subst (λ ps. RunsNext area (task_of area prog q) s' c' (lefts_by ps ls) n k es r (next.On to)) (sym same)
            (subst (λ l. RunsNext area (task_of area prog q) s' c' l n k es r (next.On to)) (sym left)
            (splits (task_of area prog q) (lefts_by c.points ls) n k es r task.ready (lefts_long c.points ls) m));
        inside = λ number i. (query number i.0, subst (PointsEndIn area number) (sym same) (left_query number i.0, i.1));
        work = less_most area (whole_at area to c' ls) (whole_at area at c ls) (
            let v : labels_work area c' ls ≡ labels_work area c ls = ap (λ ps. values_work area ps (lefts_by ps ls)) same ∙ ap (values_work area (point_of d other ∷ c.points)) left in
            omega (arith, v, work));
      }

  -- a test without another way
  pub test_spends : (c' : Contents) (to : ℕ) → IsSafe area s to 0 c' → TestsAt area s at c s to c' → KeepsQuery area at c to c'
      → work_at area to c' < work_at area at c → c'.points ≡ c.points → Spends area s at c ls s c' ls (next.On to)
  test_spends c' to safe tests query work same = record {
    safe = safe;
    labels = subst (λ ps. AreLabels area ps s.heaps.below ls) (sym same) own;
    runs = λ number prog q task n k es r m. subst (λ ps. RunsNext area (task_of area prog q) s c' (lefts_by ps ls) n k es r (next.On to)) (sym same)
        (tests (task_of area prog q) (lefts_by c.points ls) n k es r task.ready (lefts_long c.points ls) m);
    inside = λ number i. (query number i.0, subst (PointsEndIn area number) (sym same) i.1);
    work = subst (λ ps. work_at area to c' + values_work area ps (lefts_by ps ls) ≤ most area * suc (whole_at area at c ls)) (sym same)
        (less_most area (work_at area to c' + labels_work area c ls) (whole_at area at c ls) (omega (arith, work)));
  }

  -- a cut, which drops the newest choice points
  pub cut_spends : (s' : branch.State) (c' : Contents) (to : ℕ) → IsSafe area s' to 0 c' → CutsAt area s at c s' to c' → KeepsQuery area at c to c'
      → work_at area to c' < work_at area at c → s' ≡ without_pairs s (length c.points - length c'.points) → c'.points ≡ oldest (length c'.points) c.points
      → (ls' : List Label) → ls' ≡ labels_below (length c'.points) ls → Spends area s at c ls s' c' ls' (next.On to)
  cut_spends s' c' to safe cuts query work pairs same ls' is =
      let n = length c.points - length c'.points in
      let k = length c'.points in
      let long : k ≡ length c.points - n = ap length same ∙ length-drop n c.points in
      let whole : k + n ≡ length c.points = omega (arith, long) in
      let new = labels_below k ls in
      let lefts : oldest k (lefts_by c.points ls) ≡ lefts_by c'.points new = ap (λ j. drop (j - k) (lefts_by c.points ls)) (lefts_long c.points ls)
      ∙ lefts_oldest area n k c.points s.heaps.below ls whole own ∙ ap (λ ps. lefts_by ps new) (sym same) in
      let fewer : values_work area c'.points (lefts_by c'.points new) ≤ labels_work area c ls =
      subst (λ l. values_work area c'.points l ≤ labels_work area c ls) (lefts_oldest area n k c.points s.heaps.below ls whole own ∙ ap (λ ps. lefts_by ps new) (sym same))
      (subst (λ ps. values_work area ps (drop n (lefts_by c.points ls)) ≤ labels_work area c ls) (sym same) (values_oldest area n c.points (lefts_by c.points ls))) in
      subst (λ l. Spends area s at c ls s' c' l (next.On to)) (sym is) (record {
        safe = safe;
        labels = subst (λ ps. AreLabels area ps s'.heaps.below new) (sym same)
            (subst (λ (t : branch.State). AreLabels area (drop n c.points) t.heaps.below new) (sym pairs)
            (labels_oldest area n k c.points s.heaps.below ls whole own));
        runs = λ number prog q task j answers es r m. subst (λ l. RunsNext area (task_of area prog q) s' c' l j answers es r (next.On to)) lefts
            (cuts (task_of area prog q) (lefts_by c.points ls) j answers es r task.ready (lefts_long c.points ls) m);
        inside = λ number i. (query number i.0, subst (PointsEndIn area number) (sym same) (ends_oldest number n c.points i.1));
        work = less_most area (whole_at area to c' new) (whole_at area at c ls) (omega (arith, work, fewer));
      })
    where
      ends_oldest : (number n : ℕ) (ps : List Point) → PointsEndIn area number ps → PointsEndIn area number (drop n ps)
      ends_oldest number zero ps e = e
      ends_oldest number (suc n) [] e = e
      ends_oldest number (suc n) (p ∷ ps) e = ends_oldest number n ps e.1

  -- the next place is of the same query
  on_inside : StaysInside area at (suc at) → (to : ℕ) → to ≡ suc at → (number : ℕ) → IsInside area number c (Going at) → IsInside area number c (Going to)
  on_inside stays to is number i = (subst (λ k. EndsIn area number k c.returns) (sym is) (ends_on area at (suc at) stays number c.returns i.0), i.1)

  goal_inside : StaysInside area at (suc at) → (x : Next) → LeadsNext at x → (number : ℕ) → IsInside area number c (Going at) → IsInside area number c (stage_next x)
  goal_inside stays (next.On to) leads = on_inside stays to leads
  goal_inside stays next.Back leads = λ number i. i.1
  goal_inside stays (next.Fault f) leads = λ number i. tt
  goal_inside stays (next.Write to) leads = on_inside stays to leads
  goal_inside stays (next.Newline to) leads = on_inside stays to leads

  -- a goal that leaves the areas as they are
  pub goal_spends : StaysInside area at (suc at) → (s' : branch.State) (x : Next) → IsSafeNext area s' c x → Takes area s at c s' x → LeadsNext at x
      → IsSameBelow s s' → Spends area s at c ls s' c ls x
  goal_spends stays s' x safe takes leads below = record {
    safe = safe;
    labels = subst (λ hs. AreLabels area c.points hs ls) (sym below.heaps) own;
    runs = λ number prog q task n k es r m. takes prog q (lefts_by c.points ls) n k es r task.ready.runnable m;
    inside = goal_inside stays x leads;
    work = next_most area at c ls x;
  }

  pub goals_spend : StaysInside area at (suc at) → {E : Type 0} (s' : branch.State) (r : Result Next E) → IfOk r (IsSafeNext area s' c)
      → IfOk r (Takes area s at c s') → IfOk r (LeadsNext at) → OnOk r (IsSameBelow s s') → IfOk r (Spends area s at c ls s' c ls)
  goals_spend stays s' (Ok x) safe takes leads below = goal_spends stays s' x safe takes leads below
  goals_spend stays s' (Err e) safe takes leads below = tt

  -- ---- a labelling

  pub took_spends : StaysInside area at (suc at) → (s' : branch.State) (c' : Contents) (x : Next) → IsSafeLabelled area s' c' (Took x)
      → Labels area s at c s' c' (Took x) → LeadsNext at x → Spends area s at c ls s' c' ls x
  took_spends stays s' c' x safe told leads = record {
    safe = safe;
    labels = subst (λ (a : Contents). AreLabels area a.points s'.heaps.below ls) (sym told.1) (subst (λ (t : branch.State). AreLabels area c.points t.heaps.below ls) (sym told.0) own);
    runs = λ number prog q task n k es r m.
        subst (λ (a : Contents). RunsNext area (task_of area prog q) s' a (lefts_by a.points ls) n k es r x) (sym told.1)
        (subst (λ (t : branch.State). RunsNext area (task_of area prog q) t c (lefts_by c.points ls) n k es r x) (sym told.0)
        (told.2 prog q (lefts_by c.points ls) n k es r task.ready.runnable m));
    inside = λ number i. subst (λ (a : Contents). IsInside area number a (stage_next x)) (sym told.1) (goal_inside stays x leads number i);
    work = subst (λ (a : Contents). next_work area a ls x ≤ most area * suc (whole_at area at c ls)) (sym told.1) (next_most area at c ls x);
  }

  went_next : (t : Task) (s' : branch.State) (c' : Contents) (l : List Left) (n : ℕ) (k : Option ℕ) (es : List Event) (r : ℕ) (w : Went)
      → SpendsTo (RunsWent area t s' c' l w) [] n k es r → RunsNext area t s' c' l n k es r (next_of w)
  went_next t s' c' l n k es r (On to) m = m
  went_next t s' c' l n k es r Back m = m

  went_safe : (s' : branch.State) (c' : Contents) (w : Went) → IsSafeThen area s' c' w → IsSafeNext area s' c' (next_of w)
  went_safe s' c' (On to) safe = safe
  went_safe s' c' Back safe = safe

  -- the labels of the points with the new one
  pub tried_labels : (o : Option ValuesLeft) → ((w : ValuesLeft) → o ≡ Some w → IsOpen area s.heaps.now w)
      → AreLabels area (with_point c at o).points (with_mark s o).heaps.below (labelled (length c.points) o ls)
  tried_labels None opened = own
  tried_labels (Some v) opened = inl (refl, opened v refl, own)

  -- and what is left at them
  pub tried_lefts : (o : Option ValuesLeft) → lefts_by (with_point c at o).points (labelled (length c.points) o ls) ≡ lefts_of at o ++ lefts_by c.points ls
  tried_lefts None = refl
  tried_lefts (Some v) = lefts_values (point_of c at) c.points v ls

  -- The labelling's place is that of its choice point, too.
  pub tried_inside : (o : Option ValuesLeft) (w : Went) → StaysAt at w → (number : ℕ) → IsInside area number c (Going at) → IsInside area number (with_point c at o) (stage_of w)
  tried_inside None (On to) leads number i = subst (λ k. IsInside area number c (Going k)) (sym leads) i
  tried_inside None Back leads number i = i.1
  tried_inside (Some v) (On to) leads number i = (subst (λ k. EndsIn area number k c.returns) (sym leads) i.0, (i.0, i.1))
  tried_inside (Some v) Back leads number i = (i.0, i.1)

  stage_went : (w : Went) → stage_next (next_of w) ≡ stage_of w
  stage_went (On to) = refl
  stage_went Back = refl

  pub tries_spends : (s' : branch.State) (c' : Contents) (t : Tried) → IsSafeLabelled area s' c' (Tries t) → Labels area s at c s' c' (Tries t)
      → StaysAt at t.went → BringsMost area at c c' (Tries t) → (ls' : List Label) → ls' ≡ labelled (length c.points) t.left ls
      → Spends area s at c ls s' c' ls' (next_of t.went)
  tries_spends s' c' t safe told leads brings ls' is =
      let pointed = told.0 in
      let new : List Label = labelled (length c.points) t.left ls in
      subst (λ l. Spends area s at c ls s' c' l (next_of t.went)) (sym is) (record {
        safe = went_safe s' c' t.went safe;
        labels = subst (λ (a : Contents). AreLabels area a.points s'.heaps.below new) (sym pointed)
            (subst (λ hs. AreLabels area (with_point c at t.left).points hs new) (sym told.1.heaps) (tried_labels t.left told.2));
        runs = λ number prog q task n k es r m.
            went_next (task_of area prog q) s' c' (lefts_by c'.points new) n k es r t.went
            (subst (λ (a : Contents). SpendsTo (RunsWent area (task_of area prog q) s' c' (lefts_by a.points new) t.went) [] n k es r) (sym pointed)
            (subst (λ l. SpendsTo (RunsWent area (task_of area prog q) s' c' l t.went) [] n k es r) (sym (tried_lefts t.left))
            (told.4 prog q (lefts_by c.points ls) n k es r task.ready.runnable m)));
        inside = λ number i. subst (IsInside area number c') (sym (stage_went t.went))
            (subst (λ (a : Contents). IsInside area number a (stage_of t.went)) (sym pointed) (tried_inside t.left t.went leads number i));
        work = tried_most area at c ls new c' t.went
            (subst (λ (a : Contents). work_left area c' t.went (lefts_by a.points new) ≤ suc (suc INFINITY) * suc (whole_at area at c ls)) (sym pointed)
            (subst (λ l. work_left area c' t.went l ≤ suc (suc INFINITY) * suc (whole_at area at c ls)) (sym (tried_lefts t.left)) (brings (lefts_by c.points ls))));
      })

-- ---- by the results of calls

module _ {E : Type 0} (area : Area) (s : branch.State) (at : ℕ) (c c' : Contents) (ls : List Label) (own : AreLabels area c.points s.heaps.below ls) where
  pub calls_to : (r : Result ℕ E) → IfOk r (λ to. IsSafe area s to 0 c') → IfOk r (λ to. Calls area s at c s to c') → IfOk r (λ to. KeepsQuery area at c to c')
      → IfOk r (λ to. work_at area to c' ≤ most_work area (work_at area at c)) → OnOk r (c'.points ≡ c.points)
      → IfOk r (λ to. Spends area s at c ls s c' ls (next.On to))
  calls_to (Ok to) safe calls query work same = call_spends area s at c ls own c' to safe calls query work same
  calls_to (Err e) safe calls query work same = tt

  pub splits_to : (s' : branch.State) (d : Contents) (other : ℕ) (r : Result ℕ E) → IfOk r (λ to. IsSafe area s' to 0 c')
      → IfOk r (λ to. SplitsAt area s at c s' to c' other) → IfOk r (λ to. KeepsQuery area at c to c') → OnOk r (KeepsQuery area at c other d)
      → IfOk r (λ to. work_at area to c' < work_at area at c) → OnOk r (s' ≡ with_pair s) → OnOk r (c'.points ≡ point_of d other ∷ c.points)
      → IfOk r (λ to. Spends area s at c ls s' c' ls (next.On to))
  splits_to s' d other (Ok to) safe splits query left_query work pair point = either_spends area s at c ls own s' c' d to other safe splits query left_query work pair point
  splits_to s' d other (Err e) safe splits query left_query work pair point = tt
