-- The way back to the newest choice point.
use Rattle.std.proofs.Common.{◌≡◌, ◌<◌, ℕ, suc, List, ◌∷◌, length, Some, None, ap, sym, ◌∙◌, subst, inl, inr, arith}
use Rattle.branch_state.specs.States as branch
use Rattle.branch_state.specs.States.{IsUndone, IsSameBelow}
use Rattle.wam_code.specs.Area.{Area}
use Rattle.code_areas.specs.Areas.{Point, Contents}
use Rattle.code_meaning.specs.MachineStates.{resume}
use Rattle.code_safety.specs.declared.instruction_outcomes.Went.{Went}
use Rattle.code_safety.specs.declared.instruction_outcomes.Went.TheVariants.{On, Back}
use Rattle.code_safety.specs.Choices.{point_of}
use Rattle.code_safety.specs.Queries.{KeepsQueryThen}
use Rattle.code_safety.specs.Safety.{IsSafe}
use Rattle.code_safety.specs.RemainingEvents.{Task, Future, RunsAt, ReturnsTo, RunsThen, Resumes}
use Rattle.code_safety.specs.RepresentedBranch.{IsNaming}
use Rattle.code_safety.specs.Work.{work_at, work_then, values_work}
use Rattle.code_control.specs.RetriedChoices.{IsTaken, TriesAgain}
use Rattle.code_goals.specs.declared.labels.ValuesLeft.{ValuesLeft}
use Rattle.code_goals.specs.declared.labels.Tried.{Tried}
use Rattle.code_goals.specs.Tasks.{task_of}
use Rattle.code_goals.specs.Values.{left_of, pointed, with_point, work_left, IsOpen, IsTried, RunsWent}
use Rattle.code_goals.proofs.Lemmas.{back_at}
use Rattle.code_machine.specs.declared.run.Label.{Label}
use Rattle.code_machine.specs.Labels.{lefts_by, AreLabels, labels_work, whole_back}
use Rattle.code_machine.specs.declared.run.Stage.TheVariants.{Going, Returning}
use Rattle.code_machine.specs.States.{PointsEndIn, IsInside}
use Rattle.code_machine.specs.Steps.{labelled, stage_of, Leaves, LeavesThen, Moves, ComesBack, NoMore, TakesValues}
use Rattle.code_machine.proofs.Labelling.{label_gone, labels_less, labels_more, lefts_more, lefts_values, no_newest}
use Rattle.code_machine.proofs.UncountedInstructions.{same_branch}
use Rattle.code_machine.proofs.GoalSteps.{tried_inside, tried_labels, tried_lefts}
use Rattle.code_machine.proofs.WorkMeasure.{resumed_work, tried_less}

module _ (area : Area) (s : branch.State) (c : Contents) (ls : List Label) (own : AreLabels area c.points s.heaps.below ls) (s1 : branch.State) (at : ℕ)
    (c1 : Contents) (undone : IsUndone s s1) (is : c.points ≡ point_of c1 at ∷ c1.points) where
  -- the labels of the points, with the newest of these
  owned : AreLabels area (point_of c1 at ∷ c1.points) (s1.heaps.now ∷ s1.heaps.below) ls
  owned = subst (λ ps. AreLabels area ps (s1.heaps.now ∷ s1.heaps.below) ls) is (subst (λ hs. AreLabels area c.points hs ls) undone.heaps own)

  -- The point is in the query still, and so are the others.
  come_inside : (number : ℕ) → IsInside area number c Returning → IsInside area number c1 (Going at)
  come_inside number i = subst (PointsEndIn area number) is i

  -- It has no values.
  pub resumed_back : IsSafe area s1 at 0 c1 → Resumes area s c s1 at c1 → (ls' : List Label) → TakesValues ls (length c1.points) ls' None → ComesBack area s c ls s1 c1 ls' (On at)
  resumed_back safe resumes ls' takes =
      let left : lefts_by c.points ls ≡ resume at ∷ lefts_by c1.points ls = ap (λ ps. lefts_by ps ls) is ∙ lefts_more (point_of c1 at) c1.points ls takes.1 in
      subst (λ l. ComesBack area s c ls s1 c1 l (On at)) (sym takes.0) (record {
        safe = safe;
        labels = labels_less area (point_of c1 at) c1.points s1.heaps.now s1.heaps.below ls takes.1 owned;
        runs = λ prog q f naming m. resumes (task_of area prog q) (lefts_by c1.points ls) f (subst (λ l. ReturnsTo area (task_of area prog q) s c l f) left m);
        inside = come_inside;
        work = resumed_work area at c1 c is ls left;
      })

  -- It has these values.
  module _ (v : ValuesLeft) (ls1 : List Label) (takes : TakesValues ls (length c1.points) ls1 (Some v)) where
    abbrev with : List Label
    with = record { point = length c1.points; values = v } ∷ ls1

    gone : IsOpen area s1.heaps.now v × AreLabels area c1.points s1.heaps.below ls1
    gone = label_gone area (point_of c1 at) c1.points s1.heaps.now s1.heaps.below v ls1 (subst (λ l. AreLabels area (point_of c1 at ∷ c1.points) (s1.heaps.now ∷ s1.heaps.below) l) takes owned)

    pub tried_back : (s' : branch.State) (c' : Contents) (t : Tried) → IsTried area s1 at c1 v s' c' t → (ls' : List Label)
        → ls' ≡ labelled (length c1.points) t.left ls1 → ComesBack area s c ls s' c' ls' t.went
    tried_back s' c' t tried ls' new_is =
        let new : List Label = labelled (length c1.points) t.left ls1 in
        let left : lefts_by c.points ls ≡ left_of at v ∷ lefts_by c1.points ls1 = ap (λ l. lefts_by c.points l) takes ∙ ap (λ ps. lefts_by ps with) is
        ∙ lefts_values (point_of c1 at) c1.points v ls1 in
        subst (λ l. ComesBack area s c ls s' c' l t.went) (sym new_is) (record {
          safe = tried.safe;
          labels = subst (λ (a : Contents). AreLabels area a.points s'.heaps.below new) (sym tried.kept)
              (subst (λ hs. AreLabels area (with_point c1 at t.left).points hs new) (sym tried.below.heaps)
              (tried_labels area s1 at c1 ls1 gone.1 t.left tried.opened));
          runs = λ prog q f naming m.
              subst (λ (a : Contents). RunsWent area (task_of area prog q) s' c' (lefts_by a.points new) t.went f) (sym tried.kept)
              (subst (λ l. RunsWent area (task_of area prog q) s' c' l t.went f) (sym (tried_lefts area s1 at c1 ls1 gone.1 t.left))
              (tried.runs prog q (lefts_by c1.points ls1) f
              (back_at area (task_of area prog q) s s1 at c c1 undone is (left_of at v) (lefts_by c1.points ls1) f
              (subst (λ l. ReturnsTo area (task_of area prog q) s c l f) left m))));
          inside = λ number i. subst (λ (a : Contents). IsInside area number a (stage_of t.went)) (sym tried.kept)
              (tried_inside area s1 at c1 ls1 gone.1 t.left t.went tried.leads number (come_inside number i));
          work = subst (λ l. NoMore area c' new t.went (whole_back area c l)) (sym takes)
              (tried_less area at c1 c is v ls1 new c' t.went
              (subst (λ (a : Contents). work_left area c' t.went (lefts_by a.points new) < work_left area (pointed c1 at) Back (left_of at v ∷ lefts_by c1.points ls1)) (sym tried.kept)
              (subst (λ l. work_left area c' t.went l < work_left area (pointed c1 at) Back (left_of at v ∷ lefts_by c1.points ls1))
              (sym (tried_lefts area s1 at c1 ls1 gone.1 t.left)) (tried.falls (lefts_by c1.points ls1)))));
        })

-- ---- a choice that is taken on the way back

same_moves : (area : Area) (s : branch.State) (at : ℕ) (c : Contents) (s' : branch.State) (c' : Contents) (w : Went) → IsTaken area s at c s' c' w → Moves area s at c s' c' w
same_moves area s at c s' c' w k = record {
  safe = k.safe;
  moves = elim k.chooses [
    | inl n ↦ inl (record {
      below = subst (IsSameBelow s) (sym n.same) (same_branch s);
      points = ap (λ (a : Contents). a.points) n.areas;
      runs = subst (λ t. RunsThen area s at c t c' w) (sym n.same) (subst (λ a. RunsThen area s at c s a w) (sym n.areas) n.runs);
      query = subst (λ a. KeepsQueryThen area at c a w) (sym n.areas) n.query;
    })
    | inr o ↦ inr (record {
      other = o.other;
      pair = o.pair;
      point = ap (λ (a : Contents). a.points) o.areas;
      runs = subst (LeavesThen area s at c s' c' o.other) (sym o.on) o.runs;
      query = subst (KeepsQueryThen area at c c') (sym o.on) o.query;
      left = o.left;
    })
  ];
  falls = k.falls;
}

-- The choice point was come back to, and then an instruction was taken that spends nothing.
module _ (area : Area) (s : branch.State) (c : Contents) (ls : List Label) (s1 : branch.State) (at : ℕ) (c1 : Contents)
    (back : ComesBack area s c ls s1 c1 ls (On at)) (s' : branch.State) (c' : Contents) (w : Went) (moves : Moves area s1 at c1 s' c' w) where
  labels_then : AreLabels area c'.points s'.heaps.below ls
  labels_then = elim moves.moves [
    | inl keep ↦ subst (λ ps. AreLabels area ps s'.heaps.below ls) (sym keep.points) (subst (λ hs. AreLabels area c1.points hs ls) (sym keep.below.heaps) back.labels)
    | inr l ↦ subst (λ ps. AreLabels area ps s'.heaps.below ls) (sym l.point)
        (subst (λ (t : branch.State). AreLabels area (point_of c1 l.other ∷ c1.points) t.heaps.below ls) (sym l.pair)
        (labels_more area (point_of c1 l.other) c1.points s1.heaps.now s1.heaps.below ls back.labels))
  ]

  lefts_new : (l : Leaves area s1 at c1 s' c' w) → lefts_by c'.points ls ≡ resume l.other ∷ lefts_by c1.points ls
  lefts_new l = ap (λ ps. lefts_by ps ls) l.point ∙ lefts_more (point_of c1 l.other) c1.points ls (no_newest area c1.points s1.heaps.below ls back.labels)

  keeps_inside : (number : ℕ) → IsInside area number c1 (Going at) → (v : Went) → KeepsQueryThen area at c1 c' v → (ps : List Point) → c'.points ≡ ps
      → PointsEndIn area number ps → IsInside area number c' (stage_of v)
  keeps_inside number i (On to) keeps ps is own = (keeps number i.0, subst (PointsEndIn area number) (sym is) own)
  keeps_inside number i Back keeps ps is own = subst (PointsEndIn area number) (sym is) own

  inside_then : (number : ℕ) → IsInside area number c1 (Going at) → IsInside area number c' (stage_of w)
  inside_then number i = elim moves.moves [
    | inl keep ↦ keeps_inside number i w keep.query c1.points keep.points i.1
    | inr l ↦ keeps_inside number i w l.query (point_of c1 l.other ∷ c1.points) l.point (l.left number i.0, i.1)
  ]

  kept_runs : (t : Task) (f : Future) → IsNaming area t.name → (v : Went) → RunsThen area s1 at c1 s' c' v → RunsAt area t s1 at c1 (lefts_by c1.points ls) f
      → RunsWent area t s' c' (lefts_by c1.points ls) v f
  kept_runs t f naming (On to) runs m = runs t (lefts_by c1.points ls) f naming m
  kept_runs t f naming Back runs m = runs t (lefts_by c1.points ls) f naming m

  left_runs : (t : Task) (f : Future) → IsNaming area t.name → (v : Went) (other : ℕ) → LeavesThen area s1 at c1 s' c' other v
      → RunsAt area t s1 at c1 (lefts_by c1.points ls) f → RunsWent area t s' c' (resume other ∷ lefts_by c1.points ls) v f
  left_runs t f naming (On to) other l m = l t (lefts_by c1.points ls) f naming m
  left_runs t f naming Back other l m = absurd l

  runs_then : (t : Task) (f : Future) → IsNaming area t.name → RunsAt area t s1 at c1 (lefts_by c1.points ls) f → RunsWent area t s' c' (lefts_by c'.points ls) w f
  runs_then t f naming m = elim moves.moves [
    | inl keep ↦ subst (λ ps. RunsWent area t s' c' (lefts_by ps ls) w f) (sym keep.points) (kept_runs t f naming w keep.runs m)
    | inr l ↦ subst (λ x. RunsWent area t s' c' x w f) (sym (lefts_new l)) (left_runs t f naming w l.other l.runs m)
  ]

  labels_same : labels_work area c' ls ≡ labels_work area c1 ls
  labels_same = elim moves.moves [
    | inl keep ↦ ap (λ ps. values_work area ps (lefts_by ps ls)) keep.points
    | inr l ↦ ap (λ ps. values_work area ps (lefts_by ps ls)) l.point
        ∙ ap (values_work area (point_of c1 l.other ∷ c1.points))
        (lefts_more (point_of c1 l.other) c1.points ls (no_newest area c1.points s1.heaps.below ls back.labels))
  ]

  work_less : (v : Went) → work_then area c' v < work_at area at c1 → NoMore area c' ls v (whole_back area c ls)
  work_less (On to) less = let e = labels_same in let b = back.work in omega (arith, e, b, less)
  work_less Back less = let e = labels_same in let b = back.work in omega (arith, e, b, less)

  pub comes_on : ComesBack area s c ls s' c' ls w
  comes_on = record {
    safe = moves.safe;
    labels = labels_then;
    runs = λ prog q f naming m. runs_then (task_of area prog q) f naming (back.runs prog q f naming m);
    inside = λ number i. inside_then number (back.inside number i);
    work = work_less w moves.falls;
  }

-- The choice at the place of the newest choice point, which has no values, was taken.
pub tried_again : (area : Area) (s : branch.State) (c : Contents) (ls : List Label) → AreLabels area c.points s.heaps.below ls → (point : ℕ)
    → length c.points ≡ suc point → TakesValues ls point ls None → (s' : branch.State) (c' : Contents) (to : ℕ) → TriesAgain area s c s' c' to
    → ComesBack area s c ls s' c' ls (On to)
tried_again area s c ls own point many none s' c' to t =
    let size = ap length t.gone.points in
    let older : point ≡ length t.areas.points = omega (arith, size, many) in
    let back = resumed_back area s c ls own t.back t.at t.areas t.gone.branch t.gone.points t.gone.safe t.gone.runs ls (subst (λ n. TakesValues ls n ls None) older none) in
    elim t.taken [
      | inl k ↦ subst (λ b. ComesBack area s c ls b c' ls (On to)) (sym k.0)
          (subst (λ a. ComesBack area s c ls t.back a ls (On to)) (sym k.1) (subst (λ n. ComesBack area s c ls t.back t.areas ls (On n)) (sym k.2) back))
      | inr k ↦ comes_on area s c ls t.back t.at t.areas back s' c' (On to) (same_moves area t.back t.at t.areas s' c' (On to) k)
    ]
