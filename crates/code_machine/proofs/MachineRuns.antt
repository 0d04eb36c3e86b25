-- Steps of a machine, and runs of steps up to an event.
use Rattle.std.proofs.Common.{◌≡◌, ℕ, zero, suc, ◌+◌, ◌*◌, ◌<◌, ◌≤◌, Bool, true, false, cond, List, [], ◌∷◌, length, map, slice_get, slice_index_or, Option}
use Rattle.std.proofs.Common.{Some, None, Result, Ok, Err, IfOk, refl, ap, sym, ◌∙◌, subst, inl, inr, arith, ne_eqb}
use Rattle.std.proofs.lemmas.Bool.{true≢false}
use Rattle.std.proofs.lemmas.Option.{same_Some}
use Rattle.fd_language.proofs.Lemmas.{two}
use Rattle.fd_model.specs.declared.kinds.QueryFault.{QueryFault}
use Rattle.fd_model.specs.Goal as model
use Rattle.fd_model.specs.Goal.{Program, Query, Event}
use Rattle.fd_model.specs.Run.{IsLimit}
use Rattle.branch_meaning.specs.NextEvent.{is_final, IsNext, behind}
use Rattle.machine_events.specs.declared.Limits.{Limits}
use Rattle.machine_events.specs.declared.MachineEvent.{MachineEvent}
use Rattle.machine_events.specs.declared.MachineEvent.TheVariants as event
use Rattle.machine_events.specs.declared.Shown.{Shown}
use Rattle.machine_events.specs.Events.{event_of, shown_line, HasTerms, ShowsTerms}
use Rattle.branch_state.specs.States as branch
use Rattle.wam_code.specs.declared.instruction.Code.{Code}
use Rattle.wam_code.specs.Area.{Area, Span, Holds, HasQuery, name_of}
use Rattle.code_areas.specs.Areas.{Point, Contents, Return}
use Rattle.code_meaning.specs.MachineStates.{Left, resume}
use Rattle.code_safety.specs.declared.instruction_outcomes.Went.{Went}
use Rattle.code_safety.specs.declared.instruction_outcomes.Went.TheVariants.{On, Back}
use Rattle.code_safety.specs.Choices.{point_of}
use Rattle.code_safety.specs.Queries.{KeepsQueryThen}
use Rattle.code_safety.specs.Safety.{IsSafe, IsSafeBack, IsSafeThen}
use Rattle.code_safety.specs.RemainingEvents.{Task, RunsAt}
use Rattle.code_safety.specs.Work.{work_at, work_then, values_work, point_threads}
use Rattle.code_safety.proofs.Lemmas.{left_falls, left_spent, left_up, budget_ends, returned_ends}
use Rattle.code_goals.specs.declared.goal_outcomes.Next.{Next}
use Rattle.code_goals.specs.declared.goal_outcomes.Next.TheVariants as next
use Rattle.code_goals.specs.Answers.{IsAsked, ShowsAnswer}
use Rattle.code_goals.specs.GoalOutcomes.{IsSafeNext, RunsNext, SaysNothing}
use Rattle.code_goals.specs.Tasks.{task_of}
use Rattle.code_goals.specs.GoalTexts.{first_written}
use Rattle.code_goals.specs.Values.{RunsWent}
use Rattle.code_machine.specs.declared.run.Ending.{Ending}
use Rattle.code_machine.specs.declared.run.Ending.TheVariants as ending
use Rattle.code_machine.specs.declared.run.Label.{Label}
use Rattle.code_machine.specs.declared.run.Run.{Run}
use Rattle.code_machine.specs.declared.run.Saying.{Saying}
use Rattle.code_machine.specs.declared.run.Saying.TheVariants as word
use Rattle.code_machine.specs.declared.run.Stage.{Stage}
use Rattle.code_machine.specs.declared.run.Stage.TheVariants.{Going, Returning, Ended}
use Rattle.code_machine.specs.Instructions.{HasGoal}
use Rattle.code_machine.specs.Labels.{lefts_by, labels_work, AreLabels, whole_at, whole_back}
use Rattle.code_machine.specs.States.{State, state_of, state_within, names_in, names_of, no_limits, no_span, IsTask, last_event, StandsBy, StandsFor, most}
use Rattle.code_machine.specs.States.{left, left_at, IsEndedBy, IsReadyAt, PointsEndIn, IsInside, IsMachine, IsSame, IsPaced, Allows, ComesOf, IsQuiet, Says}
use Rattle.code_machine.specs.States.{IsEvent, Tells, IsStep, StillRuns, AreCounted, IsWithin, IsOfGoal, counted, behind_answer, one_fewer}
use Rattle.code_machine.specs.Steps.{Keeps, Leaves, LeavesThen, Moves, Spends, ComesBack, NoMore, next_work, stage_of, stage_next, saying_next}
use Rattle.code_machine.proofs.Labelling.{labels_more, lefts_more, no_newest}
use Rattle.code_safety.specs.RepresentedBranch.{IsNaming}
use Rattle.code_meaning.proofs.Lemmas.{TakesGoal}
use Rattle.std.proofs.lemmas.List.{length-map}
use Rattle.wam_code.proofs.Lemmas.{back_falls}
use Rattle.wam_code.specs.CodeRegions.{distance}
use Rattle.std.proofs.Math.Nat.{min-eq_left}

-- a machine for which memory wasn't wanting
abbrev pub seen : Area → ℕ → branch.State → Contents → List Label → Stage → ℕ → Option ℕ → ℕ → State
seen area query s c ls st n k spent = record {
  area = area;
  query = query;
  branch = s;
  areas = c;
  labels = ls;
  stage = st;
  budget = n;
  limit = k;
  spent = spent;
  lost = false;
  limits = no_limits;
  answers = 0;
}

-- ---- a run that goes on has not ended

going_on : (at : ℕ) (x : Ending) → Going at ≡ Ended x → ⊥
going_on at x e = cc

going_back : (x : Ending) → Returning ≡ Ended x → ⊥
going_back x e = cc

-- ---- the last event

same_event : (names : List (List ℕ)) (e : Ending) → event_of names (last_event e) ≡ event_of [] (last_event e)
same_event names ending.End = refl
same_event names ending.Budget = refl
same_event names ending.Limit = refl
same_event names (ending.Fault f) = refl

stays : (e : Ending) → behind (event_of [] (last_event e)) [] ≡ event_of [] (last_event e) ∷ []
stays ending.End = refl
stays ending.Budget = refl
stays ending.Limit = refl
stays (ending.Fault f) = refl

final : (e : Ending) → is_final (event_of [] (last_event e)) ≡ true
final ending.End = refl
final ending.Budget = refl
final ending.Limit = refl
final (ending.Fault f) = refl

no_terms_shown : (n : ℕ) (e : Ending) → HasTerms n (last_event e)
no_terms_shown n ending.End = tt
no_terms_shown n ending.Budget = tt
no_terms_shown n ending.Limit = tt
no_terms_shown n (ending.Fault f) = tt

allows_end : (e : Ending) (k k' : Option ℕ) → k' ≡ k → Allows (last_event e) k k'
allows_end ending.End k k' same = same
allows_end ending.Budget k k' same = same
allows_end ending.Limit k k' same = same
allows_end (ending.Fault f) k k' same = same

comes_of_end : (s : State) (e : Ending) → IsEndedBy s.area s.budget s.limit e → ComesOf s (last_event e)
comes_of_end s ending.End ended = tt
comes_of_end s ending.Budget ended = ended
comes_of_end s ending.Limit ended = ended
comes_of_end s (ending.Fault f) ended = ended

-- A machine that comes to its end says that, and has nothing else to say.
pub ends_says : (old : State) (e : Ending) (s' : branch.State) (c' : Contents) (ls' : List Label) (n' : ℕ) (k' : Option ℕ) (spent' : ℕ)
    → spent' + n' ≡ old.spent + old.budget → k' ≡ old.limit → IsEndedBy old.area n' k' e → ((x : Ending) → old.stage ≡ Ended x → ⊥)
    → ((es : List Event) (total : ℕ) → StandsFor old es total → (es ≡ event_of [] (last_event e) ∷ []) × (total ≡ spent'))
    → Says old (last_event e) (seen old.area old.query s' c' ls' (Ended e) n' k' spent')
ends_says old e s' c' ls' n' k' spent' paced limit ended open_ stops =
    let new : State = seen old.area old.query s' c' ls' (Ended e) n' k' spent' in
    record {
      next = λ es total w.
          (let z = stops es total w in
          let same = same_event (names_of old) e in
          subst (λ x. (later : List Event) × (es ≡ x ∷ later) × StandsFor new (behind x later) total) (sym same)
          ([], z.0, record { program = w.program; query = w.query; task = w.task; later = 0; all = (let t = z.1 in omega (arith, t)); stands = (stays e, refl) }));
      last = λ f es total w. (stops es total w).0;
      falls = λ f. absurd (true≢false (sym (final e) ∙ f));
      ends = λ f. refl;
      shown = no_terms_shown (length (names_of old)) e;
      paced = paced;
      limit = allows_end e old.limit k' limit;
      comes = comes_of_end new e ended;
      ended = λ f. (e, refl, refl);
      again = λ x i. absurd (open_ x i);
    }

-- and tells it
pub told_end : (old new : State) (f : Ending) → Says old (last_event f) new → Tells old (word.Ended f) new
told_end old new f h = record { shows = tt; says = λ e is. subst (λ y. Says old y new) (sym is) h }

-- ---- a step that says nothing

module _ (area : Area) (query : ℕ) (s s' : branch.State) (c c' : Contents) (ls : List Label) (n : ℕ) (k : Option ℕ) (spent : ℕ) where
  -- the points' labels stay
  module _ (at : ℕ) (w : Went) (moves : Moves area s at c s' c' w) (m : IsMachine (seen area query s c ls (Going at) n k spent)) where
    abbrev was : State
    was = seen area query s c ls (Going at) n k spent

    abbrev now : State
    now = seen area query s' c' ls (stage_of w) n k spent

    owned : AreLabels area c.points s.heaps.below ls
    owned = m.ready.1

    labels_then : AreLabels area c'.points s'.heaps.below ls
    labels_then = elim moves.moves [
      | inl keep ↦ subst (λ ps. AreLabels area ps s'.heaps.below ls) (sym keep.points) (subst (λ hs. AreLabels area c.points hs ls) (sym keep.below.heaps) owned)
      | inr l ↦ subst (λ ps. AreLabels area ps s'.heaps.below ls) (sym l.point)
          (subst (λ (t : branch.State). AreLabels area (point_of c l.other ∷ c.points) t.heaps.below ls) (sym l.pair)
          (labels_more area (point_of c l.other) c.points s.heaps.now s.heaps.below ls owned))
    ]

    ready_then : (w : Went) → IsSafeThen area s' c' w → IsReadyAt area s' c' ls n k (stage_of w)
    ready_then (On to) safe = (safe, labels_then, m.ready.2)
    ready_then Back safe = (safe, labels_then, m.ready.2)

    -- a place whose query is kept, over the same choice points
    keeps_inside : (w : Went) → KeepsQueryThen area at c c' w → (ps : List Point) → c'.points ≡ ps → PointsEndIn area query ps → IsInside area query c' (stage_of w)
    keeps_inside (On to) keeps ps is own = (keeps query m.inside.0, subst (PointsEndIn area query) (sym is) own)
    keeps_inside Back keeps ps is own = subst (PointsEndIn area query) (sym is) own

    inside_then : IsInside area query c' (stage_of w)
    inside_then = elim moves.moves [
      | inl keep ↦ keeps_inside w keep.query c.points keep.points m.inside.1
      | inr l ↦ keeps_inside w l.query (point_of c l.other ∷ c.points) l.point (l.left query m.inside.0, m.inside.1)
    ]

    pub moved_machine : IsMachine now
    moved_machine = record { query = m.query; ready = ready_then w moves.safe; inside = inside_then; steps = m.steps }

    lefts_new : (l : Leaves area s at c s' c' w) → lefts_by c'.points ls ≡ resume l.other ∷ lefts_by c.points ls
    lefts_new l = ap (λ ps. lefts_by ps ls) l.point ∙ lefts_more (point_of c l.other) c.points ls (no_newest area c.points s.heaps.below ls owned)

    kept_stands : (t : Task) (es : List Event) (r : ℕ) → IsNaming area t.name → (w : Went) → Keeps area s at c s' c' w
        → RunsAt area t s at c (lefts_by c.points ls) (record { budget = n; answers = k; events = es; reductions = r })
        → StandsBy area t s' c' (lefts_by c'.points ls) (stage_of w) n k es r
    kept_stands t es r naming (On to) keep runs = subst (λ ps. StandsBy area t s' c' (lefts_by ps ls) (Going to) n k es r) (sym keep.points)
        (keep.runs t (lefts_by c.points ls) (record { budget = n; answers = k; events = es; reductions = r }) naming runs)
    kept_stands t es r naming Back keep runs = subst (λ ps. StandsBy area t s' c' (lefts_by ps ls) Returning n k es r) (sym keep.points)
        (keep.runs t (lefts_by c.points ls) (record { budget = n; answers = k; events = es; reductions = r }) naming runs)

    left_stands : (t : Task) (es : List Event) (r : ℕ) → IsNaming area t.name → (v : Went) (other : ℕ) → LeavesThen area s at c s' c' other v
        → RunsAt area t s at c (lefts_by c.points ls) (record { budget = n; answers = k; events = es; reductions = r })
        → StandsBy area t s' c' (resume other ∷ lefts_by c.points ls) (stage_of v) n k es r
    left_stands t es r naming (On to) other l runs = l t (lefts_by c.points ls) (record { budget = n; answers = k; events = es; reductions = r }) naming runs
    left_stands t es r naming Back other l runs = absurd l

    moved_stands : (es : List Event) (total : ℕ) → StandsFor was es total → StandsFor now es total
    moved_stands es total h = record {
      program = h.program;
      query = h.query;
      task = h.task;
      later = h.later;
      all = h.all;
      stands = elim moves.moves [
        | inl keep ↦ kept_stands (task_of area h.program h.query) es h.later h.task.naming w keep h.stands
        | inr l ↦ subst (λ x. StandsBy area (task_of area h.program h.query) s' c' x (stage_of w) n k es h.later) (sym (lefts_new l))
            (left_stands (task_of area h.program h.query) es h.later h.task.naming w l.other l.runs h.stands)
      ];
    }

    labels_same : labels_work area c' ls ≡ labels_work area c ls
    labels_same = elim moves.moves [
      | inl keep ↦ ap (λ ps. values_work area ps (lefts_by ps ls)) keep.points
      | inr l ↦ ap (λ ps. values_work area ps (lefts_by ps ls)) l.point
          ∙ ap (values_work area (point_of c l.other ∷ c.points)) (lefts_more (point_of c l.other) c.points ls (no_newest area c.points s.heaps.below ls owned))
    ]

    falls_by : (v : Went) → work_then area c' v < work_at area at c → left_at area c' ls n (stage_of v) < left_at area c ls n (Going at)
    falls_by (On to) less =
        let e = labels_same in
        let f = left_falls (most area) n (whole_at area to c' ls) (whole_at area at c ls) (omega (arith, e, less)) in
        omega (arith, f)
    falls_by Back less =
        let e = labels_same in
        let f = left_falls (most area) n (whole_back area c' ls) (whole_at area at c ls) (omega (arith, e, less)) in
        omega (arith, f)

    pub moved_quiet : IsQuiet was now
    moved_quiet = record { stands = moved_stands; falls = falls_by w moves.falls; paced = refl; limit = refl; unended = λ x e. going_on at x e }

  -- ---- the way back

  module _ (ls' : List Label) (w : Went) (back : ComesBack area s c ls s' c' ls' w) (m : IsMachine (seen area query s c ls Returning n k spent)) where
    abbrev was_back : State
    was_back = seen area query s c ls Returning n k spent

    abbrev now_back : State
    now_back = seen area query s' c' ls' (stage_of w) n k spent

    ready_back : (w : Went) → IsSafeThen area s' c' w → IsReadyAt area s' c' ls' n k (stage_of w)
    ready_back (On to) safe = (safe, back.labels, m.ready.2)
    ready_back Back safe = (safe, back.labels, m.ready.2)

    pub back_machine : IsMachine now_back
    back_machine = record { query = m.query; ready = ready_back w back.safe; inside = back.inside query m.inside; steps = m.steps }

    stands_back : (t : Task) (l : List Left) (es : List Event) (r : ℕ) (v : Went)
        → RunsWent area t s' c' l v (record { budget = n; answers = k; events = es; reductions = r }) → StandsBy area t s' c' l (stage_of v) n k es r
    stands_back t l es r (On to) runs = runs
    stands_back t l es r Back runs = runs

    falls_back : (v : Went) → NoMore area c' ls' v (whole_back area c ls) → left_at area c' ls' n (stage_of v) < left_at area c ls n Returning
    falls_back (On to) less =
        let f = left_up (most area) n (whole_at area to c' ls') (whole_back area c ls) less in
        omega (arith, f)
    falls_back Back less =
        let f = left_falls (most area) n (whole_back area c' ls') (whole_back area c ls) less in
        omega (arith, f)

    pub back_quiet : IsQuiet was_back now_back
    back_quiet = record {
      stands = λ es total h. record {
        program = h.program;
        query = h.query;
        task = h.task;
        later = h.later;
        all = h.all;
        stands = stands_back (task_of area h.program h.query) (lefts_by c'.points ls') es h.later w
            (back.runs h.program h.query (record { budget = n; answers = k; events = es; reductions = h.later }) h.task.naming h.stands);
      };
      falls = falls_back w back.work;
      paced = refl;
      limit = refl;
      unended = λ x e. going_back x e;
    }

-- ---- a goal

-- what is only said where the code has a goal
abbrev pub NeedsGoal : Area → Next → Type 0
NeedsGoal area (next.On to) = Unit {0}
NeedsGoal area next.Back = Unit {0}
NeedsGoal area (next.Fault f) = HasGoal area
NeedsGoal area (next.Write to) = HasGoal area
NeedsGoal area (next.Newline to) = HasGoal area

pub needed_goal : (area : Area) (x : Next) → HasGoal area → NeedsGoal area x
needed_goal area (next.On to) g = tt
needed_goal area next.Back g = tt
needed_goal area (next.Fault f) g = g
needed_goal area (next.Write to) g = g
needed_goal area (next.Newline to) g = g

module _ (area : Area) (query : ℕ) (s s' : branch.State) (at : ℕ) (c c' : Contents) (ls ls' : List Label) (n : ℕ) (k : Option ℕ) (spent : ℕ) (x : Next)
    (spends : Spends area s at c ls s' c' ls' x) (goal : NeedsGoal area x) (m : IsMachine (seen area query s c ls (Going at) (suc n) k spent)) where
  abbrev before : State
  before = seen area query s c ls (Going at) (suc n) k spent

  abbrev after : Stage → State
  after st = seen area query s' c' ls' st n k (spent + 1)

  ready_next : (x : Next) → IsSafeNext area s' c' x → NeedsGoal area x → IsReadyAt area s' c' ls' n k (stage_next x)
  ready_next (next.On to) safe g = (safe, spends.labels, m.ready.2)
  ready_next next.Back safe g = (safe, spends.labels, m.ready.2)
  ready_next (next.Fault f) safe g = g
  ready_next (next.Write to) safe g = (safe.0, spends.labels, m.ready.2)
  ready_next (next.Newline to) safe g = (safe, spends.labels, m.ready.2)

  pub spent_machine : IsMachine (after (stage_next x))
  spent_machine = record { query = m.query; ready = ready_next x spends.safe goal; inside = spends.inside query m.inside; steps = (let l = m.steps in omega (arith, l)) }

  less_at : (to : ℕ) → whole_at area to c' ls' ≤ most area * suc (whole_at area at c ls) → left_at area c' ls' n (Going to) < left_at area c ls (suc n) (Going at)
  less_at to l = let f = left_spent (most area) n (whole_at area at c ls) (whole_at area to c' ls') l in omega (arith, f)

  less_back : whole_back area c' ls' ≤ most area * suc (whole_at area at c ls) → left_at area c' ls' n Returning < left_at area c ls (suc n) (Going at)
  less_back l = let f = left_spent (most area) n (whole_at area at c ls) (whole_back area c' ls') l in omega (arith, f)

  abbrev Told : Next → Type 0
  Told y =
      (prog : Program) (q : Query) → IsTask area query prog q → (es : List Event) (r : ℕ)
      → RunsAt area (task_of area prog q) s at c (lefts_by c.points ls) (record { budget = suc n; answers = k; events = es; reductions = r })
      → RunsNext area (task_of area prog q) s' c' (lefts_by c'.points ls') n k es r y

  one_spent : spent + 1 + n ≡ spent + suc n
  one_spent = omega arith

  quiet_by : (to : ℕ) → whole_at area to c' ls' ≤ most area * suc (whole_at area at c ls) → Told (next.On to) → IsQuiet before (after (Going to))
  quiet_by to l told = record {
    stands = λ es total h.
        (let w = told h.program h.query h.task es h.later h.stands in
        subst (λ l. StandsFor (after (Going to)) l total) (sym w.2) (record {
          program = h.program;
          query = h.query;
          task = h.task;
          later = w.1;
          all = (let a = h.all in let j = w.3 in omega (arith, a, j));
          stands = w.4;
        }));
    falls = less_at to l;
    paced = one_spent;
    limit = refl;
    unended = λ x e. going_on at x e;
  }

  gone_by : whole_back area c' ls' ≤ most area * suc (whole_at area at c ls) → Told next.Back → IsQuiet before (after Returning)
  gone_by l told = record {
    stands = λ es total h.
        (let w = told h.program h.query h.task es h.later h.stands in
        subst (λ l. StandsFor (after Returning) l total) (sym w.2) (record {
          program = h.program;
          query = h.query;
          task = h.task;
          later = w.1;
          all = (let a = h.all in let j = w.3 in omega (arith, a, j));
          stands = w.4;
        }));
    falls = less_back l;
    paced = one_spent;
    limit = refl;
    unended = λ x e. going_on at x e;
  }

  -- what a goal says first
  saying : (to : ℕ) (e : MachineEvent) (said : Event) → ((names : List (List ℕ)) → event_of names e ≡ said) → is_final said ≡ false
      → ((later : List Event) → behind said later ≡ later) → HasTerms (length (names_of before)) e → ((j : Option ℕ) → Allows e j j)
      → ComesOf (after (Going to)) e → whole_at area to c' ls' ≤ most area * suc (whole_at area at c ls)
      → ((prog : Program) (q : Query) → IsTask area query prog q → (es : List Event) (r : ℕ)
      → RunsAt area (task_of area prog q) s at c (lefts_by c.points ls) (record { budget = suc n; answers = k; events = es; reductions = r })
      → (later : List Event) × (j : ℕ) × (es ≡ said ∷ later) × (r ≡ suc j)
      × RunsAt area (task_of area prog q) s' to c' (lefts_by c'.points ls') (record { budget = n; answers = k; events = later; reductions = j }))
      → Says before e (after (Going to))
  saying to e said is open_ end_ shown allows comes l told = record {
    next = λ es total h.
        (let w = told h.program h.query h.task es h.later h.stands in
        subst (λ y. (later : List Event) × (es ≡ y ∷ later) × StandsFor (after (Going to)) (behind y later) total) (sym (is (names_of before))) (
          w.0,
          w.2,
          subst (λ l. StandsFor (after (Going to)) l total) (sym (end_ w.0)) (record {
            program = h.program;
            query = h.query;
            task = h.task;
            later = w.1;
            all = (let a = h.all in let j = w.3 in omega (arith, a, j));
            stands = w.4;
          }),
        ));
    last = λ f es total h. absurd (true≢false (sym f ∙ ap is_final (is []) ∙ open_));
    falls = λ f. less_at to l;
    ends = λ f. absurd (true≢false (sym f ∙ ap is_final (is []) ∙ open_));
    shown = shown;
    paced = one_spent;
    limit = allows k;
    comes = comes;
    ended = λ f. absurd (true≢false (sym f ∙ ap is_final (is []) ∙ open_));
    again = λ x i. absurd (going_on at x i);
  }

  next_step : (y : Next) → IsSafeNext area s' c' y → NeedsGoal area y → next_work area c' ls' y ≤ most area * suc (whole_at area at c ls) → Told y
      → IsStep before (saying_next y) (after (stage_next y))
  next_step (next.On to) safe g l told = quiet_by to l told
  next_step next.Back safe g l told = gone_by l told
  next_step (next.Fault f) safe g l told = told_end before (after (Ended (ending.Fault f))) (ending.Fault f)
      (ends_says before (ending.Fault f) s' c' ls' n k (spent + 1) one_spent refl g (going_on at)
      (λ es total h. (let w = told h.program h.query h.task es h.later h.stands in (w.0, (let a = h.all in let j = w.1 in omega (arith, a, j))))))
  next_step (next.Write to) safe g l told = record {
    shows = safe;
    says = λ e is.
        subst (λ y. Says before y (after (Going to))) (sym is.2)
        (saying to (event.Write is.0) (model.Wrote (first_written area s' c')) (λ names. ap model.Wrote is.1.text) refl (λ later. refl) is.1.one (λ j. refl) g l told);
  }
  next_step (next.Newline to) safe g l told = record {
    shows = tt;
    says = λ e is. subst (λ y. Says before y (after (Going to))) (sym is) (saying to event.Newline model.Newline (λ names. refl) refl (λ later. refl) tt (λ j. refl) g l told);
  }

  fault_by : (f : QueryFault) → Told (next.Fault f) → IsQuiet before (after (Ended (ending.Fault f)))
  fault_by f told = record {
    stands = λ es total h.
        (let w = told h.program h.query h.task es h.later h.stands in
        record { program = h.program; query = h.query; task = h.task; later = 0; all = (let a = h.all in let j = w.1 in omega (arith, a, j)); stands = (w.0, refl) });
    falls = omega arith;
    paced = one_spent;
    limit = refl;
    unended = λ x e. going_on at x e;
  }

  next_quiet : (y : Next) → SaysNothing y → next_work area c' ls' y ≤ most area * suc (whole_at area at c ls) → Told y → IsQuiet before (after (stage_next y))
  next_quiet (next.On to) silent l told = quiet_by to l told
  next_quiet next.Back silent l told = gone_by l told
  next_quiet (next.Fault f) silent l told = fault_by f told
  next_quiet (next.Write to) silent l told = absurd silent
  next_quiet (next.Newline to) silent l told = absurd silent

  -- a goal that says nothing is a quiet step, also to its fault, which the end says then
  pub spent_quiet : SaysNothing x → IsQuiet before (after (stage_next x))
  spent_quiet silent = next_quiet x silent spends.work (λ prog q task es r runs. spends.runs query prog q task n k es r runs)

  pub spent_step : IsStep before (saying_next x) (after (stage_next x))
  spent_step = next_step x spends.safe goal spends.work (λ prog q task es r runs. spends.runs query prog q task n k es r runs)

-- ---- an end that takes no reduction

module _ (area : Area) (query : ℕ) (s : branch.State) (c : Contents) (ls : List Label) (k : Option ℕ) (spent : ℕ) where
  pub budget_says : (at : ℕ) (i : Code) → TakesGoal i → Holds area at i → IsMachine (seen area query s c ls (Going at) 0 k spent)
      → Says (seen area query s c ls (Going at) 0 k spent) event.Budget (seen area query s c ls (Ended ending.Budget) 0 k spent)
  budget_says at i takes holds m =
      ends_says (seen area query s c ls (Going at) 0 k spent) ending.Budget s c ls 0 k spent refl refl refl (going_on at)
      (λ es total h. (let z = budget_ends area (task_of area h.program h.query) s m.ready.0.sound at i takes holds c (lefts_by c.points ls) k es h.later
      h.stands in (z.0, (let a = h.all in let j = z.1 in omega (arith, a, j)))))

  -- no choice point is left
  pub none_says : (n : ℕ) → c.points ≡ [] → Says (seen area query s c ls Returning n k spent) event.End (seen area query s c ls (Ended ending.End) n k spent)
  none_says n none =
      ends_says (seen area query s c ls Returning n k spent) ending.End s c ls n k spent refl refl tt going_back
      (λ es total h. (let z = returned_ends area (task_of area h.program h.query) s c (lefts_by c.points ls)
      (record { budget = n; answers = k; events = es; reductions = h.later }) none h.stands in
      (z.0, (let a = h.all in let j = z.1 in omega (arith, a, j)))))

-- ---- an answer

span_is : (qs : List Span) (n : ℕ) (span : Span) → slice_get qs n ≡ Some span → slice_index_or qs n no_span ≡ span
span_is [] n span e = absurd (cc)
span_is (q ∷ qs) zero span e = same_Some q span e
span_is (q ∷ qs) (suc n) span e = span_is qs n span e

-- the names are those of the query that is asked
names_asked : (area : Area) (query : ℕ) (q : Query) → IsAsked area query q → names_in area query ≡ q.names
names_asked area query q asked = ap (λ (p : Span). map (name_of area) p.names) (span_is area.queries query asked.span asked.has) ∙ asked.names

goes_back : (j : ℕ) → behind_answer (Some (suc (suc j))) ≡ Returning
goes_back j = ap (λ b. cond b (Ended ending.Limit) Returning) (ne_eqb (suc (suc j)) 1 (λ e. omega (arith, e)))

fewer_left : (j : ℕ) → one_fewer (Some (suc (suc j))) ≡ Some (suc j)
fewer_left j = ap Some (omega arith)

map_long : (area : Area) (p : Span) → length (map (name_of area) p.names) ≡ length p.names
map_long area p = length-map p.names (name_of area)

module _ (area : Area) (query : ℕ) (s : branch.State) (at : ℕ) (c : Contents) (ls : List Label) (n : ℕ) (spent : ℕ) where
  abbrev asked_at : Option ℕ → State
  asked_at k = seen area query s c ls (Going at) n k spent

  less : left_at area c ls n Returning < left_at area c ls n (Going at)
  less =
      let b = back_falls (distance area at) (map (λ (r : Return). distance area r.to) c.returns) (point_threads area c.points) in
      let f = left_falls (most area) n (whole_back area c ls) (whole_at area at c ls) (omega (arith, b)) in
      omega (arith, f)

  less_by : (k : Option ℕ) → left_at area c ls n (behind_answer k) < left_at area c ls n (Going at)
  less_by None = less
  less_by (Some zero) = less
  less_by (Some (suc zero)) = omega arith
  less_by (Some (suc (suc j))) = subst (λ st. left_at area c ls n st < left_at area c ls n (Going at)) (sym (goes_back j)) less

  back_ready : IsSafe area s at 0 c → IsSafeBack area s c
  back_ready safe = record {
    states = safe.states;
    verified = safe.verified;
    atoms = safe.atoms;
    sound = record { greatest = safe.sound.greatest; unspent = safe.sound.unspent; marked = safe.sound.marked; below = safe.sound.below };
    points = safe.points;
  }

  ready_by : (k : Option ℕ) → IsSafe area s at 0 c × AreLabels area c.points s.heaps.below ls × IsLimit k → IsReadyAt area s c ls n (one_fewer k) (behind_answer k)
  ready_by None r = (back_ready r.0, r.1, tt)
  ready_by (Some zero) r = absurd r.2
  ready_by (Some (suc zero)) r = refl
  ready_by (Some (suc (suc j))) r =
      subst (λ st. IsReadyAt area s c ls n (one_fewer (Some (suc (suc j)))) st) (sym (goes_back j))
      (subst (λ k'. IsReadyAt area s c ls n k' Returning) (sym (fewer_left j)) (back_ready r.0, r.1, tt))

  -- The choice points stay.
  inside_by : (k : Option ℕ) → IsInside area query c (Going at) → IsInside area query c (behind_answer k)
  inside_by None i = i.1
  inside_by (Some zero) i = i.1
  inside_by (Some (suc zero)) i = tt
  inside_by (Some (suc (suc j))) i = subst (IsInside area query c) (sym (goes_back j)) i.1

  abbrev told_at : Option ℕ → State
  told_at k = seen area query s c ls (behind_answer k) n (one_fewer k) spent

  pub answer_machine : (k : Option ℕ) → IsMachine (asked_at k) → IsMachine (told_at k)
  answer_machine k m = record { query = m.query; ready = ready_by k m.ready; inside = inside_by k m.inside; steps = m.steps }

  module _ (x : Shown) (shows : ShowsAnswer area s at c query x) where
    abbrev line : List ℕ
    line = shown_line (names_in area query) x

    -- what is to come behind the answer
    abbrev TellsAt : Option ℕ → Stage → Option ℕ → Type 0
    TellsAt k st k' =
        (prog : Program) (q : Query) → IsTask area query prog q → (es : List Event) (r : ℕ)
        → RunsAt area (task_of area prog q) s at c (lefts_by c.points ls) (record { budget = n; answers = k; events = es; reductions = r })
        → (later : List Event) × (es ≡ model.Answer line ∷ later) × StandsBy area (task_of area prog q) s c (lefts_by c.points ls) st n k' later r

    named : (q : Query) → IsAsked area query q → (es later : List Event) → es ≡ model.Answer (shown_line q.names x) ∷ later → es ≡ model.Answer line ∷ later
    named q asked es later e = e ∙ ap (λ ns. model.Answer (shown_line ns x) ∷ later) (sym (names_asked area query q asked))

    tells : (k : Option ℕ) → IsLimit k → TellsAt k (behind_answer k) (one_fewer k)
    tells None l prog q task es r m = (let t = shows.any prog q (lefts_by c.points ls) n es r task.asked m in (t.0, named q task.asked es t.0 t.1, t.2))
    tells (Some zero) l prog q task es r m = absurd l
    tells (Some (suc zero)) l prog q task es r m = (let t = shows.last prog q (lefts_by c.points ls) n es r task.asked m in
        (model.Limit ∷ [], named q task.asked es (model.Limit ∷ []) t.0, (refl, t.1)))
    tells (Some (suc (suc j))) l prog q task es r m =
        let t = shows.fewer prog q (lefts_by c.points ls) n j es r task.asked m in (
          t.0,
          named q task.asked es t.0 t.1,
          subst (λ st. StandsBy area (task_of area prog q) s c (lefts_by c.points ls) st n (one_fewer (Some (suc (suc j)))) t.0 r) (sym (goes_back j))
              (subst (λ k'. StandsBy area (task_of area prog q) s c (lefts_by c.points ls) Returning n k' t.0 r) (sym (fewer_left j)) t.2),
        )

    allowed : (k : Option ℕ) → IsLimit k → Allows (event.Answer x) k (one_fewer k)
    allowed None l = refl
    allowed (Some zero) l = absurd l
    allowed (Some (suc j)) l = (j, refl, ap Some (omega arith))

    module _ (k : Option ℕ) (m : IsMachine (asked_at k)) (span : Span) (has : HasQuery area query span) where
      pub answer_says : Says (asked_at k) (event.Answer x) (told_at k)
      answer_says = record {
        next = λ es total h.
            (let t = tells k m.ready.2 h.program h.query h.task es h.later h.stands in
            (t.0, t.1, record { program = h.program; query = h.query; task = h.task; later = h.later; all = h.all; stands = t.2 }));
        last = λ f es total h. absurd (true≢false (sym f));
        falls = λ f. less_by k;
        ends = λ f. absurd (true≢false (sym f));
        shown = subst (λ j. ShowsTerms j x) (sym (map_long area (slice_index_or area.queries query no_span)
            ∙ ap (λ (p : Span). length p.names) (span_is area.queries query span has))) (shows.terms span has);
        paced = refl;
        limit = allowed k m.ready.2;
        comes = tt;
        ended = λ f. absurd (true≢false (sym f));
        again = λ y i. absurd (going_on at y i);
      }

-- ---- runs of steps

-- the code and the query stay
pub same_trans : (a b c : State) → IsSame a b → IsSame b c → IsSame a c
same_trans a b c h k = (k.0 ∙ h.0, k.1 ∙ h.1, k.2 ∙ h.2)

-- none yet
pub rests : (s : State) → IsMachine s → StillRuns s s
rests s m = record { machine = m; same = (refl, refl, refl); stands = λ es total w. w; less = omega arith; paced = refl; limit = refl; still = λ x e. (e, refl) }

-- one
pub quiet_still : (old new : State) → IsMachine new → IsSame old new → IsQuiet old new → StillRuns old new
quiet_still old new m same quiet = record {
  machine = m;
  same = same;
  stands = quiet.stands;
  less = (let a = quiet.falls in omega (arith, a));
  paced = quiet.paced;
  limit = quiet.limit;
  still = λ x e. absurd (quiet.unended x e);
}

-- quiet steps behind others
pub run_on_from : (old s new : State) → StillRuns old s → StillRuns s new → StillRuns old new
run_on_from old s new k h = record {
  machine = h.machine;
  same = same_trans old s new k.same h.same;
  stands = λ es total w. h.stands es total (k.stands es total w);
  less = (let a = h.less in let b = k.less in omega (arith, a, b));
  paced = h.paced ∙ k.paced;
  limit = h.limit ∙ k.limit;
  still = λ x e. (let a = k.still x e in let b = h.still x a.0 in (b.0, b.1 ∙ a.1));
}

-- what is said after quiet steps is said of their start
pub says_from : (old s new : State) (e : MachineEvent) → StillRuns old s → Says s e new → Says old e new
says_from old s new e k h =
    let names : names_of s ≡ names_of old = two names_in k.same.0 k.same.1 in
    let next : IsNext State StandsFor s (event_of (names_of old) e) new = subst (λ ns. IsNext State StandsFor s (event_of ns e) new) names h.next in
    record {
      next = λ es total w. next es total (k.stands es total w);
      last = λ f es total w. h.last f es total (k.stands es total w);
      falls = λ f. (let a = h.falls f in let b = k.less in omega (arith, a, b));
      ends = h.ends;
      shown = subst (λ ns. HasTerms (length ns) e) names h.shown;
      paced = h.paced ∙ k.paced;
      limit = subst (λ j. Allows e j new.limit) k.limit h.limit;
      comes = h.comes;
      ended = h.ended;
      again = λ x i. (let a = k.still x i in let b = h.again x a.0 in (b.0, b.1, b.2 ∙ a.1));
    }

-- so is the event that is made then
pub told_from : {E : Type 0} (old s new : State) (w : Saying) → StillRuns old s → Tells s w new → (r : Result MachineEvent E) → IfOk r (IsEvent new w) → IfOk r (λ e. Says old e new)
told_from old s new w k h (Ok e) is = says_from old s new e k (h.says e is)
told_from old s new w k h (Err x) is = tt

-- at the end all was spent
total_at : (s : State) (st : Stage) → s.stage ≡ st → left_at s.area s.areas s.labels s.budget st ≡ 0 → (es : List Event) (total : ℕ) → StandsFor s es total → total ≡ s.spent
total_at s (Going at) e l es total h = absurd (omega (arith, l))
total_at s Returning e l es total h = absurd (omega (arith, l))
total_at s (Ended x) e l es total h =
    let z = (subst (λ st. StandsBy s.area (task_of s.area h.program h.query) s.branch s.areas (lefts_by s.areas.points s.labels) st s.budget s.limit es h.later) e h.stands).1 in
    let a = h.all in
    omega (arith, a, z)

pub total_spent : (s : State) → left s ≡ 0 → (es : List Event) (total : ℕ) → StandsFor s es total → total ≡ s.spent
total_spent s l es total h = total_at s s.stage refl l es total h

-- ---- Whether memory was wanting says nothing of what a machine stands for, nor do its limits.

module _ (a b : Area) (same : a ≡ b) (s : branch.State) (r : Run) (lost : Bool) (limits : Limits) (answers : ℕ) where
  pub whole_machine : IsMachine (state_of a s r false) → IsMachine (state_within b s r lost limits answers)
  whole_machine m =
      let n : IsMachine (state_of b s r false) = subst (λ x. IsMachine (state_of x s r false)) same m in
      record { query = n.query; ready = n.ready; inside = n.inside; steps = n.steps }

  pub whole_stands : (es : List Event) (total : ℕ) → StandsFor (state_of a s r false) es total → StandsFor (state_within b s r lost limits answers) es total
  whole_stands es total h =
      let k : StandsFor (state_of b s r false) es total = subst (λ x. StandsFor (state_of x s r false) es total) same h in
      record { program = k.program; query = k.query; task = k.task; later = k.later; all = k.all; stands = k.stands }

  pub lost_machine : IsMachine (state_within b s r lost limits answers) → IsMachine (state_of a s r false)
  lost_machine m = subst (λ x. IsMachine (state_of x s r false)) (sym same) (record { query = m.query; ready = m.ready; inside = m.inside; steps = m.steps })

  -- what is said of a machine is said of what it was seen as
  pub seen_says : (s' : branch.State) (r' : Run) (answers' : ℕ) (told_as : State) (e : MachineEvent) → state_within b s r lost limits answers ≡ told_as
      → Says (state_of a s r false) e (state_of a s' r' false) → Says told_as e (state_within b s' r' false limits answers')
  seen_says s' r' answers' told_as e view h =
      let told : Says (state_of b s r false) e (state_of b s' r' false) = subst (λ x. Says (state_of x s r false) e (state_of x s' r' false)) same h in
      subst (λ o. Says o e (state_within b s' r' false limits answers')) view (record {
        next = λ es total w.
            (let t = told.next es total (record { program = w.program; query = w.query; task = w.task; later = w.later; all = w.all; stands = w.stands }) in
            (t.0, t.1, record { program = t.2.program; query = t.2.query; task = t.2.task; later = t.2.later; all = t.2.all; stands = t.2.stands }));
        last = λ f es total w. told.last f es total (record { program = w.program; query = w.query; task = w.task; later = w.later; all = w.all; stands = w.stands });
        falls = told.falls;
        ends = told.ends;
        shown = told.shown;
        paced = told.paced;
        limit = told.limit;
        comes = told.comes;
        ended = told.ended;
        again = told.again;
      })

-- ---- limits

-- What is spent and what is left make up the limits, whatever is said.
module _ (limits : Limits) (answers : ℕ) (old new : State) (e : MachineEvent) (paced : IsPaced old new) (allows : Allows e old.limit new.limit)
    (within : IsWithin (record old { limits = limits; answers = answers })) where
  counted_by : (e : MachineEvent) (m k k' : Option ℕ) → Allows e k k' → AreCounted m answers k → AreCounted m (counted e answers) k'
  counted_by (event.Answer x) None None k' f a = subst (AreCounted None (counted (event.Answer x) answers)) (sym f) tt
  counted_by (event.Answer x) (Some m) (Some k) k' f a =
      let low = a.1 in
      let sum = a.0 in
      let one = f.1 in
      let least : counted (event.Answer x) answers ≡ answers + 1 = min-eq_left (omega (arith, low, sum, one)) in
      subst (AreCounted (Some m) (counted (event.Answer x) answers)) (sym f.2) (omega (arith, least, sum, one), low)
  counted_by (event.Answer x) None (Some k) k' f a = absurd a
  counted_by (event.Answer x) (Some m) None k' f a = absurd a
  counted_by event.Budget m k k' f a = subst (AreCounted m answers) (sym f) a
  counted_by event.Limit m k k' f a = subst (AreCounted m answers) (sym f) a
  counted_by event.End m k k' f a = subst (AreCounted m answers) (sym f) a
  counted_by event.Newline m k k' f a = subst (AreCounted m answers) (sym f) a
  counted_by (event.Write x) m k k' f a = subst (AreCounted m answers) (sym f) a
  counted_by (event.Fault q) m k k' f a = subst (AreCounted m answers) (sym f) a

  pub within_more : (answers' : ℕ) → answers' ≡ counted e answers → IsWithin (record new { limits = limits; answers = answers' })
  within_more answers' is = record {
    steps = paced ∙ within.steps;
    answers = subst (λ n. AreCounted limits.answers n new.limit) (sym is) (counted_by e limits.answers old.limit new.limit allows within.answers);
  }

-- The budget is spent where that is said,
pub all_spent : (s : State) → IsWithin s → (e : MachineEvent) → ComesOf s e → e ≡ event.Budget → s.spent ≡ s.limits.steps
all_spent s within e comes is =
    let none : s.budget ≡ 0 = subst (ComesOf s) is comes in
    let sum = within.steps in
    omega (arith, none, sum)

-- and all answers are given.
pub all_given : (s : State) → IsWithin s → (e : MachineEvent) → ComesOf s e → e ≡ event.Limit → s.limits.answers ≡ Some s.answers
all_given s within e comes is = by s.limits.answers (subst (AreCounted s.limits.answers s.answers) (subst (ComesOf s) is comes) within.answers)
  where
    by : (m : Option ℕ) → AreCounted m s.answers (Some 0) → m ≡ Some s.answers
    by None a = absurd a
    by (Some m) a = let sum = a.0 in ap Some (omega (arith, sum))

pub of_goal : (s : State) (e : MachineEvent) → ComesOf s e → IsOfGoal e → HasGoal s.area
of_goal s (event.Write x) comes o = comes
of_goal s event.Newline comes o = comes
of_goal s (event.Fault f) comes o = comes
of_goal s event.Budget comes o = absurd o
of_goal s event.Limit comes o = absurd o
of_goal s event.End comes o = absurd o
of_goal s (event.Answer x) comes o = absurd o
