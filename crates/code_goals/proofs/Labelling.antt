-- Labellings, taken.
use Rattle.std.proofs.Common.{◌≡◌, ℕ, suc, ◌+◌, ◌*◌, ◌<◌, ◌≤◌, ◌⊎◌, Bool, true, false, pos, nat_le, List, [], ◌∷◌, ◌++◌, length, map, filter, Option, Some}
use Rattle.std.proofs.Common.{None, refl, sym, ◌∙◌, subst, inl, inr, arith}
use Rattle.std.proofs.lemmas.Nat.{mul-le}
use Rattle.unify_core.specs.declared.Touch.{Touch}
use Rattle.unify_core.specs.PairReduction.{IsSameSize}
use Rattle.unify_core.specs.Unifications.{CannotUnify, IsUnified}
use Rattle.fd_language.specs.declared.TheConstants.{INFINITY}
use Rattle.fd_language.specs.Family.{IsRising}
use Rattle.fd_language.specs.Range.{Indexical}
use Rattle.fd_language.specs.Term.{Var}
use Rattle.fd_model.specs.Goal.{Program, Query, Event}
use Rattle.fd_model.specs.declared.kinds.Order.{Order}
use Rattle.fd_model.specs.declared.kinds.QueryFault.{QueryFault}
use Rattle.heap_cells.specs.declared.Cell.{Cell}
use Rattle.heap_cells.specs.declared.Cell.TheVariants as cell
use Rattle.heap_cells.specs.Cells.{Cells}
use Rattle.heap_cells.specs.Terms.{term_of}
use Rattle.heap_cells.specs.HeapInvariant.{IsHeap}
use Rattle.branch_meaning.specs.Labelling.{labels, done, faults}
use Rattle.branch_meaning.specs.Store.{posts}
use Rattle.term_pool.specs.declared.TheConstants.{NIL, CONS}
use Rattle.term_pool.specs.PoolInvariant.{IsPool}
use Rattle.branch_lemmas.proofs.Lemmas.{model_wider}
use Rattle.branch_lemmas.specs.Frames.{store_touches}
use Rattle.branch_lemmas.proofs.Lemmas.{full_one, full_own}
use Rattle.range_code.specs.Frames.{family_of}
use Rattle.branch_state.specs.States as branch
use Rattle.branch_state.specs.States.{IsSound, IsSameBelow, IsUndone, with_pair}
use Rattle.branch_goals.specs.Labels.{labelled_in, values_of}
use Rattle.branch_goals.specs.Lists.{IsListNaming}
use Rattle.wam_code.specs.declared.instruction.Code.TheVariants as step
use Rattle.wam_code.specs.Area.{Area, Holds}
use Rattle.wam_code.specs.CodeRegions.{distance}
use Rattle.wam_code.specs.WorkMeasure.{thread_work, work}
use Rattle.wam_code.proofs.Lemmas.{back_falls}
use Rattle.code_areas.specs.Areas.{cell_at, Contents}
use Rattle.code_meaning.specs.MachineStates.{Left, values, Choice, Runs, Returns}
use Rattle.code_meaning.proofs.Lemmas.{spends_more, run_label_fault, run_label_done, run_label, back_last_value, back_no_values, back_value, run_fails}
use Rattle.code_safety.specs.Choices.{choices_of, choices_in, point_of}
use Rattle.code_safety.specs.CellEquations.{Equates, AreEquated, HasNoModelFor}
use Rattle.code_safety.specs.Machine.{registers_of, stack_of}
use Rattle.code_safety.specs.Safety.{IsSafe, IsSafeThen}
use Rattle.code_safety.specs.RemainingEvents.{Task, Future, ReturnsTo}
use Rattle.code_safety.specs.RepresentedBranch.{went_to}
use Rattle.code_safety.specs.Work.{thread_of, point_threads, work_at, work_back, values_work}
use Rattle.code_safety.specs.declared.instruction_outcomes.Went.{Went}
use Rattle.code_safety.specs.declared.instruction_outcomes.Went.TheVariants as went
use Rattle.code_safety.proofs.Lemmas.{same_cells, value_falls, last_value_falls, one_more, same_below}
use Rattle.code_goals.specs.declared.labels.ValuesLeft.{ValuesLeft}
use Rattle.code_goals.specs.declared.labels.Tried.{Tried}
use Rattle.code_goals.specs.declared.labels.Labelled.TheVariants.{Took, Tries}
use Rattle.code_goals.specs.declared.goal_outcomes.Next.TheVariants.{On, Fault}
use Rattle.code_goals.specs.Tasks.{names_of, task_of}
use Rattle.code_goals.specs.Values.{numbers_left, HasValues, IsOpen, left_of, lefts_of, pointed, with_point, with_mark, IsKept, KeepsValues, RunsWent, StaysAt}
use Rattle.code_goals.specs.Values.{work_left, IsTried, Labels, BringsMost}
use Rattle.code_goals.proofs.Numbers.{can_be}
use Rattle.domain_ranges.proofs.Lemmas.{filter_from_low, rising_length}
use Rattle.code_goals.proofs.GoalSafety.{choices_same, sound_below, moved_safe, marked_safe, goes_back}

-- the names of the code's pool
pub list_naming : (area : Area) → IsPool area.pool → IsListNaming (names_of area)
list_naming area pool =
    let three = pool.three in
    record {
      nil = full_own area.pool.names NIL (omega (arith, three)) ∙ pool.nil;
      cons = full_own area.pool.names CONS (omega (arith, three)) ∙ pool.cons;
      apart = full_one area.pool.names pool.distinct;
    }

-- the values from a later number on
abbrev pub later : ValuesLeft → ℕ → ValuesLeft
later v m = record v { from = m + 1 }

-- ---- the choice point

-- the heap and the store are those before it
marked_equates : (s : branch.State) (o : Option ValuesLeft) (a b : Cell) (s' : branch.State) (equal : Bool) → Equates (with_mark s o) a b s' equal → Equates s a b s' equal
marked_equates s None a b s' equal e = e
marked_equates s (Some v) a b s' true e = record { touches = e.touches; unified = e.unified; size = e.size; posted = e.posted; sound = e.sound }
marked_equates s (Some v) a b s' false e = (
  elim e.0 [
    | inl u ↦ inl u
    | inr g ↦ inr (record { now = g.now; touches = g.touches; unified = g.unified; size = g.size; none = g.none })
  ],
  e.1,
)

mark_infinity : (s : branch.State) (o : Option ValuesLeft) → (with_mark s o).infinity ≡ s.infinity
mark_infinity s None = refl
mark_infinity s (Some v) = refl

mark_safe : (area : Area) (s : branch.State) (at : ℕ) (c : Contents) → IsSafe area s at 0 c → (o : Option ValuesLeft) → IsSound (with_mark s o) → IsSafe area (with_mark s o) at 0 (with_point c at o)
mark_safe area s at c safe None sound = safe
mark_safe area s at c safe (Some v) sound = marked_safe area s at c safe sound

-- What is left at the choice point that was taken away, and what is left there now: the other choice points are the same.
module _ (area : Area) (prog : Program) (q : Query) (s : branch.State) (at : ℕ) (c : Contents) (ls : List Left) (f : Future) (v : ValuesLeft) where
  abbrev points : List ℕ → List Choice
  points ns = choices_in (with_pair s) (pointed c at) (values ns v.variable at ∷ ls)

  abbrev Back : List Choice → Type 0
  Back cs = Returns INFINITY s.infinity area prog q (names_of area) cs f.budget f.answers f.events f.reductions

  abbrev Going : Cells → List Indexical → List Choice → Type 0
  Going h qs cs = Runs INFINITY s.infinity area prog q (names_of area) h qs at (registers_of c) (stack_of c) cs f.budget f.answers f.events f.reductions

  abbrev points_now : Option ValuesLeft → List Choice
  points_now o = choices_in (with_mark s o) (with_point c at o) (lefts_of at o ++ ls)

  -- a machine on its way back to what is left, which may be nothing
  back_settled : (o : Option ValuesLeft) → IsKept v o → IsSound s → Back (points (numbers_left v)) → Back (points_now o)
  back_settled None e sound m =
      back_no_values INFINITY s.infinity area prog q (names_of area) s.heaps.now sound.now.valid s.levels.current.posted at (registers_of c) (stack_of c)
      (choices_in s c ls) f.budget f.answers f.events f.reductions v.variable
      (subst (λ ns. Back (points ns)) e m)
  back_settled (Some w) e sound m = subst (λ (x : ValuesLeft). Back (choices_in (with_pair s) (pointed c at) (left_of at x ∷ ls))) (sym e.0) m

  -- and one at work on the next value, before those
  value_settled : IsHeap s.heaps.now → term_of (names_of area) s.heaps.now (cell.Ref v.variable) ≡ Var v.variable → (o : Option ValuesLeft) → IsKept v o
      → (m : ℕ) (now : Cells) (ts : List Touch) → IsUnified (names_of area) s.heaps.now (cell.Ref v.variable) (cell.Int (pos m)) now ts
      → IsSameSize s.heaps.now now → Back (points (m ∷ numbers_left v)) → Going now (s.levels.current.posted ++ posts (store_touches ts)) (points_now o)
  value_settled valid open_now None e m now ts u size g =
      back_last_value INFINITY s.infinity area prog q (names_of area) s.heaps.now valid s.levels.current.posted at (registers_of c) (stack_of c)
      (choices_in s c ls) f.budget f.answers f.events f.reductions v.variable m open_now now ts u size
      (subst (λ ns. Back (points (m ∷ ns))) e g)
  value_settled valid open_now (Some w) e m now ts u size g =
      subst (λ (x : ValuesLeft). Going now (s.levels.current.posted ++ posts (store_touches ts)) (choices_in (with_pair s) (pointed c at) (left_of at x ∷ ls))) (sym e.0)
      (back_value INFINITY s.infinity area prog q (names_of area) s.heaps.now valid s.levels.current.posted at (registers_of c) (stack_of c) (choices_in s c ls)
      f.budget f.answers f.events f.reductions v.variable m (numbers_left v) open_now now ts u size g)

-- ---- a value is tried

stays_at : (at : ℕ) (equal : Bool) → StaysAt at (went_to at equal)
stays_at at true = refl
stays_at at false = tt

-- on the way back there is less work
back_less : (area : Area) (at : ℕ) (c : Contents) → work_back area c < work_at area at c
back_less area at c = back_falls (distance area at) (map (λ r. distance area r.to) c.returns) (point_threads area c.points)

registers_same : (c : Contents) (at : ℕ) (o : Option ValuesLeft) → registers_of c ≡ registers_of (with_point c at o)
registers_same c at None = refl
registers_same c at (Some v) = refl

stack_same : (c : Contents) (at : ℕ) (o : Option ValuesLeft) → stack_of c ≡ stack_of (with_point c at o)
stack_same c at None = refl
stack_same c at (Some v) = refl

module _ (area : Area) (pool : IsPool area.pool) (s : branch.State) (at : ℕ) (c : Contents) (safe : IsSafe area s at 0 c) (v : ValuesLeft) (open_now : IsOpen area s.heaps.now v) where
  -- none is left
  pub tried_none : numbers_left v ≡ [] → IsTried area s at c v s c (record { went = went.Back; left = None })
  tried_none e = record {
    kept = refl;
    below = same_below s;
    safe = goes_back area s at c safe s (same_below s) (sound_below s safe.sound);
    leads = tt;
    opened = λ w i. absurd (cc);
    some = λ w i. absurd (cc);
    falls = λ ls. (let f = back_less area at c in omega (arith, f));
    runs = λ prog q ls f m. back_settled area prog q s at c ls f v None e safe.sound m;
  }

  module _ (m : ℕ) (left : numbers_left v ≡ m ∷ numbers_left (later v m)) (o : Option ValuesLeft) (kept : IsKept (later v m) o) (s' : branch.State) where
    abbrev ns : List ℕ
    ns = numbers_left (later v m)

    abbrev x : Cell
    x = cell.Ref v.variable

    abbrev z : Cell
    z = cell.Int (pos m)

    -- over the choice points that there are now
    module _ (prog : Program) (q : Query) (ls : List Left) (f : Future) (g : ReturnsTo area (task_of area prog q) (with_pair s) (pointed c at) (left_of at v ∷ ls) f) where
      abbrev h : Cells
      h = s.heaps.now

      abbrev qs : List Indexical
      qs = s.levels.current.posted

      abbrev now_points : List Choice
      now_points = points_now area prog q s at c ls f v o

      back : Back area prog q s at c ls f v (points area prog q s at c ls f v (m ∷ ns))
      back = subst (λ ks. Back area prog q s at c ls f v (points area prog q s at c ls f v ks)) left g

      tried_on : AreEquated s x z s' → Going area prog q s at c ls f v s'.heaps.now s'.levels.current.posted now_points
      tried_on e =
          subst (λ ps. Going area prog q s at c ls f v s'.heaps.now ps now_points) (sym e.posted)
          (value_settled area prog q s at c ls f (later v m) safe.sound.now.valid open_now.term o kept m s'.heaps.now e.touches (e.unified (names_of area)) e.size back)

      tried_back : CannotUnify h x z ⊎ HasNoModelFor s x z → Back area prog q s at c ls f v now_points
      tried_back (inl un) = absurd (can_be (names_of area) (full_one area.pool.names pool.distinct) h safe.sound.now.valid v.variable (pos m) open_now.term un)
      tried_back (inr gone) =
          back_settled area prog q s at c ls f (later v m) o kept safe.sound
          (run_fails INFINITY s.infinity area prog q (names_of area) gone.now (qs ++ posts (store_touches gone.touches)) at (registers_of c) (stack_of c)
          (points area prog q s at c ls f v ns) f.budget f.answers f.events f.reductions
          (back_value INFINITY s.infinity area prog q (names_of area) h safe.sound.now.valid qs at (registers_of c) (stack_of c) (choices_in s c ls) f.budget
          f.answers f.events f.reductions v.variable m ns open_now.term gone.now gone.touches (gone.unified (names_of area)) gone.size back)
          (λ T m. gone.none T (model_wider INFINITY s.infinity (qs ++ posts (store_touches gone.touches)) safe.sound.greatest.1 T m)))

    module _ (sound : IsSound (with_mark s o)) (below : IsSameBelow (with_mark s o) s') where
      safe_now : IsSafe area (with_mark s o) at 0 (with_point c at o)
      safe_now = mark_safe area s at c safe o sound

      tried_safe : (equal : Bool) → Equates (with_mark s o) x z s' equal → IsSafeThen area s' (with_point c at o) (went_to at equal)
      tried_safe true e = moved_safe area (with_mark s o) at (with_point c at o) safe_now s' below e.sound (same_cells (with_mark s o) s' below.atoms e.size)
      tried_safe false e = goes_back area (with_mark s o) at (with_point c at o) safe_now s' below e.1

      opens : (w : ValuesLeft) (o : Option ValuesLeft) → IsKept (later v m) o → o ≡ Some w → IsOpen area s.heaps.now w
      opens w None k e = absurd (cc)
      opens w (Some u) k e =
          let same : u ≡ w = cc in
          subst (IsOpen area s.heaps.now) (sym k.0 ∙ same) (record { own = open_now.own; term = open_now.term })

      has_values : (w : ValuesLeft) (o : Option ValuesLeft) → IsKept (later v m) o → o ≡ Some w → HasValues w
      has_values w None k e = absurd (cc)
      has_values w (Some u) k e =
          let same : u ≡ w = cc in
          subst HasValues (sym k.0 ∙ same) k.1

      -- the work falls where the value fits
      on_falls : (o : Option ValuesLeft) → IsKept (later v m) o → (ls : List Left)
          → work_left area (with_point c at o) (went.On at) (lefts_of at o ++ ls) < work_left area (pointed c at) went.Back (left_of at v ∷ ls)
      on_falls None k ls =
          subst (λ ks. work_left area c (went.On at) ls < work_left area (pointed c at) went.Back (values ks v.variable at ∷ ls)) (sym left)
          (last_value_falls area at c (point_of c at ∷ c.points) refl m ns v.variable ls)
      on_falls (Some w) k ls =
          subst (λ (y : ValuesLeft). work_left area (pointed c at) (went.On at) (left_of at y ∷ ls) < work_left area (pointed c at) went.Back (left_of at v ∷ ls)) (sym k.0)
          (subst (λ ks. work_left area (pointed c at) (went.On at) (values ns v.variable at ∷ ls) < work_left area (pointed c at) went.Back (values ks v.variable at ∷ ls)) (sym left)
          (value_falls area at c (point_of c at ∷ c.points) refl m ns v.variable ls))

      -- and where it doesn't
      tried_falls : (equal : Bool) (ls : List Left) → work_left area (with_point c at o) (went_to at equal) (lefts_of at o ++ ls) < work_left area (pointed c at) went.Back (left_of at v ∷ ls)
      tried_falls true ls = on_falls o kept ls
      tried_falls false ls = (let f = on_falls o kept ls in let b = back_less area at (with_point c at o) in omega (arith, f, b))

      -- the machine's own choice points are these
      tried_runs : (equal : Bool) → Equates s x z s' equal → (prog : Program) (q : Query) (ls : List Left) (f : Future)
          → ReturnsTo area (task_of area prog q) (with_pair s) (pointed c at) (left_of at v ∷ ls) f
          → RunsWent area (task_of area prog q) s' (with_point c at o) (lefts_of at o ++ ls) (went_to at equal) f
      tried_runs true e prog q ls f g =
          let same = choices_same (with_mark s o) s' (with_point c at o) (lefts_of at o ++ ls) below in
          subst (λ N. Runs INFINITY N area prog q (names_of area) s'.heaps.now s'.levels.current.posted at (registers_of (with_point c at o))
          (stack_of (with_point c at o)) (choices_in s' (with_point c at o) (lefts_of at o ++ ls)) f.budget f.answers f.events f.reductions)
          (sym (below.infinity ∙ mark_infinity s o))
          (subst (λ regs. Runs INFINITY s.infinity area prog q (names_of area) s'.heaps.now s'.levels.current.posted at regs (stack_of (with_point c at o))
          (choices_in s' (with_point c at o) (lefts_of at o ++ ls)) f.budget f.answers f.events f.reductions) (registers_same c at o)
          (subst (λ st. Runs INFINITY s.infinity area prog q (names_of area) s'.heaps.now s'.levels.current.posted at (registers_of c) st
          (choices_in s' (with_point c at o) (lefts_of at o ++ ls)) f.budget f.answers f.events f.reductions) (stack_same c at o)
          (subst (λ cs. Going area prog q s at c ls f v s'.heaps.now s'.levels.current.posted cs) same (tried_on prog q ls f g e))))
      tried_runs false e prog q ls f g = (let same = choices_same (with_mark s o) s' (with_point c at o) (lefts_of at o ++ ls) below in
          subst (λ N. Returns INFINITY N area prog q (names_of area) (choices_in s' (with_point c at o) (lefts_of at o ++ ls)) f.budget f.answers f.events
          f.reductions) (sym (below.infinity ∙ mark_infinity s o)) (subst (λ cs. Back area prog q s at c ls f v cs) same (tried_back prog q ls f g e.0)))

      -- the least value, and what is left behind it
      pub tried_value : (equal : Bool) → Equates (with_mark s o) x z s' equal → IsTried area s at c v s' (with_point c at o) (record { went = went_to at equal; left = o })
      tried_value equal e = record {
        kept = refl;
        below = below;
        safe = tried_safe equal e;
        leads = stays_at at equal;
        opened = λ w i. opens w o kept i;
        some = λ w i. has_values w o kept i;
        falls = tried_falls equal;
        runs = tried_runs equal (marked_equates s o x z s' equal e);
      }

-- ---- the goal is taken

module _ (area : Area) (s : branch.State) (at : ℕ) (c : Contents) (safe : IsSafe area s at 0 c) (o : Order) (holds : Holds area at (step.Label o)) (d : Cell)
    (at_d : cell_at c.registers 1 ≡ Some d) where
  -- back to the labelling, with these values of a variable
  abbrev Waiting : Program → Query → List Left → ℕ → Option ℕ → List Event → ℕ → List ℕ → ℕ → Type 0
  Waiting prog q ls n k es r ks w = Returns INFINITY s.infinity area prog q (names_of area) (choices_in (with_pair s) (pointed c at) (values ks w at ∷ ls)) n k es r

  -- a fault ends the query
  pub label_faults : (e : QueryFault) → labelled_in (names_of area) s o d ≡ faults e → Labels area s at c s c (Took (Fault e))
  label_faults e i = (
    refl,
    refl,
    λ prog q ls n k es r runnable m. (
        let pair = safe.sound.now in
        run_label_fault INFINITY s.infinity area prog q (names_of area) s.heaps.now pair.valid s.levels.current.posted at (registers_of c) (stack_of c)
        (choices_in s c ls) k es r runnable n (family_of s.levels.current.sets) pair.settled.model pair.settled.most m o d at_d holds e i),
  )

  -- no member is open
  pub label_done : labelled_in (names_of area) s o d ≡ done → Labels area s at c s c (Took (On (suc at)))
  label_done i = (
    refl,
    refl,
    λ prog q ls n k es r runnable m. (
        let pair = safe.sound.now in
        run_label_done INFINITY s.infinity area prog q (names_of area) s.heaps.now pair.valid s.levels.current.posted at (registers_of c) (stack_of c)
        (choices_in s c ls) k es r runnable n (family_of s.levels.current.sets) pair.settled.model pair.settled.most m o d at_d holds i),
  )

  -- the values of a variable are tried
  pub label_tries : (i : ℕ) → labelled_in (names_of area) s o d ≡ labels i (values_of s i) → (vs : List ℕ) → vs ≡ values_of s i → IsRising 0 INFINITY vs
      → (v : ValuesLeft) → v.variable ≡ i → numbers_left v ≡ filter (λ k. nat_le 0 k) vs
      → (s' : branch.State) (c' : Contents) (t : Tried) → IsTried area s at c v s' c' t → Labels area s at c s' c' (Tries t)
  label_tries i told vs e rising v same left s' c' t tried = (
    tried.kept,
    tried.below,
    tried.opened,
    tried.some,
    λ prog q ls n k es r runnable m. (
        let pair = safe.sound.now in
        let all : numbers_left v ≡ values_of s i = left ∙ filter_from_low 0 0 INFINITY vs rising (omega arith) ∙ e in
        let g = run_label INFINITY s.infinity area prog q (names_of area) s.heaps.now pair.valid s.levels.current.posted at (registers_of c) (stack_of c)
        (choices_in s c ls) k es r runnable n (family_of s.levels.current.sets) pair.settled.model pair.settled.most m o d at_d holds i
        (values_of s i) told in
        spends_more (λ x j. Waiting prog q ls n k x j (values_of s i) i)
        (λ x j. RunsWent area (task_of area prog q) s' c' (lefts_of at t.left ++ ls) t.went
        (record { budget = n; answers = k; events = x; reductions = j }))
        (λ x j back. tried.runs prog q ls (record { budget = n; answers = k; events = x; reductions = j })
        (subst (λ w. Waiting prog q ls n k x j (numbers_left v) w) (sym same) (subst (λ ks. Waiting prog q ls n k x j ks i) (sym all) back)))
        [] es r g),
  )

-- ---- the work that the values bring

-- so many values at most of a point, beside others
most_of : (x p others n v m : ℕ) → x < (p + others) + (n * suc p + v) → n ≤ suc m → x ≤ suc (suc m) * suc ((p + others) + v)
most_of x p others n v m f count =
    let k = mul-le n (suc p) (suc m) (suc ((p + others) + v)) count (omega arith) in
    let e = one_more (suc m) ((p + others) + v) in
    omega (arith, f, k, e)

-- A variable has no more values than there are numbers.
pub tried_most : (area : Area) (s : branch.State) (at : ℕ) (c : Contents) (v : ValuesLeft) (vs : List ℕ) → IsRising 0 INFINITY vs
    → numbers_left v ≡ filter (λ k. nat_le 0 k) vs → (s' : branch.State) (c' : Contents) (t : Tried) → IsTried area s at c v s' c' t
    → BringsMost area at c c' (Tries t)
tried_most area s at c v vs rising left s' c' t tried ls =
    let all : numbers_left v ≡ vs = left ∙ filter_from_low 0 0 INFINITY vs rising (omega arith) in
    let size = rising_length 0 INFINITY vs rising (omega arith) in
    let count : length (numbers_left v) ≤ suc INFINITY = subst (λ (ks : List ℕ). length ks ≤ suc INFINITY) (sym all) (omega (arith, size)) in
    most_of (work_left area c' t.went (lefts_of at t.left ++ ls)) (thread_work (thread_of area at c.returns)) (work (point_threads area c.points))
    (length (numbers_left v)) (values_work area c.points ls) INFINITY (tried.falls ls) count

-- ---- all of it

-- the least value was tried, after the others were kept
pub value_tried : (area : Area) → IsPool area.pool → (s : branch.State) (at : ℕ) (c : Contents) → IsSafe area s at 0 c → (v : ValuesLeft)
    → IsOpen area s.heaps.now v → (m : ℕ) → numbers_left v ≡ m ∷ numbers_left (later v m) → (o : Option ValuesLeft) (s1 : branch.State) (c1 : Contents)
    → KeepsValues s at c (later v m) s1 c1 o → (s' : branch.State) → IsSameBelow s1 s' → (equal : Bool)
    → Equates s1 (cell.Ref v.variable) (cell.Int (pos m)) s' equal → (w : Went) → w ≡ went_to at equal
    → IsTried area s at c v s' c1 (record { went = w; left = o })
value_tried area pool s at c safe v opened m left o s1 c1 keeps s' below equal e w i =
    subst (λ (x : Went). IsTried area s at c v s' c1 (record { went = x; left = o })) (sym i)
    (subst (λ (x : Contents). IsTried area s at c v s' x (record { went = went_to at equal; left = o })) (sym keeps.pointed_at)
    (tried_value area pool s at c safe v opened m left o keeps.kept s' (subst IsSound keeps.marked keeps.sound) (subst (λ (x : branch.State). IsSameBelow x s') keeps.marked below) equal
    (subst (λ (x : branch.State). Equates x (cell.Ref v.variable) (cell.Int (pos m)) s' equal) keeps.marked e)))

-- the variable is one of the heap still
pub open_kept : (area : Area) (s : branch.State) (at : ℕ) (c : Contents) (v w : ValuesLeft) (o : Option ValuesLeft) (s1 : branch.State) (c1 : Contents)
    → KeepsValues s at c w s1 c1 o → IsOpen area s.heaps.now v → v.variable < length s1.heaps.now.slots
open_kept area s at c v w None s1 c1 keeps opened = subst (λ (x : branch.State). v.variable < length x.heaps.now.slots) (sym keeps.marked) opened.own
open_kept area s at c v w (Some u) s1 c1 keeps opened = subst (λ (x : branch.State). v.variable < length x.heaps.now.slots) (sym keeps.marked) opened.own

-- ---- coming back

-- A machine that took its newest choice point away was on its way back to a point with its registers, slots and continuations now.
pub back_at : (area : Area) (t : Task) (s s' : branch.State) (at : ℕ) (c c' : Contents) → IsUndone s s' → c.points ≡ point_of c' at ∷ c'.points
    → (l : Left) (ls : List Left) (f : Future) → ReturnsTo area t s c (l ∷ ls) f → ReturnsTo area t (with_pair s') (pointed c' at) (l ∷ ls) f
back_at area t s s' at c c' undone some l ls f m =
    subst (λ N. Returns INFINITY N area t.program t.query t.name
    (choices_of (point_of c' at ∷ c'.points) (s'.heaps.now ∷ s'.heaps.below) (s'.levels.current ∷ s'.levels.below) (l ∷ ls)) f.budget f.answers f.events
    f.reductions) (sym undone.infinity)
    (subst (λ hs. Returns INFINITY s.infinity area t.program t.query t.name
    (choices_of (point_of c' at ∷ c'.points) hs (s'.levels.current ∷ s'.levels.below) (l ∷ ls)) f.budget f.answers f.events f.reductions) undone.heaps
    (subst (λ vs. Returns INFINITY s.infinity area t.program t.query t.name (choices_of (point_of c' at ∷ c'.points) s.heaps.below vs (l ∷ ls)) f.budget f.answers f.events f.reductions) undone.levels
    (subst (λ ps. Returns INFINITY s.infinity area t.program t.query t.name (choices_of ps s.heaps.below s.levels.below (l ∷ ls)) f.budget f.answers f.events f.reductions) some m)))
