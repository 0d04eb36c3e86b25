-- Constraints, taken.
use Rattle.std.proofs.Common.{◌≡◌, ℕ, suc, ◌+◌, zero, List, [], ◌∷◌, ◌++◌, length, All, Some, Result, Ok, Err, IfOk, OnOk, refl, ap, sym, ◌∙◌, subst, arith}
use Rattle.code_goals.proofs.AnswerSlots.{put_last, longer}
use Rattle.fd_language.specs.declared.TheConstants.{INFINITY}
use Rattle.fd_language.specs.Family.{Family}
use Rattle.fd_language.specs.Range.{Indexical}
use Rattle.fd_language.specs.Term.{Comp, apply, apply_all}
use Rattle.fd_model.specs.ConstraintExpansion.{arguments, expand}
use Rattle.fd_model.specs.LinearRows.{Expansion}
use Rattle.fd_model.specs.declared.kinds.ConstraintKind.{ConstraintKind}
use Rattle.fd_model.specs.declared.kinds.QueryFault.{QueryFault}
use Rattle.heap_cells.specs.declared.Cell.{Cell}
use Rattle.heap_cells.specs.Atoms.{IsAtomBelow}
use Rattle.heap_cells.specs.Cells.{Cells, IsOf}
use Rattle.heap_cells.specs.Terms.{term_of, terms_by}
use Rattle.branch_meaning.specs.RemainingEvents.{Spends}
use Rattle.fd_language.specs.SingleValues.{value_at}
use Rattle.range_code.specs.Frames.{family_of}
use Rattle.term_pool.specs.declared.AtomId.{AtomId}
use Rattle.branch_lemmas.specs.Frames.{link_in, IsGrown}
use Rattle.branch_state.specs.States as branch
use Rattle.branch_state.specs.States.{IsSameBelow, IsCell, HasNoModel}
use Rattle.branch_state.specs.Compounds.{IsMade}
use Rattle.branch_state.specs.Constraints.{row_of, Constrains}
use Rattle.branch_state.specs.declared.step.Step.TheVariants as outcome
use Rattle.wam_code.specs.declared.instruction.Code.TheVariants as step
use Rattle.wam_code.specs.Arities.{constraint_arity}
use Rattle.wam_code.specs.Area.{Area, Holds}
use Rattle.code_areas.specs.Areas.{cell_at, Contents}
use Rattle.code_meaning.specs.Registers.{AreIn}
use Rattle.code_meaning.specs.MachineStates.{Runs, Returns}
use Rattle.branch_state.proofs.Lemmas.{bounded_more}
use Rattle.code_meaning.proofs.Lemmas.{run_constraint_fault, run_constraint, run_constraint_failed, runs_bounded, spends_more}
use Rattle.code_safety.specs.Choices.{choices_in}
use Rattle.code_safety.specs.Machine.{registers_of, stack_of}
use Rattle.code_safety.specs.Safety.{IsSafe}
use Rattle.code_goals.specs.declared.goal_outcomes.Next.TheVariants.{On, Back, Fault}
use Rattle.code_goals.specs.Arguments.{IsGathered, IsGoal}
use Rattle.code_goals.specs.Tasks.{names_of}
use Rattle.code_goals.specs.GoalOutcomes.{IsSafeNext, Takes}
use Rattle.code_goals.proofs.GoalSafety.{choices_same, on_safe, goes_back}

-- ---- the cells of registers

-- none so far
pub gathered_none : (c : Contents) (cells : List Cell) → cells ≡ [] → IsGathered c 0 cells
gathered_none c cells e = subst (IsGathered c 0) (sym e) (refl, tt)

-- one more
pub gathered_more : (c : Contents) (n : ℕ) (cells : List Cell) (d : Cell) (new : List Cell) → IsGathered c n cells → cell_at c.registers (n + 1) ≡ Some d
    → new ≡ cells ++ d ∷ [] → IsGathered c (n + 1) new
gathered_more c n cells d new g e i =
    let size = g.0 in
    let place : n + 1 ≡ 1 + length cells = omega (arith, size) in
    subst (IsGathered c (n + 1)) (sym i) (
      longer cells d n size,
      put_last (cell_at c.registers) 1 cells d g.1 (subst (λ m. cell_at c.registers m ≡ Some d) place e),
    )

-- they are the branch's
pub gathered_own : (s : branch.State) (c : Contents) → ((n : ℕ) (d : Cell) → cell_at c.registers n ≡ Some d → IsCell s d) → (i : ℕ) (ds : List Cell)
    → AreIn (cell_at c.registers) i ds → All (IsCell s) ds
gathered_own s c own i [] g k d l = absurd (omega (arith, l))
gathered_own s c own i (d ∷ ds) g zero e l = own i d g.0
gathered_own s c own i (d ∷ ds) g (suc k) e l = gathered_own s c own (suc i) ds g.1 k e (omega (arith, l))

-- ---- the goal

-- the row of the goal's cell is that of the arguments' cells
row_is : (area : Area) (s : branch.State) (k : ConstraintKind) (f : AtomId) (cells : List Cell) (d : Cell)
    → term_of (names_of area) s.heaps.now d ≡ Comp (names_of area f) (terms_by (term_of (names_of area) s.heaps.now) cells)
    → expand INFINITY k (apply_all (λ e. value_at (link_in s.heaps.now e) (family_of s.levels.current.sets) e)
    (terms_by (term_of (names_of area) s.heaps.now) cells)) (length s.heaps.now.slots) ≡ row_of area.pool.names s k d
row_is area s k f cells d e = sym (ap (λ t. expand INFINITY k (arguments (apply (λ i. value_at (link_in s.heaps.now i) (family_of s.levels.current.sets) i) t)) (length s.heaps.now.slots)) e)

module _ (area : Area) (s : branch.State) (at : ℕ) (c : Contents) (safe : IsSafe area s at 0 c) (kd : ConstraintKind) (f : Holds area at (step.Constrain kd))
    (d : Cell) (goal : IsGoal area s c (constraint_arity kd) d) where
  abbrev h : Cells
  h = s.heaps.now

  abbrev qs : List Indexical
  qs = s.levels.current.posted

  abbrev G : Family
  G = family_of s.levels.current.sets

  row : (x : Result Expansion QueryFault) → row_of area.pool.names s kd d ≡ x
      → expand INFINITY kd (apply_all (λ e. value_at (link_in h e) G e) (terms_by (term_of (names_of area) h) goal.cells)) (length h.slots) ≡ x
  row x e = row_is area s kd goal.name goal.cells d goal.term ∙ e

  -- a fault ends the query
  pub constraint_fault : (e : QueryFault) (s' s'' : branch.State) → Constrains area.pool.names s kd d s' (outcome.Fault e) → Takes area s at c s'' (Fault e)
  constraint_fault e s' s'' told prog q ls n k es r runnable m =
      let pair = safe.sound.now in
      run_constraint_fault INFINITY s.infinity area prog q (names_of area) h pair.valid qs at (registers_of c) (stack_of c) (choices_in s c ls) k es r runnable
      n G pair.settled.model pair.settled.most m kd goal.cells goal.gathered.1 goal.gathered.0 f e (row (Err e) told.0)

  module _ (s' : branch.State) (below : IsSameBelow s s') where
    -- the row is posted, and the machine goes on
    pub constraint_kept : Constrains area.pool.names s kd d s' outcome.Kept → Takes area s at c s' (On (suc at))
    constraint_kept told prog q ls n k es r runnable m =
        let pair = safe.sound.now in
        let ps = told.0.0 in
        let x = told.0.1 in
        subst (λ N. Spends (λ later j. Runs INFINITY N area prog q (names_of area) s'.heaps.now s'.levels.current.posted (suc at) (registers_of c) (stack_of c)
        (choices_in s' c ls) n k later j) [] es r) (sym below.infinity)
        (subst (λ cs. Spends (λ later j. Runs INFINITY s.infinity area prog q (names_of area) s'.heaps.now s'.levels.current.posted (suc at) (registers_of c)
        (stack_of c) cs n k later j) [] es r) (choices_same s s' c ls below)
        (spends_more (λ later j. Runs INFINITY s.infinity area prog q (names_of area) s'.heaps.now ps (suc at) (registers_of c) (stack_of c) (choices_in s c ls) n k later j)
        (λ later j. Runs INFINITY s.infinity area prog q (names_of area) s'.heaps.now s'.levels.current.posted (suc at) (registers_of c) (stack_of c) (choices_in s c ls) n k later j)
        (λ later j w. runs_bounded INFINITY s.infinity safe.sound.greatest.1 area (names_of area) s'.heaps.now ps s'.levels.current.posted
        (bounded_more s.infinity s.levels.current told.0.0 s'.levels.current told.0.2) (suc at) (registers_of c) (stack_of c) prog q (choices_in s c ls) n k
        later j w) [] es r
        (subst (λ ts. Spends (λ later j. Runs INFINITY s.infinity area prog q (names_of area) s'.heaps.now ts (suc at) (registers_of c) (stack_of c)
        (choices_in s c ls) n k later j) [] es r) (sym x.after)
        (run_constraint INFINITY s.infinity area prog q (names_of area) h pair.valid qs at (registers_of c) (stack_of c) (choices_in s c ls) k es r runnable n G
        pair.settled.model pair.settled.most m kd goal.cells goal.gathered.1 goal.gathered.0 f
        x.row (row (Ok x.row) x.is) s'.heaps.now x.link x.ranges x.new x.touches x.linked))))

    -- or it has no model, and the machine goes back
    pub constraint_failed : Constrains area.pool.names s kd d s' outcome.Failed → Takes area s at c s' Back
    constraint_failed told prog q ls n k es r runnable m =
        let pair = safe.sound.now in
        let x = told.0.1 in
        subst (λ N. Spends (λ later j. Returns INFINITY N area prog q (names_of area) (choices_in s' c ls) n k later j) [] es r) (sym below.infinity)
        (subst (λ cs. Spends (λ later j. Returns INFINITY s.infinity area prog q (names_of area) cs n k later j) [] es r) (choices_same s s' c ls below)
        (run_constraint_failed INFINITY s.infinity area prog q (names_of area) h pair.valid qs at (registers_of c) (stack_of c) (choices_in s c ls) k es r
        runnable n G pair.settled.model pair.settled.most m kd goal.cells goal.gathered.1 goal.gathered.0 f
        x.row (row (Ok x.row) x.is) s'.heaps.now x.link x.ranges x.new x.touches x.linked (subst (HasNoModel s.infinity) x.after told.0.2)))

    -- safe after the row
    pub kept_safe : Constrains area.pool.names s kd d s' outcome.Kept → IsSafeNext area s' c (On (suc at))
    kept_safe told =
        on_safe area s at c (step.Constrain kd) (constraint_arity kd) safe f (λ t. refl) refl s' below told.1
        (λ e o. (told.0.1.linked.own e o.0, subst (λ n. IsAtomBelow n e) (sym below.atoms) o.1))

    -- and on the way back
    pub failed_safe : Constrains area.pool.names s kd d s' outcome.Failed → IsSafeNext area s' c Back
    failed_safe told = goes_back area s at c safe s' below told.1

-- the goal that is made of the gathered cells
pub goal_made : (area : Area) (s s1 : branch.State) (c : Contents) (n : ℕ) (f : AtomId) (cells : List Cell) → IsGathered c n cells
    → ((e : Cell) → IsOf s.heaps.now e → term_of (names_of area) s1.heaps.now e ≡ term_of (names_of area) s.heaps.now e)
    → All (IsCell s) cells → (d : Cell) → IsMade f cells s s1 d → IsGoal area s1 c n d
goal_made area s s1 c n f cells g same own d m = record {
  name = f;
  cells = cells;
  gathered = g;
  term = m.term (names_of area) ∙ ap (Comp (names_of area f)) (terms cells own);
} where
  terms : (ds : List Cell) → All (IsCell s) ds → terms_by (term_of (names_of area) s.heaps.now) ds ≡ terms_by (term_of (names_of area) s1.heaps.now) ds
  terms [] a = refl
  terms (x ∷ ds) a =
      let one = same x (a 0 x (omega arith)).0 in
      let more = terms ds (λ k e l. a (suc k) e (omega (arith, l))) in
      cc

-- the same of the call that makes it
pub goal_ready : {E : Type 0} (area : Area) (s s1 : branch.State) (c : Contents) (n : ℕ) (f : AtomId) (cells : List Cell) → IsGathered c n cells
    → All (IsCell s) cells → (r : Result Cell E) → IfOk r (IsMade f cells s s1) → IfOk r (IsGoal area s1 c n)
goal_ready area s s1 c n f cells g own (Ok d) m = goal_made area s s1 c n f cells g (λ e o. m.grown.terms (names_of area) e o) own d m
goal_ready area s s1 c n f cells g own (Err e) m = tt

-- the goal's cell is the branch's
pub made_own : {E : Type 0} (s s1 : branch.State) (f : AtomId) (cells : List Cell) (r : Result Cell E) → IfOk r (IsMade f cells s s1) → IfOk r (IsCell s1)
made_own s s1 f cells (Ok d) m = m.own
made_own s s1 f cells (Err e) m = tt

-- the heap has grown
pub made_grown : {E : Type 0} (s s1 : branch.State) (f : AtomId) (cells : List Cell) (r : Result Cell E) → IfOk r (IsMade f cells s s1) → OnOk r (IsGrown s.heaps.now s1.heaps.now)
made_grown s s1 f cells (Ok d) m = m.grown
made_grown s s1 f cells (Err e) m = tt
