-- Ranges, posted.
use Rattle.std.proofs.Common.{◌≡◌, ℕ, suc, List, [], ◌∷◌, length, drop, All, Some, refl, ap, sym, ◌∙◌, subst, arith}
use Rattle.fd_language.specs.declared.TheConstants.{INFINITY}
use Rattle.fd_language.specs.Family.{Family}
use Rattle.fd_language.specs.Range.{Range, Indexical}
use Rattle.fd_model.specs.declared.kinds.QueryFault.{QueryFault}
use Rattle.heap_cells.specs.declared.Cell.{Cell}
use Rattle.heap_cells.specs.Atoms.{IsAtomBelow}
use Rattle.branch_meaning.specs.RemainingEvents.{Spends}
use Rattle.range_code.specs.Frames.{family_of}
use Rattle.range_code.specs.Slots.{slots_of}
use Rattle.branch_state.specs.States as branch
use Rattle.branch_state.specs.States.{IsCell, IsSameBelow}
use Rattle.branch_state.specs.CellPosts.{PostsCells}
use Rattle.branch_state.specs.declared.step.Step.{Step}
use Rattle.branch_state.specs.declared.step.Step.TheVariants as outcome
use Rattle.wam_code.specs.declared.instruction.Code.TheVariants as step
use Rattle.wam_code.specs.Area.{Area, Holds, range_at}
use Rattle.code_areas.specs.Areas.{cell_at, Contents}
use Rattle.code_meaning.specs.Registers.{AreIn}
use Rattle.code_meaning.specs.MachineStates.{Runs, Returns}
use Rattle.branch_state.proofs.Lemmas.{bounded_more}
use Rattle.code_meaning.proofs.Lemmas.{spends_more, run_fails, run_range_fault, run_range, runs_bounded}
use Rattle.code_safety.specs.Choices.{choices_in}
use Rattle.code_safety.specs.Machine.{registers_of, stack_of}
use Rattle.code_safety.specs.Safety.{IsSafe}
use Rattle.code_goals.specs.declared.goal_outcomes.Next.TheVariants.{On, Back, Fault}
use Rattle.code_goals.specs.Arguments.{IsGathered}
use Rattle.code_goals.specs.Posting.{PostsAt}
use Rattle.code_goals.specs.Tasks.{names_of}
use Rattle.code_goals.specs.GoalOutcomes.{IsSafeNext, Takes}
use Rattle.code_goals.proofs.ConstraintGoals.{gathered_own}
use Rattle.code_goals.proofs.GoalSafety.{choices_same, on_safe, goes_back}

-- one register for the target, and one for each variable of the range
pub registers_counted : (area : Area) (s : branch.State) (at : ℕ) (c : Contents) → IsSafe area s at 0 c → (number args : ℕ)
    → Holds area at (step.PostRange number args) → args ≡ suc (length (slots_of (range_at area number)))
registers_counted area s at c safe number args holds = (safe.verified.there at (step.PostRange number args) holds).1

-- the gathered cells behind the first one
pub gathered_rest : (c : Contents) (n : ℕ) (cells : List Cell) → IsGathered c (suc n) cells → (length (drop 1 cells) ≡ n) × AreIn (cell_at c.registers) 2 (drop 1 cells)
gathered_rest c n [] g = (let e = g.0 in absurd (omega (arith, e)))
gathered_rest c n (d ∷ ds) g = (let e = g.0 in (omega (arith, e), g.1.1))

module _ (area : Area) (s : branch.State) (at : ℕ) (c : Contents) (safe : IsSafe area s at 0 c) (number args : ℕ)
    (holds : Holds area at (step.PostRange number args)) (d : Cell) (at_d : cell_at c.registers 1 ≡ Some d) (ds : List Cell)
    (cells : AreIn (cell_at c.registers) 2 ds)
    (counted : length ds ≡ length (slots_of (range_at area number))) where
  abbrev qs : List Indexical
  qs = s.levels.current.posted

  abbrev G : Family
  G = family_of s.levels.current.sets

  abbrev R : Range
  R = range_at area number

  -- a fault ends the query
  pub post_fault : (e : QueryFault) (s' s'' : branch.State) → PostsCells s d ds R s' (outcome.Fault e) → Takes area s at c s'' (Fault e)
  post_fault e s' s'' told prog q ls n k es r runnable m =
      let pair = safe.sound.now in
      run_range_fault INFINITY s.infinity area prog q (names_of area) s.heaps.now pair.valid qs at (registers_of c) (stack_of c) (choices_in s c ls) k es r
      runnable n G pair.settled.model pair.settled.most m number args d at_d ds cells counted holds e (told (names_of area)).0

  module _ (s' : branch.State) (below : IsSameBelow s s') where
    -- the range is posted, and the machine goes on
    pub post_kept : PostsCells s d ds R s' outcome.Kept → Takes area s at c s' (On (suc at))
    post_kept told prog q ls n k es r runnable m =
        let pair = safe.sound.now in
        let kept = (told (names_of area)).0 in
        let ps = kept.0 in
        let x = kept.1 in
        subst (λ N. Spends (λ later j. Runs INFINITY N area prog q (names_of area) s'.heaps.now s'.levels.current.posted (suc at) (registers_of c) (stack_of c)
        (choices_in s' c ls) n k later j) [] es r) (sym below.infinity)
        (subst (λ cs. Spends (λ later j. Runs INFINITY s.infinity area prog q (names_of area) s'.heaps.now s'.levels.current.posted (suc at) (registers_of c)
        (stack_of c) cs n k later j) [] es r) (choices_same s s' c ls below)
        (spends_more (λ later j. Runs INFINITY s.infinity area prog q (names_of area) s'.heaps.now ps (suc at) (registers_of c) (stack_of c) (choices_in s c ls) n k later j)
        (λ later j. Runs INFINITY s.infinity area prog q (names_of area) s'.heaps.now s'.levels.current.posted (suc at) (registers_of c) (stack_of c) (choices_in s c ls) n k later j)
        (λ later j w. runs_bounded INFINITY s.infinity safe.sound.greatest.1 area (names_of area) s'.heaps.now ps s'.levels.current.posted
        (bounded_more s.infinity s.levels.current kept.0 s'.levels.current kept.2) (suc at) (registers_of c) (stack_of c) prog q (choices_in s c ls) n k
        later j w) [] es r
        (subst (λ ts. Spends (λ later j. Runs INFINITY s.infinity area prog q (names_of area) s'.heaps.now ts (suc at) (registers_of c) (stack_of c)
        (choices_in s c ls) n k later j) [] es r) (sym x.after)
        (run_range INFINITY s.infinity area prog q (names_of area) s.heaps.now pair.valid qs at (registers_of c) (stack_of c) (choices_in s c ls) k es r
        runnable n G pair.settled.model pair.settled.most m number args d at_d ds cells counted holds
        x.fine x.slot s'.heaps.now x.touches x.linked))))

    -- or the store has no model then, and the machine goes back
    pub post_failed : PostsCells s d ds R s' outcome.Failed → Takes area s at c s' Back
    post_failed told prog q ls n k es r runnable m =
        let pair = safe.sound.now in
        let failed = (told (names_of area)).0 in
        let ps = failed.0 in
        let x = failed.1 in
        subst (λ N. Spends (λ later j. Returns INFINITY N area prog q (names_of area) (choices_in s' c ls) n k later j) [] es r) (sym below.infinity)
        (subst (λ cs. Spends (λ later j. Returns INFINITY s.infinity area prog q (names_of area) cs n k later j) [] es r) (choices_same s s' c ls below)
        (spends_more (λ later j. Runs INFINITY s.infinity area prog q (names_of area) s'.heaps.now ps (suc at) (registers_of c) (stack_of c) (choices_in s c ls)
        n k later j) (λ later j. Returns INFINITY s.infinity area prog q (names_of area) (choices_in s c ls) n k later j)
        (λ later j w. run_fails INFINITY s.infinity area prog q (names_of area) s'.heaps.now ps (suc at) (registers_of c) (stack_of c) (choices_in s c ls) n k later j w failed.2) [] es r
        (subst (λ ts. Spends (λ later j. Runs INFINITY s.infinity area prog q (names_of area) s'.heaps.now ts (suc at) (registers_of c) (stack_of c)
        (choices_in s c ls) n k later j) [] es r) (sym x.after)
        (run_range INFINITY s.infinity area prog q (names_of area) s.heaps.now pair.valid qs at (registers_of c) (stack_of c) (choices_in s c ls) k es r
        runnable n G pair.settled.model pair.settled.most m number args d at_d ds cells counted holds
        x.fine x.slot s'.heaps.now x.touches x.linked))))

    -- safe where the range is posted
    pub posted_safe : PostsCells s d ds R s' outcome.Kept → IsSafeNext area s' c (On (suc at))
    posted_safe told =
        let x = told (names_of area) in
        on_safe area s at c (step.PostRange number args) args safe holds (λ t. refl) refl s' below x.1
        (λ e o. (x.0.1.linked.own e o.0, subst (λ n. IsAtomBelow n e) (sym below.atoms) o.1))

    -- and on the way back
    pub unposted_safe : PostsCells s d ds R s' outcome.Failed → IsSafeNext area s' c Back
    unposted_safe told = goes_back area s at c safe s' below (told (names_of area)).1

-- ---- by the cells that are gathered

module _ (area : Area) (s : branch.State) (at : ℕ) (c : Contents) (safe : IsSafe area s at 0 c) (r : Range) (args : ℕ) (f : PostsAt area at r args)
    (items : List Cell) (gathered : IsGathered c args items) (view ds : List Cell) (seen : view ≡ items) (behind : ds ≡ drop 1 view) where
  size : args ≡ suc (length (slots_of (range_at area f.0)))
  size = registers_counted area s at c safe f.0 args f.1

  rest : (length ds ≡ length (slots_of (range_at area f.0))) × AreIn (cell_at c.registers) 2 ds
  rest =
      let n = length (slots_of (range_at area f.0)) in
      subst (λ (cells : List Cell). (length cells ≡ n) × AreIn (cell_at c.registers) 2 cells) (sym (behind ∙ ap (drop 1) seen))
      (gathered_rest c n items (subst (λ m. IsGathered c m items) size gathered))

  -- as many as the range has variables
  pub rest_counted : length ds ≡ length (slots_of r)
  rest_counted = subst (λ (x : Range). length ds ≡ length (slots_of x)) (sym f.2) rest.0

  -- the branch's
  pub rest_own : All (IsCell s) ds
  rest_own = gathered_own s c safe.here.registers_own 2 ds rest.1

  module _ (d : Cell) (at_d : cell_at c.registers 1 ≡ Some d) (s' : branch.State) (x : Step) (did : PostsCells s d ds r s' x) where
    told : (y : Step) → x ≡ y → PostsCells s d ds (range_at area f.0) s' y
    told y e = subst (PostsCells s d ds (range_at area f.0) s') e (subst (λ (z : Range). PostsCells s d ds z s' x) f.2 did)

    -- the goal is taken
    pub fault_takes : (e : QueryFault) → x ≡ outcome.Fault e → Takes area s at c s' (Fault e)
    fault_takes e i = post_fault area s at c safe f.0 args f.1 d at_d ds rest.1 rest.0 e s' s' (told (outcome.Fault e) i)

    module _ (below : IsSameBelow s s') where
      pub kept_takes : x ≡ outcome.Kept → (to : ℕ) → to ≡ suc at → Takes area s at c s' (On to)
      kept_takes i to e = subst (λ n. Takes area s at c s' (On n)) (sym e) (post_kept area s at c safe f.0 args f.1 d at_d ds rest.1 rest.0 s' below (told outcome.Kept i))

      pub failed_takes : x ≡ outcome.Failed → Takes area s at c s' Back
      failed_takes i = post_failed area s at c safe f.0 args f.1 d at_d ds rest.1 rest.0 s' below (told outcome.Failed i)

      -- and what is next is safe
      pub kept_next : x ≡ outcome.Kept → (to : ℕ) → to ≡ suc at → IsSafeNext area s' c (On to)
      kept_next i to e = subst (λ n. IsSafeNext area s' c (On n)) (sym e) (posted_safe area s at c safe f.0 args f.1 d at_d ds rest.1 rest.0 s' below (told outcome.Kept i))

      pub failed_next : x ≡ outcome.Failed → IsSafeNext area s' c Back
      failed_next i = unposted_safe area s at c safe f.0 args f.1 d at_d ds rest.1 rest.0 s' below (told outcome.Failed i)
