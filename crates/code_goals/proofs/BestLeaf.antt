-- The way to the best leaf of a labelling.
use Rattle.std.proofs.Common.{◌≡◌, ℕ, suc, ◌+◌, ◌<◌, ◌≤◌, ◌⊎◌, Bool, pos, List, [], ◌++◌, length, Option, Some, None, refl, sym, subst, inl, inr, arith}
use Rattle.std.proofs.lemmas.List.{length-map}
use Rattle.fd_language.specs.declared.TheConstants.{INFINITY}
use Rattle.fd_language.specs.Family.{Family}
use Rattle.fd_language.specs.Range.{Indexical}
use Rattle.fd_language.specs.Term.{Var}
use Rattle.fd_model.specs.declared.kinds.Order.{Order}
use Rattle.fd_model.specs.declared.kinds.QueryFault.{QueryFault}
use Rattle.fd_model.specs.Goal.{Program, Query, Event}
use Rattle.fd_model.specs.Labelling.{read_list, open_ones}
use Rattle.fd_model.specs.Members.{Member}
use Rattle.fd_model.specs.RunnablePrograms.{IsRunnableProgram}
use Rattle.heap_cells.specs.declared.Cell.{Cell}
use Rattle.heap_cells.specs.declared.Cell.TheVariants as cell
use Rattle.heap_cells.specs.Cells.{Cells}
use Rattle.heap_cells.specs.Terms.{term_of}
use Rattle.heap_cells.specs.SeenTerms.{seen_term}
use Rattle.branch_meaning.specs.RemainingEvents.{Spends}
use Rattle.branch_meaning.specs.Labelling.{labels, done, faults}
use Rattle.branch_meaning.specs.Store.{posts}
use Rattle.branch_lemmas.specs.Frames.{store_touches}
use Rattle.branch_lemmas.proofs.Lemmas.{full_one, model_wider}
use Rattle.term_pool.specs.PoolInvariant.{IsPool}
use Rattle.unify_core.specs.declared.Touch.{Touch}
use Rattle.unify_core.specs.PairReduction.{IsSameSize}
use Rattle.unify_core.specs.Unifications.{CannotUnify, IsUnified}
use Rattle.range_code.specs.Frames.{family_of}
use Rattle.sought_leaves.specs.LeafSearch.{search_fault}
use Rattle.branch_state.specs.States as branch
use Rattle.branch_state.specs.States.{IsSameBelow}
use Rattle.branch_goals.specs.Labels.{labelled_in, values_of}
use Rattle.branch_goals.specs.Searches.{firsts, seconds, IsSought}
use Rattle.wam_code.specs.declared.instruction.Code.TheVariants as step
use Rattle.wam_code.specs.Area.{Area, Holds}
use Rattle.code_areas.specs.Areas.{cell_at, Contents}
use Rattle.code_meaning.specs.BestLeafSearch.{Leads}
use Rattle.code_meaning.specs.MachineStates.{Left}
use Rattle.code_meaning.proofs.Lemmas.{spends_more, run_best_fault, run_best_none, run_best, lead_done, lead_no_fault, lead_value, lead_model}
use Rattle.code_safety.specs.Choices.{choices_in}
use Rattle.code_safety.specs.CellEquations.{AreEquated, HasNoModelFor}
use Rattle.code_safety.specs.Machine.{registers_of, stack_of}
use Rattle.code_safety.specs.Safety.{IsSafe}
use Rattle.code_safety.specs.RemainingEvents.{Future, RunsAt}
use Rattle.code_goals.specs.declared.goal_outcomes.Next.{Next}
use Rattle.code_goals.specs.declared.goal_outcomes.Next.TheVariants.{On, Back, Fault, Write, Newline}
use Rattle.code_goals.specs.BestLeaf.{Values, value_for, LeadsAt, IsLed, IsThere, LeadsTo}
use Rattle.code_goals.specs.Tasks.{names_of, task_of}
use Rattle.code_goals.specs.GoalOutcomes.{TakesBy, Takes}
use Rattle.code_goals.proofs.Numbers.{can_be}
use Rattle.code_goals.proofs.GoalSafety.{choices_same}

-- ---- one step after another

module _ (area : Area) (s : branch.State) (at : ℕ) (c : Contents) (o : Order) (least : Bool) (ps : Values) where
  pub led_none : IsLed area s at c o least ps s 0
  led_none prog q ls f left m = (left, (let same : left ≡ 0 + left = omega arith in same), m)

  pub led_once : (s1 s2 : branch.State) (i : ℕ) → IsLed area s at c o least ps s1 i → IsLed area s1 at c o least ps s2 1 → IsLed area s at c o least ps s2 (i + 1)
  led_once s1 s2 i one two prog q ls f left m =
      let a = one prog q ls f left m in
      let b = two prog q ls f a.0 a.2 in
      let all : left ≡ (i + 1) + b.0 = let e = a.1 in let g = b.1 in omega (arith, e, g) in
      (b.0, all, b.2)

  -- at the leaf behind some steps
  pub led_there : (s1 s2 : branch.State) (i : ℕ) → IsLed area s at c o least ps s1 i → (x : Next) → ((most : ℕ) → IsThere area s1 at c o least ps s2 most x)
      → IsThere area s at c o least ps s2 (length ps) x
  led_there s1 s2 i one (On to) there = λ prog q ls f left few m. (let a = one prog q ls f left m in there a.0 prog q ls f a.0 (omega arith) a.2)
  led_there s1 s2 i one Back there = λ prog q ls f left few m. (let a = one prog q ls f left m in there a.0 prog q ls f a.0 (omega arith) a.2)
  led_there s1 s2 i one (Fault g) there = λ prog q ls f left few m. (let a = one prog q ls f left m in there a.0 prog q ls f a.0 (omega arith) a.2)
  led_there s1 s2 i one (Write to) there = λ prog q ls f left few m. (let a = one prog q ls f left m in there a.0 prog q ls f a.0 (omega arith) a.2)
  led_there s1 s2 i one (Newline to) there = λ prog q ls f left few m. (let a = one prog q ls f left m in there a.0 prog q ls f a.0 (omega arith) a.2)

  -- there are no more steps than variables
  pub led_too_far : (s1 : branch.State) (i : ℕ) → length ps < i → IsLed area s at c o least ps s1 i → IsThere area s at c o least ps s1 (length ps) Back
  led_too_far s1 i far one prog q ls f left few m = let a = one prog q ls f left m in let e = a.1 in absurd (omega (arith, far, few, e))

-- ---- the goal is taken

module _ (area : Area) (s : branch.State) (at : ℕ) (c : Contents) (safe : IsSafe area s at 0 c) (o : Order) (least : Bool)
    (holds : Holds area at (step.Best o least)) (d e : Cell) (at_d : cell_at c.registers 1 ≡ Some d) (at_e : cell_at c.registers 2 ≡ Some e) where
  abbrev G : Family
  G = family_of s.levels.current.sets

  -- a fault ends the query
  pub best_faults : (x : QueryFault) → search_fault (read_list (seen_term (names_of area) s.heaps.now G d)) (seen_term (names_of area) s.heaps.now G e) ≡ Some x → Takes area s at c s (Fault x)
  best_faults x i prog q ls n k es r runnable m =
      let pair = safe.sound.now in
      run_best_fault INFINITY s.infinity area prog q (names_of area) s.heaps.now pair.valid s.levels.current.posted at (registers_of c) (stack_of c)
      (choices_in s c ls) k es r runnable n G pair.settled.model pair.settled.most m o least d e at_d at_e holds x i

  module _ (ms : List Member) where
    -- there is no leaf
    pub best_none : IsSought (names_of area) s o least d e ms None → Takes area s at c s Back
    best_none w prog q ls n k es r runnable m =
        let pair = safe.sound.now in
        run_best_none INFINITY s.infinity area prog q (names_of area) s.heaps.now pair.valid s.levels.current.posted at (registers_of c) (stack_of c)
        (choices_in s c ls) k es r runnable n G pair.settled.model pair.settled.most m o least d e at_d at_e holds safe.sound.greatest.1
        safe.sound.greatest.0 w.search.monotone ms w.cost_member w.own
        w.search.members w.search.costs w.search.among w.search.owned w.ranges w.search.begun w.values

    -- there is one, to which the machine goes
    module _ (ps : Values) (first : firsts ps ≡ open_ones ms) (w : IsSought (names_of area) s o least d e ms (Some (seconds ps))) where
      abbrev Led : Program → Query → List Left → ℕ → Option ℕ → List ℕ → ℕ → List Event → ℕ → Type 0
      Led prog q ls n k cells left es r = Leads INFINITY s.infinity area prog q (names_of area) o least cells (seconds ps) left s.heaps.now
          s.levels.current.posted at (registers_of c) (stack_of c) (choices_in s c ls) n k es r

      on_the_way : TakesBy area s at c (λ t ls n k es r. (left : ℕ) × (left ≤ length ps)
          × Spends (λ later j. LeadsAt area t.program t.query s at c ls o least ps left
          (record { budget = n; answers = k; events = later; reductions = j })) [] es r)
      on_the_way prog q ls n k es r runnable m =
          let pair = safe.sound.now in
          let led = subst (λ cells. (left : ℕ) × (left ≤ length cells) × Spends (Led prog q ls n k cells left) [] es r) (sym first)
          (run_best INFINITY s.infinity area prog q (names_of area) s.heaps.now pair.valid s.levels.current.posted at (registers_of c) (stack_of c)
          (choices_in s c ls) k es r runnable n G pair.settled.model pair.settled.most m o least d e at_d at_e holds safe.sound.greatest.1
          safe.sound.greatest.0 w.search.monotone ms w.cost_member w.own
          w.search.members w.search.costs w.search.among w.search.owned w.ranges w.search.begun (seconds ps) w.values) in
          (led.0, subst (λ l. led.0 ≤ l) (length-map ps (λ (p : ℕ × ℕ). p.0)) led.1, led.2)

      -- nothing else can come
      gone : (prog : Program) (q : Query) (ls : List Left) (n : ℕ) (k : Option ℕ) (es : List Event) (r : ℕ) → IsRunnableProgram INFINITY prog
          → RunsAt area (task_of area prog q) s at c ls (record { budget = suc n; answers = k; events = es; reductions = r })
          → ((prog : Program) (q : Query) (ls : List Left) (f : Future) (left : ℕ) → left ≤ length ps → LeadsAt area prog q s at c ls o least ps left f → ⊥) → ⊥
      gone prog q ls n k es r runnable m none =
          let way = on_the_way prog q ls n k es r runnable m in
          none prog q ls (record { budget = n; answers = k; events = way.2.0; reductions = way.2.1 }) way.0 way.1 way.2.4

      pub best_leads : (s' : branch.State) (x : Next) → LeadsTo area s at c o least ps s' x → Takes area s at c s' x
      best_leads s' (On to) there prog q ls n k es r runnable m =
          let way = on_the_way prog q ls n k es r runnable m in
          spends_more (λ later j. LeadsAt area prog q s at c ls o least ps way.0 (record { budget = n; answers = k; events = later; reductions = j }))
          (λ later j. RunsAt area (task_of area prog q) s' to c ls (record { budget = n; answers = k; events = later; reductions = j }))
          (λ later j l. there prog q ls (record { budget = n; answers = k; events = later; reductions = j }) way.0 way.1 l) [] es r way.2
      best_leads s' Back there prog q ls n k es r runnable m = absurd (gone prog q ls n k es r runnable m there)
      best_leads s' (Fault f) there prog q ls n k es r runnable m = absurd (gone prog q ls n k es r runnable m there)
      best_leads s' (Write to) there prog q ls n k es r runnable m = absurd (gone prog q ls n k es r runnable m there)
      best_leads s' (Newline to) there prog q ls n k es r runnable m = absurd (gone prog q ls n k es r runnable m there)

-- ---- a step on the way

module _ (area : Area) (pool : IsPool area.pool) (s : branch.State) (at : ℕ) (c : Contents) (safe : IsSafe area s at 0 c) (o : Order) (least : Bool) (d : Cell)
    (at_d : cell_at c.registers 1 ≡ Some d) (ps : Values) where
  abbrev h : Cells
  h = s.heaps.now

  abbrev qs : List Indexical
  qs = s.levels.current.posted

  -- no member is open: this is the leaf
  pub there_done : labelled_in (names_of area) s o d ≡ done → (most : ℕ) → IsThere area s at c o least ps s most (On (suc at))
  there_done i most prog q ls f left few m =
      let pair = safe.sound.now in
      lead_done INFINITY s.infinity area prog q (names_of area) h pair.valid qs at (registers_of c) (stack_of c) (choices_in s c ls) f.budget f.answers f.events
      f.reductions o least (firsts ps) (seconds ps) left m (family_of s.levels.current.sets) pair.settled.model pair.settled.most d at_d i

  -- the list is no fault
  pub there_fault : (x : QueryFault) → labelled_in (names_of area) s o d ≡ faults x → (most : ℕ) → IsThere area s at c o least ps s most (Fault x)
  there_fault x i most prog q ls f left few m =
      let pair = safe.sound.now in
      lead_no_fault INFINITY s.infinity area prog q (names_of area) h pair.valid qs at (registers_of c) (stack_of c) (choices_in s c ls) f.budget f.answers
      f.events f.reductions o least (firsts ps) (seconds ps) left m (family_of s.levels.current.sets) pair.settled.model pair.settled.most d at_d x i

  -- a variable takes its number
  module _ (v : ℕ) (i : labelled_in (names_of area) s o d ≡ labels v (values_of s v)) (open_now : term_of (names_of area) h (cell.Ref v) ≡ Var v) (s' : branch.State) where
    abbrev number : ℕ
    number = value_for ps v

    abbrev x : Cell
    x = cell.Ref v

    abbrev z : Cell
    z = cell.Int (pos number)

    -- on another heap, with what was touched
    step_on : (now : Cells) (ts : List Touch) → IsUnified (names_of area) h x z now ts → IsSameSize h now
        → (prog : Program) (q : Query) (ls : List Left) (f : Future) (left : ℕ) → LeadsAt area prog q s at c ls o least ps left f
        → (rest : ℕ) × (left ≡ suc rest) × Leads INFINITY s.infinity area prog q (names_of area) o least (firsts ps) (seconds ps) rest now
        (qs ++ posts (store_touches ts)) at (registers_of c) (stack_of c) (choices_in s c ls) f.budget f.answers f.events f.reductions
    step_on now ts u size prog q ls f left m =
        let pair = safe.sound.now in
        lead_value INFINITY s.infinity area prog q (names_of area) h pair.valid qs at (registers_of c) (stack_of c) (choices_in s c ls) f.budget f.answers
        f.events f.reductions o least (firsts ps) (seconds ps) left m (family_of s.levels.current.sets) pair.settled.model pair.settled.most d at_d v
        (values_of s v) i open_now now ts u size

    pub value_led : IsSameBelow s s' → AreEquated s x z s' → IsLed area s at c o least ps s' 1
    value_led below e prog q ls f left m =
        let k = step_on s'.heaps.now e.touches (e.unified (names_of area)) e.size prog q ls f left m in (
          k.0,
          (let e = k.1 in omega (arith, e)),
          subst (λ N. Leads INFINITY N area prog q (names_of area) o least (firsts ps) (seconds ps) k.0 s'.heaps.now s'.levels.current.posted at
              (registers_of c) (stack_of c) (choices_in s' c ls) f.budget f.answers f.events f.reductions) (sym below.infinity)
              (subst (λ cs. Leads INFINITY s.infinity area prog q (names_of area) o least (firsts ps) (seconds ps) k.0 s'.heaps.now s'.levels.current.posted at
              (registers_of c) (stack_of c) cs f.budget f.answers f.events f.reductions) (choices_same s s' c ls below)
              (subst (λ rs. Leads INFINITY s.infinity area prog q (names_of area) o least (firsts ps) (seconds ps) k.0 s'.heaps.now rs at (registers_of c)
              (stack_of c) (choices_in s c ls) f.budget f.answers f.events f.reductions) (sym e.posted) k.2)),
        )

    -- it can
    pub value_fits : CannotUnify h x z ⊎ HasNoModelFor s x z → (most : ℕ) → IsThere area s at c o least ps s' most Back
    value_fits (inl un) most prog q ls f left few m = absurd (can_be (names_of area) (full_one area.pool.names pool.distinct) h safe.sound.now.valid v (pos number) open_now un)
    value_fits (inr gone) most prog q ls f left few m =
        let k = step_on gone.now gone.touches (gone.unified (names_of area)) gone.size prog q ls f left m in
        let holds = lead_model INFINITY s.infinity area prog q (names_of area) gone.now (qs ++ posts (store_touches gone.touches)) at (registers_of c)
        (stack_of c) (choices_in s c ls) f.budget f.answers f.events f.reductions o least (firsts ps) (seconds ps) k.0 k.2 in
        gone.none holds.0 (model_wider INFINITY s.infinity (qs ++ posts (store_touches gone.touches)) safe.sound.greatest.1 holds.0 holds.1)
