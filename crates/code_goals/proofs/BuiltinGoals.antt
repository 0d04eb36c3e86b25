-- Built-in goals, taken.
use Rattle.std.proofs.Common.{◌≡◌, ℕ, zero, suc, All, ◌≤◌, Bool, true, false, List, [], ◌∷◌, ◌++◌, Option, Some, Result, Ok, Err, IfOk, OnOk, refl, ap, sym}
use Rattle.std.proofs.Common.{subst, inl, inr, arith}
use Rattle.fd_language.specs.declared.TheConstants.{INFINITY}
use Rattle.fd_language.specs.Family.{Family, IsInside}
use Rattle.fd_language.specs.Range.{Indexical}
use Rattle.fd_language.specs.Term.{Name, Term, Substitution}
use Rattle.fd_model.specs.declared.kinds.BuiltinKind.{BuiltinKind}
use Rattle.fd_model.specs.declared.kinds.BuiltinKind.TheVariants as kind
use Rattle.fd_model.specs.declared.kinds.QueryFault.{QueryFault}
use Rattle.fd_model.specs.Goal as model
use Rattle.fd_model.specs.Goal.{Goal, Branch, Program, Query, Event}
use Rattle.fd_model.specs.Levels.{Levels}
use Rattle.fd_model.specs.Lines.{says}
use Rattle.fd_model.specs.Models.{IsModel}
use Rattle.heap_cells.specs.declared.Cell.{Cell}
use Rattle.heap_cells.specs.Cells.{Cells}
use Rattle.heap_cells.specs.Terms.{Naming, IsOneToOne}
use Rattle.unify_core.specs.declared.Touch.{Touch}
use Rattle.unify_core.specs.PairReduction.{IsSameSize}
use Rattle.unify_core.specs.Touches.{IsRefuted}
use Rattle.unify_core.specs.Unifications.{IsUnified, cells_equal}
use Rattle.branch_meaning.specs.RemainingEvents.{Spends}
use Rattle.branch_meaning.specs.Store.{posts}
use Rattle.term_pool.specs.PoolInvariant.{IsPool}
use Rattle.branch_lemmas.specs.Frames.{store_touches, IsGrown}
use Rattle.branch_lemmas.proofs.Lemmas.{full_one, full_own}
use Rattle.range_code.specs.Frames.{family_of}
use Rattle.branch_state.specs.States as branch
use Rattle.branch_state.specs.States.{IsSound, IsSameBelow, IsCell, with_heap}
use Rattle.branch_goals.specs.declared.builtin_findings.Found.{Found}
use Rattle.branch_goals.specs.declared.builtin_findings.Found.TheVariants as finding
use Rattle.branch_goals.specs.Findings.{Finds, IsNaming}
use Rattle.wam_code.specs.declared.instruction.Code.{Code}
use Rattle.wam_code.specs.declared.instruction.Code.TheVariants as step
use Rattle.wam_code.specs.Arities.{builtin_arity}
use Rattle.wam_code.specs.Area.{Area, Holds}
use Rattle.wam_code.specs.Places.{Places}
use Rattle.wam_code.specs.CodeMeaning.{NamedRule, BuiltinRule}
use Rattle.code_areas.specs.Areas.{cell_at, IsSet, Contents}
use Rattle.code_meaning.specs.Registers.{Registers, Saved}
use Rattle.code_meaning.specs.ClauseChoices.{IsFirst}
use Rattle.code_meaning.specs.MachineStates.{Left, Choice, Runs, Returns}
use Rattle.code_meaning.proofs.Lemmas.{spends_more, run_true, run_fail, run_false, run_unify, run_refuted, run_found_fault, run_found_true, run_found_false}
use Rattle.code_meaning.proofs.Lemmas.{run_found_refuted, run_found_equated, run_newline, run_write, run_fails}
use Rattle.code_safety.specs.Choices.{choices_in}
use Rattle.code_safety.specs.Machine.{registers_of, stack_of}
use Rattle.code_safety.specs.Safety.{IsSafe}
use Rattle.code_safety.specs.CellEquations.{Equates}
use Rattle.code_safety.proofs.Lemmas.{same_cells, same_below, below_heap}
use Rattle.code_goals.specs.declared.goal_outcomes.Next.{Next}
use Rattle.code_goals.specs.declared.goal_outcomes.Next.TheVariants.{On, Back, Fault, Write, Newline}
use Rattle.code_goals.specs.Builtins.{IsFound, IsSecond, ComesTo}
use Rattle.code_goals.specs.Tasks.{names_of, task_of}
use Rattle.code_goals.specs.GoalTexts.{text_at}
use Rattle.code_goals.specs.GoalOutcomes.{next_by, IsSafeNext, LeadsNext, RunsNext, Takes, SaysNothing}
use Rattle.branch_lemmas.proofs.Lemmas.{model_wider}
use Rattle.code_goals.proofs.GrownHeaps.{runs_grown}
use Rattle.code_goals.proofs.GoalSafety.{choices_same, sound_below, grown_cells, arguments_there, moved_safe, on_safe, on_same, goes_back}

-- no two atoms have one name
pub one_name : (area : Area) → IsPool area.pool → IsOneToOne (names_of area)
one_name area pool = full_one area.pool.names pool.distinct

-- ---- two cells that are to be equal

-- What is to come where they are, and where they can't be.
module _ (area : Area) (pool : IsPool area.pool) (s : branch.State) (small : s.infinity ≤ INFINITY) (at : ℕ) (c : Contents) (x y : Cell) (prog : Program)
    (q : Query) (ls : List Left) (n : ℕ) (k : Option ℕ) (es : List Event) (r : ℕ) where
  abbrev With : List Choice → Cells → List Indexical → List Event → ℕ → Type 0
  With cs now ps later j = Runs INFINITY s.infinity area prog q (names_of area) now ps (suc at) (registers_of c) (stack_of c) cs n k later j

  abbrev Without : List Choice → List Event → ℕ → Type 0
  Without cs later j = Returns INFINITY s.infinity area prog q (names_of area) cs n k later j

  abbrev cs : List Choice
  cs = choices_in s c ls

  equated_next : ((now : Cells) (ts : List Touch) → IsUnified (names_of area) s.heaps.now x y now ts → IsSameSize s.heaps.now now
      → Spends (With cs now (s.levels.current.posted ++ posts (store_touches ts))) [] es r)
      → (IsRefuted s.heaps.now (cells_equal (names_of area) s.heaps.now x y) → Spends (Without cs) [] es r) → (s' : branch.State) → IsSameBelow s s'
      → (equal : Bool) → Equates s x y s' equal → RunsNext area (task_of area prog q) s' c ls n k es r (next_by at equal)
  equated_next so else s' below true e =
      subst (λ N. Spends (λ later j. Runs INFINITY N area prog q (names_of area) s'.heaps.now s'.levels.current.posted (suc at) (registers_of c) (stack_of c)
      (choices_in s' c ls) n k later j) [] es r) (sym below.infinity)
      (subst (λ xs. Spends (With xs s'.heaps.now s'.levels.current.posted) [] es r) (choices_same s s' c ls below)
      (subst (λ ps. Spends (With cs s'.heaps.now ps) [] es r) (sym e.posted) (so s'.heaps.now e.touches (e.unified (names_of area)) e.size)))
  equated_next so else s' below false e =
      let gone_back : Spends (Without cs) [] es r = elim e.0 [
        | inl un ↦ else (un (names_of area) (one_name area pool))
        | inr gone ↦
            let ps = s.levels.current.posted ++ posts (store_touches gone.touches) in
            spends_more (With cs gone.now ps) (Without cs)
            (λ later j w. run_fails INFINITY s.infinity area prog q (names_of area) gone.now ps (suc at) (registers_of c) (stack_of c) cs n k later j w
            (λ T m. gone.none T (model_wider INFINITY s.infinity ps small T m))) [] es r (so gone.now gone.touches (gone.unified (names_of area)) gone.size)
      ] in
      subst (λ N. Spends (λ later j. Returns INFINITY N area prog q (names_of area) (choices_in s' c ls) n k later j) [] es r) (sym below.infinity)
      (subst (λ xs. Spends (Without xs) [] es r) (choices_same s s' c ls below) gone_back)

-- ---- each goal

module _ (area : Area) (s : branch.State) (at : ℕ) (c : Contents) (safe : IsSafe area s at 0 c) where
  abbrev h : Cells
  h = s.heaps.now

  abbrev qs : List Indexical
  qs = s.levels.current.posted

  abbrev G : Family
  G = family_of s.levels.current.sets

  abbrev regs : Registers
  regs = registers_of c

  abbrev stack : List Saved
  stack = stack_of c

  abbrev name : Naming
  name = names_of area

  known : IsModel INFINITY s.infinity [] qs G
  known = safe.sound.now.settled.model

  most : (R : Family) → IsModel INFINITY s.infinity [] qs R → IsInside R G
  most = safe.sound.now.settled.most

  -- true
  pub true_taken : Holds area at (step.Builtin kind.True) → Takes area s at c s (On (suc at))
  true_taken f prog q ls n k es r runnable m = run_true INFINITY s.infinity area prog q name h qs at regs stack (choices_in s c ls) k es r runnable n (G, known) m f

  -- fail
  pub fail_taken : Holds area at (step.Builtin kind.Fail) → Takes area s at c s Back
  fail_taken f prog q ls n k es r runnable m = run_fail INFINITY s.infinity area prog q name h qs at regs stack (choices_in s c ls) k es r runnable n (G, known) m f

  -- false
  pub false_taken : Holds area at (step.Builtin kind.False) → Takes area s at c s Back
  false_taken f prog q ls n k es r runnable m = run_false INFINITY s.infinity area prog q name h qs at regs stack (choices_in s c ls) k es r runnable n (G, known) m f

  -- nl
  pub newline_taken : Holds area at (step.Builtin kind.Nl) → Takes area s at c s (Newline (suc at))
  newline_taken f prog q ls n k es r runnable m = run_newline INFINITY s.infinity area prog q name h safe.sound.now.valid qs at regs stack (choices_in s c ls) k es r runnable n (G, known) m f

  -- its argument is in the first register
  first_set : Holds area at (step.Builtin kind.Write) → IsSet c.registers 1
  first_set f = arguments_there area s at c (step.Builtin kind.Write) 1 safe f (λ t. refl) 1 (omega arith) (omega arith)

  -- write
  pub write_taken : Holds area at (step.Builtin kind.Write) → Takes area s at c s (Write (suc at))
  write_taken f prog q ls n k es r runnable m =
      let d = (first_set f).0 in
      let at_d = (first_set f).1 in
      subst (λ (o : Option Cell). Spends (λ later j. Runs INFINITY s.infinity area prog q name h qs (suc at) regs stack (choices_in s c ls) n k later j)
      (model.Wrote (text_at area s o) ∷ []) es r) (sym at_d)
      (run_write INFINITY s.infinity area prog q name h safe.sound.now.valid qs at regs stack (choices_in s c ls) k es r runnable n G known most d at_d m f)

  -- and it is safe to go on
  pub write_safe : Holds area at (step.Builtin kind.Write) → IsSafeNext area s c (Write (suc at))
  write_safe f = (on_same area s at c (step.Builtin kind.Write) 1 safe f (λ t. refl) refl, first_set f)

  -- two cells were made equal, or can't be
  pub unify_taken : IsPool area.pool → Holds area at (step.Builtin kind.Unify) → (d e : Cell) → cell_at c.registers 1 ≡ Some d → cell_at c.registers 2 ≡ Some e
      → (s' : branch.State) → IsSameBelow s s' → (equal : Bool) → Equates s d e s' equal → Takes area s at c s' (next_by at equal)
  unify_taken pool f d e at_d at_e s' below equal w prog q ls n k es r runnable m =
      equated_next area pool s safe.sound.greatest.1 at c d e prog q ls n k es r
      (run_unify INFINITY s.infinity area prog q name h qs at regs stack (choices_in s c ls) k es r runnable n (G, known) m f d e at_d at_e)
      (run_refuted INFINITY s.infinity area prog q name h qs at regs stack (choices_in s c ls) k es r runnable n (G, known) m f d e at_d at_e) s'
      below equal w

  -- safe where two cells were to be equal, or a goal holds or doesn't
  pub equal_safe : (b : BuiltinKind) → Holds area at (step.Builtin b) → (x y : Cell) (s' : branch.State) → IsSameBelow s s' → (equal : Bool)
      → Equates s x y s' equal → IsSafeNext area s' c (next_by at equal)
  equal_safe b f x y s' below true e = on_safe area s at c (step.Builtin b) (builtin_arity b) safe f (λ t. refl) refl s' below e.sound (same_cells s s' below.atoms e.size)
  equal_safe b f x y s' below false e = goes_back area s at c safe s' below e.1

  -- safe where a goal holds or doesn't
  pub decided_safe : (b : BuiltinKind) → Holds area at (step.Builtin b) → (holds : Bool) → IsSafeNext area s c (next_by at holds)
  decided_safe b f true = on_same area s at c (step.Builtin b) (builtin_arity b) safe f (λ t. refl) refl
  decided_safe b f false = goes_back area s at c safe s (same_below s) (sound_below s safe.sound)

-- ---- goals that come to something

found_quiet : (k : BuiltinKind) → IsFound k → (s : Substitution) (D : Family) (b : Branch) (t : Term) → says s D b (model.Builtin k t) ≡ []
found_quiet kind.Write i s D b t = absurd i
found_quiet kind.Nl i s D b t = absurd i
found_quiet _ i s D b t = refl

found_named : (k : BuiltinKind) → IsFound k → (p : Places) (g : Goal) → BuiltinRule k p g → NamedRule (builtin_arity k) (model.Builtin k) p g
found_named kind.True i p g r = absurd i
found_named kind.Fail i p g r = absurd i
found_named kind.False i p g r = absurd i
found_named kind.Unify i p g r = absurd i
found_named _ i p g r = r

-- it has an argument
pub first_there : (k : BuiltinKind) → IsFound k → 1 ≤ builtin_arity k
first_there kind.True i = absurd i
first_there kind.Fail i = absurd i
first_there kind.False i = absurd i
first_there kind.Nl i = absurd i
first_there kind.Var i = omega arith
first_there kind.Nonvar i = omega arith
first_there kind.Integer i = omega arith
first_there kind.Atom i = omega arith
first_there kind.Atomic i = omega arith
first_there kind.Compound i = omega arith
first_there kind.Write i = omega arith
first_there _ i = omega arith

module _ (area : Area) (pool : IsPool area.pool) (s : branch.State) (at : ℕ) (c : Contents) (safe : IsSafe area s at 0 c) (b : BuiltinKind) (plain : IsFound b)
    (f : Holds area at (step.Builtin b)) (x : Found) (comes : ComesTo area s c b x) where
  abbrev is : Finds (names_of area) s b comes.first comes.second x
  is = comes.finds

  -- a fault ends the query
  pub found_fault : (e : QueryFault) → x ≡ finding.Fault e → (s' : branch.State) → Takes area s at c s' (Fault e)
  found_fault e i s' prog q ls n k es r runnable m =
      let pair = safe.sound.now in
      run_found_fault INFINITY s.infinity area prog q (names_of area) s.heaps.now pair.valid s.levels.current.posted at (registers_of c) (stack_of c)
      (choices_in s c ls) k es r runnable n (family_of s.levels.current.sets) pair.settled.model pair.settled.most m b (found_quiet b plain)
      (found_named b plain)
      comes.first comes.second comes.at_first comes.at_second f e (subst (Finds (names_of area) s b comes.first comes.second) i is)

  -- it holds or doesn't
  pub found_decided : (holds : Bool) → x ≡ finding.Decided holds → Takes area s at c s (next_by at holds)
  found_decided true i prog q ls n k es r runnable m =
      let pair = safe.sound.now in
      run_found_true INFINITY s.infinity area prog q (names_of area) s.heaps.now pair.valid s.levels.current.posted at (registers_of c) (stack_of c)
      (choices_in s c ls) k es r runnable n (family_of s.levels.current.sets) pair.settled.model pair.settled.most m b (found_quiet b plain)
      (found_named b plain)
      comes.first comes.second comes.at_first comes.at_second f (subst (Finds (names_of area) s b comes.first comes.second) i is)
  found_decided false i prog q ls n k es r runnable m =
      let pair = safe.sound.now in
      run_found_false INFINITY s.infinity area prog q (names_of area) s.heaps.now pair.valid s.levels.current.posted at (registers_of c) (stack_of c)
      (choices_in s c ls) k es r runnable n (family_of s.levels.current.sets) pair.settled.model pair.settled.most m b (found_quiet b plain)
      (found_named b plain)
      comes.first comes.second comes.at_first comes.at_second f (subst (Finds (names_of area) s b comes.first comes.second) i is)

  module _ (l w : Cell) (i : x ≡ finding.Equal l w) where
    told : Finds (names_of area) s b comes.first comes.second (finding.Equal l w)
    told = subst (Finds (names_of area) s b comes.first comes.second) i is

    -- two cells are to be equal, which are the branch's
    pub found_cells : IsCell s l × IsCell s w
    found_cells = (told.0, told.1)

    -- they were made equal, or can't be
    pub found_equal : (s' : branch.State) → IsSameBelow s s' → (equal : Bool) → Equates s l w s' equal → Takes area s at c s' (next_by at equal)
    found_equal s' below equal e prog q ls n k es r runnable m =
        let pair = safe.sound.now in
        equated_next area pool s safe.sound.greatest.1 at c l w prog q ls n k es r
        (run_found_equated INFINITY s.infinity area prog q (names_of area) s.heaps.now pair.valid s.levels.current.posted at (registers_of c) (stack_of c)
        (choices_in s c ls) k es r runnable n (family_of s.levels.current.sets) pair.settled.model pair.settled.most m b (found_quiet b plain)
        (found_named b plain)
        comes.first comes.second comes.at_first comes.at_second f l w told.2)
        (run_found_refuted INFINITY s.infinity area prog q (names_of area) s.heaps.now pair.valid s.levels.current.posted at (registers_of c) (stack_of c)
        (choices_in s c ls) k es r runnable n (family_of s.levels.current.sets) pair.settled.model pair.settled.most m b (found_quiet b plain)
        (found_named b plain)
        comes.first comes.second comes.at_first comes.at_second f l w told.2)
        s' below equal e

-- ---- on a heap that has grown

-- A goal that is taken on the heap that has grown is taken before.
pub grown_taken : (area : Area) (s s1 : branch.State) (at : ℕ) (c : Contents) (i : Code) → IsFirst i → Holds area at i → IsGrown s.heaps.now s1.heaps.now
    → s1 ≡ with_heap s s1.heaps.now → (s' : branch.State) (x : Next) → Takes area s1 at c s' x → Takes area s at c s' x
grown_taken area s s1 at c i first f g e s' x t prog q ls n k es r runnable m =
    t prog q ls n k es r runnable
    (subst (λ N. Runs INFINITY N area prog q (names_of area) s1.heaps.now s1.levels.current.posted at (registers_of c) (stack_of c) (choices_in s1 c ls) (suc n)
    k es r) (sym (ap (λ (y : branch.State). y.infinity) e))
    (subst (λ cs. Runs INFINITY s.infinity area prog q (names_of area) s1.heaps.now s1.levels.current.posted at (registers_of c) (stack_of c) cs (suc n) k es r)
    (choices_same s s1 c ls (below_heap s s1 e))
    (subst (λ (l : Levels). Runs INFINITY s.infinity area prog q (names_of area) s1.heaps.now l.current.posted at (registers_of c) (stack_of c)
    (choices_in s c ls) (suc n) k es r) (sym (ap (λ (y : branch.State). y.levels) e))
    (runs_grown INFINITY s.infinity area prog q (names_of area) (suc n) k es r s.heaps.now s1.heaps.now g s.levels.current.posted at (registers_of c) (stack_of c) (choices_in s c ls) i first f m))))

-- where a goal holds, the next place is next
pub next_leads : (at : ℕ) (holds : Bool) → LeadsNext at (next_by at holds)
next_leads at true = refl
next_leads at false = tt

-- and says nothing
pub next_silent : (at : ℕ) (holds : Bool) → SaysNothing (next_by at holds)
next_silent at true = tt
next_silent at false = tt

-- ---- what a goal comes to is found

-- the second cell is the branch's
pub second_own : (s : branch.State) (c : Contents) → ((n : ℕ) (d : Cell) → cell_at c.registers n ≡ Some d → IsCell s d) → (k : BuiltinKind) (d e : Cell) → IsCell s d → IsSecond k c d e → IsCell s e
second_own s c own k d e first (inl i) = subst (IsCell s) (sym i.1) first
second_own s c own k d e first (inr i) = own 2 e i.1

-- what is found for each naming is found for the code's
pub comes_to : {E : Type 0} (area : Area) → IsPool area.pool → (names : List Name) → names ≡ area.pool.names
    → (s1 : branch.State) (c : Contents) (k : BuiltinKind) (d e : Cell) → cell_at c.registers 1 ≡ Some d → IsSecond k c d e
    → (r : Result Found E) → IfOk r (λ f. (name : Naming) → IsNaming names name → Finds name s1 k d e f) → IfOk r (ComesTo area s1 c k)
comes_to area pool names e s1 c k d x at_d at_x (Ok f) t = record {
  first = d;
  second = x;
  at_first = at_d;
  at_second = at_x;
  finds = t (names_of area) (subst (λ ns. IsNaming ns (names_of area)) (sym e) (full_own area.pool.names, one_name area pool));
}
comes_to area pool names e s1 c k d x at_d at_x (Err y) t = tt

-- safe on a heap that has grown
pub found_safe : {A E : Type 0} (area : Area) (s s1 : branch.State) (at : ℕ) (c : Contents) → IsSafe area s at 0 c → (r : Result A E)
    → OnOk r (IsGrown s.heaps.now s1.heaps.now) → OnOk r (s1 ≡ with_heap s s1.heaps.now) → OnOk r (IsSound s1) → OnOk r (IsSafe area s1 at 0 c)
found_safe area s s1 at c safe (Ok x) g h sound = let below = below_heap s s1 h in moved_safe area s at c safe s1 below sound (grown_cells s s1 below.atoms g)
found_safe area s s1 at c safe (Err x) g h sound = tt

-- a fact of what is given leads to another
pub ok_then : {A E : Type 0} (P Q : A → Type 0) (r : Result A E) → ((x : A) → P x → Q x) → IfOk r P → IfOk r Q
ok_then P Q (Ok x) f h = f x h
ok_then P Q (Err e) f h = tt

-- a fact where something is given leads to another
pub on_then : {A E : Type 0} (P Q : Type 0) (r : Result A E) → (P → Q) → OnOk r P → OnOk r Q
on_then P Q (Ok x) f h = f h
on_then P Q (Err e) f h = tt

-- what is so of one is so of all of a list of one
pub all_one : {A : Type 0} (P : A → Type 0) (x : A) → P x → All P (x ∷ [])
all_one P x p zero d l = p
all_one P x p (suc i) d l = absurd (omega (arith, l))
