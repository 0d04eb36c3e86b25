-- What is still to come for a machine stays so at each of these instructions.
use Rattle.std.proofs.Common.{◌≡◌, ℕ, suc, ◌+◌, ◌-◌, List, [], ◌∷◌, map, length, take, drop, Some, replicate, refl, ap, sym, ◌∙◌, subst, arith}
use Rattle.std.proofs.lemmas.List.{get_or-take}
use Rattle.fd_language.specs.declared.TheConstants.{INFINITY}
use Rattle.fd_language.specs.Range.{Indexical}
use Rattle.fd_model.specs.Goal.{Branch}
use Rattle.fd_model.specs.Levels.{Level}
use Rattle.heap_cells.specs.Cells.{Cells}
use Rattle.branch_meaning.specs.RemainingEvents.{oldest, Spends}
use Rattle.branch_state.specs.States as branch
use Rattle.branch_state.specs.States.{IsSound, IsUndone, with_pair, without_pairs}
use Rattle.wam_code.specs.declared.instruction.Code.{Code}
use Rattle.wam_code.specs.declared.instruction.Code.TheVariants as code
use Rattle.wam_code.specs.declared.instruction.Code.TheVariants.{Allocate, Deallocate, Call, Execute, Proceed, Jump, FailNow, Either, TestOnly, EnterTest}
use Rattle.wam_code.specs.declared.instruction.Code.TheVariants.{CutTo}
use Rattle.wam_code.specs.declared.parts.Entry.{Entry}
use Rattle.wam_code.specs.Area.{Area, Holds, HasEntry}
use Rattle.code_areas.specs.Areas.{Places, nothing_held, cell_of, cell_at, Return, Point, Contents}
use Rattle.code_meaning.specs.Registers.{Registers, Saved, AreSameTo}
use Rattle.code_meaning.specs.StateMeaning.{Stands}
use Rattle.code_meaning.specs.ClauseChoices.{IsTrying, IsFirst, IsChoice}
use Rattle.code_meaning.specs.MachineStates.{Left, resume, Choice, Runs, Returns}
use Rattle.code_meaning.proofs.Lemmas.{run_call, run_execute, run_either, run_test, run_enter, run_cut, step_level, runs_jump, runs_on, runs_tries, runs_over}
use Rattle.code_meaning.proofs.Lemmas.{back_resumes, step_allocate, step_deallocate, step_proceed, step_fail}
use Rattle.code_safety.specs.Machine.{IsSlot, slot_cell, slot_level, registers_of, saved_of, stack_of}
use Rattle.code_safety.specs.RepresentedBranch.{IsNaming}
use Rattle.code_safety.specs.Choices.{point_of, choice_of, choices_of, choices_in}
use Rattle.code_safety.specs.Safety.{IsSafe}
use Rattle.code_safety.specs.RemainingEvents.{Task, KeepsRunning, GoesBack, Resumes, Calls, SplitsAt, TestsAt, CutsAt}
use Rattle.code_safety.proofs.Lemmas.{sound_model, choices_many, choices_left, leveled, leveled_marks}

module _ (area : Area) (s : branch.State) (at : ℕ) (c : Contents) where
  abbrev h : Cells
  h = s.heaps.now

  abbrev qs : List Indexical
  qs = s.levels.current.posted

  abbrev regs : Registers
  regs = registers_of c

  abbrev stack : List Saved
  stack = stack_of c

  -- the same registers with other slots
  abbrev with_slots : Places → Registers
  with_slots slots = record { x = regs.x; y = slot_cell slots; levels = slot_level slots; noted = regs.noted }

  -- an instruction of a clause, on whatever branch it is
  inside : (i : Code) → IsFirst i → Holds area at i → (to : ℕ) (slots : Places) (returns : List Return)
      → ((marks : List ℕ) (t : Task) (b : Branch) → Stands INFINITY s.infinity marks area t.query.shown t.name h qs at regs stack b
      → Stands INFINITY s.infinity marks area t.query.shown t.name h qs to (with_slots slots) (map saved_of returns) b)
      → KeepsRunning area s at c s to (record c { slots = slots; returns = returns })
  inside i first f to slots returns step t ls u naming m =
      runs_on INFINITY s.infinity area t.program t.query t.name u.budget u.answers u.events u.reductions h qs at regs stack (choices_in s c ls) m i first f h qs
      to (with_slots slots) (map saved_of returns) (λ marks. step marks t)

  pub allocate_runs : (n : ℕ) → Holds area at (Allocate n) → KeepsRunning area s at c s (suc at) (record c { slots = replicate n nothing_held })
  allocate_runs n f = inside (Allocate n) tt f (suc at) (replicate n nothing_held) c.returns
      (λ marks t b m. step_allocate INFINITY s.infinity marks area t.query.shown t.name h qs at regs stack b m n f (with_slots (replicate n nothing_held))
      (λ k. refl) refl)

  pub deallocate_runs : Holds area at Deallocate → KeepsRunning area s at c s (suc at) (record c { slots = [] })
  deallocate_runs f = inside Deallocate tt f (suc at) [] c.returns
      (λ marks t b m. step_deallocate INFINITY s.infinity marks area t.query.shown t.name h qs at regs stack b m f (with_slots []) (λ k. refl) refl)

  pub proceed_runs : Holds area at Proceed → (r : Return) (later : List Return) → c.returns ≡ r ∷ later → KeepsRunning area s at c s r.to (record c { slots = r.slots; returns = later })
  proceed_runs f r later is = inside Proceed tt f r.to r.slots later (λ marks t b m.
      step_proceed INFINITY s.infinity marks area t.query.shown t.name h qs at regs stack b m f (saved_of r) (map saved_of later) (ap (map saved_of) is) (with_slots r.slots) (λ k. refl) (λ k. refl))

  -- the slot takes the level that was noted
  pub level_runs : (n : ℕ) → Holds area at (code.Level n) → (is : IsSlot n c.slots) → KeepsRunning area s at c s (suc at) (record c { slots = leveled c.slots n c.noted is })
  level_runs n f is = inside (code.Level n) tt f (suc at) (leveled c.slots n c.noted is) c.returns (λ marks t b m.
      step_level INFINITY s.infinity marks area t.query.shown t.name h qs at regs stack b m n f (with_slots (leveled c.slots n c.noted is)) (leveled_marks c.slots n c.noted is regs.x regs.noted))

  -- ---- calls

  -- the registers of the arguments hold the same cells
  kept_same : (e : Entry) → AreSameTo e.arity (cell_at c.registers) (cell_at (take (e.arity + 1) c.registers))
  kept_same e n low high = ap cell_of (get_or-take (e.arity + 1) c.registers n nothing_held (omega (arith, high)))

  module _ (safe : IsSafe area s at 0 c) where
    -- as many choices as choice points
    many : (ls : List Left) → length ls ≡ length c.points → length c.points ≡ length (choices_in s c ls)
    many ls long = sym (choices_many area s at 0 c safe ls long)

    pub call_runs : (n : ℕ) → Holds area at (Call n) → (e : Entry) → HasEntry area n e
        → Calls area s at c s e.at (record c { registers = take (e.arity + 1) c.registers; slots = []; returns = record { to = suc at; slots = c.slots } ∷ c.returns; noted = length c.points })
    call_runs n f e there t ls budget k es r ready long m =
        run_call INFINITY s.infinity area t.program t.query t.name h qs at regs stack (choices_in s c ls) k es r ready.stands ready.scoped ready.runnable budget
        (sound_model s safe.sound) m n f e there
        (record { x = cell_at (take (e.arity + 1) c.registers); y = slot_cell []; levels = slot_level []; noted = length c.points }) (kept_same e)
        (many ls long) (slot_cell c.slots) (λ i. refl) (slot_level c.slots) (λ i. refl)

    pub execute_runs : (n : ℕ) → Holds area at (Execute n) → (e : Entry) → HasEntry area n e
        → Calls area s at c s e.at (record c { registers = take (e.arity + 1) c.registers; noted = length c.points })
    execute_runs n f e there t ls budget k es r ready long m =
        run_execute INFINITY s.infinity area t.program t.query t.name h qs at regs stack (choices_in s c ls) k es r ready.stands ready.scoped ready.runnable
        budget (sound_model s safe.sound) m n f e there
        (record { x = cell_at (take (e.arity + 1) c.registers); y = regs.y; levels = regs.levels; noted = length c.points }) (kept_same e) (many ls long)

    -- ---- tests and cuts

    pub test_runs : (n : ℕ) → Holds area at (TestOnly n) → (is : IsSlot n c.slots) → TestsAt area s at c s (suc at) (record c { slots = leveled c.slots n (length c.points) is })
    test_runs n f is t ls budget k es r ready long m =
        run_test INFINITY s.infinity area t.program t.query t.name h qs at regs stack (choices_in s c ls) k es r ready.runnable budget (sound_model s safe.sound) m n f
        (length c.points) (many ls long) (with_slots (leveled c.slots n (length c.points) is)) (leveled_marks c.slots n (length c.points) is regs.x regs.noted)

    pub enter_runs : (n o to : ℕ) → Holds area at (EnterTest n o to) → (first : IsSlot n c.slots) (second : IsSlot o (leveled c.slots n (length c.points) first))
        → (let slots = leveled (leveled c.slots n (length c.points) first) o (suc (length c.points)) second in
        SplitsAt area s at c (with_pair s) (suc at) (record c { slots = slots; points = point_of (record c { slots = slots }) to ∷ c.points }) to)
    enter_runs n o to f first second t ls budget k es r ready long m =
        let one : Places = leveled c.slots n (length c.points) first in
        run_enter INFINITY s.infinity area t.program t.query t.name h qs at regs stack (choices_in s c ls) k es r ready.runnable budget (sound_model s safe.sound) m n o to f
        (length c.points) (many ls long) (with_slots one) (leveled_marks c.slots n (length c.points) first regs.x regs.noted)
        (with_slots (leveled one o (suc (length c.points)) second)) (leveled_marks one o (suc (length c.points)) second regs.x regs.noted)

    -- so many choice points are left
    abbrev dropped : ℕ → ℕ
    dropped kept = length c.points - kept

    pub cut_runs : (n kept : ℕ) → Holds area at (CutTo n) → slot_level c.slots n ≡ Some kept
        → CutsAt area s at c (without_pairs s (dropped kept)) (suc at) (record c { points = drop (dropped kept) c.points })
    cut_runs n kept f there t ls budget k es r ready long m = subst
        (λ cs. Spends (λ later j. Runs INFINITY s.infinity area t.program t.query t.name h qs (suc at) regs stack cs budget k later j) [] es r) left cut
      where
        cut : Spends (λ later j. Runs INFINITY s.infinity area t.program t.query t.name h qs (suc at) regs stack (oldest kept (choices_in s c ls)) budget k later j) [] es r
        cut = run_cut INFINITY s.infinity area t.program t.query t.name h qs at regs stack (choices_in s c ls) k es r ready.runnable budget (sound_model s safe.sound) m n f kept there

        left : oldest kept (choices_in s c ls) ≡ choices_in (without_pairs s (dropped kept)) (record c { points = drop (dropped kept) c.points }) (oldest (length (drop (dropped kept) c.points)) ls)
        left = choices_left s c ls kept (choices_many area s at 0 c safe ls long) long

  -- ---- choices

  abbrev left : ℕ → Contents
  left other = record c { points = point_of c other ∷ c.points }

  pub either_runs : IsSound s → (to : ℕ) → Holds area at (Either to) → SplitsAt area s at c (with_pair s) (suc at) (left to) to
  either_runs sound to f t ls budget k es r ready long m =
      run_either INFINITY s.infinity area t.program t.query t.name h qs at regs stack (choices_in s c ls) k es r ready.runnable budget (sound_model s sound) m to f

  module _ (i : Code) (choice : IsChoice i) (f : Holds area at i) where
    abbrev Trying : List ℕ → Task → ℕ → Entry → Branch → List Branch → Type 0
    Trying marks t to e b kids = IsTrying INFINITY s.infinity marks area t.query.shown t.name h qs to e regs stack b kids

    -- clauses at one place
    pub tries : (to : ℕ) → ((marks : List ℕ) (t : Task) → IsNaming area t.name → (e : Entry) (b : Branch) (kids : List Branch) → Trying marks t at e b kids
        → Trying marks t to e b kids) → KeepsRunning area s at c s to c
    tries to step t ls u naming m =
        runs_tries INFINITY s.infinity area t.program t.query t.name u.budget u.answers u.events u.reductions h qs at regs stack (choices_in s c ls) m i choice
        f to (λ marks e b k. step marks t naming e b m.first k)

    -- or at none
    pub over : ((marks : List ℕ) (t : Task) → IsNaming area t.name → (e : Entry) (b : Branch) (kids : List Branch) → Trying marks t at e b kids → kids ≡ []) → GoesBack area s at c s c
    over none t ls u naming m =
        runs_over INFINITY s.infinity area t.program t.query t.name u.budget u.answers u.events u.reductions h qs at regs stack (choices_in s c ls) m i choice f
        (λ marks e b k. none marks t naming e b m.first k)

  pub fail_runs : Holds area at FailNow → GoesBack area s at c s c
  fail_runs f = over FailNow tt f (λ marks t naming e b kids m. step_fail INFINITY s.infinity marks area t.query.shown t.name h qs at e regs stack b kids m f)

  pub jump_runs : (to : ℕ) → Holds area at (Jump to) → KeepsRunning area s at c s to c
  jump_runs to f t ls u naming m = runs_jump INFINITY s.infinity area t.program t.query t.name u.budget u.answers u.events u.reductions h qs at regs stack (choices_in s c ls) m to f

-- ---- back to the newest choice point

module _ (area : Area) (s s' : branch.State) (c c' : Contents) (to : ℕ) (some : c.points ≡ point_of c' to ∷ c'.points) (undone : IsUndone s s') where
  pub newest_is : (l : Left) (ls : List Left) → choices_in s c (l ∷ ls) ≡ choice_of l (point_of c' to) s'.heaps.now s'.levels.current ∷ choices_in s' c' ls
  newest_is l ls = three (λ ps hs vs. choices_of ps hs vs (l ∷ ls)) some undone.heaps undone.levels
    where
      three : (f : List Point → List Cells → List Level → List Choice) {ps qs : List Point} {hs is : List Cells} {vs ws : List Level} → ps ≡ qs → hs ≡ is → vs ≡ ws → f ps hs vs ≡ f qs is ws
      three f {ps} {qs} {hs} {is} {vs} {ws} a b d = ap (λ x. f x hs vs) a ∙ ap (λ x. f qs x vs) b ∙ ap (λ x. f qs is x) d

  pub resumed_runs : Resumes area s c s' to c'
  resumed_runs t ls u m =
      subst (λ N. Runs INFINITY N area t.program t.query t.name s'.heaps.now s'.levels.current.posted to (registers_of c') (stack_of c') (choices_in s' c' ls)
      u.budget u.answers u.events u.reductions) (sym undone.infinity)
      (back_resumes INFINITY s.infinity area t.program t.query t.name u.budget u.answers u.events u.reductions to s'.heaps.now s'.levels.current.posted
      (registers_of c') (stack_of c') (choices_in s' c' ls)
      (subst (λ cs. Returns INFINITY s.infinity area t.program t.query t.name cs u.budget u.answers u.events u.reductions) (newest_is (resume to) ls) m))
