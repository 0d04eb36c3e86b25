-- What is still to come for a machine, and the work that is left, where an instruction keeps what the machine stands for.
use Rattle.std.proofs.Common.{◌≡◌, ℕ, ◌<◌, ◌≤◌, List, [], ◌∷◌, map, ap, sym, ◌∙◌, subst, arith, Option}
use Rattle.std.proofs.lemmas.Option.{slice_get_within}
use Rattle.fd_language.specs.declared.TheConstants.{INFINITY}
use Rattle.fd_model.specs.Levels.{Level}
use Rattle.heap_cells.specs.Cells.{Cells}
use Rattle.branch_meaning.specs.Models.{HasModel}
use Rattle.range_code.specs.Frames.{family_of}
use Rattle.branch_state.specs.States as branch
use Rattle.branch_state.specs.States.{IsSameBelow, IsSound}
use Rattle.wam_code.specs.declared.instruction.Code.{Code}
use Rattle.wam_code.specs.Area.{Area, Holds}
use Rattle.wam_code.specs.WorkMeasure.{work}
use Rattle.wam_code.specs.CodeRegions.{distance}
use Rattle.wam_code.proofs.Lemmas.{step_falls, back_falls}
use Rattle.code_areas.specs.Areas.{Point, Contents}
use Rattle.code_meaning.specs.ClauseChoices.{IsFirst}
use Rattle.code_meaning.specs.MachineStates.{Left, Choice, Runs, Returns}
use Rattle.code_meaning.proofs.Lemmas.{runs_on, runs_gone, TakesGoal, runs_spent, back_ends}
use Rattle.code_safety.specs.declared.instruction_outcomes.Went.{Went}
use Rattle.code_safety.specs.declared.instruction_outcomes.Went.TheVariants.{On, Back}
use Rattle.code_safety.specs.Machine.{registers_of, stack_of, IsSameBehind}
use Rattle.code_safety.specs.RepresentedBranch.{KeepsStanding}
use Rattle.code_safety.specs.Choices.{choices_of, choices_in}
use Rattle.code_safety.specs.RemainingEvents.{RunsThen, Task, Future, RunsAt, ReturnsTo}
use Rattle.code_safety.specs.Work.{thread_of, point_threads, work_at, work_then, LeadsOn}
use Rattle.fd_model.specs.Goal.{Event, Budget, End}

-- the same points, with the same pairs below
pub choices_kept : (s s' : branch.State) (c c' : Contents) → IsSameBelow s s' → IsSameBehind c c' → (ls : List Left) → choices_in s c ls ≡ choices_in s' c' ls
choices_kept s s' c c' below behind ls = three (λ ps hs vs. choices_of ps hs vs ls) (sym behind.points) (sym below.heaps) (sym below.levels)
  where
    three : (f : List Point → List Cells → List Level → List Choice) {ps qs : List Point} {hs is : List Cells} {vs ws : List Level} → ps ≡ qs → hs ≡ is → vs ≡ ws → f ps hs vs ≡ f qs is ws
    three f {ps} {qs} {hs} {is} {vs} {ws} a b d = ap (λ x. f x hs vs) a ∙ ap (λ x. f qs x vs) b ∙ ap (λ x. f qs is x) d

-- An instruction of a clause that keeps what the machine stands for keeps what is still to come.
pub kept_runs : (area : Area) (s : branch.State) → s.infinity ≤ INFINITY → (at : ℕ) (c : Contents) (i : Code) → IsFirst i → Holds area at i
    → (s' : branch.State) (c' : Contents) → IsSameBelow s s' → IsSameBehind c c' → (w : Went) → KeepsStanding area s at c s' c' w → RunsThen area s at c s' c' w
kept_runs area s small at c i first holds s' c' below behind (On to) keep = λ t ls f naming m.
    subst (λ N. Runs INFINITY N area t.program t.query t.name s'.heaps.now s'.levels.current.posted to (registers_of c') (stack_of c') (choices_in s' c' ls)
    f.budget f.answers f.events f.reductions) (sym below.infinity)
    (subst (λ cs. Runs INFINITY s.infinity area t.program t.query t.name s'.heaps.now s'.levels.current.posted to (registers_of c') (stack_of c') cs f.budget
    f.answers f.events f.reductions) (choices_kept s s' c c' below behind ls)
    (runs_on INFINITY s.infinity area t.program t.query t.name f.budget f.answers f.events f.reductions s.heaps.now s.levels.current.posted at (registers_of c)
    (stack_of c) (choices_in s c ls) m i first holds s'.heaps.now s'.levels.current.posted to (registers_of c') (stack_of c')
    (λ marks b stands. keep s.infinity small marks t.query.shown t.name b naming stands)))
kept_runs area s small at c i first holds s' c' below behind Back keep = λ t ls f naming m.
    subst (λ N. Returns INFINITY N area t.program t.query t.name (choices_in s' c' ls) f.budget f.answers f.events f.reductions) (sym below.infinity)
    (subst (λ cs. Returns INFINITY s.infinity area t.program t.query t.name cs f.budget f.answers f.events f.reductions) (choices_kept s s' c c' below behind ls)
    (runs_gone INFINITY s.infinity area t.program t.query t.name f.budget f.answers f.events f.reductions s.heaps.now s.levels.current.posted at
    (registers_of c) (stack_of c) (choices_in s c ls) m i first holds (λ marks b stands. keep s.infinity small marks t.query.shown t.name b naming stands)))

-- A later place is nearer to the code's end.
pub later_nearer : (area : Area) (at to : ℕ) (i : Code) → Holds area at i → at < to → distance area to < distance area at
later_nearer area at to i holds later = let within = slice_get_within area.code at i holds in omega (arith, within, later)

-- The work falls where an instruction leads on or back, and leaves the continuations and the choice points as they are.
pub kept_falls : (area : Area) (at : ℕ) (c : Contents) (i : Code) → Holds area at i → (c' : Contents) → IsSameBehind c c' → (w : Went) → LeadsOn area at w → work_then area c' w < work_at area at c
kept_falls area at c i holds c' behind w leads = subst (λ rs. work_then area c' w < work (thread_of area at rs ∷ point_threads area c.points)) behind.returns
    (subst (λ ps. work_then area c' w < work (thread_of area at c'.returns ∷ point_threads area ps)) behind.points (less w leads))
  where
    less : (w : Went) → LeadsOn area at w → work_then area c' w < work_at area at c'
    less (On to) leads = step_falls (distance area at) (distance area to) (map (λ r. distance area r.to) c'.returns) (point_threads area c'.points) (later_nearer area at to i holds leads.0)
    less Back leads = back_falls (distance area at) (map (λ r. distance area r.to) c'.returns) (point_threads area c'.points)

-- ---- ends

-- what is posted has a model
pub sound_model : (s : branch.State) → IsSound s → HasModel INFINITY s.infinity s.levels.current.posted
sound_model s sound = (family_of s.levels.current.sets, sound.now.settled.model)

-- no choice point is left to go back to
pub returned_ends : (area : Area) (t : Task) (s : branch.State) (c : Contents) (ls : List Left) (f : Future) → c.points ≡ [] → ReturnsTo area t s c ls f → (f.events ≡ End ∷ []) × (f.reductions ≡ 0)
returned_ends area t s c ls f none m =
    back_ends INFINITY s.infinity area t.program t.query t.name f.budget f.answers f.events f.reductions
    (subst (λ ps. Returns INFINITY s.infinity area t.program t.query t.name (choices_of ps s.heaps.below s.levels.below ls) f.budget f.answers f.events f.reductions) none m)

-- no reduction is left for the goal at a place
pub budget_ends : (area : Area) (t : Task) (s : branch.State) → IsSound s → (at : ℕ) (i : Code) → TakesGoal i → Holds area at i
    → (c : Contents) (ls : List Left) (k : Option ℕ) (es : List Event) (r : ℕ)
    → RunsAt area t s at c ls (record { budget = 0; answers = k; events = es; reductions = r }) → (es ≡ Budget ∷ []) × (r ≡ 0)
budget_ends area t s sound at i takes holds c ls k es r m =
    runs_spent INFINITY s.infinity area t.program t.query t.name s.heaps.now s.levels.current.posted at (registers_of c) (stack_of c) (choices_in s c ls) k es r (sound_model s sound) i takes holds m
