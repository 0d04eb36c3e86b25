-- What is safe stays so where a goal is taken.
use Rattle.std.proofs.Common.{◌≡◌, ℕ, suc, true, IsTrue, List, length, refl, ap, sym, ◌∙◌, subst, arith}
use Rattle.heap_cells.specs.declared.Cell.{Cell}
use Rattle.heap_cells.specs.Atoms.{IsAtomBelow}
use Rattle.branch_lemmas.specs.Frames.{IsGrown}
use Rattle.branch_lemmas.proofs.Lemmas.{of_grown}
use Rattle.branch_state.specs.States as branch
use Rattle.branch_state.specs.States.{IsCell, IsSound, IsSoundBelow, IsSameBelow, with_heap, with_pair}
use Rattle.wam_code.specs.declared.instruction.Register.TheVariants.{Y}
use Rattle.wam_code.specs.declared.instruction.Code.{Code}
use Rattle.wam_code.specs.declared.instruction.Code.TheVariants as step
use Rattle.wam_code.specs.Area.{State, Span, Area, Holds, HasQuery}
use Rattle.wam_code.specs.Effect.{are_set, when, plain_effect}
use Rattle.wam_code.specs.VerifiedCode.{goes_on, IsIn}
use Rattle.wam_code.proofs.Lemmas.{shown_are_cells, set_below}
use Rattle.code_areas.specs.Areas.{Places, Return, Contents}
use Rattle.code_meaning.specs.MachineStates.{Left}
use Rattle.code_safety.specs.Choices.{choices_in}
use Rattle.code_safety.specs.Safety.{Fits, IsThread, ArePoints, IsSafe, IsSafeBack}
use Rattle.code_safety.proofs.Lemmas.{Finds, found, when_parts, set_holds, next_safe, back_safe, cells_kept, returns_kept, points_kept, choices_kept}
use Rattle.code_safety.proofs.Lemmas.{same_behind, same_below}
use Rattle.code_goals.specs.Arguments.{HasArguments}
use Rattle.code_goals.specs.Answers.{HasFirstSlots}
use Rattle.code_goals.specs.Values.{pointed}

-- what is sound can be given back
pub sound_below : (s : branch.State) → IsSound s → IsSoundBelow s
sound_below s k = record { greatest = k.greatest; unspent = k.unspent; marked = k.marked; below = k.below }

-- The choice points stay as they are.
pub choices_same : (s s' : branch.State) (c : Contents) (ls : List Left) → IsSameBelow s s' → choices_in s c ls ≡ choices_in s' c ls
choices_same s s' c ls below = choices_kept s s' c c below (same_behind c) ls

-- the cells of a heap that grows stay its cells
pub grown_cells : (s s' : branch.State) → s'.atoms ≡ s.atoms → IsGrown s.heaps.now s'.heaps.now → (d : Cell) → IsCell s d → IsCell s' d
grown_cells s s' e g d o = (of_grown s.heaps.now s'.heaps.now g d o.0, subst (λ n. IsAtomBelow n d) (sym e) o.1)

-- ---- what a goal finds

-- An instruction that needs its arguments alone and changes nothing of the state.
module _ (area : Area) (s : branch.State) (at : ℕ) (c : Contents) (i : Code) (k : ℕ) (safe : IsSafe area s at 0 c) (holds : Holds area at i)
    (needs : (t : State) → plain_effect area.entries i t ≡ when (are_set t.regs k) t) where
  abbrev finds : Finds area safe.states at 0 c i
  finds = found area s at 0 c i safe holds

  parts : (are_set finds.state.regs k ≡ true) × (finds.handed ≡ finds.state)
  parts = when_parts (are_set finds.state.regs k) finds.state finds.handed (sym (needs finds.state) ∙ finds.effect_is)

  -- the arguments hold cells
  pub arguments_there : HasArguments k c
  arguments_there n low high = finds.fits.set n (set_below finds.state.regs k n parts.0 low high)

  -- the next place
  pub on_safe : IsTrue (goes_on i) → (s' : branch.State) → IsSameBelow s s' → IsSound s' → ((d : Cell) → IsCell s d → IsCell s' d) → IsSafe area s' (suc at) 0 c
  on_safe goes s' below sound keep =
      next_safe area s s' at 0 c c safe below (same_behind c) i holds goes finds 0 (subst (λ (t : State). Fits t c.registers c.slots) (sym parts.1) finds.fits)
      (ap (λ (t : State). t.owed) parts.1 ∙ finds.owes) sound keep
      (λ n d e. keep d (safe.here.registers_own n d e)) (λ n d e. keep d (safe.here.slots_own n d e))

  -- where nothing changes
  pub on_same : IsTrue (goes_on i) → IsSafe area s (suc at) 0 c
  on_same goes = on_safe goes s (same_below s) safe.sound (λ d o. o)

-- back
pub goes_back : (area : Area) (s : branch.State) (at : ℕ) (c : Contents) → IsSafe area s at 0 c → (s' : branch.State) → IsSameBelow s s' → IsSoundBelow s' → IsSafeBack area s' c
goes_back area s at c safe s' below sound = back_safe area s s' at 0 c c safe below (same_behind c) sound

-- ---- the same place

thread_kept : (area : Area) (ss : List State) (s s' : branch.State) → ((d : Cell) → IsCell s d → IsCell s' d)
    → (at : ℕ) (registers slots : Places) (rs : List Return) → IsThread area ss s at 0 registers slots rs → IsThread area ss s' at 0 registers slots rs
thread_kept area ss s s' keep at registers slots rs t = record {
  reached = t.reached;
  registers_own = cells_kept s s' keep registers t.registers_own;
  slots_own = cells_kept s s' keep slots t.slots_own;
  returns_own = returns_kept ss s s' keep rs t.returns_own;
  behind = t.behind;
}

module _ (area : Area) (s : branch.State) (at : ℕ) (c : Contents) (safe : IsSafe area s at 0 c) where
  -- another current pair
  pub moved_safe : (s' : branch.State) → IsSameBelow s s' → IsSound s' → ((d : Cell) → IsCell s d → IsCell s' d) → IsSafe area s' at 0 c
  moved_safe s' below sound keep = record {
    states = safe.states;
    verified = safe.verified;
    atoms = below.atoms ∙ safe.atoms;
    sound = sound;
    here = thread_kept area safe.states s s' keep at c.registers c.slots c.returns safe.here;
    points = subst (λ hs. ArePoints area safe.states s' c.points hs) (sym below.heaps) (points_kept area safe.states s s' below.atoms c.points s.heaps.below safe.points);
  }

  -- a new choice point
  pub marked_safe : IsSound (with_pair s) → IsSafe area (with_pair s) at 0 (pointed c at)
  marked_safe sound = record {
    states = safe.states;
    verified = safe.verified;
    atoms = safe.atoms;
    sound = sound;
    here = thread_kept area safe.states s (with_pair s) (λ d o. o) at c.registers c.slots c.returns safe.here;
    points = (
      thread_kept area safe.states s (with_heap (with_pair s) s.heaps.now) (λ d o. o) at c.registers c.slots c.returns safe.here,
      points_kept area safe.states s (with_pair s) refl c.points s.heaps.below safe.points,
    );
  }

  -- at an answer
  pub slots_there : Holds area at step.AnswerNow → (n : ℕ) (q : Span) → HasQuery area n q → IsIn q at → HasFirstSlots (length q.names) c
  slots_there holds n q h b i low =
      let r = safe.here.reached in
      set_holds r.state c (Y (suc i)) r.fits
      (shown_are_cells area safe.states safe.verified n at q h b holds r.state r.state r.has (record { frame = refl; owed = refl; regs = λ m e. e }) (suc i) (omega arith) (omega (arith, low)))
