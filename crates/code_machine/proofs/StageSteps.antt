-- The steps by the stages that they begin and end at.
use Rattle.std.proofs.Common.{◌≡◌, ℕ, zero, suc, ◌+◌, ◌-◌, List, [], ◌∷◌, length, Option, refl, sym, subst, arith}
use Rattle.std.proofs.lemmas.List.{nil_from_length}
use Rattle.term_pool.proofs.Lemmas.{slice_get_found}
use Rattle.machine_events.specs.declared.MachineEvent.TheVariants as event
use Rattle.machine_events.specs.declared.Shown.{Shown}
use Rattle.branch_state.specs.States as branch
use Rattle.wam_code.specs.declared.instruction.Code.{Code}
use Rattle.wam_code.specs.declared.instruction.Code.TheVariants as step
use Rattle.wam_code.specs.Area.{Area, Span, Holds, HasQuery}
use Rattle.wam_code.proofs.Lemmas.{no_answer_outside}
use Rattle.code_areas.specs.Areas.{Return, Contents}
use Rattle.code_meaning.proofs.Lemmas.{TakesGoal}
use Rattle.code_safety.specs.declared.instruction_outcomes.Went.{Went}
use Rattle.code_safety.specs.Queries.{IsInQuery, EndsIn}
use Rattle.code_safety.specs.Safety.{AreBehind, IsSafe}
use Rattle.code_goals.specs.declared.goal_outcomes.Next.{Next}
use Rattle.code_goals.specs.Answers.{ShowsAnswer}
use Rattle.code_goals.specs.GoalOutcomes.{SaysNothing}
use Rattle.code_machine.specs.declared.run.Ending.TheVariants as ending
use Rattle.code_machine.specs.declared.run.Label.{Label}
use Rattle.code_machine.specs.declared.run.Saying.{Saying}
use Rattle.code_machine.specs.declared.run.Saying.TheVariants as saying
use Rattle.code_machine.specs.declared.run.Stage.{Stage}
use Rattle.code_machine.specs.declared.run.Stage.TheVariants.{Going, Returning, Ended}
use Rattle.code_machine.specs.States.{State, IsMachine, IsQuiet, IsStep, Says, Tells, behind_answer, one_fewer}
use Rattle.code_machine.specs.Instructions.{IsCall, IsGoal}
use Rattle.code_machine.specs.Steps.{Spends, ComesBack, stage_of, stage_next, saying_next}
use Rattle.code_machine.proofs.MachineRuns.{seen, NeedsGoal, back_machine, back_quiet, spent_machine, spent_quiet, spent_step, told_end, budget_says, none_says}
use Rattle.code_machine.proofs.MachineRuns.{answer_machine, answer_says}

-- a goal takes one of those still to come
pub goal_takes : (i : Code) → IsGoal i → TakesGoal i
goal_takes (step.Builtin k) g = tt
goal_takes (step.Constrain k) g = tt
goal_takes (step.Label o) g = tt
goal_takes (step.Best o least) g = tt
goal_takes (step.PostRange r n) g = tt
goal_takes _ g = absurd g

-- so does a call
pub call_takes : (i : Code) → IsCall i → TakesGoal i
call_takes (step.Call e) g = tt
call_takes (step.Execute e) g = tt
call_takes (step.Either to) g = tt
call_takes (step.TestOnly n) g = tt
call_takes (step.EnterTest n m to) g = tt
call_takes (step.CutTo n) g = tt
call_takes _ g = absurd g

module _ (area : Area) (query : ℕ) (s : branch.State) (c : Contents) (ls : List Label) (st : Stage) (n : ℕ) (k : Option ℕ) (spent : ℕ) (m : IsMachine (seen area query s c ls st n k spent)) where
  abbrev old : State
  old = seen area query s c ls st n k spent

  -- ---- at a place

  module _ (at : ℕ) (is : st ≡ Going at) where
    going : IsMachine (seen area query s c ls (Going at) n k spent)
    going = subst (λ x. IsMachine (seen area query s c ls x n k spent)) is m

    pub going_safe : IsSafe area s at 0 c
    going_safe = going.ready.0

    module _ (s' : branch.State) (c' : Contents) (st' : Stage) where
      -- a goal
      module _ (some : n ≡ 0 → ⊥) (ls' : List Label) (x : Next) (spends : Spends area s at c ls s' c' ls' x) (goal : NeedsGoal area x) (is' : st' ≡ stage_next x) where
        one_less : n ≡ suc (n - 1)
        one_less = least n some
          where
            least : (n : ℕ) → (n ≡ 0 → ⊥) → n ≡ suc (n - 1)
            least zero h = absurd (h refl)
            least (suc n) h = omega arith

        before : IsMachine (seen area query s c ls (Going at) (suc (n - 1)) k spent)
        before = subst (λ j. IsMachine (seen area query s c ls (Going at) j k spent)) one_less going

        pub spends_machine : IsMachine (seen area query s' c' ls' st' (n - 1) k (spent + 1))
        spends_machine = subst (λ y. IsMachine (seen area query s' c' ls' y (n - 1) k (spent + 1))) (sym is') (spent_machine area query s s' at c c' ls ls' (n - 1) k spent x spends goal before)

        pub spends_quiet : SaysNothing x → IsQuiet old (seen area query s' c' ls' st' (n - 1) k (spent + 1))
        spends_quiet silent =
            subst (λ y. IsQuiet (seen area query s c ls y n k spent) (seen area query s' c' ls' st' (n - 1) k (spent + 1))) (sym is)
            (subst (λ j. IsQuiet (seen area query s c ls (Going at) j k spent) (seen area query s' c' ls' st' (n - 1) k (spent + 1))) (sym one_less)
            (subst (λ y. IsQuiet (seen area query s c ls (Going at) (suc (n - 1)) k spent) (seen area query s' c' ls' y (n - 1) k (spent + 1))) (sym is')
            (spent_quiet area query s s' at c c' ls ls' (n - 1) k spent x spends goal before silent)))

        pub spends_step : (o : Option Saying) → o ≡ saying_next x → IsStep old o (seen area query s' c' ls' st' (n - 1) k (spent + 1))
        spends_step o said =
            subst (λ y. IsStep (seen area query s c ls y n k spent) o (seen area query s' c' ls' st' (n - 1) k (spent + 1))) (sym is)
            (subst (λ j. IsStep (seen area query s c ls (Going at) j k spent) o (seen area query s' c' ls' st' (n - 1) k (spent + 1))) (sym one_less)
            (subst (λ y. IsStep (seen area query s c ls (Going at) (suc (n - 1)) k spent) o (seen area query s' c' ls' y (n - 1) k (spent + 1))) (sym is')
            (subst (λ y. IsStep (seen area query s c ls (Going at) (suc (n - 1)) k spent) y (seen area query s' c' ls' (stage_next x) (n - 1) k (spent + 1))) (sym said)
            (spent_step area query s s' at c c' ls ls' (n - 1) k spent x spends goal before))))

    -- no reduction is left for it
    pub no_budget : (i : Code) → Holds area at i → TakesGoal i → n ≡ 0 → Tells old (saying.Ended ending.Budget) (seen area query s c ls (Ended ending.Budget) n k spent)
    no_budget i holds takes none = told_end old (seen area query s c ls (Ended ending.Budget) n k spent) ending.Budget (
        subst (λ y. Says (seen area query s c ls y n k spent) event.Budget (seen area query s c ls (Ended ending.Budget) n k spent)) (sym is)
        (subst (λ j. Says (seen area query s c ls (Going at) j k spent) event.Budget (seen area query s c ls (Ended ending.Budget) j k spent)) (sym none)
        (budget_says area query s c ls k spent at i takes holds (subst (λ j. IsMachine (seen area query s c ls (Going at) j k spent)) none going))))

    -- An answer comes at a place of the run's query: no call is to return there, since no code outside of all queries answers.
    pub answer_inside : Holds area at step.AnswerNow → IsInQuery area query at
    answer_inside holds = by c.returns going_safe.here.behind going.inside.0
      where
        by : (rs : List Return) → AreBehind area at rs → EndsIn area query at rs → IsInQuery area query at
        by [] behind ends = ends
        by (r ∷ rs) behind ends = absurd (no_answer_outside area going_safe.states going_safe.verified at behind.0 holds)

    -- an answer
    module _ (st' : Stage) (is' : st' ≡ behind_answer k) (k' : Option ℕ) (limit : k' ≡ one_fewer k) where
      query_there : (span : Span) × HasQuery area query span
      query_there = slice_get_found area.queries query m.query

      pub answers_machine : IsMachine (seen area query s c ls st' n k' spent)
      answers_machine =
          subst (λ y. IsMachine (seen area query s c ls y n k' spent)) (sym is')
          (subst (λ j. IsMachine (seen area query s c ls (behind_answer k) n j spent)) (sym limit) (answer_machine area query s at c ls n spent k going))

      answers_says : (x : Shown) → ShowsAnswer area s at c query x → Says old (event.Answer x) (seen area query s c ls st' n k' spent)
      answers_says x shows =
          subst (λ y. Says (seen area query s c ls y n k spent) (event.Answer x) (seen area query s c ls st' n k' spent)) (sym is)
          (subst (λ y. Says (seen area query s c ls (Going at) n k spent) (event.Answer x) (seen area query s c ls y n k' spent)) (sym is')
          (subst (λ j. Says (seen area query s c ls (Going at) n k spent) (event.Answer x) (seen area query s c ls (behind_answer k) n j spent)) (sym limit)
          (answer_says area query s at c ls n spent x shows k going query_there.0 query_there.1)))

      pub answers_tells : Holds area at step.AnswerNow → Tells old (saying.Answer at) (seen area query s c ls st' n k' spent)
      answers_tells holds = record {
        shows = (going_safe, holds, answer_inside holds);
        says = λ e is. subst (λ y. Says old y (seen area query s c ls st' n k' spent)) (sym is.2) (answers_says is.0 is.1);
      }

  -- ---- on the way back

  module _ (is : st ≡ Returning) where
    returning : IsMachine (seen area query s c ls Returning n k spent)
    returning = subst (λ x. IsMachine (seen area query s c ls x n k spent)) is m

    module _ (s' : branch.State) (c' : Contents) (ls' : List Label) (w : Went) (back : ComesBack area s c ls s' c' ls' w) (st' : Stage) (is' : st' ≡ stage_of w) where
      pub returns_machine : IsMachine (seen area query s' c' ls' st' n k spent)
      returns_machine = subst (λ x. IsMachine (seen area query s' c' ls' x n k spent)) (sym is') (back_machine area query s s' c c' ls n k spent ls' w back returning)

      pub returns_quiet : IsQuiet old (seen area query s' c' ls' st' n k spent)
      returns_quiet =
          subst (λ x. IsQuiet (seen area query s c ls x n k spent) (seen area query s' c' ls' st' n k spent)) (sym is)
          (subst (λ x. IsQuiet (seen area query s c ls Returning n k spent) (seen area query s' c' ls' x n k spent)) (sym is') (back_quiet area query s s' c c' ls n k spent ls' w back returning))

    -- no choice point is left
    pub nothing_left : length c.points ≡ 0 → Tells old (saying.Ended ending.End) (seen area query s c ls (Ended ending.End) n k spent)
    nothing_left none =
        told_end old (seen area query s c ls (Ended ending.End) n k spent) ending.End
        (subst (λ y. Says (seen area query s c ls y n k spent) event.End (seen area query s c ls (Ended ending.End) n k spent)) (sym is)
        (none_says area query s c ls k spent n (nil_from_length c.points none)))
