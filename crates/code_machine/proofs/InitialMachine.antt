-- A new machine.
use Rattle.std.proofs.Common.{◌≡◌, ℕ, ◌<◌, ◌^◌, List, [], ◌∷◌, length, reverse, Option, sym, ◌∙◌, subst, arith}
use Rattle.std.proofs.lemmas.Option.{same_Some}
use Rattle.fd_language.specs.declared.TheConstants.{INFINITY}
use Rattle.fd_model.specs.Goal.{Program, Query, Event, start_of}
use Rattle.fd_model.specs.Run.{Run, IsLimit}
use Rattle.term_pool.specs.PoolInvariant.{IsPool}
use Rattle.branch_state.specs.States as branch
use Rattle.branch_state.specs.States.{IsSound, first_state}
use Rattle.wam_code.specs.Area.{Area, Span, HasQuery}
use Rattle.wam_code.specs.VerifiedCode.{IsVerified}
use Rattle.code_areas.specs.Areas.{Contents, nothing}
use Rattle.code_safety.proofs.Lemmas.{started_safe, started_runs}
use Rattle.code_goals.proofs.Lemmas.{own_naming}
use Rattle.code_goals.specs.Tasks.{task_of}
use Rattle.code_machine.specs.declared.run.Label.{Label}
use Rattle.code_machine.specs.declared.run.Stage.TheVariants.{Going}
use Rattle.code_machine.specs.States.{State, MayRun, StandsFor, IsMachine}
use Rattle.code_machine.proofs.MachineRuns.{seen}
use Rattle.wam_code.specs.Tries.{IsQueryCode}

module _ (area : Area) (verified : IsVerified area) (pool : IsPool area.pool) (query : ℕ) (span : Span) (has : HasQuery area query span) (atoms N : ℕ)
    (named : atoms ≡ length area.pool.names) (n : ℕ) (k : Option ℕ) where
  abbrev first : State
  first = seen area query (first_state atoms N) nothing [] (Going span.at) n k 0

  pub first_machine : query < length area.queries → IsSound (first_state atoms N) → IsLimit k → n < 2 ^ 64 → IsMachine first
  first_machine low sound limit steps = record {
    query = low;
    ready = (started_safe area verified.0 verified.1 atoms N named sound query span has, tt, limit);
    inside = ((span, has, (omega arith, (verified.1.queries query span has).some)), tt);
    steps = omega (arith, steps);
  }

  pub first_stands : (prog : Program) (q : Query) → MayRun area query prog q → (es : List Event) (r : ℕ) → Run INFINITY N prog q n k (start_of q ∷ []) es r → StandsFor first es r
  first_stands prog q may es r run =
      let one : may.span ≡ span = same_Some may.span span (sym may.has ∙ has) in
      record {
        program = prog;
        query = q;
        task = record { ready = may.ready; asked = record { span = may.span; has = may.has; names = may.code.names; shown = may.code.shown }; naming = own_naming area pool };
        later = r;
        all = omega arith;
        stands = started_runs area (task_of area prog q) span (subst (λ (p : Span). IsQueryCode area q p) one may.code) may.below may.shown may.runnable atoms N
            (record { budget = n; answers = k; events = es; reductions = r }) run;
      }

  -- by what the machine is made of
  module _ (s : branch.State) (s_is : s ≡ first_state atoms N) (a : Contents) (a_is : a ≡ nothing) (items : List Label) (none : items ≡ []) (at : ℕ) (begins : at ≡ span.at) where
    same : (P : branch.State → Contents → List Label → ℕ → Type 0) → P (first_state atoms N) nothing [] span.at → P s a (reverse items) at
    same P x =
        subst (λ t. P t a (reverse items) at) (sym s_is)
        (subst (λ b. P (first_state atoms N) b (reverse items) at) (sym a_is)
        (subst (λ (l : List Label). P (first_state atoms N) nothing (reverse l) at) (sym none)
        (subst (λ j. P (first_state atoms N) nothing [] j) (sym begins) x)))

    pub new_machine : query < length area.queries → IsSound s → IsLimit k → n < 2 ^ 64 → IsMachine (seen area query s a (reverse items) (Going at) n k 0)
    new_machine low sound limit steps = same (λ t b l j. IsMachine (seen area query t b l (Going j) n k 0)) (first_machine low (subst IsSound s_is sound) limit steps)

    pub new_stands : (prog : Program) (q : Query) → MayRun area query prog q → (es : List Event) (r : ℕ) → Run INFINITY N prog q n k (start_of q ∷ []) es r
        → StandsFor (seen area query s a (reverse items) (Going at) n k 0) es r
    new_stands prog q may es r run = same (λ t b l j. StandsFor (seen area query t b l (Going j) n k 0) es r) (first_stands prog q may es r run)
