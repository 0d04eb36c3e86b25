-- Instructions that spend nothing.
use Rattle.std.proofs.Common.{◌≡◌, ℕ, ◌<◌, ◌≤◌, refl, sym, subst, inl, arith}
use Rattle.fd_language.specs.declared.TheConstants.{INFINITY}
use Rattle.branch_state.specs.States as branch
use Rattle.branch_state.specs.States.{IsSameBelow}
use Rattle.wam_code.specs.declared.instruction.Code.{Code}
use Rattle.wam_code.specs.declared.instruction.Code.TheVariants.{GetStructure}
use Rattle.wam_code.specs.Area.{Area, Holds}
use Rattle.code_areas.specs.Areas.{Contents}
use Rattle.code_meaning.specs.ClauseChoices.{IsFirst}
use Rattle.code_safety.specs.declared.instruction_outcomes.Went.{Went}
use Rattle.code_safety.specs.declared.instruction_outcomes.Went.TheVariants.{On, Back}
use Rattle.code_safety.specs.Machine.{IsSameBehind}
use Rattle.code_safety.specs.Safety.{IsSafe, IsSafeThen}
use Rattle.code_safety.specs.RemainingEvents.{KeepsRunning}
use Rattle.code_safety.specs.RepresentedBranch.{KeepsStanding}
use Rattle.code_safety.specs.Queries.{EndsIn, KeepsQuery, KeepsQueryThen}
use Rattle.code_safety.specs.Work.{LeadsOn, work_at}
use Rattle.code_safety.proofs.Lemmas.{ends_on, kept_runs, kept_falls}
use Rattle.term_instructions.specs.Pairs.{IsPairRead}
use Rattle.code_machine.specs.Steps.{Moves}

pub same_branch : (s : branch.State) → IsSameBelow s s
same_branch s = record { atoms = refl; infinity = refl; heaps = refl; levels = refl }

pub same_areas : (c : Contents) → IsSameBehind c c
same_areas c = record { returns = refl; points = refl }

module _ (area : Area) (s : branch.State) (at : ℕ) (c : Contents) where
  -- A place of the same query with the same continuations keeps the query.
  leads_inside : (c' : Contents) → IsSameBehind c c' → (w : Went) → LeadsOn area at w → KeepsQueryThen area at c c' w
  leads_inside c' behind (On to) leads = λ number ends. subst (λ rs. EndsIn area number to rs) (sym behind.returns) (ends_on area at to leads.1 number c.returns ends)
  leads_inside c' behind Back leads = tt

  -- a term of a clause
  pub term_moves : s.infinity ≤ INFINITY → (i : Code) → IsFirst i → Holds area at i → (s' : branch.State) (c' : Contents) → IsSameBelow s s' → IsSameBehind c c'
      → (w : Went) → IsSafeThen area s' c' w → KeepsStanding area s at c s' c' w → LeadsOn area at w → Moves area s at c s' c' w
  term_moves small i first holds s' c' below behind w safe keep leads = record {
    safe = safe;
    moves = inl (record { below = below; points = behind.points; runs = kept_runs area s small at c i first holds s' c' below behind w keep; query = leads_inside c' behind w leads });
    falls = kept_falls area at c i holds c' behind w leads;
  }

-- A switch, which changes nothing, and what was read where it leads.
module _ (area : Area) (s : branch.State) (at : ℕ) (c : Contents) (to : ℕ) (safe : IsSafe area s to 0 c) (runs : KeepsRunning area s at c s to c)
    (falls : work_at area to c < work_at area at c) (query : KeepsQuery area at c to c) where
  -- nothing
  pub switch_moves : (c' : Contents) → c' ≡ c → Moves area s at c s c' (On to)
  switch_moves c' is = subst (λ a. Moves area s at c s a (On to)) (sym is) (record {
    safe = safe;
    moves = inl (record { below = same_branch s; points = refl; runs = runs; query = query });
    falls = falls;
  })

  -- a structure of two arguments
  pub switch_reads : (c' : Contents) (next : ℕ) → IsPairRead area s to c c' next → Moves area s at c s c' (On next)
  switch_reads c' next p =
      let reads = kept_runs area s safe.sound.greatest.1 to c (GetStructure p.name 2 1) tt p.asks s c' (same_branch s) p.behind (On next) p.stands in
      let less = kept_falls area to c (GetStructure p.name 2 1) p.asks c' p.behind (On next) p.leads in
      let inside = leads_inside area s to c c' p.behind (On next) p.leads in
      record {
        safe = p.safe;
        moves = inl (record {
          below = same_branch s;
          points = p.behind.points;
          runs = λ t ls f naming m. reads t ls f naming (runs t ls f naming m);
          query = λ number ends. inside number (query number ends);
        });
        falls = omega (arith, less, falls);
      }
