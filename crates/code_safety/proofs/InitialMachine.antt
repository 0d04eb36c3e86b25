-- A new machine at a query's code: it is safe there, and stands for the query's run.
use Rattle.std.proofs.Common.{◌≡◌, ℕ, List, [], ◌∷◌, length, Some, refl, sym, subst, arith}
use Rattle.fd_language.specs.declared.TheConstants.{INFINITY}
use Rattle.fd_model.specs.Goal.{start_of}
use Rattle.fd_model.specs.Run.{Run}
use Rattle.fd_model.specs.RunnablePrograms.{EachBelow, NumbersBelow, AreRunnable}
use Rattle.heap_cells.specs.declared.Cell.{Cell}
use Rattle.heap_cells.specs.Cells.{no_cells}
use Rattle.branch_state.specs.States.{IsSound, first_state}
use Rattle.wam_code.specs.Area.{State, Span, Area, HasQuery}
use Rattle.wam_code.specs.Tries.{IsQueryCode}
use Rattle.wam_code.specs.VerifiedCode.{IsVerifiedBy}
use Rattle.code_areas.specs.Areas.{cell_at, nothing}
use Rattle.code_meaning.proofs.Lemmas.{run_starts}
use Rattle.code_safety.specs.Machine.{registers_of}
use Rattle.code_safety.specs.Safety.{HasSlots, IsSafe}
use Rattle.code_safety.specs.RemainingEvents.{Task, Future, RunsAt}

none_set : (n : ℕ) (d : Cell) → cell_at [] n ≡ Some d → ⊥
none_set n d e = cc

-- With nothing in the areas and an empty branch it is safe to begin a query.
pub started_safe : (area : Area) (ss : List State) → IsVerifiedBy area ss → (atoms N : ℕ) → atoms ≡ length area.pool.names → IsSound (first_state atoms N)
    → (n : ℕ) (q : Span) → HasQuery area n q → IsSafe area (first_state atoms N) q.at 0 nothing
started_safe area ss v atoms N named sound n q there =
    let b = v.firsts n q there in
    let of = v.queries n q there in
    record {
      states = ss;
      verified = v;
      atoms = named;
      sound = sound;
      here = record {
        reached = record {
          state = b.0;
          has = b.1;
          owes = b.2.owed;
          fits = record {
            set = λ k i. (let w = (b.2.regs k).0 i in absurd (omega (arith, w.0, w.1)));
            frame = subst (λ o. HasSlots o []) (sym b.2.frame) refl;
          };
        };
        registers_own = λ k d e. absurd (none_set k d e);
        slots_own = λ k d e. absurd (none_set k d e);
        returns_own = tt;
        behind = (n, q, there, (omega arith, of.some));
      };
      points = (no_cells, refl);
    }

-- What is still to come for it is the query's run.
pub started_runs : (area : Area) (t : Task) (s : Span) → IsQueryCode area t.query s → EachBelow t.query.variables t.query.goals
    → NumbersBelow t.query.variables t.query.shown → AreRunnable INFINITY t.query.goals → (atoms N : ℕ) (f : Future)
    → Run INFINITY N t.program t.query f.budget f.answers (start_of t.query ∷ []) f.events f.reductions → RunsAt area t (first_state atoms N) s.at nothing [] f
started_runs area t s code below asked fit atoms N f run = run_starts INFINITY N area t.program t.query t.name no_cells refl s code below asked fit
    (registers_of nothing) refl f.budget f.answers f.events f.reductions run
