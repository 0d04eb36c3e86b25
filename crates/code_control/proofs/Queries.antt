-- Where the machine goes on it is in its query's code still, or will be where all calls have returned.
use Rattle.std.proofs.Common.{◌≡◌, ℕ, suc, IsTrue, List, [], ◌∷◌, sym, subst, refl}
use Rattle.fd_language.specs.Family.{has}
use Rattle.branch_state.specs.States as branch
use Rattle.wam_code.specs.declared.instruction.Code.{Code}
use Rattle.wam_code.specs.declared.instruction.Code.TheVariants.{Call, Execute}
use Rattle.wam_code.specs.Area.{Area, Holds}
use Rattle.wam_code.specs.VerifiedCode.{named, goes_on}
use Rattle.wam_code.proofs.Lemmas.{executes_outside}
use Rattle.code_areas.specs.Areas.{Places, Return, Contents}
use Rattle.code_safety.specs.Queries.{EndsIn, KeepsQuery}
use Rattle.code_safety.specs.Safety.{IsSafe}
use Rattle.code_safety.proofs.Lemmas.{next_inside, named_inside, query_kept}
use Rattle.code_control.proofs.Threads.{continued}

module _ (area : Area) (s : branch.State) (at : ℕ) (c : Contents) (safe : IsSafe area s at 0 c) where
  -- at the next place, and at one that is named
  pub next_query : (i : Code) → Holds area at i → IsTrue (goes_on i) → KeepsQuery area at c (suc at) c
  next_query i holds on = query_kept area at (suc at) c (next_inside area s at 0 c safe i holds on)

  pub named_query : (i : Code) → Holds area at i → (to : ℕ) → IsTrue (has (named area i) to) → KeepsQuery area at c to c
  named_query i holds to names = query_kept area at to c (named_inside area s at 0 c safe i holds to names)

  -- A call comes back to the next place.
  pub call_query : (n : ℕ) → Holds area at (Call n) → (to : ℕ) (registers : Places)
      → KeepsQuery area at c to (record c { registers = registers; slots = []; returns = record { to = suc at; slots = c.slots } ∷ c.returns })
  call_query n holds to registers = next_query (Call n) holds refl

  -- The last call of a clause comes back where the clause would.
  pub execute_query : (n : ℕ) → Holds area at (Execute n) → (to : ℕ) (registers : Places) → KeepsQuery area at c to (record c { registers = registers })
  execute_query n holds to registers = λ number ends. (
      let k = continued area s at c safe c.returns safe.here.behind (executes_outside area safe.states safe.verified at n holds) in
      subst (λ rs. EndsIn area number to rs) (sym k.2) (subst (λ rs. EndsIn area number at rs) k.2 ends))

-- The end of a clause is where its continuation is.
pub proceed_query : (area : Area) (at : ℕ) (c : Contents) (r : Return) (later : List Return) → c.returns ≡ r ∷ later → KeepsQuery area at c r.to (record c { slots = r.slots; returns = later })
proceed_query area at c r later is = λ number ends. subst (λ rs. EndsIn area number at rs) is ends
