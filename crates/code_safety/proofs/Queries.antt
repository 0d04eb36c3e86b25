-- A machine stays in its query's code.
use Rattle.std.proofs.Common.{ℕ, suc, IsTrue, List, [], ◌∷◌, refl}
use Rattle.fd_language.specs.Family.{has}
use Rattle.branch_state.specs.States as branch
use Rattle.wam_code.specs.declared.instruction.Code.{Code}
use Rattle.wam_code.specs.Area.{State, Area, Holds}
use Rattle.wam_code.specs.VerifiedCode.{named, goes_on, Names, Falls, IsVerifiedBy}
use Rattle.wam_code.proofs.Lemmas.{falls_inside}
use Rattle.code_areas.specs.Areas.{Return, Contents}
use Rattle.code_safety.specs.Queries.{StaysInside, EndsIn, KeepsQuery}
use Rattle.code_safety.specs.Safety.{IsSafe}

-- What an instruction falls into is of the same query.
pub falls_stay : (area : Area) (ss : List State) → IsVerifiedBy area ss → (at to : ℕ) → Falls area at to → StaysInside area at to
falls_stay area ss v at to falls = λ number i. (i.0, i.1, falls_inside area ss i.0 (v.queries number i.0 i.1) at to i.2 falls)

-- So is what it names.
pub names_stay : (area : Area) (ss : List State) → IsVerifiedBy area ss → (at to : ℕ) → Names area at to → StaysInside area at to
names_stay area ss v at to names = λ number i. (i.0, i.1, (v.queries number i.0 i.1).stays at to i.2 names)

-- The place behind an instruction that goes on is of the same query,
pub next_inside : (area : Area) (s : branch.State) (at n : ℕ) (c : Contents) → IsSafe area s at n c → (i : Code) → Holds area at i → IsTrue (goes_on i) → StaysInside area at (suc at)
next_inside area s at n c safe i holds on = falls_stay area safe.states safe.verified at (suc at) (i, holds, on, refl)

-- and each place that an instruction names.
pub named_inside : (area : Area) (s : branch.State) (at n : ℕ) (c : Contents) → IsSafe area s at n c → (i : Code) → Holds area at i → (to : ℕ) → IsTrue (has (named area i) to) → StaysInside area at to
named_inside area s at n c safe i holds to names = names_stay area safe.states safe.verified at to (i, holds, names)

-- With the same continuations a machine ends in the same query, from a place of it.
pub ends_on : (area : Area) (at to : ℕ) → StaysInside area at to → (number : ℕ) (rs : List Return) → EndsIn area number at rs → EndsIn area number to rs
ends_on area at to stays number [] ends = stays number ends
ends_on area at to stays number (r ∷ rs) ends = ends

-- the same where nothing but the place is another one
pub query_kept : (area : Area) (at to : ℕ) (c : Contents) → StaysInside area at to → KeepsQuery area at c to c
query_kept area at to c stays = λ number ends. ends_on area at to stays number c.returns ends
