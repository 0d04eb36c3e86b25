use Rattle.std.proofs.Common.{ℕ, Option, subst}
use Rattle.std.specs.Prelude.{MatchOption}
use Rattle.wam_code.specs.Area.{area_of}
use Rattle.code_listing.specs.States.{states_of}
use Rattle.code_flow.specs.PlaceConditions.{FitsAt, IsFirstFailing}
use Rattle.code_flow.proofs.Lemmas.{fits_verified}
use Rattle.code_text.proofs.verification.verify.Goals as goal

pub returns-in-None : goal.returns-in-None
returns-in-None c =
    let a = area_of c.args.parts.now in
    let ss = states_of c.args.states.now in
    record { ok = fits_verified a ss (subst (λ (o : Option ℕ). MatchOption o ((at : ℕ) → FitsAt a ss at) (IsFirstFailing a ss)) c.in-None.is c.in-Ok.ensures); fault = tt }

pub returns-in-Some : goal.returns-in-Some
returns-in-Some c =
    let a = area_of c.args.parts.now in
    let ss = states_of c.args.states.now in
    record { ok = tt; fault = subst (λ (o : Option ℕ). MatchOption o ((at : ℕ) → FitsAt a ss at) (IsFirstFailing a ss)) c.in-Some.is c.in-Ok.ensures }
