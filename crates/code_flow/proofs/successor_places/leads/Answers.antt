use Rattle.std.proofs.Common.{rules, ◌<◌, length, refl}
use Rattle.std.proofs.lemmas.Option.{slice_get_read}
use Rattle.wam_code.specs.Area.{Holds, area_of}
use Rattle.code_flow.proofs.Successors.{leads_at, no_state}
use Rattle.code_flow.proofs.successor_places.leads.Goals as goal

pub returns-in_ok-found : goal.returns-in_ok-found
returns-in_ok-found c =
    let a = area_of c.args.parts.now in
    let at = c.args.at in
    let code = c.index.result.now in
    let low : at < length a.code = c.requires.within in
    let holds : Holds a at code = slice_get_read a.code (length a.code) at code refl low c.index.ensures in
    leads_at a c.args.states.now at code c.index-states-at.result c.in_ok-found.found holds (search rules) c.index-states-at.is c.in_ok-found.ensures

pub returns-else-at-states : goal.returns-else-at-states
returns-else-at-states c = ((λ t i s h g. absurd (no_state c.args.states.now c.args.at s c.if-at-states.false g)), λ f. refl)
