use Rattle.std.proofs.Common.{rules, ◌≡◌, ◌∙◌}
use Rattle.wam_code.specs.Area.{area_of}
use Rattle.code_listing.specs.States.{state_of}
use Rattle.code_flow.specs.StateTransfer.{needs}
use Rattle.code_flow.proofs.Congruence.{needs_same}
use Rattle.code_flow.proofs.successor_places.finds.Goals as goal

pub returns : goal.returns
returns c =
    let a = area_of c.args.parts.now in
    let h = c.in_ok-handed.handed in
    let e : c.needs.result ≡ needs a.entries c.args.code h = search rules in
    e ∙ needs_same h (state_of c.args.state.now) c.in_ok-handed.ensures a.entries c.args.code
