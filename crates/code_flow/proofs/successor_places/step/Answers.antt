use Rattle.std.proofs.Common.{rules, ◌≡◌, false}
use Rattle.wam_code.specs.Area.{area_of}
use Rattle.code_flow.specs.StateTransfer.{needs}
use Rattle.code_listing.specs.States.{state_of, states_of}
use Rattle.code_flow.proofs.Successors.{misses_needs, misses_room}
use Rattle.code_flow.proofs.successor_places.step.Goals as goal

pub returns-then-not-needs : goal.returns-then-not-needs
returns-then-not-needs c =
    let a = area_of c.args.parts.now in
    let not_met : needs a.entries c.args.code c.in_ok-handed.handed ≡ false = search rules in
    misses_needs a (states_of c.args.states.now) c.args.at c.args.code (state_of c.args.state.now) c.in_ok-handed.handed c.in_ok-handed.ensures not_met

pub returns-then-makes_too_much : goal.returns-then-makes_too_much
returns-then-makes_too_much c =
    misses_room (area_of c.args.parts.now) (states_of c.args.states.now) c.args.at c.args.code (state_of c.args.state.now)
    (c.makes_too_much.ensures.goes_on c.if-makes_too_much.true) (c.makes_too_much.ensures.next c.if-makes_too_much.true)
