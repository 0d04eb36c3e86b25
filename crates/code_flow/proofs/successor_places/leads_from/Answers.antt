use Rattle.std.proofs.Common.{Option, subst}
use Rattle.std.specs.Prelude.{MatchOption}
use Rattle.wam_code.specs.Area.{State, area_of}
use Rattle.code_flow.specs.Successors.{IsHandedOn, LeadsOn}
use Rattle.code_listing.specs.States.{state_of, states_of}
use Rattle.code_flow.proofs.Successors.{leads_on, leads_back, leads_unseen}
use Rattle.code_flow.proofs.successor_places.leads_from.Goals as goal

pub returns-in_ok-found-in-Some : goal.returns-in_ok-found-in-Some
returns-in_ok-found-in-Some c =
    let a = area_of c.args.parts.now in
    let ss = states_of c.args.states.now in
    let at = c.args.at in
    let i = c.args.code in
    let s = state_of c.args.state.now in
    let t = c.in-Some.handed in
    let w : IsHandedOn a.entries i s t = subst (λ (o : Option State). MatchOption o (¬ LeadsOn a ss at i s) (IsHandedOn a.entries i s)) c.in-Some.is c.in_ok-step.ensures in
    ((λ e. leads_on a ss at i s t w (c.in_ok-found-in-Some.ensures.0 e)), λ l. c.in_ok-found-in-Some.ensures.1 (leads_back a ss at i s t w l))

pub returns-then-makes_unseen : goal.returns-then-makes_unseen
returns-then-makes_unseen c =
    let t = c.if-makes_unseen.true in
    leads_unseen (area_of c.args.parts.now) c.args.states.now c.args.at c.args.code (state_of c.args.state.now) c.in_ok-is_found.is_found
    (c.makes_unseen.ensures.makes t) (c.makes_unseen.ensures.past t) c.in_ok-is_found.ensures
