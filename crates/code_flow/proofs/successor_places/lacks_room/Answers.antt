use Rattle.std.proofs.Common.{rules, ◌≡◌, ◌∙◌, suc, ◌+◌, ◌<◌, true, map, replicate, length, Some, None, option_map, sym, ap, subst, arith}
use Rattle.std.specs.Prelude.{not}
use Rattle.std.proofs.lemmas.Bool.{eq-eqb}
use Rattle.std.proofs.lemmas.List.{length-map, length-replicate}
use Rattle.wam_code.specs.Area as area
use Rattle.wam_code.specs.Area.{State}
use Rattle.code_flow.specs.Successors.{CoversAt}
use Rattle.code_listing.specs.declared.states.PlaceState.{PlaceState}
use Rattle.code_listing.specs.States.{slot_of, state_of, states_of}
use Rattle.code_flow.proofs.Successors.{room_frame}
use Rattle.code_flow.proofs.successor_places.lacks_room.Goals as goal

pub returns-in-None : goal.returns-in-None
returns-in-None c = λ e t f g.
    let ss = c.args.states.now in
    let at = c.args.at in
    let p = c.index-states-at.result in
    let next : suc at ≡ at + 1 = omega arith in
    let low : at + 1 < length ss = omega arith in
    let same = room_frame ss (at + 1) p t low c.index-states-at.is (subst (λ k. CoversAt (states_of ss) t k) next g) in
    let none : Some (replicate c.args.count area.Unset) ≡ None = sym f ∙ same ∙ ap (λ (s : PlaceState). (state_of s).frame) c.index-states-at.is
    ∙ ap (option_map (λ v. map slot_of v.items)) c.in-None.is in
    absurd (cc (none))

pub returns-in-Some : goal.returns-in-Some
returns-in-Some c = λ e t f g.
    let ss = c.args.states.now in
    let at = c.args.at in
    let p = c.index-states-at.result in
    let xs = c.in-Some.slots.items in
    let next : suc at ≡ at + 1 = omega arith in
    let low : at + 1 < length ss = omega arith in
    let same = room_frame ss (at + 1) p t low c.index-states-at.is (subst (λ k. CoversAt (states_of ss) t k) next g) in
    let slots : Some (replicate c.args.count area.Unset) ≡ Some (map slot_of xs) = sym f ∙ same
    ∙ ap (λ (s : PlaceState). (state_of s).frame) c.index-states-at.is ∙ ap (option_map (λ v. map slot_of v.items)) c.in-Some.is in
    let lists : replicate c.args.count area.Unset ≡ map slot_of xs = cc (slots) in
    let long : c.len.result ≡ length xs = search rules in
    let sizes : c.len.result ≡ c.args.count = long ∙ sym (length-map xs slot_of) ∙ sym (ap length lists) ∙ length-replicate c.args.count area.Unset in
    let told : not true ≡ true = sym (ap not (eq-eqb c.len.result c.args.count sizes)) ∙ e in
    absurd (cc (told))
