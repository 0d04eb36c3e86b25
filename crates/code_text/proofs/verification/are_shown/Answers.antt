use Rattle.std.proofs.Common.{◌≡◌, ◌↔◌, List, IsTrue, map, option_map, ap, subst}
use Rattle.std.proofs.lemmas.Bool.{eqb-true, eq-eqb}
use Rattle.code_listing.specs.declared.states.Slot.{Slot}
use Rattle.code_listing.specs.States.{slot_of, state_of}
use Rattle.code_flow.specs.PlaceConditions.{AreShown}
use Rattle.code_text.specs.LocalConditions.{AreCells}
use Rattle.code_text.proofs.PlaceConditions.{shown_none, shown_some, test_is}
use Rattle.code_text.proofs.verification.are_shown.Goals as goal

pub returns-in-None : goal.returns-in-None
returns-in-None c =
    let s = state_of c.args.state.now in
    let n = c.args.count in
    test_is _ (n ≡ 0) (AreShown n s) ((λ t. eqb-true n 0 t), λ e. eq-eqb n 0 e) (shown_none s n (ap (option_map (λ v. map slot_of v.items)) c.in-None.is))

pub returns-in-Some : goal.returns-in-Some
returns-in-Some c =
    let s = state_of c.args.state.now in
    let n = c.args.count in
    let slots = c.in-Some.slots.items in
    let cells : IsTrue c.are_cells.result ↔ AreCells n (map slot_of slots) = subst (λ (l : List Slot). IsTrue c.are_cells.result ↔ AreCells n (map slot_of l))
    c.deref.ensures.value c.are_cells.ensures in
    test_is c.are_cells.result (AreCells n (map slot_of slots)) (AreShown n s) cells (shown_some s (map slot_of slots) n (ap (option_map (λ v. map slot_of v.items)) c.in-Some.is))
