use Rattle.std.proofs.Common.{◌≡◌, ◌∙◌, true, false, get_or, sym, ap}
use Rattle.std.proofs.Math.ListN.{get_or-map}
use Rattle.wam_code.specs.Area as area
use Rattle.code_listing.specs.declared.states.Slot.TheVariants.{Unset}
use Rattle.code_listing.specs.States.{slot_of}
use Rattle.code_flow.proofs.state_transfer.are_same_slots.Goals as goal

pub returns-then-not-is_same_slot : goal.returns-then-not-is_same_slot
returns-then-not-is_same_slot c =
    let i = c.loop-index.index in
    let one = c.args.one.now in
    let two = c.args.two.now in
    let differs : slot_of (get_or one i Unset) ≡ slot_of (get_or two i Unset) → ⊥ = λ e. (let t : c.is_same_slot.result ≡ true = c.is_same_slot.ensures.1 e in
    let f : true ≡ false = sym t ∙ c.if-not-is_same_slot.true in absurd (cc (f))) in
    ((λ e. absurd (cc (e))), λ e. absurd (differs (sym (get_or-map slot_of one i Unset) ∙ ap (λ l. get_or l i area.Unset) e ∙ get_or-map slot_of two i Unset)))
