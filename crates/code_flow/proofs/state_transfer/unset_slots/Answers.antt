use Rattle.std.proofs.Common.{◌++◌, [], ◌∷◌, map, ap, ◌∙◌}
use Rattle.std.proofs.lemmas.List.{map-append, replicate_more}
use Rattle.wam_code.specs.Area as area
use Rattle.code_listing.specs.declared.states.Slot.TheVariants.{Unset}
use Rattle.code_listing.specs.States.{slot_of}
use Rattle.code_flow.proofs.state_transfer.unset_slots.Goals as goal

pub loop-done-preserved : goal.loop-done-preserved
loop-done-preserved c = ap (map slot_of) c.in_ok-push.ensures.items ∙ map-append slot_of c.loop-done.slots.items (Unset ∷ [])
    ∙ ap (λ l. l ++ area.Unset ∷ []) c.loop-done.invariant ∙ replicate_more c.loop-done.done area.Unset
