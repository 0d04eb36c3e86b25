use Rattle.range_code.proofs.frame.is_some_open.Goals as goal

pub slot_domain-requires : goal.slot_domain-requires
slot_domain-requires g c = c.requires c.loop-slot.slot-index _ c.loop-slot-test.true
