use Rattle.std.proofs.Common.{◌∙◌, ap}
use Rattle.range_code.specs.Slots.{slot_needs, in_slots}
use Rattle.range_code.specs.ValSlots.{val_slots}
use Rattle.range_code.specs.FoldedRanges.{folded_nodes}
use Rattle.range_code.proofs.ConstantPlaces.{steps_are, steps_placed}
use Rattle.range_code.proofs.RangeCode.steps.Goals as goal

pub returns-clause-nodes : goal.returns-clause-nodes
returns-clause-nodes c = steps_are (slot_needs c.self.inside.range) (val_slots c.self.inside.range) (in_slots c.self.inside.range) c.self.inside.steps
    c.self.invariant.steps ∙ ap folded_nodes c.self.view_is

pub returns-clause-placed : goal.returns-clause-placed
returns-clause-placed c = steps_placed (slot_needs c.self.inside.range) (val_slots c.self.inside.range) (in_slots c.self.inside.range) c.self.inside.steps c.self.invariant.steps
