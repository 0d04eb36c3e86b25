use Rattle.std.proofs.Common.{◌∙◌, ap, take}
use Rattle.range_code.specs.Slots.{slot_needs}
use Rattle.range_code.specs.ValSlots.{val_slots}
use Rattle.range_code.specs.FoldedRanges.{folded_nodes}
use Rattle.range_code.specs.Instructions.{tests_of}
use Rattle.range_code.proofs.ConstantPlaces.{tests_are}
use Rattle.range_code.proofs.RangeCode.tests.Goals as goal

pub returns-clause-tests : goal.returns-clause-tests
returns-clause-tests c = ap (take c.self.inside.steps.tests) c.deref.ensures.value
    ∙ tests_are (slot_needs c.self.inside.range) (val_slots c.self.inside.range) (folded_nodes c.self.inside.range) c.self.inside.steps c.self.invariant.steps
    ∙ ap tests_of c.self.view_is
