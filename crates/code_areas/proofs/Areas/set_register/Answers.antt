use Rattle.std.proofs.Common.{length, reverse, arith, vec_capacity}
use Rattle.code_areas.specs.AreaFields.{Stack}
use Rattle.code_areas.proofs.Fields.{more_stored}
use Rattle.code_areas.proofs.Areas.set_register.Goals as goal

pub invariant_of-self-2 : goal.invariant_of-self-2
invariant_of-self-2 c =
    let a = c.self.inside in
    let s : Stack = record { slots = a.slots.items; base = a.base; size = a.size; frames = a.frames.items; newest = a.newest } in
    more_stored a.held (length a.cells.items) (vec_capacity a.slots) a.floor c.in_ok-self-inside.field-0 (length c.put_cell.new.cells.items)
    (vec_capacity a.slots) a.saved.items s (reverse a.marks.items) c.self.invariant
    c.in_ok-self-inside.ensures.within c.put_cell.ensures.longer (omega arith)
