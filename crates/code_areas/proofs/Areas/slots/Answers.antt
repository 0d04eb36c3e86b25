use Rattle.std.proofs.Common.{length, take, reverse, ap, sym, ◌∙◌, vec_capacity}
use Rattle.code_areas.specs.Areas.{Contents}
use Rattle.code_areas.specs.AreaFields.{Stack}
use Rattle.code_areas.proofs.Fields.{slots_many}
use Rattle.code_areas.proofs.Areas.slots.Goals as goal

pub returns : goal.returns
returns c =
    let a = c.self.inside in
    let s : Stack = record { slots = a.slots.items; base = a.base; size = a.size; frames = a.frames.items; newest = a.newest } in
    sym (slots_many a.noted a.held (length a.cells.items) (vec_capacity a.slots) a.floor (take a.held a.cells.items) a.saved.items s (reverse a.marks.items)
    c.self.invariant) ∙ ap (λ (k : Contents). length k.slots) c.self.view_is
