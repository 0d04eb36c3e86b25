use Rattle.std.proofs.Common.{[], length, take, reverse, ap, ◌∙◌, vec_capacity}
use Rattle.code_areas.specs.Areas.{Places, Contents}
use Rattle.code_areas.specs.AreaFields.{Stack, seen}
use Rattle.code_areas.proofs.Fields.{ended}
use Rattle.code_areas.proofs.Areas.deallocate.Goals as goal

pub returns : goal.returns
returns c =
    let a = c.self.inside in
    let s : Stack = record { slots = a.slots.items; base = a.base; size = a.size; frames = a.frames.items; newest = a.newest } in
    ap (λ (ys : Places). seen a.noted (take a.held a.cells.items) a.saved.items (record s { slots = ys; size = 0 }) (reverse a.marks.items)) c.truncate.ensures.items
    ∙ (ended a.noted a.held (length a.cells.items) (vec_capacity a.slots) a.floor (take a.held a.cells.items) a.saved.items s (reverse a.marks.items)
    c.self.invariant c.greater.result c.greater.ensures.second c.greater.ensures.first).1
    ∙ ap (λ (k : Contents). record k { slots = [] }) c.self.view_is
