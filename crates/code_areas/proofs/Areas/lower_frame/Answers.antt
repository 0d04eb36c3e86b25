use Rattle.std.proofs.Common.{◌≤◌, List, length, take, reverse, ap, subst, ◌∙◌, vec_capacity}
use Rattle.code_areas.specs.declared.Frame.{Frame}
use Rattle.code_areas.specs.Areas.{Places}
use Rattle.code_areas.specs.AreaFields.{Stack, seen, end_of}
use Rattle.code_areas.proofs.Fields.{moved_down}
use Rattle.code_areas.proofs.Areas.lower_frame.Goals as goal

pub returns-then-end-self : goal.returns-then-end-self
returns-then-end-self c =
    let a = c.self.inside in
    let s : Stack = record { slots = a.slots.items; base = a.base; size = a.size; frames = a.frames.items; newest = a.newest } in
    ap (λ (ys : Places). seen a.noted (take a.held a.cells.items) a.saved.items (record s { slots = ys; base = c.greater-end.result }) (reverse a.marks.items)) c.move_down.ensures.items
    ∙ (moved_down a.noted a.held (length a.cells.items) (vec_capacity a.slots) a.floor (take a.held a.cells.items) a.saved.items s (reverse a.marks.items)
    c.self.invariant c.greater-end.result c.greater-end.ensures.second
    (subst (λ n. n ≤ c.greater-end.result) (c.end_at.ensures ∙ ap (λ (fs : List Frame). end_of fs a.newest) c.deref.ensures.value) c.greater-end.ensures.first) c.if-end-self.true).1
    ∙ c.self.view_is
