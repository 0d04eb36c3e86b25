use Rattle.std.proofs.Common.{◌≤◌, List, length, take, reverse, ap, subst, ◌∙◌, vec_capacity}
use Rattle.code_areas.specs.declared.Frame.{Frame}
use Rattle.code_areas.specs.Areas.{Places}
use Rattle.code_areas.specs.AreaFields.{Stack, seen, frames_kept}
use Rattle.code_areas.proofs.Fields.{given_back}
use Rattle.code_areas.proofs.Areas.give_back.Goals as goal

pub returns : goal.returns
returns c =
    let a = c.self.inside in
    let s : Stack = record { slots = a.slots.items; base = a.base; size = a.size; frames = a.frames.items; newest = a.newest } in
    ap (λ (ys : Places). seen a.noted (take a.held a.cells.items) a.saved.items (record s { slots = ys; frames = c.truncate.new.self.items }) (reverse a.marks.items)) c.truncate-2.ensures.items
    ∙ ap (λ (fs : List Frame). seen a.noted (take a.held a.cells.items) a.saved.items (record s { slots = take c.greater-2.result a.slots.items; frames = fs })
    (reverse a.marks.items)) c.truncate.ensures.items
    ∙ (given_back a.noted a.held (length a.cells.items) (vec_capacity a.slots) a.floor (take a.held a.cells.items) a.saved.items s (reverse a.marks.items)
    c.self.invariant c.greater-2.result c.greater.result c.greater-2.ensures.second c.greater-2.ensures.first
    (subst (λ n. n ≤ c.greater.result) (c.kept_frames.ensures ∙ ap (λ ms. frames_kept (reverse ms)) c.deref.ensures.value) c.greater.ensures.second) c.greater.ensures.first).1
    ∙ c.self.view_is
