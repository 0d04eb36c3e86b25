use Rattle.std.proofs.Common.{◌<◌, length, take, reverse, slice_set, ap, ◌∙◌, arith, vec_capacity}
use Rattle.code_areas.specs.Areas.{Contents}
use Rattle.code_areas.specs.AreaFields.{Stack}
use Rattle.code_areas.proofs.Fields.{slots_many, place_set}
use Rattle.code_areas.proofs.Areas.set_place.Goals as goal

pub invariant_of-self : goal.invariant_of-self
invariant_of-self c =
    let a = c.self.inside in
    let s : Stack = record { slots = a.slots.items; base = a.base; size = a.size; frames = a.frames.items; newest = a.newest } in
    let e = slots_many a.noted a.held (length a.cells.items) (vec_capacity a.slots) a.floor (take a.held a.cells.items) a.saved.items s (reverse a.marks.items) c.self.invariant in
    let v = ap (λ (k : Contents). length k.slots) c.self.view_is in
    let q = c.requires in
    let l : c.args.n < a.size = omega (arith, e, v, q) in
    (place_set a.noted a.held (length a.cells.items) (vec_capacity a.slots) a.floor (take a.held a.cells.items) a.saved.items s (reverse a.marks.items)
    c.self.invariant (vec_capacity c.put_place-self-inside.new.slots) c.put_place-self-inside.ensures.same c.put_place-self-inside.result
    c.put_place-self-inside.new.slots.items c.args.n c.args.place l c.put_place-self-inside.ensures.kept c.put_place-self-inside.ensures.copied).0

pub returns : goal.returns
returns c =
    let a = c.self.inside in
    let s : Stack = record { slots = a.slots.items; base = a.base; size = a.size; frames = a.frames.items; newest = a.newest } in
    let e = slots_many a.noted a.held (length a.cells.items) (vec_capacity a.slots) a.floor (take a.held a.cells.items) a.saved.items s (reverse a.marks.items) c.self.invariant in
    let v = ap (λ (k : Contents). length k.slots) c.self.view_is in
    let q = c.requires in
    let l : c.args.n < a.size = omega (arith, e, v, q) in
    (place_set a.noted a.held (length a.cells.items) (vec_capacity a.slots) a.floor (take a.held a.cells.items) a.saved.items s (reverse a.marks.items)
    c.self.invariant (vec_capacity c.put_place-self-inside.new.slots) c.put_place-self-inside.ensures.same c.put_place-self-inside.result
    c.put_place-self-inside.new.slots.items c.args.n c.args.place l c.put_place-self-inside.ensures.kept c.put_place-self-inside.ensures.copied).1
    ∙ ap (λ (k : Contents). record k { slots = slice_set k.slots c.args.n c.args.place }) c.self.view_is
