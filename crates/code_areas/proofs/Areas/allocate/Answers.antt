use Rattle.std.proofs.Common.{◌++◌, length, take, reverse, replicate, ap, sym, subst, ◌∙◌, arith, vec_capacity}
use Rattle.std.proofs.lemmas.List.{length-replicate}
use Rattle.code_areas.specs.Areas.{Places, nothing_held, Contents}
use Rattle.code_areas.specs.AreaFields.{Stack, AreStored}
use Rattle.code_areas.proofs.Fields.{put_made, more_stored}
use Rattle.code_areas.proofs.Areas.allocate.Goals as goal

pub invariant_of-self : goal.invariant_of-self
invariant_of-self c =
    let a = c.self.inside in
    let s : Stack = record { slots = a.slots.items; base = a.base; size = a.size; frames = a.frames.items; newest = a.newest } in
    subst (λ (ys : Places). AreStored a.held (length a.cells.items) (vec_capacity c.make_room.new.places) a.saved.items a.floor (record s { slots = ys })
    (reverse a.marks.items)) (sym c.make_room.ensures.items)
    (more_stored a.held (length a.cells.items) (vec_capacity a.slots) a.floor a.held (length a.cells.items) (vec_capacity c.make_room.new.places) a.saved.items
    s (reverse a.marks.items) c.self.invariant c.self.invariant.held_in (omega arith) c.make_room.ensures.more)

pub invariant_of-self-2 : goal.invariant_of-self-2
invariant_of-self-2 c =
    let a = c.self.inside in
    let s : Stack = record { slots = a.slots.items; base = a.base; size = a.size; frames = a.frames.items; newest = a.newest } in
    (put_made a.noted a.held (length a.cells.items) (vec_capacity a.slots) a.floor (take a.held a.cells.items) a.saved.items s (reverse a.marks.items)
    c.self.invariant (vec_capacity c.put_unset.new.places)
    (let m = c.make_room.ensures.more in let e = c.put_unset.ensures.same in omega (arith, m, e))
    c.put_unset.new.places.items (replicate c.args.n nothing_held) (c.put_unset.ensures.items ∙ ap (λ (l : Places). l ++ replicate c.args.n nothing_held) c.in_ok-make_room.ensures.items)
    c.len-self-inside.result (let e = c.len-self-inside.ensures in let k = c.make_room.new.places.ok.0 in let i = ap length c.in_ok-make_room.ensures.items in
    omega (arith, e, k, i)) c.args.n (sym (length-replicate c.args.n nothing_held))).0

pub returns-clause-slots : goal.returns-clause-slots
returns-clause-slots c =
    let a = c.self.inside in
    let s : Stack = record { slots = a.slots.items; base = a.base; size = a.size; frames = a.frames.items; newest = a.newest } in
    (put_made a.noted a.held (length a.cells.items) (vec_capacity a.slots) a.floor (take a.held a.cells.items) a.saved.items s (reverse a.marks.items)
    c.self.invariant (vec_capacity c.put_unset.new.places)
    (let m = c.make_room.ensures.more in let e = c.put_unset.ensures.same in omega (arith, m, e))
    c.put_unset.new.places.items (replicate c.args.n nothing_held) (c.put_unset.ensures.items ∙ ap (λ (l : Places). l ++ replicate c.args.n nothing_held) c.in_ok-make_room.ensures.items)
    c.len-self-inside.result (let e = c.len-self-inside.ensures in let k = c.make_room.new.places.ok.0 in let i = ap length c.in_ok-make_room.ensures.items in
    omega (arith, e, k, i)) c.args.n (sym (length-replicate c.args.n nothing_held))).1
    ∙ ap (λ (k : Contents). record k { slots = replicate c.args.n nothing_held }) c.self.view_is
