use Rattle.std.proofs.Common.{◌≡◌, List, [], ◌∷◌, ◌++◌, length, take, reverse, ap, sym, subst, ◌∙◌, arith, length-take, vec_capacity}
use Rattle.std.proofs.lemmas.List.{reverse-append}
use Rattle.code_areas.specs.declared.Mark.{Mark}
use Rattle.code_areas.specs.Areas.{Places, Contents}
use Rattle.code_areas.specs.AreaFields.{Stack, seen, AreStored}
use Rattle.code_areas.proofs.Fields.{push_made, more_stored}
use Rattle.code_areas.proofs.Areas.push_point.Goals as goal

pub invariant_of-self-in_err-make_room : goal.invariant_of-self-in_err-make_room
invariant_of-self-in_err-make_room c =
    let a = c.self.inside in
    let s : Stack = record { slots = a.slots.items; base = a.base; size = a.size; frames = a.frames.items; newest = a.newest } in
    subst (λ (ns : List Mark). AreStored a.held (length a.cells.items) (vec_capacity c.make_room.new.places) a.saved.items a.floor
    (record s { slots = c.make_room.new.places.items }) (reverse ns)) (sym c.reserve.ensures.items)
    (subst (λ (ys : Places). AreStored a.held (length a.cells.items) (vec_capacity c.make_room.new.places) a.saved.items a.floor (record s { slots = ys })
    (reverse a.marks.items)) (sym c.make_room.ensures.items)
    (more_stored a.held (length a.cells.items) (vec_capacity a.slots) a.floor a.held (length a.cells.items) (vec_capacity c.make_room.new.places) a.saved.items
    s (reverse a.marks.items) c.self.invariant c.self.invariant.held_in (omega arith) c.make_room.ensures.more))

pub invariant_of-self-in_err-make_room-2 : goal.invariant_of-self-in_err-make_room-2
invariant_of-self-in_err-make_room-2 c =
    let a = c.self.inside in
    let s : Stack = record { slots = a.slots.items; base = a.base; size = a.size; frames = a.frames.items; newest = a.newest } in
    subst (λ (xs : Places). AreStored a.held (length a.cells.items) (vec_capacity c.make_room.new.places) xs a.floor
    (record s { slots = c.make_room.new.places.items }) (reverse c.reserve.new.self.items)) (sym c.make_room-2.ensures.items)
    (subst (λ (ns : List Mark). AreStored a.held (length a.cells.items) (vec_capacity c.make_room.new.places) a.saved.items a.floor
    (record s { slots = c.make_room.new.places.items }) (reverse ns)) (sym c.reserve.ensures.items)
    (subst (λ (ys : Places). AreStored a.held (length a.cells.items) (vec_capacity c.make_room.new.places) a.saved.items a.floor (record s { slots = ys })
    (reverse a.marks.items)) (sym c.make_room.ensures.items)
    (more_stored a.held (length a.cells.items) (vec_capacity a.slots) a.floor a.held (length a.cells.items) (vec_capacity c.make_room.new.places) a.saved.items
    s (reverse a.marks.items) c.self.invariant c.self.invariant.held_in (omega arith) c.make_room.ensures.more)))

pub invariant_of-self-2 : goal.invariant_of-self-2
invariant_of-self-2 c =
    let a = c.self.inside in
    let s : Stack = record { slots = a.slots.items; base = a.base; size = a.size; frames = a.frames.items; newest = a.newest } in
    let m : Mark = record { place = c.args.place; first = c.len.result; base = a.base; size = a.size; slots = c.len-2.result; frames = c.len-3.result; newest = a.newest; noted = a.noted } in
    let ms : reverse c.push_reserved.new.self.items ≡ m ∷ reverse a.marks.items = ap reverse
    (c.push_reserved.ensures.items ∙ ap (λ (l : List Mark). l ++ m ∷ []) c.in_ok-reserve.ensures.items) ∙ reverse-append a.marks.items (m ∷ []) in
    subst (AreStored a.held (length a.cells.items) (vec_capacity c.make_room.new.places) c.put_first.new.places.items c.len-2.result (record s { slots = c.make_room.new.places.items })) (sym ms)
    (subst (λ (ys : Places). AreStored a.held (length a.cells.items) (vec_capacity c.make_room.new.places) c.put_first.new.places.items c.len-2.result
    (record s { slots = ys }) (m ∷ reverse a.marks.items)) (sym c.in_ok-make_room.ensures.items)
    (push_made a.noted a.held (length a.cells.items) (vec_capacity a.slots) a.floor (take a.held a.cells.items) a.saved.items s (reverse a.marks.items)
    c.self.invariant c.args.place (vec_capacity c.make_room.new.places) c.make_room.ensures.more
    (let u = c.in_ok-make_room.ensures.room in let i = ap length c.in_ok-make_room.ensures.items in let k = c.make_room.new.places.ok.0 in omega (arith, u, i, k))
    (let e = length-take a.held a.cells.items in omega (arith, e))
    c.len.result (omega (arith, c.len.ensures, a.saved.ok.0)) c.len-2.result (omega (arith, c.len-2.ensures, a.slots.ok.0)) c.len-3.result (omega (arith, c.len-3.ensures, a.frames.ok.0))
    c.put_first.new.places.items (c.put_first.ensures ∙ ap (λ (l : Places). c.make_room-2.new.places.items ++ take a.held l) c.deref.ensures.value
    ∙ ap (λ (l : Places). l ++ take a.held a.cells.items) c.in_ok-make_room-2.ensures.items)).0)

pub returns-clause-pushed : goal.returns-clause-pushed
returns-clause-pushed c =
    let a = c.self.inside in
    let s : Stack = record { slots = a.slots.items; base = a.base; size = a.size; frames = a.frames.items; newest = a.newest } in
    let m : Mark = record { place = c.args.place; first = c.len.result; base = a.base; size = a.size; slots = c.len-2.result; frames = c.len-3.result; newest = a.newest; noted = a.noted } in
    let ms : reverse c.push_reserved.new.self.items ≡ m ∷ reverse a.marks.items = ap reverse
    (c.push_reserved.ensures.items ∙ ap (λ (l : List Mark). l ++ m ∷ []) c.in_ok-reserve.ensures.items) ∙ reverse-append a.marks.items (m ∷ []) in
    ap (λ (ys : Places). seen a.noted (take a.held a.cells.items) c.put_first.new.places.items (record s { slots = ys }) (reverse c.push_reserved.new.self.items)) c.in_ok-make_room.ensures.items
    ∙ ap (seen a.noted (take a.held a.cells.items) c.put_first.new.places.items s) ms
    ∙ (push_made a.noted a.held (length a.cells.items) (vec_capacity a.slots) a.floor (take a.held a.cells.items) a.saved.items s (reverse a.marks.items)
    c.self.invariant c.args.place (vec_capacity c.make_room.new.places) c.make_room.ensures.more
    (let u = c.in_ok-make_room.ensures.room in let i = ap length c.in_ok-make_room.ensures.items in let k = c.make_room.new.places.ok.0 in omega (arith, u, i, k))
    (let e = length-take a.held a.cells.items in omega (arith, e))
    c.len.result (omega (arith, c.len.ensures, a.saved.ok.0)) c.len-2.result (omega (arith, c.len-2.ensures, a.slots.ok.0)) c.len-3.result (omega (arith, c.len-3.ensures, a.frames.ok.0))
    c.put_first.new.places.items (c.put_first.ensures ∙ ap (λ (l : Places). c.make_room-2.new.places.items ++ take a.held l) c.deref.ensures.value
    ∙ ap (λ (l : Places). l ++ take a.held a.cells.items) c.in_ok-make_room-2.ensures.items)).1
    ∙ ap (λ (k : Contents). record k { points = record { place = c.args.place; registers = k.registers; slots = k.slots; returns = k.returns; noted = k.noted } ∷ k.points }) c.self.view_is
