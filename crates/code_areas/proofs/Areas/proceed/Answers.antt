use Rattle.std.proofs.Common.{◌-◌, ◌<◌, ◌≤◌, length, take, reverse, ap, sym, ◌∙◌, subst, arith, vec_capacity}
use Rattle.code_areas.specs.Areas.{Places, Contents}
use Rattle.code_areas.specs.AreaFields.{Stack, AreStored, slots_of, returns_of, frames_kept}
use Rattle.code_areas.proofs.Fields.{some_newest, frame_read, return_made, more_stored}
use Rattle.code_areas.proofs.Areas.proceed.Goals as goal

pub invariant_of-self : goal.invariant_of-self
invariant_of-self c =
    let a = c.self.inside in
    let s : Stack = record { slots = a.slots.items; base = a.base; size = a.size; frames = a.frames.items; newest = a.newest } in
    subst (λ (ys : Places). AreStored a.held (length a.cells.items) (vec_capacity c.room_to_copy.new.slots) a.saved.items a.floor (record s { slots = ys })
    (reverse a.marks.items)) (sym c.room_to_copy.ensures.items)
    (more_stored a.held (length a.cells.items) (vec_capacity a.slots) a.floor a.held (length a.cells.items) (vec_capacity c.room_to_copy.new.slots)
    a.saved.items s (reverse a.marks.items) c.self.invariant c.self.invariant.held_in (omega arith) c.room_to_copy.ensures.more)

pub invariant_of-self-2 : goal.invariant_of-self-2
invariant_of-self-2 c =
    let a = c.self.inside in
    let s : Stack = record { slots = a.slots.items; base = a.base; size = a.size; frames = a.frames.items; newest = a.newest } in
    let is = some_newest a.slots.items a.frames.items a.newest (subst (λ (k : Contents). 0 < length k.returns) (sym c.self.view_is) c.requires) in
    let f = c.index-frame.result.now in
    let frame = frame_read a.noted a.held (length a.cells.items) (vec_capacity a.slots) a.floor (take a.held a.cells.items) a.saved.items s
    (reverse a.marks.items) c.self.invariant (a.newest - 1) is f c.index-frame.ensures in
    (return_made a.noted a.held (length a.cells.items) (vec_capacity a.slots) a.floor (take a.held a.cells.items) a.saved.items s (reverse a.marks.items)
    c.self.invariant (a.newest - 1) is (vec_capacity c.truncate-2.new.self) c.greater-2.result c.greater.result
    (let m = c.room_to_copy.ensures.more in let e = c.truncate-2.ensures.capacity in omega (arith, m, e)) f frame c.greater-2.ensures.second c.greater-2.ensures.first
    (subst (λ n. n ≤ c.greater.result) (c.kept_frames.ensures ∙ ap (λ ms. frames_kept (reverse ms)) c.deref.ensures.value) c.greater.ensures.second) c.greater.ensures.first
    (λ b. (let u = c.in_ok-room_to_copy.ensures.room b in let i = ap length c.in_ok-room_to_copy.ensures.items in let k = c.room_to_copy.new.slots.ok.0 in
    let e = c.truncate-2.ensures.capacity in omega (arith, u, i, k, e)))
    c.truncate-2.new.self.items (c.truncate-2.ensures.items ∙ ap (take c.greater-2.result) c.in_ok-room_to_copy.ensures.items) c.truncate.new.self.items c.truncate.ensures.items).0

pub returns-clause-returned : goal.returns-clause-returned
returns-clause-returned c =
    let a = c.self.inside in
    let s : Stack = record { slots = a.slots.items; base = a.base; size = a.size; frames = a.frames.items; newest = a.newest } in
    let is = some_newest a.slots.items a.frames.items a.newest (subst (λ (k : Contents). 0 < length k.returns) (sym c.self.view_is) c.requires) in
    let f = c.index-frame.result.now in
    let frame = frame_read a.noted a.held (length a.cells.items) (vec_capacity a.slots) a.floor (take a.held a.cells.items) a.saved.items s
    (reverse a.marks.items) c.self.invariant (a.newest - 1) is f c.index-frame.ensures in
    ap (λ (k : Contents). k.returns) (sym c.self.view_is)
    ∙ (return_made a.noted a.held (length a.cells.items) (vec_capacity a.slots) a.floor (take a.held a.cells.items) a.saved.items s (reverse a.marks.items)
    c.self.invariant (a.newest - 1) is (vec_capacity c.truncate-2.new.self) c.greater-2.result c.greater.result
    (let m = c.room_to_copy.ensures.more in let e = c.truncate-2.ensures.capacity in omega (arith, m, e)) f frame c.greater-2.ensures.second c.greater-2.ensures.first
    (subst (λ n. n ≤ c.greater.result) (c.kept_frames.ensures ∙ ap (λ ms. frames_kept (reverse ms)) c.deref.ensures.value) c.greater.ensures.second) c.greater.ensures.first
    (λ b. (let u = c.in_ok-room_to_copy.ensures.room b in let i = ap length c.in_ok-room_to_copy.ensures.items in let k = c.room_to_copy.new.slots.ok.0 in
    let e = c.truncate-2.ensures.capacity in omega (arith, u, i, k, e)))
    c.truncate-2.new.self.items (c.truncate-2.ensures.items ∙ ap (take c.greater-2.result) c.in_ok-room_to_copy.ensures.items) c.truncate.new.self.items c.truncate.ensures.items).2

pub returns-clause-same : goal.returns-clause-same
returns-clause-same c =
    let a = c.self.inside in
    let s : Stack = record { slots = a.slots.items; base = a.base; size = a.size; frames = a.frames.items; newest = a.newest } in
    let is = some_newest a.slots.items a.frames.items a.newest (subst (λ (k : Contents). 0 < length k.returns) (sym c.self.view_is) c.requires) in
    let f = c.index-frame.result.now in
    let frame = frame_read a.noted a.held (length a.cells.items) (vec_capacity a.slots) a.floor (take a.held a.cells.items) a.saved.items s
    (reverse a.marks.items) c.self.invariant (a.newest - 1) is f c.index-frame.ensures in
    let t : Stack = record { slots = c.truncate-2.new.self.items; base = f.start; size = f.end - f.start; frames = c.truncate.new.self.items; newest = f.behind } in
    (return_made a.noted a.held (length a.cells.items) (vec_capacity a.slots) a.floor (take a.held a.cells.items) a.saved.items s (reverse a.marks.items)
    c.self.invariant (a.newest - 1) is (vec_capacity c.truncate-2.new.self) c.greater-2.result c.greater.result
    (let m = c.room_to_copy.ensures.more in let e = c.truncate-2.ensures.capacity in omega (arith, m, e)) f frame c.greater-2.ensures.second c.greater-2.ensures.first
    (subst (λ n. n ≤ c.greater.result) (c.kept_frames.ensures ∙ ap (λ ms. frames_kept (reverse ms)) c.deref.ensures.value) c.greater.ensures.second) c.greater.ensures.first
    (λ b. (let u = c.in_ok-room_to_copy.ensures.room b in let i = ap length c.in_ok-room_to_copy.ensures.items in let k = c.room_to_copy.new.slots.ok.0 in
    let e = c.truncate-2.ensures.capacity in omega (arith, u, i, k, e)))
    c.truncate-2.new.self.items (c.truncate-2.ensures.items ∙ ap (take c.greater-2.result) c.in_ok-room_to_copy.ensures.items) c.truncate.new.self.items c.truncate.ensures.items).1
    ∙ ap (λ (k : Contents). record k { slots = slots_of t; returns = returns_of t.slots t.frames t.newest }) c.self.view_is
