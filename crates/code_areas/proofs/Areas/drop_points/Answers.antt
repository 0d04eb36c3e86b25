use Rattle.std.proofs.Common.{◌≡◌, ◌-◌, ◌<◌, length, take, drop, reverse, ap, sym, ◌∙◌, arith, vec_capacity}
use Rattle.std.proofs.lemmas.List.{length-reverse}
use Rattle.code_areas.specs.declared.Mark.{Mark}
use Rattle.code_areas.specs.Areas.{Contents}
use Rattle.code_areas.specs.AreaFields.{Stack, slots_kept}
use Rattle.code_areas.proofs.PointCount.{count}
use Rattle.code_areas.proofs.Fields.{points_dropped}
use Rattle.code_areas.proofs.Areas.drop_points.Goals as goal

pub returns-then-k-len : goal.returns-then-k-len
returns-then-k-len c =
    let a = c.self.inside in
    let n : length c.args.self.now.points ≡ length a.marks.items = ap (λ (k : Contents). length k.points) (sym c.self.view_is)
    ∙ count (reverse a.marks.items) a.saved.items a.slots.items a.frames.items ∙ length-reverse a.marks.items in
    let q = c.requires in
    let o = a.marks.ok.0 in
    let e = c.len.ensures in
    let f = c.if-k-len.true in
    let none : length c.args.self.now.points - c.args.k ≡ 0 = omega (arith, n, o, e, f) in
    ap (λ i. record c.args.self.now { points = drop i c.args.self.now.points }) (sym none)

pub index-requires : goal.index-requires
index-requires c =
    let a = c.self.inside in
    let n : length c.args.self.now.points ≡ length a.marks.items = ap (λ (k : Contents). length k.points) (sym c.self.view_is)
    ∙ count (reverse a.marks.items) a.saved.items a.slots.items a.frames.items ∙ length-reverse a.marks.items in
    let q = c.requires in
    let o = a.marks.ok.0 in
    let e = c.len.ensures in
    let f = c.if-k-len.false in
    omega (arith, n, q, o, e, f)

pub invariant_of-self : goal.invariant_of-self
invariant_of-self c =
    let a = c.self.inside in
    let s : Stack = record { slots = a.slots.items; base = a.base; size = a.size; frames = a.frames.items; newest = a.newest } in
    let n : length c.args.self.now.points ≡ length a.marks.items = ap (λ (k : Contents). length k.points) (sym c.self.view_is)
    ∙ count (reverse a.marks.items) a.saved.items a.slots.items a.frames.items ∙ length-reverse a.marks.items in
    let q = c.requires in
    let o = a.marks.ok.0 in
    let e = c.len.ensures in
    let f = c.if-k-len.false in
    let l : c.args.k < length a.marks.items = omega (arith, n, q, o, e, f) in
    (points_dropped a.noted a.held (length a.cells.items) (vec_capacity a.slots) (take a.held a.cells.items) a.saved.items s a.floor a.marks.items c.self.invariant c.args.k l c.index.result.now
    c.truncate.new.self.items (c.truncate.ensures.items ∙ ap (λ (m : Mark). take m.first a.saved.items) c.index.ensures) c.truncate-2.new.self.items c.truncate-2.ensures.items
    c.kept_slots-self-inside.result (c.kept_slots-self-inside.ensures ∙ ap (λ ms. slots_kept (reverse ms)) c.deref.ensures.value)).0

pub returns : goal.returns
returns c =
    let a = c.self.inside in
    let s : Stack = record { slots = a.slots.items; base = a.base; size = a.size; frames = a.frames.items; newest = a.newest } in
    let n : length c.args.self.now.points ≡ length a.marks.items = ap (λ (k : Contents). length k.points) (sym c.self.view_is)
    ∙ count (reverse a.marks.items) a.saved.items a.slots.items a.frames.items ∙ length-reverse a.marks.items in
    let q = c.requires in
    let o = a.marks.ok.0 in
    let e = c.len.ensures in
    let f = c.if-k-len.false in
    let l : c.args.k < length a.marks.items = omega (arith, n, q, o, e, f) in
    c.lower_frame.ensures ∙ c.give_back.ensures
    ∙ (points_dropped a.noted a.held (length a.cells.items) (vec_capacity a.slots) (take a.held a.cells.items) a.saved.items s a.floor a.marks.items c.self.invariant c.args.k l c.index.result.now
    c.truncate.new.self.items (c.truncate.ensures.items ∙ ap (λ (m : Mark). take m.first a.saved.items) c.index.ensures) c.truncate-2.new.self.items c.truncate-2.ensures.items
    c.kept_slots-self-inside.result (c.kept_slots-self-inside.ensures ∙ ap (λ ms. slots_kept (reverse ms)) c.deref.ensures.value)).1
    ∙ ap (λ (k : Contents). record k { points = drop (length a.marks.items - c.args.k) k.points }) c.self.view_is
    ∙ ap (λ i. record c.args.self.now { points = drop (i - c.args.k) c.args.self.now.points }) (sym n)
