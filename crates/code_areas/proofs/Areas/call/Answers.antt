use Rattle.std.proofs.Common.{◌+◌, [], ◌∷◌, length, take, reverse, refl, ap, ◌∙◌, arith, vec_capacity}
use Rattle.code_areas.specs.Areas.{Contents}
use Rattle.code_areas.specs.AreaFields.{Stack}
use Rattle.code_areas.proofs.Fields.{call_made}
use Rattle.code_areas.proofs.Areas.call.Goals as goal

pub invariant_of-self-2 : goal.invariant_of-self-2
invariant_of-self-2 c =
    let a = c.self.inside in
    let s : Stack = record { slots = a.slots.items; base = a.base; size = a.size; frames = a.frames.items; newest = a.newest } in
    (call_made a.noted a.held (length a.cells.items) (vec_capacity a.slots) a.floor (take a.held a.cells.items) a.saved.items s (reverse a.marks.items)
    c.self.invariant c.args.to (a.base + a.size) c.len-self-inside-2.result c.len-self-inside.result c.push.new.self.items
    refl c.in_ok-push.ensures.items (omega (arith, c.len-self-inside.ensures, c.push.new.self.ok.0)) (omega (arith, c.len-self-inside-2.ensures, a.slots.ok.0))).0

pub returns-clause-called : goal.returns-clause-called
returns-clause-called c =
    let a = c.self.inside in
    let s : Stack = record { slots = a.slots.items; base = a.base; size = a.size; frames = a.frames.items; newest = a.newest } in
    (call_made a.noted a.held (length a.cells.items) (vec_capacity a.slots) a.floor (take a.held a.cells.items) a.saved.items s (reverse a.marks.items)
    c.self.invariant c.args.to (a.base + a.size) c.len-self-inside-2.result c.len-self-inside.result c.push.new.self.items
    refl c.in_ok-push.ensures.items (omega (arith, c.len-self-inside.ensures, c.push.new.self.ok.0)) (omega (arith, c.len-self-inside-2.ensures, a.slots.ok.0))).1
    ∙ ap (λ (k : Contents). record k { slots = []; returns = record { to = c.args.to; slots = k.slots } ∷ k.returns }) c.self.view_is
