use Rattle.std.proofs.Common.{◌≡◌, ◌-◌, ◌∷◌, [], ◌++◌, ◌∙◌, sym, ap, List, length, take, drop}
use Rattle.heap_cells.specs.declared.Cell.{Cell}
use Rattle.heap_cells.specs.declared.Variable.{Variable}
use Rattle.heap_cells.specs.declared.Structure.{Structure}
use Rattle.heap_cells.specs.declared.Saved.{Saved}
use Rattle.heap_cells.specs.Cells.{Heaps}
use Rattle.heap_cells.specs.HeapFields.{restored, heaps_of, AreSound}
use Rattle.heap_cells.proofs.Resetting.{newest_is, reset_sound, reset_back, reset_below}
use Rattle.heap_cells.proofs.HeapUndo.{trail_long, by_fields}
use Rattle.heap_cells.proofs.Heap.reset_to_mark.Goals as goal

pub restore-requires : goal.restore-requires
restore-requires c =
    let f = c.self.inside in
    let are = newest_is c.deref.result.now f.marks.items c.in-Some.m c.deref.ensures.value (sym c.last.ensures.value ∙ sym c.copied.ensures ∙ c.in-Some.is) in
    trail_long f.variables.items f.args.items f.structures.items f.trail.items f.marks.items (take (length f.marks.items - 1) f.marks.items) c.in-Some.m are c.self.invariant.stored

-- the marks, of which this is the newest
marks_are : (c : goal.After-truncate-in-Some-2) → c.self.inside.marks.items ≡ take (length c.self.inside.marks.items - 1) c.self.inside.marks.items ++ c.in-Some.m ∷ []
marks_are c = newest_is c.deref.result.now c.self.inside.marks.items c.in-Some.m c.deref.ensures.value (sym c.last.ensures.value ∙ sym c.copied.ensures ∙ c.in-Some.is)

-- what holds of the fields of the heap below holds of the fields that are left
by_left : (c : goal.After-truncate-in-Some-2) (F : List Variable → List Cell → List Structure → List Saved → Type 0)
    → F (take c.in-Some.m.variables (restored (drop c.in-Some.m.trail c.self.inside.trail.items) c.self.inside.variables.items))
    (take c.in-Some.m.args c.self.inside.args.items) (take c.in-Some.m.structures c.self.inside.structures.items)
    (take c.in-Some.m.trail c.self.inside.trail.items)
    → F c.truncate.new.self.items c.truncate-in-Some.new.self.items c.truncate-in-Some-2.new.self.items c.restore.new.trail.items
by_left c F =
    let f = c.self.inside in
    let m = c.in-Some.m in
    by_fields F c.truncate.new.self.items (take m.variables (restored (drop m.trail f.trail.items) f.variables.items)) c.truncate-in-Some.new.self.items (take m.args f.args.items)
    c.truncate-in-Some-2.new.self.items (take m.structures f.structures.items) c.restore.new.trail.items (take m.trail f.trail.items)
    (c.truncate.ensures.items ∙ ap (take m.variables) c.restore.ensures.variables) c.truncate-in-Some.ensures.items c.truncate-in-Some-2.ensures.items c.restore.ensures.trail

pub invariant_of-self : goal.invariant_of-self
invariant_of-self c =
    let f = c.self.inside in
    by_left c (λ vs args ss trail. AreSound vs args ss trail f.marks.items)
    (reset_sound f.variables.items f.args.items f.structures.items f.trail.items f.marks.items (take (length f.marks.items - 1) f.marks.items) c.in-Some.m (marks_are c) c.self.invariant)

pub returns-in-Some-clause-back : goal.returns-in-Some-clause-back
returns-in-Some-clause-back c =
    let f = c.self.inside in
    by_left c (λ vs args ss trail. c.args.self.now.below ≡ (heaps_of vs args ss trail f.marks.items).now ∷ drop 1 c.args.self.now.below)
    (reset_back f.variables.items f.args.items f.structures.items f.trail.items f.marks.items (take (length f.marks.items - 1) f.marks.items) c.in-Some.m (marks_are c) c.self.invariant
    c.args.self.now.below (ap (λ (h : Heaps). h.below) c.self.view_is))

pub returns-in-Some-clause-below : goal.returns-in-Some-clause-below
returns-in-Some-clause-below c =
    let f = c.self.inside in
    by_left c (λ vs args ss trail. (heaps_of vs args ss trail f.marks.items).below ≡ c.args.self.now.below)
    (reset_below f.variables.items f.args.items f.structures.items f.trail.items f.marks.items (take (length f.marks.items - 1) f.marks.items) c.in-Some.m (marks_are c) c.self.invariant
    ∙ ap (λ (h : Heaps). h.below) c.self.view_is)
