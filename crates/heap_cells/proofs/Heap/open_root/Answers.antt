use Rattle.std.proofs.Common.{◌≡◌, ◌∙◌, sym, ap, arith}
use Rattle.heap_cells.specs.declared.Cell.TheVariants as cell
use Rattle.heap_cells.specs.Cells.{slot_at}
use Rattle.heap_cells.specs.HeapFields.{slot_of}
use Rattle.heap_cells.proofs.Fields.{slot_is, slots_there}
use Rattle.heap_cells.proofs.SeenCells.{never_open, not_free, number_of}
use Rattle.heap_cells.proofs.Heap.open_root.Goals as goal

pub returns-in_default-index : goal.returns-in_default-index
returns-in_default-index c =
    let r = c.in-Ref.ensures in
    let h = c.args.self.now in
    let l = slots_there c.self.inside h c.self.view_is in
    let e : slot_at h.now c.in-Ref.i ≡ slot_of c.index.result.now = slot_is c.self.inside h c.self.view_is c.in-Ref.i c.index.result.now c.index.result.now (omega (arith, r.own)) c.index.ensures in
    record {
      «open» = tt;
      none = λ _. never_open h.now r.valid c.args.c (cell.Ref c.in-Ref.i) r.same r.root
          (λ i is empty. not_free c.index.result.now c.in_default-index.not-Open c.in_default-index.not-Loose
          (sym e ∙ ap (slot_at h.now) (number_of c.in-Ref.i i is) ∙ empty));
      valid = r.valid;
    }

pub returns-in_default : goal.returns-in_default
returns-in_default c =
    let r = c.root.ensures in
    record {
      «open» = tt;
      none = λ _. never_open c.args.self.now.now r.valid c.args.c c.root.result r.same r.root (λ i is _. c.in_default.not-Ref i is);
      valid = r.valid;
    }
